use Rattle.std.proofs.Common.{◌≡◌, ◌++◌, inl, inr, rules}
use Rattle.age_slices.proofs.Pieces.{goes_on, shorter}
use Rattle.age_slices.proofs.reading.plain_of.Goals as goal

pub loop-next-preserved : goal.loop-next-preserved
loop-next-preserved g c =
    let grown : c.extend_from_slice.new.self.items ≡ c.loop-next.plain.items ++ c.in-Ok.next.0.items = search rules in
    elim c.in-Ok.ensures [
      | inl last ↦ absurd (search rules)
      | inr more ↦ goes_on g.S.Suite.opened c.args.key.now c.loop-next.number c.args.sealed.now c.loop-next.rest.now c.loop-next.plain.items
          c.in-Ok.next.0.items _ _ c.loop-next.invariant more.3 grown c.behind-rest.ensures
    ]

pub loop-next-smaller : goal.loop-next-smaller
loop-next-smaller g c =
    elim c.in-Ok.ensures [
      | inl last ↦ absurd (search rules)
      | inr more ↦ shorter c.loop-next.rest.now _ more.1 c.behind-rest.ensures
    ]

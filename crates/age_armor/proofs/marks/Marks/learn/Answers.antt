use Rattle.std.proofs.Common.{inl, inr, arith}
use Rattle.age_armor.proofs.marks.Marks.learn.Goals as goal

pub returns-clause-knows : goal.returns-clause-knows
returns-clause-knows c = λ steady text knows behind end lines within armored_pace.
    let before = c.args.self.now in
    let noted = c.note.ensures in
    let some = c.if-count-eq0.false in
    let known = noted.knows steady text knows behind (lines (omega (arith, some))) in
    record {
      each = known.each;
      end = known.end;
      met = λ n is. omega (arith, known.met n is, noted.furthest, c.max-self.ensures);
      passed = omega (arith, known.passed, noted.furthest, c.max-self.ensures);
      inside = λ now. omega (arith, known.inside now, within now, noted.furthest, c.max-self.ensures, c.saturating_add.ensures);
      near = λ now noting armored.
          let pace = armored_pace now armored (omega (arith, some)) in
          let so_far = knows.near now (noted.stops noting) armored in
          let still = known.near now noting armored in
          elim pace.2 [
            | inl full ↦ omega (
              arith,
              still,
              pace.1,
              noted.next noting full pace.0
                  (omega (arith, behind, so_far)),
              noted.furthest,
              c.max-self.ensures,
              c.saturating_add.ensures,
            )
            | inr zero ↦ omega (arith, still, pace.1, zero, noted.furthest, c.max-self.ensures, c.saturating_add.ensures)
          ];
    }

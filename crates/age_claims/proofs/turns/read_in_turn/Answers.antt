use Rattle.std.proofs.Common.{◌≡◌, ◌∙◌, arith, length, subst, sym}
use Rattle.age.specs.StreamReader.{payload_of}
use Rattle.age_claims.specs.Claims.{IsInOne}
use Rattle.age_claims.proofs.turns.read_in_turn.Goals as goal

pub turns-preserved : goal.turns-preserved
turns-preserved g c =
    let before = c.turns.invariant in
    let call = c.in-Ok-both.ensures in
    record {
      same_tells = call.tells ∙ before.same_tells;
      same_payload = λ told. call.payload (before.same_tells ∙ told) ∙ before.same_payload told;
      opened = λ told a b in_a in_b.
          let size = length (payload_of c.args.reader.now).bytes in
          let now = before.same_tells ∙ told in
          let first : length c.both-in-turns.new.first ≡ length c.turns.first = omega (arith, c.both-in-turns.auto.first) in
          let second : length c.both-in-turns.new.second ≡ length c.turns.second = omega (arith, c.both-in-turns.auto.second) in
          let was_a = subst (λ n. IsInOne size c.args.one n a) first in_a in
          let was_b = subst (λ n. IsInOne size c.args.other n b) second in_b in
          let (few, had_a, had_b) = before.opened told a b was_a was_b in
          let here_a = subst (λ p. IsInOne (length p.bytes) c.args.one (length c.both-in-turns.new.first) a) (sym (before.same_payload told)) in_a in
          let here_b =
          subst (λ p. IsInOne (length p.bytes) c.args.other (length c.both-in-turns.new.second) b) (sym (before.same_payload told)) in_b in
          let (more, has_a, has_b) = call.opens now a b here_a here_b in
          let none = call.none now a b here_a here_b had_a had_b in
          (omega (arith, none, few), has_a, has_b);
    }

pub returns : goal.returns
returns g c = c.turns.invariant.opened

use Rattle.std.proofs.Common.{◌∙◌, arith, length, subst, sym}
use Rattle.age.specs.StreamReader.{place_of}
use Rattle.age_claims.specs.Claims.{IsInOne}
use Rattle.age_claims.proofs.InOneChunk.{in_chunk}
use Rattle.age_claims.proofs.turns.both.Goals as goal

pub returns-in-Ok-read_at-clause-opens : goal.returns-in-Ok-read_at-clause-opens
returns-in-Ok-read_at-clause-opens g c = λ told a b in_a in_b.
    let reader = c.args.reader.now in
    let mid = c.read_at.new.self in
    let one = c.in-Ok.ensures in
    let two = c.in-Ok-read_at.ensures in
    let first = one.chunks told a (in_chunk _ _ _ _ (place_of reader) in_a) in
    let there = subst (λ p. IsInOne (length p.bytes) c.args.other (length c.read_at-in-Ok.new.buf) b) (sym (one.leaves.payload told)) in_b in
    let second = two.chunks (one.keeps.same.tells ∙ told) b (in_chunk _ _ _ _ (place_of mid) there) in
    (omega (arith, first.opens, second.opens), second.keeps_last a first.uses, second.has)

pub returns-in-Ok-read_at-clause-none : goal.returns-in-Ok-read_at-clause-none
returns-in-Ok-read_at-clause-none g c = λ told a b in_a in_b has_a has_b.
    let reader = c.args.reader.now in
    let mid = c.read_at.new.self in
    let one = c.in-Ok.ensures in
    let two = c.in-Ok-read_at.ensures in
    let first = one.chunks told a (in_chunk _ _ _ _ (place_of reader) in_a) in
    let there = subst (λ p. IsInOne (length p.bytes) c.args.other (length c.read_at-in-Ok.new.buf) b) (sym (one.leaves.payload told)) in_b in
    let second = two.chunks (one.keeps.same.tells ∙ told) b (in_chunk _ _ _ _ (place_of mid) there) in
    second.none (first.keeps has_a b has_b) ∙ first.none has_a

pub returns-in-Err-clause-none : goal.returns-in-Err-clause-none
returns-in-Err-clause-none g c = λ told a b in_a in_b has_a has_b.
    (c.in-Err.ensures.chunks told a (in_chunk _ _ _ _ (place_of c.args.reader.now) in_a)).none has_a

pub returns-in-Err-read_at-clause-none : goal.returns-in-Err-read_at-clause-none
returns-in-Err-read_at-clause-none g c = λ told a b in_a in_b has_a has_b.
    let reader = c.args.reader.now in
    let mid = c.read_at.new.self in
    let one = c.in-Ok.ensures in
    let first = one.chunks told a (in_chunk _ _ _ _ (place_of reader) in_a) in
    let there = subst (λ p. IsInOne (length p.bytes) c.args.other (length c.read_at-in-Ok.new.buf) b) (sym (one.leaves.payload told)) in_b in
    let second = c.in-Err-read_at.ensures.chunks (one.keeps.same.tells ∙ told) b (in_chunk _ _ _ _ (place_of mid) there) in
    second.none (first.keeps has_a b has_b) ∙ first.none has_a

use Rattle.std.proofs.Common.{◌+◌, ◌++◌, arith, subst, sym, take, drop}
use Rattle.std.proofs.lemmas.List.{take-append-drop, take_all}
use Rattle.age_identity.specs.Progress.{IsAt, RefusesLine}
use Rattle.age_identity.proofs.Steps.{byte_joined, still_short}
use Rattle.age_identity.proofs.parser.Parser.push_all.Goals as goal

pub returns-in-Err : goal.returns-in-Err
returns-in-Err g c = λ text short here.
    let bytes = c.args.bytes.now in
    let i = c.loop-byte.byte-index in
    let within = c.loop-byte-test.true in (
      take (i + 1) bytes,
      drop (i + 1) bytes,
      sym (take-append-drop (i + 1) bytes),
      subst (RefusesLine c.in-Err.e) (byte_joined text bytes i within)
          (c.in-Err.ensures (text ++ take i bytes) (still_short text bytes i (omega (arith, within)) short) (c.loop-byte.invariant text short here)),
    )

pub loop-byte-preserved : goal.loop-byte-preserved
loop-byte-preserved g c = λ text short here.
    let bytes = c.args.bytes.now in
    let i = c.loop-byte.byte-index in
    let within = c.loop-byte-test.true in
    subst (IsAt c.in-Ok.next) (byte_joined text bytes i within)
    (c.in-Ok.ensures (text ++ take i bytes) (still_short text bytes i (omega (arith, within)) short) (c.loop-byte.invariant text short here))

pub returns : goal.returns
returns g c = λ text short here.
    let bytes = c.args.bytes.now in
    let all = take_all c.loop-byte.byte-index bytes (omega (arith, c.loop-byte-test.false)) in
    subst (λ b. IsAt c.loop-byte.parser (text ++ b)) all (c.loop-byte.invariant text short here)

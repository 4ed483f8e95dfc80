use Rattle.std.proofs.Common.{◌+◌, ◌<◌, ◌^◌, ◌++◌, ℕ, List, length, take}
use Rattle.age_identity.specs.Progress.{IsAt}
use Rattle.age_identity.proofs.parser.Parser.push_all.Given as goal

abbrev pub invariant-loop-byte : goal.invariant-loop-byte
invariant-loop-byte g l = (text : List ℕ) → length text + length l.bytes < 2 ^ 63 → IsAt l.fn.self text
    → IsAt l.parser (text ++ take l.byte-index l.bytes)

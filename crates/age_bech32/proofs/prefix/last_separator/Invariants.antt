use Rattle.std.proofs.Common.{◌≢◌, length}
use Rattle.std.specs.List.{AllWithin}
use Rattle.age_bech32.proofs.prefix.last_separator.Given as goal

abbrev pub invariant-loop-i : goal.invariant-loop-i
invariant-loop-i l = AllWithin (λ byte. byte ≢ 49) l.text l.i (length l.text)

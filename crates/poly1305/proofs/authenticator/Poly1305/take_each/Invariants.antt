use Rattle.std.proofs.Common.{◌≡◌, ◌*◌, List, ℕ, ◌++◌, take}
use Rattle.poly1305.specs.Given.{WasGiven}
use Rattle.poly1305.proofs.authenticator.Poly1305.take_each.Given as goal

-- the blocks so far are given, and none is begun
abbrev pub invariant-each : goal.invariant-each
invariant-each l = record {
  given : (key text : List ℕ) → WasGiven l.initial.self key text → WasGiven l.self key (text ++ take (16 * l.i) l.blocks);
  unbegun : l.self.filled ≡ 0;
}

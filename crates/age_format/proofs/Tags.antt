-- Stanzas with another tag.
use Rattle.std.specs.Prelude.{◌≢◌, ℕ, Bool, true, false, not, List, IsTrue, bytes_eq}
use Rattle.std.proofs.lemmas.Slice.Eq.{bytes_eq-Decides}

not_so : (b : Bool) → IsTrue (not b) → b ≢ true
not_so true strange = absurd (Prim.cc)
not_so false strange = λ is. absurd (Prim.cc)

-- a tag that was compared and found to be another
pub other_tag : (given tag : List ℕ) → IsTrue (not (bytes_eq given tag)) → given ≢ tag
other_tag given tag strange same = not_so (bytes_eq given tag) strange ((bytes_eq-Decides given tag).1 same)

-- What the steps of a reader of armor say of it, before and after.
use Rattle.std.specs.Prelude.{IfOk, IsTrue, Result, [], false, ℕ, ◌≡◌, ◌⊎◌}
use Rattle.age_error.specs.declared.io.Error.{Error}
use Rattle.age_armor.specs.declared.reader.ArmoredReader.{ArmoredReader}
use Rattle.age_v1.specs.DeliveredArmor.{begins_armor}
use Rattle.age_armor.specs.Reader.{inner_of, shown_of, source_of, taken_of}
use Rattle.age_io.specs.declared.bufread.BufRead as buffered
use Rattle.age_io.specs.declared.traits.Read as readers

module _ {R : Type 0} {buf : buffered.Ghosts R} {read : readers.Ghosts R} where
  abbrev pub WhereSteady : ArmoredReader R buf read → Type 0 → Type 0
  WhereSteady r fact = IsTrue (read.tells (inner_of r)) → IsTrue (read.steady (inner_of r)) → fact

  -- of one whose text isn't armor
  abbrev pub WherePlain : ArmoredReader R buf read → Type 0 → Type 0
  WherePlain r fact = WhereSteady r (begins_armor (source_of r).bytes ≡ false → fact)

  -- ---- each step

  -- ---- of a read

  -- ---- to a mark, and on from there

  -- ---- to where a seek asks for

  -- the reader that gives the text stands at this place of it, and nothing is held
  pub record LandsBelow (r : ArmoredReader R buf read) (place : ℕ) : Type 0 where
    pub taken : taken_of r ≡ place
    pub shown : shown_of r ≡ []

  -- in a text that isn't armor it does after a success, unless nothing was done
  abbrev pub StandsBelow : ArmoredReader R buf read → ArmoredReader R buf read → Result ℕ Error → Type 0
  StandsBelow old new result = WherePlain old (IfOk result (λ n. (new ≡ old) ⊎ LandsBelow new n))

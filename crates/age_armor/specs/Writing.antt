-- What an `ArmoredWriter` has taken, and what it sent to its inner writer.
use Rattle.std.specs.Prelude.{Bool, IfOk, List, Result, [], drop, false, length, true, vec_len, ℕ, ◌*◌, ◌++◌, ◌/◌, ◌≡◌, ◌⊎◌}
use Rattle.std.specs.List.{flat_map}
use Rattle.age_base64.specs.Base64.{padded_columns}
use Rattle.age_base64.specs.Lines.{line}
use Rattle.age_error.specs.declared.io.Error.{Error}
use Rattle.age_error.specs.declared.io.Error.TheVariants.{Failed}
use Rattle.age_io.specs.Copying.{AppendsFront}
use Rattle.age_io.specs.Writing.{HandsOn}
use Rattle.age_v1.specs.Armor.{armor_lines, begin_marker, end_marker, text_of}
use Rattle.age_v1.specs.declared.format.Format.{Format}
use Rattle.age_v1.specs.declared.format.Format.TheVariants.{AsciiArmor, Binary}
use Rattle.age_v1.specs.ArmorFullLines.{full_lines}
use Rattle.age_armor.specs.declared.writer.ArmoredWriter.{ArmoredWriter}

abbrev pub in_armor : Format → Bool
in_armor Binary = false
in_armor AsciiArmor = true

-- it writes armor, and not the bytes themselves
abbrev pub is_armored : {W : Type 0} → ArmoredWriter W → Bool
is_armored writer = writer.armored

-- it refused earlier; in binary it never does
abbrev pub HasFailed : {W : Type 0} → ArmoredWriter W → Type 0
HasFailed writer = writer.failed ≡ true

-- it did not
abbrev pub IsGood : {W : Type 0} → ArmoredWriter W → Type 0
IsGood writer = writer.failed ≡ false

-- the writer that the text goes to
abbrev pub inner_of : {W : Type 0} → ArmoredWriter W → W
inner_of writer = writer.inner

-- how many bytes are held, since they don't fill a line yet
abbrev pub held_len : {W : Type 0} → ArmoredWriter W → ℕ
held_len writer = vec_len writer.held

-- what ends a text in armor or in binary, where so much is held
abbrev pub text_end : Bool → List ℕ → List ℕ
text_end true held = flat_map line (armor_lines (padded_columns held)) ++ line end_marker
text_end false held = []

-- what is left of the text of what it took
abbrev pub left_of : {W : Type 0} → ArmoredWriter W → List ℕ
left_of writer = text_end writer.armored writer.held.items

-- Why a writer that goes on refuses while it is given so many bytes: in armor as its inner writer does, whatever that is given and
-- with its interruptions tried again, and in binary as its inner writer does.
abbrev pub WriterRefuses : {W : Type 0} → (W → ℕ → Error → Type 0) → Bool → W → ℕ → Error → Type 0
WriterRefuses refuses true inner n e = HandsOn refuses inner e
WriterRefuses refuses false inner n e = refuses inner n e

-- why it refuses, which is `Failed` where it refused earlier
abbrev pub Refused : {W : Type 0} → (W → ℕ → Error → Type 0) → ArmoredWriter W → ℕ → Error → Type 0
Refused refuses writer n e = ((writer.failed ≡ true) × (e ≡ Failed))
    ⊎ ((writer.failed ≡ false) × WriterRefuses refuses writer.armored writer.inner n e)

module _ {W : Type 0} (inner_appended : W → List ℕ → W → Type 0) where
  -- what goes out before the first byte is taken
  abbrev pub SendsMarker : Bool → W → W → Type 0
  SendsMarker true first inner = inner_appended first (line begin_marker) inner
  SendsMarker false first inner = inner ≡ first

  -- a writer in this form that has taken nothing, over an inner writer that was in this state before
  pub record WasMade (format : Format) (first : W) (writer : ArmoredWriter W) : Type 0 where
    pub good : writer.failed ≡ false
    pub same_form : writer.armored ≡ in_armor format
    pub none_held : writer.held.items ≡ []
    pub begins : SendsMarker (in_armor format) first writer.inner

  -- in armor: of what was held and these bytes all full lines went out, and the rest is held
  pub record Took (before : ArmoredWriter W) (bytes : List ℕ) (after : ArmoredWriter W) : Type 0 where
    pub held : after.held.items ≡ drop (48 * (length (before.held.items ++ bytes) / 48)) (before.held.items ++ bytes)
    pub sent : inner_appended before.inner (full_lines (length (before.held.items ++ bytes) / 48) (before.held.items ++ bytes)) after.inner

  -- Whatever became of it: in armor a beginning of all full lines of what it held and of these bytes was appended to the inner writer.
  abbrev pub SendsLines : ArmoredWriter W → List ℕ → W → Type 0
  SendsLines before bytes after =
      AppendsFront inner_appended (full_lines (length (before.held.items ++ bytes) / 48) (before.held.items ++ bytes)) before.inner after

  -- in armor, or in binary a beginning of the bytes
  abbrev pub SendsFront : Bool → ArmoredWriter W → List ℕ → W → Type 0
  SendsFront true before bytes after = SendsLines before bytes after
  SendsFront false before bytes after = AppendsFront inner_appended bytes before.inner after

  -- in armor or in binary
  abbrev pub Takes : Bool → ArmoredWriter W → List ℕ → ArmoredWriter W → Type 0
  Takes true before bytes after = Took before bytes after
  Takes false before bytes after = inner_appended before.inner bytes after.inner

  -- It failed after it was given these bytes, those of the failing write among them: a beginning of what carries them went out.
  pub record FailedAfter (before : ArmoredWriter W) (bytes : List ℕ) (after : ArmoredWriter W) : Type 0 where
    pub good : before.failed ≡ false
    pub failed : after.failed ≡ true
    pub same_form : after.armored ≡ before.armored
    pub sent : SendsFront before.armored before bytes after.inner

  -- A failed writer takes nothing and stays as it is. A good one was given these bytes and failed, or took them and is good.
  abbrev pub Appended : ArmoredWriter W → List ℕ → ArmoredWriter W → Type 0
  Appended before bytes after = ((before.failed ≡ true) × (bytes ≡ []) × (after ≡ before))
      ⊎ FailedAfter before bytes after
      ⊎ ((before.failed ≡ false) × (after.failed ≡ false) × (after.armored ≡ before.armored) × Takes before.armored before bytes after)

-- where a writer was made in a form and took bytes since, its inner writer was given the text that carries them, from before
-- the writer was made
abbrev pub Finishes : {W : Type 0} → (W → List ℕ → W → Type 0) → (ArmoredWriter W → List ℕ → ArmoredWriter W → Type 0)
    → ArmoredWriter W → Result W Error → Type 0
Finishes {W} inner_appended appended writer result =
    (start : ArmoredWriter W) (format : Format) (bytes : List ℕ) (first : W) → WasMade inner_appended format first start
    → appended start bytes writer → IfOk result (inner_appended first (text_of format bytes))

-- Where a writer was made in a form and took bytes since, and was then given more: whatever it answered, its inner writer was given a
-- beginning of the text that carries both, from before the writer was made.
abbrev pub SendsText : {W : Type 0} → (W → List ℕ → W → Type 0) → (ArmoredWriter W → List ℕ → ArmoredWriter W → Type 0) → Type 0
SendsText {W} inner_appended appended =
    (start before : ArmoredWriter W) (format : Format) (taken bytes : List ℕ) (first after : W) → WasMade inner_appended format first start
    → appended start taken before → IsGood before → SendsFront inner_appended (is_armored before) before bytes after
    → AppendsFront inner_appended (text_of format (taken ++ bytes)) first after

-- Where a writer was made in a form and was given bytes since: whatever became of it, its inner writer has a beginning of the text that
-- carries these bytes, and of each that carries more after them, from before the writer was made.
abbrev pub SendsFrontOfText : {W : Type 0} → (W → List ℕ → W → Type 0) → (ArmoredWriter W → List ℕ → ArmoredWriter W → Type 0) → Type 0
SendsFrontOfText {W} inner_appended appended =
    (start after : ArmoredWriter W) (format : Format) (bytes more : List ℕ) (first : W) → WasMade inner_appended format first start
    → appended start bytes after → AppendsFront inner_appended (text_of format (bytes ++ more)) first (inner_of after)

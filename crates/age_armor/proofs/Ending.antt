-- The end of a text.
use Rattle.std.proofs.Common.{◌≡◌, ℕ, ◌*◌, ◌/◌, true, false, List, [], ◌++◌, length, drop, refl, ap, sym, subst, ◌∙◌, append_assoc, inl, inr}
use Rattle.std.proofs.lemmas.Bool.{true≢false}
use Rattle.std.specs.List.{flat_map}
use Rattle.age_base64.specs.Lines.{line}
use Rattle.age_base64.specs.Base64.{padded_columns}
use Rattle.age_io.specs.Copying.{AppendsFront}
use Rattle.age_io.specs.CopyingLemmas.{front-later}
use Rattle.age_v1.specs.Armor.{armor, armor_lines, begin_marker, end_marker, text_of}
use Rattle.age_v1.specs.declared.format.Format.{Format}
use Rattle.age_v1.specs.declared.format.Format.TheVariants.{Binary, AsciiArmor}
use Rattle.age_armor.specs.declared.writer.ArmoredWriter.{ArmoredWriter}
use Rattle.age_v1.specs.ArmorFullLines.{full_lines}
use Rattle.age_armor.specs.Writing.{Took, Takes, Appended, WasMade, in_armor, text_end}
use Rattle.age_v1.proofs.WrittenLines.{lines_parts}

-- what the end adds to full lines
abbrev pub end_of : List ℕ → List ℕ
end_of held = text_end true held

-- the begin marker, full lines and the end
pub armor_parts : (bytes held : List ℕ) (n : ℕ) → n ≡ length bytes / 48 → held ≡ drop (48 * n) bytes →
    (line begin_marker ++ full_lines n bytes) ++ end_of held ≡ armor bytes
unfolding armor
armor_parts bytes held n count is =
    let rest : List ℕ = flat_map line (armor_lines (padded_columns (drop (48 * n) bytes))) in
    ap (λ h. (line begin_marker ++ full_lines n bytes) ++ end_of h) is
    ∙ append_assoc (line begin_marker) (full_lines n bytes) (rest ++ line end_marker)
    ∙ ap (λ y. line begin_marker ++ y) (sym (append_assoc (full_lines n bytes) rest (line end_marker)))
    ∙ ap (λ y. line begin_marker ++ (y ++ line end_marker)) (sym (lines_parts n bytes count))

-- all of this text went out but what ends it
record IsLined {W : Type 0} (appended : W → List ℕ → W → Type 0) (first : W) (writer : ArmoredWriter W) (text : List ℕ) : Type 0 where
  out : List ℕ
  whole : out ++ end_of writer.held.items ≡ text
  given : appended first out writer.inner

module _ {W : Type 0} (appended : W → List ℕ → W → Type 0)
    (joins : (a b c : W) (x y : List ℕ) → appended a x b → appended b y c → appended a (x ++ y) c) where
  armor_lined : (start writer : ArmoredWriter W) (bytes : List ℕ) (first : W) → start.held.items ≡ [] →
      appended first (line begin_marker) start.inner → Took appended start bytes writer → IsLined appended first writer (armor bytes)
  armor_lined start writer bytes first none begun took =
      let all : start.held.items ++ bytes ≡ bytes = ap (λ (h : List ℕ). h ++ bytes) none in
      let n = length bytes / 48 in
      let held : writer.held.items ≡ drop (48 * n) bytes = rw all at took.held in
      let front : appended start.inner (full_lines n bytes) writer.inner = rw all at took.sent in
      record {
        out = line begin_marker ++ full_lines n bytes;
        whole = armor_parts bytes writer.held.items n refl held;
        given = joins first start.inner writer.inner (line begin_marker) (full_lines n bytes) begun front;
      }

  lined_by_form : (start writer : ArmoredWriter W) (format : Format) (bytes : List ℕ) (first : W) → WasMade appended format first start →
      in_armor format ≡ true → Takes appended (in_armor format) start bytes writer → IsLined appended first writer (text_of format bytes)
  lined_by_form start writer Binary bytes first made form took = absurd (true≢false (sym form))
  lined_by_form start writer AsciiArmor bytes first made form took = armor_lined start writer bytes first made.none_held made.begins took

  binary_by_form : (start writer : ArmoredWriter W) (format : Format) (bytes : List ℕ) (first : W) → WasMade appended format first start →
      in_armor format ≡ false → Takes appended (in_armor format) start bytes writer → appended first (text_of format bytes) writer.inner
  binary_by_form start writer Binary bytes first made form took = subst (λ w. appended w bytes writer.inner) made.begins took
  binary_by_form start writer AsciiArmor bytes first made form took = absurd (true≢false form)

  -- all but the end went out of a good writer in armor
  lined : (writer : ArmoredWriter W) → writer.failed ≡ false → writer.armored ≡ true →
      (start : ArmoredWriter W) (format : Format) (bytes : List ℕ) (first : W) → WasMade appended format first start →
      Appended appended start bytes writer → IsLined appended first writer (text_of format bytes)
  lined writer good armored start format bytes first made (inl stayed) = absurd (true≢false (sym stayed.0 ∙ made.good))
  lined writer good armored start format bytes first made (inr (inl broke)) = absurd (true≢false (sym broke.failed ∙ good))
  lined writer good armored start format bytes first made (inr (inr taken)) =
      lined_by_form start writer format bytes first made (sym made.same_form ∙ sym taken.2 ∙ armored)
      (subst (λ b. Takes appended b start bytes writer) made.same_form taken.3)

  -- the end makes the text whole
  pub finishes_armor : (writer : ArmoredWriter W) (inner : W) → writer.failed ≡ false → writer.armored ≡ true →
      appended writer.inner (end_of writer.held.items) inner →
      (start : ArmoredWriter W) (format : Format) (bytes : List ℕ) (first : W) → WasMade appended format first start →
      Appended appended start bytes writer → appended first (text_of format bytes) inner
  finishes_armor writer inner good armored sent start format bytes first made took =
      let before = lined writer good armored start format bytes first made took in
      subst (λ t. appended first t inner) before.whole (joins first writer.inner inner before.out (end_of writer.held.items) before.given sent)

  -- and a beginning of it makes a beginning of the text
  pub closes_armor : (writer : ArmoredWriter W) (inner : W) → writer.failed ≡ false → writer.armored ≡ true →
      AppendsFront appended (end_of writer.held.items) writer.inner inner →
      (start : ArmoredWriter W) (format : Format) (bytes : List ℕ) (first : W) → WasMade appended format first start →
      Appended appended start bytes writer → AppendsFront appended (text_of format bytes) first inner
  closes_armor writer inner good armored sent start format bytes first made took =
      let before = lined writer good armored start format bytes first made took in
      subst (λ t. AppendsFront appended t first inner) before.whole
      (front-later appended joins before.out (end_of writer.held.items) first writer.inner inner before.given sent)

  -- in binary it is whole
  pub finishes_binary : (writer : ArmoredWriter W) → writer.failed ≡ false → writer.armored ≡ false →
      (start : ArmoredWriter W) (format : Format) (bytes : List ℕ) (first : W) → WasMade appended format first start →
      Appended appended start bytes writer → appended first (text_of format bytes) writer.inner
  finishes_binary writer good plain start format bytes first made (inl stayed) = absurd (true≢false (sym stayed.0 ∙ made.good))
  finishes_binary writer good plain start format bytes first made (inr (inl broke)) = absurd (true≢false (sym broke.failed ∙ good))
  finishes_binary writer good plain start format bytes first made (inr (inr taken)) =
      binary_by_form start writer format bytes first made (sym made.same_form ∙ sym taken.2 ∙ plain)
      (subst (λ b. Takes appended b start bytes writer) made.same_form taken.3)

-- What a writer of armor had sent when it refused.
use Rattle.std.specs.Prelude.{◌≡◌, ℕ, ◌+◌, ◌-◌, ◌*◌, ◌/◌, Bool, true, false, List, [], ◌++◌, length, take, drop}
use Rattle.std.proofs.Common.{refl, sym, ap, ◌∙◌, inl, inr, arith, append_assoc, length-append, subst}
use Rattle.std.proofs.lemmas.Bool.{true≢false}
use Rattle.std.specs.List.{flat_map}
use Rattle.std.proofs.lemmas.List.{take-append-drop}
use Rattle.age_base64.specs.Lines.{line}
use Rattle.age_io.specs.Copying.{AppendsFront}
use Rattle.age_io.specs.CopyingLemmas.{front-all, front-later, front-more, front-nothing}
use Rattle.age_base64.specs.Base64.{padded_columns}
use Rattle.age_v1.specs.Armor.{armor, armor_lines, begin_marker, end_marker, text_of}
use Rattle.age_v1.specs.ArmorFullLines.{full_lines}
use Rattle.age_v1.specs.declared.format.Format.{Format}
use Rattle.age_v1.specs.declared.format.Format.TheVariants.{AsciiArmor, Binary}
use Rattle.age_v1.proofs.FullArmorLines.{full_lines-front, full_lines-both}
use Rattle.age_armor.specs.Writing.{Appended, SendsFront, SendsLines, Takes, Took, WasMade, in_armor}
use Rattle.age_armor.specs.WritingLemmas.{sends-after, sends-on}
use Rattle.age_armor.proofs.Ending.{armor_parts, end_of}
use Rattle.age_armor.specs.declared.writer.ArmoredWriter.{ArmoredWriter}

module _ {W : Type 0} (appended : W → List ℕ → W → Type 0) where
  -- a beginning of the begin marker's line is one of the armor of any bytes
  pub front-begun : (bytes : List ℕ) (a b : W) → AppendsFront appended (line begin_marker) a b → AppendsFront appended (armor bytes) a b
  unfolding armor
  front-begun bytes a b f = front-more appended (line begin_marker) (flat_map line (armor_lines (padded_columns bytes)) ++ line end_marker) a b f

  -- full lines of the first bytes are a beginning of those of more
  lines-more : (t y : List ℕ) (a b : W) → AppendsFront appended (full_lines (length t / 48) t) a b →
      AppendsFront appended (full_lines (length (t ++ y) / 48) (t ++ y)) a b
  lines-more t y a b f =
      let m = length t / 48 in
      let n = length (t ++ y) / 48 - m in
      let count : length (t ++ y) / 48 ≡ m + n = omega (arith, length-append t y) in
      let out : full_lines (length (t ++ y) / 48) (t ++ y) ≡ full_lines m t ++ full_lines n (drop (48 * m) (t ++ y))
      = ap (λ (k : ℕ). full_lines k (t ++ y)) count ∙ full_lines-both m n (t ++ y)
      ∙ ap (λ (l : List ℕ). l ++ full_lines n (drop (48 * m) (t ++ y))) (full_lines-front m t y (omega arith)) in
      rw out (front-more appended (full_lines m t) (full_lines n (drop (48 * m) (t ++ y))) a b f)

  -- nothing was sent of these bytes, by a call that appended nothing
  pub sends-nothing : (s : ArmoredWriter W) (bytes : List ℕ) (c : W) (f : Bool) → appended s.inner [] c → SendsFront appended f s bytes c
  sends-nothing s bytes c true out = front-nothing appended _ s.inner c out
  sends-nothing s bytes c false out = front-nothing appended bytes s.inner c out

  -- nothing was
  pub sends-none : ((w : W) → appended w [] w) → (s : ArmoredWriter W) (bytes : List ℕ) (f : Bool) → SendsFront appended f s bytes s.inner
  sends-none nothing s bytes f = sends-nothing s bytes s.inner f (nothing s.inner)

  -- it failed while it was given these bytes
  pub failed-given : (a b : ArmoredWriter W) (bytes : List ℕ) → a.failed ≡ false → b.failed ≡ true → b.armored ≡ a.armored →
      SendsFront appended a.armored a bytes b.inner → Appended appended a bytes b
  failed-given a b bytes good failed form sent = inr (inl (record { good = good; failed = failed; same_form = form; sent = sent }))

  -- all lines of what it took
  pub sends-taken : (a b : ArmoredWriter W) (bytes : List ℕ) → Took appended a bytes b → SendsLines appended a bytes b.inner
  sends-taken a b bytes took = front-all appended _ a.inner b.inner took.sent

  -- in either form
  taken-front : (f : Bool) (a b : ArmoredWriter W) (bytes : List ℕ) → Takes appended f a bytes b → SendsFront appended f a bytes b.inner
  taken-front true a b bytes took = sends-taken a b bytes took
  taken-front false a b bytes took = front-all appended bytes a.inner b.inner took

  -- a beginning of the lines of some of the bytes is one of all
  pub sends-more : (s : ArmoredWriter W) (x y : List ℕ) (c : W) → SendsLines appended s x c → SendsLines appended s (x ++ y) c
  sends-more s x y c f =
      subst (λ (z : List ℕ). AppendsFront appended (full_lines (length z / 48) z) s.inner c) (append_assoc s.held.items x y)
      (lines-more (s.held.items ++ x) y s.inner c f)

  -- the same of the first n bytes
  pub sends-part : (s : ArmoredWriter W) (n : ℕ) (bytes : List ℕ) (c : W) → SendsLines appended s (take n bytes) c → SendsLines appended s bytes c
  sends-part s n bytes c f = subst (λ (z : List ℕ). SendsLines appended s z c) (take-append-drop n bytes)
      (sends-more s (take n bytes) (drop n bytes) c f)

  -- in either form, what is sent of some bytes is a beginning for more
  sends-longer : (f : Bool) (s : ArmoredWriter W) (x y : List ℕ) (c : W) → SendsFront appended f s x c → SendsFront appended f s (x ++ y) c
  sends-longer true s x y c f = sends-more s x y c f
  sends-longer false s x y c f = front-more appended x y s.inner c f

  -- of a writer that holds nothing
  pub sends-fresh : (s : ArmoredWriter W) (n : ℕ) (bytes : List ℕ) (c : W) → s.held.items ≡ [] →
      AppendsFront appended (full_lines (length (take n bytes) / 48) (take n bytes)) s.inner c → SendsLines appended s bytes c
  sends-fresh s n bytes c none f =
      let t : s.held.items ++ take n bytes ≡ take n bytes = ap (λ (h : List ℕ). h ++ take n bytes) none in
      sends-part s n bytes c (subst (λ (z : List ℕ). AppendsFront appended (full_lines (length z / 48) z) s.inner c) (sym t) f)

  module _ (joins : (a b c : W) (x y : List ℕ) → appended a x b → appended b y c → appended a (x ++ y) c) where
    -- what was sent of all bytes, of which the first n were taken
    pub sends-rest : (a b : ArmoredWriter W) (c : W) (n : ℕ) (bytes : List ℕ) → Took appended a (take n bytes) b →
        SendsLines appended b (drop n bytes) c → SendsLines appended a bytes c
    sends-rest a b c n bytes first second =
        subst (λ (z : List ℕ). SendsLines appended a z c) (take-append-drop n bytes)
        (sends-on appended joins a b c (take n bytes) (drop n bytes) first second)

    -- from before the begin marker on
    armor-begun : (start : ArmoredWriter W) (bytes : List ℕ) (first after : W) → start.held.items ≡ [] →
        appended first (line begin_marker) start.inner → SendsLines appended start bytes after → AppendsFront appended (armor bytes) first after
    armor-begun start bytes first after none begun sends =
        let t : start.held.items ++ bytes ≡ bytes = ap (λ (h : List ℕ). h ++ bytes) none in
        let n = length bytes / 48 in
        let lines : AppendsFront appended (full_lines n bytes) start.inner after =
        subst (λ (z : List ℕ). AppendsFront appended (full_lines (length z / 48) z) start.inner after) t sends in
        let front = front-later appended joins (line begin_marker) (full_lines n bytes) first start.inner after begun lines in
        subst (λ (z : List ℕ). AppendsFront appended z first after) (armor_parts bytes (drop (48 * n) bytes) n refl refl)
        (front-more appended (line begin_marker ++ full_lines n bytes) (end_of (drop (48 * n) bytes)) first after front)

    text-front : (start : ArmoredWriter W) (format : Format) (bytes : List ℕ) (first after : W) → WasMade appended format first start →
        SendsFront appended (in_armor format) start bytes after → AppendsFront appended (text_of format bytes) first after
    text-front start AsciiArmor bytes first after made sends = armor-begun start bytes first after made.none_held made.begins sends
    text-front start Binary bytes first after made sends = subst (λ w. AppendsFront appended bytes w after) made.begins sends

    -- up to a refusal, and with it
    pub sends-text : (start before : ArmoredWriter W) (format : Format) (taken bytes : List ℕ) (first after : W)
        → WasMade appended format first start →
        Appended appended start taken before → before.failed ≡ false → SendsFront appended before.armored before bytes after →
        AppendsFront appended (text_of format (taken ++ bytes)) first after
    sends-text start before format taken bytes first after made (inl stayed) good sends = absurd (true≢false (sym stayed.0 ∙ made.good))
    sends-text start before format taken bytes first after made (inr (inl broke)) good sends = absurd (true≢false (sym broke.failed ∙ good))
    sends-text start before format taken bytes first after made (inr (inr took)) good sends =
        text-front start format (taken ++ bytes) first after made
        (sends-after appended joins (in_armor format) start before after taken bytes
        (subst (λ b. Takes appended b start taken before) made.same_form took.3)
        (subst (λ b. SendsFront appended b before bytes after) (took.2 ∙ made.same_form) sends))

    -- whatever became of it, of bytes that go on
    pub sends-front_of_text : (start after : ArmoredWriter W) (format : Format) (bytes more : List ℕ) (first : W) →
        WasMade appended format first start → Appended appended start bytes after →
        AppendsFront appended (text_of format (bytes ++ more)) first after.inner
    sends-front_of_text start after format bytes more first made (inl stayed) = absurd (true≢false (sym stayed.0 ∙ made.good))
    sends-front_of_text start after format bytes more first made (inr (inl broke)) =
        text-front start format (bytes ++ more) first after.inner made (sends-longer (in_armor format) start bytes more after.inner
        (subst (λ b. SendsFront appended b start bytes after.inner) made.same_form broke.sent))
    sends-front_of_text start after format bytes more first made (inr (inr took)) =
        text-front start format (bytes ++ more) first after.inner made (sends-longer (in_armor format) start bytes more after.inner
        (taken-front (in_armor format) start after bytes (subst (λ b. Takes appended b start bytes after) made.same_form took.3)))

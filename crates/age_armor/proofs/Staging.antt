-- The next bytes of armor.
use Rattle.std.proofs.Common.{◌≡◌, ◌≢◌, ℕ, suc, zero, ◌≤◌, ◌<◌, Bool, true, false, ◌||◌, List, [], ◌∷◌, ◌++◌, length, take, drop, refl, ap, sym, subst, arith, ◌∙◌, append_assoc, length-append, nat_lt, nat_eq, inl, inr, IsTrue, Result, Err}
use Rattle.std.specs.Prelude.{slice_index}
use Rattle.std.specs.List.{concat, starts_with}
use Rattle.std.proofs.lemmas.Bool.{cases_Bool, false_from_ne_true, le-ltb, lt-ltb, or_right, true≢false}
use Rattle.std.proofs.lemmas.List.{append-nil, take-append-le, drop-append-le, length-take-le}
use Rattle.age_io.specs.Stretch.{Stretch, IsCleanEnd, IsFault}
use Rattle.age_io.specs.Reading.{AddsNoReason, Delivers, IsQuiet, TriedAgain}
use Rattle.age_error.specs.declared.io.Error.{Error}
use Rattle.age_error.specs.declared.io.Error.TheVariants.{Armor, UnexpectedEof, OutOfMemory}
use Rattle.age_error.specs.declared.io.ArmoredReadError.{ArmoredReadError}
use Rattle.age_error.specs.declared.io.ArmoredReadError.TheVariants.{InvalidBeginMarker, NotWrappedAt64Chars}
use Rattle.age_base64.specs.Lines.{Lacks}
use Rattle.age_v1.specs.Armor.{begin_marker}
use Rattle.age_base64.specs.Base64.{padded_columns}
use Rattle.age_base64.proofs.PaddedColumns.{padded_columns-nil, Lacks_padded_columns, length-padded_columns}
use Rattle.age_v1.specs.ArmorLineVerdict.{LineVerdict, Refuses, Ends, Holds, verdict, is_short, line_columns, last_is, IsLineVerdict}
use Rattle.age_v1.specs.DeliveredArmor.{Outcome, Ending, Clean, Refused, InnerFault, ends_in, at_end, raw_lines, section, trailing, after_line, after_marker, text_delivers}
use Rattle.age_armor.specs.PrivateCounting.{TakesLine, IsFew, IsCutShort, GivesPiece, IsPiece}
use Rattle.age_armor.specs.PrivateShowing.{TakesFull}
use Rattle.age_armor.specs.Stages.{NamesEnding, ahead}
use Rattle.age_armor.specs.PrivateStages.{Advances, StopsWith, FindsForm}
use Rattle.age_v1.proofs.RawLines.{raw_lines_ended, columns_lf, last_is_end, full_not_short, not_short_full}
use Rattle.age_v1.proofs.DeliveredArmors.{length_line_columns, concat_raw}
use Rattle.age_v1.proofs.ArmorLineVerdicts.{one_verdict}
use Rattle.age_v1.proofs.CarriedDelivered.{good_line}
use Rattle.age_v1.proofs.ArmorShapes.{begins_back}
use Rattle.std.proofs.lemmas.Result.{IfOk-weaker, IfErr-weaker}
use Rattle.age_io.specs.declared.traits.Read.{Ghosts}
use Rattle.age_io.specs.declared.bufread.BufRead as buffered
use Rattle.age_armor.specs.declared.counted.Counted.{Counted}
use Rattle.age_armor.specs.declared.stages.Stage.{Stage}
use Rattle.age_armor.specs.declared.stages.Stage.TheVariants.{Binary}
use Rattle.age_armor.specs.declared.stages.Piece.{Piece}
use Rattle.age_armor.specs.Refusing.{OrEnd}
use Rattle.age_armor.proofs.Refusing.{end-asked, end-later}
use Rattle.age_armor.proofs.Taking.{quiet_after}

pub stops_of : (o : Outcome) (e : Error) (end : Ending) → o ≡ ends_in end → NamesEnding end e → StopsWith o e
stops_of o e end same named = record { nothing = ap (λ x. x.bytes) same; named = subst (λ x. NamesEnding x e) (sym (ap (λ x. x.ending) same)) named }

pub stops_end : (o : Outcome) (e : Error) → o ≡ ends_in (Refused e) → StopsWith o e
stops_end o e same = stops_of o e (Refused e) same refl

pub advances_none : (before after : Outcome) (bytes : List ℕ) → bytes ≡ [] → before ≡ after → Advances before bytes after
advances_none before after bytes none same = record { same = rw none same }

-- ---- detection

few_text : (text : List ℕ) (w : Bool) → length text < 36 → text_delivers text w ≡ ends_in (at_end w (Refused UnexpectedEof))
unfolding text_delivers
few_text text w few = rw (lt-ltb (length text) 36 few) refl

pub few_clean : (count : ℕ) (old : Stretch) → count ≤ 36 → IsFew count true old
    → text_delivers old.bytes old.ends_well ≡ ends_in (Refused UnexpectedEof)
few_clean count old fits few =
    few_text old.bytes old.ends_well (omega (arith, few.few)) ∙ ap (λ w. ends_in (at_end w (Refused UnexpectedEof))) few.end

pub few_fault : (count : ℕ) (old : Stretch) (e : Error) → count ≤ 36 → IsFew count false old → StopsWith (text_delivers old.bytes old.ends_well) e
few_fault count old e fits few =
    stops_of _ _ InnerFault (few_text old.bytes old.ends_well (omega (arith, few.few))
    ∙ ap (λ w. ends_in (at_end w (Refused UnexpectedEof))) few.end) tt

pub few_end : (front : List ℕ) (old mid : Stretch) → length front ≡ 35 → Delivers front old mid → IsCleanEnd mid → IsFew 36 true old
few_end front old mid size d clean =
    let whole = ap length (d.bytes ∙ ap (λ x. front ++ x) clean.bytes ∙ append-nil front) in
    record { few = omega (arith, whole, size); end = sym d.end ∙ clean.ends_well }

pub few_bad : (front : List ℕ) (old mid : Stretch) → length front ≡ 35 → Delivers front old mid → IsFault mid → IsFew 36 false old
few_bad front old mid size d fault =
    let whole = ap length (d.bytes ∙ ap (λ x. front ++ x) fault.bytes ∙ append-nil front) in
    record { few = omega (arith, whole, size); end = sym d.end ∙ fault.ends_badly }

long_text : (front : List ℕ) (old mid : Stretch) → length front ≡ 35 → Delivers front old mid → 0 < length mid.bytes
    → nat_lt (length old.bytes) 36 ≡ false
long_text front old mid size d some = le-ltb (length old.bytes) 36 (omega (arith, size, some, ap length d.bytes ∙ length-append front mid.bytes))

begins_same : (front : List ℕ) (old mid : Stretch) → length front ≡ 35 → Delivers front old mid
    → starts_with nat_eq old.bytes begin_marker ≡ starts_with nat_eq front begin_marker
begins_same front old mid size d =
    let same : take 34 old.bytes ≡ take 34 front = ap (take 34) d.bytes ∙ take-append-le 34 front mid.bytes (omega (arith, size)) in
    rw same refl

-- the front tells which of the two forms it is
pub finds_form : (front : List ℕ) (old mid : Stretch) (armored : Bool) → length front ≡ 35 → Delivers front old mid → 0 < length mid.bytes →
    starts_with nat_eq front begin_marker ≡ armored → FindsForm armored old.bytes
finds_form front old mid armored size d some is = record {
  long = omega (arith, size, some, ap length d.bytes ∙ length-append front mid.bytes);
  same = sym (begins_same front old mid size d ∙ is);
}

outcome-same : (x y : List ℕ) (v w : Bool) → x ≡ y → v ≡ w
    → Path Outcome (record { bytes = x; ending = at_end v Clean }) (record { bytes = y; ending = at_end w Clean })
outcome-same x y v w p q =
    let make : List ℕ → Bool → Outcome = λ bytes e. record { bytes = bytes; ending = at_end e Clean } in
    ap (λ z. make z v) p ∙ ap (λ z. make y z) q

pub detects_binary : (front : List ℕ) (old mid : Stretch) → length front ≡ 35 → Delivers front old mid → 0 < length mid.bytes →
    starts_with nat_eq front begin_marker ≡ false
    → Advances (text_delivers old.bytes old.ends_well) front (record { bytes = mid.bytes; ending = at_end mid.ends_well Clean })
unfolding text_delivers
detects_binary front old mid size d some other = record {
  same = rw (long_text front old mid size d some, begins_same front old mid size d, other) (outcome-same _ _ _ _ d.bytes (sym d.end));
}

last_one : (n : ℕ) (xs : List ℕ) → length xs ≡ suc n → drop n xs ≡ slice_index xs n ∷ []
last_one zero [] e = absurd (omega arith)
last_one zero (x ∷ []) e = refl
last_one zero (x ∷ y ∷ xs) e = absurd (omega arith)
last_one (suc n) [] e = absurd (omega arith)
last_one (suc n) (x ∷ xs) e = last_one n xs (omega arith)

detects_marker : (front : List ℕ) (old mid : Stretch) → length front ≡ 35 → Delivers front old mid → 0 < length mid.bytes →
    starts_with nat_eq front begin_marker ≡ true
    → text_delivers old.bytes old.ends_well ≡ after_marker (slice_index front 34 ∷ mid.bytes) mid.ends_well
unfolding text_delivers
detects_marker front old mid size d some begins =
    let after : drop 34 old.bytes ≡ slice_index front 34 ∷ mid.bytes =
    ap (drop 34) d.bytes ∙ drop-append-le 34 front mid.bytes (omega (arith, size)) ∙ ap (λ x. x ++ mid.bytes) (last_one 34 front size) in
    rw (long_text front old mid size d some, begins_same front old mid size d, begins, after, d.end) refl

pub detects_lf : (front : List ℕ) (old mid : Stretch) → length front ≡ 35 → Delivers front old mid → 0 < length mid.bytes →
    starts_with nat_eq front begin_marker ≡ true → slice_index front 34 ≡ 10
    → text_delivers old.bytes old.ends_well ≡ section false (raw_lines mid.bytes) mid.ends_well
detects_lf front old mid size d some begins lf = detects_marker front old mid size d some begins ∙ rw lf refl

pub detects_crlf : (front : List ℕ) (old mid new : Stretch) → length front ≡ 35 → Delivers front old mid → 0 < length mid.bytes →
    starts_with nat_eq front begin_marker ≡ true → slice_index front 34 ≡ 13 → Delivers (10 ∷ []) mid new
    → text_delivers old.bytes old.ends_well ≡ section false (raw_lines new.bytes) new.ends_well
detects_crlf front old mid new size d some begins cr next = detects_marker front old mid size d some begins ∙ rw (cr, next.bytes, next.end) refl

begins_other : (x y : ℕ) (xs ys : List ℕ) → x ≢ y → starts_with nat_eq (x ∷ xs) (y ∷ ys) ≡ false
begins_other x y xs ys other = false_from_ne_true _ (λ e. let same : x ≡ y = cc (begins_back (y ∷ ys) (x ∷ xs) e) in other same)

begins_other_next : (x b y : ℕ) (xs : List ℕ) → b ≢ y → starts_with nat_eq (x ∷ b ∷ xs) (13 ∷ y ∷ []) ≡ false
begins_other_next x b y xs other = false_from_ne_true _ (λ e. let same : b ≡ y = cc (begins_back (13 ∷ y ∷ []) (x ∷ b ∷ xs) e) in other same)

pub detects_bad : (front : List ℕ) (old mid : Stretch) → length front ≡ 35 → Delivers front old mid → 0 < length mid.bytes →
    starts_with nat_eq front begin_marker ≡ true → slice_index front 34 ≢ 10 → slice_index front 34 ≢ 13
    → text_delivers old.bytes old.ends_well ≡ ends_in (Refused (Armor InvalidBeginMarker))
detects_bad front old mid size d some begins no_lf no_cr =
    detects_marker front old mid size d some begins
    ∙ rw (begins_other (slice_index front 34) 10 mid.bytes [] no_lf, begins_other (slice_index front 34) 13 mid.bytes (10 ∷ []) no_cr) refl

pub detects_bad_next : (front : List ℕ) (old mid new : Stretch) (b : ℕ) → length front ≡ 35 → Delivers front old mid → 0 < length mid.bytes →
    starts_with nat_eq front begin_marker ≡ true → slice_index front 34 ≢ 10 → Delivers (b ∷ []) mid new → b ≢ 10
    → text_delivers old.bytes old.ends_well ≡ ends_in (Refused (Armor InvalidBeginMarker))
detects_bad_next front old mid new b size d some begins no_lf next other =
    detects_marker front old mid size d some begins
    ∙ rw (begins_other (slice_index front 34) 10 mid.bytes [] no_lf, next.bytes, begins_other_next (slice_index front 34) b 10 new.bytes other) refl

-- ---- a line

pub found_none : (before after : Outcome) (count : ℕ) (bytes : List ℕ) → Advances before (take count bytes) after → count ≡ 0 → before ≡ after
found_none before after count bytes on none = rw none at on.same

pub line_step : (s : Bool) (raw : List ℕ) (old mid : Stretch) → TakesLine raw old mid → 0 < length raw → section s (raw_lines old.bytes) old.ends_well
    ≡ after_line (verdict s raw) (section (is_short (line_columns raw)) (raw_lines mid.bytes) mid.ends_well) (trailing mid.bytes mid.ends_well)
line_step s raw old mid t some = rw (t.first some, t.whole some, ← t.end, concat_raw mid.bytes) refl

pub line_ends : (s : Bool) (raw : List ℕ) (old mid : Stretch) → TakesLine raw old mid → 0 < length raw → verdict s raw ≡ Ends
    → trailing mid.bytes mid.ends_well ≡ Clean →
    section s (raw_lines old.bytes) old.ends_well ≡ ends_in Clean
line_ends s raw old mid t some v clean = line_step s raw old mid t some ∙ rw (v, clean) refl

pub line_trails : (s : Bool) (raw : List ℕ) (old mid : Stretch) → TakesLine raw old mid → 0 < length raw → verdict s raw ≡ Ends →
    section s (raw_lines old.bytes) old.ends_well ≡ ends_in (trailing mid.bytes mid.ends_well)
line_trails s raw old mid t some v = line_step s raw old mid t some ∙ rw v refl

pub line_refuses : (s : Bool) (raw : List ℕ) (old mid : Stretch) (f : ArmoredReadError) → TakesLine raw old mid → 0 < length raw
    → verdict s raw ≡ Refuses f →
    section s (raw_lines old.bytes) old.ends_well ≡ ends_in (Refused (Armor f))
line_refuses s raw old mid f t some v = line_step s raw old mid t some ∙ rw v refl

pub line_holds : (s short : Bool) (raw b : List ℕ) (old mid : Stretch) → TakesLine raw old mid → 0 < length raw →
    verdict s raw ≡ Holds b → short ≡ is_short (line_columns raw) →
    Advances (section s (raw_lines old.bytes) old.ends_well) b (section short (raw_lines mid.bytes) mid.ends_well)
line_holds s short raw b old mid t some v is = record { same = line_step s raw old mid t some ∙ rw (v, is) refl }

pub holds_some : (s : Bool) (raw b : List ℕ) → verdict s raw ≡ Holds b → 0 < length b
holds_some s raw [] v =
    let h = subst (IsLineVerdict s raw) v (one_verdict s raw) in
    absurd (omega (arith, h.1, ap length h.4, ap length padded_columns-nil))
holds_some s raw (c ∷ b) v = omega arith

-- ---- a full line, taken whole

pub full_step : (bytes : List ℕ) (old new : Stretch) → TakesFull bytes old new →
    Advances (section false (raw_lines old.bytes) old.ends_well) bytes (section false (raw_lines new.bytes) new.ends_well)
full_step bytes old new t =
    let columns = padded_columns bytes in
    let feeds : Lacks 10 columns = Lacks_padded_columns 10 (omega arith) bytes t.each in
    let returns : Lacks 13 columns = Lacks_padded_columns 13 (omega arith) bytes t.each in
    let same : old.bytes ≡ columns ++ 10 ∷ new.bytes = t.delivered.bytes ∙ append_assoc columns (10 ∷ []) new.bytes in
    let rows : raw_lines old.bytes ≡ (columns ++ 10 ∷ []) ∷ raw_lines new.bytes = ap raw_lines same ∙ raw_lines_ended columns new.bytes feeds in
    let size = t.size in
    let holds : verdict false (columns ++ 10 ∷ []) ≡ Holds bytes =
    (good_line bytes (columns ++ 10 ∷ []) t.each (omega (arith, size)) (omega (arith, size)) (inl refl)).0 in
    let short : is_short (line_columns (columns ++ 10 ∷ [])) ≡ false = ap is_short (columns_lf columns returns) ∙ full_not_short bytes t.each size in
    let ended : (old.ends_well || last_is 10 (columns ++ 10 ∷ [])) ≡ true = or_right _ _ (last_is_end columns 10 10) in
    record { same = rw (rows, ended, holds, short, t.delivered.end) refl }

pub one_of : (xs : List ℕ) → length xs ≡ 1 → xs ≡ slice_index xs 0 ∷ []
one_of [] e = absurd (omega arith)
one_of (x ∷ []) e = refl
one_of (x ∷ y ∷ xs) e = absurd (omega (arith, e))

-- no line is left before the clean end
pub empty_line : (s : Bool) (raw : List ℕ) (old new : Stretch) → TakesLine raw old new → length raw ≡ 0
    → section s (raw_lines old.bytes) old.ends_well ≡ ends_in (Refused (Armor NotWrappedAt64Chars))
empty_line s raw old new t none =
    let clean = t.empty none in
    rw (clean.bytes, clean.ends_well) refl

-- a fault comes before the line is whole
pub cut_line : (s : Bool) (old : Stretch) (e : Error) → IsCutShort old → StopsWith (section s (raw_lines old.bytes) old.ends_well) e
cut_line s old e cut = stops_of _ _ InnerFault (cut s) tt

-- a fault comes before bytes of a binary text
pub no_bytes : (old : Stretch) (e : Error) → IsFault old → StopsWith (ahead Binary old) e
no_bytes old e fault = record { nothing = fault.bytes; named = rw fault.ends_badly tt }

-- a fault comes before the line
pub no_line : (s : Bool) (old : Stretch) (e : Error) → IsFault old → StopsWith (section s (raw_lines old.bytes) old.ends_well) e
no_line s old e fault = stops_of _ _ InnerFault (rw (fault.bytes, fault.ends_badly) refl) tt

held_small : (s : Bool) (raw b : List ℕ) → verdict s raw ≡ Holds b → length b ≤ length raw
held_small s raw b v =
    let h = subst (IsLineVerdict s raw) v (one_verdict s raw) in
    omega (arith, ap length h.4, length-padded_columns b, length_line_columns raw)

pub holds_count : (s : Bool) (raw bytes : List ℕ) (n : ℕ) → verdict s raw ≡ Holds (take n bytes) → length bytes ≡ 48 → n ≤ 48
    → (0 < n) × (n ≤ length raw)
holds_count s raw bytes n v size fits =
    let some = holds_some s raw (take n bytes) v in
    let small = held_small s raw (take n bytes) v in
    let all : length (take n bytes) ≡ n = length-take-le n bytes (omega (arith, size, fits)) in
    (omega (arith, some, all), omega (arith, small, all))

-- a line that isn't short stands for 48 bytes
pub held_full : (s : Bool) (raw bytes : List ℕ) (n : ℕ) → verdict s raw ≡ Holds (take n bytes) → length bytes ≡ 48 → n ≤ 48
    → is_short (line_columns raw) ≡ false → n ≡ 48
held_full s raw bytes n v size fits full =
    let is : IsLineVerdict s raw (Holds (take n bytes)) = subst (IsLineVerdict s raw) v (one_verdict s raw) in
    let most : length (padded_columns (take n bytes)) ≤ 64 = omega (arith, is.2, ap length is.4) in
    let all : length (take n bytes) ≡ 48 = not_short_full (take n bytes) most (subst (λ l. is_short l ≡ false) is.4 full) in
    omega (arith, all, length-take-le n bytes (omega (arith, size, fits)))

none_held : (raw : List ℕ) (v : LineVerdict) (next : Outcome) (end : Ending) → IsLineVerdict true raw v → (after_line v next end).bytes ≡ []
none_held raw (Refuses e) next end is = refl
none_held raw Ends next end is = refl
none_held raw (Holds b) next end is = absurd (true≢false is.0.2)

-- after a short line nothing comes
pub none_after_short : (ls : List (List ℕ)) (w : Bool) → (section true ls w).bytes ≡ []
none_after_short [] w = refl
none_after_short (raw ∷ more) w = elim (cases_Bool (w || last_is 10 raw)) [
  | inl e ↦ rw e (none_held raw (verdict true raw) (section (is_short (line_columns raw)) more w) (trailing (concat more) w) (one_verdict true raw))
  | inr e ↦ rw e refl
]

-- ---- what one call passes on from another

module _ {R : Type 0} {buf : buffered.Ghosts R} {read : Ghosts R} where
  -- ---- a refusal

  pub piece-none : (stage : Stage) (old : Counted R buf read) (e : Error) → IsPiece stage old (Err e)
  piece-none stage old e = record { fits = tt; full = tt; ended = tt; begun = tt; end = λ told. tt }

  pub gives-none : (stage : Stage) (old new : Counted R buf read) (found : List ℕ) (e : Error) →
      (IsTrue (read.tells old.inner) → e ≢ OutOfMemory → IsQuiet (read.faults old.inner) (read.faults new.inner)
      → StopsWith (ahead stage (read.rest old.inner)) e) →
      (IsTrue (read.tells old.inner) → OrEnd read old.inner (ahead stage (read.rest old.inner)) e) → GivesPiece stage old new found (Err e)
  gives-none stage old new found e cause why = record { taken = λ told. tt; bytes = λ told. tt; cause = cause; why = why }

  -- one of the reader that gives the text
  pub gives-asked : (stage : Stage) (old new : Counted R buf read) (found : List ℕ) (e : Error) →
      (IsTrue (read.tells old.inner) → e ≢ OutOfMemory → IsQuiet (read.faults old.inner) (read.faults new.inner)
      → StopsWith (ahead stage (read.rest old.inner)) e) →
      (e ≢ OutOfMemory → TriedAgain read.refuses old.inner e) → GivesPiece stage old new found (Err e)
  gives-asked stage old new found e cause why = gives-none stage old new found e cause (λ told. end-asked read old.inner _ e why)

  -- the text's own
  pub gives-end : (stage : Stage) (old new : Counted R buf read) (found : List ℕ) (e : Error) →
      (IsTrue (read.tells old.inner) → ahead stage (read.rest old.inner) ≡ ends_in (Refused e)) → GivesPiece stage old new found (Err e)
  gives-end stage old new found e same = gives-none stage old new found e (λ told other quiet. stops_end _ e (same told))
      (λ told. inr (inl (same told)))

  -- ---- a step that gave nothing, and then a call

  pub piece-later : (stage next : Stage) (old middle : Counted R buf read) (result : Result Piece Error) →
      (IsTrue (read.tells old.inner) → IsTrue (read.tells middle.inner)) →
      (IsTrue (read.tells old.inner) → ahead stage (read.rest old.inner) ≡ ahead next (read.rest middle.inner)) → IsPiece next middle result
      → IsPiece stage old result
  piece-later stage next old middle result tells same is = record {
    fits = is.fits;
    full = is.full;
    ended = is.ended;
    begun = is.begun;
    end = λ told. IfOk-weaker result _ _ (λ piece end none. same told ∙ end none) (is.end (tells told));
  }

  pub gives-later : (stage next : Stage) (old middle new : Counted R buf read) (found : List ℕ) (result : Result Piece Error) →
      (IsTrue (read.tells old.inner) → IsTrue (read.tells middle.inner)) →
      read.faults old.inner ≤ read.faults middle.inner → read.faults middle.inner ≤ read.faults new.inner
      → (IsTrue (read.tells old.inner) → old.taken ≤ middle.taken) →
      (IsTrue (read.tells old.inner) → ahead stage (read.rest old.inner) ≡ ahead next (read.rest middle.inner)) →
      AddsNoReason (TriedAgain read.refuses) old.inner middle.inner → GivesPiece next middle new found result → GivesPiece stage old new found result
  gives-later stage next old middle new found result tells first last more same narrows gives = record {
    taken = λ told. IfOk-weaker result _ _ (λ piece h. omega (arith, more told, h)) (gives.taken (tells told));
    bytes = λ told. IfOk-weaker result _ _ (λ piece is. record { same = same told ∙ is.same }) (gives.bytes (tells told));
    cause = λ told. IfErr-weaker result _ _
        (λ e stops other quiet. subst (λ o. StopsWith o e) (sym (same told)) (stops other (quiet_after _ _ _ first last quiet)))
        (gives.cause (tells told));
    why = λ told. IfErr-weaker result _ _ (λ e why. end-later read old.inner middle.inner _ _ e narrows (same told) why) (gives.why (tells told));
  }

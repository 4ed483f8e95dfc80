-- Lines that are taken from a reader.
use Rattle.std.proofs.Common.{◌≡◌, ℕ, suc, zero, ◌+◌, ◌≤◌, ◌<◌, Bool, true, false, List, [], ◌∷◌, ◌++◌, length, take, refl, ap, sym, subst, arith, ◌∙◌, append_assoc, length-append, inl, inr}
use Rattle.std.proofs.lemmas.Bool.{or_left, or_right, and_parts, true≢false, cases_Bool}
use Rattle.std.proofs.lemmas.List.{append-nil}
use Rattle.std.proofs.Math.Seq.{take-length}
use Rattle.std.specs.List.{list_all}
use Rattle.age_error.specs.declared.io.Error.TheVariants.{Armor}
use Rattle.age_error.specs.declared.io.ArmoredReadError.TheVariants.{TrailingGarbage}
use Rattle.age_io.specs.Stretch.{Stretch, IsCleanEnd, IsFault}
use Rattle.age_io.specs.Reading.{Delivers, IsQuiet}
use Rattle.age_base64.specs.Lines.{Lacks, line as ended}
use Rattle.age_base64.proofs.Lines.{Lacks-append}
use Rattle.age_v1.specs.ArmorLineVerdict.{last_is}
use Rattle.age_v1.specs.DeliveredArmor.{raw_lines, section, ends_in, InnerFault, Refused, is_space, trailing}
use Rattle.age_armor.specs.PrivateCounting.{TakesLine, IsCutShort, one_line_more}
use Rattle.age_armor.specs.PrivateShowing.{IsLineEnd, TakesRun}
use Rattle.age_armor.specs.declared.showing.Run.TheVariants.{Open, Ended}
use Rattle.age_v1.proofs.RawLines.{raw_lines_ended, raw_lines_last, last_lacks, last_is_end}

pub cut_short : (line : List ℕ) (old mid : Stretch) → Lacks 10 line → Delivers line old mid → IsFault mid → IsCutShort old
cut_short line old mid lacks d fault s =
    let bytes : old.bytes ≡ line = d.bytes ∙ ap (λ x. line ++ x) fault.bytes ∙ append-nil line in
    let end : old.ends_well ≡ false = sym d.end ∙ fault.ends_badly in
    rw (bytes, end) (go line lacks)
  where
    go : (line : List ℕ) → Lacks 10 line → section s (raw_lines line) false ≡ ends_in InnerFault
    go [] lacks = refl
    go (c ∷ line) lacks = rw (raw_lines_last c line lacks, last_lacks 10 (c ∷ line) lacks) refl

last_first : (line : List ℕ) → Lacks 10 line → 0 < length line → raw_lines line ≡ line ∷ []
last_first [] lacks some = absurd (omega arith)
last_first (c ∷ line) lacks some = raw_lines_last c line lacks

pub empty_nil : (line : List ℕ) → length line ≡ 0 → line ≡ []
empty_nil [] e = refl
empty_nil (c ∷ line) e = absurd (omega arith)

pub taken_end : (line : List ℕ) (old mid new : Stretch) → Lacks 10 line → Delivers line old mid → IsCleanEnd mid → new ≡ mid → TakesLine line old new
taken_end line old mid new lacks d clean same =
    let bytes : old.bytes ≡ line = d.bytes ∙ ap (λ x. line ++ x) clean.bytes ∙ append-nil line in
    let end : old.ends_well ≡ true = sym d.end ∙ clean.ends_well in
    let after : new.bytes ≡ [] = ap (λ s. s.bytes) same ∙ clean.bytes in
    record {
      empty = λ none. record { bytes = bytes ∙ empty_nil line none; ends_well = end };
      first = λ some. rw (bytes, after) (last_first line lacks some);
      whole = λ some. or_left _ _ end;
      end = ap (λ s. s.ends_well) same ∙ d.end;
    }

pub taken_line : (line all : List ℕ) (old mid new : Stretch) → Lacks 10 line → Delivers line old mid → Delivers (10 ∷ []) mid new
    → all ≡ line ++ 10 ∷ [] → TakesLine all old new
taken_line line all old mid new lacks d next same =
    let bytes : old.bytes ≡ line ++ 10 ∷ new.bytes = d.bytes ∙ ap (λ x. line ++ x) next.bytes in
    record {
      empty = λ none. absurd (omega (arith, none, ap length same, length-append line (10 ∷ [])));
      first = λ some. rw (bytes, same) (raw_lines_ended line new.bytes lacks);
      whole = λ some. or_right _ _ (ap (last_is 10) same ∙ last_is_end line 10 10);
      end = next.end ∙ d.end;
    }

pub quiet_after : (a b c : ℕ) → a ≤ b → b ≤ c → IsQuiet a c → IsQuiet b c
quiet_after a b c p q quiet = record { same = omega (arith, quiet.same); below = quiet.below }

-- ---- what follows the end marker's line

all_spaces : (front rest : List ℕ) (w : Bool) → list_all is_space front ≡ true → trailing (front ++ rest) w ≡ trailing rest w
all_spaces [] rest w h = refl
all_spaces (b ∷ front) rest w h = let p = and_parts (is_space b) (list_all is_space front) h in rw p.0 (all_spaces front rest w p.1)

some_other : (front rest : List ℕ) (w : Bool) → list_all is_space front ≡ false → trailing (front ++ rest) w ≡ Refused (Armor TrailingGarbage)
some_other [] rest w h = absurd (true≢false h)
some_other (b ∷ front) rest w h = elim (cases_Bool (is_space b)) [
  | inl e ↦ rw e (some_other front rest w (rw e at h))
  | inr e ↦ rw e refl
]

pub spaces_taken : (front : List ℕ) (old mid new : Stretch) → list_all is_space front ≡ true → Delivers front mid new →
    trailing mid.bytes mid.ends_well ≡ trailing old.bytes old.ends_well → trailing new.bytes new.ends_well ≡ trailing old.bytes old.ends_well
spaces_taken front old mid new all d same =
    sym (all_spaces front new.bytes new.ends_well all) ∙ ap (λ x. trailing x new.ends_well) (sym d.bytes) ∙ ap (λ w. trailing mid.bytes w) d.end
    ∙ same

pub garbage_taken : (front : List ℕ) (old mid new : Stretch) → list_all is_space front ≡ false → Delivers front mid new →
    trailing mid.bytes mid.ends_well ≡ trailing old.bytes old.ends_well → trailing old.bytes old.ends_well ≡ Refused (Armor TrailingGarbage)
garbage_taken front old mid new other d same =
    sym same ∙ ap (λ x. trailing x mid.ends_well) d.bytes ∙ some_other front new.bytes mid.ends_well other

-- the end of the text comes after a part of a line
pub taken_none : (line all : List ℕ) (old mid new : Stretch) → Lacks 10 line → Delivers line old mid → (all ≡ line) × (new ≡ mid) × IsCleanEnd mid
    → TakesLine all old new
taken_none line all old mid new lacks d t = rw t.0 (taken_end line old mid new lacks d t.2 t.1)

-- the rest of a line and its LF come after a part of it
pub taken_run : (before after : List ℕ) (old mid new : Stretch) → Lacks 10 before → Delivers before old mid →
    ((run : List ℕ) × (after ≡ before ++ ended run) × Delivers (ended run) mid new × Lacks 10 run) → TakesLine after old new
taken_run before after old mid new lacks d t =
    let run = t.0 in
    let cut : Stretch = record { bytes = 10 ∷ new.bytes; ends_well = new.ends_well } in
    let whole : old.bytes ≡ (before ++ run) ++ 10 ∷ new.bytes =
    d.bytes ∙ ap (λ x. before ++ x) (t.2.bytes ∙ append_assoc run (10 ∷ []) new.bytes) ∙ sym (append_assoc before run (10 ∷ new.bytes)) in
    let first : Delivers (before ++ run) old cut = record { bytes = whole; end = t.2.end ∙ d.end } in
    let next : Delivers (10 ∷ []) cut new = record { bytes = refl; end = refl } in
    taken_line (before ++ run) after old cut new (Lacks-append 10 before run lacks t.3) first next (t.1 ∙ sym (append_assoc before run (10 ∷ [])))

-- a run of what is shown was appended and consumed: all up to the first LF, and all where there is none
pub appended_line : (at : ℕ) (front shown before after : List ℕ) (old mid new : Stretch) → IsLineEnd at front → shown ≡ front → mid ≡ old →
    after ≡ before ++ take (at + 1) front → Delivers (take (at + 1) shown) mid new → TakesRun Ended before after old new
appended_line at front shown before after old mid new end same stays grown bytes =
    let to_feed : Delivers (take (at + 1) front) old new =
    subst (λ s. Delivers (take (at + 1) front) s new) stays (subst (λ xs. Delivers (take (at + 1) xs) mid new) same bytes) in
    (take at front, grown ∙ ap (λ xs. before ++ xs) end.same, subst (λ xs. Delivers xs old new) end.same to_feed, end.before)

pub appended_all : (front shown before after : List ℕ) (old mid new : Stretch) → Lacks 10 front → shown ≡ front → mid ≡ old →
    after ≡ before ++ front → Delivers (take (length front) shown) mid new → TakesRun Open before after old new
appended_all front shown before after old mid new lacks same stays grown bytes =
    let all : Delivers (take (length front) front) old new =
    subst (λ s. Delivers (take (length front) front) s new) stays (subst (λ xs. Delivers (take (length front) xs) mid new) same bytes) in
    (front, grown, subst (λ xs. Delivers xs old new) (take-length front) all, lacks)

pub moved_by : (size now mid new : ℕ) (before run after : List ℕ) → after ≡ before ++ run → length run ≡ size → mid ≡ now → new ≡ mid + size →
    new + length before ≡ now + length after
moved_by size now mid new before run after grown long stays moves = omega (arith, long, stays, moves, ap length grown ∙ length-append before run)

-- a line was taken, or none at the end, and nothing after it
pub counts_once : (size old new last : ℕ) → old ≤ new → (0 < size → new ≡ one_line_more old) →
    (size ≡ 0 → new ≡ old) → last ≡ new → (old ≤ last) × (last ≤ old + 1)
counts_once zero old new last on some none same = (omega (arith, same, on), omega (arith, same, none refl))
counts_once (suc n) old new last on some none same = (omega (arith, same, on), omega (arith, same, some (omega arith)))

-- a part of a line was appended to what was taken of it
pub run_on : (before after : List ℕ) (old mid new : Stretch) → Lacks 10 before → Delivers before old mid → TakesRun Open before after mid new →
    Lacks 10 after × Delivers after old new
run_on before after old mid new lacks d (run, grown, more, none) = rw grown (
  Lacks-append 10 before run lacks none,
  record { bytes = d.bytes ∙ ap (λ xs. before ++ xs) more.bytes ∙ sym (append_assoc before run new.bytes); end = more.end ∙ d.end },
)

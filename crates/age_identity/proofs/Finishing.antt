-- What reading a file comes to.
use Rattle.std.proofs.Common.{◌≡◌, ◌≢◌, ◌∙◌, inl, inr, refl, subst, sym, ap, arith, ℕ, ◌+◌, ◌-◌, ◌<◌, ◌≤◌, ◌&&◌, IsTrue, true, false, Bool, List, [], ◌++◌, length, length-append, length-take-le, append_assoc, append-nil, take, Result, Ok, Err, MatchResult}
use Rattle.std.specs.Prelude.{nat_le}
use Rattle.std.specs.Str.Lines.{lines}
use Rattle.std.proofs.Math.Seq.{take-append_seam}
use Rattle.std.proofs.lemmas.Bool.{le-leb}
use Rattle.std.proofs.lemmas.List.{take_all}
use Rattle.age_error.specs.Refusals.{IsInterruption, IsDevice}
use Rattle.age_error.specs.declared.io.Error.{Error}
use Rattle.age_error.specs.declared.io.Error.TheVariants.{LimitExceeded, OutOfMemory}
use Rattle.age_io.specs.declared.traits.Read.{Ghosts}
use Rattle.age_io.specs.Stretch.{IsFault}
use Rattle.age_io.specs.Reading.{TriedAgain, IsQuiet, Delivers}
use Rattle.age_io.proofs.Delivering.{Delivers-joined}
use Rattle.age_identity.specs.declared.util.LimitedReader.{LimitedReader}
use Rattle.age_identity.specs.declared.parser.Parser.{Parser}
use Rattle.age_identity.specs.Entries.{Entry, AreEntries}
use Rattle.age_identity.specs.Files.{IsEnded, EndsInBad, HasGoodLines, IsFirstBad, IsIdentityFileOf}
use Rattle.age_identity.specs.Limiting.{limited}
use Rattle.age_identity.specs.Limited.{inner_of, is_past, left_of, ReadsWithin, Meets}
use Rattle.age_identity.specs.Progress.{IsAt, RefusesLastLine, RefusesLine}
use Rattle.age_identity.specs.Reading.{IsTooLong, FileBreaksOff, ReadsEntries, most_file_bytes}
use Rattle.age_identity.proofs.Waiting.{HasRead}
use Rattle.age_identity.proofs.Within.{take-behind}

ok-err : {T : Type 0} (x : T) (e : Error) → Ok x ≡ Err e → ⊥
ok-err x e is = cc

abbrev error_of : {T : Type 0} → Error → Result T Error → Error
error_of other (Ok x) = other
error_of other (Err e) = e

same_error : {T : Type 0} (e other : Error) → ◌≡◌ {A = Result T Error} (Err e) (Err other) → e ≡ other
same_error e other is = ap (error_of e) is

-- a reader that gave bytes isn't past its limit
pub gave_within : {T : Type 0} (past : Bool) (x : T) (e : Error) → (past ≡ true → Ok x ≡ Err e) → past ≡ false
gave_within true x e met = absurd (ok-err x e (met refl))
gave_within false x e met = refl

-- the text has no bad line that a line feed ends
good_so_far : {S : Type 0} (p : Parser S) (text : List ℕ) → IsAt p text → HasGoodLines text
good_so_far p text h = record { done = h.done; last = h.last; parts = h.parts; ended = h.ended; lacks = h.lacks; entries = _; good = h.good }

module _ {R S : Type 0} (read : Ghosts R) (start reader new : LimitedReader R) (parser : Parser S) (h : HasRead read start reader parser) where
  -- some bytes more
  pub read_more : (next : Parser S) (buf : List ℕ) (n : ℕ) → is_past new ≡ false → left_of new + n ≡ left_of reader →
      ReadsWithin read (TriedAgain read.refuses) (inner_of reader) (inner_of new) buf (Ok n) → IsAt next (h.text ++ take n buf)
      → HasRead read start new next
  read_more next buf n within counts given here =
      let r = given.reads in
      let size : length (take n buf) ≡ n = ap length given.same ∙ length-take-le n given.part r.count in
      record {
        tells = r.same_tells ∙ h.tells;
        faults = let f : read.faults (inner_of start) ≤ read.faults (inner_of new) = omega (arith, h.faults, r.no_fewer_faults) in f;
        narrows = λ e x. h.narrows e (r.narrows e x);
        within = within;
        text = h.text ++ take n buf;
        counted = let c : length (h.text ++ take n buf) + left_of new ≡ left_of start =
            omega (arith, h.counted, counts, size, length-append h.text (take n buf)) in c;
        here = here;
        so_far = λ told. Delivers-joined h.text (take n buf) _ _ _ (h.so_far told)
            (subst (λ b. Delivers b (read.rest (inner_of reader)) (read.rest (inner_of new))) (sym given.same) (r.bytes (h.tells ∙ told)));
      }

  -- a byte stands past the limit
  past_limit : (e : Error) → Meets read reader new (Err e) → IsTrue (read.tells (inner_of start))
      → IsTooLong (left_of start) (read.rest (inner_of start))
  past_limit e met told =
      let d = h.so_far told in
      let all : length h.text ≡ left_of start = omega (arith, h.counted, met.limit) in
      let size = ap length d.bytes ∙ length-append h.text (read.rest (inner_of reader)).bytes in
      let same : take (left_of start) (read.rest (inner_of start)).bytes ≡ h.text =
      ap (take (left_of start)) d.bytes ∙ ap (λ n. take n (h.text ++ (read.rest (inner_of reader)).bytes)) (sym all)
      ∙ take-append_seam h.text (read.rest (inner_of reader)).bytes in
      record {
        long = let l : left_of start < length (read.rest (inner_of start)).bytes = omega (arith, size, all, met.byte (h.tells ∙ told)) in l;
        good = subst HasGoodLines (sym same) (good_so_far parser h.text h.here);
      }

  -- the reader broke off
  breaks : (e : Error) → (e ≢ OutOfMemory → IsQuiet (read.faults (inner_of reader)) (read.faults (inner_of new))
      → IsFault (read.rest (inner_of reader)))
      → read.faults (inner_of reader) ≤ read.faults (inner_of new) → IsTrue (read.tells (inner_of start))
      → FileBreaksOff (left_of start) (read.faults (inner_of start)) (read.faults (inner_of new)) (read.rest (inner_of start)) e
  breaks e cause rose told =
      let d = h.so_far told in
      record {
        front = h.text;
        more = (read.rest (inner_of reader)).bytes;
        whole = d.bytes;
        fits = let f : length h.text ≤ left_of start = omega (arith, h.counted) in f;
        good = good_so_far parser h.text h.here;
        all = λ other quiet.
            let same : read.faults (inner_of new) ≡ read.faults (inner_of reader) = omega (arith, quiet.same, rose, h.faults) in
            let fault = cause other (record { same = same; below = quiet.below }) in
            (fault.bytes, sym d.end ∙ fault.ends_badly);
      }

  refused_past : {A : Type 0} (entries : A → List Entry) (e : Error) → (IsInterruption e → ⊥) → Meets read reader new (Err e) →
      ReadsEntries read (left_of start) entries (inner_of start) (inner_of new) (Err e)
  refused_past entries e patient met =
      let limit : e ≡ LimitExceeded = same_error e LimitExceeded met.answer in
      record {
        faults = let f : read.faults (inner_of start) ≤ read.faults (inner_of new) = omega (arith, h.faults, met.faults) in f;
        device = λ dev. absurd (subst IsDevice limit dev);
        patient = patient;
        fits = λ told. tt;
        file = λ told. tt;
        refused = inr (inr (inl (limit, past_limit e met)));
      }

  refused_within : {A : Type 0} (entries : A → List Entry) (buf : List ℕ) (e : Error) → (IsInterruption e → ⊥) →
      ReadsWithin read (TriedAgain read.refuses) (inner_of reader) (inner_of new) buf (Err e) →
      ReadsEntries read (left_of start) entries (inner_of start) (inner_of new) (Err e)
  refused_within entries buf e patient given =
      let r = given.reads in
      record {
        faults = let f : read.faults (inner_of start) ≤ read.faults (inner_of new) = omega (arith, h.faults, r.no_fewer_faults) in f;
        device = λ dev. let f : read.faults (inner_of reader) < read.faults (inner_of new) = r.device dev in omega (arith, f, h.faults);
        patient = patient;
        fits = λ told. tt;
        file = λ told. tt;
        refused = inr (inr (inr (h.narrows e r.why, λ told. breaks e (r.cause (h.tells ∙ told)) r.no_fewer_faults told)));
      }

  -- the reader refused
  pub read_refused : {A : Type 0} (entries : A → List Entry) (buf : List ℕ) (e : Error) (past : Bool) → is_past new ≡ past → (IsInterruption e → ⊥) →
      (is_past new ≡ false → ReadsWithin read (TriedAgain read.refuses) (inner_of reader) (inner_of new) buf (Err e)) →
      (is_past new ≡ true → Meets read reader new (Err e)) →
      ReadsEntries read (left_of start) entries (inner_of start) (inner_of new) (Err e)
  read_refused entries buf e true is patient inner meets = refused_past entries e patient (meets is)
  read_refused entries buf e false is patient inner meets = refused_within entries buf e patient (inner is)

  -- a line was bad, or memory was refused
  refused_line : {A : Type 0} (entries : A → List Entry) (buf front more : List ℕ) (n : ℕ) (e : Error) → left_of new + n ≡ left_of reader →
      ReadsWithin read (TriedAgain read.refuses) (inner_of reader) (inner_of new) buf (Ok n) → take n buf ≡ front ++ more
      → RefusesLine e (h.text ++ front) →
      IsTrue (read.tells (inner_of start)) → (number : ℕ) → IsEnded (h.text ++ front) → EndsInBad (h.text ++ front) number →
      IsFirstBad (limited (left_of start) (read.rest (inner_of start))) number
  refused_line entries buf front more n e counts given cut refused told number ended bad =
      let r = given.reads in
      let size : length (take n buf) ≡ n = ap length given.same ∙ length-take-le n given.part r.count in
      let d = h.so_far told in
      let next = r.bytes (h.tells ∙ told) in
      let all : (read.rest (inner_of start)).bytes ≡ (h.text ++ front) ++ (more ++ (read.rest (inner_of new)).bytes) =
      d.bytes ∙ ap (λ b. h.text ++ b) (next.bytes ∙ ap (λ b. b ++ (read.rest (inner_of new)).bytes) (sym given.same ∙ cut)
      ∙ append_assoc front more (read.rest (inner_of new)).bytes)
      ∙ sym (append_assoc h.text front (more ++ (read.rest (inner_of new)).bytes)) in
      let fits : length (h.text ++ front) ≤ left_of start =
      omega (arith, h.counted, counts, size, length-append h.text front, ap length cut, length-append front more) in
      record {
        front = h.text ++ front;
        more = take (left_of start - length (h.text ++ front)) (more ++ (read.rest (inner_of new)).bytes);
        whole = ap (take (left_of start)) all ∙ take-behind (h.text ++ front) (more ++ (read.rest (inner_of new)).bytes) (left_of start) fits;
        finished = inl ended;
        ends = bad;
      }

  pub read_bad : {A : Type 0} (entries : A → List Entry) (buf front more : List ℕ) (n : ℕ) (e : Error) → left_of new + n ≡ left_of reader →
      ReadsWithin read (TriedAgain read.refuses) (inner_of reader) (inner_of new) buf (Ok n) → take n buf ≡ front ++ more
      → RefusesLine e (h.text ++ front) →
      ReadsEntries read (left_of start) entries (inner_of start) (inner_of new) (Err e)
  read_bad entries buf front more n e counts given cut (inl memory) =
      record {
        faults = let f : read.faults (inner_of start) ≤ read.faults (inner_of new) = omega (arith, h.faults, given.reads.no_fewer_faults) in f;
        device = λ dev. absurd (subst IsDevice memory dev);
        patient = λ is. subst IsInterruption memory is;
        fits = λ told. tt;
        file = λ told. tt;
        refused = inl memory;
      }
  read_bad entries buf front more n e counts given cut (inr bad) =
      record {
        faults = let f : read.faults (inner_of start) ≤ read.faults (inner_of new) = omega (arith, h.faults, given.reads.no_fewer_faults) in f;
        device = λ dev. absurd (subst IsDevice bad.1 dev);
        patient = λ is. subst IsInterruption bad.1 is;
        fits = λ told. tt;
        file = λ told. tt;
        refused = inr (inl (bad.0, bad.1, λ told. refused_line entries buf front more n e counts given cut (inr bad) told bad.0 bad.2 bad.3));
      }

  -- the end came
  whole_text : (buf : List ℕ) (n : ℕ) → n ≡ 0 → ReadsWithin read (TriedAgain read.refuses) (inner_of reader) (inner_of new) buf (Ok n)
      → IsTrue (read.tells (inner_of start)) →
      ((read.rest (inner_of start)).bytes ≡ h.text) × IsTrue (read.rest (inner_of start)).ends_well
  whole_text buf n none given told =
      let d = h.so_far told in
      let end = given.reads.end (h.tells ∙ told) none given.some in
      (d.bytes ∙ ap (λ b. h.text ++ b) end.bytes ∙ append-nil h.text, sym d.end ∙ end.ends_well)

  pub read_file : {A : Type 0} (entries : A → List Entry) (buf : List ℕ) (n : ℕ) (x : A) → n ≡ 0 →
      ReadsWithin read (TriedAgain read.refuses) (inner_of reader) (inner_of new) buf (Ok n) → AreEntries (lines h.text) (entries x) →
      ReadsEntries read (left_of start) entries (inner_of start) (inner_of new) (Ok x)
  read_file entries buf n x none given good = record {
    faults = let f : read.faults (inner_of start) ≤ read.faults (inner_of new) = omega (arith, h.faults, given.reads.no_fewer_faults) in f;
    device = tt;
    patient = tt;
    fits = λ told. let f : length (read.rest (inner_of start)).bytes ≤ left_of start =
        omega (arith, h.counted, ap length (whole_text buf n none given told).0) in f;
    file = λ told. record {
      well = (whole_text buf n none given told).1;
      good = subst (λ t. AreEntries (lines t) (entries x)) (sym (whole_text buf n none given told).0) good;
    };
    refused = tt;
  }

  last_bad : (buf : List ℕ) (n : ℕ) → n ≡ 0 → ReadsWithin read (TriedAgain read.refuses) (inner_of reader) (inner_of new) buf (Ok n)
      → IsTrue (read.tells (inner_of start)) →
      (number : ℕ) → EndsInBad h.text number → IsFirstBad (limited (left_of start) (read.rest (inner_of start))) number
  last_bad buf n none given told number bad =
      let whole = whole_text buf n none given told in
      let fits : length (read.rest (inner_of start)).bytes ≤ left_of start = omega (arith, h.counted, ap length whole.0) in
      record {
        front = h.text;
        more = [];
        whole = take_all (left_of start) (read.rest (inner_of start)).bytes fits ∙ whole.0 ∙ sym (append-nil h.text);
        finished = inr (
          refl,
          ap (λ b. b && nat_le (length (read.rest (inner_of start)).bytes) (left_of start)) whole.1
              ∙ le-leb (length (read.rest (inner_of start)).bytes) (left_of start) fits,
        );
        ends = bad;
      }

  pub read_last : {A : Type 0} (entries : A → List Entry) (buf : List ℕ) (n : ℕ) (e : Error) → n ≡ 0 →
      ReadsWithin read (TriedAgain read.refuses) (inner_of reader) (inner_of new) buf (Ok n) → RefusesLastLine e h.text →
      ReadsEntries read (left_of start) entries (inner_of start) (inner_of new) (Err e)
  read_last entries buf n e none given (inl memory) =
      record {
        faults = let f : read.faults (inner_of start) ≤ read.faults (inner_of new) = omega (arith, h.faults, given.reads.no_fewer_faults) in f;
        device = λ dev. absurd (subst IsDevice memory dev);
        patient = λ is. subst IsInterruption memory is;
        fits = λ told. tt;
        file = λ told. tt;
        refused = inl memory;
      }
  read_last entries buf n e none given (inr bad) =
      record {
        faults = let f : read.faults (inner_of start) ≤ read.faults (inner_of new) = omega (arith, h.faults, given.reads.no_fewer_faults) in f;
        device = λ dev. absurd (subst IsDevice bad.1 dev);
        patient = λ is. subst IsInterruption bad.1 is;
        fits = λ told. tt;
        file = λ told. tt;
        refused = inr (inl (bad.0, bad.1, λ told. last_bad buf n none given told bad.0 bad.2));
      }

  pub read_ended : {A : Type 0} (entries : A → List Entry) (buf : List ℕ) (n : ℕ) (result : Result A Error) → n ≡ 0 →
      ReadsWithin read (TriedAgain read.refuses) (inner_of reader) (inner_of new) buf (Ok n) →
      MatchResult result (λ x. AreEntries (lines h.text) (entries x)) (λ e. RefusesLastLine e h.text) →
      ReadsEntries read (left_of start) entries (inner_of start) (inner_of new) result
  read_ended entries buf n (Ok x) none given good = read_file entries buf n x none given good
  read_ended entries buf n (Err e) none given bad = read_last entries buf n e none given bad

-- the same read, told of another reader and limit that are the same
told_of : {R A : Type 0} (read : Ghosts R) (limit other : ℕ) (entries : A → List Entry) (input same last : R) (result : Result A Error)
    → limit ≡ other → input ≡ same →
    ReadsEntries read limit entries input last result → ReadsEntries read other entries same last result
told_of read limit other entries input same last result is input_is r =
    subst (λ n. ReadsEntries read n entries same last result) is (subst (λ i. ReadsEntries read limit entries i last result) input_is r)

pub limit_is : 16777216 ≡ most_file_bytes
unfolding most_file_bytes
limit_is = refl

-- a refusal of the entries is one of the file
pub refused_file : {R A B : Type 0} (read : Ghosts R) (limit : ℕ) (entries : A → List Entry) (others : B → List Entry) (input same last : R)
    (e : Error) →
    limit ≡ 16777216 → input ≡ same → ReadsEntries read limit entries input last (Err e) → ReadsEntries read most_file_bytes others same last (Err e)
refused_file read limit entries others input same last e is input_is r =
    let t = told_of read limit most_file_bytes entries input same last (Err e) (is ∙ limit_is) input_is r in
    record { faults = t.faults; device = t.device; patient = t.patient; fits = λ told. tt; file = λ told. tt; refused = t.refused }

-- and so are the entries those of the file
pub read_of_file : {R A B : Type 0} (read : Ghosts R) (limit : ℕ) (entries : A → List Entry) (others : B → List Entry) (input same last : R)
    (x : A) (y : B) →
    limit ≡ 16777216 → input ≡ same → entries x ≡ others y → ReadsEntries read limit entries input last (Ok x)
    → ReadsEntries read most_file_bytes others same last (Ok y)
read_of_file read limit entries others input same last x y is input_is entries_are r =
    let t = told_of read limit most_file_bytes entries input same last (Ok x) (is ∙ limit_is) input_is r in
    record {
      faults = t.faults;
      device = tt;
      patient = tt;
      fits = t.fits;
      file = λ told. subst (IsIdentityFileOf (read.rest same)) entries_are (t.file told);
      refused = tt;
    }

-- Steps of a reader with a limit.
use Rattle.std.proofs.Common.{◌≡◌, ℕ, ◌+◌, ◌-◌, ◌≤◌, ◌<◌, Bool, true, false, ◌&&◌, IsTrue, Ok, Result, Bor, subst, List, [], ◌++◌, length, take, drop, refl, arith, sym, ap, ◌∙◌, length-take-le, length-take, length-append, inl, inr}
use Rattle.std.specs.Prelude.{nat_le, min}
use Rattle.std.proofs.Math.Seq.{drop-nil, take-nil, take-append-add, take-add}
use Rattle.std.proofs.Math.Bool.{and-false}
use Rattle.std.proofs.lemmas.Bool.{cases_lt, lt-leb, le-leb}
use Rattle.std.proofs.lemmas.List.{take-take, drop-take, take_all, take-append-le}
use Rattle.age_error.specs.declared.io.Error.{Error}
use Rattle.age_io.specs.Stretch.{Stretch, IsFault, IsCleanEnd}
use Rattle.age_io.specs.Reading.{Reads, Delivers, AddsNoReason}
use Rattle.age_io.specs.Filling.{Consumes, Fills, IsFront}
use Rattle.age_io.specs.declared.traits.Read.{Ghosts}
use Rattle.age_identity.specs.Limiting.{limited, rest_within, shown_within}
use Rattle.age_identity.specs.LimitLemmas.{le_same}
use Rattle.age_identity.specs.Limited.{inner_of, is_past, left_of, content_of, place_of, rest_of, refuses_of, Limits}

true-false : true ≡ false → ⊥
true-false is = cc

-- what is left of a list after its front
pub take-behind : (front more : List ℕ) (left : ℕ) → length front ≤ left → take left (front ++ more) ≡ front ++ take (left - length front) more
take-behind front more left fits =
    let whole : left ≡ length front + (left - length front) = omega arith in
    ap (λ n. take n (front ++ more)) whole ∙ take-append-add front more (left - length front)

-- what an inner reader delivers within the limit, the reader delivers
pub gives_within : (front : List ℕ) (left : ℕ) (old new : Stretch) → length front ≤ left → Delivers front old new →
    Delivers front (limited left old) (limited (left - length front) new)
gives_within front left old new fits d = record {
  bytes = ap (take left) d.bytes ∙ take-behind front new.bytes left fits;
  end =
      let whole : length old.bytes ≡ length front + length new.bytes = ap length d.bytes ∙ length-append front new.bytes in
      ap (λ b. b && nat_le (length new.bytes) (left - length front)) d.end
      ∙ ap (λ b. old.ends_well && b) (le_same (length new.bytes) (left - length front) (length old.bytes) left
      (λ h. omega (arith, h, whole, fits)) (λ h. omega (arith, h, whole, fits)));
}

-- the same of the front of a list that was read into
pub gives_count : (part : List ℕ) (count left : ℕ) (old new : Stretch) → count ≤ length part → count ≤ left → Delivers (take count part) old new →
    Delivers (take count part) (limited left old) (limited (left - count) new)
gives_count part count left old new within fits d =
    let size : length (take count part) ≡ count = length-take-le count part within in
    rw size at (gives_within (take count part) left old new (rw size fits) d)

-- a byte past the limit stood there before some were given
pub meets_before : (part : List ℕ) (count left : ℕ) (old new : Stretch) → count ≤ length part → count ≤ left → Delivers (take count part) old new →
    left - count < length new.bytes → left < length old.bytes
meets_before part count left old new within fits d some =
    let size : length (take count part) ≡ count = length-take-le count part within in
    let whole : length old.bytes ≡ length (take count part) + length new.bytes = ap length d.bytes ∙ length-append (take count part) new.bytes in
    omega (arith, size, whole, some, fits)

-- what ends, ends within the limit
pub end_within : (left : ℕ) (s : Stretch) → IsCleanEnd s → IsCleanEnd (limited left s)
end_within left s end = record {
  bytes = ap (take left) end.bytes ∙ take-nil left;
  ends_well =
      let none : length s.bytes ≡ 0 = ap length end.bytes in
      ap (λ b. b && nat_le (length s.bytes) left) end.ends_well ∙ le-leb (length s.bytes) left (omega (arith, none));
}

-- at the limit a byte is one too many
pub fault_at : (s : Stretch) → 0 < length s.bytes → IsFault (limited 0 s)
fault_at s some = record { bytes = refl; ends_badly = ap (λ b. s.ends_well && b) (lt-leb (length s.bytes) 0 some) ∙ and-false s.ends_well }

-- what the reader may refuse with it might before
pub narrows_within : {R : Type 0} (read : Ghosts R) (old new : R) (left after : ℕ) (past : Bool) → read.tells new ≡ read.tells old →
    (IsTrue (read.tells old) → after < length (read.rest new).bytes → left < length (read.rest old).bytes) →
    AddsNoReason read.refuses old new →
    AddsNoReason (refuses_of read) (record { inner = old; left = left; past = past }) (record { inner = new; left = after; past = past })
narrows_within read old new left after past same more narrows e (inr own) = inr (narrows e own)
narrows_within read old new left after past same more narrows e (inl (is, inl gone)) = inl (is, inl gone)
narrows_within read old new left after past same more narrows e (inl (is, inr meets)) = inl (is, inr (λ told. more told (meets (same ∙ told))))

-- the content up to the limit is the same where the reader stands as much further as the limit is nearer
pub content_same : (old new : Stretch) (place left later after : ℕ) → new ≡ old → later + after ≡ place + left →
    limited (later + after) new ≡ limited (place + left) old
content_same old new place left later after same further = ap (λ n. limited n new) further ∙ ap (limited (place + left)) same

module _ {R : Type 0} (read : Ghosts R) (old new : R) (left : ℕ) where
  -- a read of the inner reader into as much of a buffer as the limit leaves
  pub reads_count : (count : ℕ) (part buf : List ℕ) → count ≤ left → length part ≤ length buf → (0 < length buf → 0 < length part)
      → take count buf ≡ take count part →
      Reads read.tells read.steady read.content read.place read.rest read.faults read.refuses old new part (Ok count) →
      Reads (λ r. read.tells (inner_of r)) (λ r. read.steady (inner_of r)) (content_of read) (place_of read) (rest_of read)
      (λ r. read.faults (inner_of r)) (refuses_of read)
      (record { inner = old; left = left; past = false }) (record { inner = new; left = left - count; past = false }) buf (Ok count)
  reads_count count part buf fits within some same r = record {
    count = let h : count ≤ length buf = omega (arith, r.count, within) in h;
    same_tells = r.same_tells;
    same_steady = r.same_steady;
    no_fewer_faults = r.no_fewer_faults;
    device = tt;
    unspent = λ room. r.unspent (some room);
    why = tt;
    narrows = narrows_within read old new left (left - count) false r.same_tells
        (λ told more. meets_before part count left _ _ r.count fits (r.bytes told) more) r.narrows;
    again = tt;
    same_content = λ told. content_same _ _ (read.place old) left (read.place new) (left - count) (r.same_content told)
        (omega (arith, r.moves told, fits));
    bytes = λ told. subst (λ xs. Delivers xs (limited left (read.rest old)) (limited (left - count) (read.rest new))) (sym same)
        (gives_count part count left _ _ r.count fits (r.bytes told));
    moves = r.moves;
    end = λ told none room. end_within left _ (r.end told none (some room));
    stays = λ told. tt;
    left = λ told. tt;
    interrupted = λ told. tt;
    cause = λ told. tt;
  }

  -- the same of a reader that isn't past its limit, whose buffer has a further part
  pub reads_part : (count : ℕ) (part after buf : List ℕ) (past : Bool) → past ≡ false → count ≤ left → buf ≡ part ++ after
      → (0 < length buf → 0 < length part) →
      Reads read.tells read.steady read.content read.place read.rest read.faults read.refuses old new part (Ok count) →
      Reads (λ r. read.tells (inner_of r)) (λ r. read.steady (inner_of r)) (content_of read) (place_of read) (rest_of read)
      (λ r. read.faults (inner_of r)) (refuses_of read)
      (record { inner = old; left = left; past = past }) (record { inner = new; left = left - count; past = past }) buf (Ok count)
  reads_part count part after buf true is fits whole some r = absurd (true-false is)
  reads_part count part after buf false is fits whole some r =
      let size : length buf ≡ length part + length after = ap length whole ∙ length-append part after in
      reads_count count part buf fits (omega (arith, size)) some (ap (take count) whole ∙ take-append-le count part after r.count) r

module _ {R : Type 0} (read : Ghosts R) (shown : R → List ℕ) (old new : R) (left amount : ℕ) where
  -- what was shown within the limit was taken
  pub consumes_within : (past : Bool) → amount ≤ length (shown_within past left (shown old)) →
      Consumes read.tells read.steady read.content read.place read.rest read.faults read.refuses shown old new amount →
      Consumes (λ r. read.tells (inner_of r)) (λ r. read.steady (inner_of r)) (content_of read) (place_of read) (rest_of read)
      (λ r. read.faults (inner_of r)) (refuses_of read)
      (λ r. shown_within (is_past r) (left_of r) (shown (inner_of r)))
      (record { inner = old; left = left; past = past }) (record { inner = new; left = left - amount; past = past }) amount
  consumes_within true most took =
      let none : amount ≡ 0 = omega (arith, most) in
      record {
        same_tells = took.same_tells;
        same_steady = took.same_steady;
        same_faults = took.same_faults;
        narrows = narrows_within read old new left (left - amount) true took.same_tells
            (λ told more. meets_before (shown old) amount left _ _ (omega (arith, none)) (omega (arith, none)) (took.bytes told) more) took.narrows;
        shows = sym (drop-nil amount);
        same_content = λ told. content_same _ _ (read.place old - 1) left (read.place new - 1) (left - amount) (took.same_content told)
            (omega (arith, took.moves told, none));
        bytes = λ told. record { bytes = sym (ap (λ xs. xs ++ []) (take-nil amount)); end = refl };
        moves = λ told. omega (arith, took.moves told, none);
      }
  consumes_within false most took =
      let size = length-take left (shown old) in
      let fits : amount ≤ left = omega (arith, most, size) in
      let within : amount ≤ length (shown old) = omega (arith, most, size) in
      let whole : amount + (left - amount) ≡ left = omega (arith, fits) in
      record {
        same_tells = took.same_tells;
        same_steady = took.same_steady;
        same_faults = took.same_faults;
        narrows = narrows_within read old new left (left - amount) false took.same_tells
            (λ told more. meets_before (shown old) amount left _ _ within fits (took.bytes told) more) took.narrows;
        shows = ap (take (left - amount)) took.shows ∙ sym (drop-take amount (left - amount) (shown old))
            ∙ ap (λ n. drop amount (take n (shown old))) whole;
        same_content = λ told. content_same _ _ (read.place old) left (read.place new) (left - amount) (took.same_content told)
            (omega (arith, took.moves told, fits));
        bytes = λ told. subst (λ xs. Delivers xs (limited left (read.rest old)) (limited (left - amount) (read.rest new)))
            (sym (take-take amount left (shown old) fits)) (gives_count (shown old) amount left _ _ within fits (took.bytes told));
        moves = took.moves;
      }

module _ {R : Type 0} (read : Ghosts R) (shown : R → List ℕ) (besides : R → R → Result (Bor (List ℕ)) Error → Type 0) where
  -- what the inner reader shows is shown within the limit
  pub fills_shown : (old new : R) (left : ℕ) (front mine : Bor (List ℕ)) → mine.now ≡ take left front.now →
      Fills read.tells read.steady read.content read.place read.rest read.faults read.refuses shown besides old new (Ok front) →
      Fills (λ r. read.tells (inner_of r)) (λ r. read.steady (inner_of r)) (content_of read) (place_of read) (rest_of read)
      (λ r. read.faults (inner_of r)) (refuses_of read)
      (λ r. shown_within (is_past r) (left_of r) (shown (inner_of r))) (Limits read.refuses (λ _. 0))
      (record { inner = old; left = left; past = false }) (record { inner = new; left = left; past = false }) (Ok mine)
  fills_shown old new left front mine is f = record {
    same_tells = f.same_tells;
    same_steady = f.same_steady;
    no_fewer_faults = f.no_fewer_faults;
    device = tt;
    unspent = f.unspent;
    why = tt;
    narrows = narrows_within read old new left left false f.same_tells
        (λ told some. subst (λ s. left < length s.bytes) (f.same_rest told) some) f.narrows;
    again = tt;
    shows = ap (take left) f.shows ∙ sym is;
    own = record {
      still = λ is. absurd (true-false (sym is));
      exceeded = λ is. absurd (true-false (sym is));
      met = λ is _. absurd (true-false (sym is));
      counts = let h : left + 0 ≡ left = omega arith in h;
      keeps = tt;
      hands_on = λ _. tt;
    };
    same_content = λ told. content_same _ _ (read.place old) left (read.place new) left (f.same_content told) (ap (λ n. n + left) (f.stays told));
    stays = f.stays;
    same_rest = λ told. ap (limited left) (f.same_rest told);
    left = λ told. tt;
    interrupted = λ told. tt;
    cause = λ told. tt;
  }

  -- the same of a reader that isn't past its limit
  pub fills_part : (old new : R) (left : ℕ) (past : Bool) (front mine : Bor (List ℕ)) → past ≡ false → mine.now ≡ take left front.now →
      Fills read.tells read.steady read.content read.place read.rest read.faults read.refuses shown besides old new (Ok front) →
      Fills (λ r. read.tells (inner_of r)) (λ r. read.steady (inner_of r)) (content_of read) (place_of read) (rest_of read)
      (λ r. read.faults (inner_of r)) (refuses_of read)
      (λ r. shown_within (is_past r) (left_of r) (shown (inner_of r))) (Limits read.refuses (λ _. 0))
      (record { inner = old; left = left; past = past }) (record { inner = new; left = left; past = past }) (Ok mine)
  fills_part old new left true front mine within is f = absurd (true-false within)
  fills_part old new left false front mine within is f = fills_shown old new left front mine is f

-- as many of a list as it has, up to a number
pub take-min : (xs : List ℕ) (n m : ℕ) → m ≡ min (length xs) n → take m xs ≡ take n xs
take-min xs n m is =
    elim (cases_lt n (length xs)) [
      | inl few ↦ let same : m ≡ n = omega (arith, is) in ap (λ k. take k xs) same
      | inr all ↦ take_all m xs (omega (arith, is)) ∙ sym (take_all n xs all)
    ]

-- what is shown of a front of the rest is a front of the rest within the limit
pub front_within : (front : List ℕ) (rest : Stretch) (left m : ℕ) (past : Bool) → past ≡ false → m ≡ min (length front) left →
    IsFront front rest → IsFront (take m front) (rest_within past left rest)
front_within front rest left m true within is begins = absurd (true-false within)
front_within front rest left m false within is begins = record {
  more = take (left - m) (drop m rest.bytes);
  bytes =
      let whole : left ≡ m + (left - m) = omega (arith, is) in
      ap (λ n. take n rest.bytes) whole ∙ take-add m (left - m) rest.bytes
      ∙ ap (λ xs. xs ++ take (left - m) (drop m rest.bytes)) (ap (take m) begins.bytes ∙ take-append-le m front begins.more (omega (arith, is)));
}

pub ends_within : (front : List ℕ) (rest : Stretch) (left m : ℕ) (past : Bool) → past ≡ false → m ≡ min (length front) left → 0 < left →
    (length front ≡ 0 → IsCleanEnd rest) → length (take m front) ≡ 0 → IsCleanEnd (rest_within past left rest)
ends_within front rest left m true within is some ends none = absurd (true-false within)
ends_within front rest left m false within is some ends none =
    end_within left rest (ends (omega (arith, is, length-take m front, none)))

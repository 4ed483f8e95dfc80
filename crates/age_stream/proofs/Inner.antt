-- What a seek of the inner reader finds.
use Rattle.std.specs.Prelude.{◌≡◌, ℕ, ◌+◌, ◌-◌, ◌*◌, ◌≤◌, pos, nat_le, min, if◌then◌else◌, Result, Ok, Err, Bool, true, false, [], length, drop}
use Rattle.std.proofs.Common.{refl, sym, ap, ◌∙◌, inl, inr, arith}
use Rattle.std.proofs.lemmas.List.{drop-drop, drop_all}
use Rattle.std.proofs.lemmas.Bool.{le-leb, cases_lt, true≢false}
use Rattle.age_error.specs.declared.io.Error.{Error}
use Rattle.age_error.specs.declared.io.Error.TheVariants.{PastEnd}
use Rattle.age_io.specs.Stretch.{Stretch, from_place, stretch-ext}
use Rattle.age_io.specs.Cursor.{sought}
use Rattle.age_error.specs.declared.io.SeekFrom.TheVariants.{Start, End, Current}
use Rattle.age_stream.specs.Reading.{payload_at, IsPast}

abbrev answered : Result ℕ Error → ℕ
answered (Ok n) = n
answered (Err e) = 0

pub moved-by : (b : Bool) (m n : ℕ) → ◌≡◌ {A = Result ℕ Error} (if b then Ok m else Err PastEnd) (Ok n) → n ≡ m
moved-by true m n is = sym (ap answered is)
moved-by false m n is = cc

pub current-zero : (place len n : ℕ) → sought (Current (pos 0)) place len ≡ Ok n → n ≡ place
current-zero place len n is = moved-by (nat_le (place + 0) len) (place + 0) n is ∙ omega arith

pub end-zero : (place len n : ℕ) → sought (End (pos 0)) place len ≡ Ok n → n ≡ len
end-zero place len n is = moved-by (nat_le (len + 0) len) (len + 0) n is ∙ omega arith

pub start-at : (k place len n : ℕ) → sought (Start k) place len ≡ Ok n → n ≡ k
start-at k place len n is = moved-by (nat_le k len) k n is

refused-by : (b : Bool) (m : ℕ) (e : Error) → b ≡ true → ◌≡◌ {A = Result ℕ Error} (if b then Ok m else Err PastEnd) (Err e) → ⊥
refused-by true m e holds is = cc
refused-by false m e holds is = cc

-- a target within the content isn't refused
pub refused-start : (k place len : ℕ) (e : Error) → k ≤ len → sought (Start k) place len ≡ Err e → ⊥
refused-start k place len e within is = refused-by (nat_le k len) k e (le-leb k len within) is

-- the inner reader stands in the payload
pub payload-place : (content : Stretch) (start place taken : ℕ) → start ≡ place - taken → (at : ℕ) →
    from_place (start + at) content ≡ from_place at (payload_at place taken content)
payload-place content start place taken is at =
    rw is (stretch-ext (from_place (place - taken + at) content) (from_place at (payload_at place taken content))
    (sym (drop-drop at (place - taken) content.bytes)) refl)

-- the inner reader was put after the chunk that is held
pub past-kept : (payload rest : Stretch) (number taken past size : ℕ) (last : Bool) → size ≡ length payload.bytes
    → past ≡ min (65552 * number + 65552) size →
    taken ≡ past → rest ≡ from_place past payload → (last ≡ false → 65552 * number + 65552 ≤ size) → IsPast payload number last taken rest
past-kept payload rest number taken past size last whole least stood is full =
    let same : drop past payload.bytes ≡ drop (65552 * number + 65552) payload.bytes = elim (cases_lt size (65552 * number + 65552)) [
      | inl short ↦ drop_all past payload.bytes (omega (arith, least, whole, short))
          ∙ sym (drop_all (65552 * number + 65552) payload.bytes (omega (arith, whole, short)))
      | inr long ↦ let at : past ≡ 65552 * number + 65552 = omega (arith, least, long) in ap (λ n. drop n payload.bytes) at
    ] in
    record {
      stood = λ middle. omega (arith, stood, least, full middle);
      past = ap (λ n. drop n payload.bytes) stood ∙ same;
      ahead = is ∙ stretch-ext (from_place past payload) (from_place (65552 * number + 65552) payload) same refl;
    }

-- the inner reader was put at the end, after a chunk that is held as the last
pub past-end : (payload rest : Stretch) (number taken : ℕ) (last : Bool) → last ≡ true → taken ≡ length payload.bytes
    → length payload.bytes ≤ 65552 * number + 65552 →
    rest ≡ from_place taken payload → IsPast payload number last taken rest
past-end payload rest number taken last is whole fits stood =
    let over : drop (65552 * number + 65552) payload.bytes ≡ [] = drop_all (65552 * number + 65552) payload.bytes fits in
    let none : drop taken payload.bytes ≡ [] = drop_all taken payload.bytes (omega (arith, whole)) in
    record {
      stood = λ middle. absurd (true≢false (sym is ∙ middle));
      past = none ∙ sym over;
      ahead = stood ∙ stretch-ext (from_place taken payload) (from_place (65552 * number + 65552) payload) (none ∙ sym over) refl;
    }

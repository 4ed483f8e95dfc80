-- Reads along the content of a reader, over plain variables.
use Rattle.std.proofs.Common.{◌≡◌, ◌∙◌, ◌+◌, ◌<◌, ◌≤◌, ℕ, IsTrue, length-append, List, ◌++◌, length, drop, false, arith, sym, ap, subst, length-drop}
use Rattle.age_io.specs.Stretch.{Stretch, from_place, IsCleanEnd, IsFault}
use Rattle.age_io.specs.Reading.{Delivers}
use Rattle.age_io.proofs.Reaching.{delivered-at}
use Rattle.age_armor.proofs.Taking.{empty_nil}

-- a read along the content leads further along it
pub further : (content rest new : Stretch) (place next n : ℕ) (front : List ℕ) → rest ≡ from_place place content → Delivers front rest new →
    n ≡ length front → next ≡ place + n → new ≡ from_place next content
further content rest new place next n front stands d size moved =
    let along : Delivers front (from_place place content) new = subst (λ s. Delivers front s new) stands d in
    rw (moved, size) (delivered-at content new place front along).1

-- after no bytes a clean end is still one
pub still_clean : (rest new : Stretch) (front : List ℕ) → IsCleanEnd rest → Delivers front rest new → length front ≡ 0 → IsCleanEnd new
still_clean rest new front clean d none = record {
  bytes = empty_nil new.bytes (let total : length (front ++ new.bytes) ≡ 0 = ap length (sym d.bytes ∙ clean.bytes) in
      omega (arith, length-append front new.bytes, total));
  ends_well = subst IsTrue (sym d.end) clean.ends_well;
}

-- nothing but a fault is left of a content that doesn't reach further
pub ends_before : (content rest : Stretch) (place target : ℕ) → rest ≡ from_place place content → IsFault rest → place < target →
    (content.ends_well ≡ false) × (length content.bytes < target)
ends_before content rest place target stands fault before =
    let badly : content.ends_well ≡ false = ap (λ s. s.ends_well) (sym stands) ∙ fault.ends_badly in
    let none : length (drop place content.bytes) ≡ 0 = ap length (ap (λ s. s.bytes) (sym stands) ∙ fault.bytes) in
    (badly, omega (arith, before, none, length-drop place content.bytes))

-- and a clean end is that of the content
pub ends_at : (content rest : Stretch) (place : ℕ) → rest ≡ from_place place content → IsCleanEnd rest → place ≤ length content.bytes →
    IsTrue content.ends_well × (place ≡ length content.bytes)
ends_at content rest place stands clean within =
    let none : length (drop place content.bytes) ≡ 0 = ap length (ap (λ s. s.bytes) (sym stands) ∙ clean.bytes) in
    (subst IsTrue (ap (λ s. s.ends_well) stands) clean.ends_well, omega (arith, within, none, length-drop place content.bytes))

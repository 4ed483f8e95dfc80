-- Copying so many bytes, piece by piece.
use Rattle.std.specs.Prelude.{◌≡◌, ℕ, ◌+◌, ◌≤◌, ◌<◌, Bool, IsTrue, List, [], ◌++◌, length, take, drop, Ok, Err}
use Rattle.std.proofs.Common.{arith, refl, sym, ap, subst, ◌∙◌, append_assoc, append-nil, take-append-drop, length-append}
use lib.Seq.{take-append-add, take-nil}
use Rattle.age_error.specs.declared.io.Error.{Error}
use Rattle.age_io.specs.declared.traits.Read.{Ghosts}
use Rattle.age_io.specs.Stretch.{Stretch, IsCleanEnd}
use Rattle.age_io.specs.Reading.{Reads, Delivers, GivesInAll, TriedAgain}
use Rattle.age_io.proofs.Copied.{left-by-read, left-by-write}
use Rattle.age_io.proofs.Delivering.{gives-none, gives-more, gives-same}
use Rattle.age_io.specs.Copying.{AppendsFront, CopiesFront}

-- the beginning that the count asks for, by what was delivered and what is left
part_of : (count left : ℕ) (old new : Stretch) (front : List ℕ) → count ≡ length front + left → Delivers front old new →
    take count old.bytes ≡ front ++ take left new.bytes
part_of count left old new front budget delivered =
    ap (λ n. take n old.bytes) budget ∙ ap (λ l. take (length front + left) l) delivered.bytes ∙ take-append-add front new.bytes left

-- the beginning that the count asks for is what was delivered before a clean end
part_ended : (count left : ℕ) (old new : Stretch) (front : List ℕ) → count ≡ length front + left → Delivers front old new →
    IsCleanEnd new → take count old.bytes ≡ front
part_ended count left old new front budget delivered clean =
    part_of count left old new front budget delivered
    ∙ ap (λ l. front ++ take left l) clean.bytes ∙ ap (λ l. front ++ l) (take-nil left) ∙ append-nil front

-- and so it is where none of the count is left
part_full : (count left : ℕ) (old new : Stretch) (front : List ℕ) → count ≡ length front + left → Delivers front old new →
    left ≡ 0 → take count old.bytes ≡ front
part_full count left old new front budget delivered none =
    part_of count left old new front budget delivered ∙ ap (λ n. front ++ take n new.bytes) none ∙ append-nil front

module _ {S : Type 0} (read : Ghosts S) {W : Type 0} (writer_tells : W → Bool) (appended : W → List ℕ → W → Type 0) where
  -- what the reader gave so far was appended, and so many bytes of the count are left
  pub record IsPartCopied (count left : ℕ) (old new : S) (before after : W) : Type 0 where
    pub front : List ℕ
    pub budget : count ≡ length front + left
    pub gives : GivesInAll read.tells read.steady read.content read.place read.rest read.faults (TriedAgain read.refuses) old new front
    pub out : IsTrue (writer_tells before) → appended before front after

  pub part-none : (count : ℕ) (s : S) (w : W) → appended w [] w → IsPartCopied count count s s w w
  part-none count s w none = record {
    front = [];
    budget = omega arith;
    gives = gives-none read.tells read.steady read.content read.place read.rest read.faults (TriedAgain read.refuses) s;
    out = λ told. none;
  }

  -- at a clean end all that the count asks for was appended
  pub part-ended : (count left : ℕ) (old new : S) (before after : W) → IsPartCopied count left old new before after →
      IsTrue (read.tells old) → IsTrue (writer_tells before) → IsCleanEnd (read.rest new) →
      appended before (take count (read.rest old).bytes) after × (length (read.rest old).bytes < count → IsTrue (read.rest old).ends_well)
  part-ended count left old new before after so_far told writer_told clean =
      let delivered = so_far.gives.bytes told in
      let all = part_ended count left (read.rest old) (read.rest new) so_far.front so_far.budget delivered clean in
      (subst (λ l. appended before l after) (sym all) (so_far.out writer_told), λ fewer. sym delivered.end ∙ clean.ends_well)

  -- and so it was where none of the count is left
  pub part-full : (count left : ℕ) (old new : S) (before after : W) → IsPartCopied count left old new before after →
      IsTrue (read.tells old) → IsTrue (writer_tells before) → left ≡ 0 →
      appended before (take count (read.rest old).bytes) after × (length (read.rest old).bytes < count → IsTrue (read.rest old).ends_well)
  part-full count left old new before after so_far told writer_told none =
      let delivered = so_far.gives.bytes told in
      let all = part_full count left (read.rest old) (read.rest new) so_far.front so_far.budget delivered none in
      let size : length (read.rest old).bytes ≡ length so_far.front + length (read.rest new).bytes =
      ap length delivered.bytes ∙ length-append so_far.front (read.rest new).bytes in (
        subst (λ l. appended before l after) (sym all) (so_far.out writer_told),
        λ fewer. absurd (omega (arith, so_far.budget, none, size, fewer)),
      )

  -- the reader stands behind what the count asks for, once a read gave nothing at a clean end
  pub part-stands : (count left : ℕ) (old between new : S) (before after : W) (buf : List ℕ) (n : ℕ) → n ≡ 0 →
      IsPartCopied count left old between before after → Reads read.tells read.steady read.content read.place read.rest read.faults
      (TriedAgain read.refuses) between new buf (Ok n) → 0 < length buf →
      GivesInAll read.tells read.steady read.content read.place read.rest read.faults (TriedAgain read.refuses) old new
      (take count (read.rest old).bytes)
  part-stands count left old between new before after buf n none so_far r some =
      let all = gives-more read.tells read.steady read.content read.place read.rest read.faults
      (TriedAgain read.refuses) old between new so_far.front buf n
      so_far.gives r in
      gives-same read.tells read.steady read.content read.place read.rest read.faults (TriedAgain read.refuses) old new (so_far.front ++ take n buf)
      (take count (read.rest old).bytes)
      (λ told. ap (λ k. so_far.front ++ take k buf) none ∙ append-nil so_far.front ∙ sym
      (part_ended count left (read.rest old) (read.rest between) so_far.front so_far.budget (so_far.gives.bytes told)
      (r.end (so_far.gives.same_tells ∙ told) none some)))
      all

  -- and so it does where none of the count is left
  pub part-stands-full : (count left : ℕ) (old new : S) (before after : W) → IsPartCopied count left old new before after →
      left ≡ 0 → GivesInAll read.tells read.steady read.content read.place read.rest read.faults (TriedAgain read.refuses) old new
      (take count (read.rest old).bytes)
  part-stands-full count left old new before after so_far none =
      gives-same read.tells read.steady read.content read.place read.rest read.faults (TriedAgain read.refuses) old new so_far.front
      (take count (read.rest old).bytes)
      (λ told. sym (part_full count left (read.rest old) (read.rest new) so_far.front so_far.budget (so_far.gives.bytes told) none)) so_far.gives

  -- a beginning was appended
  pub part-front : (count left : ℕ) (old new : S) (before after : W) → IsPartCopied count left old new before after →
      IsTrue (read.tells old) → IsTrue (writer_tells before) → AppendsFront appended (take count (read.rest old).bytes) before after
  part-front count left old new before after so_far told writer_told = record {
    front = so_far.front;
    after = take left (read.rest new).bytes;
    joined = part_of count left (read.rest old) (read.rest new) so_far.front so_far.budget (so_far.gives.bytes told);
    out = so_far.out writer_told;
  }

  -- where the reader is left by a read that refused
  pub part-unread : (count left : ℕ) (old between new : S) (before after : W) (buf : List ℕ) (e : Error) →
      IsPartCopied count left old between before after
      → Reads read.tells read.steady read.content read.place read.rest read.faults (TriedAgain read.refuses) between new buf (Err e) →
      CopiesFront read writer_tells appended (λ given. length given ≤ count) old new before after
  part-unread count left old between new before after buf e so_far r =
      left-by-read read writer_tells appended (λ given. length given ≤ count)
      so_far.front old between new before after buf e (omega (arith, so_far.budget)) so_far.gives so_far.out r

  module _ (joins : (a b c : W) (x y : List ℕ) → appended a x b → appended b y c → appended a (x ++ y) c) where
    pub part-more : (count left after_it : ℕ) (old between new : S) (before half after : W) (buf : List ℕ) (n : ℕ) →
        IsPartCopied count left old between before half → left ≡ length (take n buf) + after_it →
        Reads read.tells read.steady read.content read.place read.rest read.faults (TriedAgain read.refuses) between new buf (Ok n)
        → (IsTrue (writer_tells before) → appended half (take n buf) after) →
        IsPartCopied count after_it old new before after
    part-more count left after_it old between new before half after buf n so_far size r out = record {
      front = so_far.front ++ take n buf;
      budget = omega (arith, so_far.budget, size, length-append so_far.front (take n buf));
      gives = gives-more read.tells read.steady read.content read.place read.rest read.faults
          (TriedAgain read.refuses) old between new so_far.front buf n so_far.gives r;
      out = λ told. joins before half after so_far.front (take n buf) (so_far.out told) (out told);
    }

    -- a beginning of a further piece was appended
    pub part-refused : (count left after_it : ℕ) (old between new : S) (before half after : W) (piece : List ℕ) (n : ℕ) →
        IsPartCopied count left old between before half → IsTrue (read.tells old) → IsTrue (writer_tells before) → left ≡ length piece + after_it →
        Delivers piece (read.rest between) (read.rest new) → appended half (take n piece) after →
        AppendsFront appended (take count (read.rest old).bytes) before after
    part-refused count left after_it old between new before half after piece n so_far told writer_told size came out = record {
      front = so_far.front ++ take n piece;
      after = drop n piece ++ take after_it (read.rest new).bytes;
      joined = part_of count left (read.rest old) (read.rest between) so_far.front so_far.budget (so_far.gives.bytes told)
          ∙ ap (λ l. so_far.front ++ l) (part_of left after_it (read.rest between) (read.rest new) piece size came)
          ∙ ap (λ p. so_far.front ++ (p ++ take after_it (read.rest new).bytes)) (sym (take-append-drop n piece))
          ∙ regroup so_far.front (take n piece) (drop n piece) (take after_it (read.rest new).bytes);
      out = joins before half after so_far.front (take n piece) (so_far.out writer_told) out;
    }
      where
        regroup : (a b c d : List ℕ) → a ++ ((b ++ c) ++ d) ≡ (a ++ b) ++ (c ++ d)
        regroup a b c d = simp append_assoc

    -- where the reader is left by a write that refused and took a beginning of a further piece
    pub part-unwritten : (count left after_it : ℕ) (old between new : S) (before half after : W) (buf : List ℕ) (n : ℕ) →
        IsPartCopied count left old between before half → left ≡ length (take n buf) + after_it →
        Reads read.tells read.steady read.content read.place read.rest read.faults (TriedAgain read.refuses) between new buf (Ok n) →
        (IsTrue (writer_tells before) → (taken : ℕ) × (taken ≤ length (take n buf)) × appended half (take taken (take n buf)) after) →
        CopiesFront read writer_tells appended (λ given. length given ≤ count) old new before after
    part-unwritten count left after_it old between new before half after buf n so_far size r wrote =
        left-by-write read writer_tells appended (λ given. length given ≤ count) joins
        so_far.front old between new before half after buf n (omega (arith, so_far.budget, size, length-append so_far.front (take n buf)))
        so_far.gives so_far.out r wrote

-- nothing was appended
pub none-copied : {W : Type 0} (appended : W → List ℕ → W → Type 0) (whole : List ℕ) (w : W) → appended w [] w → AppendsFront appended whole w w
none-copied appended whole w none = record { front = []; after = whole; joined = refl; out = none }

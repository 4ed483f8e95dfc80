-- Facts on what a reader delivers.
use Rattle.std.proofs.Common.{◌≡◌, ℕ, ◌+◌, ◌≤◌, Bool, IsTrue, List, [], ◌++◌, length, take, drop, Ok, append_assoc, arith, refl, sym, ◌∙◌, ap, subst, drop_at, take_at, length-append, length-take-le, le_refl, append-nil, inl}
use borrow.Rule.Slice.PartMut.{put_mid, post_of}
use Rattle.std.proofs.lemmas.Slice.{take-put_mid_below}
use lib.Seq.{take-add, take-append-le}
use Rattle.age_error.specs.declared.io.Error.{Error}
use Rattle.age_io.specs.Stretch.{Stretch}
use Rattle.age_io.specs.Reading.{Reads, Delivers, GivesInAll, GrewByRead}

-- what is delivered in turn is delivered joined
pub Delivers-joined : (xs ys : List ℕ) (a b c : Stretch) → Delivers xs a b → Delivers ys b c → Delivers (xs ++ ys) a c
Delivers-joined xs ys a b c p q = record { bytes = p.bytes ∙ (ap (λ l. xs ++ l) q.bytes ∙ sym (append_assoc xs ys c.bytes)); end = q.end ∙ p.end }

cong-append : {a b c d : List ℕ} → a ≡ b → c ≡ d → a ++ c ≡ b ++ d
cong-append p q = cc

-- the front of a buffer into whose part from `at` on a read put n bytes
pub take-filled : (at k n : ℕ) (xs ys : List ℕ) → at ≤ length xs → n ≤ length ys →
    take (at + n) (put_mid at k xs ys) ≡ take at xs ++ take n ys
take-filled at k n xs ys within room =
    let after = post_of at k xs in
    take-add at n (put_mid at k xs ys) ∙
    cong-append (take-put_mid_below at k xs ys at (le_refl at) within)
    (ap (take n) (drop_at (take at xs) (ys ++ after) at (length-take-le at xs within)) ∙ take-append-le n ys after room)

-- the buffer of a list after a read into all of it
pub refilled : (old new : List ℕ) (len : ℕ) → len ≡ length old → length new ≡ length old → take len (new ++ drop (length new) old) ≡ new
refilled old new len same kept = take_at new (drop (length new) old) len (kept ∙ sym same)

-- a list has grown by what was delivered
pub record Grown (before after : List ℕ) (old new : Stretch) : Type 0 where
  pub front : List ℕ
  pub grown : after ≡ before ++ front
  pub delivered : Delivers front old new

pub Grown-more : (before middle after more : List ℕ) (old reached new : Stretch) → Grown before middle old reached →
    Delivers more reached new → after ≡ middle ++ more → Grown before after old new
Grown-more before middle after more old reached new g d e = record {
  front = g.front ++ more;
  grown = e ∙ ap (λ l. l ++ more) g.grown ∙ append_assoc before g.front more;
  delivered = Delivers-joined g.front more old reached new g.delivered d;
}

-- nothing was read yet
pub Appended-none : (s : Stretch) (xs : List ℕ) → GrewByRead s s xs xs
Appended-none s xs = record {
  front = [];
  grown = sym (append-nil xs);
  middle = s;
  delivered = record { bytes = refl; end = refl };
  left = inl refl;
}

module _ {S : Type 0} (tells steady : S → Bool) (content : S → Stretch) (place : S → ℕ) (rest : S → Stretch) (faults : S → ℕ)
    (refuses : S → Error → Type 0) where
  -- no read gave anything yet
  pub gives-none : (s : S) → GivesInAll tells steady content place rest faults refuses s s []
  gives-none s = record {
    same_tells = refl;
    same_steady = refl;
    no_fewer_faults = omega arith;
    narrows = λ e h. h;
    same_content = λ told. refl;
    bytes = λ told. record { bytes = refl; end = refl };
    moves = λ told. omega arith;
  }

  -- a further read
  pub gives-more : (old between new : S) (got buf : List ℕ) (n : ℕ) → GivesInAll tells steady content place rest faults refuses old between got →
      Reads tells steady content place rest faults refuses between new buf (Ok n)
      → GivesInAll tells steady content place rest faults refuses old new (got ++ take n buf)
  gives-more old between new got buf n g r = record {
    same_tells = r.same_tells ∙ g.same_tells;
    same_steady = r.same_steady ∙ g.same_steady;
    no_fewer_faults = omega (arith, g.no_fewer_faults, r.no_fewer_faults);
    narrows = λ e h. g.narrows e (r.narrows e h);
    same_content = λ told. r.same_content (g.same_tells ∙ told) ∙ g.same_content told;
    bytes = λ told. Delivers-joined got (take n buf) (rest old) (rest between) (rest new) (g.bytes told) (r.bytes (g.same_tells ∙ told));
    moves = λ told.
        omega (arith, g.moves told, r.moves (g.same_tells ∙ told), length-append got (take n buf), length-take-le n buf r.count);
  }

  -- a reader that tells its bytes gave these, by another name
  pub gives-same : (old new : S) (got other : List ℕ) → (IsTrue (tells old) → got ≡ other) →
      GivesInAll tells steady content place rest faults refuses old new got → GivesInAll tells steady content place rest faults refuses old new other
  gives-same old new got other same g = record {
    same_tells = g.same_tells;
    same_steady = g.same_steady;
    no_fewer_faults = g.no_fewer_faults;
    narrows = g.narrows;
    same_content = g.same_content;
    bytes = λ told. subst (λ l. Delivers l (rest old) (rest new)) (same told) (g.bytes told);
    moves = λ told. g.moves told ∙ ap (λ l. place old + length l) (same told);
  }

-- The laws of `AppendsFront`.
use Rattle.std.specs.Prelude.{ℕ, Bool, IsTrue, List, [], ◌++◌, take, drop, Result, Ok, Err}
use Rattle.std.proofs.Common.{refl, sym, ap, ◌∙◌, append_assoc}
use Rattle.std.proofs.lemmas.List.{append-nil, take-append-drop}
use Rattle.age_error.specs.declared.io.Error.{Error}
use Rattle.age_io.specs.Copying.{AppendsFront}
use Rattle.age_io.specs.Writing.{Writes, WritesAll}

module _ {W : Type 0} (appended : W → List ℕ → W → Type 0) where
  -- nothing went out
  pub front-nothing : (whole : List ℕ) (a b : W) → appended a [] b → AppendsFront appended whole a b
  front-nothing whole a b out = record { front = []; after = whole; joined = refl; out = out }

  -- and nothing was asked
  pub front-none : ((w : W) → appended w [] w) → (whole : List ℕ) (w : W) → AppendsFront appended whole w w
  front-none nothing whole w = front-nothing whole w w (nothing w)

  -- all went out
  pub front-all : (whole : List ℕ) (a b : W) → appended a whole b → AppendsFront appended whole a b
  front-all whole a b out = record { front = whole; after = []; joined = sym (append-nil whole); out = out }

  -- the first n bytes did
  pub front-take : (n : ℕ) (whole : List ℕ) (a b : W) → appended a (take n whole) b → AppendsFront appended whole a b
  front-take n whole a b out = record { front = take n whole; after = drop n whole; joined = sym (take-append-drop n whole); out = out }

  -- a beginning is one of more
  pub front-more : (whole more : List ℕ) (a b : W) → AppendsFront appended whole a b → AppendsFront appended (whole ++ more) a b
  front-more whole more a b f = record {
    front = f.front;
    after = f.after ++ more;
    joined = ap (λ (l : List ℕ). l ++ more) f.joined ∙ append_assoc f.front f.after more;
    out = f.out;
  }

  -- a beginning after what went out whole
  pub front-later : ((a b c : W) (x y : List ℕ) → appended a x b → appended b y c → appended a (x ++ y) c) →
      (first whole : List ℕ) (a b c : W) → appended a first b → AppendsFront appended whole b c → AppendsFront appended (first ++ whole) a c
  front-later joins first whole a b c out f = record {
    front = first ++ f.front;
    after = f.after;
    joined = ap (λ (l : List ℕ). first ++ l) f.joined ∙ sym (append_assoc first f.front f.after);
    out = joins a b c first f.front out f.out;
  }

  -- and then nothing
  pub front-still : ((a b c : W) (x y : List ℕ) → appended a x b → appended b y c → appended a (x ++ y) c) →
      (whole : List ℕ) (a b c : W) → AppendsFront appended whole a b → appended b [] c → AppendsFront appended whole a c
  front-still joins whole a b c f out = record {
    front = f.front;
    after = f.after;
    joined = f.joined;
    out = rw (sym (append-nil f.front)) (joins a b c f.front [] f.out out);
  }

  module _ (tells : W → Bool) (faults : W → ℕ) (refuses : W → ℕ → Error → Type 0) where
    -- what a write came to
    pub front-written : (a b : W) (whole : List ℕ) (r : Result ℕ Error) → IsTrue (tells a) → Writes tells faults refuses appended a b whole r →
        AppendsFront appended whole a b
    front-written a b whole (Ok n) told w = front-take n whole a b (w.takes_front told)
    front-written a b whole (Err e) told w = let out = w.takes_part told in front-take out.0 whole a b out.2

    -- what a write of all bytes came to
    pub front-all_written : {T : Type 0} (a b : W) (whole : List ℕ) (r : Result T Error) → IsTrue (tells a) →
        WritesAll tells faults refuses appended a b whole r → AppendsFront appended whole a b
    front-all_written a b whole (Ok x) told w = front-all whole a b (w.takes_all told)
    front-all_written a b whole (Err e) told w = let out = w.takes_front told in front-take out.0 whole a b out.2

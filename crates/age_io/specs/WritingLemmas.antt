-- What two steps of a writer say of both, and what stays of a writer that is given bytes.
use Rattle.std.specs.Prelude.{◌≡◌, ℕ, ◌+◌, ◌≤◌, Bool, List, length, Result, Ok, Err}
use Rattle.std.proofs.Common.{refl, arith, subst, sym, zero-add, ◌∙◌, inl, inr}
use Rattle.age_error.specs.Refusals.{IsInterruption}
use Rattle.age_error.specs.declared.io.Error.{Error}
use Rattle.age_error.specs.declared.io.Error.TheVariants.{Device}
use Rattle.age_error.specs.declared.io.ErrorKind.TheVariants.{Interrupted}
use Rattle.age_io.specs.Writing.{Narrows, Retried, HandsOn, WritesAll, KeepsWriter}

module _ {S : Type 0} (refuses : S → ℕ → Error → Type 0) where
  -- a state and itself
  pub narrows-same : (w : S) → Narrows refuses w 0 w
  narrows-same w n e h = subst (λ k. refuses w k e) (sym (zero-add n)) h

  -- two steps
  pub narrows-both : (a b c : S) (m n : ℕ) → Narrows refuses a m b → Narrows refuses b n c → Narrows refuses a (m + n) c
  narrows-both a b c m n first second k e h =
      let joined : m + (n + k) ≡ (m + n) + k = omega arith in
      subst (λ l. refuses a l e) joined (first (n + k) e (second k e h))

  -- a step that gave nothing changes nothing of the reasons
  pub narrows-now : (a b : S) → Narrows refuses a 0 b → (n : ℕ) (e : Error) → refuses b n e → refuses a n e
  narrows-now a b first n e h = subst (λ k. refuses a k e) (zero-add n) (first n e h)

  -- where interruptions are tried again, too
  pub retried-narrows : (a b : S) (m : ℕ) → Narrows refuses a m b → Narrows (Retried refuses) a m b
  retried-narrows a b m first n e h = elim h [
    | inl plain ↦ inl (plain.0, first n e plain.1)
    | inr worn ↦ inr (worn.0, first n (Device Interrupted) worn.1)
  ]

  pub retried-more : ((w : S) (m n : ℕ) (e : Error) → m ≤ n → refuses w m e → refuses w n e) →
      (w : S) (m n : ℕ) (e : Error) → m ≤ n → Retried refuses w m e → Retried refuses w n e
  retried-more more w m n e fewer h = elim h [
    | inl plain ↦ inl (plain.0, more w m n e fewer plain.1)
    | inr worn ↦ inr (worn.0, more w m n (Device Interrupted) fewer worn.1)
  ]

  -- none of them is an interruption
  pub retried-patient : (w : S) (n : ℕ) (e : Error) → Retried refuses w n e → IsInterruption e → ⊥
  retried-patient w n e h is = elim h [
    | inl plain ↦ plain.0 is
    | inr worn ↦ subst IsInterruption worn.0 is
  ]

  -- and where none is one anyhow, nothing is lost
  pub retried-plain : (w : S) (n : ℕ) (e : Error) → (refuses w n (Device Interrupted) → ⊥) → Retried refuses w n e → refuses w n e
  retried-plain w n e patient h = elim h [
    | inl plain ↦ plain.1
    | inr worn ↦ absurd (patient worn.1)
  ]

  pub hands-on-patient : (w : S) (e : Error) → HandsOn refuses w e → IsInterruption e → ⊥
  hands-on-patient w e h = retried-patient w h.0 e h.1

  pub hands-on-narrows : (a b : S) (m : ℕ) → Narrows (Retried refuses) a m b → (e : Error) → HandsOn refuses b e → HandsOn refuses a e
  hands-on-narrows a b m first e h = (m + h.0, first h.0 e h.1)

module _ {S : Type 0} (tells : S → Bool) (faults : S → ℕ) where
  module _ (refuses : S → ℕ → Error → Type 0) (appended : S → List ℕ → S → Type 0) where
    -- a writer that was given bytes is the same but for what was appended
    pub keeps-writer : {T : Type 0} (old new : S) (bytes : List ℕ) (r : Result T Error) →
        WritesAll tells faults (Retried refuses) appended old new bytes r → KeepsWriter tells faults (HandsOn refuses) old new r
    keeps-writer old new bytes (Ok x) w = record {
      same_tells = w.same_tells;
      no_fewer_faults = w.no_fewer_faults;
      device = tt;
      why = tt;
      narrows = hands-on-narrows refuses old new (length bytes) w.narrows;
    }
    keeps-writer old new bytes (Err e) w = record {
      same_tells = w.same_tells;
      no_fewer_faults = w.no_fewer_faults;
      device = w.device;
      why = (length bytes, w.why);
      narrows = tt;
    }

  module _ (may : S → Error → Type 0) where
    pub keeps-same : {T : Type 0} (w : S) (x : T) → KeepsWriter tells faults may w w (Ok x)
    keeps-same w x = record {
      same_tells = refl;
      no_fewer_faults = omega arith;
      device = tt;
      why = tt;
      narrows = λ e h. h;
    }

    -- a step after one that went well
    pub keeps-later : {T U : Type 0} (old between new : S) (x : T) (r : Result U Error) → KeepsWriter tells faults may old between (Ok x) →
        KeepsWriter tells faults may between new r → KeepsWriter tells faults may old new r
    keeps-later old between new x (Ok y) first second = record {
      same_tells = second.same_tells ∙ first.same_tells;
      no_fewer_faults = omega (arith, first.no_fewer_faults, second.no_fewer_faults);
      device = tt;
      why = tt;
      narrows = λ e h. first.narrows e (second.narrows e h);
    }
    keeps-later old between new x (Err e) first second = record {
      same_tells = second.same_tells ∙ first.same_tells;
      no_fewer_faults = omega (arith, first.no_fewer_faults, second.no_fewer_faults);
      device = λ is. omega (arith, first.no_fewer_faults, second.device is);
      why = first.narrows e second.why;
      narrows = tt;
    }

    -- the same step, told of another value
    pub keeps-well : {T U : Type 0} (old new : S) (x : T) (y : U) → KeepsWriter tells faults may old new (Ok x)
        → KeepsWriter tells faults may old new (Ok y)
    keeps-well old new x y k = record {
      same_tells = k.same_tells;
      no_fewer_faults = k.no_fewer_faults;
      device = tt;
      why = tt;
      narrows = k.narrows;
    }

-- Seeks of a device whose bytes nobody knows.
use Rattle.std.specs.Prelude.{ℕ, ◌<◌, ◌≤◌, ◌⊎◌, pos, Bool, true, false, IsTrue, List, length, Option, Some, None, Result, Ok, Err, OnOk, IfErr, IsErrAnd, nat_le, if◌then◌else◌}
use Rattle.std.proofs.Common.{◌≡◌, ◌∙◌, arith, refl, sym, ap, subst, inl, inr}
use Rattle.std.specs.Io.Seek.{SeekMoves}
use Rattle.std.specs.Io.KnownBytes.{Keeps}
use Rattle.std.specs.declared.io.traits.SeekFrom.TheVariants.{Start, End, Current}
use Rattle.age_error.specs.Refusals.{IsDevice}
use Rattle.age_error.specs.declared.io.Error.{Error}
use Rattle.age_error.specs.declared.io.Error.TheVariants.{PastEnd, TooLong}
use Rattle.age_error.specs.declared.io.SeekFrom.{SeekFrom}
use Rattle.age_io.specs.Cursor.{Seeks, IsSeekRefusal, moved_to, target}
use Rattle.age_io.specs.Reading.{most_faults}
use Rattle.age_io.specs.Standard.{CountsFaults, CountsOwnFaults, IsNoDevice, IsReadRefusal, StandsAfter, sought_below}
use Rattle.age_io.specs.Stretch.{nothing}
use Rattle.age_io.proofs.Exiting.{OnOk-of, IfErr-of}

-- what only seeks of a device refuse with
abbrev seek_refuses : Error → Type 0
seek_refuses e = e ≡ TooLong

untold : {A : Type 0} → IsTrue false → A
untold told = absurd (Prim.cc)

-- a device's refusal that is passed on
pub counts-passed : {T : Type 0} (old new : ℕ) (r : Result T Error) (e : Error) →
    IsErrAnd r (λ x. x ≡ e) → CountsFaults {T = T} old new (Err e) → CountsFaults old new r
counts-passed old new (Ok x) e is counts = absurd is
counts-passed old new (Err x) e is counts = (subst IsDevice (sym is) counts.0, counts.1)

-- after it nothing is said of where the device stands
pub stands-failed : (wanted : Result ℕ Error) (place : ℕ) (position : Option ℕ) (r : Result ℕ Error) (e : Error) →
    IsErrAnd r (λ x. x ≡ e) → IsDevice e → StandsAfter wanted place position r
stands-failed wanted place position (Ok x) e is failed = absurd is
stands-failed wanted place position (Err x) e is failed = λ other. absurd (other (subst IsDevice (sym is) failed))

module _ {S : Type 0} (faults : S → ℕ) (old new : S) (to : SeekFrom) where
  -- what a seek answers, of which only faults and reasons are known
  seeks-untold : (r : Result ℕ Error) → faults old ≤ faults new → IfErr r (λ e. IsDevice e → faults old < faults new)
      → OnOk r (faults new < most_faults) →
      IfErr r (λ e. IsSeekRefusal seek_refuses e ⊎ IsReadRefusal e) →
      Seeks (λ _. false) (λ _. false) (λ _. nothing) (λ _. 0) (λ _. nothing) faults (λ _. IsReadRefusal) seek_refuses old new to r
  seeks-untold r more device unspent why = record {
    same_tells = refl;
    same_steady = refl;
    no_fewer_faults = more;
    device = device;
    unspent = unspent;
    why = why;
    narrows = OnOk-of r (λ e h. h);
    again = IfErr-of r (λ x is e h. h);
    missed = IfErr-of r (λ x is e h. h);
    same_content = λ _. refl;
    arrives = untold;
    leads = untold;
    stays = untold;
    interrupted = untold;
    moves = untold;
    kept = untold;
    refused = untold;
    cause = untold;
  }

  -- by the count of faults before its last step, which is that of its first
  pub seeks-counted : (between : ℕ) (r : Result ℕ Error) → between ≡ faults old → between < most_faults → CountsFaults between (faults new) r →
      Seeks (λ _. false) (λ _. false) (λ _. nothing) (λ _. 0) (λ _. nothing) faults (λ _. IsReadRefusal) seek_refuses old new to r
  seeks-counted between (Ok n) same below counts = seeks-untold (Ok n) (omega (arith, same, counts)) tt (omega (arith, below, counts)) tt
  seeks-counted between (Err e) same below counts =
      seeks-untold (Err e) (omega (arith, same, counts.1)) (λ is. omega (arith, same, counts.1)) tt (inr (inl counts.0))

  -- a target that is refused, where the device had no fault
  pub seeks-refused : (e : Error) → faults new ≡ faults old → IsNoDevice e → IsSeekRefusal seek_refuses e →
      Seeks (λ _. false) (λ _. false) (λ _. nothing) (λ _. 0) (λ _. nothing) faults (λ _. IsReadRefusal) seek_refuses old new to (Err e)
  seeks-refused e same other why = seeks-untold (Err e) (omega (arith, same)) (λ is. absurd (other is)) tt (inl why)

fitting : (fits : Bool) (n : ℕ) → IfErr {T = ℕ} (if fits then Ok n else Err PastEnd) (IsSeekRefusal seek_refuses)
fitting true n = tt
fitting false n = inl tt

moving : (below : Bool) (to : Option ℕ) (len : ℕ) → IfErr (if below then moved_to to len else Err TooLong) (IsSeekRefusal seek_refuses)
moving true None len = inl tt
moving true (Some n) len = fitting (nat_le n len) n
moving false to len = inr refl

-- why a target is refused
pub below-refused : (to : SeekFrom) (place len : ℕ) (e : Error) → Err e ≡ sought_below to place len → IsSeekRefusal seek_refuses e
below-refused to place len e is = subst (λ r. IfErr r (IsSeekRefusal seek_refuses)) (sym is) (moving _ (target to place len) len)

-- what a device says of its place and its length, where std knows them
found : (place here len : ℕ) (bytes : List ℕ) (at behind : Option ℕ) (kept : Option (List ℕ)) →
    SeekMoves {E = Error} (Some place) at (Some bytes) (Current (pos 0)) (Ok here) → Keeps (Some bytes) kept →
    SeekMoves {E = Error} at behind kept (End (pos 0)) (Ok len) → (here ≡ place) × (len ≡ length bytes) × (behind ≡ Some len)
found place here len bytes None behind kept first keeps second = let none : None ≡ Some here = first.1 in absurd (Prim.cc)
found place here len bytes (Some x) behind None first keeps second = absurd keeps
found place here len bytes (Some x) behind (Some ys) first keeps second = (omega (arith, first.0), omega (arith, second.0, ap length keeps), second.1)

module _ (to : SeekFrom) (place here len : ℕ) (bytes : List ℕ) (before at behind after : Option ℕ) (content kept left : Option (List ℕ))
    (is_at : before ≡ Some place) (holds : content ≡ Some bytes)
    (first : SeekMoves {E = Error} before at content (Current (pos 0)) (Ok here)) (keeps : Keeps content kept)
    (second : SeekMoves {E = Error} at behind kept (End (pos 0)) (Ok len)) where
  told : (here ≡ place) × (len ≡ length bytes) × (behind ≡ Some len)
  told = found place here len bytes at behind kept
      (subst (λ b. SeekMoves {E = Error} (Some place) at b (Current (pos 0)) (Ok here)) holds
      (subst (λ p. SeekMoves {E = Error} p at content (Current (pos 0)) (Ok here)) is_at first))
      (subst (λ b. Keeps b kept) holds keeps) second

  wanted : (r : Result ℕ Error) → r ≡ sought_below to here len → sought_below to place (length bytes) ≡ r
  wanted r is = subst (λ p. sought_below to p (length bytes) ≡ r) told.0 (subst (λ l. sought_below to here l ≡ r) told.1 (sym is))

  -- it stands again where it stood, once the target was refused
  pub stands-again : (n : ℕ) (e : Error) → Err e ≡ sought_below to here len → SeekMoves {E = Error} behind after left (Start here) (Ok n) →
      (sought_below to place (length bytes) ≡ Err e) × (after ≡ Some place)
  stands-again n e is third =
      let moved = subst (λ p. SeekMoves {E = Error} p after left (Start here) (Ok n)) told.2 third in
      (wanted (Err e) is, moved.1 ∙ ap Some (moved.0 ∙ told.0))

  -- it stands at the target, unless it fails
  pub stands-there : (faults more target : ℕ) (r : Result ℕ Error) → Ok target ≡ sought_below to here len
      → SeekMoves behind after left (Start target) r →
      CountsFaults faults more r → StandsAfter (sought_below to place (length bytes)) place after r
  stands-there faults more target (Ok n) is third counts =
      let moved = subst (λ p. SeekMoves {E = Error} p after left (Start target) (Ok n)) told.2 third in
      (wanted (Ok target) is ∙ ap Ok (sym moved.0), moved.1)
  stands-there faults more target (Err e) is third counts = λ other. absurd (other counts.0)

-- two steps keep what is known of the bytes
pub keeps-both : (a b c : Option (List ℕ)) → Keeps a b → Keeps b c → Keeps a c
keeps-both None b c first second = tt
keeps-both (Some xs) None c first second = absurd first
keeps-both (Some xs) (Some ys) None first second = absurd second
keeps-both (Some xs) (Some ys) (Some zs) first second = second ∙ first

-- faults are counted from its first step, too
pub own-counted : (old between new : ℕ) (r : Result ℕ Error) → between ≡ old → CountsFaults between new r → CountsOwnFaults old new r
own-counted old between new (Ok n) same counts = counts ∙ same
own-counted old between new (Err e) same counts = (λ is. omega (arith, same, counts.1), λ other. absurd (other counts.0))

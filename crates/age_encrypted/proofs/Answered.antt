-- What a file that was tried to open answers, and what stays of it.
use Rattle.std.specs.Prelude.{◌≡◌, ℕ, Bool, List, Option, Some, Err, refl}
use Rattle.std.proofs.Common.{ap, inl, inr, subst, sym}
use Rattle.age_error.specs.DecryptErrors.{DecryptRefusal, OutOfMemory, decrypt_refusal}
use Rattle.age_error.specs.declared.decrypt.DecryptError.{DecryptError}
use Rattle.age_suite.specs.declared.suite.Suite.{Ghosts as SuiteMembers}
use Rattle.age_io.specs.declared.traits.Read.{Ghosts as ReadMembers}
use Rattle.age_v1.specs.Stanza.{StanzaValue}
use Rattle.age_v1.specs.Identities.{UnwrapAnswer}
use Rattle.age_v1.specs.X25519.{UnwrapsBy}
use Rattle.age_stream.specs.declared.reader.StreamReader.{StreamReader}
use Rattle.age_identity.specs.Asking.{EntriesAnswer}
use Rattle.age_identity.specs.IdentityFile.{entries_of}
use Rattle.age_identity.specs.declared.callbacks.NoCallbacks.{NoCallbacks}
use Rattle.age_identity.specs.declared.identity.IdentityFile.{IdentityFile}
use Rattle.age_encrypted.specs.Protected.{opened_by_asking}
use Rattle.age_encrypted.specs.Identity.{of_state}
use Rattle.age_encrypted.specs.ProtectedIdentity.{State, Decrypted, Failed, is_encrypted, OpensOnce, Repeats, Shows, Uses}
use Rattle.age_encrypted.specs.declared.identity.IdentityState.{IdentityState}
use Rattle.age_encrypted.specs.declared.identity.IdentityState.TheVariants as own

-- a refusal that is repeated is an answer
repeats_so : (refusal repeated : DecryptRefusal) → Repeats (λ e. e) OutOfMemory refusal repeated
    → Repeats {A = UnwrapAnswer} (λ e. Some (Err e)) (Some (Err OutOfMemory)) refusal (Some (Err repeated))
repeats_so refusal repeated (inl is) = inl (ap (λ e. Some (Err e)) is)
repeats_so refusal repeated (inr (text, is)) = inr (text, ap (λ e. Some (Err e)) is)

module _ {S R : Type 0} (suite : SuiteMembers S) {read : ReadMembers R} (stream_read : ReadMembers (StreamReader S R suite read))
    {C : Type 0} (gives : C → List ℕ → Option (List ℕ) → C → Type 0) (filename : Option (List ℕ)) (displays : C → List ℕ → C → Type 0)
    (before : State R C) (stanzas : List StanzaValue) (state : IdentityState S R) (callbacks : C)
    (opens : OpensOnce suite stream_read gives filename before (of_state state callbacks)) where
  -- an opened file answers as its entries do, and those who were asked may be shown a message
  pub decrypted_answers : (file : IdentityFile S NoCallbacks) → state ≡ own.Decrypted file → (first : Bool) → first ≡ is_encrypted before
      → (answer : UnwrapAnswer) → EntriesAnswer (UnwrapsBy suite.opened suite.shared_of suite.public_of) (entries_of file) stanzas answer
      → (shown : C) → Shows displays first answer callbacks shown
      → Uses suite stream_read gives filename displays before stanzas answer (of_state state shown)
  decrypted_answers file is first first_is answer answers shown shows =
      subst (λ s. Uses suite stream_read gives filename displays before stanzas answer (of_state s shown)) (sym is) (
        Decrypted (opened_by_asking callbacks (entries_of file)),
        subst (λ s. OpensOnce suite stream_read gives filename before (of_state s callbacks)) is opens,
        (answers, (shown, subst (λ b. Shows displays b answer callbacks shown) first_is shows, refl)),
      )

  -- one that failed answers its refusal, and nothing becomes of those who were asked
  pub failed_answers : (e : DecryptError) → state ≡ own.Failed e → (repeated : DecryptRefusal)
      → Repeats (λ refusal. refusal) OutOfMemory (decrypt_refusal e) repeated
      → Uses suite stream_read gives filename displays before stanzas (Some (Err repeated)) (of_state state callbacks)
  failed_answers e is repeated repeats =
      subst (λ s. Uses suite stream_read gives filename displays before stanzas (Some (Err repeated)) (of_state s callbacks)) (sym is) (
        Failed (decrypt_refusal e) callbacks,
        subst (λ s. OpensOnce suite stream_read gives filename before (of_state s callbacks)) is opens,
        (repeats_so (decrypt_refusal e) repeated repeats, refl),
      )

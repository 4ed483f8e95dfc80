-- What one who decrypts answers: as the identity that is held.
use Rattle.std.specs.Prelude.{◌≡◌, ℕ, List, Some, None, Err}
use Rattle.age.specs.DecryptErrors.{KeyDecryptionFailed}
use Rattle.age.specs.Stanza.{StanzaValue}
use Rattle.age.specs.Identities.{UnwrapAnswer, Unwraps}
use Rattle.age.specs.Scrypt.{PassphraseIdentity}
use Rattle.age.specs.Types.{ProtectedIdentity as Protected}
use Rattle.sazh_core.specs.declared.holder.Holder.{Holder}
use Rattle.sazh_core.specs.declared.holder.Holder.TheVariants.{Key, File, Passphrase}

-- a file that its passphrase doesn't open is passed over
abbrev pub passed_over : UnwrapAnswer → UnwrapAnswer
passed_over (Some (Err KeyDecryptionFailed)) = None
passed_over answer = answer

-- an identity's own relation: the identity before, the stanzas, the answer and the identity after
abbrev pub Relation : Type 0 → Type 1
Relation I = I → List StanzaValue → UnwrapAnswer → I → Type 0

module _ {S R C : Type 0} (key : Relation (List ℕ)) (file : Relation (Protected S R C)) (passphrase : Relation PassphraseIdentity) where
  -- By cases: the answer is that of the identity that is held, to one stanza after the other or by its own relation on lists, but for a file
  -- that is passed over, and what is held afterwards is what it became.
  abbrev pub HolderUnwraps : Relation (Holder S R C)
  HolderUnwraps (Key before) stanzas answer after = (then_ : List ℕ) × Unwraps key before stanzas answer then_ × (after ≡ Key then_)
  HolderUnwraps (File before) stanzas answer after = (own : UnwrapAnswer) × (then_ : Protected S R C)
      × Unwraps file before stanzas own then_ × (answer ≡ passed_over own) × (after ≡ File then_)
  HolderUnwraps (Passphrase before) stanzas answer after =
      (then_ : PassphraseIdentity) × Unwraps passphrase before stanzas answer then_ × (after ≡ Passphrase then_)

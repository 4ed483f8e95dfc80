-- A text gives one plaintext.
use Rattle.std.specs.Prelude.{◌≡◌, ◌⊎◌, ℕ, List, Some, Ok, Err}
use Rattle.std.proofs.Common.{sym, subst, inl, inr}
use Rattle.age.specs.Bytes.{AreBytes}
use Rattle.age.specs.Armor.{Carries}
use Rattle.age.specs.DecryptErrors.{OutOfMemory}
use Rattle.age.specs.Stanza.{StanzaValue}
use Rattle.age.specs.Identities.{UnwrapAnswer, CarriesFile, GivesFirst, FirstAnswer, IsFileFor}
use Rattle.age.specs.Payload.{Seal}
use Rattle.age.specs.File.{IsFileOf}
use Rattle.age.specs.FileLaws.{OneHeader, OnePlain}
use Rattle.age_claims.specs.Claims.{CarriesFor}

-- a text carries one list of bytes
abbrev pub CarriesOne : Type 0
CarriesOne = (text bytes others : List ℕ) → Carries text bytes → Carries text others → bytes ≡ others

-- an answer that is a file key, or want of memory, is that file key
pub same_key : (key other : List ℕ)
    → (Path UnwrapAnswer (Some (Ok key)) (Some (Ok other))) ⊎ (Path UnwrapAnswer (Some (Ok key)) (Some (Err OutOfMemory))) → key ≡ other
same_key key other (inl is) = cc
same_key key other (inr is) = absurd (Prim.cc)

-- said of a text that is written otherwise
pub carries_as : (read written carried : List ℕ) → read ≡ written → Carries written carried → Carries read carried
carries_as read written carried is carries = subst (λ (l : List ℕ). Carries l carried) (sym is) carries

-- said of a plaintext and of a text that are written otherwise
pub carries_for : (seal_of : Seal) (answers : List StanzaValue → UnwrapAnswer → Type 0) (read plain text written file : List ℕ) → read ≡ plain
    → text ≡ written
    → Carries written file → IsFileFor seal_of answers read file → CarriesFor seal_of answers plain text
carries_for seal_of answers read plain text written file plain_is text_is carries for = record {
  file = file;
  carries = carries_as text written file text_is carries;
  is_for = subst (λ (p : List ℕ). IsFileFor seal_of answers p file) plain_is for;
}

module _ (seal_of : Seal) (one_list : CarriesOne) (one_header : OneHeader seal_of) (one_plain : OnePlain seal_of) where
  -- two files that one text carries have one plaintext, where the same stanzas come with the same file key
  pub same_plain : (key other : List ℕ) (stanzas others : List StanzaValue) (back plain text bytes file : List ℕ) → Carries text bytes
      → Carries text file
      → IsFileOf seal_of key stanzas back bytes → IsFileOf seal_of other others plain file → AreBytes back → AreBytes plain
      → (stanzas ≡ others → key ≡ other) → back ≡ plain
  same_plain key other stanzas others back plain text bytes file carries carried is_file for_file back_bytes plain_bytes keys =
      let same : bytes ≡ file = one_list text bytes file carries carried in
      let opened : IsFileOf seal_of key stanzas back file = subst (λ (l : List ℕ). IsFileOf seal_of key stanzas back l) same is_file in
      let stanzas_are : stanzas ≡ others = one_header key other stanzas others back plain file opened for_file in
      one_plain other stanzas others back plain file back_bytes plain_bytes
      (subst (λ (k : List ℕ). IsFileOf seal_of k stanzas back file) (keys stanzas_are) opened) for_file

  -- what is decrypted of a text that carries a file for the identities is the file's plaintext
  pub given_is : {I : Type 0} (unwraps : I → List StanzaValue → UnwrapAnswer → I → Type 0) (identities after : List I) (plain file text back : List ℕ)
      → IsFileFor seal_of (FirstAnswer unwraps identities) plain file → Carries text file
      → CarriesFile seal_of (GivesFirst unwraps identities after) text back → back ≡ plain
  given_is unwraps identities after plain file text back for carries got =
      same_plain got.file_key for.file_key got.stanzas for.stanzas back plain text got.carried file got.carries carries got.is_file for.is_file
      got.bytes for.bytes
      (λ same. same_key got.file_key for.file_key
      (for.right (Some (Ok got.file_key)) (
        after,
        subst (λ (s : List StanzaValue). GivesFirst unwraps identities after got.file_key s) same
            got.given,
      )))

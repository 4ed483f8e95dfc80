-- What is decrypted of bytes that begin with a file's header and nonce.
use Rattle.std.specs.Prelude.{◌≡◌, ℕ, List, [], ◌∷◌, ◌++◌, Some, Ok}
use Rattle.std.proofs.Common.{◌∙◌, sym, ap, subst}
use Rattle.age.specs.Armor.{Carries}
use Rattle.age.specs.Header.{covered_text}
use Rattle.age.specs.HeaderMac.{header_mac}
use Rattle.age.specs.Stanza.{StanzaValue}
use Rattle.age.specs.Identities.{UnwrapAnswer, Unwraps, CarriesFile, GivesFirst, FirstAnswer, IsFileFor, Decrypts}
use Rattle.age.specs.Payload.{Seal, payload, payload_key}
use Rattle.age.specs.File.{IsFileOf, file_front, file_text}
use Rattle.age.proofs.Accepted.{ReadsAlone, HasOneVerdict}
use Rattle.age_claims.proofs.Alone.{alone}
use Rattle.age_claims.proofs.Given.{CarriesOne, same_key}
use Rattle.age_claims.proofs.SameFronts.{fronted, same_front}

-- A text carries a file's header and nonce, and then anything. What follows is the payload of what came out, under the file's own payload key,
-- where whoever gives a file key to the file's stanzas gives the file's.
pub behind : (seal_of : Seal) (answers : List StanzaValue → UnwrapAnswer → Type 0) (gives : List ℕ → List StanzaValue → Type 0)
    (text file plain rest given : List ℕ) (for : IsFileFor seal_of answers plain file) → ((key : List ℕ) → gives key for.stanzas → key ≡ for.file_key)
    → ReadsAlone → HasOneVerdict → CarriesOne → Carries text (file_front for.file_key for.stanzas for.is_file.nonce ++ rest)
    → CarriesFile seal_of gives text given → rest ≡ payload seal_of (payload_key for.file_key for.is_file.nonce) given
behind seal_of answers gives text file plain rest given for keys reads_alone one one_list carries d =
    let f : IsFileOf seal_of for.file_key for.stanzas plain file = for.is_file in
    let bytes = file_front for.file_key for.stanzas f.nonce ++ rest in
    let got : IsFileOf seal_of d.file_key d.stanzas given bytes =
    subst (λ (l : List ℕ). IsFileOf seal_of d.file_key d.stanzas given l) (one_list text d.carried bytes d.carries carries) d.is_file in
    let mac = header_mac for.file_key (covered_text for.stanzas) in
    let fronts = same_front reads_alone one seal_of d.file_key for.stanzas d.stanzas mac f.nonce rest given bytes
    (fronted seal_of for.file_key for.stanzas plain file rest f) got in
    let key : d.file_key ≡ for.file_key = keys d.file_key (subst (λ (s : List StanzaValue). gives d.file_key s) (sym fronts.stanzas_are) d.given) in
    fronts.rest_is
    ∙ ap (λ n. payload seal_of (payload_key d.file_key n) given) (sym fronts.nonce_is)
    ∙ ap (λ k. payload seal_of (payload_key k f.nonce) given) key

module _ {I : Type 0} (seal_of : Seal) (unwraps : I → List StanzaValue → UnwrapAnswer → I → Type 0) (plain file : List ℕ) where
  -- identities give a file for them its own file key
  pub given_key : (identities after : List I) (for : IsFileFor seal_of (FirstAnswer unwraps identities) plain file) (key : List ℕ)
      → GivesFirst unwraps identities after key for.stanzas → key ≡ for.file_key
  given_key identities after for key asked = same_key key for.file_key (for.right (Some (Ok key)) (after, asked))

module _ {I : Type 0} (seal_of : Seal) (unwraps : I → List StanzaValue → UnwrapAnswer → I → Type 0) (before after : I)
    (text file plain rest given : List ℕ) (for : IsFileFor seal_of (FirstAnswer unwraps (before ∷ [])) plain file) where
  -- so does one
  one_key : (key : List ℕ) → Unwraps unwraps before for.stanzas (Some (Ok key)) after → key ≡ for.file_key
  one_key key asked =
      given_key seal_of unwraps plain file (before ∷ []) (after ∷ []) for key
      (alone (λ identity own next. Unwraps unwraps identity for.stanzas own next) before (Some (Ok key)) after asked)

  pub behind_front : ReadsAlone → HasOneVerdict → CarriesOne → Carries text (file_front for.file_key for.stanzas for.is_file.nonce ++ rest)
      → Decrypts seal_of unwraps before text given after → rest ≡ payload seal_of (payload_key for.file_key for.is_file.nonce) given
  behind_front reads_alone one one_list carries d =
      behind seal_of (FirstAnswer unwraps (before ∷ [])) (λ key stanzas. Unwraps unwraps before stanzas (Some (Ok key)) after) text file plain rest
      given for
      one_key reads_alone one one_list carries d

  -- so with the file's plaintext they are the file
  pub same_file : rest ≡ payload seal_of (payload_key for.file_key for.is_file.nonce) given → given ≡ plain
      → file_front for.file_key for.stanzas for.is_file.nonce ++ rest ≡ file
  unfolding file_text
  same_file is same =
      ap (λ l. file_front for.file_key for.stanzas for.is_file.nonce ++ l)
      (is ∙ ap (λ p. payload seal_of (payload_key for.file_key for.is_file.nonce) p) same)
      ∙ sym for.is_file.whole

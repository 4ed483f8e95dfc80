-- What is known of decrypting from a reader of a slice to an empty list, in words of slices.
use Rattle.std.specs.Prelude.{Some, Result, Ok, Err, IsTrue, ◌&&◌}
use Rattle.std.proofs.Common.{◌≡◌, ◌⊎◌, ◌++◌, ℕ, List, [], ap, inl, inr, refl, subst, sym}
use Rattle.age.specs.Armor.{Carries}
use Rattle.age.specs.DecryptErrors.{DecryptRefusal, OutOfMemory}
use Rattle.age.specs.DecryptingStreams.{DecryptsAll}
use Rattle.age.specs.Identities.{AnswersFirst, GivesFirst, UnwrapAnswer, FirstAnswer, IsFileFor, CarriesFile}
use Rattle.age.specs.ErrorKindVariants as kind
use Rattle.age.specs.ErrorVariants as io
use Rattle.age.specs.File.{IsFileOf}
use Rattle.age.specs.FileErrorVariants as file
use Rattle.age.specs.FileErrors.{DecryptsUnless, IfIo, IsWant}
use Rattle.age.specs.FileLaws.{OneHeader, OnePlain}
use Rattle.age.specs.Members.{SuiteMembers, ReadMembers, WriteMembers}
use Rattle.age.specs.Payload.{Seal}
use Rattle.age.specs.Stanza.{StanzaValue}
use Rattle.age.specs.Stretch.{Stretch, whole}
use Rattle.age.specs.Types.{Error, FileError}
use Rattle.age.specs.Writing.{HandsOn}
use Rattle.age_slices.specs.Decrypting.{DecryptsBytes}

-- a text carries one list
abbrev CarriesOne : Type 0
CarriesOne = (text bytes others : List ℕ) → Carries text bytes → Carries text others → bytes ≡ others

same_key : (a b : List ℕ) → Path UnwrapAnswer (Some (Ok a)) (Some (Ok b)) → a ≡ b
same_key a b is = cc

no_key : {X : Type 0} (a : List ℕ) (e : DecryptRefusal) → Path UnwrapAnswer (Some (Ok a)) (Some (Err e)) → X
no_key a e is = absurd (Prim.cc)

module _ {I : Type 0} (unwraps : I → List StanzaValue → UnwrapAnswer → I → Type 0) (seal_of : Seal) where
  -- a file for the identities is a file of no other plaintext
  pub gives_back : CarriesOne → OneHeader seal_of → OnePlain seal_of → (identities asked : List I) (text carried plain given : List ℕ)
      → Carries text carried
      → IsFileFor seal_of (FirstAnswer unwraps identities) plain carried → CarriesFile seal_of (GivesFirst unwraps identities asked) text given
      → given ≡ plain
  gives_back one_list one_header one_plain identities asked text carried plain given carries for is =
      let same : is.carried ≡ carried = one_list text is.carried carried is.carries carries in
      let got : IsFileOf seal_of is.file_key is.stanzas given carried = subst
      (λ x. IsFileOf seal_of is.file_key is.stanzas given x) same is.is_file in
      let stanzas : is.stanzas ≡ for.stanzas = one_header is.file_key for.file_key is.stanzas for.stanzas given plain carried got for.is_file in
      elim (for.right (Some (Ok is.file_key)) (asked, subst (λ s. GivesFirst unwraps identities asked is.file_key s) stanzas is.given)) [
        | inl answer ↦
            let key : is.file_key ≡ for.file_key = same_key is.file_key for.file_key answer in
            one_plain for.file_key is.stanzas for.stanzas given plain carried is.bytes for.bytes
            (subst (λ k. IsFileOf seal_of k is.stanzas given carried) key got) for.is_file
        | inr none ↦ no_key is.file_key OutOfMemory none
      ]

no_interruption : (d : Error) → io.Device kind.Interrupted ≡ d → d ≡ io.OutOfMemory → ⊥
no_interruption d is memory = absurd (Prim.cc)

-- a list refuses for want of memory alone
is_want : {W : Type 0} (refuses : W → ℕ → Error → Type 0) (old : W) → ((n : ℕ) (d : Error) → refuses old n d → d ≡ io.OutOfMemory) → (e : FileError)
    → DecryptsUnless (λ refusal. refusal ≡ OutOfMemory) e → IfIo (λ e. (e ≡ io.OutOfMemory) ⊎ HandsOn refuses old e) e → IsWant e
is_want refuses old memory (file.Io e) decrypts (inl want) = want
is_want refuses old memory (file.Io e) decrypts (inr (n, inl h)) = memory n e h.1
is_want refuses old memory (file.Io e) decrypts (inr (n, inr worn)) = absurd (no_interruption (io.Device kind.Interrupted) refl (memory n
    (io.Device kind.Interrupted) worn.1))
is_want refuses old memory (file.Encrypt e) decrypts writes = decrypts
is_want refuses old memory (file.Decrypt e) decrypts writes = decrypts

module _ {I S R W : Type 0} (unwraps : I → List StanzaValue → UnwrapAnswer → I → Type 0) (suite : SuiteMembers S) (read : ReadMembers R)
    (write : WriteMembers W)
    (items : W → List ℕ) (identities asked : List I) (text : List ℕ) (input : R) (old new : W) (told : IsTrue (read.tells input && read.steady input))
    (rest : read.rest input ≡ whole text) (empty : items old ≡ []) where
  abbrev Decrypts : Result (Unit {0}) FileError → Type 0
  Decrypts done = DecryptsAll suite read write (GivesFirst unwraps identities asked) (AnswersFirst unwraps identities asked)
      (IsFileFor suite.seal_of (FirstAnswer unwraps identities)) input old new done

  pub decrypts_ok : (v : Unit {0}) → IsTrue (write.tells old) → ((plain : List ℕ) → write.appended old plain new → items new ≡ items old ++ plain)
      → CarriesOne → OneHeader suite.seal_of → OnePlain suite.seal_of → Decrypts (Ok v)
      → DecryptsBytes unwraps suite read write items identities asked text (Ok (items new))
  decrypts_ok v tells appends one_list one_header one_plain all =
      let done = all.file told tells in
      let is : items new ≡ done.plain = rw empty at (appends done.plain done.out) in
      let text_is : (read.rest input).bytes ≡ text = ap (λ (s : Stretch). s.bytes) rest in
      let there = subst (λ t. CarriesFile suite.seal_of (GivesFirst unwraps identities asked) t done.plain) text_is done.file in
      let decrypted : CarriesFile suite.seal_of (GivesFirst unwraps identities asked) text (items new) = rw is there in record {
        success = decrypted;
        honest = λ carried plain carries for. gives_back unwraps suite.seal_of one_list one_header one_plain identities asked text carried plain
            (items new)
            carries for decrypted;
        steps = (input, old, new, Ok v, rest, empty, all, (refl, refl));
      }

  pub decrypts_err : (e : FileError) → ((r : R) → read.faults r ≡ 0) → ((n : ℕ) (d : Error) → write.refuses old n d → d ≡ io.OutOfMemory)
      → Decrypts (Err e)
      → DecryptsBytes unwraps suite read write items identities asked text (Err e)
  decrypts_err e faultless memory all =
      let text_is : text ≡ (read.rest input).bytes = ap (λ (s : Stretch). s.bytes) (sym rest) in
      let well : IsTrue (read.rest input).ends_well = rw rest refl in record {
        success = tt;
        honest = λ carried plain carries for.
            let there : Carries (read.rest input).bytes carried = subst (λ t. Carries t carried) text_is carries in
            is_want write.refuses old memory e (all.honest told well faultless carried plain there for)
            (all.written told well faultless carried plain there for);
        steps = (input, old, new, Err e, rest, empty, all, refl);
      }

-- What the calls on whole files answer.
use Rattle.std.proofs.Common.{◌≡◌, Result, Ok, Err, ap, sym, subst, List, [], ◌++◌, ℕ}
use Rattle.std.specs.Result.{IsErrAnd, MatchResult, result_map_both}
use Rattle.age_error.specs.Bytes.{AreBytes}
use Rattle.age_error.specs.EncryptErrors.{EncryptRefusal}
use Rattle.age_v1.specs.Armor.{Carries, text_of}
use Rattle.age_v1.specs.declared.format.Format.{Format}
use Rattle.age_io.specs.Stretch.{Stretch, whole}
use Rattle.age_v1.specs.Payload.{Seal}
use Rattle.age_v1.specs.Encrypting.{Prepared}
use Rattle.age_v1.specs.File.{file_text}
use Rattle.age_v1.specs.Claims.{AppendsFile}
use Rattle.age_protocol.specs.WholeFiles.{IsWritten, Encrypts}

-- what was appended to an empty list is written
pub is-written : {W : Type 0} (items : W → List ℕ) (seal_of : Seal) (format : Format) (file : Prepared) (input : Stretch) (plain : List ℕ)
    (old new : W) →
    input ≡ whole plain → items old ≡ [] → AreBytes plain
    → AppendsFile seal_of (λ a x b. items b ≡ items a ++ x) (text_of format) file input old new →
    IsWritten seal_of (text_of format) plain file (items new)
is-written items seal_of format file input plain old new is empty bytes done =
    let same = ap (λ s. s.bytes) is in
    let text = file_text seal_of file.file_key file.stanzas file.nonce plain in
    let out : items new ≡ text_of format text = rw (empty, same) at done.out in
    record {
      within = rw same at done.within;
      text = out;
      carries = subst (λ written. Carries written text) (sym out) ((rw same at done.carries) bytes);
      is_file = rw same at done.is_file;
    }

-- an answer that is a text is that of a file
pub text-encrypted : (seal_of : Seal) (form : List ℕ → List ℕ) (plain written : List ℕ) (outcome : Result Prepared EncryptRefusal) →
    Encrypts seal_of form plain outcome (Ok written) → (text : List ℕ) × (written ≡ form text)
text-encrypted seal_of form plain written (Err refusal) is = absurd (cc)
text-encrypted seal_of form plain written (Ok file) is = (file_text seal_of file.file_key file.stanzas file.nonce plain, is.text)

-- a refusal is seen as what it says
pub seen_refusal : {A B E F : Type 0} (of : A → B) (says : E → F) (r : Result A E) (e : E) → IsErrAnd r (λ x. x ≡ e)
    → result_map_both of says r ≡ Err (says e)
seen_refusal of says (Ok x) e is = absurd is
seen_refusal of says (Err x) e is = ap (λ y. Err (says y)) is

-- so that what holds of it holds of the answer
pub refuses : {A B E F : Type 0} (of : A → B) (says : E → F) (r : Result A E) (e : E) (P : B → Type 0) (Q : F → Type 0) → IsErrAnd r (λ x. x ≡ e)
    → Q (says e) → MatchResult (result_map_both of says r) P Q
refuses of says (Ok x) e P Q is q = absurd is
refuses of says (Err x) e P Q is q = rw is q

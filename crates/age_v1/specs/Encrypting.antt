-- What an encryption draws and comes to, step by step: age-encryption.org/v1, sections "File key" and "Payload". Of the draws before, the
-- outcome and the draws left.
use Rattle.std.specs.Prelude.{Err, List, MatchOption, None, Ok, Option, Result, Some, [], ℕ, ◌∷◌, ◌≡◌, ◌⊎◌}
use Rattle.age_error.specs.EncryptErrors.{EncryptRefusal, OutOfMemory, ShortRandom}
use Rattle.age_v1.specs.Stanza.{StanzaValue}
use Rattle.age_v1.specs.Recipients.{Gathered, WrapAnswer, closed, judged, nothing_yet}
use Rattle.age_suite.specs.Draw.{left_after, taken}

-- it ends here with this outcome, and the draws stay as they are
abbrev pub Ends : {A : Type 0} → Result A EncryptRefusal → List ℕ → Result A EncryptRefusal → List ℕ → Type 0
Ends this draws outcome left = (outcome ≡ this) × (left ≡ draws)

-- the value or refusal that is due; in place of a value, want of memory can be the answer
abbrev pub IsOrNoMemory : {A : Type 0} → Result A EncryptRefusal → Result A EncryptRefusal → Type 0
IsOrNoMemory (Err e) result = result ≡ Err e
IsOrNoMemory (Ok x) result = (result ≡ Ok x) ⊎ (result ≡ Err OutOfMemory)

-- it goes on so, or ends here since memory was refused
abbrev pub UnlessNoMemory : {A : Type 0} → Type 0 → List ℕ → Result A EncryptRefusal → List ℕ → Type 0
UnlessNoMemory goes_on draws outcome left = goes_on ⊎ Ends (Err OutOfMemory) draws outcome left

-- a refusal ends it; else it goes on with the value
abbrev pub OnSuccess : {A B : Type 0} → Result A EncryptRefusal → (A → List ℕ → Result B EncryptRefusal → List ℕ → Type 0)
    → List ℕ → Result B EncryptRefusal → List ℕ → Type 0
OnSuccess (Err e) goes_on draws outcome left = Ends (Err e) draws outcome left
OnSuccess (Ok x) goes_on draws outcome left = goes_on x draws outcome left

-- the same, but memory can be refused before it goes on
abbrev pub After : {A B : Type 0} → Result A EncryptRefusal → (A → List ℕ → Result B EncryptRefusal → List ℕ → Type 0)
    → List ℕ → Result B EncryptRefusal → List ℕ → Type 0
After (Err e) goes_on draws outcome left = Ends (Err e) draws outcome left
After (Ok x) goes_on draws outcome left = UnlessNoMemory (goes_on x draws outcome left) draws outcome left

-- the next n draws are taken; it ends here where fewer are left
abbrev pub WithDrawn : {B : Type 0} → ℕ → (List ℕ → List ℕ → Result B EncryptRefusal → List ℕ → Type 0)
    → List ℕ → Result B EncryptRefusal → List ℕ → Type 0
WithDrawn n goes_on draws outcome left =
    MatchOption (taken n draws) (Ends (Err ShortRandom) draws outcome left) (λ bytes. goes_on bytes (left_after n draws) outcome left)

-- what comes of random bytes where memory isn't refused: they may be too few
abbrev pub drawn : {A : Type 0} → Option (List ℕ) → (List ℕ → Result A EncryptRefusal) → Result A EncryptRefusal
drawn None next = Err ShortRandom
drawn (Some bytes) next = next bytes

-- what comes of a value, which may have been refused
abbrev pub and_then : {A B : Type 0} → Result A EncryptRefusal → (A → Result B EncryptRefusal) → Result B EncryptRefusal
and_then (Err e) next = Err e
and_then (Ok x) next = next x

-- what a file's header and its payload are made of: the file key, the stanzas that hold it, and the payload nonce
pub record Prepared : Type 0 where
  pub file_key : List ℕ
  pub stanzas : List StanzaValue
  pub nonce : List ℕ

-- the last step: 16 bytes are drawn for the payload nonce, and then the header is made, for which memory can be refused
-- standard: "Payload": the nonce is 16 bytes of a CSPRNG, fresh for each file
abbrev pub PreparesNonce : List ℕ → List StanzaValue → List ℕ → Result Prepared EncryptRefusal → List ℕ → Type 0
PreparesNonce file_key stanzas =
    WithDrawn 16 (λ nonce draws outcome left.
    UnlessNoMemory (Ends (Ok (record { file_key = file_key; stanzas = stanzas; nonce = nonce })) draws outcome left) draws outcome left)

-- once all recipients have answered: the rules on all their stanzas, then the payload nonce
abbrev pub PreparesRest : List ℕ → Option StanzaValue → Gathered → List ℕ → Result Prepared EncryptRefusal → List ℕ → Type 0
PreparesRest file_key grease all = After (closed all.labels all.stanzas grease) (λ stanzas. PreparesNonce file_key stanzas)

module _ {R : Type 0} (wraps : R → List ℕ → List ℕ → WrapAnswer → List ℕ → Type 0) where
  -- each recipient wraps the file key in turn; its answer is judged before the next one is asked
  abbrev pub WrapsInTurn : List ℕ → Gathered → List R → List ℕ → Result Gathered EncryptRefusal → List ℕ → Type 0
  WrapsInTurn file_key so_far [] draws outcome left = Ends (Ok so_far) draws outcome left
  WrapsInTurn file_key so_far (r ∷ rs) draws outcome left =
      (answer : WrapAnswer) × (between : List ℕ) × wraps r file_key draws answer between
      × After (judged so_far answer) (λ more. WrapsInTurn file_key more rs) between outcome left

  -- the recipients answer in turn, and the rest follows where they come to something
  abbrev pub PreparesWith : List R → Option StanzaValue → List ℕ → List ℕ → Result Prepared EncryptRefusal → List ℕ → Type 0
  PreparesWith recipients grease file_key draws outcome left =
      (gathered : Result Gathered EncryptRefusal) × (between : List ℕ) × WrapsInTurn file_key nothing_yet recipients draws gathered between
      × OnSuccess gathered (λ all. PreparesRest file_key grease all) between outcome left

  -- 16 bytes are drawn for the file key, and the rest follows
  -- standard: "File key": each file is encrypted with a file key of 128 bits, from a CSPRNG
  abbrev pub Prepares : List R → Option StanzaValue → List ℕ → Result Prepared EncryptRefusal → List ℕ → Type 0
  Prepares recipients grease = WithDrawn 16 (λ file_key. PreparesWith recipients grease file_key)

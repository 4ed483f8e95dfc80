-- What the bench recipient and the bench identity answer.
use Rattle.std.specs.Prelude.{◌≡◌, ◌≢◌, ℕ, List, [], ◌∷◌, ◌++◌, Option, Some, None, Ok, Err, if◌then◌else◌, length, take, drop, nat_eq, bytes_eq, codes, All, Bool, not}
use Rattle.std.specs.Option.{option_or}
use Rattle.age.specs.DecryptErrors.{InvalidHeader}
use Rattle.age.specs.Encrypting.{Ends, UnlessNoMemory}
use Rattle.age.specs.Stanza.{StanzaValue}
use Rattle.age.specs.Recipients.{Wrapped, WrapAnswer}
use Rattle.age.specs.Identities.{UnwrapAnswer}
use Rattle.age.specs.File.{file_text}
use Rattle.age_bench.specs.Bench.{bench_seal}

-- the stanza whose body is the file key
abbrev pub bench_stanza : List ℕ → StanzaValue
bench_stanza file_key = record { tag = codes "bench"; args = []; body = file_key }

-- one stanza, and no labels
abbrev pub bench_wrapped : List ℕ → Wrapped
bench_wrapped file_key = record { stanzas = bench_stanza file_key ∷ []; labels = [] }

-- what the bench recipient answers to a file key: of the random bytes before, the answer and the random bytes left
abbrev pub BenchWraps : List ℕ → List ℕ → WrapAnswer → List ℕ → Type 0
BenchWraps file_key draws answer left = UnlessNoMemory (Ends (Ok (bench_wrapped file_key)) draws answer left) draws answer left

-- a stanza with another tag is passed over; one with an argument, or a body not of 16 bytes, is refused
abbrev pub bench_unwrapped : StanzaValue → UnwrapAnswer
bench_unwrapped stanza =
    if bytes_eq stanza.tag (codes "bench") then
    (if nat_eq (length stanza.args) 0 then
    (if nat_eq (length stanza.body) 16 then Some (Ok stanza.body) else Some (Err InvalidHeader))
    else Some (Err InvalidHeader))
    else None

-- what the bench identity answers to a stanza
abbrev pub BenchAsks : StanzaValue → UnwrapAnswer → Type 0
BenchAsks stanza answer = answer ≡ bench_unwrapped stanza

-- a stanza with another tag
abbrev pub has_other_tag : StanzaValue → Bool
has_other_tag stanza = not (bytes_eq stanza.tag (codes "bench"))

-- the first answer that isn't None
abbrev pub first_answer : {X A : Type 0} → (X → Option A) → List X → Option A
first_answer f [] = None
first_answer f (x ∷ xs) = option_or (f x) (first_answer f xs)

-- what the bench identity answers to the stanzas of a header
abbrev pub bench_answer : List StanzaValue → UnwrapAnswer
bench_answer stanzas = first_answer bench_unwrapped stanzas

-- the stanza that a file of the program has besides those of its recipients, where none of these is of a passphrase
abbrev pub bench_grease : StanzaValue
bench_grease = record { tag = codes "agebench-grease"; args = []; body = [] }

-- the file of a plaintext for the bench recipient: the first 16 random bytes are the file key, the next 16 the nonce
abbrev pub bench_file : List ℕ → List ℕ → List ℕ
bench_file draws plain =
    let file_key = take 16 draws in
    file_text bench_seal file_key (bench_stanza file_key ∷ bench_grease ∷ []) (take 16 (drop 16 draws)) plain

-- the first stanza with the tag `bench` is that of this file key, of 16 bytes
pub record HoldsBenchKey (file_key : List ℕ) (stanzas : List StanzaValue) : Type 0 where
  pub passed : List StanzaValue
  pub later : List StanzaValue
  pub all : stanzas ≡ passed ++ bench_stanza file_key ∷ later
  pub others : All (λ s. s.tag ≢ codes "bench") passed
  pub sixteen : length file_key ≡ 16

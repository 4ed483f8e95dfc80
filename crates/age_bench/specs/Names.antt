-- What those answer whom the words of a command line name.
use Rattle.std.specs.Prelude.{◌≡◌, ⊤, ℕ, Bool, List, ◌++◌, Some, Result, Ok}
use Rattle.std.specs.Result.{result_map_both}
use Rattle.age.specs.EncryptErrors.{EncryptRefusal}
use Rattle.age.specs.Draw.{taken, left_after}
use Rattle.age.specs.Encrypting.{drawn, and_then, Prepared}
use Rattle.age.specs.Stanza.{StanzaValue}
use Rattle.age.specs.Recipients.{Wrapped, WrapAnswer, has_scrypt}
use Rattle.age.specs.Identities.{UnwrapAnswer, Steady, FirstOf}
use Rattle.age.specs.X25519.{WrapsFor, UnwrapsBy, wrapped_with}
use Rattle.age.specs.X25519Laws as x25519
use Rattle.age.specs.Scrypt.{WrapsUnder, UnwrapsUnder, wrapped_under}
use Rattle.age.specs.ScryptLaws.{IsMeantFor}
use Rattle.age.specs.ScryptLaws as scrypt
use Rattle.age.specs.Several.{grease_beside}
use Rattle.age.specs.File.{file_text}
use Rattle.age_bench.specs.Bench.{bench_seal, bench_opened, bench_shared, bench_public, bench_stretch, bench_accepts}
use Rattle.age_bench.specs.Recipient.{BenchAsks, BenchWraps, bench_wrapped, bench_grease, has_other_tag}
use Rattle.age_bench.specs.declared.names.To.{To}
use Rattle.age_bench.specs.declared.names.To.TheVariants as to
use Rattle.age_bench.specs.declared.names.With.{With}
use Rattle.age_bench.specs.declared.names.With.TheVariants as with_

-- ---- encrypting

-- what TO answers to a file key: of the random bytes before, the answer and the random bytes left
abbrev pub WrapsTo : To → List ℕ → List ℕ → WrapAnswer → List ℕ → Type 0
WrapsTo to.Bench file_key draws answer left = BenchWraps file_key draws answer left
WrapsTo (to.Key public) file_key draws answer left = WrapsFor bench_seal bench_shared bench_public public file_key draws answer left
WrapsTo (to.Passphrase recipient) file_key draws answer left = WrapsUnder bench_seal bench_stretch bench_accepts recipient file_key draws answer left

-- what TO wraps a file key in, where memory isn't refused: X25519 takes the next 32 random bytes for the ephemeral secret, a passphrase
-- the next 16 for the salt and 24 more for the label
abbrev pub wrapped_by : To → List ℕ → List ℕ → Result Wrapped EncryptRefusal
wrapped_by to.Bench file_key draws = Ok (bench_wrapped file_key)
wrapped_by (to.Key public) file_key draws =
    drawn (taken 32 draws) (λ ephemeral. wrapped_with bench_seal bench_shared bench_public public file_key ephemeral)
wrapped_by (to.Passphrase recipient) file_key draws =
    drawn (taken 16 draws) (λ salt. drawn (taken 24 (left_after 16 draws))
    (λ label. wrapped_under bench_seal bench_stretch bench_accepts recipient file_key salt label))

-- and the random bytes that are left then
abbrev pub left_by : To → List ℕ → List ℕ
left_by to.Bench draws = draws
left_by (to.Key public) draws = left_after 32 draws
left_by (to.Passphrase recipient) draws = left_after 24 (left_after 16 draws)

-- the header's stanzas: those that hold the file key, and the grease, but beside the stanza of a passphrase stands no other
abbrev pub stanzas_beside : List StanzaValue → List StanzaValue
stanzas_beside stanzas = stanzas ++ grease_beside (has_scrypt stanzas) (Some bench_grease)

-- What a file to TO is made of, by the random bytes: the first 16 are the file key, then come those of TO, and the next 16 are the
-- nonce of the payload.
abbrev pub prepared_by : To → List ℕ → Result Prepared EncryptRefusal
prepared_by to draws =
    drawn (taken 16 draws) (λ file_key.
    and_then (wrapped_by to file_key (left_after 16 draws)) (λ wrapped.
    drawn (taken 16 (left_by to (left_after 16 draws))) (λ nonce.
    Ok (record { file_key = file_key; stanzas = stanzas_beside wrapped.stanzas; nonce = nonce }))))

-- so the file of a plaintext is set by the random bytes and the plaintext
abbrev pub file_by : To → List ℕ → List ℕ → Result (List ℕ) EncryptRefusal
file_by to draws plain = result_map_both (λ file. file_text bench_seal file.file_key file.stanzas file.nonce plain) (λ e. e) (prepared_by to draws)

-- ---- decrypting

-- what WITH answers to a stanza
abbrev pub AsksWith : With → StanzaValue → UnwrapAnswer → Type 0
AsksWith with_.Bench stanza answer = BenchAsks stanza answer
AsksWith (with_.Key secret) stanza answer = UnwrapsBy bench_opened bench_shared bench_public secret stanza answer
AsksWith (with_.Passphrase identity) stanza answer = UnwrapsUnder bench_opened bench_stretch bench_accepts identity stanza answer

-- what WITH answers to the stanzas of a header
abbrev pub answers_of : With → List StanzaValue → UnwrapAnswer → Type 0
answers_of with_ stanzas answer = FirstOf (Steady AsksWith) with_ stanzas answer with_

-- and the file key that it gives to them
abbrev pub gives_of : With → List ℕ → List StanzaValue → Type 0
gives_of with_ file_key stanzas = answers_of with_ stanzas (Some (Ok file_key))

-- ---- both

-- WITH goes with TO: both are of the bench suite, or TO is the public value of the secret, or both are of one passphrase, whose work
-- factor WITH takes
abbrev pub GoesWith : To → With → Type 0
GoesWith to.Bench with_.Bench = ⊤
GoesWith (to.Key public) (with_.Key secret) = public ≡ bench_public secret
GoesWith (to.Passphrase recipient) (with_.Passphrase identity) = IsMeantFor recipient identity
GoesWith to with_ = ⊥

-- a stanza of another type than WITH answers to
abbrev pub is_other_to : With → StanzaValue → Bool
is_other_to with_.Bench stanza = has_other_tag stanza
is_other_to (with_.Key secret) stanza = x25519.has_other_tag stanza
is_other_to (with_.Passphrase identity) stanza = scrypt.has_other_tag stanza

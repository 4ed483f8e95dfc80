-- What is true of the files of the bench recipient.
use Rattle.std.specs.Prelude.{◌≡◌, ℕ, List, [], ◌∷◌, take, Ok}
use Rattle.age.specs.Bytes.{AreBytes}
use Rattle.age.specs.Armor.{Carries, text_of}
use Rattle.age.specs.Types.{Format}
use Rattle.age.specs.Stanza.{StanzaValue}
use Rattle.age.specs.File.{IsFileOf}
use Rattle.age.specs.Identities.{IsFileFor}
use Rattle.age_bench.specs.Bench.{bench_seal}
use Rattle.age_bench.specs.Files.{IsFileForBench}
use Rattle.age_bench.specs.Names.{answers_of, file_by, gives_of}
use Rattle.age_bench.specs.Recipient.{bench_stanza, bench_grease}
use Rattle.age_bench.specs.declared.names.To.TheVariants as to
use Rattle.age_bench.specs.declared.names.With.TheVariants as with_

-- it is a file of the plaintext under the file key that its bench stanza holds
abbrev pub IsBenchFile : Type 0
IsBenchFile = (draws plain text : List ℕ) → AreBytes draws → file_by to.Bench draws plain ≡ Ok text
    → IsFileOf bench_seal (take 16 draws) (bench_stanza (take 16 draws) ∷ bench_grease ∷ []) plain text

-- the text in either form carries it
abbrev pub IsCarried : Type 0
IsCarried = (format : Format) (draws plain text : List ℕ) → AreBytes draws → AreBytes plain → file_by to.Bench draws plain ≡ Ok text
    → Carries (text_of format text) text

-- what the text in either form carries is a file of no other plaintext under a file key that the bench identity gives to its stanzas
abbrev pub CarriesOnlyIt : Type 0
CarriesOnlyIt = (format : Format) (draws plain text bytes file_key : List ℕ) (stanzas : List StanzaValue) (given : List ℕ)
    → AreBytes draws → AreBytes plain → file_by to.Bench draws plain ≡ Ok text → Carries (text_of format text) bytes
    → gives_of with_.Bench file_key stanzas → IsFileOf bench_seal file_key stanzas given bytes → given ≡ plain

-- a file whose first bench stanza holds its file key is one for the bench identity
abbrev pub IsForBench : Type 0
IsForBench = (plain text : List ℕ) → IsFileForBench plain text → IsFileFor bench_seal (answers_of with_.Bench) plain text

-- What is true of command lines, and what some of them ask for. A word is a list of bytes.
use Rattle.std.specs.Prelude.{◌≡◌, ℕ, ◌<◌, ◌^◌, true, false, List, [], ◌∷◌, codes, Some, None, Ok, ⊤}
use Rattle.clap.specs.Faults.{fault_of}
use Rattle.sazh_command.specs.App.{sazh}
use Rattle.sazh_command.specs.Asked.{Text, File, IdentityFile, RecipientsValue, Listed, IdentitiesValue, Files, ProtectedFiles, OpeningValue, OutputValue, CommandValue, Encrypt, Decrypt, Part, Migrate, Rekey, Verify, Inspect}
use Rattle.sazh_command.specs.Answers.{command_of}

-- a command that can be asked for has a recipient or a file of identities, and numbers below 2^64
abbrev pub HasRecipient : RecipientsValue → Type 0
HasRecipient (Listed []) = ⊥
HasRecipient recipients = ⊤

abbrev pub HasIdentity : IdentitiesValue → Type 0
HasIdentity (Files []) = ⊥
HasIdentity (ProtectedFiles [] passphrase) = ⊥
HasIdentity identities = ⊤

-- and a limit on its header
abbrev pub IsOpenable : OpeningValue → Type 0
IsOpenable opening = HasIdentity opening.identities × (opening.header_limit < 2 ^ 64)

abbrev pub IsAskable : CommandValue → Type 0
IsAskable (Encrypt recipients armored input output quiet) = HasRecipient recipients
IsAskable (Decrypt opening input output quiet) = IsOpenable opening
IsAskable (Part opening place count input quiet) = IsOpenable opening × (place < 2 ^ 64) × (count < 2 ^ 64)
IsAskable (Migrate opening input output quiet) = IsOpenable opening
IsAskable (Rekey opening recipients armored input output quiet) = IsOpenable opening × HasRecipient (Listed recipients)
IsAskable (Verify opening input quiet) = IsOpenable opening
IsAskable (Inspect identities header_limit json input) = header_limit < 2 ^ 64
IsAskable command = ⊤

-- `clap` has nothing against the words, and they ask for this
abbrev pub Asks : List (List ℕ) → CommandValue → Type 0
Asks words command = (fault_of sazh words ≡ []) × (command_of words ≡ Ok command)

abbrev output : OutputValue
output = record { name = Some (codes "out"); overwrite = true; skip_sync = false }

abbrev to_two : CommandValue
to_two =
    Encrypt (Listed (Text (codes "age1a") ∷ Text (codes "age1b") ∷ File (codes "team") ∷ IdentityFile (codes "key") ∷ [])) true
    (codes "-in") output false

-- recipients in the order of the words, those of -R behind those of -r, and those of -i last; several flags behind one `-`; a value as the next
-- word, behind `=` and in the same word; IN behind `--`
abbrev pub EncryptsAsAge : Type 0
EncryptsAsAge =
    Asks (codes "-r" ∷ codes "age1a" ∷ codes "-afR" ∷ codes "team" ∷ codes "-o=out" ∷ codes "-rage1b" ∷ codes "-ei" ∷ codes "key" ∷ codes "--"
    ∷ codes "-in" ∷ []) to_two
    × Asks (codes "encrypt" ∷ codes "--identity=key" ∷ codes "--recipients-file=team" ∷ codes "--recipient" ∷ codes "age1a"
    ∷ codes "--recipient=age1b"
    ∷ codes "--armor" ∷ codes "--force" ∷ codes "--output" ∷ codes "out" ∷ codes "--" ∷ codes "-in" ∷ []) to_two

abbrev with_two : CommandValue
with_two =
    Decrypt (record { identities = ProtectedFiles (codes "a" ∷ codes "b" ∷ []) (codes "word"); header_limit = 16777216 }) (codes "-")
    (record { name = None; overwrite = false; skip_sync = true }) true

abbrev pub DecryptsAsAge : Type 0
DecryptsAsAge =
    Asks (codes "-di" ∷ codes "a" ∷ codes "-p" ∷ codes "word" ∷ codes "-qi" ∷ codes "b" ∷ codes "--no-sync" ∷ []) with_two
    × Asks (codes "decrypt" ∷ codes "--no-sync" ∷ codes "-" ∷ codes "--identity=a" ∷ codes "--identity" ∷ codes "b" ∷ codes "--quiet"
    ∷ codes "--passphrase-file" ∷ codes "word" ∷ []) with_two

abbrev a_part : CommandValue
a_part = Part (record { identities = Files (codes "a" ∷ []); header_limit = 500 }) 7 20 (codes "in") false

abbrev pub PartsByOptions : Type 0
PartsByOptions =
    Asks (codes "part" ∷ codes "-i" ∷ codes "a" ∷ codes "--from" ∷ codes "7" ∷ codes "--count=20" ∷ codes "--header-limit=500" ∷ codes "in" ∷ [])
    a_part
    × Asks (codes "part" ∷ codes "7" ∷ codes "--header-limit" ∷ codes "500" ∷ codes "20" ∷ codes "in" ∷ codes "-i" ∷ codes "a" ∷ []) a_part

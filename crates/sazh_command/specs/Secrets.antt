-- Words that hold a secret key, and commands that name one in place of a file. A word is a list of bytes.
use Rattle.std.specs.Prelude.{◌⊎◌, ℕ, List, [], ◌∷◌, codes, Option, Some, None}
use Rattle.std.specs.Str.Iter.{HasSubslice}
use Rattle.sazh_command.specs.Asked.{RecipientValue, Text, File, IdentityFile, RecipientsValue, Listed, ToPassphraseFile, IdentitiesValue, Files, ProtectedFiles, WithPassphraseFile, OpeningValue, OutputValue, CommandValue, Keygen, RecipientsOf, Encrypt, Decrypt, Part, Migrate, Rekey, Verify, Inspect}

-- the beginning of a secret key stands in the word
abbrev pub HoldsSecret : List ℕ → Type 0
HoldsSecret word = HasSubslice word (codes "AGE-SECRET-KEY-") ⊎ HasSubslice word (codes "age-secret-key-")

abbrev pub AnyHoldsSecret : List (List ℕ) → Type 0
AnyHoldsSecret [] = ⊥
AnyHoldsSecret (word ∷ words) = HoldsSecret word ⊎ AnyHoldsSecret words

-- it stands in the name of a file. What was given as a recipient is no such name: whoever reads it tells what it is, and not its text.

abbrev pub FileHoldsSecret : RecipientValue → Type 0
FileHoldsSecret (Text text) = ⊥
FileHoldsSecret (File name) = HoldsSecret name
FileHoldsSecret (IdentityFile name) = HoldsSecret name

abbrev pub AnyFileHoldsSecret : List RecipientValue → Type 0
AnyFileHoldsSecret [] = ⊥
AnyFileHoldsSecret (one ∷ more) = FileHoldsSecret one ⊎ AnyFileHoldsSecret more

abbrev pub RecipientsNameSecret : RecipientsValue → Type 0
RecipientsNameSecret (Listed recipients) = AnyFileHoldsSecret recipients
RecipientsNameSecret (ToPassphraseFile name) = HoldsSecret name

abbrev pub IdentitiesNameSecret : IdentitiesValue → Type 0
IdentitiesNameSecret (Files names) = AnyHoldsSecret names
IdentitiesNameSecret (ProtectedFiles names passphrase) = AnyHoldsSecret names ⊎ HoldsSecret passphrase
IdentitiesNameSecret (WithPassphraseFile name) = HoldsSecret name

abbrev pub GivenIdentitiesNameSecret : Option IdentitiesValue → Type 0
GivenIdentitiesNameSecret None = ⊥
GivenIdentitiesNameSecret (Some identities) = IdentitiesNameSecret identities

abbrev pub FileNamesSecret : Option (List ℕ) → Type 0
FileNamesSecret None = ⊥
FileNamesSecret (Some name) = HoldsSecret name

abbrev pub OutputNamesSecret : OutputValue → Type 0
OutputNamesSecret output = FileNamesSecret output.name

abbrev pub FilesNameSecret : List ℕ → OutputValue → Type 0
FilesNameSecret input output = HoldsSecret input ⊎ OutputNamesSecret output

abbrev pub OpeningNamesSecret : OpeningValue → List ℕ → OutputValue → Type 0
OpeningNamesSecret opening input output = IdentitiesNameSecret opening.identities ⊎ FilesNameSecret input output

abbrev pub NamesSecret : CommandValue → Type 0
NamesSecret (Keygen output quiet) = OutputNamesSecret output
NamesSecret (RecipientsOf input output) = FilesNameSecret input output
NamesSecret (Encrypt recipients armored input output quiet) = RecipientsNameSecret recipients ⊎ FilesNameSecret input output
NamesSecret (Decrypt opening input output quiet) = OpeningNamesSecret opening input output
NamesSecret (Part opening place count input quiet) = IdentitiesNameSecret opening.identities ⊎ HoldsSecret input
NamesSecret (Migrate opening input output quiet) = OpeningNamesSecret opening input output
NamesSecret (Rekey opening recipients armored input output quiet) = AnyFileHoldsSecret recipients ⊎ OpeningNamesSecret opening input output
NamesSecret (Verify opening input quiet) = IdentitiesNameSecret opening.identities ⊎ HoldsSecret input
NamesSecret (Inspect identities header_limit json input) = GivenIdentitiesNameSecret identities ⊎ HoldsSecret input
NamesSecret command = ⊥

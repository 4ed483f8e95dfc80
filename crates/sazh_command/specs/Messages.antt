-- How what is wrong is told, where no word of the command line is in it, or `clap`'s text tells it. The other lines are left open.
use Rattle.std.specs.Prelude.{ℕ, List, ◌++◌, codes, Option, Some, None}
use Rattle.sazh_command.specs.declared.names.Operand.{Operand}
use Rattle.sazh_command.specs.declared.names.Operand.TheVariants.{Place, Count, Input, HeaderLimit}
use Rattle.sazh_command.specs.Asked.{UsageErrorValue, NoCommand, Words, HoldsSecret, WordBeforeCommand, EncryptAndDecrypt, EncryptingOption, DecryptingOption, LimitWithoutDecrypting, PassphraseBesideRecipients, NoRecipient, NoIdentity, PlaceOrCountAlone, MissingOperand}

-- an operand, as the synopsis calls it
abbrev pub operand_text : Operand → List ℕ
operand_text Place = codes "PLACE"
operand_text Count = codes "COUNT"
operand_text Input = codes "IN"
operand_text HeaderLimit = codes "--header-limit"

-- the text
abbrev pub message_of : UsageErrorValue → Option (List ℕ)
message_of NoCommand = Some (codes "no command is given")
message_of (Words text) = Some text
message_of HoldsSecret = Some (codes "a word holds a secret key, and no word is repeated: name the key's file, by -i FILE")
message_of WordBeforeCommand = Some (codes "the name of a command isn't the first word")
message_of EncryptAndDecrypt = Some (codes "the option -e is given beside -d")
message_of EncryptingOption = Some (codes "the option -d is given beside -r, -R or -a, which are to encrypt")
message_of DecryptingOption = Some (codes "the option -i needs -d, to decrypt, or -e, to encrypt to the recipients of its identities")
message_of LimitWithoutDecrypting = Some (codes "the option --header-limit is given without -d, which is to decrypt")
message_of PassphraseBesideRecipients = Some (codes "the option -p is given beside -r, -R or -i")
message_of NoRecipient = Some (codes "no recipient is given: -r, -R or -p is needed")
message_of NoIdentity = Some (codes "no identity is given: -i or -p is needed")
message_of PlaceOrCountAlone = Some (codes "one of the options --from and --count is given without the other")
message_of (MissingOperand operand) = Some (operand_text operand ++ codes " is missing")
message_of error = None

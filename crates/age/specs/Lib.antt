-- the types that the definitions speak of, and what traits say of theirs
pub mod Types
pub mod Members
-- variants, by the enum that has them
pub use Rattle.age_error.specs.declared.io.Error.TheVariants as ErrorVariants
pub use Rattle.age_error.specs.declared.io.ErrorKind.TheVariants as ErrorKindVariants
pub use Rattle.age_error.specs.declared.io.ArmoredReadError.TheVariants as ArmoredReadErrorVariants
pub use Rattle.age_error.specs.declared.io.SeekFrom.TheVariants as SeekFromVariants
pub use Rattle.age_error.specs.declared.suite.ScryptError.TheVariants as ScryptErrorVariants
pub use Rattle.age_error.specs.declared.encrypt.EncryptError.TheVariants as EncryptErrorVariants
pub use Rattle.age_error.specs.declared.decrypt.DecryptError.TheVariants as DecryptErrorVariants
pub use Rattle.age_error.specs.declared.resolve.ResolveError.TheVariants as ResolveErrorVariants
pub use Rattle.age_io.specs.declared.operations.Op.TheVariants as OpVariants
pub use Rattle.age_io.specs.declared.operations.Answer.TheVariants as AnswerVariants
pub use Rattle.age_v1.specs.declared.format.Format.TheVariants as FormatVariants
pub use Rattle.age_error.specs.declared.file.FileError.TheVariants as FileErrorVariants
pub use Rattle.age_identity.specs.declared.error.IdentityFileConvertError.TheVariants as IdentityFileConvertErrorVariants
-- bytes, and what refusals say: age_error
pub use Rattle.age_error.specs.Bytes
pub use Rattle.age_error.specs.Refusals
pub use Rattle.age_error.specs.ErrorLemmas
pub use Rattle.age_error.specs.Messages
pub use Rattle.age_error.specs.LongMessages
pub use Rattle.age_error.specs.Labels
pub use Rattle.age_error.specs.EncryptErrors
pub use Rattle.age_error.specs.DecryptErrors
pub use Rattle.age_error.specs.ResolveErrors
pub use Rattle.age_error.specs.FileErrors
-- primitives: age_suite
pub use Rattle.age_suite.specs.Suite
pub use Rattle.age_suite.specs.Mac
pub use Rattle.age_suite.proofs.Digests
pub use Rattle.age_suite.specs.Draw
-- readers and writers: age_io
pub use Rattle.age_io.specs.Stretch
pub use Rattle.age_io.specs.Reading
pub use Rattle.age_io.specs.ReadingLemmas
pub use Rattle.age_io.specs.Keeping
pub use Rattle.age_io.specs.Turns
pub use Rattle.age_io.proofs.Retrying
pub use Rattle.age_io.specs.Filling
pub use Rattle.age_io.specs.Failing
pub use Rattle.age_io.specs.Writing
pub use Rattle.age_io.specs.WritingLemmas
pub use Rattle.age_io.specs.Copying
pub use Rattle.age_io.specs.CopyingLemmas
pub use Rattle.age_io.specs.Whole
pub use Rattle.age_io.specs.Cursor
pub use Rattle.age_io.specs.CursorLemmas
pub use Rattle.age_io.specs.Replies
pub use Rattle.age_io.specs.Slices
pub use Rattle.age_io.specs.Buffering
pub use Rattle.age_io.proofs.Holding as BufferLemmas
pub use Rattle.age_io.specs.Buffered
pub use Rattle.age_io.specs.Standard
pub use Rattle.age_io.specs.StandardFaults
-- base64: age_base64
pub use Rattle.age_base64.specs.Base64
pub use Rattle.age_base64.specs.Lines
-- texts of keys: age_bech32
pub use Rattle.age_bech32.specs.declared.error.Bech32Error.TheVariants as Bech32ErrorVariants
pub use Rattle.age_bech32.specs.Symbols as Bech32Symbols
pub use Rattle.age_bech32.specs.Remainder as Bech32Remainder
pub use Rattle.age_bech32.specs.Groups as Bech32Groups
pub use Rattle.age_bech32.specs.Bech32
pub use Rattle.age_bech32.specs.Written as Bech32Written
pub use Rattle.age_bech32.specs.Refusals as Bech32Refusals
-- the definition of age-encryption.org/v1: age_v1
pub use Rattle.age_v1.specs.Stanza
pub use Rattle.age_v1.specs.Header
pub use Rattle.age_v1.specs.HeaderMac
pub use Rattle.age_v1.specs.Payload
pub use Rattle.age_v1.specs.File
pub use Rattle.age_v1.specs.Claims
pub use Rattle.age_v1.specs.Armor
pub use Rattle.age_v1.specs.Recipients
pub use Rattle.age_v1.specs.Encrypting
pub use Rattle.age_v1.specs.Identities
pub use Rattle.age_v1.specs.RecipientType
pub use Rattle.age_v1.specs.X25519
pub use Rattle.age_v1.specs.Scrypt
-- what a reader makes of any bytes
pub use Rattle.age_v1.specs.HeaderTexts
pub use Rattle.age_v1.specs.HeaderVerdict
pub use Rattle.age_v1.specs.DeliveredPayload
pub use Rattle.age_v1.specs.PayloadRefusals
pub use Rattle.age_v1.specs.PayloadAnswers
pub use Rattle.age_v1.specs.PayloadTargets
pub use Rattle.age_v1.specs.PayloadLaws
pub use Rattle.age_v1.specs.ArmorFullLines
pub use Rattle.age_v1.specs.ArmorLineVerdict
pub use Rattle.age_v1.specs.ArmorFirstFault
pub use Rattle.age_v1.specs.DeliveredArmor
-- armor: age_armor
pub use Rattle.age_v1.proofs.DeliveredArmors
pub use Rattle.age_armor.specs.Stages as ArmorStages
pub use Rattle.age_armor.specs.Ending as ArmorEnding
pub use Rattle.age_armor.specs.Refusing as ArmorRefusing
pub use Rattle.age_armor.specs.Marks as ArmorMarks
pub use Rattle.age_armor.specs.Reader as ArmorReader
pub use Rattle.age_armor.specs.Opening as ArmorOpening
pub use Rattle.age_armor.specs.Seeks as ArmorSeeks
pub use Rattle.age_armor.specs.Seeking as ArmorSeeking
pub use Rattle.age_armor.specs.Writing as ArmorWriting
pub use Rattle.age_armor.specs.WriterCalls as ArmorWriterCalls
-- payloads: age_stream
pub use Rattle.age_stream.specs.Seeking as StreamSeeking
pub use Rattle.age_stream.specs.Sealed as StreamSealed
pub use Rattle.age_stream.specs.Keeping as StreamKeeping
pub use Rattle.age_stream.specs.Naming as StreamNaming
pub use Rattle.age_stream.specs.Access as StreamAccess
pub use Rattle.age_stream.specs.Reader as StreamReader
pub use Rattle.age_stream.specs.NewReader as NewStreamReader
pub use Rattle.age_stream.specs.ReadingLemmas as StreamReadingLemmas
pub use Rattle.age_stream.specs.Sending as StreamSending
pub use Rattle.age_stream.specs.Writing as StreamWriting
pub use Rattle.age_stream.specs.WritingLemmas as StreamWritingLemmas
-- headers: age_format
pub use Rattle.age_format.specs.HeaderV1
pub use Rattle.age_format.specs.ReadingHeader
pub use Rattle.age_format.specs.OldHeader
pub use Rattle.age_format.specs.Wrapping
pub use Rattle.age_format.specs.Unwrapping
pub use Rattle.age_v1.proofs.AskedInTurn
pub use Rattle.age_v1.specs.Belonging
pub use Rattle.age_v1.proofs.BelongingInTurn
pub use Rattle.age_format.specs.Boxed
-- keys: age_keys
pub use Rattle.age_keys.specs.X25519Laws
pub use Rattle.age_keys.specs.ScryptLaws
pub use Rattle.age_keys.specs.KeyTexts
pub use Rattle.age_keys.specs.PluginKeys
-- files: age_protocol
pub use Rattle.age_protocol.specs.Answers
pub use Rattle.age_protocol.specs.Starting
pub use Rattle.age_protocol.specs.Ready
pub use Rattle.age_protocol.specs.Decryptor
pub use Rattle.age_protocol.specs.Decrypting
pub use Rattle.age_protocol.specs.OpeningFile
pub use Rattle.age_protocol.specs.WholeFiles
pub use Rattle.age_protocol.specs.Texts
pub use Rattle.age_protocol.specs.DecryptingStreams
pub use Rattle.age_protocol.specs.Opened
pub use Rattle.age_protocol.specs.Parts
pub use Rattle.age_protocol.specs.Several
pub use Rattle.age_protocol.specs.Passphrases
pub use Rattle.age_protocol.specs.Migrating
pub use Rattle.age_protocol.specs.Laws as FileLaws
-- identity files: age_identity
pub use Rattle.age_identity.specs.Entries
pub use Rattle.age_identity.specs.Files as IdentityFiles
pub use Rattle.age_identity.specs.IdentityFile
pub use Rattle.age_identity.specs.Reading as IdentityReading
pub use Rattle.age_identity.specs.Limiting
pub use Rattle.age_identity.specs.Limited
pub use Rattle.age_identity.specs.LimitLemmas
pub use Rattle.age_identity.specs.ConvertErrors
pub use Rattle.age_identity.specs.Converting
pub use Rattle.age_identity.specs.Asking
-- protected identity files: age_encrypted
pub use Rattle.age_encrypted.specs.Protected
pub use Rattle.age_encrypted.specs.EncryptedIdentity
pub use Rattle.age_encrypted.specs.ProtectedIdentity
pub use Rattle.age_encrypted.specs.Identity as EncryptedIdentities

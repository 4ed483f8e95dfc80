-- The numbers of refusals, as callers outside of Rattle see them. 0 is a success, and each refusal has a number above 1.
use Rattle.std.specs.Prelude.{ℕ}
use Rattle.age.specs.Types.{ArmoredReadError, DecryptError, EncryptError, Error, FileError}
use Rattle.age.specs.ArmoredReadErrorVariants as armor
use Rattle.age.specs.DecryptErrorVariants as decrypt
use Rattle.age.specs.EncryptErrorVariants as encrypt
use Rattle.age.specs.ErrorVariants as io
use Rattle.age.specs.FileErrorVariants as file

-- why a text isn't armor
abbrev pub of_armor : ArmoredReadError → ℕ
of_armor armor.Base64 = 30
of_armor armor.InvalidBeginMarker = 31
of_armor armor.InvalidUtf8 = 32
of_armor armor.LineContainsCr = 33
of_armor armor.MissingPadding = 34
of_armor armor.NotWrappedAt64Chars = 35
of_armor armor.ShortLineInMiddle = 36
of_armor armor.TrailingGarbage = 37

-- why a reader, a writer or a seek refused
abbrev pub of_io : Error → ℕ
of_io (io.Device kind) = 10
of_io io.UnexpectedEof = 11
of_io io.WriteZero = 12
of_io io.BeforeStart = 13
of_io io.PastEnd = 14
of_io io.Truncated = 15
of_io io.BadChunk = 16
of_io io.AfterLast = 17
of_io io.LastChunkEmpty = 18
of_io io.BadEnd = 19
of_io io.TooLong = 20
of_io io.LimitExceeded = 21
of_io (io.Armor fault) = of_armor fault
of_io (io.NotIdentity line) = 22
of_io io.Failed = 23
of_io io.OutOfMemory = 4

-- why a file isn't decrypted
abbrev pub of_decrypt : DecryptError → ℕ
of_decrypt decrypt.DecryptionFailed = 40
of_decrypt (decrypt.ExcessiveWork required target) = 41
of_decrypt decrypt.InvalidHeader = 42
of_decrypt decrypt.InvalidMac = 43
of_decrypt (decrypt.Io e) = of_io e
of_decrypt decrypt.KeyDecryptionFailed = 44
of_decrypt decrypt.NoMatchingKeys = 45
of_decrypt (decrypt.PluginResolve e) = 46
of_decrypt decrypt.UnknownFormat = 47
of_decrypt decrypt.OutOfMemory = 4

-- why nothing is encrypted
abbrev pub of_encrypt : EncryptError → ℕ
of_encrypt (encrypt.EncryptedIdentities e) = 50
of_encrypt (encrypt.IncompatibleRecipients left right) = 51
of_encrypt (encrypt.InvalidRecipientLabels labels) = 52
of_encrypt (encrypt.Io e) = of_io e
of_encrypt encrypt.MissingRecipients = 53
of_encrypt encrypt.MixedRecipientAndPassphrase = 54
of_encrypt (encrypt.PluginResolve e) = 46
of_encrypt encrypt.ShortRandom = 55
of_encrypt encrypt.ZeroSharedSecret = 56
of_encrypt encrypt.WorkFactorRefused = 57
of_encrypt encrypt.OutOfMemory = 4

-- why a call on a whole file was refused
abbrev pub of_file : FileError → ℕ
of_file (file.Io e) = of_io e
of_file (file.Encrypt e) = of_encrypt e
of_file (file.Decrypt e) = of_decrypt e

-- What each status says, in English. Where a refusal of the library prints no number and no name, it says the same.
use Rattle.std.specs.Prelude.{ℕ, List, [], ◌∷◌, if◌then◌else◌, nat_eq, codes}
use Rattle.age.specs.ArmoredReadErrorVariants as armor
use Rattle.age.specs.DecryptErrors as decrypt
use Rattle.age.specs.EncryptErrors as encrypt
use Rattle.age.specs.ErrorVariants as io
use Rattle.age.specs.LongMessages.{decrypt_text, encrypt_text}
use Rattle.age.specs.Messages.{armor_message, message}

-- the text beside a number in a table, or another one where the number isn't there
abbrev text_among : List (ℕ × List ℕ) → List ℕ → ℕ → List ℕ
text_among [] other number = other
text_among ((first, text) ∷ more) other number = if nat_eq number first then text else text_among more other number

abbrev status_texts : List (ℕ × List ℕ)
status_texts =
    -- the call itself, and memory
    (0, codes "success") ∷
    (1, codes "the room for the answer is too short") ∷
    (2, codes "more of the file is needed") ∷
    (3, codes "a length that no key or payload has") ∷
    (4, message io.OutOfMemory) ∷
    -- reading, writing and seeking
    (10, codes "device fault") ∷
    (11, message io.UnexpectedEof) ∷
    (12, message io.WriteZero) ∷
    (13, message io.BeforeStart) ∷
    (14, message io.PastEnd) ∷
    (15, message io.Truncated) ∷
    (16, message io.BadChunk) ∷
    (17, message io.AfterLast) ∷
    (18, message io.LastChunkEmpty) ∷
    (19, message io.BadEnd) ∷
    (20, message io.TooLong) ∷
    (21, message io.LimitExceeded) ∷
    (22, codes "a line is no identity") ∷
    (23, message io.Failed) ∷
    -- armor
    (30, armor_message armor.Base64) ∷
    (31, armor_message armor.InvalidBeginMarker) ∷
    (32, armor_message armor.InvalidUtf8) ∷
    (33, armor_message armor.LineContainsCr) ∷
    (34, armor_message armor.MissingPadding) ∷
    (35, armor_message armor.NotWrappedAt64Chars) ∷
    (36, armor_message armor.ShortLineInMiddle) ∷
    (37, armor_message armor.TrailingGarbage) ∷
    -- decrypting
    (40, decrypt_text decrypt.DecryptionFailed) ∷
    (41, codes "excessive work factor") ∷
    (42, decrypt_text decrypt.InvalidHeader) ∷
    (43, decrypt_text decrypt.InvalidMac) ∷
    (44, decrypt_text decrypt.KeyDecryptionFailed) ∷
    (45, decrypt_text decrypt.NoMatchingKeys) ∷
    (46, codes "plugins are never started") ∷
    (47, decrypt_text decrypt.UnknownFormat) ∷
    -- encrypting
    (50, codes "encrypted identities name no recipients") ∷
    (51, codes "recipients have different labels") ∷
    (52, codes "invalid recipient labels") ∷
    (53, encrypt_text encrypt.MissingRecipients) ∷
    (54, encrypt_text encrypt.MixedRecipientAndPassphrase) ∷
    (55, encrypt_text encrypt.ShortRandom) ∷
    (56, encrypt_text encrypt.ZeroSharedSecret) ∷
    (57, encrypt_text encrypt.WorkFactorRefused) ∷
    -- texts of keys and passphrases
    (60, codes "not UTF-8") ∷
    (61, codes "a line is no recipient") ∷
    (62, codes "no recipient is in the text") ∷
    (63, codes "no identity is in the text") ∷
    (64, codes "the passphrase is empty") ∷
    (65, codes "the text is encrypted with a passphrase") ∷
    []

abbrev pub status_text : ℕ → List ℕ
status_text = text_among status_texts (codes "unknown status")

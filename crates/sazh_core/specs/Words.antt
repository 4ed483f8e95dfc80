-- Recipients that the words of a command line name.
use Rattle.std.specs.Prelude.{◌≡◌, ◌⊎◌, ℕ, List, [], ◌∷◌, ◌++◌, length, codes, string_bytes}
use Rattle.std.specs.Str.{IsUtf8}
use Rattle.std.specs.Str.Lines.{lines}
use Rattle.age.specs.KeyTexts.{IsRefusedAs}
use Rattle.age.specs.X25519.{recipient_prefix}
use Rattle.age.specs.Members.{ReadMembers}
use Rattle.sazh_core.specs.OwnRecipients as own
use Rattle.sazh_core.specs.Recipients as file
use Rattle.sazh_core.specs.declared.error.WordsError.{WordsError}
use Rattle.sazh_core.specs.declared.error.WordsError.TheVariants as error
use Rattle.sazh_core.specs.declared.words.Word.{Word}
use Rattle.sazh_core.specs.declared.words.Word.TheVariants.{Text, File, Identities}

-- the one recipient of a text
abbrev pub AreOfText : List ℕ → List (List ℕ) → Type 0
AreOfText text keys = (key : List ℕ) × (keys ≡ key ∷ []) × file.IsRecipient text key

module _ (public_of : List ℕ → List ℕ) where
  -- the recipients of a word: that of its text, those of the lines of its file, or those of the identities in its file, in their order
  abbrev pub AreOfWord : Word → List (List ℕ) → Type 0
  AreOfWord (Text text) keys = AreOfText (string_bytes text) keys
  AreOfWord (File bytes) keys = IsUtf8 bytes.items × file.AreRecipients (lines bytes.items) keys
  AreOfWord (Identities bytes) keys = own.AreOfIdentities public_of bytes.items keys

  -- the recipients of words: those of the first, and then those of the others
  abbrev pub AreOfWords : List Word → List (List ℕ) → Type 0
  AreOfWords [] keys = keys ≡ []
  AreOfWords (word ∷ more) keys = (first : List (List ℕ)) × (others : List (List ℕ)) × (keys ≡ first ++ others)
      × AreOfWord word first × AreOfWords more others

-- why the word of this number isn't the text of a recipient, or can't be told to be
abbrev pub RefusesRecipientWord : ℕ → List ℕ → WordsError → Type 0
RefusesRecipientWord number text (error.NotRecipient word why) =
    (word ≡ number) × IsRefusedAs recipient_prefix (codes "incorrect pubkey length") text why.now
RefusesRecipientWord number text (error.File word why) = ⊥
RefusesRecipientWord number text (error.Identities word why) = ⊥
RefusesRecipientWord number text error.OutOfMemory = Unit {0}

-- why the word of this number isn't a file of recipients
abbrev pub RefusesRecipientFileWord : ℕ → List ℕ → WordsError → Type 0
RefusesRecipientFileWord number bytes (error.File word why) = (word ≡ number) × file.RefusesRecipientBytes why bytes
RefusesRecipientFileWord number bytes (error.NotRecipient word why) = ⊥
RefusesRecipientFileWord number bytes (error.Identities word why) = ⊥
RefusesRecipientFileWord number bytes error.OutOfMemory = ⊥

module _ {T : Type 0} (text_read : ReadMembers T) (S : Type 0) where
  -- why the word of this number isn't a file of identities whose recipients can be told
  abbrev pub RefusesIdentityFileWord : ℕ → List ℕ → WordsError → Type 0
  RefusesIdentityFileWord number bytes (error.Identities word why) = (word ≡ number) × own.RefusesOwnIdentities text_read S bytes why
  RefusesIdentityFileWord number bytes (error.NotRecipient word why) = ⊥
  RefusesIdentityFileWord number bytes (error.File word why) = ⊥
  RefusesIdentityFileWord number bytes error.OutOfMemory = ⊥

  -- why the word of this number names no recipients, or can't be told to
  abbrev pub RefusesWord : ℕ → Word → WordsError → Type 0
  RefusesWord number (Text text) e = RefusesRecipientWord number (string_bytes text) e
  RefusesWord number (File bytes) e = RefusesRecipientFileWord number bytes.items e
  RefusesWord number (Identities bytes) e = RefusesIdentityFileWord number bytes.items e

  -- Of these words the first that is refused, and the recipients of those before it.
  pub record IsFirstRefused (public_of : List ℕ → List ℕ) (all : List Word) (e : WordsError) : Type 0 where
    pub before : List Word
    pub word : Word
    pub after : List Word
    pub parts : all ≡ before ++ word ∷ after
    pub keys : List (List ℕ)
    pub good : AreOfWords public_of before keys
    pub refused : RefusesWord (length before) word e

  -- why words name no recipients, or can't be told to
  abbrev pub RefusesWords : (List ℕ → List ℕ) → List Word → WordsError → Type 0
  RefusesWords public_of all e = (e ≡ error.OutOfMemory) ⊎ IsFirstRefused public_of all e

-- What a recipient answers, and labels: age-encryption.org/v1, section "Recipient types", and the labels of the plugin specification.
use Rattle.std.specs.Prelude.{Bool, Err, List, None, Ok, Option, Result, Some, [], bytes_eq, codes, if◌then◌else◌, length, nat_eq, ℕ, ◌++◌, ◌∷◌}
use Rattle.std.specs.List.{list_all, list_any}
use Rattle.std.specs.Cmp.Lexicographic.{pointwise}
use Rattle.age_error.specs.EncryptErrors.{EncryptRefusal, IncompatibleRecipients, InvalidRecipientLabels, MissingRecipients, MixedRecipientAndPassphrase}
use Rattle.age_v1.specs.Stanza.{StanzaValue, is_string_of}

-- the stanzas that hold the file key, and the labels in order
pub record Wrapped : Type 0 where
  pub stanzas : List StanzaValue
  pub labels : List (List ℕ)

-- these, or a refusal
abbrev pub WrapAnswer : Type 0
WrapAnswer = Result Wrapped EncryptRefusal

-- a set of labels, each a text, in order and once: only recipients with the same set may have a file together (age's plugin specification)
abbrev pub Labels : Type 0
Labels = List (List ℕ)

-- what the recipients asked so far come to: the labels that all of them gave, None before the first, and all their stanzas
pub record Gathered : Type 0 where
  pub labels : Option Labels
  pub stanzas : List StanzaValue

-- before the first recipient
abbrev pub nothing_yet : Gathered
nothing_yet = record { labels = None; stanzas = [] }

-- whether a stanza is one of a passphrase
abbrev pub has_scrypt : List StanzaValue → Bool
has_scrypt stanzas = list_any (λ s. bytes_eq s.tag (codes "scrypt")) stanzas

-- whether two sets of labels are the same set
abbrev pub same_labels : Labels → Labels → Bool
same_labels left right = pointwise bytes_eq left right

-- The labels that all share after one more recipient: those of the first must be strings, and those of each later one the
-- same set. `scrypt` says whether a stanza so far, this recipient's among them, is one of a passphrase.
abbrev pub agreed_labels : Option Labels → Labels → Bool → Result Labels EncryptRefusal
agreed_labels None labels scrypt = if list_all is_string_of labels then Ok labels else Err (InvalidRecipientLabels labels)
agreed_labels (Some first) labels scrypt =
    if same_labels first labels then Ok first
    else Err (if scrypt then MixedRecipientAndPassphrase else IncompatibleRecipients first labels)

-- the stanzas with the labels, where those agree
abbrev pub with_labels : List StanzaValue → Result Labels EncryptRefusal → Result Gathered EncryptRefusal
with_labels stanzas (Ok labels) = Ok (record { labels = Some labels; stanzas = stanzas })
with_labels stanzas (Err e) = Err e

-- what the recipients come to with one more answer: its refusal is theirs, and its labels are tested
abbrev pub judged : Gathered → WrapAnswer → Result Gathered EncryptRefusal
judged so_far (Err e) = Err e
judged so_far (Ok wrapped) =
    let stanzas = so_far.stanzas ++ wrapped.stanzas in
    with_labels stanzas (agreed_labels so_far.labels wrapped.labels (has_scrypt stanzas))

-- a header has one stanza or more
abbrev pub one_or_more : List StanzaValue → Result (List StanzaValue) EncryptRefusal
one_or_more [] = Err MissingRecipients
one_or_more (s ∷ stanzas) = Ok (s ∷ stanzas)

-- the stanzas, and then the grease, if there is one
abbrev pub greased : List StanzaValue → Option StanzaValue → Result (List StanzaValue) EncryptRefusal
greased stanzas None = one_or_more stanzas
greased stanzas (Some grease) = Ok (stanzas ++ grease ∷ [])

-- The header's stanzas once all have answered: the stanza of a passphrase alone, or else all of them and then the grease.
-- standard: "The scrypt recipient type": no other stanza may stand beside one of a passphrase
abbrev pub closed : Option Labels → List StanzaValue → Option StanzaValue → Result (List StanzaValue) EncryptRefusal
closed None stanzas grease = Err MissingRecipients
closed (Some labels) stanzas grease =
    if has_scrypt stanzas then (if nat_eq (length stanzas) 1 then Ok stanzas else Err MixedRecipientAndPassphrase)
    else greased stanzas grease

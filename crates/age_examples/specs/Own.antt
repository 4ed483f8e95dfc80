-- What a recipient and an identity of one's own answer.
use Rattle.std.specs.Prelude.{◌≡◌, ℕ, List, [], ◌∷◌, Some, None, Ok, Err, if◌then◌else◌, length, nat_eq, bytes_eq, codes, Bool, not}
use Rattle.age.specs.DecryptErrors.{InvalidHeader}
use Rattle.age.specs.Encrypting.{Ends, UnlessNoMemory}
use Rattle.age.specs.Stanza.{StanzaValue}
use Rattle.age.specs.Recipients.{Wrapped, WrapAnswer}
use Rattle.age.specs.Identities.{UnwrapAnswer}

-- the stanza whose body is the file key
abbrev pub own_stanza : List ℕ → StanzaValue
own_stanza file_key = record { tag = codes "own"; args = []; body = file_key }

-- one stanza, and no labels
abbrev pub own_wrapped : List ℕ → Wrapped
own_wrapped file_key = record { stanzas = own_stanza file_key ∷ []; labels = [] }

-- what the recipient answers to a file key: of the random bytes before, the answer and the random bytes left
abbrev pub OwnWraps : List ℕ → List ℕ → WrapAnswer → List ℕ → Type 0
OwnWraps file_key draws answer left = UnlessNoMemory (Ends (Ok (own_wrapped file_key)) draws answer left) draws answer left

-- a stanza with another tag is passed over; one with an argument, or a body not of 16 bytes, is refused
abbrev pub own_unwrapped : StanzaValue → UnwrapAnswer
own_unwrapped stanza =
    if bytes_eq stanza.tag (codes "own") then
    (if nat_eq (length stanza.args) 0 then
    (if nat_eq (length stanza.body) 16 then Some (Ok stanza.body) else Some (Err InvalidHeader))
    else Some (Err InvalidHeader))
    else None

-- what the identity answers to a stanza
abbrev pub OwnAsks : StanzaValue → UnwrapAnswer → Type 0
OwnAsks stanza answer = answer ≡ own_unwrapped stanza

-- a stanza with another tag
abbrev pub has_other_tag : StanzaValue → Bool
has_other_tag stanza = not (bytes_eq stanza.tag (codes "own"))

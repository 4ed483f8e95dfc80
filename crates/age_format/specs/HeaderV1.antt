-- A header that was read or made, and its MAC.
use Rattle.std.specs.Prelude.{List, [], codes, ℕ, ◌∷◌, ◌≡◌}
use Rattle.age_v1.specs.Stanza.{StanzaValue}
use Rattle.age_v1.specs.Header.{IsHeader}

-- what a header says
pub record HeaderValue : Type 0 where
  pub stanzas : List StanzaValue
  pub mac : List ℕ

-- one or more stanzas, and a MAC of 32 bytes
abbrev pub IsHeaderValue : HeaderValue → Type 0
IsHeaderValue h = IsHeader h.stanzas h.mac

-- the only stanza has the tag scrypt
abbrev pub IsScrypt : List StanzaValue → Type 0
IsScrypt stanzas = (s : StanzaValue) × (stanzas ≡ s ∷ []) × (s.tag ≡ codes "scrypt")

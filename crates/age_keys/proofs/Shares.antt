-- A stanza that has a share.
use Rattle.std.proofs.Common.{◌≡◌, ℕ, List, [], ◌∷◌, length, ap, sym, ◌∙◌}
use Rattle.age_error.specs.Bytes.{AreBytesOf}
use Rattle.age_base64.specs.Base64.{columns}
use Rattle.age_v1.specs.Stanza.{StanzaValue}
use Rattle.age_v1.specs.X25519.{HasShare}

-- its one argument is the base64 of the share
pub has_share : (s : StanzaValue) (argument share : List ℕ) → s.args ≡ argument ∷ [] → AreBytesOf 32 share → columns share ≡ argument
    → length s.body ≡ 32
    → HasShare share s
has_share s argument share are bytes is body = record { args = are ∙ ap (λ a. a ∷ []) (sym is); bytes = bytes; body = body }

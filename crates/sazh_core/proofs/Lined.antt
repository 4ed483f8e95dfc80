-- One line more.
use Rattle.std.proofs.Common.{◌≡◌, ◌∙◌, ℕ, List, [], ◌∷◌, ◌++◌, ap, sym}
use Rattle.std.proofs.lemmas.List.{append-nil, append_assoc}
use Rattle.age.specs.Bech32Written.{bech32_text}
use Rattle.age.specs.X25519.{recipient_prefix}
use Rattle.age.specs.Lines.{line}
use Rattle.sazh_core.specs.OwnRecipients.{recipients_text}

-- the text of some recipients, and then the line of one more
pub line_added : (keys : List (List ℕ)) (key : List ℕ)
    → recipients_text (keys ++ key ∷ []) ≡ recipients_text keys ++ line (bech32_text recipient_prefix key)
line_added [] key = append-nil (line (bech32_text recipient_prefix key))
line_added (first ∷ keys) key =
    let own = line (bech32_text recipient_prefix first) in
    ap (λ l. own ++ l) (line_added keys key) ∙ sym (append_assoc own (recipients_text keys) (line (bech32_text recipient_prefix key)))

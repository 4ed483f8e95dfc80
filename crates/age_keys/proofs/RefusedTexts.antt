-- A text that is refused is that of no key.
use Rattle.std.specs.Prelude.{◌≡◌, ◌≢◌, ◌⊎◌, ℕ, List, length}
use Rattle.std.proofs.Common.{◌∙◌, sym, ap, inl, inr}
use Rattle.age_bech32.specs.Symbols.{lowered}
use Rattle.age_bech32.proofs.Readings.{reading}
use Rattle.age_keys.specs.KeyTexts.{IsRefusedAs}
use Rattle.age_v1.specs.X25519.{IsKeyText}

of_cause : (prefix key other written bytes message size_message incorrect : List ℕ) → lowered key ≡ lowered prefix → length other ≡ 32
    → key ≡ written → other ≡ bytes
    → ((lowered written ≢ lowered prefix) × (message ≡ incorrect))
    ⊎ ((lowered written ≡ lowered prefix) × (length bytes ≢ 32) × (message ≡ size_message)) → ⊥
of_cause prefix key other written bytes message size_message incorrect same size is_written is_bytes (inl prefixes) =
    prefixes.0 (ap lowered (sym is_written) ∙ same)
of_cause prefix key other written bytes message size_message incorrect same size is_written is_bytes (inr sizes) =
    sizes.1 (ap length (sym is_bytes) ∙ size)

pub refused : (prefix size_message text message : List ℕ) → IsRefusedAs prefix size_message text message → (key : List ℕ)
    → IsKeyText prefix text key → ⊥
refused prefix size_message text message (inl none) key is = none.0 is.written key is.reads
refused prefix size_message text message (inr other) key is =
    let (same_prefix, same_bytes) = reading text is.written other.written key other.bytes is.reads other.reads in
    of_cause prefix is.written key other.written other.bytes message size_message _ is.same is.size same_prefix same_bytes other.cause

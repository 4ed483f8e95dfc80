-- The rule on stanzas of passphrases.
use Rattle.std.proofs.Common.{◌≡◌, ◌≢◌, ◌∙◌, refl, sym, ap, ◌+◌, List, [], ◌∷◌, ◌++◌, Bool, true, false, ◌||◌, length, length-append, inl, arith}
use Rattle.std.specs.Prelude.{codes, bytes_eq}
use Rattle.std.specs.List.{AllByRecursion, list_any}
use Rattle.std.proofs.lemmas.Slice.Eq.{bytes_eq-Decides}
use Rattle.std.proofs.lemmas.Bool.{true≢false}
use Rattle.age_base64.proofs.Lines.{each-append}
use Rattle.age_v1.specs.HeaderTexts.{IsGreaseTag}
use Rattle.age_v1.specs.Stanza.{StanzaValue}
use Rattle.age_v1.specs.Header.{KeepsScryptRule}
use Rattle.age_v1.specs.Recipients.{has_scrypt}

left_false : (a b : Bool) → (a || b) ≡ false → a ≡ false
left_false true b h = h
left_false false b h = refl

right_false : (a b : Bool) → (a || b) ≡ false → b ≡ false
right_false true b h = absurd (true≢false h)
right_false false b h = h

-- where no tag is found, none is there
none_found : (stanzas : List StanzaValue) → has_scrypt stanzas ≡ false → AllByRecursion (λ s. s.tag ≢ codes "scrypt") stanzas
none_found [] none = tt
none_found (s ∷ stanzas) none =
    let test = bytes_eq s.tag (codes "scrypt") in
    let others = list_any (λ t. bytes_eq t.tag (codes "scrypt")) stanzas in (
      λ is. true≢false (sym ((bytes_eq-Decides s.tag (codes "scrypt")).1 is) ∙ left_false test others none),
      none_found stanzas (right_false test others none),
    )

pub rule_without : (stanzas : List StanzaValue) → has_scrypt stanzas ≡ false → KeepsScryptRule stanzas
rule_without stanzas none = inl (none_found stanzas none)

-- grease is no stanza of a passphrase
pub rule_with : (stanzas : List StanzaValue) (grease : StanzaValue) → has_scrypt stanzas ≡ false → IsGreaseTag grease.tag
    → KeepsScryptRule (stanzas ++ grease ∷ [])
rule_with stanzas grease none tag =
    let longer : length grease.tag ≡ length tag.0 + 7 = ap length tag.1 ∙ length-append tag.0 (codes "-grease") in
    inl (each-append (λ s. s.tag ≢ codes "scrypt") stanzas (grease ∷ []) (none_found stanzas none)
    (λ is. let six : length grease.tag ≡ 6 = ap length is in omega (arith, longer, six), tt))

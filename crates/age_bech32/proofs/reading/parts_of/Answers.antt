use Rattle.std.proofs.Common.{◌≡◌, ◌≢◌, ℕ, List, ◌+◌, ◌-◌, ◌∙◌, length, length-drop, take, drop, ap, sym, subst, arith}
use Rattle.std.specs.List.{AllWithin}
use Rattle.age_bech32.specs.Bech32.{IsPrefix, IsPayload}
use Rattle.age_bech32.proofs.Lists.{whole}
use Rattle.age_bech32.proofs.Separating.{last_of, no_separator, prefix_of, payload_of}
use Rattle.age_bech32.proofs.reading.parts_of.Goals as goal

cut_at : (text : List ℕ) (i : ℕ) → take (i - 0) text ≡ take i text
cut_at text i = let e : i - 0 ≡ i = omega arith in ap (λ k. take k text) e

pub returns-in_default : goal.returns-in_default
returns-in_default c = no_separator c.args.text.now
    (subst (λ t. AllWithin (λ b. b ≢ 49) t 0 (length t)) c.as_bytes-bytes.ensures.value c.in_default.ensures)

pub returns-then-not-is_prefix : goal.returns-then-not-is_prefix
returns-then-not-is_prefix c =
    let last = last_of c.as_bytes-bytes.result.now c.args.text.now c.in-Some.separator c.as_bytes-bytes.ensures.value c.in-Some.ensures in
    let front : c.as_bytes.result.now ≡ take c.in-Some.separator c.args.text.now =
    c.as_bytes.ensures.value ∙ c.range-prefix.ensures.value ∙ cut_at c.args.text.now c.in-Some.separator in
    λ prefix bytes b. c.if-not-is_prefix.ensures (subst IsPrefix (sym front) (prefix_of c.args.text.now c.in-Some.separator last prefix bytes b))

pub returns-in-None : goal.returns-in-None
returns-in-None c =
    let last = last_of c.as_bytes-bytes.result.now c.args.text.now c.in-Some.separator c.as_bytes-bytes.ensures.value c.in-Some.ensures in
    let front : c.as_bytes-2.result.now ≡ take c.in-Some.separator c.args.text.now =
    c.as_bytes-2.ensures.value ∙ c.range-prefix.ensures.value ∙ cut_at c.args.text.now c.in-Some.separator in
    let next = c.in-Some.separator + 1 in
    let whole_text = c.as_bytes-bytes.result.now in
    let size = length-drop next whole_text in
    let rest : take (length whole_text - next) (drop next whole_text) ≡ drop next c.args.text.now =
    whole (drop next whole_text) (length whole_text - next) (omega (arith, size)) ∙ ap (drop next) c.as_bytes-bytes.ensures.value in
    λ prefix bytes b. c.in-None.ensures bytes
    (subst (λ p. IsPayload p (take (length whole_text - next) (drop next whole_text)) bytes) (sym front)
    (subst (λ r. IsPayload (take c.in-Some.separator c.args.text.now) r bytes) (sym rest)
    (payload_of c.args.text.now c.in-Some.separator last prefix bytes b)))

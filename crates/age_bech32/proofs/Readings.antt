-- A text has one reading, and a prefix and bytes have one text in each case.
use Rattle.std.proofs.Common.{◌≡◌, ◌≢◌, ℕ, List, [], ◌∷◌, ◌++◌, ap, sym, subst, ◌∙◌, append_assoc}
use Rattle.std.specs.Char.{to_ascii_lowercase}
use Rattle.std.specs.List.{AllByRecursion}
use Rattle.age_bech32.specs.Symbols.{lowered, has_upper}
use Rattle.age_bech32.specs.Remainder.{remainder, remainder_after, expanded}
use Rattle.age_bech32.specs.Bech32.{IsBech32, IsPayload}
use Rattle.age_bech32.proofs.Cases.{told, append-lowered}
use Rattle.age_bech32.proofs.OneSymbol.{same_symbol}
use Rattle.age_bech32.proofs.Payloads.{one_reading, one_spelling}
use Rattle.age_bech32.proofs.Remainders.{after-append}
use Rattle.age_bech32.proofs.Separating.{same_parts, rest-lacks}

pub reading : (text prefix other bytes more : List ℕ) → IsBech32 text prefix bytes → IsBech32 text other more → (prefix ≡ other) × (bytes ≡ more)
reading text prefix other bytes more a b =
    let parts = same_parts prefix other a.rest b.rest (rest-lacks prefix a.rest bytes a.payload) (rest-lacks other b.rest more b.payload)
    (sym a.parts ∙ b.parts) in (
      parts.0,
      one_reading other b.rest bytes more
          (subst (λ p. IsPayload p b.rest bytes) parts.0 (subst (λ r. IsPayload prefix r bytes) parts.1 a.payload)) b.payload,
    )

pub spelling : (text other prefix bytes : List ℕ) → IsBech32 text prefix bytes → IsBech32 other prefix bytes → has_upper text ≡ has_upper other
    → text ≡ other
spelling text other prefix bytes a b same =
    told text other a.one_case b.one_case same
    (ap lowered a.parts ∙ append-lowered prefix a.rest b.rest (one_spelling prefix a.rest b.rest bytes a.payload b.payload) 49
    ∙ ap lowered (sym b.parts))

checked_after : (prefix rest bytes : List ℕ) (p : IsPayload prefix rest bytes)
    → remainder_after (remainder (expanded prefix)) (p.groups ++ p.check) ≡ 1
checked_after prefix rest bytes p =
    sym (after-append 1 (expanded prefix) (p.groups ++ p.check)) ∙ ap remainder (sym (append_assoc (expanded prefix) p.groups p.check)) ∙ p.checked

-- two payloads that differ in one symbol at most are the same in lower case
same_payload : (prefix front back bytes more : List ℕ) (c d : ℕ) → IsPayload prefix (front ++ c ∷ back) bytes
    → IsPayload prefix (front ++ d ∷ back) more
    → to_ascii_lowercase c ≡ to_ascii_lowercase d
same_payload prefix front back bytes more c d p q =
    same_symbol (remainder (expanded prefix)) c d front back (p.groups ++ p.check) (q.groups ++ q.check) p.values q.values p.spelled q.spelled
    (checked_after prefix (front ++ c ∷ back) bytes p ∙ sym (checked_after prefix (front ++ d ∷ back) more q))

cancelled : (p x y : List ℕ) → p ++ 49 ∷ x ≡ p ++ 49 ∷ y → x ≡ y
cancelled [] x y e = cc
cancelled (c ∷ p) x y e = let more : p ++ 49 ∷ x ≡ p ++ 49 ∷ y = cc in cancelled p x y more

exchanged : (front back : List ℕ) (c d : ℕ) → d ≢ 49 → AllByRecursion (λ b. b ≢ 49) (front ++ c ∷ back)
    → AllByRecursion (λ b. b ≢ 49) (front ++ d ∷ back)
exchanged [] back c d h lacks = (h, lacks.1)
exchanged (m ∷ front) back c d h lacks = (lacks.0, exchanged front back c d h lacks.1)

pub one_symbol : (prefix bytes front back : List ℕ) (c d : ℕ) → d ≢ 49 → to_ascii_lowercase c ≢ to_ascii_lowercase d
    → IsBech32 (prefix ++ 49 ∷ (front ++ c ∷ back)) prefix bytes → (other more : List ℕ)
    → IsBech32 (prefix ++ 49 ∷ (front ++ d ∷ back)) other more → ⊥
one_symbol prefix bytes front back c d separates differs a other more b =
    let x : front ++ c ∷ back ≡ a.rest = cancelled prefix (front ++ c ∷ back) a.rest a.parts in
    let p : IsPayload prefix (front ++ c ∷ back) bytes = subst (λ r. IsPayload prefix r bytes) (sym x) a.payload in
    let lacks = exchanged front back c d separates (rest-lacks prefix (front ++ c ∷ back) bytes p) in
    let parts = same_parts prefix other (front ++ d ∷ back) b.rest lacks (rest-lacks other b.rest more b.payload) b.parts in
    let q : IsPayload prefix (front ++ d ∷ back) more =
    subst (λ o. IsPayload o (front ++ d ∷ back) more) (sym parts.0) (subst (λ r. IsPayload other r more) (sym parts.1) b.payload) in
    differs (same_payload prefix front back bytes more c d p q)

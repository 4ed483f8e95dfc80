-- What reads give stands in the plaintext.
use Rattle.std.specs.Prelude.{◌≡◌, ℕ, ◌+◌, ◌-◌, ◌^◌, ◌<◌, Bool, true, false, List, [], ◌++◌, length, drop}
use Rattle.std.proofs.Common.{get_or, refl, sym, ap, subst, ◌∙◌, inl, inr, arith, length-append}
use Rattle.std.proofs.lemmas.Bool.{cases_lt}
use Rattle.std.proofs.lemmas.List.{get_or-take, get_or-drop, get_or_append_left, get_or-append_right}
use Rattle.std.proofs.lemmas.List.Elements.{All-from_get_or, All-get_or}
use Rattle.age_error.specs.Bytes.{AreBytes}
use Rattle.age_io.specs.Stretch.{Stretch}
use Rattle.age_v1.specs.Payload.{Seal, chunk_nonce, chunk}
use Rattle.age_v1.specs.PayloadAnswers.{OpensAs, Gives, IsByteAt, StandAt}

module _ (seal_of : Seal) (key : List ℕ) where
  pub held-seal : (last : Bool) (sealed plain : List ℕ) (i : ℕ) → OpensAs last seal_of key sealed i plain →
      AreBytes plain × (chunk i sealed ≡ seal_of key (chunk_nonce i last) plain) × (length (chunk i sealed) < 65552 → last ≡ true)
  held-seal true sealed plain i held = (held.bytes, held.is_seal, λ _. refl)
  held-seal false sealed plain i held = (held.bytes, held.is_seal, λ less. absurd (omega (arith, less, held.full)))

  -- what one read gives
  pub stand-given : (sealed : Stretch) (place room : ℕ) (bytes : List ℕ) → Gives seal_of key sealed place room bytes
      → StandAt seal_of key sealed.bytes place bytes
  stand-given sealed place room bytes gives = λ i within.
      let seal = held-seal gives.last sealed.bytes gives.plain gives.number gives.held in
      record {
        number = gives.number;
        at = gives.at + i;
        last = gives.last;
        plain = gives.plain;
        stands = omega (arith, gives.stands);
        under = omega (arith, within, gives.exact, gives.small, gives.within);
        within = omega (arith, within, gives.exact, gives.within);
        bytes = seal.0;
        is_seal = seal.1;
        short = seal.2;
        is = ap (λ xs. get_or xs i 0) gives.are ∙ get_or-take (length bytes) (drop gives.at gives.plain) i 0 within
            ∙ get_or-drop gives.at gives.plain i 0;
      }

  -- what stands in a plaintext is bytes
  pub stand-bytes : (sealed : List ℕ) (place : ℕ) (bytes : List ℕ) → StandAt seal_of key sealed place bytes → AreBytes bytes
  stand-bytes sealed place bytes stands = All-from_get_or (λ x. x < 2 ^ 8) bytes 0 (λ i within.
      let byte = stands i within in
      subst (λ (x : ℕ). x < 2 ^ 8) (sym byte.is) (All-get_or (λ x. x < 2 ^ 8) byte.plain byte.at 0 byte.within byte.bytes))

  -- nothing stands anywhere
  pub stand-none : (sealed : List ℕ) (place : ℕ) → StandAt seal_of key sealed place []
  stand-none sealed place = λ i within. absurd (omega (arith, within))

  -- and then more
  pub stand-joined : (sealed : List ℕ) (place : ℕ) (front back : List ℕ) → StandAt seal_of key sealed place front
      → StandAt seal_of key sealed (place + length front) back →
      StandAt seal_of key sealed place (front ++ back)
  stand-joined sealed place front back first second = λ i within. elim (cases_lt i (length front)) [
    | inl less ↦ subst (λ b. IsByteAt seal_of key sealed (place + i) b) (sym (get_or_append_left front back 0 i less)) (first i less)
    | inr more ↦
        let j = i - length front in
        let there : place + length front + j ≡ place + i = omega (arith, more) in
        let byte : get_or back j 0 ≡ get_or (front ++ back) i 0 = sym (get_or-append_right front back (length front) i 0 refl more) in
        subst (λ b. IsByteAt seal_of key sealed (place + i) b) byte
        (subst (λ p. IsByteAt seal_of key sealed p (get_or back j 0)) there (second j (omega (arith, more, within, length-append front back))))
  ]

-- What the tests of a header say.
use Rattle.std.proofs.Common.{◌≡◌, ◌↔◌, ℕ, ◌<◌, ◌≤◌, Bool, IsTrue, List, [], ◌∷◌, length, get_or, ap, sym, arith, subst, ◌∙◌}
use Rattle.std.proofs.lemmas.List.{nil_from_length}
use Rattle.std.specs.Prelude.{codes}
use Rattle.age_suite.specs.Mac.{hmac_of, hkdf_of}
use Rattle.age_v1.specs.Stanza.{StanzaValue}
use Rattle.age_format.specs.HeaderV1.{IsScrypt}
use Rattle.age_v1.specs.HeaderMac.{header_mac}

-- the HMAC under the key that HKDF gives is the header's MAC
pub mac_told : (b : Bool) (mac key front file_key : List ℕ) → key ≡ hkdf_of [] (codes "header") file_key
    → IsTrue b ↔ (mac ≡ hmac_of key front) → IsTrue b ↔ (mac ≡ header_mac file_key front)
unfolding header_mac
mac_told b mac key front file_key e told = subst (λ k. IsTrue b ↔ (mac ≡ hmac_of k front)) e told

-- a list of one is that one
single : (xs : List StanzaValue) (x : StanzaValue) → 1 ≤ length xs → length xs < 2 → x ≡ get_or xs 0 x → xs ≡ x ∷ []
single [] x least most e = absurd (omega arith)
single (y ∷ ys) x least most e = ap (λ z. z ∷ ys) (sym e) ∙ ap (λ zs. x ∷ zs) (nil_from_length ys (omega arith))

-- the tag of the only stanza decides
pub scrypt_told : (b : Bool) (xs : List StanzaValue) (x : StanzaValue) → 1 ≤ length xs → length xs < 2 → x ≡ get_or xs 0 x
    → IsTrue b ↔ (x.tag ≡ codes "scrypt") → IsTrue b ↔ IsScrypt xs
scrypt_told b xs x least most e told =
    let one = single xs x least most e in (
      λ t. (x, one, told.0 t),
      λ (y, same, tag). told.1 (ap (λ s. s.tag) (let both : x ∷ [] ≡ y ∷ [] = sym one ∙ same in let alike : x ≡ y = cc in alike) ∙ tag),
    )

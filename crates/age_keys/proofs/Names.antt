-- Names, and the keys that have them.
use Rattle.std.proofs.Common.{◌≡◌, ◌≢◌, ◌∙◌, inl, inr, refl, subst, Option, Some, None, MatchOption, ℕ, suc, ◌<◌, ◌++◌, ap, append_assoc, replicate, true, false, List, [], ◌∷◌, length, sym, arith, All}
use Rattle.std.specs.Prelude.{nat_lt, codes}
use Rattle.std.specs.List.{list_all}
use Rattle.std.proofs.lemmas.Bool.{and_parts}
use Rattle.std.proofs.lemmas.Bool.Decides.{nat_tests}
use Rattle.std.proofs.lemmas.List.{append_cancel_left}
use Rattle.std.proofs.lemmas.List.Elements.{All-nil, All-cons}
use Rattle.age_bech32.specs.Bech32.{IsBech32}
use Rattle.age_bech32.specs.Symbols.{lowered}
use Rattle.age_keys.specs.PluginKeys.{is_name, is_name_byte, recipient_front, identity_front, IsWithoutHyphens, IsPluginIdentity, RefusesRecipient, RefusesIdentity}

byte-ascii : (byte : ℕ) → is_name_byte byte ≡ true → byte < 128
byte-ascii byte h = grind (arith, nat_tests)

bytes-ascii : (bytes : List ℕ) → list_all is_name_byte bytes ≡ true → All (λ b. b < 128) bytes
bytes-ascii [] h = All-nil (λ b. b < 128)
bytes-ascii (x ∷ bytes) h =
    let (first, rest) = and_parts (is_name_byte x) (list_all is_name_byte bytes) h in
    All-cons (λ b. b < 128) x bytes (byte-ascii x first) (bytes-ascii bytes rest)

pub name-ascii : (name : List ℕ) → is_name name ≡ true → All (λ b. b < 128) name
name-ascii name h = bytes-ascii name (and_parts (nat_lt 0 (length name)) (list_all is_name_byte name) h).1

-- a hyphen more was taken off
pub one_hyphen_more : (bytes front before : List ℕ) (count : ℕ) → bytes ≡ front ++ replicate count 45 → front ≡ before ++ 45 ∷ []
    → (more : ℕ) × (bytes ≡ before ++ replicate more 45)
one_hyphen_more bytes front before count all is =
    (suc count, all ∙ ap (λ f. f ++ replicate count 45) is ∙ append_assoc before (45 ∷ []) (replicate count 45))

-- what stands between the front and a hyphen at the end
pub between_is : {X : Type 0} (now : X → List ℕ) (prefix front rest : List ℕ) (found : Option X) → prefix ≡ front ++ rest
    → MatchOption found ((before : List ℕ) → rest ≢ before ++ 45 ∷ []) (λ before. rest ≡ now before ++ 45 ∷ [])
    → MatchOption found ((before : List ℕ) → prefix ≢ front ++ before ++ 45 ∷ []) (λ before. prefix ≡ front ++ now before ++ 45 ∷ [])
between_is now prefix front rest None is none =
    λ before e. none before (append_cancel_left front rest (before ++ 45 ∷ []) (sym is ∙ e ∙ append_assoc front before (45 ∷ [])))
between_is now prefix front rest (Some before) is has = is ∙ ap (λ r. front ++ r) has ∙ sym (append_assoc front (now before) (45 ∷ []))

-- what stands there is no name
pub no_name : (text prefix before front bytes : List ℕ) → IsBech32 text prefix bytes → prefix ≡ identity_front ++ before ++ 45 ∷ []
    → IsWithoutHyphens before front
    → is_name front ≡ false → RefusesIdentity text (codes "invalid plugin name")
no_name text prefix before front bytes reads is trimmed none =
    inr (inr (inl (before, front, bytes, subst (λ p. IsBech32 text p bytes) is reads, trimmed, none, refl)))

-- a text of a recipient's key is refused for want of memory
pub recipient_wants : (text prefix as_bytes name bytes : List ℕ) → IsBech32 text prefix bytes → as_bytes ≡ prefix → as_bytes ≡ recipient_front ++ name
    → is_name name ≡ true → RefusesRecipient text (codes "out of memory")
recipient_wants text prefix as_bytes name bytes reads same is named =
    inr (inr (inr (
      record { name = name; text = text },
      refl,
      record { bytes = bytes; reads = subst (λ p. IsBech32 text p bytes) (sym same ∙ is) reads; named = named },
      refl,
    )))

-- and that of an identity's
pub identity_wants : (text prefix before front bytes : List ℕ) → IsBech32 text prefix bytes → prefix ≡ identity_front ++ before ++ 45 ∷ []
    → IsWithoutHyphens before front → is_name front ≡ true → RefusesIdentity text (codes "out of memory")
identity_wants text prefix before front bytes reads is trimmed named =
    inr (inr (inr (
      record { name = lowered front; text = text },
      refl,
      record {
        before = before;
        bytes = bytes;
        reads = subst (λ p. IsBech32 text p bytes) is reads;
        front = front;
        trimmed = trimmed;
        named = named;
        lower = refl;
      },
      refl,
    )))

-- the key of an identity without bytes: `upper` is read in two ways, from one text
pub default_key : (name text upper as_text as_bytes trimmed front : List ℕ) → as_text ≡ upper → as_bytes ≡ upper
    → IsBech32 text (identity_front ++ as_text ++ 45 ∷ []) [] → IsWithoutHyphens as_bytes trimmed → (front ≡ trimmed) × (is_name trimmed ≡ true)
    → name ≡ lowered front
    → IsPluginIdentity (record { name = name; text = text })
default_key name text upper as_text as_bytes trimmed front is same reads without named lower = record {
  before = upper;
  bytes = [];
  reads = subst (λ u. IsBech32 text (identity_front ++ u ++ 45 ∷ []) []) is reads;
  front = trimmed;
  trimmed = subst (λ u. IsWithoutHyphens u trimmed) same without;
  named = named.1;
  lower = lower ∙ ap lowered named.0;
}

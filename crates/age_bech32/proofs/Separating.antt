-- The last `1` parts a text in one way.
use Rattle.std.proofs.Common.{◌≡◌, ◌≢◌, ℕ, zero, suc, ◌+◌, ◌<◌, List, [], ◌∷◌, ◌++◌, length, take, drop, get_or, refl, ap, sym, subst, ◌∙◌, arith, add-one, drop-cons, length-append}
use Rattle.std.proofs.Math.Seq.{get_or-append_seam}
use Rattle.std.proofs.lemmas.List.{take-append-drop}
use Rattle.std.specs.List.{AllByRecursion, AllWithin}
use Rattle.age_bech32.specs.Symbols.{IsOneCase}
use Rattle.age_bech32.specs.Bech32.{IsBech32, IsPrefix, IsPayload}
use Rattle.age_bech32.specs.Refusals.{IsNoBech32}
use Rattle.age_bech32.proofs.Spelling.{lacks_one}

-- the last `1` stands there
pub record IsLast (text : List ℕ) (i : ℕ) : Type 0 where
  pub within : i < length text
  pub here : get_or text i 0 ≡ 49
  pub after : AllWithin (λ b. b ≢ 49) text (i + 1) (length text)

pub last_of : (bytes text : List ℕ) (i : ℕ) → bytes ≡ text
    → (i < length bytes) × (get_or bytes i 0 ≡ 49) × AllWithin (λ b. b ≢ 49) bytes (i + 1) (length bytes) → IsLast text i
last_of bytes text i is h = subst (λ t. IsLast t i) is (record { within = h.0; here = h.1; after = h.2 })

lacks_at : (xs : List ℕ) (j : ℕ) → j < length xs → AllByRecursion (λ b. b ≢ 49) xs → get_or xs j 0 ≢ 49
lacks_at [] j lt h e = absurd (omega arith)
lacks_at (x ∷ xs) zero lt h e = h.0 e
lacks_at (x ∷ xs) (suc j) lt h e = lacks_at xs j (omega arith) h.1 e

length_with : (p rest : List ℕ) → length p < length (p ++ 49 ∷ rest)
length_with p rest = rw (length-append p (49 ∷ rest)) (omega arith)

parted : (p rest : List ℕ) (i : ℕ) → AllByRecursion (λ b. b ≢ 49) rest → i < length (p ++ 49 ∷ rest) → get_or (p ++ 49 ∷ rest) i 0 ≡ 49
    → ((k : ℕ) (d : ℕ) → i < k → k < length (p ++ 49 ∷ rest) → get_or (p ++ 49 ∷ rest) k d ≢ 49)
    → (p ≡ take i (p ++ 49 ∷ rest)) × (rest ≡ drop (suc i) (p ++ 49 ∷ rest))
parted [] rest zero lacks lt here after = (refl, refl)
parted [] rest (suc j) lacks lt here after = absurd (lacks_at rest j (omega arith) lacks here)
parted (x ∷ p) rest zero lacks lt here after =
    let inside : length p < length (p ++ 49 ∷ rest) = length_with p rest in
    absurd (after (suc (length p)) 0 (omega arith) (omega arith) (get_or-append_seam p 49 rest 0))
parted (x ∷ p) rest (suc j) lacks lt here after =
    let r = parted p rest j lacks (omega arith) here (λ k d l m. after (suc k) d (omega arith) (omega arith)) in
    (ap (λ q. x ∷ q) r.0, r.1)

module _ (text : List ℕ) (i : ℕ) (last : IsLast text i) where
  parts_of : (prefix bytes : List ℕ) (b : IsBech32 text prefix bytes) → (prefix ≡ take i text) × (b.rest ≡ drop (i + 1) text)
  parts_of prefix bytes b =
      let p = b.payload in
      let lacks : AllByRecursion (λ c. c ≢ 49) b.rest = lacks_one b.rest (p.groups ++ p.check) p.values p.spelled in
      let whole : text ≡ prefix ++ 49 ∷ b.rest = b.parts in
      let lt : i < length (prefix ++ 49 ∷ b.rest) = subst (λ t. i < length t) whole last.within in
      let here : get_or (prefix ++ 49 ∷ b.rest) i 0 ≡ 49 = subst (λ t. get_or t i 0 ≡ 49) whole last.here in
      let after = subst (λ t. AllWithin (λ c. c ≢ 49) t (i + 1) (length t)) whole last.after in
      let r = parted prefix b.rest i lacks lt here (λ k d l m. after k d (omega arith) m) in
      (r.0 ∙ ap (take i) (sym whole), r.1 ∙ ap (drop (suc i)) (sym whole) ∙ ap (λ k. drop k text) (sym (add-one i)))

  pub prefix_of : (prefix bytes : List ℕ) → IsBech32 text prefix bytes → IsPrefix (take i text)
  prefix_of prefix bytes b = subst IsPrefix (parts_of prefix bytes b).0 b.good

  pub payload_of : (prefix bytes : List ℕ) → IsBech32 text prefix bytes → IsPayload (take i text) (drop (i + 1) text) bytes
  payload_of prefix bytes b =
      let parts = parts_of prefix bytes b in
      subst (λ p. IsPayload p (drop (i + 1) text) bytes) parts.0 (subst (λ r. IsPayload prefix r bytes) parts.1 b.payload)

  pub read : IsPrefix (take i text) → IsOneCase text → (bytes : List ℕ) → IsPayload (take i text) (drop (i + 1) text) bytes
      → IsBech32 text (take i text) bytes
  read good one bytes payload = record {
    rest = drop (i + 1) text;
    parts = sym (take-append-drop i text) ∙ ap (λ t. take i text ++ t) (drop-cons text i 0 last.within
        ∙ ap (λ c. c ∷ drop (suc i) text) last.here ∙ ap (λ k. 49 ∷ drop k text) (sym (add-one i)));
    good = good;
    one_case = one;
    payload = payload;
  }

-- a text with no `1`
pub no_separator : (text : List ℕ) → AllWithin (λ b. b ≢ 49) text 0 (length text) → IsNoBech32 text
no_separator text none prefix bytes b =
    let inside : length prefix < length text = subst (λ t. length prefix < length t) (sym b.parts) (length_with prefix b.rest) in
    none (length prefix) 0 (omega arith) inside (ap (λ t. get_or t (length prefix) 0) b.parts ∙ get_or-append_seam prefix 49 b.rest 0)

-- a text parts in one way where no `1` follows
pub same_parts : (p q x y : List ℕ) → AllByRecursion (λ b. b ≢ 49) x → AllByRecursion (λ b. b ≢ 49) y → p ++ 49 ∷ x ≡ q ++ 49 ∷ y → (p ≡ q) × (x ≡ y)
same_parts [] [] x y hx hy e = (refl, cc)
same_parts [] (d ∷ q) x y hx hy e =
    let back : x ≡ q ++ 49 ∷ y = cc in
    let inside : length q < length x = subst (λ t. length q < length t) (sym back) (length_with q y) in
    absurd (lacks_at x (length q) inside hx (ap (λ t. get_or t (length q) 0) back ∙ get_or-append_seam q 49 y 0))
same_parts (c ∷ p) [] x y hx hy e =
    let back : y ≡ p ++ 49 ∷ x = cc in
    let inside : length p < length y = subst (λ t. length p < length t) (sym back) (length_with p x) in
    absurd (lacks_at y (length p) inside hy (ap (λ t. get_or t (length p) 0) back ∙ get_or-append_seam p 49 x 0))
same_parts (c ∷ p) (d ∷ q) x y hx hy e =
    let more : p ++ 49 ∷ x ≡ q ++ 49 ∷ y = cc in
    let r : (p ≡ q) × (x ≡ y) = same_parts p q x y hx hy more in
    (cc, r.1)

pub rest-lacks : (prefix rest bytes : List ℕ) → IsPayload prefix rest bytes → AllByRecursion (λ b. b ≢ 49) rest
rest-lacks prefix rest bytes p = lacks_one rest (p.groups ++ p.check) p.values p.spelled

-- The other suite keeps the laws of a suite.
use Rattle.std.specs.Prelude.{◌≡◌, ℕ, ◌+◌, ◌-◌, ◌%◌, ◌<◌, ◌^◌, ◌≤◌, ◌↔◌, true, List, [], ◌∷◌, ◌++◌, length, take, drop, replicate, Some, refl}
use Rattle.std.proofs.Common.{sym, ◌∙◌, arith, add-zero, add_assoc}
use Rattle.std.proofs.Math.Numerals.{one-add}
use Rattle.std.proofs.lemmas.List.{length-take-le, length-append, length-map, take_at, drop_at, take-append-drop}
use Rattle.std.proofs.lemmas.List.Elements.{All-nil, All-cons, All-head, All-tail, All-append, All-take, All-drop, All-map, All-weaker, All-replicate}
use Rattle.std.proofs.lemmas.Bool.{and_parts, le-leb}
use Rattle.std.proofs.lemmas.Option.{cond_some}
use Rattle.std.proofs.lemmas.Slice.Eq.{bytes_eq-Decides}
use Rattle.age_error.specs.Bytes.{AreBytes, AreBytesOf}
use Rattle.age_suite.specs.Suite.{IsCipher, IsAgreement, IsStretching}
use Rattle.age_suite.specs.Mac.{hmac_of}
use Rattle.age_suite.proofs.Digests.{hmac_of-bytes, hkdf_of-bytes}
use Rattle.test_support.specs.Other.{pad_at, hidden_from, hidden, mark_of, other_seal, is_marked, other_opened, other_public, other_shared, other_stretch, other_accepts}

-- ---- the pad

-- what is below 2 ^ 8 comes back
back : (p x : ℕ) → x < 2 ^ 8 → (p + (2 ^ 8 - (p + (2 ^ 8 - x)) % 2 ^ 8)) % 2 ^ 8 ≡ x
back p x h = omega (arith, h)

below : (n : ℕ) → n % 2 ^ 8 < 2 ^ 8
below n = omega arith

pub hidden_twice : (pad : ℕ → ℕ) (i : ℕ) (xs : List ℕ) → AreBytes xs → hidden_from pad i (hidden_from pad i xs) ≡ xs
hidden_twice pad i [] h = refl
hidden_twice pad i (x ∷ xs) h =
    let P : ℕ → Type 0 = λ x. x < 2 ^ 8 in
    rw (back (pad i) x (All-head P x xs h), hidden_twice pad (i + 1) xs (All-tail P x xs h)) refl

pub length-hidden : (pad : ℕ → ℕ) (i : ℕ) (xs : List ℕ) → length (hidden_from pad i xs) ≡ length xs
length-hidden pad i [] = refl
length-hidden pad i (x ∷ xs) = rw (length-hidden pad (i + 1) xs) refl

pub hidden-bytes : (pad : ℕ → ℕ) (i : ℕ) (xs : List ℕ) → AreBytes (hidden_from pad i xs)
hidden-bytes pad i [] = All-nil (λ x. x < 2 ^ 8)
hidden-bytes pad i (x ∷ xs) =
    All-cons (λ x. x < 2 ^ 8) ((pad i + (2 ^ 8 - x)) % 2 ^ 8) (hidden_from pad (i + 1) xs) (below (pad i + (2 ^ 8 - x))) (hidden-bytes pad (i + 1) xs)

pub hidden-append : (pad : ℕ → ℕ) (i : ℕ) (xs ys : List ℕ)
    → hidden_from pad i (xs ++ ys) ≡ hidden_from pad i xs ++ hidden_from pad (i + length xs) ys
hidden-append pad i [] ys = rw add-zero refl
hidden-append pad i (x ∷ xs) ys = rw (hidden-append pad (i + 1) xs ys, add_assoc, one-add) refl

-- ---- seals

length-mark : (key nonce text : List ℕ) → length (mark_of key nonce text) ≡ 16
length-mark key nonce text =
    let whole = (hmac_of-bytes key (text ++ nonce)).len in
    length-take-le 16 (hmac_of key (text ++ nonce)) (omega (arith, whole))

pub other_seal-bytes : (key nonce plain : List ℕ) → AreBytesOf 32 key → AreBytesOf 12 nonce → AreBytes plain
    → AreBytesOf (length plain + 16) (other_seal key nonce plain)
other_seal-bytes key nonce plain k n p =
    let text = hidden key nonce plain in
    record {
      len = omega (arith, length-append (mark_of key nonce text) text, length-mark key nonce text, length-hidden (pad_at key nonce) 0 plain);
      bytes = All-append (λ x. x < 2 ^ 8) (mark_of key nonce text) text
          (All-take (λ x. x < 2 ^ 8) 16 (hmac_of key (text ++ nonce)) (hmac_of-bytes key (text ++ nonce)).bytes)
          (hidden-bytes (pad_at key nonce) 0 plain);
    }

-- a seal opens to its plaintext
opened_seal : (key nonce plain : List ℕ) → AreBytes plain → other_opened key nonce (other_seal key nonce plain) ≡ Some plain
opened_seal key nonce plain p =
    let text = hidden key nonce plain in
    let mark = mark_of key nonce text in
    let size = length-mark key nonce text in
    let front = take_at mark text 16 size in
    let rest = drop_at mark text 16 size in
    let long : 16 ≤ length (other_seal key nonce plain) = omega (arith, length-append mark text, size) in
    let same = (bytes_eq-Decides mark mark).1 refl in
    rw (front, rest, hidden_twice (pad_at key nonce) 0 plain p, same, le-leb 16 (length (other_seal key nonce plain)) long) refl

-- what opens is a seal
seal_opened : (key nonce sealed plain : List ℕ) → AreBytes sealed → other_opened key nonce sealed ≡ Some plain
    → sealed ≡ other_seal key nonce plain
seal_opened key nonce sealed plain s h =
    let rest = drop 16 sealed in
    let some = cond_some (is_marked key nonce sealed) (hidden key nonce rest) plain h in
    let marked = and_parts _ _ some.0 in
    let front = (bytes_eq-Decides (take 16 sealed) (mark_of key nonce rest)).0 marked.1 in
    let twice = hidden_twice (pad_at key nonce) 0 rest (All-drop (λ x. x < 2 ^ 8) 16 sealed s) in
    let seal : sealed ≡ other_seal key nonce (hidden key nonce rest) =
    rw (twice, ← front) (sym (take-append-drop 16 sealed)) in
    rw some.1 at seal

pub other_opens_exactly : (key nonce sealed plain : List ℕ) → AreBytesOf 32 key → AreBytesOf 12 nonce → AreBytes sealed
    → (other_opened key nonce sealed ≡ Some plain) ↔ (AreBytes plain × (sealed ≡ other_seal key nonce plain))
other_opens_exactly key nonce sealed plain k n s = (
  λ h.
      let some = cond_some (is_marked key nonce sealed) (hidden key nonce (drop 16 sealed)) plain h in
      let bytes : AreBytes (hidden key nonce (drop 16 sealed)) = hidden-bytes (pad_at key nonce) 0 (drop 16 sealed) in
      (rw some.1 at bytes, seal_opened key nonce sealed plain s h),
  λ e. rw e.1 (opened_seal key nonce plain e.0),
)

-- ---- the agreement

both : (x y : ℕ) → (x + (y + 0x35) % 2 ^ 8) % 2 ^ 8 ≡ (y + (x + 0x35) % 2 ^ 8) % 2 ^ 8
both x y = omega arith

alike : (a b : List ℕ) → other_shared a (other_public b) ≡ other_shared b (other_public a)
alike [] [] = refl
alike [] (y ∷ b) = refl
alike (x ∷ a) [] = refl
alike (x ∷ a) (y ∷ b) = rw (both x y, alike a b) refl

pub other_shared_alike : (a b : List ℕ) → AreBytesOf 32 a → AreBytesOf 32 b
    → other_shared a (other_public b) ≡ other_shared b (other_public a)
other_shared_alike a b h k = alike a b

pub other_public-bytes : (a : List ℕ) → AreBytesOf 32 a → AreBytesOf 32 (other_public a)
other_public-bytes a h =
    let P : ℕ → Type 0 = λ x. x < 2 ^ 8 in
    let f : ℕ → ℕ = λ x. (x + 0x35) % 2 ^ 8 in
    record {
      len = rw length-map h.len;
      bytes = All-map P f a (All-weaker P (λ x. P (f x)) (λ x y. below (x + 0x35)) a h.bytes);
    }

shared-bytes : (a b : List ℕ) → AreBytes (other_shared a b)
shared-bytes [] b = All-nil (λ x. x < 2 ^ 8)
shared-bytes (x ∷ a) [] = All-nil (λ x. x < 2 ^ 8)
shared-bytes (x ∷ a) (y ∷ b) = All-cons (λ x. x < 2 ^ 8) ((x + y) % 2 ^ 8) (other_shared a b) (below (x + y)) (shared-bytes a b)

pub length-shared : (a b : List ℕ) → length a ≡ length b → length (other_shared a b) ≡ length a
length-shared [] [] e = refl
length-shared [] (y ∷ b) e = absurd (omega arith)
length-shared (x ∷ a) [] e = absurd (omega arith)
length-shared (x ∷ a) (y ∷ b) e = let n = length-shared a b (omega arith) in omega (arith, n)

other_shared-bytes : (a b : List ℕ) → AreBytesOf 32 a → AreBytesOf 32 b → AreBytesOf 32 (other_shared a b)
other_shared-bytes a b h k = record {
  len = length-shared a b (omega (arith, h.len, k.len)) ∙ h.len;
  bytes = shared-bytes a b;
}

-- ---- the laws

pub other_cipher : IsCipher other_seal other_opened
other_cipher = record { opens_exactly = other_opens_exactly; seal_is_longer = other_seal-bytes }

pub other_agreement : IsAgreement other_shared other_public
other_agreement = record { alike = other_shared_alike; public_is_bytes = other_public-bytes; shared_is_bytes = other_shared-bytes }

pub other_stretching : IsStretching other_stretch other_accepts
other_stretching passphrase salt factor p s f accepted = hkdf_of-bytes salt (factor ∷ []) passphrase

-- ---- the suite that stretches no passphrase

-- what it would stretch each to
abbrev pub stretched_zeros : List ℕ → List ℕ → ℕ → List ℕ
stretched_zeros passphrase salt factor = replicate 32 0

pub zeros_stretching : IsStretching stretched_zeros (λ factor. true)
zeros_stretching passphrase salt factor p s small accepts = record { len = refl; bytes = All-replicate (λ x. x < 2 ^ 8) 32 0 (omega arith) }

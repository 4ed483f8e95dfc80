-- The bench suite keeps the laws of a suite.
use Rattle.std.specs.Prelude.{◌≡◌, ℕ, ◌+◌, ◌-◌, ◌%◌, ◌<◌, ◌^◌, ◌≤◌, ◌↔◌, List, [], ◌∷◌, ◌++◌, length, take, drop, bit_xor, slice_index, Some, refl}
use Rattle.std.proofs.Common.{sym, ◌∙◌, arith, lit<, add-zero, add_assoc}
use Rattle.std.proofs.Math.Numerals.{one-add}
use Rattle.std.proofs.lemmas.List.{length-take-le, length-append, length-map, take_at, drop_at, take-append-drop}
use Rattle.std.proofs.lemmas.List.Elements.{All-nil, All-cons, All-head, All-tail, All-append, All-take, All-get_or, All-map, All-weaker}
use Rattle.std.proofs.lemmas.Nat.{xor_comm, xor_lt}
use Rattle.std.proofs.lemmas.Bool.{and_parts, le-leb}
use Rattle.std.proofs.lemmas.Option.{cond_some}
use Rattle.std.proofs.lemmas.Slice.Eq.{bytes_eq-Decides}
use Rattle.std.specs.Int.Bits.{xor_self, xor_zero_r, xor_assoc}
use Rattle.age.specs.Bytes.{AreBytes, AreBytesOf}
use Rattle.age.specs.Suite.{IsCipher, IsAgreement, IsStretching}
use Rattle.age.specs.Mac.{hmac_of}
use Rattle.age.specs.Digests.{hmac_of-bytes}
use Rattle.age_bench.specs.Bench.{masked_from, masked, tag_of, bench_seal, unsealed, is_tagged, bench_opened, bench_public, bench_shared, bench_stretch, bench_accepts}

-- ---- the mask

twice : (x m : ℕ) → bit_xor (bit_xor x m) m ≡ x
twice x m = rw (xor_assoc, xor_self, xor_zero_r) refl

pub masked_twice : (mask : List ℕ) (i : ℕ) (xs : List ℕ) → masked_from mask i (masked_from mask i xs) ≡ xs
masked_twice mask i [] = refl
masked_twice mask i (x ∷ xs) = rw (twice, masked_twice mask (i + 1) xs) refl

pub length-masked : (mask : List ℕ) (i : ℕ) (xs : List ℕ) → length (masked_from mask i xs) ≡ length xs
length-masked mask i [] = refl
length-masked mask i (x ∷ xs) = rw (length-masked mask (i + 1) xs) refl

pub masked-bytes : (mask : List ℕ) (i : ℕ) (xs : List ℕ) → AreBytesOf 32 mask → AreBytes xs → AreBytes (masked_from mask i xs)
masked-bytes mask i [] m h = All-nil (λ x. x < 2 ^ 8)
masked-bytes mask i (x ∷ xs) m h =
    let P : ℕ → Type 0 = λ x. x < 2 ^ 8 in
    let within : i % 32 < length mask = omega (arith, m.len) in
    All-cons P _ (masked_from mask (i + 1) xs)
    (xor_lt 8 x (slice_index mask (i % 32)) (All-head P x xs h) (All-get_or P mask (i % 32) 0 within m.bytes))
    (masked-bytes mask (i + 1) xs m (All-tail P x xs h))

-- one more byte
pub masked-push : (mask : List ℕ) (i : ℕ) (xs : List ℕ) (x : ℕ)
    → masked_from mask i (xs ++ x ∷ []) ≡ masked_from mask i xs ++ bit_xor x (slice_index mask ((i + length xs) % 32)) ∷ []
masked-push mask i [] x = rw add-zero refl
masked-push mask i (y ∷ xs) x = rw (masked-push mask (i + 1) xs x, add_assoc, one-add) refl

-- ---- seals

length-tag : (key nonce plain : List ℕ) → length (tag_of key nonce plain) ≡ 16
length-tag key nonce plain =
    let whole = (hmac_of-bytes key (1 ∷ nonce ++ plain)).len in
    length-take-le 16 (hmac_of key (1 ∷ nonce ++ plain)) (omega (arith, whole))

pub bench_seal-bytes : (key nonce plain : List ℕ) → AreBytesOf 32 key → AreBytesOf 12 nonce → AreBytes plain
    → AreBytesOf (length plain + 16) (bench_seal key nonce plain)
bench_seal-bytes key nonce plain k n p =
    record {
      len = rw (length-append, length-masked, length-tag) refl;
      bytes = All-append (λ x. x < 2 ^ 8) (masked (hmac_of key nonce) plain) (tag_of key nonce plain)
          (masked-bytes (hmac_of key nonce) 0 plain (hmac_of-bytes key nonce) p)
          (All-take (λ x. x < 2 ^ 8) 16 (hmac_of key (1 ∷ nonce ++ plain)) (hmac_of-bytes key (1 ∷ nonce ++ plain)).bytes);
    }

-- a seal opens to its plaintext
opened_seal : (key nonce plain : List ℕ) → bench_opened key nonce (bench_seal key nonce plain) ≡ Some plain
opened_seal key nonce plain =
    let mask = hmac_of key nonce in
    let text = masked mask plain in
    let tag = tag_of key nonce plain in
    let size = length (text ++ tag) in
    let long : 16 ≤ size = omega (arith, length-append text tag, length-tag key nonce plain) in
    let before : length text ≡ size - 16 = omega (arith, length-append text tag, length-tag key nonce plain) in
    let same = (bytes_eq-Decides tag tag).1 refl in
    rw (take_at text tag (size - 16) before, drop_at text tag (size - 16) before, masked_twice mask 0 plain, same, le-leb 16 size long) refl

-- what opens is a seal
seal_opened : (key nonce sealed plain : List ℕ) → bench_opened key nonce sealed ≡ Some plain
    → sealed ≡ bench_seal key nonce plain
seal_opened key nonce sealed plain h =
    let mask = hmac_of key nonce in
    let n = length sealed - 16 in
    let some = cond_some (is_tagged key nonce sealed) (unsealed key nonce sealed) plain h in
    let tagged = and_parts _ _ some.0 in
    let back = (bytes_eq-Decides (drop n sealed) (tag_of key nonce (unsealed key nonce sealed))).0 tagged.1 in
    let front = masked_twice mask 0 (take n sealed) in
    let seal : sealed ≡ bench_seal key nonce (unsealed key nonce sealed) =
    rw (front, ← back) (sym (take-append-drop n sealed)) in
    rw some.1 at seal

pub bench_opens_exactly : (key nonce sealed plain : List ℕ) → AreBytesOf 32 key → AreBytesOf 12 nonce → AreBytes sealed
    → (bench_opened key nonce sealed ≡ Some plain) ↔ (AreBytes plain × (sealed ≡ bench_seal key nonce plain))
bench_opens_exactly key nonce sealed plain k n s = (
  λ h.
      let some = cond_some (is_tagged key nonce sealed) (unsealed key nonce sealed) plain h in
      let front = All-take (λ x. x < 2 ^ 8) (length sealed - 16) sealed s in
      let bytes : AreBytes (unsealed key nonce sealed) =
      masked-bytes (hmac_of key nonce) 0 (take (length sealed - 16) sealed) (hmac_of-bytes key nonce) front in
      (rw some.1 at bytes, seal_opened key nonce sealed plain h),
  λ e. rw e.1 (opened_seal key nonce plain),
)

-- ---- the agreement

both : (x y : ℕ) → bit_xor (bit_xor x (bit_xor y 0x5a)) 0x5a ≡ bit_xor (bit_xor y (bit_xor x 0x5a)) 0x5a
both x y = rw (← xor_assoc x y 0x5a, ← xor_assoc y x 0x5a, xor_comm x y) refl

alike : (a b : List ℕ) → bench_shared a (bench_public b) ≡ bench_shared b (bench_public a)
alike [] [] = refl
alike [] (y ∷ b) = refl
alike (x ∷ a) [] = refl
alike (x ∷ a) (y ∷ b) = rw (both x y, alike a b) refl

pub bench_shared_alike : (a b : List ℕ) → AreBytesOf 32 a → AreBytesOf 32 b
    → bench_shared a (bench_public b) ≡ bench_shared b (bench_public a)
bench_shared_alike a b h k = alike a b

pub bench_public-bytes : (a : List ℕ) → AreBytesOf 32 a → AreBytesOf 32 (bench_public a)
bench_public-bytes a h = record {
  len = rw length-map h.len;
  bytes = All-map (λ x. x < 2 ^ 8) (λ x. bit_xor x 0x5a) a
      (All-weaker (λ x. x < 2 ^ 8) (λ x. bit_xor x 0x5a < 2 ^ 8) (λ x y. xor_lt 8 x 0x5a y (lit< tt)) a h.bytes);
}

shared-bytes : (a b : List ℕ) → AreBytes a → AreBytes b → AreBytes (bench_shared a b)
shared-bytes [] b h k = All-nil (λ x. x < 2 ^ 8)
shared-bytes (x ∷ a) [] h k = All-nil (λ x. x < 2 ^ 8)
shared-bytes (x ∷ a) (y ∷ b) h k =
    let P : ℕ → Type 0 = λ x. x < 2 ^ 8 in
    All-cons P (bit_xor (bit_xor x y) 0x5a) (bench_shared a b)
    (xor_lt 8 (bit_xor x y) 0x5a (xor_lt 8 x y (All-head P x a h) (All-head P y b k)) (lit< tt))
    (shared-bytes a b (All-tail P x a h) (All-tail P y b k))

pub length-shared : (a b : List ℕ) → length a ≡ length b → length (bench_shared a b) ≡ length a
length-shared [] [] e = refl
length-shared [] (y ∷ b) e = absurd (omega arith)
length-shared (x ∷ a) [] e = absurd (omega arith)
length-shared (x ∷ a) (y ∷ b) e = let n = length-shared a b (omega arith) in omega (arith, n)

bench_shared-bytes : (a b : List ℕ) → AreBytesOf 32 a → AreBytesOf 32 b → AreBytesOf 32 (bench_shared a b)
bench_shared-bytes a b h k = record {
  len = length-shared a b (omega (arith, h.len, k.len)) ∙ h.len;
  bytes = shared-bytes a b h.bytes k.bytes;
}

-- ---- the laws

pub bench_cipher : IsCipher bench_seal bench_opened
bench_cipher = record { opens_exactly = bench_opens_exactly; seal_is_longer = bench_seal-bytes }

pub bench_agreement : IsAgreement bench_shared bench_public
bench_agreement = record { alike = bench_shared_alike; public_is_bytes = bench_public-bytes; shared_is_bytes = bench_shared-bytes }

pub bench_stretching : IsStretching bench_stretch bench_accepts
bench_stretching passphrase salt factor p s f accepted = hmac_of-bytes passphrase (salt ++ factor ∷ [])

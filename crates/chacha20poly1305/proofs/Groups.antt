-- A ciphertext that is made group by group, and what its tag was given.
use Rattle.std.proofs.Common.{◌≡◌, ◌∙◌, ap, refl, sym, inl, inr, ℕ, ◌+◌, ◌-◌, ◌*◌, ◌/◌, ◌%◌, ◌^◌, ◌<◌, ◌≤◌, List, ◌++◌, length, take, drop, arith, length-append}
use Rattle.std.proofs.lemmas.Bool.{cases_lt}
use Rattle.std.proofs.lemmas.List.{length-take-le, take_all, take_at, drop_at, take-append-drop, take-append-le, take-take}
use Rattle.chacha20.specs.Blocks.{IsEncryptedTo}
use Rattle.chacha20.specs.Encryption.{chacha20_encrypt, encrypted_from}
use Rattle.chacha20.proofs.Facts.{chacha20_encrypt-append, length-chacha20_encrypt}
use Rattle.chacha20.proofs.Streams.{length-encrypted}
use Rattle.poly1305.proofs.Accumulating.{take_part}

-- a plaintext of whole groups that is encrypted, and a piece that isn't yet
pub with_piece : (key nonce text before piece all : List ℕ) (from : ℕ) → before ≡ chacha20_encrypt key 1 nonce text → all ≡ before ++ piece
    → 512 * from ≡ length before → IsEncryptedTo key 1 nonce 0 (text ++ piece) (512 * from) all
unfolding chacha20_encrypt
with_piece key nonce text before piece all from is joined size =
    let long : length text ≡ 512 * from = sym (size ∙ ap length is ∙ length-encrypted key 1 nonce 0 text) in
    joined ∙ ap (λ xs. xs ++ piece) is
    ∙ ap (λ xs. encrypted_from key 1 nonce 0 xs ++ piece) (sym (take_at text piece (512 * from) long))
    ∙ ap (λ xs. encrypted_from key 1 nonce 0 (take (512 * from) (text ++ piece)) ++ xs) (sym (drop_at text piece (512 * from) long))

-- what follows the whole groups, encrypted by itself
pub rest_encrypted : (key nonce text before after : List ℕ) (w counter : ℕ) → 512 * w ≤ length text → counter ≡ (1 + 8 * w % 2 ^ 32) % 2 ^ 32
    → IsEncryptedTo key 1 nonce 0 text (512 * w) before
    → after ≡ take (512 * w) before ++ chacha20_encrypt key counter nonce (drop (512 * w) before) → after ≡ chacha20_encrypt key 1 nonce text
unfolding chacha20_encrypt
rest_encrypted key nonce text before after w counter within number so_far is =
    let front = take (512 * w) text in
    let back = drop (512 * w) text in
    let done = encrypted_from key 1 nonce 0 front in
    let long = length-take-le (512 * w) text within in
    let size : length done ≡ 512 * w = length-encrypted key 1 nonce 0 front ∙ long in
    let start : take (512 * w) before ≡ done = ap (take (512 * w)) so_far ∙ take_at done back (512 * w) size in
    let rest : drop (512 * w) before ≡ back = ap (drop (512 * w)) so_far ∙ drop_at done back (512 * w) size in
    let place : counter ≡ (1 + 8 * w) % 2 ^ 32 = omega (arith, number) in
    let whole : length front ≡ 64 * (8 * w) = omega (arith, long) in
    is ∙ ap (λ xs. xs ++ encrypted_from key counter nonce 0 (drop (512 * w) before)) start
    ∙ ap (λ xs. done ++ encrypted_from key counter nonce 0 xs) rest ∙ ap (λ m. done ++ encrypted_from key m nonce 0 back) place
    ∙ sym (chacha20_encrypt-append key 1 nonce front back (8 * w) whole)
    ∙ ap (λ xs. encrypted_from key 1 nonce 0 xs) (take-append-drop (512 * w) text)

-- a ciphertext whose rest is encrypted keeps its length
pub length-rest_encrypted : (key nonce before after : List ℕ) (w counter : ℕ)
    → after ≡ take (512 * w) before ++ chacha20_encrypt key counter nonce (drop (512 * w) before) → length after ≡ length before
length-rest_encrypted key nonce before after w counter is =
    let front = take (512 * w) before in
    let back = drop (512 * w) before in
    ap length is ∙ length-append front (chacha20_encrypt key counter nonce back)
    ∙ ap (λ n. length front + n) (length-chacha20_encrypt key counter nonce back)
    ∙ sym (length-append front back) ∙ ap length (take-append-drop (512 * w) before)

-- its groups before the last whole one are as they were
pub front_kept : (key nonce before after : List ℕ) (w counter : ℕ) → w ≡ length before / 512
    → after ≡ take (512 * w) before ++ chacha20_encrypt key counter nonce (drop (512 * w) before)
    → take (512 * (w - 1)) before ≡ take (512 * (length after / 512 - 1)) after
front_kept key nonce before after w counter number is =
    let front = take (512 * w) before in
    let long : length front ≡ 512 * w = length-take-le (512 * w) before (omega (arith, number)) in
    let same = length-rest_encrypted key nonce before after w counter is in
    let count : 512 * (w - 1) ≡ 512 * (length after / 512 - 1) = omega (arith, same, number) in
    sym (
    ap (take (512 * (w - 1))) is
    ∙ take-append-le (512 * (w - 1)) front (chacha20_encrypt key counter nonce (drop (512 * w) before)) (omega (arith, long))
    ∙ take-take (512 * (w - 1)) (512 * w) before (omega arith)
    ) ∙ ap (λ k. take k after) count

-- what the tag was given of a ciphertext to which a piece was appended
pub front_with_piece : (before piece all : List ℕ) (from : ℕ) → all ≡ before ++ piece → 512 * from ≡ length before
    → take (512 * (length before / 512 - 1)) before ≡ take (512 * (from - 1)) all
front_with_piece before piece all from joined size =
    let count : 512 * (length before / 512 - 1) ≡ 512 * (from - 1) = omega (arith, size) in
    ap (λ k. take k before) count ∙ sym (ap (take (512 * (from - 1))) joined ∙ take-append-le (512 * (from - 1)) before piece (omega (arith, size)))

-- what stands before a piece, and the piece: 4,096 bytes of a text, or all that is left
pub text_more : (text : List ℕ) (n k : ℕ) → 512 + 4096 * n + k ≤ length text → k ≤ 4096 → (k < 4096 → 512 + 4096 * n + k ≡ length text)
    → take (512 + 4096 * n) text ++ take k (drop (512 + 4096 * n) text) ≡ take (512 + 4096 * (n + 1)) text
text_more text n k within fits last =
    let at = 512 + 4096 * n in
    let next = 512 + 4096 * (n + 1) in
    take_part text at k (at + k) refl ∙ elim (cases_lt k 4096) [
      | inl below ↦ take_all (at + k) text (omega (arith, last below)) ∙ sym (take_all next text (omega (arith, last below)))
      | inr reached ↦
          let same : at + k ≡ next = omega arith in
          ap (λ m. take m text) same
    ]

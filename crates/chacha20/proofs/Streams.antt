-- The key stream over bytes: one byte more, and one part more.
use Rattle.std.proofs.Common.{◌≡◌, ◌∙◌, ap, sym, subst, inl, inr, ℕ, ◌+◌, ◌*◌, ◌/◌, ◌%◌, ◌^◌, ◌<◌, ◌≤◌, List, [], ◌∷◌, ◌++◌, length, take, drop, bit_xor, set, get_or, refl, arith, add-zero, add_assoc}
use borrow.Rule.Slice.PartMut.{mid_of, put_mid}
use Rattle.std.proofs.lemmas.Bool.{cases_lt}
use Rattle.std.proofs.Math.Numerals.{one-add}
use Rattle.std.proofs.Math.Seq.{take-add}
use Rattle.std.proofs.lemmas.List.{length-append, length-take-le, drop_all, drop_at, drop_more, drop-drop, take-append-drop, take_all, take_at, take_more, get_or_at, set_at, append_assoc, append-nil}
use Rattle.std.specs.Int.{w32, to_le_bytes}
use Rattle.std.specs.Prelude.{slice_index}
use Rattle.chacha20.specs.Block.{block_words}
use Rattle.chacha20.specs.Blocks.{IsBlocks, IsEncryptedTo, IsStreamFrom}
use Rattle.chacha20.specs.Encryption.{keystream_byte, encrypted_from, chacha20_encrypt}
use Rattle.chacha20.proofs.Blocks.{keystream_byte-at}
use Rattle.chacha20.proofs.Sides.{slice_index-lane}

module _ (key : List ℕ) (counter : ℕ) (nonce : List ℕ) where
  pub length-encrypted : (i : ℕ) (xs : List ℕ) → length (encrypted_from key counter nonce i xs) ≡ length xs
  length-encrypted i [] = refl
  length-encrypted i (x ∷ xs) = rw (length-encrypted (i + 1) xs) refl

  pub encrypted-append : (i : ℕ) (xs ys : List ℕ)
      → encrypted_from key counter nonce i (xs ++ ys) ≡ encrypted_from key counter nonce i xs ++ encrypted_from key counter nonce (i + length xs) ys
  encrypted-append i [] ys = rw add-zero refl
  encrypted-append i (x ∷ xs) ys = rw (encrypted-append (i + 1) xs ys, add_assoc, one-add) refl

  -- a list whose first i bytes are encrypted, with byte i too
  encrypted_more : (from : ℕ) (xs ys : List ℕ) (i m : ℕ) → i < length xs → IsEncryptedTo key counter nonce from xs i ys
      → m ≡ keystream_byte key counter nonce (from + i) → IsEncryptedTo key counter nonce from xs (i + 1) (set ys i (bit_xor (get_or ys i 0) m))
  encrypted_more from xs ys i m h e f =
      let x = get_or xs i 0 in
      let done = encrypted_from key counter nonce from (take i xs) in
      let rest = drop (i + 1) xs in
      let n : length (take i xs) ≡ i = length-take-le i xs (omega arith) in
      let before : length done ≡ i = rw (length-encrypted from (take i xs)) n in
      let now : ys ≡ done ++ x ∷ rest = rw (← drop_more xs i 0 h) e in
      let next : encrypted_from key counter nonce from (take (i + 1) xs) ≡ done ++ bit_xor x m ∷ [] =
      rw (take_more xs i 0 h, encrypted-append from (take i xs) (x ∷ []), n, f) refl in
      rw (now, next, get_or_at done x rest 0 i before, set_at done x rest (bit_xor x m) i before, append_assoc) refl

  -- a text that is encrypted as far as a place keeps its length
  pub length-encrypted_to : (from : ℕ) (text bytes : List ℕ) (p : ℕ) → IsEncryptedTo key counter nonce from text p bytes → length bytes ≡ length text
  length-encrypted_to from text bytes p e =
      ap length e ∙ length-append (encrypted_from key counter nonce from (take p text)) (drop p text)
      ∙ ap (λ n. n + length (drop p text)) (length-encrypted from (take p text))
      ∙ sym (length-append (take p text) (drop p text)) ∙ ap length (take-append-drop p text)

  -- beyond the end no place is another
  pub past : (from : ℕ) (text bytes : List ℕ) (p q : ℕ) → length bytes ≤ p → length bytes ≤ q
      → IsEncryptedTo key counter nonce from text p bytes → IsEncryptedTo key counter nonce from text q bytes
  past from text bytes p q h l e =
      let long = length-encrypted_to from text bytes p e in
      e ∙ ap (λ xs. encrypted_from key counter nonce from xs ++ drop p text)
      (take_all p text (omega (arith, long)) ∙ sym (take_all q text (omega (arith, long))))
      ∙ ap (λ xs. encrypted_from key counter nonce from (take q text) ++ xs)
      (drop_all p text (omega (arith, long)) ∙ sym (drop_all q text (omega (arith, long))))

  -- a text that is encrypted to its end
  pub to_end : (from : ℕ) (text bytes : List ℕ) (p : ℕ) → length text ≤ p → IsEncryptedTo key counter nonce from text p bytes
      → bytes ≡ encrypted_from key counter nonce from text
  to_end from text bytes p h e =
      e ∙ ap (λ xs. encrypted_from key counter nonce from xs ++ drop p text) (take_all p text h)
      ∙ ap (λ xs. encrypted_from key counter nonce from text ++ xs) (drop_all p text h) ∙ append-nil (encrypted_from key counter nonce from text)

  -- one byte more of the bytes of eight words
  pub combined : (from : ℕ) (text words stream bytes : List ℕ) (at k : ℕ) → k < 32 → at + k < length bytes
      → ((i : ℕ) → i < 32 → slice_index stream i ≡ slice_index (to_le_bytes w32 (slice_index words (i / 4))) (i % 4))
      → IsStreamFrom key counter nonce (from + at) words → IsEncryptedTo key counter nonce from text (at + k) bytes
      → IsEncryptedTo key counter nonce from text (at + (k + 1)) (set bytes (at + k) (bit_xor (get_or bytes (at + k) 0) (get_or stream k 0)))
  combined from text words stream bytes at k h l is given e =
      let next : at + (k + 1) ≡ at + k + 1 = omega arith in
      let place : from + at + k ≡ from + (at + k) = omega arith in
      rw next (encrypted_more from text bytes (at + k) (get_or stream k 0) (omega (arith, length-encrypted_to from text bytes (at + k) e))
      e (is k h ∙ given k h ∙ ap (λ p. keystream_byte key counter nonce p) place))

  -- k bytes more, encrypted by themselves
  pub blocks_more : (text bytes part : List ℕ) (a k n : ℕ) → a ≤ length text → n ≡ a + k
      → part ≡ encrypted_from key counter nonce a (mid_of a k bytes)
      → IsEncryptedTo key counter nonce 0 text a bytes → IsEncryptedTo key counter nonce 0 text n (put_mid a k bytes part)
  blocks_more text bytes part a k n h size new e =
      let done = encrypted_from key counter nonce 0 (take a text) in
      let len : length (take a text) ≡ a = length-take-le a text h in
      let before : length done ≡ a = rw (length-encrypted 0 (take a text)) len in
      let front : take a bytes ≡ done = rw e (take_at done (drop a text) a before) in
      let rest : drop a bytes ≡ drop a text = rw e (drop_at done (drop a text) a before) in
      let place : 0 + length (take a text) ≡ a = omega (arith, len) in
      let next : encrypted_from key counter nonce 0 (take (a + k) text) ≡ done ++ encrypted_from key counter nonce a (take k (drop a text)) =
      rw (take-add a k text, encrypted-append 0 (take a text) (take k (drop a text)), place) refl in
      rw (size, new, front, rest, next, append_assoc, drop-drop k a text) refl

  -- k bytes more, or what is left of a group that ends beyond the text
  pub group_more : (text bytes part : List ℕ) (a k n : ℕ) → a + k ≤ length text → a + k ≤ n → (a + k < n → a + k ≡ length text)
      → part ≡ encrypted_from key counter nonce a (mid_of a k bytes)
      → IsEncryptedTo key counter nonce 0 text a bytes → IsEncryptedTo key counter nonce 0 text n (put_mid a k bytes part)
  group_more text bytes part a k n within fits last new e =
      let next = blocks_more text bytes part a k (a + k) (omega arith) refl new e in
      let long = length-encrypted_to 0 text (put_mid a k bytes part) (a + k) next in
      elim (cases_lt (a + k) n) [
        | inl below ↦ past 0 text (put_mid a k bytes part) (a + k) n (omega (arith, long, last below)) (omega (arith, long, last below)) next
        | inr reached ↦
            let same : a + k ≡ n = omega arith in
            subst (λ (m : ℕ). IsEncryptedTo key counter nonce 0 text m (put_mid a k bytes part)) same next
      ]

  -- no byte is left
  pub none_left : (text bytes : List ℕ) (p : ℕ) → length text ≤ p → IsEncryptedTo key counter nonce 0 text p bytes
      → bytes ≡ chacha20_encrypt key counter nonce text
  unfolding chacha20_encrypt
  none_left text bytes p h e = to_end 0 text bytes p h e

  -- the words of eight blocks are the stream, a vector at a time
  pub front_from : (blocks : List (List ℕ)) (n j : ℕ) → j < 8 → IsBlocks key ((counter + 8 * n % 2 ^ 32) % 2 ^ 32) nonce blocks
      → IsStreamFrom key counter nonce (512 * n + 64 * j) (get_or blocks j [])
  front_from blocks n j h is i l =
      let number : ((counter + 8 * n % 2 ^ 32) % 2 ^ 32 + j) % 2 ^ 32 ≡ (counter + (8 * n + j)) % 2 ^ 32 = omega arith in
      let k : i / 4 < 8 = omega arith in
      let word : slice_index (get_or blocks j []) (i / 4) ≡ slice_index (block_words key ((counter + (8 * n + j)) % 2 ^ 32) nonce) (i / 4)
      = sym (slice_index-lane blocks (i / 4) j) ∙ is.front j (i / 4) h k ∙ ap (λ m. slice_index (block_words key m nonce) (i / 4)) number in
      ap (λ w. slice_index (to_le_bytes w32 w) (i % 4)) word
      ∙ keystream_byte-at key counter nonce (512 * n + 64 * j + i) (8 * n + j) (i / 4) i (omega arith) (omega arith)

  pub back_from : (blocks : List (List ℕ)) (n j : ℕ) → j < 8 → IsBlocks key ((counter + 8 * n % 2 ^ 32) % 2 ^ 32) nonce blocks
      → IsStreamFrom key counter nonce (512 * n + (64 * j + 32)) (get_or blocks (8 + j) [])
  back_from blocks n j h is i l =
      let number : ((counter + 8 * n % 2 ^ 32) % 2 ^ 32 + j) % 2 ^ 32 ≡ (counter + (8 * n + j)) % 2 ^ 32 = omega arith in
      let k : i / 4 < 8 = omega arith in
      let word : slice_index (get_or blocks (8 + j) []) (i / 4) ≡ slice_index (block_words key ((counter + (8 * n + j)) % 2 ^ 32) nonce) (8 + i / 4)
      = sym (slice_index-lane blocks (i / 4) (8 + j)) ∙ is.back j (i / 4) h k ∙ ap (λ m. slice_index (block_words key m nonce) (8 + i / 4)) number in
      ap (λ w. slice_index (to_le_bytes w32 w) (i % 4)) word
      ∙ keystream_byte-at key counter nonce (512 * n + (64 * j + 32) + i) (8 * n + j) (8 + i / 4) i (omega arith) (omega arith)

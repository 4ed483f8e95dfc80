-- A second insecure suite for tests, on lists of bytes.
use Rattle.std.specs.Prelude.{ℕ, ◌+◌, ◌-◌, ◌/◌, ◌%◌, ◌^◌, Bool, ◌&&◌, List, [], ◌∷◌, ◌++◌, length, take, drop, map, slice_index, nat_le, bytes_eq, if◌then◌else◌, Option, Some, None}
use Rattle.std.specs.Int.{to_be_bytes, w64}
use Rattle.age_suite.specs.Mac.{hmac_of, hkdf_of}

-- the 32 bytes that hide a block of 32 bytes: each block, by its number from 0, has its own
abbrev pub pad_block : List ℕ → List ℕ → ℕ → List ℕ
pad_block key nonce number = hmac_of key (to_be_bytes w64 number ++ nonce)

-- the byte that hides the one at place i
abbrev pub pad_at : List ℕ → List ℕ → ℕ → ℕ
pad_at key nonce i = slice_index (pad_block key nonce (i / 32)) (i % 32)

-- each byte is taken away from the pad's at its place, modulo 256, and twice done is undone; here the list's first byte
-- stands at place i of the whole
abbrev pub hidden_from : (ℕ → ℕ) → ℕ → List ℕ → List ℕ
hidden_from pad i [] = []
hidden_from pad i (x ∷ xs) = (pad i + (2 ^ 8 - x)) % 2 ^ 8 ∷ hidden_from pad (i + 1) xs

abbrev pub hidden : List ℕ → List ℕ → List ℕ → List ℕ
hidden key nonce xs = hidden_from (pad_at key nonce) 0 xs

-- what shows that a hidden text was made under the key and the nonce
abbrev pub mark_of : List ℕ → List ℕ → List ℕ → List ℕ
mark_of key nonce text = take 16 (hmac_of key (text ++ nonce))

-- the mark, and then the hidden plaintext
abbrev pub other_seal : List ℕ → List ℕ → List ℕ → List ℕ
other_seal key nonce plain = mark_of key nonce (hidden key nonce plain) ++ hidden key nonce plain

-- a text has at least 16 bytes, and the first 16 are the mark of the others
abbrev pub is_marked : List ℕ → List ℕ → List ℕ → Bool
is_marked key nonce sealed = nat_le 16 (length sealed) && bytes_eq (take 16 sealed) (mark_of key nonce (drop 16 sealed))

abbrev pub other_opened : List ℕ → List ℕ → List ℕ → Option (List ℕ)
other_opened key nonce sealed = if is_marked key nonce sealed then Some (hidden key nonce (drop 16 sealed)) else None

-- 0x35 is added to each byte, modulo 256
abbrev pub other_public : List ℕ → List ℕ
other_public secret = map (λ x. (x + 0x35) % 2 ^ 8) secret

-- each byte of one list is added to that of the other, modulo 256
abbrev pub other_shared : List ℕ → List ℕ → List ℕ
other_shared [] public = []
other_shared (x ∷ secret) [] = []
other_shared (x ∷ secret) (y ∷ public) = (x + y) % 2 ^ 8 ∷ other_shared secret public

abbrev pub other_stretch : List ℕ → List ℕ → ℕ → List ℕ
other_stretch passphrase salt factor = hkdf_of salt (factor ∷ []) passphrase

abbrev pub other_accepts : ℕ → Bool
other_accepts factor = nat_le factor 12

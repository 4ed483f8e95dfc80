-- PBKDF2 with HMAC-SHA-256 and an iteration count c of 1 (RFC 8018, 5.2).
use Rattle.std.specs.Prelude.{ℕ, zero, suc, ◌+◌, List, [], ◌++◌}
use Rattle.std.specs.Int.{w32, to_be_bytes}
use Rattle.hmac_sha256.specs.Hmac.{hmac_of}

-- T_i = F (P, S, 1, i) = U_1 = PRF (P, S || INT (i)): 32 bytes, with the number in four bytes, the high one first
abbrev pub pbkdf2_block : List ℕ → List ℕ → ℕ → List ℕ
pbkdf2_block password salt i = hmac_of password (salt ++ to_be_bytes w32 i)

-- DK = T_1 || T_2 || .. || T_l: 32 * l bytes
unfoldable pub pbkdf2 : List ℕ → List ℕ → ℕ → List ℕ
pbkdf2 password salt zero = []
pbkdf2 password salt (suc l) = pbkdf2 password salt l ++ pbkdf2_block password salt (l + 1)

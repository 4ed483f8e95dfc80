-- What is read or derived in order: one item more.
use Rattle.std.proofs.Common.{◌≡◌, ℕ, ◌+◌, ◌-◌, ◌*◌, ◌<◌, ◌≤◌, List, ◌++◌, length, take, drop, set, refl, sym, ap, ◌∙◌, arith, add-one}
use Rattle.std.proofs.lemmas.List.{take_all}
use Rattle.std.proofs.Math.Seq.{take-suc-set}
use Rattle.std.specs.Int.{w32, to_be_bytes}
use Rattle.hmac_sha256.proofs.Digests.{hmac_of-length}
use borrow.Rule.Slice.PartMut.{put_mid}
use Rattle.scrypt.specs.Encoding.{word, words, blocks}
use Rattle.scrypt.specs.Pbkdf2.{pbkdf2, pbkdf2_block}
use Rattle.scrypt.proofs.Joins.{joined_more}

-- a list of which all is made
pub whole : {A : Type 0} (xs : List A) (made : ℕ → List A) (i n : ℕ) → i ≡ n → length xs ≡ n → take i xs ≡ made i → xs ≡ made n
whole xs made i n e long is =
    let all = take_all i xs (omega arith) in
    sym all ∙ is ∙ ap made e

-- a word more
pub words_more : (bytes xs : List ℕ) (i x : ℕ) → i < length xs → take i xs ≡ words bytes i → x ≡ word bytes i
    → take (i + 1) (set xs i x) ≡ words bytes (i + 1)
unfolding words
words_more bytes xs i x h e f = rw (add-one, take-suc-set xs i x h, e, f) refl

-- a block more
pub blocks_more : (bytes : List ℕ) (xs : List (List ℕ)) (i : ℕ) (x : List ℕ) → i < length xs → take i xs ≡ blocks bytes i
    → x ≡ words (take (64 * i + 64 - 64 * i) (drop (64 * i) bytes)) 16
    → take (i + 1) (set xs i x) ≡ blocks bytes (i + 1)
unfolding blocks
blocks_more bytes xs i x h e f =
    let size : 64 * i + 64 - 64 * i ≡ 64 = omega arith in
    rw (add-one, take-suc-set xs i x h, e, f, size) refl

-- 32 derived bytes more
pub pbkdf2_more : (password salt key back : List ℕ) (i k : ℕ) → take (32 * i) key ≡ pbkdf2 password salt i → 32 * i ≤ length key
    → back ≡ pbkdf2_block password salt (i + 1)
    → take (32 * (i + 1)) (put_mid (32 * i) k key back) ≡ pbkdf2 password salt (i + 1)
unfolding pbkdf2
pbkdf2_more password salt key back i k held fits is =
    let long : length back ≡ 32 = rw is (hmac_of-length password (salt ++ to_be_bytes w32 (i + 1))) in
    let next : 32 * (i + 1) ≡ 32 * i + 32 = omega arith in
    rw (next, add-one) (joined_more key (pbkdf2 password salt i) back (32 * i) 32 k held fits long ∙ ap (λ b. pbkdf2 password salt i ++ b) is)

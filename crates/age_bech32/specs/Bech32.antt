-- A text of Bech32, of any length (BIP 173, "Bech32" and "Uppercase/lowercase").
use Rattle.std.specs.Prelude.{◌≡◌, ℕ, ◌<◌, ◌≤◌, ◌^◌, List, ◌∷◌, ◌++◌, length, map, All, true, false}
use Rattle.age_bech32.specs.Symbols.{symbol, lowered, has_upper, has_lower, IsOneCase}
use Rattle.age_bech32.specs.Remainder.{remainder, expanded}
use Rattle.age_bech32.specs.Groups.{IsRegrouped}

-- 1 to 83 bytes, each 33 to 126
pub record IsPrefix (prefix : List ℕ) : Type 0 where
  pub some : 1 ≤ length prefix
  pub few : length prefix ≤ 83
  pub low : All (λ byte. 33 ≤ byte) prefix
  pub high : All (λ byte. byte ≤ 126) prefix

-- what follows the separator: the symbols of the bytes' groups, and six of the check, with which the remainder is 1
pub record IsPayload (prefix rest bytes : List ℕ) : Type 0 where
  pub groups : List ℕ
  pub check : List ℕ
  pub spelled : lowered rest ≡ map symbol (groups ++ check)
  pub values : All (λ value. value < 2 ^ 5) (groups ++ check)
  pub regrouped : IsRegrouped bytes groups
  pub six : length check ≡ 6
  pub checked : remainder (expanded prefix ++ groups ++ check) ≡ 1

-- the text of a prefix and bytes: the prefix, the separator `1`, and the rest, in which no `1` stands, in one case
pub record IsBech32 (text prefix bytes : List ℕ) : Type 0 where
  pub rest : List ℕ
  pub parts : text ≡ prefix ++ 49 ∷ rest
  pub good : IsPrefix prefix
  pub one_case : IsOneCase text
  pub payload : IsPayload prefix rest bytes

-- the text is in the prefix's case, and in lower case where the prefix has no letter
pub record IsInCaseOf (prefix text : List ℕ) : Type 0 where
  pub lower : has_upper prefix ≡ false → has_upper text ≡ false
  pub upper : has_upper prefix ≡ true → has_lower text ≡ false

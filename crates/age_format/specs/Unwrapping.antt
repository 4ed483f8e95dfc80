-- What an identity answers.
use Rattle.std.specs.Prelude.{List, Option, Result, ℕ}
use Rattle.std.specs.Option.{option_map}
use Rattle.std.specs.Result.{result_map_both}
use Rattle.age_error.specs.declared.decrypt.DecryptError.{DecryptError}
use Rattle.age_error.specs.DecryptErrors.{DecryptRefusal, decrypt_refusal}
use Rattle.age_v1.specs.Identities.{UnwrapAnswer}

-- a file key or a refusal, apart from where it lies in memory
abbrev pub key_answer : Result (List ℕ) DecryptError → Result (List ℕ) DecryptRefusal
key_answer answer = result_map_both (λ key. key) (λ e. decrypt_refusal e) answer

-- an answer, apart from where it lies in memory
abbrev pub unwrap_answer : Option (Result (List ℕ) DecryptError) → UnwrapAnswer
unwrap_answer answer = option_map (λ a. key_answer a) answer

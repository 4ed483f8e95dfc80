-- What functions answer, apart from where it lies in memory.
use Rattle.std.specs.Prelude.{Result}
use Rattle.std.specs.Result.{result_map_both}
use Rattle.age_error.specs.declared.encrypt.EncryptError.{EncryptError}
use Rattle.age_error.specs.EncryptErrors.{EncryptRefusal, encrypt_refusal}

-- a value, or what a refusal says
abbrev pub encrypt_answer : {A : Type 0} → Result A EncryptError → Result A EncryptRefusal
encrypt_answer result = result_map_both (λ x. x) (λ e. encrypt_refusal e) result

-- What each refusal prints.
use Rattle.std.specs.Prelude.{ℕ, List, codes}
use Rattle.scrypt.specs.declared.error.ScryptError.{ScryptError}
use Rattle.scrypt.specs.declared.error.ScryptError.TheVariants.{InvalidParams, OutOfMemory}

abbrev pub message : ScryptError → List ℕ
message InvalidParams = codes "invalid scrypt parameters"
message OutOfMemory = codes "out of memory"

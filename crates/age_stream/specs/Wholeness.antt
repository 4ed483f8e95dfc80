-- What is true of each chunk that was opened.
use Rattle.std.specs.Prelude.{Bool, List, false, length, ℕ, ◌<◌, ◌^◌, ◌≡◌, ◌≤◌}

-- how large a chunk is, and which number it may have
pub record IsChunkSize (number : ℕ) (last : Bool) (chunk : List ℕ) : Type 0 where
  pub small : length chunk ≤ 65536
  pub limit : number < 2 ^ 44
  pub full : last ≡ false → length chunk ≡ 65536

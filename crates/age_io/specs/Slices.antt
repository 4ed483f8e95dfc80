-- What a caller sees of a reader of a slice.
use Rattle.std.specs.Prelude.{ℕ, List}
use Rattle.age_io.specs.declared.memory.Bytes.{Bytes}

-- all its bytes
abbrev pub bytes_of : Bytes → List ℕ
bytes_of r = r.bytes.now

-- how many of them have been read
abbrev pub place_of : Bytes → ℕ
place_of r = r.place

-- What a window of bytes holds.
use Rattle.std.specs.Prelude.{List, ℕ}
use Rattle.age_io.specs.Buffering.{held}
use Rattle.age_armor.specs.declared.window.Window.{Window}

-- the bytes that were read and not given yet
unfoldable pub held_in : Window → List ℕ
held_in window = held window.bytes window.given window.filled

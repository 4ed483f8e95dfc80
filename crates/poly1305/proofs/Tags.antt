-- A tag is 16 bytes.
use Rattle.std.proofs.Common.{◌≡◌, ℕ, zero, suc, ◌/◌, ◌^◌, ◌<◌, List, length, lit<, refl}
use Rattle.std.proofs.lemmas.List.Elements.{All-nil, All-cons}
use Rattle.std.proofs.lemmas.Nat.{mod_below}
use Rattle.std.specs.Prelude.{All}
use Rattle.std.specs.Int.{byte_at, bytes_low_first}
use Rattle.poly1305.specs.Mac.{poly1305_mac}

-- a byte, as the laws say it
abbrev IsByte : ℕ → Type 0
IsByte byte = byte < 2 ^ 8

byte_at-byte : (i n : ℕ) → IsByte (byte_at i n)
byte_at-byte zero n = mod_below n 256 (lit< tt)
byte_at-byte (suc i) n = mod_below (n / 256 ^ suc i) 256 (lit< tt)

low_first-bytes : (i k n : ℕ) → All IsByte (bytes_low_first i k n)
low_first-bytes i zero n = All-nil IsByte
low_first-bytes i (suc k) n = All-cons IsByte (byte_at i n) (bytes_low_first (suc i) k n) (byte_at-byte i n) (low_first-bytes (suc i) k n)

pub length-poly1305_mac : (key text : List ℕ) → length (poly1305_mac key text) ≡ 16
unfolding poly1305_mac
length-poly1305_mac key text = refl

pub poly1305_mac-bytes : (key text : List ℕ) → All IsByte (poly1305_mac key text)
unfolding poly1305_mac
poly1305_mac-bytes key text = low_first-bytes 0 16 _

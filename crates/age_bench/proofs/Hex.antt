-- One byte more of a text of hexadecimal digits.
use Rattle.std.specs.Prelude.{◌≡◌, ◌≢◌, ℕ, ◌+◌, ◌*◌, ◌%◌, ◌<◌, ◌≤◌, List, [], ◌∷◌, ◌++◌, length, drop, get_or, Option, Some, None, option_map, refl}
use Rattle.std.specs.Option.{option_and_then}
use Rattle.std.proofs.Common.{sym, arith, add_assoc}
use Rattle.std.proofs.Math.ListN.{drop_of_length-le}
use Rattle.std.proofs.lemmas.List.{drop_more, append_assoc, append-nil}
use Rattle.std.proofs.lemmas.Option.{none-some, same_Some}
use Rattle.std.proofs.lemmas.Bool.Decides.{nat_tests}
use Rattle.age_bench.specs.Command.{byte_of, hex_bytes, key_word}

-- what a text writes, after bytes that are known
abbrev pub prepended : List ℕ → Option (List ℕ) → Option (List ℕ)
prepended done rest = option_map (λ bytes. done ++ bytes) rest

prepended-push : (done : List ℕ) (x : ℕ) (o : Option (List ℕ))
    → prepended done (option_map (λ bytes. x ∷ bytes) o) ≡ prepended (done ++ x ∷ []) o
prepended-push done x None = refl
prepended-push done x (Some xs) = rw append_assoc refl

nothing : (o : Option ℕ) → option_and_then {T = ℕ} {U = List ℕ} (λ byte. None) o ≡ None
nothing None = refl
nothing (Some x) = refl

-- an odd number of digits writes nothing
pub odd : (text : List ℕ) → length text % 2 ≢ 0 → hex_bytes text ≡ None
odd [] h = absurd (h refl)
odd (a ∷ []) h = refl
odd (a ∷ b ∷ text) h =
    let fewer : length text % 2 ≢ 0 = λ e. h (omega (arith, e)) in
    rw (odd text fewer) (nothing (byte_of a b))

-- two digits more
two_more : (text : List ℕ) (n : ℕ) → n + 1 < length text
    → drop n text ≡ get_or text n 0 ∷ get_or text (n + 1) 0 ∷ drop (n + 2) text
two_more text n h = rw (drop_more text n 0 (omega arith), drop_more text (n + 1) 0 h, add_assoc) refl

pub byte_more : (text done : List ℕ) (n byte : ℕ) → n + 1 < length text → byte_of (get_or text n 0) (get_or text (n + 1) 0) ≡ Some byte
    → hex_bytes text ≡ prepended done (hex_bytes (drop n text)) → hex_bytes text ≡ prepended (done ++ byte ∷ []) (hex_bytes (drop (n + 2) text))
byte_more text done n byte h good e =
    let more : hex_bytes text ≡ prepended done (option_map (λ bytes. byte ∷ bytes) (hex_bytes (drop (n + 2) text))) =
    rw (two_more text n h, good) at e in
    rw (← prepended-push done byte (hex_bytes (drop (n + 2) text))) more

-- the text is written to its end
pub text_done : (text done : List ℕ) (n : ℕ) → length text ≤ n → hex_bytes text ≡ prepended done (hex_bytes (drop n text))
    → Some done ≡ hex_bytes text
text_done text done n past e = rw (drop_of_length-le text past, append-nil) at (sym e)

counted : (byte : Option ℕ) (rest : Option (List ℕ)) (done : List ℕ) → option_and_then (λ b. option_map (λ bytes. b ∷ bytes) rest) byte ≡ Some done
    → (b : ℕ) × (bytes : List ℕ) × (rest ≡ Some bytes) × (done ≡ b ∷ bytes)
counted None rest done e = absurd (none-some _ e)
counted (Some b) None done e = absurd (none-some _ e)
counted (Some b) (Some bytes) done e = (b, bytes, refl, sym (same_Some _ _ e))

-- each byte is written by two digits
pub two_a_byte : (text bytes : List ℕ) → hex_bytes text ≡ Some bytes → length text ≡ 2 * length bytes
two_a_byte [] bytes e = rw (← same_Some _ _ e) refl
two_a_byte (a ∷ []) bytes e = absurd (none-some _ e)
two_a_byte (a ∷ b ∷ text) bytes e =
    let (byte, rest, is, whole) = counted (byte_of a b) (hex_bytes text) bytes e in
    let shorter = two_a_byte text rest is in
    rw whole (omega (arith, shorter))

key_is : (text : List ℕ) → length text ≡ 64 → key_word text ≡ hex_bytes text
key_is text h = grind (arith, nat_tests)

-- a text of 64 digits writes a key
pub key_found : (text key : List ℕ) → length text ≡ 64 → Some key ≡ hex_bytes text → Some key ≡ key_word text
key_found text key h e = rw (key_is text h) e

-- and it writes 32 bytes
pub no_key : (text bytes : List ℕ) → length text ≡ 64 → Some bytes ≡ hex_bytes text → length bytes ≡ 32
no_key text bytes h e = let counted = two_a_byte text bytes (sym e) in omega (arith, counted)

-- Both sides of X25519 get the same shared secret.
use Rattle.std.proofs.Common.{◌≡◌, ℕ, ◌*◌, ◌%◌, ◌^◌, ◌<◌, List, length, All, sym, ap, refl, ◌∙◌, arith, mul_comm, mod-lt, ltb-true}
use Rattle.std.proofs.Math.Nat.{mod-mod}
use Rattle.curve25519.specs.Field.{prime}
use Rattle.curve25519.specs.Encoding.{decode_little_endian, decode_u_coordinate, decode_scalar, encode_u_coordinate}
use Rattle.curve25519.specs.X25519.{scalar_multiplication, x25519, base_point, public_key}
use Rattle.curve25519.proofs.Bytes.{IsByte, length-encode, encode-bytes, decode_u_coordinate-encode, decode_scalar-below}
use Rattle.curve25519.proofs.LadderForms.{scalar_multiplication-multiple}
use Rattle.curve25519.proofs.LadderInvariant.{u_coordinate}
use Rattle.curve25519.proofs.LadderMultiples.{scalar_multiple-multiple, u_coordinate_base}

prime_fits : prime < 2 ^ 255
unfolding prime
prime_fits = ltb-true prime (2 ^ 255) refl

prime_positive : 0 < prime
unfolding prime
prime_positive = ltb-true 0 prime refl

-- k times the base point's multiple by m
multiple_of_multiple : (k m : ℕ) → k < 2 ^ 255 → scalar_multiplication k (u_coordinate m) ≡ u_coordinate (k * m)
multiple_of_multiple k m h = scalar_multiplication-multiple k (u_coordinate m) ∙ scalar_multiple-multiple k m h

multiple_of_base : (k : ℕ) → k < 2 ^ 255 → scalar_multiplication k 9 ≡ u_coordinate k
multiple_of_base k h =
    ap (scalar_multiplication k) (sym u_coordinate_base) ∙ multiple_of_multiple k 1 h ∙ ap u_coordinate (omega arith)

decode_base_point : decode_u_coordinate base_point ≡ 9
unfolding decode_u_coordinate decode_little_endian
decode_base_point = refl

-- what is sent arrives, modulo the prime
decode-encode_u_coordinate : (u : ℕ) → decode_u_coordinate (encode_u_coordinate u) ≡ u % prime
decode-encode_u_coordinate u =
    let low : u % prime < prime = mod-lt u prime_positive in
    decode_u_coordinate-encode (u % prime) (omega (arith, low, prime_fits))

public_key-is : (secret : List ℕ) → length secret ≡ 32 → All IsByte secret
    → public_key secret ≡ encode_u_coordinate (u_coordinate (decode_scalar secret))
unfolding public_key x25519
public_key-is secret e h =
    ap (λ u. encode_u_coordinate (scalar_multiplication (decode_scalar secret) u)) decode_base_point
    ∙ ap encode_u_coordinate (multiple_of_base (decode_scalar secret) (decode_scalar-below secret e h))

u_coordinate-mod : (n : ℕ) → u_coordinate n % prime ≡ u_coordinate n
unfolding u_coordinate
u_coordinate-mod n = mod-mod _ prime

shared_secret-is : (a b : List ℕ) → length a ≡ 32 → All IsByte a → length b ≡ 32 → All IsByte b
    → x25519 a (public_key b) ≡ encode_u_coordinate (u_coordinate (decode_scalar a * decode_scalar b))
unfolding x25519
shared_secret-is a b ea ha eb hb =
    let k = decode_scalar a in
    let m = decode_scalar b in
    ap (λ u. encode_u_coordinate (scalar_multiplication (decode_scalar a) (decode_u_coordinate u))) (public_key-is b eb hb)
    ∙ ap (λ u. encode_u_coordinate (scalar_multiplication (decode_scalar a) u))
    (decode-encode_u_coordinate (u_coordinate (decode_scalar b)) ∙ u_coordinate-mod (decode_scalar b))
    ∙ ap encode_u_coordinate (multiple_of_multiple (decode_scalar a) (decode_scalar b) (decode_scalar-below a ea ha))

pub same_secret : (a b : List ℕ) → length a ≡ 32 → All IsByte a → length b ≡ 32 → All IsByte b
    → x25519 a (public_key b) ≡ x25519 b (public_key a)
same_secret a b ea ha eb hb =
    shared_secret-is a b ea ha eb hb
    ∙ ap (λ n. encode_u_coordinate (u_coordinate n)) (mul_comm (decode_scalar a) (decode_scalar b))
    ∙ sym (shared_secret-is b a eb hb ea ha)

pub length-x25519 : (k u : List ℕ) → length (x25519 k u) ≡ 32
unfolding x25519
length-x25519 k u = length-encode 32 (scalar_multiplication (decode_scalar k) (decode_u_coordinate u) % prime)

pub x25519-bytes : (k u : List ℕ) → All IsByte (x25519 k u)
unfolding x25519
x25519-bytes k u = encode-bytes 32 (scalar_multiplication (decode_scalar k) (decode_u_coordinate u) % prime)

pub length-public_key : (secret : List ℕ) → length (public_key secret) ≡ 32
unfolding public_key
length-public_key secret = length-x25519 secret base_point

pub public_key-bytes : (secret : List ℕ) → All IsByte (public_key secret)
unfolding public_key
public_key-bytes secret = x25519-bytes secret base_point

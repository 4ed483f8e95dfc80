-- Scalars and u-coordinates as 32 bytes, the low byte first (RFC 7748, 5). Comments have the RFC's lines, in which `bits` is 255.
use Rattle.std.specs.Prelude.{ℕ, zero, suc, ◌+◌, ◌*◌, ◌/◌, ◌%◌, List, [], ◌∷◌, bit_and, bit_or, slice_index, slice_set}
use Rattle.curve25519.specs.Field.{prime}

-- decodeLittleEndian(b, bits): sum([b[i] << 8*i for i in range((bits+7)/8)]), the bytes of a list of 32
unfoldable pub decode_little_endian : (b : List ℕ) → ℕ
decode_little_endian [] = 0
decode_little_endian (byte ∷ bytes) = byte + 256 * decode_little_endian bytes

-- decodeUCoordinate(u, bits): u_list[-1] &= (1<<(bits%8))-1, so the highest bit is ignored. The number may be p or more
unfoldable pub decode_u_coordinate : (u : List ℕ) → ℕ
decode_u_coordinate u = decode_little_endian (slice_set u 31 (bit_and (slice_index u 31) 127))

-- the lines of decodeScalar25519(k) that clear bits 0, 1, 2 and 255 and set bit 254
unfoldable pub clamped : (k : List ℕ) → List ℕ
clamped k =
    -- k_list[0] &= 248
    let k1 = slice_set k 0 (bit_and (slice_index k 0) 248) in
    -- k_list[31] &= 127
    let k2 = slice_set k1 31 (bit_and (slice_index k1 31) 127) in
    -- k_list[31] |= 64
    slice_set k2 31 (bit_or (slice_index k2 31) 64)

-- decodeScalar25519(k), whose last line is decodeLittleEndian(k_list, 255)
abbrev pub decode_scalar : (k : List ℕ) → ℕ
decode_scalar k = decode_little_endian (clamped k)

-- the bytes (u >> 8*i) & 0xff of a number, for i from 0 on
unfoldable pub encode_little_endian : (count u : ℕ) → List ℕ
encode_little_endian zero u = []
encode_little_endian (suc count) u = u % 256 ∷ encode_little_endian count (u / 256)

-- encodeUCoordinate(u, bits): u = u % p, and then its 32 bytes
abbrev pub encode_u_coordinate : (u : ℕ) → List ℕ
encode_u_coordinate u = encode_little_endian 32 (u % prime)

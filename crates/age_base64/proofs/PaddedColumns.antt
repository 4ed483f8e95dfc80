-- The base64 of armor: its length, its symbols, and that no two lists of bytes share one.
use Rattle.std.proofs.Common.{◌≡◌, ◌≢◌, ℕ, suc, zero, true, ◌+◌, ◌*◌, ◌/◌, ◌%◌, ◌<◌, List, [], ◌∷◌, ◌++◌, length, replicate, refl, ap, sym, subst, arith, ◌∙◌, Result, Ok}
use Rattle.std.proofs.lemmas.List.{append-nil, length-append, length-replicate}
use Rattle.std.specs.List.{AllByRecursion}
use Rattle.std.specs.Str.{IsAscii}
use Rattle.base64.specs.Engines.{standard}
use Rattle.base64.specs.GeneralPurpose.{decode_of, encode_of}
use Rattle.base64.specs.Rfc4648.{encode_symbols, padding_len}
use Rattle.base64.specs.declared.decode.DecodeError.{DecodeError}
use Rattle.base64.proofs.EngineFacts.{encode-append, encode-nil, decode_of-encode_of, IsAscii-encode_of}
use Rattle.base64.proofs.RoundTrip.{length-encode_symbols}
use Rattle.age_error.specs.Bytes.{AreBytes}
use Rattle.age_base64.specs.Lines.{Lacks}
use Rattle.age_base64.specs.Base64.{symbols, padded_columns}
use Rattle.age_base64.proofs.Lines.{Lacks-append}
use Rattle.age_base64.proofs.Columns.{IsSymbol, are_symbols, bytes-by_index, Lacks_columns}

pub padded_columns-append : (a b : List ℕ) → length a % 3 ≡ 0 → padded_columns (a ++ b) ≡ padded_columns a ++ padded_columns b
unfolding padded_columns
padded_columns-append a b whole = encode-append symbols 61 true a b whole

pub padded_columns-nil : padded_columns [] ≡ []
unfolding padded_columns
padded_columns-nil = encode-nil symbols 61 true

pub length-padded_columns : (a : List ℕ) → length (padded_columns a) ≡ 4 * ((length a + 2) / 3)
unfolding padded_columns
length-padded_columns a = rw (length-append, length-encode_symbols symbols a, length-replicate) (omega arith)

-- the engine whose table shows that no two lists have one base64; any engine over the alphabet would do
pub padded_columns_are : (a : List ℕ) → padded_columns a ≡ encode_of standard a
unfolding padded_columns
padded_columns_are a = refl

-- that engine decodes it
pub decodes_padded : (a : List ℕ) → AreBytes a → decode_of standard (padded_columns a) ≡ Ok a
decodes_padded a h = ap (decode_of standard) (padded_columns_are a) ∙ decode_of-encode_of standard a refl (bytes-by_index a h)

-- two lists of bytes with one base64 are one
pub padded_columns_same : (a b : List ℕ) → AreBytes a → AreBytes b → padded_columns a ≡ padded_columns b → a ≡ b
padded_columns_same a b ha hb e =
    let ok : Path (Result (List ℕ) DecodeError) (Ok a) (Ok b) = sym (decodes_padded a ha) ∙ ap (decode_of standard) e ∙ decodes_padded b hb in
    cc

pub IsAscii-padded_columns : (a : List ℕ) → IsAscii (padded_columns a)
IsAscii-padded_columns a = subst IsAscii (sym (padded_columns_are a)) (IsAscii-encode_of standard a)

lacks_padding : (c n : ℕ) → c ≢ 61 → Lacks c (replicate n 61)
lacks_padding c zero other = tt
lacks_padding c (suc n) other = (λ e. other (sym e), lacks_padding c n other)

-- a byte that neither a symbol nor padding is
lacks_other : (c : ℕ) → c ≢ 61 → (m : List ℕ) → Lacks c (encode_symbols symbols m) → Lacks c (padded_columns m)
unfolding padded_columns
lacks_other c other m h = Lacks-append c (encode_symbols symbols m) (replicate (padding_len (length m)) 61) h
    (lacks_padding c (padding_len (length m)) other)

pub Lacks_padded_columns : (c : ℕ) → c < 43 → (m : List ℕ) → AreBytes m → Lacks c (padded_columns m)
Lacks_padded_columns c low m h = lacks_other c (λ e. omega arith) m
    (Lacks_columns c low (encode_symbols symbols m) (are_symbols m (bytes-by_index m h)))

lacks_hyphen : (m : List ℕ) → AllByRecursion IsSymbol m → Lacks 45 m
lacks_hyphen [] h = tt
lacks_hyphen (c ∷ m) h = (h.0.2, lacks_hyphen m h.1)

pub Lacks_hyphen : (m : List ℕ) → AreBytes m → Lacks 45 (padded_columns m)
Lacks_hyphen m h = lacks_other 45 (λ e. omega arith) m (lacks_hyphen (encode_symbols symbols m) (are_symbols m (bytes-by_index m h)))

lacks_equals : (m : List ℕ) → AllByRecursion IsSymbol m → Lacks 61 m
lacks_equals [] h = tt
lacks_equals (c ∷ m) h = (h.0.3, lacks_equals m h.1)

-- whole groups have no padding
pub Lacks_equals : (m : List ℕ) → AreBytes m → length m % 3 ≡ 0 → Lacks 61 (padded_columns m)
unfolding padded_columns
Lacks_equals m h whole =
    let none : padding_len (length m) ≡ 0 = omega (arith, whole) in
    rw (none, append-nil) (lacks_equals (encode_symbols symbols m) (are_symbols m (bytes-by_index m h)))

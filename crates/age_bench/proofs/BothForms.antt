-- Both forms of a bench file carry it, and nothing else.
use Rattle.std.specs.Prelude.{◌≡◌, ◌≢◌, ◌<◌, ◌≤◌, ◌^◌, ℕ, zero, suc, true, List, [], ◌∷◌, ◌++◌, length, take, drop, nat_lt, codes, refl}
use Rattle.std.specs.List.{AllByRecursion, flat_map, list_all}
use Rattle.std.proofs.Common.{ap, arith, inr, length-append, length-drop, subst}
use Rattle.std.proofs.lemmas.Bool.{and_parts, ltb-true}
use Rattle.std.proofs.lemmas.List.{length-take-le}
use Rattle.std.proofs.lemmas.List.Elements.{All-nil, All-cons, All-append, All-take, All-drop}
use Rattle.age.specs.Bytes.{AreBytes}
use Rattle.age.specs.Base64.{columns}
use Rattle.age.specs.Lines.{line, pieces_and_rest}
use Rattle.age.proofs.Columns.{IsSymbol, columns_symbols}
use Rattle.age.specs.Armor.{armor, begin_marker, Carries, text_of}
use Rattle.age.specs.FormatVariants.{Binary, AsciiArmor}
use Rattle.age.specs.Stanza.{StanzaValue, stanza_text, first_line, body_text}
use Rattle.age.specs.Header.{version_line, mac_line, covered_text, header_text}
use Rattle.age.specs.HeaderMac.{header_mac}
use Rattle.age.specs.Payload.{payload, payload_key}
use Rattle.age.specs.PayloadLaws.{PayloadLength}
use Rattle.age.specs.File.{file_front, file_text, IsFileOf}
use Rattle.age_bench.specs.Bench.{bench_seal}
use Rattle.age_bench.specs.Recipient.{bench_stanza, bench_grease, bench_file, HoldsBenchKey}
use Rattle.age.specs.Types.{Format}
use Rattle.age_bench.proofs.OneFile.{header_mac-bytes, payload_key-bytes, IsAlone}

-- ---- a bench file is bytes

fixed : (xs : List ℕ) → list_all (λ x. nat_lt x 256) xs ≡ true → AreBytes xs
fixed [] h = All-nil (λ x. x < 2 ^ 8)
fixed (x ∷ xs) h =
    let parts = and_parts (nat_lt x 256) (list_all (λ x. nat_lt x 256) xs) h in
    All-cons (λ x. x < 2 ^ 8) x xs (ltb-true x 256 parts.0) (fixed xs parts.1)

joined_bytes : (xs ys : List ℕ) → AreBytes xs → AreBytes ys → AreBytes (xs ++ ys)
joined_bytes xs ys a b = All-append (λ x. x < 2 ^ 8) xs ys a b

line_bytes : (xs : List ℕ) → AreBytes xs → AreBytes (line xs)
line_bytes xs h = joined_bytes xs (10 ∷ []) h (fixed (10 ∷ []) refl)

lines_bytes : (count n : ℕ) (xs : List ℕ) → AreBytes xs → AreBytes (flat_map line (pieces_and_rest count n xs))
unfolding pieces_and_rest
lines_bytes zero n xs h = joined_bytes (line xs) [] (line_bytes xs h) (fixed [] refl)
lines_bytes (suc count) n xs h =
    joined_bytes (line (take n xs)) (flat_map line (pieces_and_rest count n (drop n xs)))
    (line_bytes (take n xs) (All-take (λ x. x < 2 ^ 8) n xs h))
    (lines_bytes count n (drop n xs) (All-drop (λ x. x < 2 ^ 8) n xs h))

symbols_bytes : (xs : List ℕ) → AllByRecursion IsSymbol xs → AreBytes xs
symbols_bytes [] h = All-nil (λ x. x < 2 ^ 8)
symbols_bytes (x ∷ xs) h =
    let low = h.0.1 in
    let small : x < 2 ^ 8 = omega (arith, low) in
    All-cons (λ x. x < 2 ^ 8) x xs small (symbols_bytes xs h.1)

columns_bytes : (body : List ℕ) → AreBytes body → AreBytes (columns body)
columns_bytes body h = symbols_bytes (columns body) (columns_symbols body h)

body_bytes : (body : List ℕ) → AreBytes body → AreBytes (body_text body)
unfolding body_text
body_bytes body h = lines_bytes _ 64 (columns body) (columns_bytes body h)

stanza_bytes : (s : StanzaValue) → list_all (λ x. nat_lt x 256) (first_line s) ≡ true → AreBytes s.body → AreBytes (stanza_text s)
unfolding stanza_text
stanza_bytes s first body = joined_bytes (line (first_line s)) (body_text s.body) (line_bytes (first_line s) (fixed (first_line s) first))
    (body_bytes s.body body)

bench_stanza_bytes : (file_key : List ℕ) → AreBytes file_key → AreBytes (stanza_text (bench_stanza file_key))
unfolding first_line
bench_stanza_bytes file_key h = stanza_bytes (bench_stanza file_key) refl h

grease_bytes : AreBytes (stanza_text bench_grease)
unfolding first_line
grease_bytes = stanza_bytes bench_grease refl (fixed [] refl)

header_bytes : (file_key mac : List ℕ) → AreBytes file_key → AreBytes mac → AreBytes (header_text (bench_stanza file_key ∷ bench_grease ∷ []) mac)
unfolding header_text mac_line
header_bytes file_key mac k m =
    let stanzas = joined_bytes (stanza_text (bench_stanza file_key)) (stanza_text bench_grease ++ []) (bench_stanza_bytes file_key k)
    (joined_bytes (stanza_text bench_grease) [] grease_bytes (fixed [] refl)) in
    let last = line_bytes (codes "--- " ++ columns mac)
    (joined_bytes (codes "--- ") (columns mac) (fixed (codes "--- ") refl) (columns_bytes mac m)) in
    joined_bytes (line version_line) _ (fixed (line version_line) refl) (joined_bytes _ (line (codes "--- " ++ columns mac)) stanzas last)

bench_file_bytes : PayloadLength bench_seal → (draws plain : List ℕ) → AreBytes draws → AreBytes plain → AreBytes (bench_file draws plain)
unfolding file_text file_front
bench_file_bytes size draws plain d p =
    let key = take 16 draws in
    let nonce = take 16 (drop 16 draws) in
    let k : AreBytes key = All-take (λ x. x < 2 ^ 8) 16 draws d in
    let n : AreBytes nonce = All-take (λ x. x < 2 ^ 8) 16 (drop 16 draws) (All-drop (λ x. x < 2 ^ 8) 16 draws d) in
    let mac = header_mac key (covered_text (bench_stanza key ∷ bench_grease ∷ [])) in
    let header = header_text (bench_stanza key ∷ bench_grease ∷ []) mac in
    joined_bytes (header ++ nonce) (payload bench_seal (payload_key key nonce) plain)
    (joined_bytes header nonce (header_bytes key mac k (header_mac-bytes key _).bytes) n)
    (size (payload_key key nonce) plain (payload_key-bytes key nonce) p).bytes

-- ---- no other form of it

bench_file_long : (draws plain : List ℕ) → 32 ≤ length draws → 36 ≤ length (bench_file draws plain)
unfolding file_text file_front header_text
bench_file_long draws plain long =
    let nonce : length (take 16 (drop 16 draws)) ≡ 16 = length-take-le 16 (drop 16 draws) (omega (arith, long, length-drop 16 draws)) in
    simp length-append (omega (arith, nonce))

abbrev first_of : List ℕ → ℕ
first_of [] = 0
first_of (x ∷ xs) = x

-- its first byte is a letter, and not a hyphen
bench_file_plain : (draws plain rest : List ℕ) → bench_file draws plain ≢ begin_marker ++ rest
unfolding file_text file_front header_text
bench_file_plain draws plain rest is =
    let same : 97 ≡ 45 = ap first_of is in
    absurd (omega (arith, same))

-- the text in either form carries it
abbrev pub IsCarriedAs : Type 0
IsCarriedAs = (format : Format) (draws plain : List ℕ) → AreBytes draws → 32 ≤ length draws → AreBytes plain
    → Carries (text_of format (bench_file draws plain)) (bench_file draws plain)

-- what it carries is a file of no other plaintext under the file key that its first bench stanza holds
abbrev pub IsGivenBack : Type 0
IsGivenBack = (format : Format) (draws plain bytes file_key : List ℕ) (stanzas : List StanzaValue) (given : List ℕ)
    → AreBytes draws → 32 ≤ length draws → AreBytes plain → Carries (text_of format (bench_file draws plain)) bytes
    → HoldsBenchKey file_key stanzas → IsFileOf bench_seal file_key stanzas given bytes → given ≡ plain

module _ (armored : (bytes : List ℕ) → AreBytes bytes → Carries (armor bytes) bytes) (size : PayloadLength bench_seal) where
  pub is_carried : IsCarriedAs
  is_carried Binary draws plain b long p = record {
    each = bench_file_bytes size draws plain b p;
    way = inr (record { size = bench_file_long draws plain long; no_marker = bench_file_plain draws plain; same = refl });
  }
  is_carried AsciiArmor draws plain b long p = armored (bench_file draws plain) (bench_file_bytes size draws plain b p)

  -- so what is read from either form is true of the file itself
  pub gives_back : ((text bytes others : List ℕ) → Carries text bytes → Carries text others → bytes ≡ others) → IsAlone → IsGivenBack
  gives_back one alone format draws plain bytes file_key stanzas given b long p carries holds f =
      let is : bytes ≡ bench_file draws plain =
      one (text_of format (bench_file draws plain)) bytes (bench_file draws plain) carries (is_carried format draws plain b long p) in
      alone draws plain file_key stanzas given b long p holds (subst (λ x. IsFileOf bench_seal file_key stanzas given x) is f)

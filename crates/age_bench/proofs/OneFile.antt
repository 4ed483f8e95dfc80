-- A file tells its stanzas, and under a file key its plaintext.
use Rattle.std.specs.Prelude.{◌≡◌, ◌≢◌, ◌<◌, ◌≤◌, ◌^◌, ◌+◌, ◌*◌, ℕ, zero, suc, true, false, List, [], ◌∷◌, ◌++◌, length, take, drop, codes, All, refl}
use Rattle.std.proofs.Common.{◌∙◌, sym, ap, subst, arith, inl, length-drop}
use Rattle.std.proofs.lemmas.List.{drop_at, take_at, length-take-le}
use Rattle.std.proofs.lemmas.List.Elements.{All-nil, All-append, All-head, All-take, All-drop}
use Rattle.age.specs.Bytes.{AreBytes, AreBytesOf}
use Rattle.age.specs.Mac.{hmac_of}
use Rattle.age.specs.Digests.{hmac_of-bytes, hkdf_of-bytes}
use Rattle.age.specs.Stanza.{StanzaValue, IsStanza}
use Rattle.age.specs.Header.{covered_text}
use Rattle.age.specs.HeaderV1.{HeaderValue}
use Rattle.age.specs.HeaderMac.{header_mac}
use Rattle.age.proofs.Strings.{string_tested}
use Rattle.age.specs.Payload.{piece, chunk_nonce, middle_seals, last_piece, payload, payload_key}
use Rattle.age.specs.PayloadLaws.{ArePieces, PayloadLength, OnePlaintext, joined_pieces}
use Rattle.age.specs.File.{IsFileOf}
use Rattle.age.specs.Ready.{IsReady}
use Rattle.age.proofs.Accepted.{ReadsAlone, HasOneVerdict}
use Rattle.age.proofs.Files.{is_file}
use Rattle.age.proofs.OneFile.{one_header, same_payload}
use Rattle.age_bench.specs.Bench.{bench_seal, masked, tag_of}
use Rattle.age_bench.specs.Recipient.{bench_stanza, bench_grease, bench_file, HoldsBenchKey}
use Rattle.age_bench.specs.Laws.{masked_twice, masked-bytes}

-- ---- any file

pub payload_key-bytes : (file_key nonce : List ℕ) → AreBytesOf 32 (payload_key file_key nonce)
unfolding payload_key
payload_key-bytes file_key nonce = hkdf_of-bytes nonce (codes "payload") file_key

-- ---- what is sealed as bytes is bytes

front_bytes : (xs ys : List ℕ) → AreBytes (xs ++ ys) → AreBytes xs
front_bytes xs ys b = subst AreBytes (take_at xs ys (length xs) refl) (All-take (λ x. x < 2 ^ 8) (length xs) (xs ++ ys) b)

back_bytes : (xs ys : List ℕ) → AreBytes (xs ++ ys) → AreBytes ys
back_bytes xs ys b = subst AreBytes (drop_at xs ys (length xs) refl) (All-drop (λ x. x < 2 ^ 8) (length xs) (xs ++ ys) b)

opened_bytes : (key nonce plain : List ℕ) → AreBytes (bench_seal key nonce plain) → AreBytes plain
opened_bytes key nonce plain b =
    let mask = hmac_of key nonce in
    rw masked_twice at (masked-bytes mask 0 (masked mask plain) (hmac_of-bytes key nonce)
    (front_bytes (masked mask plain) (tag_of key nonce plain) b))

joined_bytes : (key plain : List ℕ) (n : ℕ) → AreBytes (middle_seals bench_seal key plain n) → AreBytes (joined_pieces plain n)
joined_bytes key plain zero b = All-nil (λ x. x < 2 ^ 8)
joined_bytes key plain (suc i) b =
    let P : ℕ → Type 0 = λ x. x < 2 ^ 8 in
    let before = middle_seals bench_seal key plain i in
    let seal = bench_seal key (chunk_nonce i false) (piece i plain) in
    All-append P (joined_pieces plain i) (piece i plain) (joined_bytes key plain i (front_bytes before seal b))
    (opened_bytes key (chunk_nonce i false) (piece i plain) (back_bytes before seal b))

payload_opened : (key plain : List ℕ) → ArePieces plain → AreBytes (payload bench_seal key plain) → AreBytes plain
unfolding payload
payload_opened key plain pieces b =
    let P : ℕ → Type 0 = λ x. x < 2 ^ 8 in
    let last = last_piece (length plain) in
    let before = middle_seals bench_seal key plain last in
    let seal = bench_seal key (chunk_nonce last true) (piece last plain) in
    let all : AreBytes (joined_pieces plain (suc last)) =
    All-append P (joined_pieces plain last) (piece last plain) (joined_bytes key plain last (front_bytes before seal b))
    (opened_bytes key (chunk_nonce last true) (piece last plain) (back_bytes before seal b)) in
    let next : suc last ≡ last + 1 = omega arith in
    subst AreBytes pieces.whole (subst (λ n. AreBytes (joined_pieces plain n)) next all)

-- ---- the bench file

-- it is a file under the file key that its bench stanza holds
abbrev pub IsMade : Type 0
IsMade = (draws plain : List ℕ) → AreBytes draws → 32 ≤ length draws
    → IsFileOf bench_seal (take 16 draws) (bench_stanza (take 16 draws) ∷ bench_grease ∷ []) plain (bench_file draws plain)

-- it is a file of no other plaintext under the file key that its first bench stanza holds
abbrev pub IsAlone : Type 0
IsAlone = (draws plain file_key : List ℕ) (stanzas : List StanzaValue) (given : List ℕ) → AreBytes draws → 32 ≤ length draws → AreBytes plain
    → HoldsBenchKey file_key stanzas → IsFileOf bench_seal file_key stanzas given (bench_file draws plain) → given ≡ plain

-- the first of a list, or the grease where there is none
abbrev first_of : List StanzaValue → StanzaValue
first_of [] = bench_grease
first_of (s ∷ stanzas) = s

pub header_mac-bytes : (file_key front : List ℕ) → AreBytesOf 32 (header_mac file_key front)
unfolding header_mac
header_mac-bytes file_key front = hmac_of-bytes _ front

no_stanzas : (s : StanzaValue) (l : List StanzaValue) → s ∷ l ≢ []
no_stanzas s l is = absurd (Prim.cc)

other_tags : (codes "bench" ≢ codes "scrypt") × (codes "agebench-grease" ≢ codes "scrypt")
other_tags = (λ is. absurd (Prim.cc), λ is. absurd (Prim.cc))

stanza_good : (file_key : List ℕ) → AreBytes file_key → IsStanza (bench_stanza file_key)
stanza_good file_key b = record { tag = (string_tested (codes "bench")).0 refl; args = tt; body = b }

grease_good : IsStanza bench_grease
grease_good = record { tag = (string_tested (codes "agebench-grease")).0 refl; args = tt; body = All-nil (λ x. x < 2 ^ 8) }

pub is_bench_file : IsMade
is_bench_file draws plain b long =
    let file_key = take 16 draws in
    let stanzas = bench_stanza file_key ∷ bench_grease ∷ [] in
    let mac = header_mac file_key (covered_text stanzas) in
    let h : HeaderValue = record { stanzas = stanzas; mac = mac } in
    let ready : IsReady file_key h (take 16 (drop 16 draws)) = record {
      header = record {
        each = (stanza_good file_key (All-take (λ x. x < 2 ^ 8) 16 draws b), (grease_good, tt));
        some = no_stanzas (bench_stanza file_key) (bench_grease ∷ []);
        is_mac = header_mac-bytes file_key (covered_text stanzas);
      };
      rule = inl (other_tags.0, (other_tags.1, tt));
      right = refl;
      sixteen = record {
        len = length-take-le 16 (drop 16 draws) (omega (arith, long, length-drop 16 draws));
        bytes = All-take (λ x. x < 2 ^ 8) 16 (drop 16 draws) (All-drop (λ x. x < 2 ^ 8) 16 draws b);
      };
    } in
    is_file bench_seal file_key h (take 16 (drop 16 draws)) plain ready

-- the key of the first bench stanza
first_key : (key file_key : List ℕ) (passed later : List StanzaValue) → bench_stanza key ∷ bench_grease ∷ [] ≡ passed ++ bench_stanza file_key ∷ later
    → All (λ s. s.tag ≢ codes "bench") passed → key ≡ file_key
first_key key file_key [] later is others = ap (λ l. (first_of l).body) is
first_key key file_key (p ∷ passed) later is others =
    absurd (All-head (λ s. s.tag ≢ codes "bench") p passed others (sym (ap (λ l. (first_of l).tag) is)))

pub is_alone : ReadsAlone → HasOneVerdict → PayloadLength bench_seal → OnePlaintext bench_seal → ((plain : List ℕ) → ArePieces plain) → IsAlone
is_alone alone one size law pieces draws plain file_key stanzas given b long p holds f =
    let key = take 16 draws in
    let text = bench_file draws plain in
    let made = is_bench_file draws plain b long in
    let same = one_header alone one bench_seal key file_key _ stanzas plain given text made f in
    let is : key ≡ file_key = first_key key file_key holds.passed holds.later (same ∙ holds.all) holds.others in
    let g : IsFileOf bench_seal key stanzas given text = subst (λ k. IsFileOf bench_seal k stanzas given text) (sym is) f in
    let sealing = payload_key key g.nonce in
    let is_payload : payload bench_seal sealing given ≡ payload bench_seal sealing plain =
    same_payload alone one bench_seal key stanzas _ given plain text g made in
    let whole : AreBytesOf (length plain + 16 * (last_piece (length plain) + 1)) (payload bench_seal sealing plain) =
    size sealing plain (payload_key-bytes key g.nonce) p in
    let opened : AreBytes given = payload_opened sealing given (pieces given) (subst AreBytes (sym is_payload) whole.bytes) in
    law sealing given plain (payload_key-bytes key g.nonce) opened p is_payload

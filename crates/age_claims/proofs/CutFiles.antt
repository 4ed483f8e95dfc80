-- The first chunks of a payload are no payload.
use Rattle.std.specs.Prelude.{◌≡◌, ℕ, ◌+◌, ◌-◌, ◌*◌, ◌<◌, ◌≤◌, ◌^◌, true, false, List, Option, length, take, min}
use Rattle.std.proofs.Common.{◌∙◌, sym, ap, arith, length-take, refl, subst}
use Rattle.age.specs.Bytes.{AreBytes, AreBytesOf}
use Rattle.age.specs.DeliveredPayload.{payload_delivers}
use Rattle.age.specs.Payload.{Seal, LastIsNoMiddle, chunk, chunk_nonce, last_piece, payload, piece}
use Rattle.age.specs.PayloadLaws.{CutPayload, PayloadLength, PayloadOpens}
use Rattle.age.specs.Stretch.{Stretch, whole}
use Rattle.age.specs.Suite.{IsCipher}
use Rattle.age.proofs.Cuts.{cut-take}
use Rattle.age.proofs.Payloads.{chunk-last, chunk-payload, length-last_piece, piece-bytes}
use Rattle.age_claims.specs.Claims.{HasNoLastSeal}

take_most : (i : ℕ) (xs : List ℕ) → length (take i xs) ≤ i
take_most i xs = rw length-take (omega arith)

-- n chunks that aren't all have fewer bytes than the payload of a plaintext of more than n pieces
few : (cut given plain n : ℕ) → cut ≤ 65552 * n → cut ≡ given + 16 * (last_piece given + 1) → n ≤ last_piece plain → plain ≤ 2 ^ 60 → given ≤ 2 ^ 60
few cut given plain n most is fewer within = omega (arith, most, is, fewer, within)

-- and where the last of its pieces is full, a payload of as many bytes as n chunks ends with chunk n - 1
ends_there : (cut all given plain n last piece_len : ℕ) → cut ≡ min (65552 * n) all → all ≡ plain + 16 * (last_piece plain + 1)
    → cut ≡ given + 16 * (last + 1) → last ≡ last_piece given → piece_len + 65536 * last ≡ given → piece_len ≡ 65536 → n ≤ last_piece plain
    → n ≡ last + 1
ends_there cut all given plain n last piece_len taken whole is number parts full fewer =
    omega (arith, taken, whole, is, number, parts, full, fewer)

module _ (seal_of : Seal) (opened : List ℕ → List ℕ → List ℕ → Option (List ℕ)) (opens : PayloadOpens seal_of opened)
    (cut : CutPayload seal_of opened)
    (size : PayloadLength seal_of) (key plain given : List ℕ) (n : ℕ) (key_bytes : AreBytesOf 32 key) (plain_bytes : AreBytes plain)
    (given_bytes : AreBytes given) (within : length plain ≤ 2 ^ 60) (fewer : n ≤ last_piece (length plain)) (cipher : IsCipher seal_of opened)
    (apart : HasNoLastSeal seal_of key plain (n - 1))
    (is : take (65552 * n) (payload seal_of key plain) ≡ payload seal_of key given) where
  abbrev front : List ℕ
  front = take (65552 * n) (payload seal_of key plain)

  -- their last one would be the last chunk of a payload too
  keeps : LastIsNoMiddle seal_of key given
  unfolding LastIsNoMiddle
  keeps = λ other full bytes same.
      let last = last_piece (length given) in
      let number : n ≡ last + 1 =
      ends_there (length front) (length (payload seal_of key plain)) (length given) (length plain) n last (length (piece last given))
      (length-take (65552 * n) (payload seal_of key plain)) (size key plain key_bytes plain_bytes).len
      (ap length is ∙ (size key given key_bytes given_bytes).len) refl (length-last_piece given) full fewer in
      let before : last < last_piece (length plain) = omega (arith, number, fewer) in
      let there : seal_of key (chunk_nonce last false) (piece last plain) ≡ seal_of key (chunk_nonce last true) (piece last given) =
      sym (chunk-payload seal_of opened cipher key key_bytes plain last plain_bytes before)
      ∙ sym (cut-take 65552 last (65552 * n) (payload seal_of key plain) (omega (arith, number)))
      ∙ ap (chunk last) is ∙ chunk-last seal_of opened cipher key key_bytes given given_bytes in
      let at : n - 1 ≡ last = omega (arith, number) in
      subst (λ i. HasNoLastSeal seal_of key plain i) at apart (piece last given) (piece-bytes last given given_bytes) there

  -- they deliver no clean end, and a payload does
  pub never_whole : ⊥
  never_whole =
      let short : length given ≤ 2 ^ 60 =
      few (length front) (length given) (length plain) n (take_most (65552 * n) (payload seal_of key plain))
      (ap length is ∙ (size key given key_bytes given_bytes).len) fewer within in
      let well : payload_delivers opened key 0 (whole (payload seal_of key given)) ≡ whole given = opens key given key_bytes given_bytes short keeps
      in
      let broken = cut key plain n key_bytes plain_bytes within fewer in
      let same = sym well ∙ ap (λ (l : List ℕ). payload_delivers opened key 0 (whole l)) (sym is) ∙ broken in
      let ends : true ≡ false = ap (λ (s : Stretch). s.ends_well) same in
      absurd (Prim.cc)

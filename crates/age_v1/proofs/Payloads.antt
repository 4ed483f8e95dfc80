-- The length of a payload, its chunks, and that one payload has one plaintext.
use Rattle.std.proofs.Common.{take, ◌≡◌, ℕ, zero, suc, ◌+◌, ◌-◌, ◌*◌, ◌/◌, ◌<◌, ◌≤◌, ◌^◌, Bool, true, false, List, [], ◌++◌, length, Option, Some, refl, sym, ◌∙◌, ap, subst, arith, ⊎_elim, inl, inr, ◌⊎◌}
use Rattle.std.proofs.lemmas.List.{length-append, append_assoc, take_all}
use Rattle.std.proofs.lemmas.List.Elements.{All-append, All-nil}
use Rattle.std.proofs.lemmas.Bool.{cases_lt, le-leb, lt-ltb}
use Rattle.std.proofs.Math.Bool.{or-true}
use Rattle.age_v1.proofs.Cuts.{cut-bytes, length-cut, cut-front, cut_at, cut_end, cut_more, same_list}
use Rattle.age_v1.specs.PayloadLaws.{joined_pieces, ArePieces}
use Rattle.age_error.specs.Bytes.{AreBytes, AreBytesOf}
use Rattle.age_suite.specs.Suite.{IsCipher}
use Rattle.age_v1.proofs.OpenedTexts.{nonce-bytes}
use Rattle.age_v1.specs.PayloadRefusals.{StopsAt, RefusesFrontToEnd}
use Rattle.age_error.specs.declared.io.Error.{Error}
use Rattle.age_error.specs.declared.io.Error.TheVariants.{Truncated, BadChunk, AfterLast, LastChunkEmpty, TooLong, OutOfMemory, Device, UnexpectedEof, WriteZero, BeforeStart, PastEnd, BadEnd, LimitExceeded, Armor, NotIdentity, Failed}
use Rattle.age_v1.specs.Payload.{Seal, IsBadChunk, piece, last_piece, chunk_nonce, middle_seals, payload, chunk, OpensAsMiddle, OpensAsLast, LastIsNoMiddle, plain_len}

-- ---- pieces

pub piece-bytes : (i : ℕ) (plain : List ℕ) → AreBytes plain → AreBytes (piece i plain)
piece-bytes i plain h = cut-bytes 65536 i plain h

pub length-full_piece : (i : ℕ) (plain : List ℕ) → 65536 * i + 65536 ≤ length plain → length (piece i plain) ≡ 65536
length-full_piece i plain h = omega (arith, length-cut 65536 i plain)

pub length-last_piece : (plain : List ℕ) → length (piece (last_piece (length plain)) plain) + 65536 * last_piece (length plain) ≡ length plain
length-last_piece plain = omega (arith, length-cut 65536 (last_piece (length plain)) plain)

joined_is : (plain : List ℕ) (n : ℕ) → joined_pieces plain n ≡ take (65536 * n) plain
joined_is plain zero = refl
joined_is plain (suc n) = rw (joined_is plain n) (sym (cut_more 65536 n plain))

pub are_pieces : (plain : List ℕ) → ArePieces plain
are_pieces plain =
    let last = last_piece (length plain) in
    record {
      whole = joined_is plain (last + 1) ∙ take_all (65536 * (last + 1)) plain (omega arith);
      full = λ i l. length-full_piece i plain (omega arith);
      last = omega (arith, length-cut 65536 last plain);
      some = λ l. omega (arith, length-last_piece plain);
    }

-- the length that a payload of n bytes has
plain_len_is : (n : ℕ) → plain_len (n + 16 * (last_piece n + 1)) ≡ Some n
unfolding plain_len
plain_len_is n =
    let j = last_piece n in
    let all = n + 16 * (j + 1) in
    let last : (all - 1) / 65552 ≡ j = omega arith in
    let back : all - 16 * (j + 1) ≡ n = omega arith in
    let enough : 16 ≤ all - 65552 * j = omega arith in
    rw (last, back, le-leb 16 (all - 65552 * j) enough)
    (⊎_elim
    (λ (one : j < 1). let zero : j ≡ 0 = omega arith in rw zero refl)
    (λ (more : 1 ≤ j). let longer : 16 < all - 65552 * j = omega arith in rw (lt-ltb 16 (all - 65552 * j) longer, or-true) refl)
    (cases_lt j 1))

module _ (seal_of : Seal) (opened : List ℕ → List ℕ → List ℕ → Option (List ℕ)) (law : IsCipher seal_of opened) (key : List ℕ)
    (k : AreBytesOf 32 key) where
  -- a cipher has one plaintext for a seal
  pub seal-one : (n p q : List ℕ) → AreBytesOf 12 n → AreBytes p → AreBytes q → seal_of key n p ≡ seal_of key n q → p ≡ q
  seal-one n p q b pb qb e =
      let s = law.seal_is_longer key n p k b pb in
      let one = (law.opens_exactly key n (seal_of key n p) p k b s.bytes).1 (pb, refl) in
      let other = (law.opens_exactly key n (seal_of key n p) q k b s.bytes).1 (qb, e) in
      cc (one, other)

  pub length-seal : (i : ℕ) (is_last : Bool) (plain : List ℕ) → AreBytes plain
      → length (seal_of key (chunk_nonce i is_last) plain) ≡ length plain + 16
  length-seal i is_last plain h = (law.seal_is_longer key (chunk_nonce i is_last) plain k (nonce-bytes i is_last) h).len

  -- ---- the seals before the last

  pub middle_seals-front : (n : ℕ) (front rest : List ℕ) → 65536 * n ≤ length front
      → middle_seals seal_of key (front ++ rest) n ≡ middle_seals seal_of key front n
  middle_seals-front zero front rest h = refl
  middle_seals-front (suc n) front rest h = rw (middle_seals-front n front rest (omega arith), cut-front 65536 n front rest (omega arith)) refl

  pub length-middle_seals : (n : ℕ) (plain : List ℕ) → AreBytes plain → 65536 * n ≤ length plain
      → length (middle_seals seal_of key plain n) ≡ 65552 * n
  length-middle_seals zero plain b h = refl
  length-middle_seals (suc n) plain b h =
      let before = length-middle_seals n plain b (omega arith) in
      let last = length-seal n false (piece n plain) (piece-bytes n plain b) in
      let full = length-full_piece n plain (omega arith) in
      omega (arith, length-append (middle_seals seal_of key plain n) (seal_of key (chunk_nonce n false) (piece n plain)))

  pub chunk-middle : (n i : ℕ) (plain rest : List ℕ) → AreBytes plain → 65536 * n ≤ length plain → i < n
      → chunk i (middle_seals seal_of key plain n ++ rest) ≡ seal_of key (chunk_nonce i false) (piece i plain)
  chunk-middle zero i plain rest b h l = absurd (omega arith)
  chunk-middle (suc n) i plain rest b h l =
      let before = middle_seals seal_of key plain n in
      let seal = seal_of key (chunk_nonce n false) (piece n plain) in
      ⊎_elim
      (λ (lt : i < n). rw append_assoc (chunk-middle n i plain (seal ++ rest) b (omega arith) lt))
      (λ (ge : n ≤ i).
      let e : i ≡ n = omega arith in
      let full = length-full_piece n plain (omega arith) in
      let size = length-seal n false (piece n plain) (piece-bytes n plain b) in
      rw (append_assoc, e, cut_at 65552 n before seal rest (length-middle_seals n plain b (omega arith)) (omega arith)) refl)
      (cases_lt i n)

  -- ---- the whole payload

  pub length-payload : (plain : List ℕ) → AreBytes plain → length (payload seal_of key plain) ≡ length plain + 16 * (last_piece (length plain) + 1)
  unfolding payload
  length-payload plain b =
      let last = last_piece (length plain) in
      let front = length-middle_seals last plain b (omega arith) in
      let back = length-seal last true (piece last plain) (piece-bytes last plain b) in
      let rest = length-last_piece plain in
      omega (arith, length-append (middle_seals seal_of key plain last) (seal_of key (chunk_nonce last true) (piece last plain)))

  pub chunk-payload : (plain : List ℕ) (i : ℕ) → AreBytes plain → i < last_piece (length plain)
      → chunk i (payload seal_of key plain) ≡ seal_of key (chunk_nonce i false) (piece i plain)
  unfolding payload
  chunk-payload plain i b l =
      chunk-middle (last_piece (length plain)) i plain _ b (omega arith) l

  pub chunk-last : (plain : List ℕ) → AreBytes plain
      → chunk (last_piece (length plain)) (payload seal_of key plain)
      ≡ seal_of key (chunk_nonce (last_piece (length plain)) true) (piece (last_piece (length plain)) plain)
  unfolding payload
  chunk-last plain b =
      let last = last_piece (length plain) in
      let front = length-middle_seals last plain b (omega arith) in
      let back = length-seal last true (piece last plain) (piece-bytes last plain b) in
      let rest = length-last_piece plain in
      cut_end 65552 last (middle_seals seal_of key plain last) (seal_of key (chunk_nonce last true) (piece last plain)) front (omega arith)

  -- the plaintext of a payload of this length
  pub plain_len-payload : (plain : List ℕ) → AreBytes plain → plain_len (length (payload seal_of key plain)) ≡ Some (length plain)
  plain_len-payload plain b = rw (length-payload plain b) (plain_len_is (length plain))

  -- one payload has one plaintext
  pub payload-one : (p q : List ℕ) → AreBytes p → AreBytes q → payload seal_of key p ≡ payload seal_of key q → p ≡ q
  payload-one p q pb qb e =
      let last = last_piece (length p) in
      let same_length : length p ≡ length q = omega (arith, length-payload p pb, length-payload q qb, ap length e) in
      let same_last : last_piece (length q) ≡ last = rw (← same_length) refl in
      let last_one : piece last p ≡ piece last q =
      seal-one (chunk_nonce last true) (piece last p) (piece last q) (nonce-bytes last true) (piece-bytes last p pb) (piece-bytes last q qb)
      (sym (chunk-last p pb) ∙ ap (chunk last) e ∙ (rw same_last at (chunk-last q qb))) in
      let middle_one : (i : ℕ) → i < last → piece i p ≡ piece i q = λ i l.
      seal-one (chunk_nonce i false) (piece i p) (piece i q) (nonce-bytes i false) (piece-bytes i p pb) (piece-bytes i q qb)
      (sym (chunk-payload p i pb l) ∙ ap (chunk i) e ∙ chunk-payload q i qb (rw same_last l)) in
      same_list 65536 (suc last) p q (omega arith) (omega arith)
      (λ i l. ⊎_elim (middle_one i) (λ (ge : last ≤ i). let here : i ≡ last = omega arith in rw here last_one) (cases_lt i last))

  -- ---- what the chunks hold

  pub held-middle : (plain : List ℕ) (i : ℕ) → AreBytes plain → i < last_piece (length plain)
      → OpensAsMiddle seal_of key (payload seal_of key plain) i (piece i plain)
  held-middle plain i b l =
      let is = chunk-payload plain i b l in
      record {
        full = rw is (length-seal i false (piece i plain) (piece-bytes i plain b) ∙ ap (λ n. n + 16) (length-full_piece i plain (omega arith)));
        bytes = piece-bytes i plain b;
        is_seal = is;
      }

  pub held-last : (plain : List ℕ) → AreBytes plain → LastIsNoMiddle seal_of key plain
      → OpensAsLast seal_of key (payload seal_of key plain) (last_piece (length plain)) (piece (last_piece (length plain)) plain)
  unfolding LastIsNoMiddle
  held-last plain b apart =
      let last = last_piece (length plain) in
      let is = chunk-last plain b in
      record {
        not_middle = λ other held.
            let size = length-seal last true (piece last plain) (piece-bytes last plain b) in
            let full : length (piece last plain) ≡ 65536 = omega (arith, held.full, ap length is) in
            apart other full held.bytes (sym is ∙ held.is_seal);
        bytes = piece-bytes last plain b;
        is_seal = is;
      }

  pub middle_seals-bytes : (n : ℕ) (plain : List ℕ) → AreBytes plain → AreBytes (middle_seals seal_of key plain n)
  middle_seals-bytes zero plain b = All-nil (λ x. x < 2 ^ 8)
  middle_seals-bytes (suc n) plain b =
      All-append (λ x. x < 2 ^ 8) (middle_seals seal_of key plain n) (seal_of key (chunk_nonce n false) (piece n plain))
      (middle_seals-bytes n plain b)
      (law.seal_is_longer key (chunk_nonce n false) (piece n plain) k (nonce-bytes n false) (piece-bytes n plain b)).bytes

  pub payload-bytes : (plain : List ℕ) → AreBytes plain
      → AreBytesOf (length plain + 16 * (last_piece (length plain) + 1)) (payload seal_of key plain)
  unfolding payload
  payload-bytes plain b =
      let last = last_piece (length plain) in
      record {
        len = length-payload plain b;
        bytes = All-append (λ x. x < 2 ^ 8) (middle_seals seal_of key plain last) (seal_of key (chunk_nonce last true) (piece last plain))
            (middle_seals-bytes last plain b)
            (law.seal_is_longer key (chunk_nonce last true) (piece last plain) k (nonce-bytes last true) (piece-bytes last plain b)).bytes;
      }

  -- ---- honest payloads

  -- where the chunks before i are held as middle, i isn't past the last
  not_past : (plain : List ℕ) → AreBytes plain → LastIsNoMiddle seal_of key plain → (n : ℕ)
      → ((i : ℕ) → i < n → (other : List ℕ) × OpensAsMiddle seal_of key (payload seal_of key plain) i other) → n ≤ last_piece (length plain)
  not_past plain b apart n before =
      let last = last_piece (length plain) in
      ⊎_elim
      (λ (more : last < n). let it = before last more in absurd ((held-last plain b apart).not_middle it.0 it.1))
      (λ (le : n ≤ last). le)
      (cases_lt last n)

  -- a chunk that isn't held as middle, where those before it are, is the last
  is_last : (plain : List ℕ) → AreBytes plain → (n : ℕ) → n ≤ last_piece (length plain)
      → ((other : List ℕ) → OpensAsMiddle seal_of key (payload seal_of key plain) n other → ⊥) → n ≡ last_piece (length plain)
  is_last plain b n le no_middle =
      ⊎_elim
      (λ (less : n < last_piece (length plain)). absurd (no_middle (piece n plain) (held-middle plain n b less)))
      (λ (ge : last_piece (length plain) ≤ n). let e : n ≡ last_piece (length plain) = omega arith in e)
      (cases_lt n (last_piece (length plain)))

  stops : (plain : List ℕ) → AreBytes plain → LastIsNoMiddle seal_of key plain → (n : ℕ) (error : Error)
      → n ≤ last_piece (length plain) → StopsAt seal_of key (payload seal_of key plain) n error
      → (error ≡ OutOfMemory) ⊎ ((error ≡ TooLong) × (2 ^ 60 < length plain))
  stops plain b apart n Truncated le at_end = absurd (omega (arith, length-payload plain b))
  stops plain b apart n BadChunk le why =
      let e = is_last plain b n le why.1.not_middle in
      let bad = subst (λ i. IsBadChunk seal_of key (payload seal_of key plain) i) e why.1 in
      absurd (bad.not_last (piece (last_piece (length plain)) plain) (held-last plain b apart))
  stops plain b apart n AfterLast le why =
      let e = is_last plain b n le why.1.2.not_middle in
      absurd (omega (arith, length-payload plain b, why.0))
  stops plain b apart n LastChunkEmpty le why =
      let last = last_piece (length plain) in
      let e = is_last plain b n le why.1.not_middle in
      let held = subst (λ i. OpensAsLast seal_of key (payload seal_of key plain) i []) e why.1 in
      let none = seal-one (chunk_nonce last true) (piece last plain) [] (nonce-bytes last true) (piece-bytes last plain b) held.bytes
      (sym (chunk-last plain b) ∙ held.is_seal) in
      absurd (omega (arith, why.0, length-last_piece plain, ap length none))
  stops plain b apart n TooLong le why = inr (refl, omega (arith, why.0))
  stops plain b apart n OutOfMemory le why = inl refl
  stops plain b apart n (Device kind) le why = absurd why
  stops plain b apart n UnexpectedEof le why = absurd why
  stops plain b apart n WriteZero le why = absurd why
  stops plain b apart n BeforeStart le why = absurd why
  stops plain b apart n PastEnd le why = absurd why
  stops plain b apart n BadEnd le why = absurd why
  stops plain b apart n LimitExceeded le why = absurd why
  stops plain b apart n (Armor fault) le why = absurd why
  stops plain b apart n (NotIdentity line) le why = absurd why
  stops plain b apart n Failed le why = absurd why

  pub not_refused : (plain : List ℕ) → AreBytes plain → LastIsNoMiddle seal_of key plain → (error : Error)
      → RefusesFrontToEnd seal_of key (payload seal_of key plain) error → (error ≡ OutOfMemory) ⊎ ((error ≡ TooLong) × (2 ^ 60 < length plain))
  not_refused plain b apart error refusal =
      stops plain b apart refusal.place error (not_past plain b apart refusal.place refusal.before) refusal.stops

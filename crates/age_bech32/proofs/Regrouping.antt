-- Regrouping bits: what was written, and the bits held, are what was read.
use Rattle.std.proofs.Common.{◌≡◌, ℕ, ◌+◌, ◌-◌, ◌*◌, ◌/◌, ◌%◌, ◌^◌, ◌<◌, ◌≤◌, ◌≢◌, ◌==◌, Bool, true, false, MatchBool, List, [], ◌∷◌, ◌++◌, length, length-append, take, drop, get_or, refl, ap, sym, ◌∙◌, arith, All, subst}
use Rattle.std.proofs.lemmas.Nat.{pow-add, pow_pos, shr_split, shr_below, shr_high, mod_low, mod_below, shl_below, same_from_place}
use Rattle.std.proofs.Math.ListN.{set}
use Rattle.std.proofs.lemmas.Bool.{eqb-true, eqb-false}
use Rattle.std.proofs.lemmas.List.{take_more, take_more_set}
use Rattle.std.proofs.lemmas.List.Elements.{All-push, All-nil}
use Rattle.age_bech32.specs.Symbols.{value_of, values_of}
use Rattle.age_bech32.specs.Groups.{number_after, number, digits, byte_count, bytes_of_groups, IsRegrouped}
use Rattle.age_bech32.proofs.Numbers.{number-step, number-push, same_digits, digits-number, digits-fit, length-digits, number-digits, number-below}
use Rattle.age_bech32.proofs.Spelling.{values-size, value-at}
use Rattle.age_bech32.proofs.Lists.{nothing_left, whole as taken}

-- of the digits of `from` bits in `xs` those before `i` were read; `out` are those of `to` bits that were written, and `count` bits are held
pub record Regrouping (from to : ℕ) (xs out : List ℕ) (i count held : ℕ) : Type 0 where
  pub front : ℕ
  pub is : number to out * 2 ^ count + held ≡ front
  pub below : held < 2 ^ count
  pub fits : All (λ x. x < 2 ^ to) out
  pub left : number_after from front (drop i xs) ≡ number from xs
  pub size : to * length out + count ≡ from * i

pub begun : (from to : ℕ) (xs : List ℕ) → Regrouping from to xs [] 0 0 0
unfolding number_after
begun from to xs = record { front = 0; is = refl; below = omega arith; fits = All-nil (λ x. x < 2 ^ to); left = refl; size = omega arith }

-- the number before, with one digit more
more_is : (n p q held digit front : ℕ) → n * p + held ≡ front → n * (p * q) + (held * q + digit) ≡ front * q + digit
more_is n p q held digit front e = omega (arith, ap (λ x. x * q) e)

more_below : (p q held digit : ℕ) → held < p → digit < q → held * q + digit < p * q
more_below p q held digit h d = let m : (held + 1) * q ≤ p * q = grind arith in omega arith

pub more : (from to : ℕ) (xs out : List ℕ) (i count held : ℕ) → i < length xs → get_or xs i 0 < 2 ^ from → Regrouping from to xs out i count held
    → Regrouping from to xs out (i + 1) (count + from) (held * 2 ^ from + get_or xs i 0)
more from to xs out i count held lt fits r = record {
  front = r.front * 2 ^ from + get_or xs i 0;
  is = rw (pow-add 2 count from) (more_is (number to out) (2 ^ count) (2 ^ from) held (get_or xs i 0) r.front r.is);
  below = rw (pow-add 2 count from) (more_below (2 ^ count) (2 ^ from) held (get_or xs i 0) r.below fits);
  fits = r.fits;
  left = number-step from r.front xs i lt ∙ r.left;
  size = omega (arith, r.size);
}

-- the number before, with the digit of the bits held
given_is : (n p q quotient rest held front : ℕ) → quotient * p + rest ≡ held → n * (p * q) + held ≡ front → (n * q + quotient) * p + rest ≡ front
given_is n p q quotient rest held front s e = omega arith

pub given : (from to : ℕ) (xs out : List ℕ) (i full count held : ℕ) → full ≡ count + to → Regrouping from to xs out i full held
    → Regrouping from to xs (out ++ (held / 2 ^ count) ∷ []) i count (held % 2 ^ count)
given from to xs out i full count held is r =
    let is' : number to out * 2 ^ (count + to) + held ≡ r.front = subst (λ k. number to out * 2 ^ k + held ≡ r.front) is r.is in
    let below' : held < 2 ^ (to + count) = subst (λ k. held < 2 ^ k) (let e : full ≡ to + count = omega arith in e) r.below in
    record {
      front = r.front;
      is = rw (number-push to 0 out (held / 2 ^ count))
          (given_is (number to out) (2 ^ count) (2 ^ to) (held / 2 ^ count) (held % 2 ^ count) held r.front (shr_split held count)
          (rw (pow-add 2 count to) at is'));
      below = mod_below held (2 ^ count) (pow_pos count);
      fits = All-push (λ x. x < 2 ^ to) out (held / 2 ^ count) r.fits (shr_below held to count below');
      left = r.left;
      size = rw (length-append) (omega (arith, r.size));
    }

-- what was joined, and pushed
pub joined_state : (from to : ℕ) (xs out : List ℕ) (i count held joined : ℕ) → i < length xs → get_or xs i 0 < 2 ^ from
    → Regrouping from to xs out i count held
    → joined ≡ held * 2 ^ from + get_or xs i 0 → Regrouping from to xs out (i + 1) (count + from) joined
joined_state from to xs out i count held joined lt fits r e =
    subst (λ h. Regrouping from to xs out (i + 1) (count + from) h) (sym e) (more from to xs out i count held lt fits r)

-- the value of a symbol was joined
pub joined_symbol : (from to : ℕ) (symbols out : List ℕ) (i count held joined value : ℕ) → i < length symbols
    → All (λ b. value_of b < 2 ^ from) symbols
    → value ≡ value_of (get_or symbols i 0) → Regrouping from to (values_of symbols) out i count held → joined ≡ held * 2 ^ from + value
    → Regrouping from to (values_of symbols) out (i + 1) (count + from) joined
joined_symbol from to symbols out i count held joined value lt are is r e =
    let at : get_or (values_of symbols) i 0 ≡ value_of (get_or symbols i 0) = value-at symbols i lt in
    joined_state from to (values_of symbols) out i count held joined (subst (λ n. i < n) (sym (values-size symbols)) lt)
    (subst (λ v. v < 2 ^ from) (sym at) (are i 0 lt)) r (e ∙ ap (λ v. held * 2 ^ from + v) (is ∙ sym at))

pub given_fits : (from to : ℕ) (xs out : List ℕ) (i full count held : ℕ) → full ≡ count + to → Regrouping from to xs out i full held
    → held / 2 ^ count < 2 ^ to
given_fits from to xs out i full count held is r =
    let e : full ≡ to + count = omega arith in
    shr_below held to count (subst (λ k. held < 2 ^ k) e r.below)

-- the same in places that are written one after another
pub gave : (from to : ℕ) (xs places new : List ℕ) (at i full count held rest : ℕ) → full ≡ count + to → at < length places
    → new ≡ set places at (held / 2 ^ count)
    → rest ≡ held % 2 ^ count → Regrouping from to xs (take at places) i full held → Regrouping from to xs (take (at + 1) new) i count rest
gave from to xs places new at i full count held rest is lt e f r =
    let out : take (at + 1) new ≡ take at places ++ (held / 2 ^ count) ∷ [] = ap (take (at + 1)) e ∙ take_more_set places at (held / 2 ^ count) lt in
    subst (λ o. Regrouping from to xs o i count rest) (sym out)
    (subst (Regrouping from to xs (take at places ++ (held / 2 ^ count) ∷ []) i count) (sym f)
    (given from to xs (take at places) i full count held is r))

pub placed : (from to : ℕ) (xs places places' : List ℕ) (at at' i count count' held held' : ℕ) → places' ≡ places → at' ≡ at → count' ≡ count
    → held' ≡ held
    → Regrouping from to xs (take at places) i count held → Regrouping from to xs (take at' places') i count' held'
placed from to xs places places' at at' i count count' held held' e f g h r =
    let out : take at' places' ≡ take at places = ap (take at') e ∙ ap (λ k. take k places) f in
    subst (λ o. Regrouping from to xs o i count' held') (sym out) (subst (λ k. Regrouping from to xs (take at places) i k held') (sym g)
    (subst (Regrouping from to xs (take at places) i count) (sym h) r))

add_zero : (n : ℕ) → n + 0 ≡ n
add_zero n = omega arith

filled_is : (n p q five held whole : ℕ) → five ≡ p * q → n * p + held ≡ whole → n * five + held * q ≡ whole * q
filled_is n p q five held whole e f = omega (arith, ap (λ x. n * x) e, ap (λ x. x * q) f)

once : (n p held whole : ℕ) → p ≡ 1 → held ≡ 0 → n * p + held ≡ whole → n ≡ whole * 1
once n p held whole e f g = omega (arith, ap (λ x. n * x) e)

-- at the end
ended : (from to : ℕ) (xs out : List ℕ) (i count held : ℕ) → length xs ≤ i → Regrouping from to xs out i count held
    → number to out * 2 ^ count + held ≡ number from xs
unfolding number_after
ended from to xs out i count held end r = r.is ∙ (rw (nothing_left xs i end) at r.left)

left_over : (n at count : ℕ) → count < 8 → 8 * at + count ≡ 5 * n → (at ≡ byte_count n) × (count ≡ 5 * n % 8)
left_over n at count few e = (omega arith, omega arith)

pub length-bytes : (groups : List ℕ) → length (bytes_of_groups groups) ≡ byte_count (length groups)
unfolding bytes_of_groups
length-bytes groups = length-digits 8 (byte_count (length groups)) (number 5 groups / 2 ^ (5 * length groups % 8))

-- the bytes that were written are those of the groups
pub bytes-same : (groups out : List ℕ) (i count held : ℕ) → length groups ≤ i → i ≤ length groups → count < 8 → Regrouping 5 8 groups out i count held
    → out ≡ bytes_of_groups groups
unfolding bytes_of_groups
bytes-same groups out i count held end within few r =
    let all : i ≡ length groups = omega arith in
    let sizes : (length out ≡ byte_count (length groups)) × (count ≡ 5 * length groups % 8) =
    left_over (length groups) (length out) count few (r.size ∙ ap (λ k. 5 * k) all) in
    let n : number 8 out ≡ number 5 groups / 2 ^ count =
    sym (shr_high (number 8 out) count held r.below) ∙ ap (λ k. k / 2 ^ count) (ended 5 8 groups out i count held end r) in
    sym (digits-number 8 out r.fits) ∙ ap (λ k. digits 8 k (number 8 out)) sizes.0 ∙ ap (digits 8 (byte_count (length groups))) n
    ∙ ap (λ k. digits 8 (byte_count (length groups)) (number 5 groups / 2 ^ k)) sizes.1

split_of : (n : ℕ) → 5 * n ≡ 8 * byte_count n + 5 * n % 8
split_of n = omega arith

no_rest : (n u : ℕ) → n % 2 ^ u ≡ 0 → n ≡ n / 2 ^ u * 2 ^ u
no_rest n u e = let s : n / 2 ^ u * 2 ^ u + n % 2 ^ u ≡ n = shr_split n u in omega arith

-- groups whose bits at the end are few and zero have bytes
pub bytes-are : (groups : List ℕ) → All (λ x. x < 2 ^ 5) groups → 5 * length groups % 8 ≤ 4 → number 5 groups % 2 ^ (5 * length groups % 8) ≡ 0
    → IsRegrouped (bytes_of_groups groups) groups
unfolding bytes_of_groups
bytes-are groups fives few none =
    let unused = 5 * length groups % 8 in
    let count = byte_count (length groups) in
    let n = number 5 groups / 2 ^ unused in
    let below : n < 2 ^ (8 * count) = shr_below (number 5 groups) (8 * count) unused
    (subst (λ k. number 5 groups < 2 ^ k) (split_of (length groups)) (number-below 5 groups fives)) in
    record {
      unused = unused;
      few = few;
      eights = digits-fit 8 count n;
      fives = fives;
      size = split_of (length groups) ∙ ap (λ k. 8 * k + unused) (sym (length-digits 8 count n));
      bits = no_rest (number 5 groups) unused none ∙ ap (λ k. k * 2 ^ unused) (sym (number-digits 8 count n below));
    }

-- what bytes leave unused in their groups
pub unused-is : (bytes groups : List ℕ) → IsRegrouped bytes groups → (5 * length groups % 8 ≤ 4) × (number 5 groups % 2 ^ (5 * length groups % 8) ≡ 0)
unused-is bytes groups g =
    let size : 5 * length groups ≡ 8 * length bytes + g.unused = g.size in
    let few : g.unused ≤ 4 = g.few in
    let same : g.unused ≡ 5 * length groups % 8 = omega arith in
    let none : number 5 groups % 2 ^ g.unused ≡ 0 =
    ap (λ n. n % 2 ^ g.unused) (g.bits ∙ sym (add_zero (number 8 bytes * 2 ^ g.unused))) ∙ mod_low (number 8 bytes) g.unused 0 (pow_pos g.unused) in
    (omega arith, subst (λ u. number 5 groups % 2 ^ u ≡ 0) same none)

parted : (n five q p d r last : ℕ) → five ≡ q * p → d * p + r ≡ last → n * five + last ≡ (n * q + d) * p + r
parted n five q p d r last e f = omega (arith, ap (λ x. n * x) e)

-- the unused bits are those of the last group
last_bits_of : (front : List ℕ) (last u : ℕ) → u ≤ 4 → number 5 (front ++ last ∷ []) % 2 ^ u ≡ last % 2 ^ u
last_bits_of front last u few =
    let five : 5 - u + u ≡ 5 = omega arith in
    let pow : 2 ^ 5 ≡ 2 ^ (5 - u) * 2 ^ u = sym (ap (λ k. 2 ^ k) five) ∙ pow-add 2 (5 - u) u in
    let n = number 5 front in
    ap (λ x. x % 2 ^ u) (number-push 5 0 front last
    ∙ parted n (2 ^ 5) (2 ^ (5 - u)) (2 ^ u) (last / 2 ^ u) (last % 2 ^ u) last pow (shr_split last u))
    ∙ mod_low (n * 2 ^ (5 - u) + last / 2 ^ u) u (last % 2 ^ u) (mod_below last (2 ^ u) (pow_pos u))

last_unused : (groups : List ℕ) (mid u : ℕ) → mid + 1 ≡ length groups → u ≤ 4 → number 5 groups % 2 ^ u ≡ get_or groups mid 0 % 2 ^ u
last_unused groups mid u is few =
    let parts : groups ≡ take mid groups ++ get_or groups mid 0 ∷ [] =
    sym (taken groups (mid + 1) (omega arith)) ∙ take_more groups mid 0 (omega arith) in
    ap (λ g. number 5 g % 2 ^ u) parts ∙ last_bits_of (take mid groups) (get_or groups mid 0) u few

zero_mod : (u : ℕ) → 0 % 2 ^ u ≡ 0
zero_mod u = let e : 0 ≡ 0 * 2 ^ u + 0 = omega arith in ap (λ n. n % 2 ^ u) e ∙ mod_low 0 u 0 (pow_pos u)

pub no_groups_at_all : (groups : List ℕ) → length groups ≡ 0 → All (λ x. x < 2 ^ 5) groups → IsRegrouped (bytes_of_groups groups) groups
unfolding number_after
no_groups_at_all [] none fives = bytes-are [] fives (omega arith) (zero_mod (5 * 0 % 8))
no_groups_at_all (x ∷ groups) none fives = absurd (omega arith)

pub many_unused : (groups : List ℕ) → 4 < 5 * length groups % 8 → (bytes : List ℕ) → IsRegrouped bytes groups → ⊥
many_unused groups many bytes g = let few = (unused-is bytes groups g).0 in omega arith

by_last : (b : Bool) (groups : List ℕ) → All (λ x. x < 2 ^ 5) groups → 5 * length groups % 8 ≤ 4
    → (b ≡ true → number 5 groups % 2 ^ (5 * length groups % 8) ≡ 0) → (b ≡ false → number 5 groups % 2 ^ (5 * length groups % 8) ≢ 0)
    → MatchBool b (IsRegrouped (bytes_of_groups groups) groups) ((bytes : List ℕ) → IsRegrouped bytes groups → ⊥)
by_last true groups fives few nothing some = bytes-are groups fives few (nothing refl)
by_last false groups fives few nothing some = λ bytes g. some refl (unused-is bytes groups g).1

-- what the last group says
pub judged : (groups : List ℕ) (mid u rest : ℕ) → All (λ x. x < 2 ^ 5) groups → mid + 1 ≡ length groups → u ≡ 5 * length groups % 8 → u ≤ 4
    → rest ≡ get_or groups mid 0 % 2 ^ u → MatchBool (rest == 0) (IsRegrouped (bytes_of_groups groups) groups)
    ((bytes : List ℕ) → IsRegrouped bytes groups → ⊥)
judged groups mid u rest fives is unused few last =
    let same : number 5 groups % 2 ^ (5 * length groups % 8) ≡ rest =
    ap (λ k. number 5 groups % 2 ^ k) (sym unused) ∙ last_unused groups mid u is few ∙ sym last in
    by_last (rest == 0) groups fives (omega arith) (λ e. same ∙ eqb-true rest 0 e) (λ e z. eqb-false rest 0 e (sym same ∙ z))

module _ (bytes out : List ℕ) (i count held : ℕ) (end : length bytes ≤ i) (within : i ≤ length bytes)
    (r : Regrouping 8 5 bytes out i count held) where
  pub filled : 0 < count → count < 5 → All (λ x. x < 2 ^ 8) bytes → (last : ℕ) → last ≡ held * 2 ^ (5 - count)
      → (last < 2 ^ 5) × IsRegrouped bytes (out ++ last ∷ [])
  filled some few all last is =
      let mine : 5 * length out + count ≡ 8 * i = r.size in
      let unused = 5 - count in
      let five : count + (5 - count) ≡ 5 = omega arith in
      let pow : 2 ^ 5 ≡ 2 ^ count * 2 ^ (5 - count) = sym (ap (λ k. 2 ^ k) five) ∙ pow-add 2 count (5 - count) in
      let shifted : held * 2 ^ (5 - count) < 2 ^ (count + (5 - count)) = shl_below held count (5 - count) r.below in
      let fits : last < 2 ^ 5 = subst (λ x. x < 2 ^ 5) (sym is) (subst (λ k. held * 2 ^ (5 - count) < 2 ^ k) five shifted) in (
        fits,
        record {
          unused = 5 - count;
          few = omega arith;
          eights = all;
          fives = All-push (λ x. x < 2 ^ 5) out last r.fits fits;
          size = rw (length-append) (omega arith);
          bits = number-push 5 0 out last ∙ ap (λ x. number 5 out * 2 ^ 5 + x) is
              ∙ filled_is (number 5 out) (2 ^ count) (2 ^ (5 - count)) (2 ^ 5) held (number 8 bytes) pow (ended 8 5 bytes out i count held end r);
        },
      )

  pub whole : count ≡ 0 → All (λ x. x < 2 ^ 8) bytes → IsRegrouped bytes out
  whole none all =
      let mine : 5 * length out + count ≡ 8 * i = r.size in
      let below : held < 2 ^ 0 = subst (λ k. held < 2 ^ k) none r.below in
      let nothing : held ≡ 0 = omega arith in
      record {
        unused = 0;
        few = omega arith;
        eights = all;
        fives = r.fits;
        size = omega arith;
        bits = once (number 5 out) (2 ^ count) held (number 8 bytes) (ap (λ k. 2 ^ k) none) nothing (ended 8 5 bytes out i count held end r);
      }

small : (n : ℕ) → n < 2 ^ 5 → (n % 2 ^ 32 < 2 ^ 5) × (n % 2 ^ 32 ≡ n)
small n h = (omega arith, omega arith)

-- the last digit, as it is computed
pub last_is : (bytes out : List ℕ) (i count held : ℕ) → count < 5 → Regrouping 8 5 bytes out i count held
    → (held * 2 ^ (5 - count) % 2 ^ 32 < 2 ^ 5) × (held * 2 ^ (5 - count) % 2 ^ 32 ≡ held * 2 ^ (5 - count))
last_is bytes out i count held few r =
    let five : count + (5 - count) ≡ 5 = omega arith in
    let shifted : held * 2 ^ (5 - count) < 2 ^ (count + (5 - count)) = shl_below held count (5 - count) r.below in
    let fits : held * 2 ^ (5 - count) < 2 ^ 5 = subst (λ k. held * 2 ^ (5 - count) < 2 ^ k) five shifted in
    small (held * 2 ^ (5 - count)) fits

-- groups have one list of bytes
pub same_bytes : (groups a b : List ℕ) → IsRegrouped a groups → IsRegrouped b groups → a ≡ b
same_bytes groups a b g h =
    let sa : 5 * length groups ≡ 8 * length a + g.unused = g.size in
    let sb : 5 * length groups ≡ 8 * length b + h.unused = h.size in
    let fa : g.unused ≤ 4 = g.few in
    let fb : h.unused ≤ 4 = h.few in
    let unused : g.unused ≡ h.unused = omega arith in
    let sizes : length a ≡ length b = omega arith in
    let bits : number 8 a * 2 ^ h.unused + 0 ≡ number 8 b * 2 ^ h.unused + 0 =
    add_zero (number 8 a * 2 ^ h.unused) ∙ ap (λ u. number 8 a * 2 ^ u) (sym unused) ∙ sym g.bits ∙ h.bits
    ∙ sym (add_zero (number 8 b * 2 ^ h.unused)) in
    let same = same_from_place (number 8 a) 0 (number 8 b) 0 (2 ^ h.unused) (pow_pos h.unused) (pow_pos h.unused) bits in
    (same_digits 8 0 0 a b sizes g.eights h.eights same.0).1

-- bytes have one list of groups
pub same_groups : (bytes a b : List ℕ) → IsRegrouped bytes a → IsRegrouped bytes b → a ≡ b
same_groups bytes a b g h =
    let sa : 5 * length a ≡ 8 * length bytes + g.unused = g.size in
    let sb : 5 * length b ≡ 8 * length bytes + h.unused = h.size in
    let fa : g.unused ≤ 4 = g.few in
    let fb : h.unused ≤ 4 = h.few in
    let unused : g.unused ≡ h.unused = omega arith in
    let sizes : length a ≡ length b = omega arith in
    (same_digits 5 0 0 a b sizes g.fives h.fives (g.bits ∙ ap (λ u. number 8 bytes * 2 ^ u) unused ∙ sym h.bits)).1

-- Where seeks in a payload lead.
use Rattle.std.specs.Prelude.{◌≡◌, ℕ, ◌+◌, ◌-◌, ◌*◌, ◌^◌, ◌<◌, ◌≤◌, nat_le, if◌then◌else◌, Option, Some, None, Result, Ok, Err, Bool, true, false, List, length, drop}
use Rattle.std.proofs.Common.{sym, ap, ◌∙◌, arith, length-drop, zero-add}
use Rattle.std.proofs.lemmas.List.Elements.{All-drop, All-take}
use Rattle.std.proofs.lemmas.Bool.{le-leb}
use Rattle.age_error.specs.Bytes.{AreBytes}
use Rattle.age_error.specs.Refusals.{IsInterruption}
use Rattle.age_error.specs.declared.io.Error.{Error}
use Rattle.age_error.specs.declared.io.Error.TheVariants.{TooLong, PastEnd, BeforeStart}
use Rattle.age_io.specs.Stretch.{Stretch, from_place}
use Rattle.age_io.specs.Cursor.{sought, moved_to, target, place_at, MayLead, IsOutside}
use Rattle.age_error.specs.declared.io.SeekFrom.{SeekFrom}
use Rattle.age_error.specs.declared.io.SeekFrom.TheVariants.{Start, End, Current}
use Rattle.age_v1.specs.Payload.{final_chunk, plain_len, chunk_nonce}
use Rattle.age_v1.proofs.OpenedTexts.{Shorter}
use Rattle.age_v1.specs.DeliveredPayload.{payload_delivers, text_at}
use Rattle.age_v1.proofs.WellEndedPayloads.{well-single, well-length, onward, accepted}
use Rattle.age_v1.specs.PayloadTargets.{in_length, below_start, IsToEnd}
use Rattle.age_stream.proofs.Inner.{moved-by}
use Rattle.age_v1.proofs.TextLengths.{length-text, few-final, some-final, plain-whole, plain-most, last-limit}
use Rattle.age_v1.proofs.PayloadLengths.{plain_len-last}

ok-by : (b : Bool) (r : Result ℕ Error) (n : ℕ) → (if b then r else Err TooLong) ≡ Ok n → r ≡ Ok n
ok-by true r n is = is
ok-by false r n is = cc

err-by : (b : Bool) (r : Result ℕ Error) (e : Error) → b ≡ true → (if b then r else Err TooLong) ≡ Err e → r ≡ Err e
err-by true r e holds is = is
err-by false r e holds is = cc

abbrev error_of : Result ℕ Error → Error
error_of (Ok n) = TooLong
error_of (Err e) = e

is-refusal : (a e : Error) → IsOutside a → a ≡ e → IsOutside e
is-refusal a e r same = rw (← same) r

refuses-by : (b : Bool) (n : ℕ) (e : Error) → ◌≡◌ {A = Result ℕ Error} (if b then Ok n else Err PastEnd) (Err e) → IsOutside e
refuses-by true n e is = cc
refuses-by false n e is = is-refusal PastEnd e tt (ap error_of is)

refuses-to : (o : Option ℕ) (len : ℕ) (e : Error) → moved_to o len ≡ Err e → IsOutside e
refuses-to None len e is = is-refusal BeforeStart e tt (ap error_of is)
refuses-to (Some n) len e is = refuses-by (nat_le n len) n e is

-- a cursor refuses targets outside of its content alone
pub sought-refuses : (to : SeekFrom) (place len : ℕ) (e : Error) → sought to place len ≡ Err e → IsOutside e
sought-refuses to place len e is = refuses-to (target to place len) len e is

pub not-both : (e : Error) → IsOutside e → IsInterruption e → ⊥
not-both BeforeStart r i = i
not-both PastEnd r i = i
not-both _ r i = absurd r

moved-some : (o : Option ℕ) (len n : ℕ) → moved_to o len ≡ Ok n → o ≡ Some n
moved-some None len n is = cc
moved-some (Some m) len n is = ap (λ k. Some k) (sym (moved-by (nat_le m len) m n is))

sought-leads : (to : SeekFrom) (place len n : ℕ) → sought to place len ≡ Ok n → MayLead to place n
sought-leads (Start m) place len n is = moved-by (nat_le m len) m n is
sought-leads (End d) place len n is = tt
sought-leads (Current d) place len n is = moved-some (place_at place d) len n is

-- a seek leads where its target says
pub in_length-leads : (o : Option ℕ) (to : SeekFrom) (place n : ℕ) → in_length o to place ≡ Ok n → MayLead to place n
in_length-leads None to place n is = cc
in_length-leads (Some len) to place n is = sought-leads to place len n (ok-by (nat_le len (2 ^ 60)) (sought to place len) n is)

-- ---- the end

pub is-end : (to : SeekFrom) (place size goal len : ℕ) → plain_len size ≡ Some len → below_start to place ≡ false
    → in_length (plain_len size) to place ≡ Ok goal → goal ≡ len → IsToEnd size to place
is-end to place size goal len plain above ok same = record {
  len = len;
  plain = plain;
  target = rw (above, ← same) ok;
}

abbrev number_of : Result ℕ Error → ℕ
number_of (Ok n) = n
number_of (Err e) = 0

abbrev some_of : Option ℕ → ℕ
some_of (Some n) = n
some_of None = 0

pub not-end : (to : SeekFrom) (place size goal len : ℕ) → plain_len size ≡ Some len → below_start to place ≡ false
    → in_length (plain_len size) to place ≡ Ok goal → (goal ≡ len → ⊥) → IsToEnd size to place → ⊥
not-end to place size goal len plain above ok apart end =
    let there : in_length (plain_len size) to place ≡ Ok end.len = rw above at end.target in
    apart (ap number_of (sym ok ∙ there) ∙ ap some_of (sym end.plain ∙ plain))

-- ---- a payload that ends well

module _ (opened : List ℕ → List ℕ → List ℕ → Option (List ℕ)) (key : List ℕ) (law : Shorter opened key) (payload : Stretch)
    (bytes : AreBytes payload.bytes)
    (well : (payload_delivers opened key 0 payload).ends_well ≡ true) where
  plain-well : plain_len (length payload.bytes) ≡ Some (length (payload_delivers opened key 0 payload).bytes)
  plain-well =
      let h = well-length opened key law payload bytes well in
      let n = final_chunk (length payload.bytes) in
      let less : length payload.bytes - 16 * (n + 1) ≡ length (payload_delivers opened key 0 payload).bytes = omega (arith, h.less) in
      (plain_len-last (length payload.bytes) n (record { fits = omega arith; enough = h.enough; more = λ some. h.more (omega (arith, some)) })).1
      ∙ ap (λ k. Some k) less

  last-single : let number = final_chunk (length payload.bytes) in
      (plain : List ℕ) × (opened key (chunk_nonce number true) (text_at number payload) ≡ Some plain) × (length plain ≡ 0 → number ≡ 0)
      × (0 < length plain → number < 2 ^ 44)
  last-single =
      let number = final_chunk (length payload.bytes) in
      let h = well-length opened key law payload bytes well in
      let here = from_place (65552 * number) payload in
      let on = rw zero-add at (onward opened key law number 0 payload bytes well (λ some. omega (arith, h.enough))) in
      let here_well : (payload_delivers opened key number here).ends_well ≡ true = ap (λ d. d.ends_well) on ∙ well in
      let one = well-single opened key number here here_well (omega (arith, length-drop (65552 * number) payload.bytes)) in
      let a = accepted opened key number (text_at number payload) one.0 true one.1 in
      (one.0, a.opens, a.first, a.limit)

  -- the last chunk of it opens as the last
  pub last-opens : opened key (chunk_nonce (final_chunk (length payload.bytes)) true) (text_at (final_chunk (length payload.bytes)) payload)
      ≡ None → ⊥
  last-opens none = apart (sym none ∙ last-single.1)
    where
      apart : {p : List ℕ} → ◌≡◌ {A = Option (List ℕ)} None (Some p) → ⊥
      apart is = cc

  limit-well : length (payload_delivers opened key 0 payload).bytes ≤ 2 ^ 60
  limit-well =
      let number = final_chunk (length payload.bytes) in
      let h = well-length opened key law payload bytes well in
      let one = last-single in
      let text = text_at number payload in
      let are : AreBytes text = All-take (λ x. x < 2 ^ 8) 65552 (drop (65552 * number) payload.bytes)
      (All-drop (λ x. x < 2 ^ 8) (65552 * number) payload.bytes bytes) in
      let short = law number true text one.0 are one.1 in
      let long = length-text 65552 (65552 * number) payload.bytes in
      let len = length payload.bytes in
      let whole = plain-whole number (length text) (length one.0) len short long (few-final len) (some-final len number h.enough) in
      last-limit number (length one.0) len whole (length (payload_delivers opened key 0 payload).bytes) h.less
      (plain-most number (length text) (length one.0) len short long) one.2 one.3

  -- what is sought in the payload is sought in the plaintext
  pub ok-well : (to : SeekFrom) (place n : ℕ) → in_length (plain_len (length payload.bytes)) to place ≡ Ok n
      → sought to place (length (payload_delivers opened key 0 payload).bytes) ≡ Ok n
  ok-well to place n is = ok-by (nat_le (length (payload_delivers opened key 0 payload).bytes) (2 ^ 60)) _ n (rw plain-well at is)

  pub err-well : (to : SeekFrom) (place : ℕ) (e : Error) → in_length (plain_len (length payload.bytes)) to place ≡ Err e
      → sought to place (length (payload_delivers opened key 0 payload).bytes) ≡ Err e
  err-well to place e is =
      err-by (nat_le (length (payload_delivers opened key 0 payload).bytes) (2 ^ 60)) _ e
      (le-leb (length (payload_delivers opened key 0 payload).bytes) (2 ^ 60) limit-well) (rw plain-well at is)

-- What is written of a key is read as that key.
use Rattle.std.specs.Prelude.{◌≡◌, ℕ, ◌≤◌, ◌/◌, ◌%◌, ◌^◌, true, ◌&&◌, List, [], ◌∷◌, ◌++◌, map, nat_le, All, refl}
use Rattle.std.specs.Char.{to_ascii_lowercase}
use Rattle.std.specs.List.{list_all}
use Rattle.std.proofs.Common.{◌∙◌, inr, arith, ap, sym, subst}
use Rattle.std.proofs.lemmas.Bool.{and_parts, leb-true}
use Rattle.std.proofs.lemmas.List.{map-append}
use Rattle.std.proofs.lemmas.List.Elements.{All-cons, All-nil}
use Rattle.age_bech32.specs.Bech32.{IsBech32, IsInCaseOf, IsPayload}
use Rattle.age_bech32.specs.Remainder.{expanded, remainder}
use Rattle.age_bech32.specs.Symbols.{lowered}
use Rattle.age_bech32.proofs.Cases.{told}
use Rattle.age_bech32.proofs.Payloads.{one_spelling}
use Rattle.age_bech32.specs.Refusals.{MayBeWritten}
use Rattle.age_bech32.specs.Written.{bech32_text}
use Rattle.age_bech32.proofs.Readings.{reading}
use Rattle.age_bech32.proofs.Written.{written}
use Rattle.age_keys.specs.KeyTexts.{KeyReadsBack}
use Rattle.age_v1.specs.X25519.{identity_prefix, recipient_prefix, IsKeyText}
use Rattle.age_keys.proofs.Printed.{may_be_written}
use Rattle.age_keys.proofs.RefusedTexts.{refused}

-- bytes that may stand in a prefix, tested one by one
tested : (bytes : List ℕ) → list_all (λ b. nat_le 33 b && nat_le b 126) bytes ≡ true → All (λ b. 33 ≤ b) bytes × All (λ b. b ≤ 126) bytes
tested [] h = (All-nil (λ b. 33 ≤ b), All-nil (λ b. b ≤ 126))
tested (x ∷ bytes) h =
    let (own, others) = and_parts (nat_le 33 x && nat_le x 126) (list_all (λ b. nat_le 33 b && nat_le b 126) bytes) h in
    let (low, high) = and_parts (nat_le 33 x) (nat_le x 126) own in
    let (more_low, more_high) = tested bytes others in
    (All-cons (λ b. 33 ≤ b) x bytes (leb-true 33 x low) more_low, All-cons (λ b. b ≤ 126) x bytes (leb-true x 126 high) more_high)

identity-may_be_written : MayBeWritten identity_prefix
identity-may_be_written =
    let (low, high) = tested identity_prefix refl in
    (record { some = omega arith; few = omega arith; low = low; high = high }, inr refl)

expanded-lowered : (one other : List ℕ) → lowered one ≡ lowered other → expanded one ≡ expanded other
unfolding expanded
expanded-lowered one other same = ap (λ l. map (λ byte. byte / 2 ^ 5) l ++ 0 ∷ map (λ byte. byte % 2 ^ 5) l) same

-- what follows a prefix follows it in the other case too
either_case : (one other rest bytes : List ℕ) → lowered one ≡ lowered other → IsPayload one rest bytes → IsPayload other rest bytes
either_case one other rest bytes same p = record {
  groups = p.groups;
  check = p.check;
  spelled = p.spelled;
  values = p.values;
  regrouped = p.regrouped;
  six = p.six;
  checked = subst (λ values. remainder (values ++ p.groups ++ p.check) ≡ 1) (expanded-lowered one other same) p.checked;
}

-- two texts of a key are the same in lower case
lowered_same : (prefix text other key : List ℕ) → IsKeyText prefix text key → IsBech32 other prefix key → lowered text ≡ lowered other
lowered_same prefix text other key is b =
    let a = is.reads in
    let rests : lowered a.rest ≡ lowered b.rest =
    one_spelling prefix a.rest b.rest key (either_case is.written prefix a.rest key is.same a.payload) b.payload in
    let parts : lowered (is.written ++ 49 ∷ a.rest) ≡ lowered (prefix ++ 49 ∷ b.rest) =
    map-append to_ascii_lowercase is.written (49 ∷ a.rest) ∙ ap (λ front. front ++ lowered (49 ∷ a.rest)) is.same
    ∙ ap (λ rest. lowered prefix ++ 49 ∷ rest) rests ∙ sym (map-append to_ascii_lowercase prefix (49 ∷ b.rest)) in
    ap lowered a.parts ∙ parts ∙ ap lowered (sym b.parts)

reads_back : (prefix : List ℕ) → MayBeWritten prefix → KeyReadsBack prefix
reads_back prefix may key bytes =
    let (reads, in_case) : IsBech32 (bech32_text prefix key) prefix key × IsInCaseOf prefix (bech32_text prefix key) =
    written prefix key may.0 may.1 bytes.bytes in
    let text : IsKeyText prefix (bech32_text prefix key) key = record { written = prefix; same = refl; reads = reads; size = bytes.len } in
    record {
      text = text;
      in_case = in_case;
      alone = λ other of_other. (reading (bech32_text prefix key) of_other.written prefix other key of_other.reads reads).1;
      printed = λ other is same.
          told other (bech32_text prefix key) is.reads.one_case reads.one_case same (lowered_same prefix other (bech32_text prefix key) key is reads);
      accepted = λ size_message message is. refused prefix size_message (bech32_text prefix key) message is key text;
    }

pub reads_identities : KeyReadsBack identity_prefix
reads_identities = reads_back identity_prefix identity-may_be_written

pub reads_recipients : KeyReadsBack recipient_prefix
reads_recipients = reads_back recipient_prefix may_be_written

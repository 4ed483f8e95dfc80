use Rattle.std.specs.Prelude.{◌≡◌, ◌≢◌, ℕ, Bool, true, false, List, [], Some, None, Ok, Err, length, bytes_eq, nat_eq, if◌then◌else◌, codes, refl}
use Rattle.std.proofs.Common.{◌∙◌, ap, inl, inr}
use Rattle.std.proofs.lemmas.Slice.Eq.{bytes_eq-Decides}
use Rattle.age.specs.DecryptErrors.{InvalidHeader}
use Rattle.age.specs.EncryptErrors.{OutOfMemory}
use Rattle.age.specs.Stanza.{StanzaValue}
use Rattle.age.specs.Recipients.{Wrapped}
use Rattle.age.specs.Identities.{UnwrapAnswer, Steady, FirstOf}
use Rattle.age.specs.Belonging.{BelongsTo}
use Rattle.age.specs.BelongingInTurn.{by_stanza}
use Rattle.age.proofs.Tags.{other_tag}
use Rattle.age.proofs.Outcomes.{same_value, no_refusal}
use Rattle.age_examples.specs.Own.{OwnWraps, OwnAsks, own_stanza, own_wrapped, own_unwrapped, has_other_tag}
use Rattle.age_examples.proofs.own.own_pair.Goals as goal

passed_by : (tag args body : Bool) (bytes : List ℕ) → tag ≢ true
    → ◌≡◌ {A = UnwrapAnswer} (if tag then (if args then (if body then Some (Ok bytes) else Some (Err InvalidHeader)) else Some
    (Err InvalidHeader)) else None) None
passed_by true args body bytes other = absurd (other refl)
passed_by false args body bytes other = refl

over_other : (s : StanzaValue) → s.tag ≢ codes "own" → own_unwrapped s ≡ None
over_other s other =
    passed_by (bytes_eq s.tag (codes "own")) (nat_eq (length s.args) 0) (nat_eq (length s.body) 16) s.body
    (λ same. other ((bytes_eq-Decides s.tag (codes "own")).0 same))

of_own : (key : List ℕ) → length key ≡ 16 → own_unwrapped (own_stanza key) ≡ Some (Ok key)
of_own key sixteen = rw sixteen refl

wraps_one : (file_key draws left : List ℕ) (wrapped : Wrapped) → OwnWraps file_key draws (Ok wrapped) left → wrapped ≡ own_wrapped file_key
wraps_one file_key draws left wrapped (inl made) = same_value wrapped (own_wrapped file_key) made.0
wraps_one file_key draws left wrapped (inr want) = no_refusal wrapped OutOfMemory want.0

module _ {R I : Type 0} where
  pair : (recipient : R) (identity : I) → BelongsTo (λ r. OwnWraps) (FirstOf (Steady (λ i. OwnAsks))) has_other_tag recipient identity
  pair recipient identity =
      by_stanza (Steady (λ i. OwnAsks)) (λ r. OwnWraps) has_other_tag recipient identity
      (λ s answer after strange asked. inl (asked.0 ∙ over_other s (other_tag s.tag (codes "own") strange), asked.1))
      (λ file_key wrapped sixteen wraps_so.
      let (draws, left, made) = wraps_so in
      let is : wrapped ≡ own_wrapped file_key = wraps_one file_key draws left wrapped made in
      (own_stanza file_key, [], ap (λ w. w.stanzas) is, λ answer after asked. inl (asked.0 ∙ of_own file_key sixteen)))

pub returns : goal.returns
returns c = pair c.args.recipient.now c.args.identity.now

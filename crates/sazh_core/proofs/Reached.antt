-- One more of several is asked, and who decides is counted.
use Rattle.std.specs.Prelude.{Option, Some, None, Result, Ok, Err, IfOk, IfErr}
use Rattle.std.proofs.Common.{◌≡◌, ℕ, ◌+◌, ◌<◌, List, length, length-take-le, take, drop, get_or, sym, ◌∙◌, ap, arith, add-one, length-drop, subst}
use Rattle.std.proofs.Math.ListN.{set}
use Rattle.std.proofs.Math.Seq.{drop-cons, split_at}
use Rattle.std.proofs.lemmas.List.{take_more, take_more_set, drop-set, drop-set-lt, take-append-drop, take-set}
use Rattle.std.proofs.lemmas.List.Elements.{AllZip-push}
use Rattle.age.specs.Identities.{Decides, UnwrapAnswer}
use Rattle.age.specs.DecryptErrors.{DecryptRefusal, decrypt_refusal}
use Rattle.age.specs.Header.{covered_text}
use Rattle.age.specs.HeaderV1.{HeaderValue}
use Rattle.age.specs.HeaderMac.{header_mac}
use Rattle.age.specs.Stanza.{StanzaValue}
use Rattle.age.specs.Texts.{RefusesKey}
use Rattle.age.specs.Types.{DecryptError}
use Rattle.sazh_core.specs.Opening.{AnswersByNumber, FindsOpener, WereAsked}

module _ {I A : Type 0} (asks : I → Option A → I → Type 0) (before now : List I) (i : ℕ) (x y : I) (so_far : WereAsked asks before now i)
    (here : i < length now) where
  within : i < length before
  within = omega (arith, length-drop i now, length-drop i before, ap length so_far.later)

  heads : get_or before i x ≡ get_or now i x
  heads =
      let was = drop-cons before i x within in
      let is = drop-cons now i x here in
      let same = so_far.later in
      cc

  tails : drop (i + 1) now ≡ drop (i + 1) before
  tails =
      rw add-one
      (let was = drop-cons before i x within in
      let is = drop-cons now i x here in
      let same = so_far.later in
      cc)

  pub one_more : asks (get_or now i x) None y → WereAsked asks before (set now i y) (i + 1)
  one_more answers = record {
    none =
        rw (take_more before i x within, take_more_set now i y here, heads)
        (AllZip-push (λ identity then. asks identity None then) (take i before) (take i now) (get_or now i x) y so_far.none answers);
    later = drop-set-lt (i + 1) now i y (omega arith) ∙ tails;
  }

  pub one_decides : (answer : A) → asks (get_or now i x) (Some answer) y
      → (first : Decides asks before answer (set now i y)) × (i ≡ length first.passed)
  one_decides answer answers = (
    record {
      passed = take i before;
      passed_after = take i now;
      decider = get_or now i x;
      decider_after = y;
      later = drop (i + 1) before;
      all_before = rw (add-one, ← heads) (split_at before i x within);
      all_after = sym (rw (take-set now i y, drop-set now i y here, tails) at (take-append-drop i (set now i y)));
      none = so_far.none;
      answers = answers;
    },
    sym (length-take-le i before (omega (arith, within))),
  )

-- what is answered under the MAC is what opens the header, or why nobody does
pub opens_or_refuses : {I : Type 0} (unwraps : I → List StanzaValue → UnwrapAnswer → I → Type 0) (h : HeaderValue) (before after : List I)
    (number : ℕ)
    (answer : Result (List ℕ) DecryptRefusal) (result : Result ℕ DecryptError) → AnswersByNumber unwraps h before after number answer
    → IfOk result (λ n. (n ≡ number) × ((file_key : List ℕ) × (answer ≡ Ok file_key) × (h.mac ≡ header_mac file_key (covered_text h.stanzas))))
    → IfErr result (λ e. RefusesKey answer h (decrypt_refusal e)) → FindsOpener unwraps h before after result
opens_or_refuses unwraps h before after number answer (Ok n) at (same, (file_key, is, right)) refused = (
  record {
    file_key = file_key;
    first = rw same (subst (λ said. AnswersByNumber unwraps h before after number said) is at);
    right = right;
  },
  tt,
)
opens_or_refuses unwraps h before after number answer (Err e) at right refused = (tt, (Some answer, at.0, refused))

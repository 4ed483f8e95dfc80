use Rattle.std.proofs.Common.{◌≡◌, ◌++◌, ◌∷◌, ◌≢◌, ℕ, List, [], true, false, sym, ◌∙◌, subst}
use Rattle.std.proofs.lemmas.Result.{IfOk-weaker}
use Rattle.age_base64.specs.Lines.{line}
use Rattle.age_v1.specs.Stanza.{StanzaValue}
use Rattle.age_format.specs.Reading.{IsTail}
use Rattle.age_format.proofs.States.{closes_legacy, IsAfterBody}
use Rattle.age_format.proofs.state.judge_in_body.Goals as goal
use Rattle.age_format.proofs.state.judge_in_body.Goals.{then-legacy+in_default, else-legacy}

pub returns-in-Some : goal.returns-in-Some
returns-in-Some c =
    let next = c.args.next.now in
    let s = c.args.stanza in
    let d = c.args.done.items in
    let e : d ++ s ∷ [] ≡ c.push.new.self.items = sym c.in_ok-push.ensures.items in
    IfOk-weaker c.judge_after.result _ _ (λ j p text at lacks.
    (let r = closes_legacy c.args.legacy c.if-legacy.true text next c.in-Some._rest.now s d at.read c.in-Some.ensures lacks at.goes in
    p text (record {
      read = subst (λ x. IsAfterBody c.args.legacy text x) e r.0;
      goes = λ more ss m k. subst (λ x. (others : List StanzaValue) × (ss ≡ x ++ others) × IsTail c.args.legacy (line next ++ more) others m) e
          (r.1 more ss m k);
    }) lacks)) c.judge_after.ensures

pub returns : goal.returns
returns c = IfOk-weaker c.judge_body.result _ _ (λ j p text h lacks. p text h lacks (none c)) c.judge_body.ensures
  where
    none : (c : goal.After-judge_body) → c.args.legacy ≡ true → (rest : List ℕ) → c.args.next.now ≢ 45 ∷ rest
    none c allowed rest e = elim c.if-legacy.branch [
      | then-legacy+in_default w ↦ w.in_default.ensures rest e
      | else-legacy w ↦ let no : true ≡ false = sym allowed ∙ w.if-legacy.false in cc
    ]

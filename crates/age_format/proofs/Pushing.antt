-- One more byte.
use Rattle.std.proofs.Common.{◌≡◌, ◌≢◌, ℕ, List, [], ◌∷◌, ◌++◌, length, take, drop, ap, sym, arith, append_assoc, subst, ◌∙◌, length-append, Bool}
use Rattle.std.proofs.lemmas.List.{take-append-drop, take_all, drop_all, take-append-le, drop-append-le}
use Rattle.age_base64.specs.Lines.{line, Lacks}
use Rattle.age_v1.specs.HeaderVerdict.{Verdict, FrontDecides, IsUndecided}
use Rattle.age_format.specs.Reading.{IsAt}
use Rattle.age_format.specs.Progress.{IsInProgress}
use Rattle.age_format.specs.declared.state.State.{State}
use Rattle.age_base64.proofs.Lines.{Lacks-append}
use Rattle.age_format.proofs.Deciding.{undecided_more}
use Rattle.age_format.proofs.Hope.{allowed_quiet}

-- a text and a line feed: what came before the last line, and that line
pub last_line : (t : List ℕ) (start : ℕ) → t ++ 10 ∷ [] ≡ take start t ++ line (drop start t)
last_line t start = ap (λ x. x ++ 10 ∷ []) (sym (take-append-drop start t)) ∙ append_assoc (take start t) (drop start t) (10 ∷ [])

module _ (legacy : Bool) where
  -- after a line that is allowed
  pub progress_line : (st : State) (t new : List ℕ) (start end : ℕ) → IsUndecided legacy t → new ≡ t ++ 10 ∷ [] → end ≡ length new
      → IsAt legacy st (take start t ++ line (drop start t)) → IsInProgress legacy st end new
  progress_line st t new start end before en ee h =
      let whole : new ≡ take start t ++ line (drop start t) = en ∙ last_line t start in
      let quiet = allowed_quiet legacy st (take start t) (drop start t) h in
      record {
        behind = omega (arith, ee);
        undecided = subst (IsUndecided legacy) (sym en)
            (undecided_more legacy t 10 before (λ v k. quiet v (subst (λ x. FrontDecides legacy x v) (last_line t start) k)));
        at = subst (IsAt legacy st) (sym (take_all end new (omega (arith, ee)) ∙ whole)) h;
        lacks = subst (Lacks 10) (sym (drop_all end new (omega (arith, ee)))) tt;
      }

  -- after a byte that ends no line and decides nothing
  pub progress_byte : (st : State) (t new : List ℕ) (start b : ℕ) → IsInProgress legacy st start t → new ≡ t ++ b ∷ [] → b ≢ 10
      → ((v : Verdict) → FrontDecides legacy (t ++ b ∷ []) v → ⊥) → IsInProgress legacy st start new
  progress_byte st t new start b h en ne quiet = record {
    behind = omega (arith, h.behind, ap length en, length-append t (b ∷ []));
    undecided = subst (IsUndecided legacy) (sym en) (undecided_more legacy t b h.undecided quiet);
    at = subst (IsAt legacy st) (sym (ap (take start) en ∙ take-append-le start t (b ∷ []) h.behind)) h.at;
    lacks = subst (Lacks 10) (sym (ap (drop start) en ∙ drop-append-le start t (b ∷ []) h.behind))
        (Lacks-append 10 (drop start t) (b ∷ []) h.lacks (ne, tt));
  }

-- What is told where a command is refused.
use Rattle.std.specs.Prelude.{⊤, IfErr, List, Result, Ok, Err}
use Rattle.std.proofs.Common.{◌≡◌, ◌∙◌, ◌++◌, ℕ, ap, arith, drop, inl, inr, length, refl, subst, sym, take}
use Rattle.std.proofs.lemmas.List.{take-append-le, take_all}
use Rattle.age.specs.Types.{FileError}
use Rattle.sazh_core.specs.Given.{AnswersCommand, AnswersKeys}
use Rattle.sazh_core.specs.Locked.{NamesCommand, NamesKeys}
use Rattle.sazh_core.specs.declared.error.CommandError.{CommandError}
use Rattle.sazh_core.specs.declared.error.CommandError.TheVariants.{File, Random}
use Rattle.sazh_core.specs.declared.error.GivenError.TheVariants.{Command}
use Rattle.sazh_core.specs.declared.error.RandomError.{RandomError}
use Rattle.sazh_core.specs.declared.holder.Holder.{Holder}

refusal_is : {V E : Type 0} (r : Result V E) (e : E) → r ≡ Err e → IfErr r (λ own. own ≡ e)
refusal_is r e is = subst (λ own. IfErr own (λ refusal. refusal ≡ e)) (sym is) refl

ok_is_no_refusal : {V E : Type 0} (v : V) (e : E) → Ok v ≡ Err e → ⊥
ok_is_no_refusal v e is = subst (λ r. IfErr r (λ _. ⊥)) is tt

-- a list of the same length written over another is that
pub written_over : {X : Type 0} (items new : List X) (size : ℕ) → length new ≡ size → take size (new ++ drop (length new) items) ≡ new
written_over items new size long =
    take-append-le size new (drop (length new) items) (Prim.omega (arith, long)) ∙ take_all size new (Prim.omega (arith, long))

-- what is so of the error of the library in an error of a command, where there is one
abbrev OfFile : (FileError → Type 0) → CommandError → Type 0
OfFile Holds (File e) = Holds e
OfFile Holds (Random e) = ⊥

same_file : (e f : FileError) → File e ≡ File f → e ≡ f
same_file e f is = subst (λ error. OfFile (λ own. e ≡ own) error) is refl

pub random_names : {S T C : Type 0} (asked : List (Holder S T C)) (e : RandomError) → NamesCommand asked (Random e) (Random e)
random_names asked e = inl (refl, λ is. absurd (subst (λ error. OfFile (λ _. ⊤) error) (sym is) tt))

pub file_names : {S T C : Type 0} (asked : List (Holder S T C)) (e told : FileError) → NamesKeys asked e told
    → NamesCommand asked (File e) (File told)
file_names asked e told (inl (is, none)) = inl (ap File is, λ same. none (same_file _ _ same))
file_names asked e told (inr (nobody, is, has)) = inr (ap File nobody, ap File is, has)

module _ {S T C G V : Type 0} (asked : List (Holder S T C)) where
  -- a success is told as it is
  pub went_well : (v : V) → AnswersKeys {G = G} asked (Ok v) (Ok v)
  went_well v = inl (refl, λ is. absurd (ok_is_no_refusal _ _ is))

  told_of : (error it : FileError) → NamesKeys asked error it → AnswersKeys {G = G} {V = V} asked (Err error) (Err (Command it))
  told_of error it (inl (is, none)) = inl (ap (λ e. Err (Command e)) is, λ same. none (refusal_is (Err error) _ same))
  told_of error it (inr (nobody, is, has)) = inr (ap (λ e. Err e) nobody, ap (λ e. Err (Command e)) is, has)

  pub told : (held : List (Holder S T C)) (error it : FileError) → held ≡ asked → NamesKeys held error it
      → AnswersKeys {G = G} {V = V} asked (Err error) (Err (Command it))
  told held error it same names = told_of error it (subst (λ l. NamesKeys l error it) same names)

  -- the same of a command that draws random bytes too
  pub command_went_well : (v : V) → AnswersCommand {G = G} asked (Ok v) (Ok v)
  command_went_well v = inl (refl, λ is. absurd (ok_is_no_refusal _ _ is))

  command_told_of : (error it : CommandError) → NamesCommand asked error it → AnswersCommand {G = G} {V = V} asked (Err error) (Err (Command it))
  command_told_of error it (inl (is, none)) = inl (ap (λ e. Err (Command e)) is, λ same. none (refusal_is (Err error) _ same))
  command_told_of error it (inr (nobody, is, has)) = inr (ap (λ e. Err e) nobody, ap (λ e. Err (Command e)) is, has)

  pub command_told : (held : List (Holder S T C)) (error it : CommandError) → held ≡ asked → NamesCommand held error it
      → AnswersCommand {G = G} {V = V} asked (Err error) (Err (Command it))
  command_told held error it same names = command_told_of error it (subst (λ l. NamesCommand l error it) same names)

use Rattle.std.proofs.Common.{◌≡◌, ◌∙◌, ◌++◌, ℕ, List, Option, Some, None, codes, arith, ap, sym, drop}
use Rattle.sazh_command.specs.Decimal.{number_of}
use Rattle.sazh_command.specs.Place.{first_line, HasLine, TellsPlace}
use Rattle.sazh_command.proofs.input.told_place.Goals as goal

-- one text is told after the prefix
one_told : (a b : List ℕ) → codes "pos:\t" ++ a ≡ codes "pos:\t" ++ b → a ≡ b
one_told a b same = ap (λ l. drop 5 l) same

tells : (r : Option ℕ) (text told digits : List ℕ) → r ≡ number_of digits → digits ≡ first_line told → text ≡ codes "pos:\t" ++ told
    → HasLine told → TellsPlace text r
tells None text told digits is first begins line = λ other begins_other _.
    ap (λ l. number_of (first_line l)) (one_told other told (sym begins_other ∙ begins)) ∙ ap number_of (sym first) ∙ sym is
tells (Some n) text told digits is first begins line = (told, begins, line, ap number_of (sym first) ∙ sym is)

pub returns : goal.returns
returns c =
    let told = c.in_ok-told.ensures.cases in
    let digits = c.in_ok-digits.ensures.byte (omega arith) (λ w o found. found) in
    tells c.parse_number.result c.args.text.now c.in_ok-told.told.now c.in_ok-digits.digits.now c.parse_number.ensures digits.0
    (told.1.1 ∙ ap (λ rest. codes "pos:\t" ++ rest) (sym told.2)) digits.2

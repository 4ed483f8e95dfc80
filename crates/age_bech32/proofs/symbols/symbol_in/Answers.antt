use Rattle.std.proofs.Common.{◌<◌, ◌∙◌, true, false, ap, sym, subst}
use Rattle.std.specs.Char.{to_ascii_uppercase}
use Rattle.age_bech32.proofs.Spelling.{ascii_of}
use Rattle.age_bech32.proofs.symbols.symbol_in.Goals as goal

pub returns-then-upper-clause-ascii : goal.returns-then-upper-clause-ascii
returns-then-upper-clause-ascii c =
    subst (λ x. x < 128) (sym (c.to_ascii_uppercase.ensures.value ∙ ap to_ascii_uppercase c.symbol_of-symbol.ensures))
    (ascii_of true c.args.value c.requires)

pub returns-clause-ascii : goal.returns-clause-ascii
returns-clause-ascii c = subst (λ x. x < 128) (sym c.symbol_of-symbol.ensures) (ascii_of false c.args.value c.requires)

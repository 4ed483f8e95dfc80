use Rattle.std.proofs.Common.{rules, ◌≡◌, ◌↔◌, IsTrue, sym, subst}
use Rattle.age_v1.specs.Stanza.{IsString, is_string_of}
use Rattle.age_v1.proofs.Strings.{string_tested}
use Rattle.age_format.proofs.stanza.is_string_of_bytes.Goals as goal

pub returns-then-not-is_empty-clause-exactly : goal.returns-then-not-is_empty-clause-exactly
returns-then-not-is_empty-clause-exactly c =
    let told : c.are_graphic.result ≡ is_string_of c.args.bytes.now = search rules in
    subst (λ r. IsTrue r ↔ IsString c.args.bytes.now) (sym told) (string_tested c.args.bytes.now)

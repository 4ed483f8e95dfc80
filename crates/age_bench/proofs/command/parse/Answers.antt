use Rattle.std.proofs.Common.{string_bytes, map, option_map, [], ◌∷◌}
use Rattle.std.proofs.lemmas.Result.{IfOk-weaker}
use Rattle.age_bench.specs.Command.{AsksFor, command_value}
use Rattle.age_bench.proofs.Words.{two}
use Rattle.age_bench.proofs.command.parse.Goals as goal

pub returns : goal.returns
returns c =
    let name = c.as_str.result.now in
    let word = c.as_str-2.result.now in
    IfOk-weaker c.parse_two.result (λ found. AsksFor (name ∷ word ∷ []) (option_map command_value found))
    (λ found. AsksFor (map string_bytes c.args.words.now) (option_map command_value found))
    (λ found asks.
    two string_bytes c.args.words.now c.name-item.result c.word-item.result name word _ c.in-len2.len_at_least c.in-len2.len_below c.name-item.is
    c.word-item.is
    c.as_str.ensures.value c.as_str-2.ensures.value asks)
    c.parse_two.ensures

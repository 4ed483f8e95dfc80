use Rattle.std.proofs.Common.{refl, string_bytes, codes, bytes_eq, map, option_map, ◌∷◌, ◌-◌, length, take, drop}
use Rattle.std.proofs.lemmas.Result.{IfOk-weaker}
use Rattle.age_bench.specs.Command.{AsksFor, AsksToEncrypt, command_value}
use Rattle.age_bench.proofs.Words.{behind, not_not}
use Rattle.age_bench.proofs.command.parse_many.Goals as goal

pub returns-then-eq : goal.returns-then-eq
returns-then-eq c = λ other.
    let with_ = c.as_str-then-eq.result.now in
    let place = c.as_str-then-eq-2.result.now in
    let more = map string_bytes (take (length c.args.words.now - 3) (drop 3 c.args.words.now)) in
    IfOk-weaker c.parse_at.result (λ found. AsksFor (codes "at" ∷ with_ ∷ place ∷ more) (option_map command_value found))
    (λ found. AsksFor (map string_bytes c.args.words.now) (option_map command_value found))
    (λ found asks.
    behind string_bytes c.args.words.now c.name-item.result c.second-item.result c.third-item.result (codes "at") c.as_str.result.now with_ place _
    c.in-len3-up.len_at_least c.name-item.is c.second-item.is c.third-item.is c.as_str.ensures.value c.as_str-then-eq.ensures.value
    c.as_str-then-eq-2.ensures.value c.if-eq.ensures asks)
    c.parse_at.ensures

pub returns-in_default-parse_format : goal.returns-in_default-parse_format
returns-in_default-parse_format c = λ other.
    let to = string_bytes c.second-item.result in
    let draw = string_bytes c.third-item.result in
    let name = c.as_str-2.result.now in
    behind string_bytes c.args.words.now c.name-item.result c.second-item.result c.third-item.result (codes "encrypt") name to draw _
    c.in-len3-up.len_at_least c.name-item.is c.second-item.is c.third-item.is c.as_str-2.ensures.value refl refl
    (not_not (bytes_eq name (codes "encrypt")) c.if-ne.ensures) (c.in_default-parse_format.ensures to draw _ refl)

pub returns : goal.returns
returns c = λ other.
    let to = c.as_str-3.result.now in
    let draw = c.as_str-4.result.now in
    let name = c.as_str-2.result.now in
    IfOk-weaker c.parse_encrypt.result (λ found. AsksToEncrypt to draw c.in-Some.format (option_map command_value found))
    (λ found. AsksFor (map string_bytes c.args.words.now) (option_map command_value found))
    (λ found asks.
    behind string_bytes c.args.words.now c.name-item.result c.second-item.result c.third-item.result (codes "encrypt") name to draw _
    c.in-len3-up.len_at_least c.name-item.is c.second-item.is c.third-item.is c.as_str-2.ensures.value c.as_str-3.ensures.value
    c.as_str-4.ensures.value
    (not_not (bytes_eq name (codes "encrypt")) c.if-ne.ensures) (c.in-Some.ensures to draw _ asks))
    c.parse_encrypt.ensures

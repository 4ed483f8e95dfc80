use Rattle.std.proofs.Common.{◌≡◌, ◌^◌, ◌<◌, ◌++◌, ◌∷◌, [], ◌∙◌, map, length, drop, ap, lit<, sym, subst, arith, All, append_assoc, string_bytes}
use Rattle.std.proofs.lemmas.List.Elements.{All-from_get_or}
use Rattle.age_bech32.specs.Symbols.{has_upper, symbol_in}
use Rattle.age_bech32.specs.Bech32.{IsBech32, IsInCaseOf}
use Rattle.age_bech32.specs.Refusals.{MayBeWritten}
use Rattle.age_bech32.specs.Written.{values_of_bytes, bech32_text}
use Rattle.age_bech32.proofs.Lists.{refilled}
use Rattle.age_bech32.proofs.Written.{text_parts, written}
use Rattle.age_bech32.proofs.writing.encode.Goals as goal

pub returns : goal.returns
returns c =
    let bytes : c.as_bytes-bytes.result.now ≡ c.args.prefix.now = c.as_bytes-bytes.ensures.value in
    let good : MayBeWritten c.args.prefix.now = subst MayBeWritten bytes c.if-not-may_be_written.ensures in
    let upper = c.has_upper-upper.result in
    let size : length c.values_into.new.values ≡ c.in_ok-values.values.len = omega arith in
    let values : c.deref.result.now ≡ values_of_bytes c.args.prefix.now c.args.data.now =
    c.deref.ensures.value ∙ refilled c.values_into.new.values
    (drop (length c.values_into.new.values) c.in_ok-values.values.items) c.in_ok-values.values.len size
    ∙ c.values_into.ensures.values ∙ ap (λ p. values_of_bytes p c.args.data.now) bytes in
    let first : string_bytes c.push.new.self ≡ c.args.prefix.now ++ 49 ∷ [] =
    c.in_ok-push.ensures.bytes ∙ ap (λ t. string_bytes c.in_ok-text.text ++ t) (c.push.ensures.ascii (lit< tt))
    ∙ ap (λ t. t ++ 49 ∷ []) c.in_ok-text.ensures.ok in
    let symbols = map (symbol_in upper) c.deref.result.now in
    let second : string_bytes c.push_symbols.new.text ≡ c.args.prefix.now ++ ((49 ∷ []) ++ symbols) =
    c.in_ok-push_symbols.ensures ∙ ap (λ t. t ++ symbols) first ∙ append_assoc c.args.prefix.now (49 ∷ []) symbols in
    let text : string_bytes c.push_symbols.new.text ≡ bech32_text c.args.prefix.now c.args.data.now =
    second ∙ ap (λ v. c.args.prefix.now ++ 49 ∷ map (symbol_in upper) v) values
    ∙ ap (λ u. c.args.prefix.now ++ 49 ∷ map (symbol_in u) (values_of_bytes c.args.prefix.now c.args.data.now))
    (c.has_upper-upper.ensures ∙ ap has_upper bytes)
    ∙ sym (text_parts c.args.prefix.now c.args.data.now) in
    let all : All (λ byte. byte < 2 ^ 8) c.args.data.now =
    All-from_get_or (λ byte. byte < 2 ^ 8) c.args.data.now 0 (λ i l. let h = c.type_inv.data i in omega (arith, h)) in
    record {
      text = text;
      reads = subst (λ t. IsBech32 t c.args.prefix.now c.args.data.now × IsInCaseOf c.args.prefix.now t) (sym text)
          (written c.args.prefix.now c.args.data.now good.0 good.1 all);
    }

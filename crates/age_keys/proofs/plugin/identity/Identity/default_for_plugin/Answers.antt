use Rattle.std.proofs.Common.{◌∙◌, ◌++◌, [], ◌∷◌, ◌≤◌, length, ap, arith, string_bytes}
use Rattle.age_bech32.specs.Written.{bech32_text}
use Rattle.age_keys.specs.PluginKeys.{identity_front}
use Rattle.age_keys.proofs.Names.{default_key}
use Rattle.age_keys.proofs.plugin.identity.Identity.default_for_plugin.Goals as goal

pub invariant_of-result : goal.invariant_of-result
invariant_of-result c =
    default_key (string_bytes c.in_ok-name.name) (string_bytes c.in_ok-text.text)
    (string_bytes c.in_ok-upper.upper) c.as_str.result.now c.as_bytes.result.now
    c.without_hyphens.result.now c.in-Some.front.now c.as_str.ensures.value c.as_bytes.ensures.value c.in_ok-text.ensures.0
    c.without_hyphens.ensures c.in-Some.ensures
    c.in_ok-name.ensures.ok

pub returns : goal.returns
returns c =
    let few : length c.args.name.now ≤ 71 = omega (arith, c.if-name-gt-MOST_BYTES.false) in
    record {
      few = few;
      key_of = default_key (string_bytes c.in_ok-name.name) (string_bytes c.in_ok-text.text)
          (string_bytes c.in_ok-upper.upper) c.as_str.result.now c.as_bytes.result.now
          c.without_hyphens.result.now c.in-Some.front.now c.as_str.ensures.value c.as_bytes.ensures.value c.in_ok-text.ensures.0
          c.without_hyphens.ensures c.in-Some.ensures
          c.in_ok-name.ensures.ok;
      text = c.in_ok-text.ensures.1 ∙ ap (λ u. bech32_text (identity_front ++ u ++ 45 ∷ []) []) (c.as_str.ensures.value ∙ c.in_ok-upper.ensures.ok);
    }

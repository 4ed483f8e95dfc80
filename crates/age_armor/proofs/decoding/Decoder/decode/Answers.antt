use Rattle.std.proofs.Common.{◌<◌, ◌^◌, arith, rules}
use Rattle.std.proofs.lemmas.List.Elements.{All-take}
use Rattle.age_v1.proofs.ArmorLineVerdicts.{is_decoded, none_decoded}
use Rattle.age_armor.proofs.decoding.Decoder.decode.Goals as goal

pub returns-in-Ok : goal.returns-in-Ok
returns-in-Ok c =
    let got = c.in-Ok.ensures.ok in (
      is_decoded c.args.columns.now _ (All-take (λ x. x < 2 ^ 8) c.in-Ok.count _ c.known_bytes.ensures)
          (c.args.self.now.decodes c.args.columns.now _ (λ i. let f = c.type_inv.columns i in omega arith) got.0),
      search rules,
    )

pub returns-in-Err : goal.returns-in-Err
returns-in-Err c =
    none_decoded c.args.columns.now (λ bytes each same.
    c.args.self.now.takes c.args.columns.now bytes _ (λ i. let f = c.type_inv.columns i in omega arith) each same c.in-Err.ensures.err)

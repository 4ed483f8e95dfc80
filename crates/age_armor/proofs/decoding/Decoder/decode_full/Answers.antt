use Rattle.std.proofs.Common.{◌≡◌, ◌<◌, ◌^◌, ◌∙◌, Some, ap, sym, arith, take, length}
use Rattle.std.proofs.lemmas.Bool.{eqb-true}
use Rattle.std.proofs.lemmas.List.{take_all}
use Rattle.std.proofs.lemmas.List.Elements.{All-take}
use Rattle.age_v1.proofs.ArmorLineVerdicts.{is_decoded}
use Rattle.age_armor.proofs.decoding.Decoder.decode_full.Goals as goal

pub returns-in-Ok : goal.returns-in-Ok
returns-in-Ok c = λ is.
    let n = c.in-Ok.count in
    let bytes = c.decode_slice_unchecked.new.output in
    let got = c.in-Ok.ensures.ok in
    let same : n ≡ length bytes = eqb-true n (length bytes) is in
    is_decoded c.args.columns.now (take n bytes) (All-take (λ x. x < 2 ^ 8) n bytes c.known_bytes-in-Ok.ensures)
    (c.args.self.now.decodes c.args.columns.now (take n bytes) (λ i. let f = c.type_inv.columns i in omega arith) got.0)
    ∙ ap (λ b. Some b) (take_all n bytes (omega (arith, same)))

pub returns-then-columns-eq0 : goal.returns-then-columns-eq0
returns-then-columns-eq0 c = λ is.
    is_decoded c.args.columns.now c.decode_full-is_right.new.bytes c.known_bytes.ensures (sym (c.decode_full-is_right.ensures.decoded is))

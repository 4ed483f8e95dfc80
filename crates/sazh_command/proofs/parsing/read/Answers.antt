use Rattle.std.specs.Prelude.{◌≡◌, ◌==◌, false, length, map, string_bytes}
use Rattle.std.proofs.Common.{◌∙◌, sym, ap}
use Rattle.std.proofs.lemmas.Result.{IfOk-weaker}
use Rattle.std.proofs.lemmas.List.{length-map}
use Rattle.clap.specs.Simple.{app_of}
use Rattle.sazh_command.proofs.Answered.{read_found, read_refused}
use Rattle.sazh_command.proofs.parsing.read.Goals as goal

pub returns-in-Ok : goal.returns-in-Ok
returns-in-Ok c =
    let words = map string_bytes c.args.words.now in
    let some : (length words == 0) ≡ false =
    ap (λ n. n == 0) (length-map c.args.words.now string_bytes) ∙ sym c.is_empty.ensures ∙ c.if-is_empty.false in
    IfOk-weaker c.answer_of.result _ _ (λ answer is. read_found words (app_of c.in_ok-sazh.field-0) c.in-Ok.matches answer some c.in_ok-sazh.ensures.0
    c.in-Ok.ensures.matches c.in-Ok.ensures.kinds (is _ c.asked_by.ensures)) c.answer_of.ensures

pub returns-in-Err : goal.returns-in-Err
returns-in-Err c =
    let words = map string_bytes c.args.words.now in
    let some : (length words == 0) ≡ false =
    ap (λ n. n == 0) (length-map c.args.words.now string_bytes) ∙ sym c.is_empty.ensures ∙ c.if-is_empty.false in
    IfOk-weaker c.refusal_of.result _ _ (λ answer told. read_refused words
    (app_of c.in_ok-sazh.field-0) c.in-Err.error answer some c.in_ok-sazh.ensures.0
    c.in-Err.ensures.kinds told) c.refusal_of.ensures

use Rattle.std.proofs.Common.{rules, ◌∙◌, subst, length, [], ◌∷◌}
use Rattle.std.proofs.lemmas.Result.{on_ok_weaker}
use Rattle.base64.specs.GeneralPurpose.{encode_of, encoded_size_of}
use Rattle.base64.proofs.EngineFacts.{encoded_prefix}
use Rattle.age_base64.specs.Base64.{columns}
use Rattle.age_format.proofs.write.write_columns.Goals as goal

pub returns-clause-took : goal.returns-clause-took
returns-clause-took g c =
    let e = c.args.engine.now in
    let piece = c.args.piece.now in
    let front = encoded_prefix (encode_of e piece) _ _ (encoded_size_of e (length piece)) c.in-Ok.size _ _
    (search rules) c.encode_slice.ensures.fits c.encode_slice.ensures.too_small c.in-Ok.is c.in-Ok.ensures.written in
    let first = subst (λ x. g.T.Sink.took c.args.out.now x c.take.new.self) (front ∙ c.requires.engine.0 piece) c.in_ok-take.ensures.took in
    on_ok_weaker c.take-2.result (λ end. g.met.T.Sink.joins _ _ _ (columns piece) (10 ∷ []) first end) c.take-2.ensures.took

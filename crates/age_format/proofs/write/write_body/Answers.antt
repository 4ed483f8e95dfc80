use Rattle.std.proofs.Common.{◌++◌, arith, subst, refl, []}
use Rattle.std.proofs.lemmas.Result.{on_ok_weaker}
use Rattle.age_base64.specs.Lines.{line}
use Rattle.age_base64.specs.Base64.{columns}
use Rattle.age_format.proofs.Writing.{body_step, body_end}
use Rattle.age_format.proofs.write.write_body.Goals as goal

pub loop-rest-init : goal.loop-rest-init
loop-rest-init g c = ([], g.met.T.Sink.takes_nothing c.args.out.now, refl)

pub loop-rest-preserved : goal.loop-rest-preserved
loop-rest-preserved g c =
    let (done, took, is) = c.loop-rest.invariant in
    let piece = line (columns c.split_at.result.0.now) in (
      done ++ piece,
      g.met.T.Sink.joins _ _ _ done piece took c.in_ok-write_columns.ensures.took,
      body_step done (done ++ piece) c.loop-rest.rest.now c.split_at.result.0.now c.split_at.result.1.now _ is refl
          c.split_at.ensures.front c.split_at.ensures.back (omega arith),
    )

pub returns-clause-took : goal.returns-clause-took
returns-clause-took g c =
    let (done, took, is) = c.loop-rest.invariant in
    let piece = line (columns c.loop-rest.rest.now) in
    on_ok_weaker c.write_columns-2.result
    (λ last. subst (λ x. g.T.Sink.took c.args.out.now x c.write_columns-2.new.out)
    (body_end done (done ++ piece) c.loop-rest.rest.now _ is (omega arith) refl)
    (g.met.T.Sink.joins _ _ _ done piece took last))
    c.write_columns-2.ensures.took

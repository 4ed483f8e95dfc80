use Rattle.std.proofs.Common.{ℕ, List, arith, string_bytes, ◌++◌, ◌∷◌, [], subst, take, map}
use Rattle.std.specs.Prelude.{codes}
use Rattle.std.specs.List.{join_with_byte}
use Rattle.std.proofs.lemmas.List.{take_all}
use Rattle.std.proofs.lemmas.Result.{on_ok_weaker}
use Rattle.age_format.proofs.Writing.{args_step, arg_more}
use Rattle.age_format.proofs.write.write_first_line.Goals as goal

pub loop-arg-init : goal.loop-arg-init
loop-arg-init g c =
    subst (λ x. g.T.Sink.took c.args.out.now (codes "-> " ++ x) c.take-2.new.self) c.as_bytes.ensures.value
    (g.met.T.Sink.joins _ _ _ (codes "-> ") _ c.in_ok-take.ensures.took c.in_ok-take-2.ensures.took)

pub loop-arg-preserved : goal.loop-arg-preserved
loop-arg-preserved g c =
    let words : ℕ → List ℕ = λ i. join_with_byte 32 (c.args.tag.now ∷ map (λ a. string_bytes a) (take i c.args.args.now)) in
    let i = c.loop-arg.arg-index in
    let arg = c.as_bytes-in-loop-arg.result.now in
    let step = args_step (λ a. string_bytes a) c.args.args.now i c.arg-item.result c.args.tag.now arg
    (omega arith) c.arg-item.is c.as_bytes-in-loop-arg.ensures.value in
    let taken = g.met.T.Sink.joins _ _ _ ((codes "-> " ++ words i) ++ 32 ∷ []) arg
    (g.met.T.Sink.joins _ _ _ (codes "-> " ++ words i) (32 ∷ []) c.loop-arg.invariant c.in_ok-take-3.ensures.took) c.in_ok-take-4.ensures.took in
    subst (λ x. g.T.Sink.took c.args.out.now x c.take-in-loop-arg-2.new.self) (arg_more (words i) arg _ step) taken

pub returns-clause-took : goal.returns-clause-took
returns-clause-took g c =
    let all = take_all c.loop-arg.arg-index c.args.args.now (omega arith) in
    on_ok_weaker c.take-3.result
    (λ end. subst (λ xs. g.T.Sink.took c.args.out.now
    ((codes "-> " ++ join_with_byte 32 (c.args.tag.now ∷ map (λ a. string_bytes a) xs)) ++ 10 ∷ []) c.take-3.new.self) all
    (g.met.T.Sink.joins _ _ _ _ (10 ∷ []) c.loop-arg.invariant end))
    c.take-3.ensures.took

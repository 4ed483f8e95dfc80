use Rattle.std.proofs.Common.{◌++◌, ◌∷◌, map, take, string_bytes}
use Rattle.std.specs.Prelude.{codes}
use Rattle.std.specs.List.{join_with_byte}
use Rattle.age_format.proofs.write.write_first_line.Given as goal

abbrev pub invariant-loop-arg : goal.invariant-loop-arg
invariant-loop-arg g l = g.T.Sink.took l.fn.out
    (codes "-> " ++ join_with_byte 32 (l.fn.tag ∷ map (λ a. string_bytes a) (take l.arg-index l.args))) l.out

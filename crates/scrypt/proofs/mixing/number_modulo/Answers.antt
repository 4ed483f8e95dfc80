use Rattle.std.proofs.Common.{◌+◌, ◌*◌, ◌%◌, ◌^◌, ap, get_or, arith, ◌∙◌}
use Rattle.std.proofs.lemmas.Nat.{one_shl}
use Rattle.scrypt.proofs.Numbers.{number-modulo}
use Rattle.scrypt.proofs.mixing.number_modulo.Goals as goal

pub returns : goal.returns
returns c =
    let block = c.args.block.now in
    ap (λ n. (get_or block 0 0 + 2 ^ 32 * get_or block 1 0) % n) (one_shl c.args.log_n 64 (omega arith))
    ∙ number-modulo block c.args.log_n (omega arith) (omega arith)

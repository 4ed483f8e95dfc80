use Rattle.std.proofs.Common.{◌-◌, ◌%◌, ◌++◌, length, List, ℕ, arith, subst}
use Rattle.std.proofs.lemmas.List.{take-replicate}
use Rattle.poly1305.specs.Given.{WasGiven}
use Rattle.chacha20poly1305.proofs.tag.give_padding.Goals as goal

pub returns : goal.returns
returns c = λ key text given.
    let zeros = take-replicate ((16 - length c.args.ciphertext.now % 16) % 16) 15 0 (omega arith) in
    subst (λ (bytes : List ℕ). WasGiven c.update.new.self key (text ++ bytes)) zeros (c.update.ensures key text given)

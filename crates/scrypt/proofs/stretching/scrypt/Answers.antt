use Rattle.std.proofs.Common.{◌^◌, ap, ◌∙◌}
use Rattle.scrypt.specs.Encoding.{blocks, blocks_bytes}
use Rattle.scrypt.specs.Pbkdf2.{pbkdf2, pbkdf2_block}
use Rattle.scrypt.specs.RomMix.{rom_mix}
use Rattle.scrypt.specs.Scrypt.{scrypt_of}
use Rattle.scrypt.proofs.stretching.scrypt.Goals as goal

pub returns-clause-value : goal.returns-clause-value
unfolding scrypt_of pbkdf2
returns-clause-value c =
    let b = c.blocks-b.ensures ∙ ap (λ bytes. blocks bytes 16) c.pbkdf2.ensures in
    let mixed = c.in_ok-mixed.ensures ∙ ap (λ b. rom_mix b (2 ^ c.args.log_n)) b in
    let bytes = c.blocks_bytes.ensures ∙ ap blocks_bytes mixed in
    c.pbkdf2_block.ensures ∙ ap (λ salt. pbkdf2_block c.args.password.now salt 1) bytes

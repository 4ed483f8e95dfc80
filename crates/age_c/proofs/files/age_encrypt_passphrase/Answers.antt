use Rattle.age_c.proofs.files.age_encrypt_passphrase.Goals as goal

pub returns : goal.returns
returns c =
    let (answer, encrypts, handed) = c.encrypt_with_out.ensures in
    (answer, rw c.format_of.ensures at encrypts, handed)

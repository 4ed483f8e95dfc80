use Rattle.std.proofs.Common.{Err, refl, inl}
use Rattle.age_protocol.proofs.OpenedFor.{asked, not_asked, stands_or_want}
use Rattle.age_protocol.proofs.opening.open_file.Goals as goal

pub returns-in-Err-clause-refused : goal.returns-in-Err-clause-refused
returns-in-Err-clause-refused g c = inl (refl, c.in-Err.ensures.refused)

pub returns-in-Err-clause-plaintext : goal.returns-in-Err-clause-plaintext
returns-in-Err-clause-plaintext g c = λ told well plain for.
    stands_or_want g.S.Suite g.T.Read g.I.Identity.unwraps c.front_is_accepted.ensures c.file_opens.ensures.payload c.file_opens.ensures.content
    c.args.identities.now c.args.identities.now c.args.bytes told well plain for (Err c.in-Err.error) tt (inl (refl, c.in-Err.ensures.refused))

pub returns-in-Ok-clause-opened : goal.returns-in-Ok-clause-opened
returns-in-Ok-clause-opened g c =
    let front = c.in-Ok.ensures in
    let (answer, first, decrypts) = c.decrypt.ensures in
    asked g.I.Identity.unwraps _ _ c.args.bytes _ _ _ answer c.decrypt.result
    (record { same = front.keeps; narrows = front.narrows; front = front.front; first = first }) decrypts

pub returns-in-Ok-clause-refused : goal.returns-in-Ok-clause-refused
returns-in-Ok-clause-refused g c =
    let front = c.in-Ok.ensures in
    let (answer, first, decrypts) = c.decrypt.ensures in
    not_asked g.I.Identity.unwraps _ _ c.args.bytes _ _ _ answer c.decrypt.result
    (record { same = front.keeps; narrows = front.narrows; front = front.front; first = first }) decrypts

pub returns-in-Ok-clause-plaintext : goal.returns-in-Ok-clause-plaintext
returns-in-Ok-clause-plaintext g c = λ told well plain for.
    stands_or_want g.S.Suite g.T.Read g.I.Identity.unwraps c.front_is_accepted.ensures c.file_opens.ensures.payload c.file_opens.ensures.content
    _ _ c.args.bytes told well plain for c.decrypt.result (returns-in-Ok-clause-opened g c) (returns-in-Ok-clause-refused g c)

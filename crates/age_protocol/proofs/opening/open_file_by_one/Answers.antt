use Rattle.std.proofs.Common.{Err, refl, inl, [], ◌∷◌}
use Rattle.age_v1.specs.Identities.{Unwraps}
use Rattle.age_protocol.specs.Decryptor.{header_of}
use Rattle.age_protocol.proofs.Alone.{alone}
use Rattle.age_protocol.proofs.OpenedFor.{asked, not_asked, stands_or_want}
use Rattle.age_protocol.proofs.opening.open_file_by_one.Goals as goal

pub returns-in-Err-clause-refused : goal.returns-in-Err-clause-refused
returns-in-Err-clause-refused g c = inl (refl, c.in-Err.ensures.refused)

pub returns-in-Err-clause-plaintext : goal.returns-in-Err-clause-plaintext
returns-in-Err-clause-plaintext g c = λ told well plain for.
    stands_or_want g.S.Suite g.T.Read g.I.Identity.unwraps c.front_is_accepted.ensures c.file_opens.ensures.payload c.file_opens.ensures.content
    (c.args.identity.now ∷ []) (c.args.identity.now ∷ []) c.args.bytes told well plain for (Err c.in-Err.error) tt
    (inl (refl, c.in-Err.ensures.refused))

pub returns-in-Ok-clause-opened : goal.returns-in-Ok-clause-opened
returns-in-Ok-clause-opened g c =
    let front = c.in-Ok.ensures in
    let (answer, own, decrypts) = c.decrypt_one.ensures in
    let first = alone (λ i said next. Unwraps g.I.Identity.unwraps i (header_of c.in-Ok.decryptor).stanzas said next) c.args.identity.now answer _
    own in
    asked g.I.Identity.unwraps _ _ c.args.bytes _ _ _ answer c.decrypt_one.result
    (record { same = front.keeps; narrows = front.narrows; front = front.front; first = first }) decrypts

pub returns-in-Ok-clause-refused : goal.returns-in-Ok-clause-refused
returns-in-Ok-clause-refused g c =
    let front = c.in-Ok.ensures in
    let (answer, own, decrypts) = c.decrypt_one.ensures in
    let first = alone (λ i said next. Unwraps g.I.Identity.unwraps i (header_of c.in-Ok.decryptor).stanzas said next) c.args.identity.now answer _
    own in
    not_asked g.I.Identity.unwraps _ _ c.args.bytes _ _ _ answer c.decrypt_one.result
    (record { same = front.keeps; narrows = front.narrows; front = front.front; first = first }) decrypts

pub returns-in-Ok-clause-plaintext : goal.returns-in-Ok-clause-plaintext
returns-in-Ok-clause-plaintext g c = λ told well plain for.
    stands_or_want g.S.Suite g.T.Read g.I.Identity.unwraps c.front_is_accepted.ensures c.file_opens.ensures.payload c.file_opens.ensures.content
    _ _ c.args.bytes told well plain for c.decrypt_one.result (returns-in-Ok-clause-opened g c) (returns-in-Ok-clause-refused g c)

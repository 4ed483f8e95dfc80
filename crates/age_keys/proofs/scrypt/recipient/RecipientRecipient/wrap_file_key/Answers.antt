use Rattle.std.proofs.Common.{◌∙◌, ap, ◌++◌, ◌∷◌, []}
use Rattle.age_v1.specs.Scrypt.{stretch_salt}
use Rattle.age_keys.proofs.Stretched.{accepted, wraps}
use Rattle.age_keys.proofs.scrypt.recipient.RecipientRecipient.wrap_file_key.Goals as goal

pub returns : goal.returns
returns g c =
    let s = g.S.Suite in
    let takes = accepted c.in-Ok.key (s.accepts c.self.inside.factor) c.in-Ok.ensures.refused in
    let key = c.in-Ok.ensures.value ∙ ap (λ passphrase. s.stretch_of passphrase (stretch_salt c.in-Some.salt) c.self.inside.factor)
    c.expose_secret-2.ensures in
    let stanzas = c.in_ok-push.ensures.items ∙ ap (λ before. before ++ c.in_ok-stanza_of.field-0 ∷ []) c.new-stanzas.ensures.items in
    rw (← c.self.view_is)
    (wraps s.seal_of s.stretch_of s.accepts _ c.args.file_key.now c.args.draw.now c.in-Some.salt c.take.new.self c.in-Some-take.label
    c.take-2.new.self c.in-Ok.key
    c.in_ok-stanza_of.field-0 _ _ c.in-Some.ensures.bytes c.in-Some.ensures.left c.in-Some-take.ensures.bytes c.in-Some-take.ensures.left
    c.expose_secret.ensures.sixteen
    c.known_array.ensures c.known_array-2.ensures takes key c.in_ok-stanza_of.ensures stanzas c.in_ok-labels_with.ensures)

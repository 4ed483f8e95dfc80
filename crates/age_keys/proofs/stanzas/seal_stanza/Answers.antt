use Rattle.std.proofs.Common.{◌∙◌, ap, inl, Ok}
use Rattle.age_v1.specs.RecipientType.{no_nonce}
use Rattle.age_keys.proofs.Strings.{sealed_is}
use Rattle.age_keys.proofs.stanzas.seal_stanza.Goals as goal

pub returns : goal.returns
returns g c =
    inl (ap Ok (sealed_is c.in-Some.stanza _ c.args.tag.now _ _ _ c.in-Some.ensures.value c.in_ok-tag.ensures.ok
    (c.in_ok-body.ensures ∙ ap (λ key. g.S.Suite.seal_of c.args.wrap_key.now no_nonce key) c.expose_secret.ensures.bytes)))

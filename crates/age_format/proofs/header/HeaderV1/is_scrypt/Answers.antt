use Rattle.std.proofs.Common.{◌∙◌, ap, subst, ◌↔◌, IsTrue}
use Rattle.age_format.specs.HeaderV1.{IsScrypt}
use Rattle.age_format.proofs.HeaderTests.{scrypt_told}
use Rattle.age_format.proofs.header.HeaderV1.is_scrypt.Goals as goal

pub returns-in-len1 : goal.returns-in-len1
returns-in-len1 c =
    let told = scrypt_told c.has_tag_scrypt.result c.as_slice.result.now c.stanza-item.result c.in-len1.len_at_least c.in-len1.len_below
    c.stanza-item.is
    c.has_tag_scrypt.ensures in
    subst (λ xs. IsTrue c.has_tag_scrypt.result ↔ IsScrypt xs) (c.as_slice.ensures.value ∙ ap (λ h. h.stanzas) c.self.view_is) told

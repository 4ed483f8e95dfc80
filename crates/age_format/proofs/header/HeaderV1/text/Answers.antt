use Rattle.std.proofs.Common.{◌++◌, ◌∷◌, ◌∙◌, ap}
use Rattle.age_base64.specs.Lines.{line}
use Rattle.age_base64.specs.Base64.{columns}
use Rattle.age_v1.specs.Header.{covered_text, header_text}
use Rattle.age_format.proofs.HeaderWriting.{whole_text}
use Rattle.age_format.proofs.header.HeaderV1.text.Goals as goal

pub returns : goal.returns
returns c =
    let inside = c.self.inside in
    c.in_ok-write_mac.ensures.took ∙ ap (λ t. t ++ 32 ∷ line (columns inside.mac))
    (c.in_ok-text.ensures.text ∙ ap covered_text c.as_slice.ensures.value)
    ∙ whole_text inside.stanzas.items inside.mac ∙ ap (λ h. header_text h.stanzas h.mac) c.self.view_is

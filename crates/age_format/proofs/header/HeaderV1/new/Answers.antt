use Rattle.std.proofs.Common.{◌∙◌, ap}
use Rattle.age_suite.specs.Mac.{hmac_of}
use Rattle.age_v1.specs.Header.{covered_text}
use Rattle.age_v1.specs.HeaderMac.{header_mac}
use Rattle.age_format.proofs.header.HeaderV1.new.Goals as goal

pub returns-clause-mac : goal.returns-clause-mac
unfolding header_mac
returns-clause-mac c =
    let covered = c.as_slice-2.ensures.value ∙ c.in_ok-covered.ensures.text ∙ ap covered_text c.as_slice.ensures.value in
    c.hmac-mac.ensures ∙ ap (λ k. hmac_of k c.as_slice-2.result.now) c.mac_key.ensures
    ∙ ap (λ t. header_mac c.args.file_key.now t) covered

use Rattle.std.proofs.Common.{◌≡◌, [], ◌↔◌, IsTrue, subst}
use Rattle.age_v1.specs.HeaderMac.{header_mac}
use Rattle.age_format.proofs.HeaderTests.{mac_told}
use Rattle.age_format.proofs.old_header.OldHeader.verify_mac.Goals as goal

pub returns : goal.returns
returns c =
    let given = c.update.ensures c.mac_key.result [] c.new-writer.ensures in
    let told = mac_told c.verify.result _ c.mac_key.result c.as_slice.result.now c.args.file_key.now
    c.mac_key.ensures (c.verify.ensures c.mac_key.result _ given) in
    subst (λ h. IsTrue c.verify.result ↔ (h.mac ≡ header_mac c.args.file_key.now h.covered)) c.self.view_is
    (rw c.as_slice.ensures.value at told)

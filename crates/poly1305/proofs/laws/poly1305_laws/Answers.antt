use Rattle.poly1305.proofs.Tags.{length-poly1305_mac, poly1305_mac-bytes}
use Rattle.poly1305.proofs.laws.poly1305_laws.Goals as goal

pub returns-clause-length : goal.returns-clause-length
returns-clause-length c = length-poly1305_mac

pub returns-clause-bytes : goal.returns-clause-bytes
returns-clause-bytes c = poly1305_mac-bytes

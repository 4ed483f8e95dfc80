use Rattle.std.proofs.Common.{refl}
use Rattle.sazh_core.proofs.KeyFiles.{bytes_read}
use Rattle.sazh_core.proofs.keyring.identities_in.Goals as goal

pub returns : goal.returns
returns g c = bytes_read _ _ c.new.result c.args.bytes.now c.from_buffer.result c.from_buffer.ensures.reads refl c.new.ensures.rest (λ e none. none)

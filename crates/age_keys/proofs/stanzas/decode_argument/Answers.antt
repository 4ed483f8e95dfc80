use Rattle.std.proofs.Common.{◌∙◌, ap, length}
use Rattle.age_keys.proofs.Opening.{other_length}
use Rattle.age_keys.proofs.stanzas.decode_argument.Goals as goal

pub returns : goal.returns
returns g c =
    let found = (rw c.in-Some.is at c.in_ok-bytes.ensures.found) in
    λ bytes h same.
    other_length g.row.N c.in-Some.bytes.items bytes c.args.text.now found.0 (found.1 ∙ c.as_bytes.ensures.value)
    (λ size. c.in-Err.ensures.1 (ap length c.as_slice.ensures.value ∙ size)) h same

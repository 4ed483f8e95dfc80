use Rattle.age_keys.proofs.Names.{recipient_wants}
use Rattle.age_keys.proofs.plugin.recipient.Recipient.from_str.Goals as goal

pub returns-in_default-from_str : goal.returns-in_default-from_str
returns-in_default-from_str c =
    recipient_wants c.args.text.now c.in-Some.prefix.now c.as_bytes.result.now c.in-Some-after_front.rest.now c.in-Some.ensures.0 c.in-Some.ensures.1
    c.as_bytes.ensures.value c.in-Some-after_front.ensures c.in-Some-name_in.ensures.1

pub returns-in-Err : goal.returns-in-Err
returns-in-Err c =
    recipient_wants c.args.text.now c.in-Some.prefix.now c.as_bytes.result.now c.in-Some-after_front.rest.now c.in-Some.ensures.0 c.in-Some.ensures.1
    c.as_bytes.ensures.value c.in-Some-after_front.ensures c.in-Some-name_in.ensures.1

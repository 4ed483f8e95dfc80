use Rattle.std.proofs.Common.{◌<◌, All, sym, subst}
use Rattle.std.proofs.lemmas.Str.{IsUtf8-from_ascii}
use Rattle.std.proofs.lemmas.Str.Ascii.{IsAscii-from_all}
use Rattle.age_keys.proofs.Printed.{may_be_written, recipient-size, recipient-ascii}
use Rattle.age_keys.proofs.x25519.recipient.RecipientDisplay.fmt.Goals as goal

pub unreachable-requires : goal.unreachable-requires
unreachable-requires g c = c.in_default.ensures (may_be_written, recipient-size c.self.inside.public c.self.told)

pub unreachable-requires-in-Err : goal.unreachable-requires-in-Err
unreachable-requires-in-Err g c =
    let ascii : All (λ b. b < 128) c.in-Some.text = subst (All (λ b. b < 128)) (sym c.in-Some.ensures.1) (recipient-ascii c.self.inside.public) in
    c.in-Err.ensures.cases.0 (IsUtf8-from_ascii c.in-Some.text (IsAscii-from_all c.in-Some.text ascii))

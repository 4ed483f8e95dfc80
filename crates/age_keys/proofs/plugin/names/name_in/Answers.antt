use Rattle.std.proofs.Common.{◌∙◌, sym}
use Rattle.std.proofs.lemmas.Str.{IsUtf8-from_ascii}
use Rattle.std.proofs.lemmas.Str.Ascii.{IsAscii-from_all}
use Rattle.age_keys.proofs.Names.{name-ascii}
use Rattle.age_keys.proofs.plugin.names.name_in.Goals as goal

pub unreachable-requires : goal.unreachable-requires
unreachable-requires c =
    c.in-Err.ensures.cases.0 (IsUtf8-from_ascii c.args.bytes.now
    (IsAscii-from_all c.args.bytes.now (name-ascii c.args.bytes.now (sym c.is_name.ensures ∙ c.if-not-is_name.false))))

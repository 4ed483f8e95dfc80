use Rattle.std.proofs.Common.{◌∙◌, ap, sym}
use Rattle.age_identity.specs.Entries.{entry_of}
use Rattle.age_identity.proofs.Named.{plugin_text, native_names, native_text, line_same}
use Rattle.age_identity.proofs.identity.text_of_recipients.Goals as goal

pub returns-in-Plugin : goal.returns-in-Plugin
returns-in-Plugin g c =
    c.loop-entry.invariant.written
    ∙ sym (plugin_text c.args.entries.now c.loop-entry.entry-index c.entry-item.result c.loop-entry-test.true c.entry-item.is g.S.Suite.public_of
    c.in-Plugin.field-0
    (ap (λ e. entry_of e) c.in-Plugin.is) c.loop-entry.invariant.native)

pub loop-entry-preserved : goal.loop-entry-preserved
loop-entry-preserved g c =
    let loop = c.loop-entry.invariant in
    let is = ap (λ e. entry_of e) c.in-Native.is in
    record {
      native = native_names c.args.entries.now c.loop-entry.entry-index c.entry-item.result c.loop-entry-test.true c.entry-item.is
          c.in-Native.identity is ∙ loop.native;
      written =
          c.in_ok-writeln-in-Native.ensures.bytes ∙ line_same _ _ _ _ loop.written c.to_public-recipient.ensures
          ∙ sym (native_text c.args.entries.now c.loop-entry.entry-index c.entry-item.result c.loop-entry-test.true c.entry-item.is
          g.S.Suite.public_of c.in-Native.identity is loop.native);
    }

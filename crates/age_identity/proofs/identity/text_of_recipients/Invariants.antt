use Rattle.std.proofs.Common.{◌≡◌, [], map, take, string_bytes}
use Rattle.age_identity.specs.Entries.{entry_of}
use Rattle.age_identity.specs.Converting.{plugin_names, recipients_text}
use Rattle.age_identity.proofs.identity.text_of_recipients.Given as goal

abbrev pub invariant-loop-entry : goal.invariant-loop-entry
invariant-loop-entry g l =
    let before = map (λ e. entry_of e) (take l.entry-index l.entries) in
    record {
      native : plugin_names before ≡ [];
      written : string_bytes l.text ≡ recipients_text g.S.Suite.public_of before;
    }

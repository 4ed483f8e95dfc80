-- What a word names that is no key and no passphrase.
use Rattle.std.specs.Prelude.{◌≢◌, ℕ, List, codes, None}
use Rattle.age.specs.KeyTexts.{IsRefusedAs}
use Rattle.age.specs.X25519.{recipient_prefix, identity_prefix}
use Rattle.age.proofs.RefusedTexts.{refused}
use Rattle.age_bench.specs.Command.{NamesTo, NamesWith, passphrase_word}

pub no_recipient : (word size_message message : List ℕ) → word ≢ codes "bench" → ((passphrase : List ℕ) → word ≢ passphrase_word passphrase)
    → IsRefusedAs recipient_prefix size_message word message → NamesTo word None
no_recipient word size_message message other without is = (other, without, refused recipient_prefix size_message word message is)

pub no_identity : (word size_message message : List ℕ) → word ≢ codes "bench" → ((passphrase : List ℕ) → word ≢ passphrase_word passphrase)
    → IsRefusedAs identity_prefix size_message word message → NamesWith word None
no_identity word size_message message other without is = (other, without, refused identity_prefix size_message word message is)

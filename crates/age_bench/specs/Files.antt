-- Files for the bench identity.
use Rattle.std.specs.Prelude.{ℕ, ◌^◌, ◌≤◌, List, length}
use Rattle.age.specs.Bytes.{AreBytes}
use Rattle.age.specs.Stanza.{StanzaValue}
use Rattle.age.specs.Payload.{LastIsNoMiddle, payload_key}
use Rattle.age.specs.File.{IsFileOf}
use Rattle.age_bench.specs.Bench.{bench_seal}
use Rattle.age_bench.specs.Recipient.{HoldsBenchKey}

-- The bytes are a file of the plaintext, under the file key that the first stanza with the tag `bench` holds.
pub record IsFileForBench (plain text : List ℕ) : Type 0 where
  pub file_key : List ℕ
  pub stanzas : List StanzaValue
  pub is_file : IsFileOf bench_seal file_key stanzas plain text
  pub bytes : AreBytes plain
  pub within : length plain ≤ 2 ^ 60
  pub last : LastIsNoMiddle bench_seal (payload_key file_key is_file.nonce) plain
  pub holds : HoldsBenchKey file_key stanzas

use Rattle.std.specs.Prelude.{option_map}
use Rattle.std.proofs.Common.{take}
use denote.Signature.{static_lft}
use Rattle.age.below.age_armor.specs.contracts.reader.ArmoredReaderRead.TheImpl as armored
use Rattle.age.below.age_io.specs.contracts.buffered.BufReaderBufRead.TheImpl as buffered
use Rattle.age.below.age_io.specs.contracts.buffered.BufReaderRead.TheImpl as buffered_read
use Rattle.age.below.age_io.specs.contracts.memory.BytesRead.TheImpl as bytes
use Rattle.age.specs.contracts.io.BufReader as buffered_reader
use Rattle.age.specs.contracts.io.Bytes as bytes_reader
use Rattle.sazh_core.specs.Keyring.{AreOfFiles}
use Rattle.sazh_core.proofs.keyring.holders_in_all.Given as goal

-- those who have the identities of the files so far
abbrev pub invariant-loop-i : goal.invariant-loop-i
invariant-loop-i g l =
    let row = bytes_reader.the_row static_lft in
    AreOfFiles (armored.ghosts (buffered_reader.the_row row bytes.ghosts) (buffered.ghosts row bytes.ghosts bytes.dict)
    (buffered.dict row bytes.ghosts bytes.dict)
    (buffered_read.ghosts row bytes.ghosts bytes.dict) (buffered_read.dict row bytes.ghosts bytes.dict))
    (take l.i l.fn.files) (option_map (λ t. t.now) l.fn.passphrase) l.holders.items

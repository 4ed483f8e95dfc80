use Rattle.std.proofs.Common.{◌≡◌, sym, ap, arith}
use Rattle.age_io.specs.Stretch.{whole}
use Rattle.age_armor.specs.Reader.{armored_rest}
use Rattle.age_armor.specs.PlaceLemmas.{stands_armored}
use Rattle.age_stream.specs.ReadingLemmas.{and-left, and-right}
use Rattle.age_v1.specs.Identities.{FirstAnswer}
use Rattle.age_protocol.proofs.Decrypted.{both_told}
use Rattle.age_protocol.proofs.Parts.{file_for}
use Rattle.age_protocol.proofs.opening.open_text.Goals as goal

pub returns-in-Err-open_file-clause-plaintext : goal.returns-in-Err-open_file-clause-plaintext
returns-in-Err-open_file-clause-plaintext g c = λ told well file plain carries for never.
    let made = c.in-Ok.ensures in
    let rest : armored_rest c.in-Ok.bytes ≡ whole file = made.honest file well carries in
    c.in-Err-open_file.ensures.plaintext (both_told _ _ _ _ made.tells made.steady told) (ap (λ s. s.ends_well) rest) plain
    (file_for g.S.Suite.seal_of (FirstAnswer g.I.Identity.unwraps c.args.identities.now) plain file (armored_rest c.in-Ok.bytes).bytes
    (sym (ap (λ s. s.bytes) rest)) for)
    (λ t. never t.source.inner.inner)

pub returns-in-Ok-open_file-clause-plaintext : goal.returns-in-Ok-open_file-clause-plaintext
returns-in-Ok-open_file-clause-plaintext g c = λ told well file plain carries for.
    let made = c.in-Ok.ensures in
    let rest : armored_rest c.in-Ok.bytes ≡ whole file = made.honest file well carries in
    c.in-Ok-open_file.ensures.plaintext (both_told _ _ _ _ made.tells made.steady told) (ap (λ s. s.ends_well) rest) plain
    (file_for g.S.Suite.seal_of (FirstAnswer g.I.Identity.unwraps c.args.identities.now) plain file (armored_rest c.in-Ok.bytes).bytes
    (sym (ap (λ s. s.bytes) rest)) for)

pub returns-in-Ok-open_file-clause-opened : goal.returns-in-Ok-open_file-clause-opened
returns-in-Ok-open_file-clause-opened g c =
    let text = c.in-Ok.bytes in
    let made = c.in-Ok.ensures in
    record {
      text = text;
      tells = made.tells;
      steady = made.steady;
      faults = made.faults;
      place = made.place;
      rest = made.rest;
      stands = λ told.
          let text_told = both_told _ _ _ _ made.tells made.steady told in
          stands_armored text (and-left _ _ text_told) (and-right _ _ text_told);
      named = made.named;
      holds = c.in-Ok-open_file.ensures.opened;
    }

pub returns-in-Err-open_file-clause-refused : goal.returns-in-Err-open_file-clause-refused
returns-in-Err-open_file-clause-refused g c =
    let text = c.in-Ok.bytes in
    let made = c.in-Ok.ensures in
    record {
      text = text;
      tells = made.tells;
      steady = made.steady;
      faults = made.faults;
      place = made.place;
      rest = made.rest;
      stands = λ told.
          let text_told = both_told _ _ _ _ made.tells made.steady told in
          stands_armored text (and-left _ _ text_told) (and-right _ _ text_told);
      named = made.named;
      holds = c.in-Err-open_file.ensures.refused;
    }

pub returns-in-Ok-open_file-clause-faults : goal.returns-in-Ok-open_file-clause-faults
returns-in-Ok-open_file-clause-faults g c = omega (arith, c.in-Ok.ensures.faults, c.in-Ok-open_file.ensures.faults)

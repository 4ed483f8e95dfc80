use Rattle.std.proofs.Common.{◌≡◌, ◌∙◌, ap, refl, sym}
use Rattle.age.specs.ArmorReader.{armored_rest}
use Rattle.age.specs.Identities.{FirstAnswer}
use Rattle.age.specs.StreamReadingLemmas.{and-left, and-right}
use Rattle.age.specs.Stretch.{stretch-ext, whole}
use Rattle.age.proofs.Decrypted.{both_told}
use Rattle.age.proofs.Parts.{file_for}
use Rattle.age.proofs.StreamAnswered.{rest-bytes}
use Rattle.age.proofs.StreamStanding.{stand-bytes}
use Rattle.age_claims.proofs.rekey.opened.Goals as goal

pub returns-in-Err-open_file-clause-plaintext : goal.returns-in-Err-open_file-clause-plaintext
returns-in-Err-open_file-clause-plaintext g c = λ told well file plain carries for never.
    let made = c.in-Ok.ensures in
    let rest : armored_rest c.in-Ok.text ≡ whole file = made.honest file well carries in
    c.in-Err-open_file.ensures.plaintext (both_told _ _ _ _ made.tells made.steady told) (ap (λ s. s.ends_well) rest) plain
    (file_for g.S.Suite.seal_of (FirstAnswer g.I.Identity.unwraps c.args.identities.now) plain file (armored_rest c.in-Ok.text).bytes
    (sym (ap (λ s. s.bytes) rest)) for)
    (λ t. never t.source.inner.inner)

pub returns-in-Ok-open_file-clause-plaintext : goal.returns-in-Ok-open_file-clause-plaintext
returns-in-Ok-open_file-clause-plaintext g c = λ told well file plain carries for.
    let made = c.in-Ok.ensures in
    let rest : armored_rest c.in-Ok.text ≡ whole file = made.honest file well carries in
    c.in-Ok-open_file.ensures.plaintext (both_told _ _ _ _ made.tells made.steady told) (ap (λ s. s.ends_well) rest) plain
    (file_for g.S.Suite.seal_of (FirstAnswer g.I.Identity.unwraps c.args.identities.now) plain file (armored_rest c.in-Ok.text).bytes
    (sym (ap (λ s. s.bytes) rest)) for)

pub returns-in-Ok-open_file-clause-carries : goal.returns-in-Ok-open_file-clause-carries
returns-in-Ok-open_file-clause-carries g c = λ told well.
    let made = c.in-Ok.ensures in
    let is = c.in-Ok-open_file.ensures.opened in
    let asks = is.asks in
    let text_told = both_told _ _ _ _ made.tells made.steady told in
    let input_told = both_told _ _ _ _ asks.same.tells asks.same.steady text_told in
    let tells = and-left _ _ told in
    let reader = c.args.reader in
    let file = is.opens.file input_told _ _ _ (asks.front (and-left _ _ text_told)) (stretch-ext _ (whole _) refl well) in
    let bytes = rest-bytes (g.R.Read.content reader) (g.R.Read.rest reader) (g.R.Read.place reader)
    (g.met.R.Read.stands reader tells (and-right _ _ told)) (g.met.R.Read.are_bytes reader tells) in
    let carried = made.carries tells file.0 in (
      carried.0,
      record {
        carried = _;
        carries = carried.1 bytes;
        file_key = is.file_key;
        stanzas = _;
        given = asks.first;
        bytes = stand-bytes g.S.Suite.seal_of _ _ _ _ (c.reader_law.ensures.stands (is.opens.reader.tells ∙ input_told));
        is_file = file.1;
      },
    )

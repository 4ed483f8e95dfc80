use Rattle.std.specs.Prelude.{◌≡◌, ◌∷◌, [], ℕ, List, Some, Ok, Err}
use Rattle.std.proofs.Common.{◌⊎◌}
use Rattle.std.proofs.lemmas.Result.{on_ok_weaker, IfErr-weaker}
use Rattle.age.specs.Armor.{text_of}
use Rattle.age.specs.Copying.{AppendsFront}
use Rattle.age.specs.EncryptErrors.{EncryptRefusal, OutOfMemory}
use Rattle.age.specs.FileErrors.{IfIo, EncryptsUnless}
use Rattle.age.specs.Encrypting.{Prepared, Prepares}
use Rattle.age.specs.File.{file_text}
use Rattle.age.specs.Types.{Error}
use Rattle.age.specs.WholeFiles.{RefusesWriting}
use Rattle.age.proofs.DecryptingStreams.{io_weaker}
use Rattle.age_bench.specs.Bench.{bench_seal}
use Rattle.age_bench.specs.Names.{WrapsTo, file_by}
use Rattle.age_bench.specs.Recipient.{bench_grease}
use Rattle.age_bench.proofs.Wrapped.{encrypts_weaker, filed, never_filed}
use Rattle.age_bench.proofs.file.encrypt_to.Goals as goal

pub returns-clause-file : goal.returns-clause-file
returns-clause-file g c = λ reader_told writer_told.
    on_ok_weaker c.encrypt_all.result
    (λ done.
    let (file, prepares, made) = done in
    let by_draws : Prepares WrapsTo (c.args.to ∷ []) (Some bench_grease) c.args.draw (Ok file) c.encrypt_all.new.draw =
    rw c.in_ok-grease.ensures.value at prepares in
    (_, filed c.args.to c.args.draw (g.R.Read.rest c.args.reader.now).bytes file _ by_draws, made.ended, made.out))
    (c.encrypt_all.ensures.file reader_told writer_told)

pub returns-clause-front : goal.returns-clause-front
returns-clause-front g c = λ reader_told writer_told.
    let to = c.args.to in
    let draw = c.args.draw in
    let left = c.encrypt_all.new.draw in
    let plain = (g.R.Read.rest c.args.reader.now).bytes in
    let begins : List ℕ → Type 0 =
    λ text. AppendsFront g.W.Write.appended (text_of c.args.format text) c.args.writer.now c.encrypt_all.new.writer in
    let made : Error → Type 0 = λ _. (file : Prepared) × Prepares WrapsTo (to ∷ []) (Some bench_grease) draw (Ok file) left
    × begins (file_text bench_seal file.file_key file.stanzas file.nonce plain) in
    let told : Error → Type 0 = λ _. (text : List ℕ) × (file_by to draw plain ≡ Ok text) × begins text in
    IfErr-weaker c.encrypt_all.result (IfIo made) (IfIo told)
    (io_weaker made told (λ _ cut. (_, filed to draw plain cut.0 left cut.1, cut.2)))
    (rw c.in_ok-grease.ensures.value at c.encrypt_all.ensures.front reader_told writer_told)

pub returns-clause-why : goal.returns-clause-why
returns-clause-why g c =
    let to = c.args.to in
    let draw = c.args.draw in
    let left = c.encrypt_all.new.draw in
    let comes : EncryptRefusal → Type 0 = λ refusal. Prepares WrapsTo (to ∷ []) (Some bench_grease) draw (Err refusal) left in
    let told : EncryptRefusal → Type 0 = λ refusal. (refusal ≡ OutOfMemory) ⊎ ((plain : List ℕ) → file_by to draw plain ≡ Err refusal) in
    IfErr-weaker c.encrypt_all.result (EncryptsUnless comes) (EncryptsUnless told)
    (encrypts_weaker comes told (λ refusal prepares. never_filed to draw refusal left prepares))
    (rw c.in_ok-grease.ensures.value at c.encrypt_all.ensures.why)

pub returns-clause-io : goal.returns-clause-io
returns-clause-io g c =
    let draw = c.args.draw in
    let reader = c.args.reader.now in
    let caused : Error → Type 0 = RefusesWriting g.R.Read g.W.Write reader c.encrypt_all.new.reader c.args.writer.now c.encrypt_all.new.writer in
    let told : Error → Type 0 =
    λ e. ((file : Prepared) × Prepares WrapsTo (c.args.to ∷ []) (Some bench_grease) draw (Ok file) c.encrypt_all.new.draw) × caused e in
    IfErr-weaker c.encrypt_all.result (IfIo told) (IfIo caused) (io_weaker told caused (λ e why. why.1))
    (rw c.in_ok-grease.ensures.value at c.encrypt_all.ensures.io)

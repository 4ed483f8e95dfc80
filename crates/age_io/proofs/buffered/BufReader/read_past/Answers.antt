use Rattle.std.proofs.Common.{ap, inr, refl, subst, sym, ◌-◌, ◌≡◌, ◌∙◌}
use Rattle.std.proofs.lemmas.Result.{IfOk-from_err}
use Rattle.age_error.specs.ErrorLemmas.{of_error}
use Rattle.age_io.specs.Buffered.{rest_of}
use Rattle.age_io.specs.Buffering.{held, rest_behind}
use Rattle.age_io.specs.Stretch.{IsFault}
use Rattle.age_io.proofs.Appending.{OnErr-of}
use Rattle.age_io.proofs.Holding.{rest-empty}
use Rattle.age_io.proofs.buffered.BufReader.read_past.Goals as goal

pub returns-in_err-count-clause-reads : goal.returns-in_err-count-clause-reads
returns-in_err-count-clause-reads g c =
    let read = c.in_err-count.ensures in
    let old = c.args.self.now in
    let same : rest_of old ≡ g.R.Read.rest old.inner =
    ap (λ failed. rest_behind failed (held old.buffer.items old.given old.filled) (g.R.Read.rest old.inner)) c.requires.good
    ∙ rest-empty old.buffer.items old.given old.filled (g.R.Read.rest old.inner) c.requires.empty in
    let refused = c.from_residual.ensures.0 in
    let is = c.from_residual.ensures.1 in
    record {
      count = IfOk-from_err _ _ refused;
      same_tells = read.reads.same_tells;
      same_steady = read.reads.same_steady;
      no_fewer_faults = read.reads.no_fewer_faults;
      device = of_error _ _ _ is read.reads.device;
      unspent = IfOk-from_err _ _ refused;
      why = of_error _ _ _ is (inr read.reads.why);
      narrows = IfOk-from_err _ _ refused;
      again = of_error _ _ _ is (λ i. absurd (read.patient i));
      same_content = read.reads.same_content;
      bytes = λ told. IfOk-from_err _ _ refused;
      moves = λ told. IfOk-from_err _ _ refused;
      end = λ told. IfOk-from_err _ _ refused;
      stays = λ told. OnErr-of _ (ap (λ place. place - (old.filled - old.given)) (read.reads.stays told));
      left = λ told. OnErr-of _ (inr refl);
      interrupted = λ told. of_error _ _ _ is (λ i. absurd (read.patient i));
      cause = λ told. of_error _ _ _ is (λ other quiet. subst IsFault (sym same) (read.reads.cause told other quiet));
    }

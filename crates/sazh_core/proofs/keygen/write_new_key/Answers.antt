use Rattle.std.proofs.Common.{◌≡◌, ◌∙◌, ap, inr, refl}
use Rattle.sazh_core.specs.Keygen.{key_file}
use Rattle.sazh_core.proofs.Secrets.{all_of, all_taken, front_of, then_none}
use Rattle.sazh_core.proofs.keygen.write_new_key.Goals as goal

pub returns-in-Err : goal.returns-in-Err
returns-in-Err g c =
    let gave = c.in_ok-draw.ensures in
    let (secret, drawn, text_is) = c.in_ok-text.ensures.text in
    let is : c.deref.result.now ≡ key_file g.S.Suite.public_of c.in_ok-draw.draw =
    c.deref.ensures.value ∙ text_is ∙ ap (λ s. key_file g.S.Suite.public_of s) (all_taken 32 c.in_ok-draw.draw secret drawn gave.1) in
    let writes = c.in-Err.ensures.writes in
    record {
      key = λ told. tt;
      front = λ told.
          let (n, fits, out) = writes.takes_front told in
          inr (c.in_ok-draw.draw, gave, front_of g.W.Write.appended n _ _ c.args.writer.now c.write_all.new.writer is out);
      random = tt;
      refused = λ none. absurd none;
      why = tt;
      io = (_, writes.why);
    }

pub returns-in-Err-flush_retrying : goal.returns-in-Err-flush_retrying
returns-in-Err-flush_retrying g c =
    let gave = c.in_ok-draw.ensures in
    let (secret, drawn, text_is) = c.in_ok-text.ensures.text in
    let is : c.deref.result.now ≡ key_file g.S.Suite.public_of c.in_ok-draw.draw =
    c.deref.ensures.value ∙ text_is ∙ ap (λ s. key_file g.S.Suite.public_of s) (all_taken 32 c.in_ok-draw.draw secret drawn gave.1) in
    let writes = c.in-Ok.ensures.writes in
    let flushes = c.in-Err-flush_retrying.ensures.flushes in
    record {
      key = λ told. tt;
      front = λ told.
          inr (
            c.in_ok-draw.draw,
            gave,
            all_of g.W.Write.appended _ _ c.args.writer.now c.flush_retrying.new.writer is
                (then_none g.W.Write.appended g.met.W.Write.joins _ _ _ _ _ refl (writes.takes_all told)
                (flushes.nothing (writes.same_tells ∙ told))),
          );
      random = tt;
      refused = λ none. absurd none;
      why = tt;
      io = (_, writes.narrows 0 _ flushes.why);
    }

pub returns : goal.returns
returns g c =
    let gave = c.in_ok-draw.ensures in
    let (secret, drawn, text_is) = c.in_ok-text.ensures.text in
    let is : c.deref.result.now ≡ key_file g.S.Suite.public_of c.in_ok-draw.draw =
    c.deref.ensures.value ∙ text_is ∙ ap (λ s. key_file g.S.Suite.public_of s) (all_taken 32 c.in_ok-draw.draw secret drawn gave.1) in
    let writes = c.in-Ok.ensures.writes in
    let flushes = c.in-Ok-flush_retrying.ensures.flushes in
    record {
      key = λ told. (
        c.in_ok-draw.draw,
        gave,
        then_none g.W.Write.appended g.met.W.Write.joins _ _ _ _ _ is (writes.takes_all told)
            (flushes.nothing (writes.same_tells ∙ told)),
      );
      front = λ told.
          inr (
            c.in_ok-draw.draw,
            gave,
            all_of g.W.Write.appended _ _ c.args.writer.now c.flush_retrying.new.writer is
                (then_none g.W.Write.appended g.met.W.Write.joins _ _ _ _ _ refl (writes.takes_all told)
                (flushes.nothing (writes.same_tells ∙ told))),
          );
      random = tt;
      refused = tt;
      why = tt;
      io = tt;
    }

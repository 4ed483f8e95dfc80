use Rattle.std.proofs.Common.{rules, arith, map, refl, vec_items}
use Rattle.age_records.specs.Text.{records_text}
use Rattle.age_records.proofs.Sent.{none-sent, put-sent}
use Rattle.age_records.proofs.writing.write_records.Goals as goal

pub returns-then-not-is_plaintext : goal.returns-then-not-is_plaintext
returns-then-not-is_plaintext g c =
    let text = records_text (map vec_items c.args.records.now) in
    let past = c.is_plaintext.ensures.no (search rules) in
    record {
      writes = λ fits. absurd (omega (arith, fits, past));
      bytes = λ fits. absurd (omega (arith, fits, past));
      past_limit = λ long. (refl, refl);
      in_limit = λ fits. absurd (omega (arith, fits, past));
      sent = λ told. none-sent g.S.Suite.seal_of g.W.Write g.met.W.Write.appends_nothing c.args.writer.now text;
    }

pub returns : goal.returns
returns g c =
    let text = records_text (map vec_items c.args.records.now) in
    let fits = c.is_plaintext.ensures.yes (search rules) in
    record {
      writes = λ _. c.put_text.ensures;
      bytes = λ _. c.is_plaintext.ensures.bytes (search rules);
      past_limit = λ past. absurd (omega (arith, fits, past));
      in_limit = λ _. search rules;
      sent =
          put-sent g.S.Suite.seal_of g.W.Write c.args.writer.now c.put_text.new.writer text c.put_text.result
          c.sent_law.ensures.calls c.put_text.ensures;
    }

use Rattle.std.proofs.Common.{rules, inl, inr, sym}
use Rattle.std.proofs.lemmas.Bool.{true≢false}
use Rattle.age_armor.proofs.Sent.{front-begun}
use Rattle.age_armor.proofs.writer.ArmoredWriter.begin_armor.Goals as goal

pub returns-in-Ok-write_begin-clause-wraps : goal.returns-in-Ok-write_begin-clause-wraps
returns-in-Ok-write_begin-clause-wraps g c = record {
  made = search rules;
  empty = search rules;
  same_tells = search rules;
  no_fewer_faults = search rules;
  narrows = λ n e h. elim h [ inl failed ↦ absurd (true≢false (sym failed.0)) | inr going ↦ c.in-Ok-write_begin.ensures.keeps.narrows e going.1 ];
  binary = search rules;
  why = search rules;
  patient = search rules;
}

pub returns-in-Err-write_begin-clause-front : goal.returns-in-Err-write_begin-clause-front
returns-in-Err-write_begin-clause-front g c = λ told bytes.
    front-begun g.W.Write.appended bytes c.args.inner c.write_begin.new.inner (c.in-Err-write_begin.ensures.front told)

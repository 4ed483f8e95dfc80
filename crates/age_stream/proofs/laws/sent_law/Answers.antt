use Rattle.std.proofs.Common.{[], arith, inl, inr, subst, sym}
use Rattle.std.proofs.lemmas.Bool.{cases_Bool}
use Rattle.std.proofs.lemmas.List.{append-nil}
use Rattle.age_io.specs.Copying.{AppendsFront}
use Rattle.age_v1.specs.Payload.{payload}
use Rattle.age_stream.specs.WritingLemmas.{sealed-front}
use Rattle.age_stream.proofs.Sent.{sends-front_of_payload, sends-payload}
use Rattle.age_stream.proofs.laws.sent_law.Goals as goal

pub returns : goal.returns
returns g c = record {
  write = sends-payload g.S.Suite.seal_of g.W.Write.appended g.met.W.Write.joins;
  calls = sends-front_of_payload g.S.Suite.seal_of g.W.Write.appended;
  close = λ start before key plain first after made given same sent. elim (cases_Bool before.failed) [
    | inl failed ↦ subst (λ w. AppendsFront g.W.Write.appended (payload g.S.Suite.seal_of key plain) first w) (sym (same failed))
        (rw append-nil at (sends-front_of_payload g.S.Suite.seal_of g.W.Write.appended start before key plain [] first made given))
    | inr good ↦ sealed-front g.S.Suite.seal_of g.W.Write.appended g.met.W.Write.joins before after
        (omega (arith, before.one_piece, before.held.ok.0)) good sent
        start key plain first made given
  ];
}

use Rattle.age_v1.proofs.ReopenedPayloads.{payload-delivered}
use Rattle.age_v1.proofs.HonestPayloads.{delivered-payload}
use Rattle.age_v1.proofs.ShortenedPayloads.{shortened, lengthened}
use Rattle.age_stream.proofs.laws.delivery_laws.Goals as goal

pub returns : goal.returns
returns g c =
    let seal_of = g.S.Suite.seal_of in
    let opened = g.S.Suite.opened in
    let law = g.met.S.Suite.cipher in
    record {
      opens_to_payload = λ key s plain k b is. payload-delivered seal_of opened law key k s plain b is;
      payload_opens = λ key plain k b most apart. delivered-payload seal_of opened law key k plain b most apart;
      cut_payload = λ key plain n k b most fits. shortened seal_of opened law key k plain n b most fits;
      nothing_after_last = λ key s i last plain k b held more is. lengthened seal_of opened law key k s i last plain b held more is;
    }

use Rattle.age_v1.proofs.Payloads.{payload-bytes, plain_len-payload, payload-one, held-middle, held-last, not_refused}
use Rattle.age_stream.proofs.laws.payload_laws.Goals as goal

pub returns : goal.returns
returns g c =
    let seal_of = g.S.Suite.seal_of in
    let opened = g.S.Suite.opened in
    let law = g.met.S.Suite.cipher in
    record {
      length = λ key plain k b. payload-bytes seal_of opened law key k plain b;
      plain_length = λ key plain k b. plain_len-payload seal_of opened law key k plain b;
      one_plaintext = λ key p q k b d e. payload-one seal_of opened law key k p q b d e;
      middle_chunks = λ key plain k b i l. held-middle seal_of opened law key k plain i b l;
      last_chunk = λ key plain k b apart. held-last seal_of opened law key k plain b apart;
      not_refused = λ key plain k b apart error refusal. not_refused seal_of opened law key k plain b apart error refusal;
    }

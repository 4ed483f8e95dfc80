use Rattle.std.proofs.Common.{rules, ◌≡◌, IsTrue, inr, subst}
use Rattle.age_v1.specs.HeaderMac.{header_mac}
use Rattle.age_v1.specs.Header.{covered_text}
use Rattle.age_v1.specs.Payload.{payload_key}
use Rattle.age_stream.specs.NewReader.{IsReaderOf}
use Rattle.age_protocol.proofs.Fronts.{file_of}
use Rattle.age_protocol.proofs.decryptor.Decryptor.decrypt_with.Goals as goal

pub returns : goal.returns
returns g c =
    let self = c.args.self in
    let file_key = c.args.file_key.now in
    let yes : IsTrue c.verify_mac.result = search rules in
    let right : self.header.mac ≡ header_mac file_key (covered_text self.header.stanzas) = c.verify_mac.ensures.0 yes in
    let reader : IsReaderOf (payload_key file_key self.nonce) self.input c.in_ok-reader.reader =
    subst (λ key. IsReaderOf key self.input c.in_ok-reader.reader) c.payload_key_of-key.ensures c.in_ok-reader.ensures.made in
    inr (
      right,
      record {
        right = right;
        reader = reader;
        file = λ told start start_place plain front all.
            file_of g.S.Suite.seal_of file_key self.header self.nonce start (g.R.Read.rest self.input) start_place (g.R.Read.place self.input)
            plain right front (reader.success told plain all);
      },
    )

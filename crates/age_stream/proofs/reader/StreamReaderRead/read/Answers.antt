use Rattle.std.proofs.Common.{rules, ◌≡◌, refl, true, ◌+◌, ◌*◌, ◌<◌, ◌^◌, ◌-◌}
use Rattle.std.proofs.lemmas.List.Elements.{All-drop}
use Rattle.std.proofs.lemmas.Result.{IfOk-weaker}
use Rattle.age_stream.specs.Reading.{payload_from, rest_of}
use Rattle.age_v1.specs.DeliveredPayload.{payload_delivers}
use Rattle.age_v1.proofs.OpenedTexts.{shorter, opens_bytes}
use Rattle.age_v1.proofs.DeliveredSizes.{delivered-bytes}
use Rattle.age_stream.specs.ReadingLemmas.{and-left, and-right, stream_stands}
use Rattle.age_stream.proofs.Answered.{end-found, front-either}
use Rattle.age_stream.proofs.reader.StreamReaderRead.read.Goals as goal

pub returns-clause-gives : goal.returns-clause-gives
returns-clause-gives g c =
    let answers = c.read_on.ensures.answers in
    record {
      gives = answers.gives;
      ended = λ told. IfOk-weaker c.read_on.result _ _ (λ n is none some. is none) (answers.ended told);
      finished = λ told unsought.
          let self = c.args.self.now in
          let source = self.source in
          let read = g.R.Read in
          let suite = g.S.Suite in
          let law = g.met.S.Suite.cipher in
          let content = read.content source.inner in
          let bytes = g.met.R.Read.are_bytes source.inner (and-left _ _ told) in
          let short = shorter suite.seal_of suite.opened law self.key self.key_bytes in
          let payload = payload_from source in
          let rest = rest_of suite.opened self.key self.place self.cache (read.rest source.inner) in
          let stands = λ (well : (payload_delivers suite.opened self.key 0 payload).ends_well ≡ true).
          stream_stands suite.opened self.key short self.place self.cache source told bytes (λ held. (self.chunk held).in_chunk) (self.sound told)
          (g.met.R.Read.stands source.inner (and-left _ _ told) (and-right _ _ told)) well in
          IfOk-weaker c.read_on.result _ _
          (λ n clean none some. end-found suite.seal_of suite.opened law self.key self.key_bytes payload
          (payload_delivers suite.opened self.key 0 payload)
          rest _
          (All-drop (λ x. x < 2 ^ 8) (read.place source.inner - source.taken) content.bytes bytes)
          (delivered-bytes suite.opened self.key short (opens_bytes suite.seal_of suite.opened law self.key self.key_bytes) 0
          (read.place source.inner - source.taken) content bytes) refl
          (λ well. (stands well).within)
          (front-either self.place.sought (payload_delivers suite.opened self.key 0 payload) rest (65536 * self.place.number + self.place.at)
          (λ is. (self.sound told).front is c.if-self.false) (λ is. (stands (unsought is)).reaches)) (clean none some))
          (c.read_on.ensures.reads.end told);
      inner_end = answers.inner_end;
    }

pub returns-clause-refuses : goal.returns-clause-refuses
returns-clause-refuses g c =
    let read_on = c.read_on.ensures in
    record {
      patient = search rules;
      refused = λ told good. read_on.answers.refused told;
      by_itself = λ told good apart. read_on.answers.by_itself told apart;
      after_last = λ told good after. read_on.answers.after_last told after;
      names = λ good. read_on.names;
      says = λ good. read_on.says;
    }

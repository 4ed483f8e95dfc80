use Rattle.std.proofs.Common.{◌≡◌, ◌∙◌, ap, refl, arith, ◌≤◌, ◌<◌, ◌+◌, ◌-◌, ◌^◌, length, take, drop}
use Rattle.std.proofs.lemmas.List.Elements.{All-drop}
use Rattle.std.specs.Prelude.{min}
use Rattle.age_stream.specs.Reading.{payload_at}
use Rattle.age_v1.proofs.OpenedTexts.{shorter}
use Rattle.age_stream.specs.ReadingLemmas.{and-left}
use Rattle.age_stream.proofs.Cached.{moved-in}
use Rattle.age_stream.proofs.Answered.{gives-held}
use Rattle.age_stream.proofs.Holding.{sound-given, gives, copied}
use Rattle.age_stream.proofs.reader.StreamReader.give.Goals as goal

pub invariant_of-self-2 : goal.invariant_of-self-2
invariant_of-self-2 g c =
    let self = c.args.self.now in
    let place = self.place in
    let within : place.at + c.min-count.result ≤ length self.cache.first.piece.items =
    omega (arith, (self.chunk c.requires.held).in_chunk, self.cache.first.piece.ok.0) in
    let small = (self.chunk c.requires.held).small in
    record {
      key_bytes = self.key_bytes;
      chunk = λ held. moved-in place.number place.at _ self.cache _ refl refl (omega arith) within (self.chunk held);
      count_fits = self.count_fits;
      unspent = self.unspent;
      kept = λ told. record { first = (self.kept told).first; other = (self.kept told).other };
      sound = λ told.
          sound-given g.S.Suite.opened self.key place self.cache self.source (self.sound told)
          (shorter g.S.Suite.seal_of g.S.Suite.opened g.met.S.Suite.cipher self.key self.key_bytes) _ _ c.min-count.result
          (g.met.R.Read.are_bytes self.source.inner (and-left _ _ told)) c.requires.good c.requires.held within small
          (record { number = refl; at = refl; held = c.requires.held; sought = refl; good = c.requires.good }) refl refl;
    }

-- what was given is the front of what was left of the chunk
pub returns-clause-bytes : goal.returns-clause-bytes
returns-clause-bytes g c =
    let self = c.args.self.now in
    let place = self.place in
    let within : place.at + c.min-count.result ≤ length self.cache.first.piece.items =
    omega (arith, (self.chunk c.requires.held).in_chunk, self.cache.first.piece.ok.0) in
    gives g.S.Suite.opened self.key place _ self.cache _ c.min-count.result (g.R.Read.rest self.source.inner) _ c.requires.good c.requires.held
    (record { number = refl; at = refl; held = c.requires.held; sought = refl; good = c.requires.good }) refl refl
    (copied self.cache.first.piece.items c.copy_from_slice.new.self (drop c.min-count.result c.args.buf.now) place.at c.min-count.result within
    (rw c.deref.ensures.value at c.copy_from_slice.ensures.after))

pub returns-clause-gives : goal.returns-clause-gives
returns-clause-gives g c = λ told some.
    let self = c.args.self.now in
    let read = g.R.Read in
    let content = read.content self.source.inner in
    let within : self.place.at + c.min-count.result ≤ length self.cache.first.piece.items =
    omega (arith, (self.chunk c.requires.held).in_chunk, self.cache.first.piece.ok.0) in
    let front = copied self.cache.first.piece.items c.copy_from_slice.new.self (drop c.min-count.result c.args.buf.now) self.place.at
    c.min-count.result
    within
    (rw c.deref.ensures.value at c.copy_from_slice.ensures.after) in
    let count : c.min-count.result ≡ min (length c.args.buf.now) (length self.cache.first.piece.items - self.place.at) =
    omega (arith, c.min-count.ensures, self.cache.first.piece.ok.0) in
    gives-held g.S.Suite.seal_of g.S.Suite.opened g.met.S.Suite.cipher self.key self.key_bytes
    (payload_at (read.place self.source.inner) self.source.taken content) self.place.number self.place.at (length c.args.buf.now)
    self.cache.first.last
    self.cache.first.piece.items _
    (All-drop (λ x. x < 2 ^ 8) (read.place self.source.inner - self.source.taken) content.bytes (g.met.R.Read.are_bytes self.source.inner (and-left
    _ _ told)))
    ((self.sound told).is_held c.requires.held) ((self.chunk c.requires.held).small) (omega (arith, some, count))
    (front ∙ ap (λ n. take n (drop self.place.at self.cache.first.piece.items)) count)

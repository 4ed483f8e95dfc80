use Rattle.std.proofs.Common.{◌≡◌, arith, length, refl, false}
use Rattle.age_stream.proofs.Holding.{rest-passed, middle-by, sound-passed}
use Rattle.age_stream.proofs.reader.StreamReader.pass.Goals as goal

pub returns-then-self-len-clause-passes : goal.returns-then-self-len-clause-passes
returns-then-self-len-clause-passes g c =
    let self = c.args.self.now in
    let chunk = self.cache.first.piece.items in
    let given : self.place.at ≡ length chunk = omega (arith, c.if-self-len.true, c.len.ensures, self.cache.first.piece.ok.0) in
    let middle = middle-by self.cache.first.last self.place.at (length chunk) (c.requires.more c.if-self.true) (omega (arith, given)) in
    record {
      good = c.requires.good;
      source = refl;
      key = refl;
      sought = refl;
      cache = refl;
      opens = refl;
      place = omega (arith, given, (self.chunk c.if-self.true).full middle);
      rest = rest-passed g.S.Suite.opened self.key self.place _ self.cache (g.R.Read.rest self.source.inner) c.requires.good c.if-self.true middle
          given
          (record { number = refl; at = refl; held = refl; sought = refl; good = c.requires.good });
      wanted = search;
    }

pub invariant_of-self-then-self-len-3-clause-sound : goal.invariant_of-self-then-self-len-3-clause-sound
invariant_of-self-then-self-len-3-clause-sound g c = λ told.
    let self = c.args.self.now in
    let chunk = self.cache.first.piece.items in
    let given : self.place.at ≡ length chunk = omega (arith, c.if-self-len.true, c.len.ensures, self.cache.first.piece.ok.0) in
    let middle : self.cache.first.last ≡ false = middle-by self.cache.first.last self.place.at (length chunk) (c.requires.more c.if-self.true)
    (omega (arith, given)) in
    sound-passed g.S.Suite.opened self.key self.place self.cache self.source (self.sound told) _ c.requires.good c.if-self.true middle given
    ((self.chunk c.if-self.true).full middle) (record { number = refl; at = refl; held = refl; sought = refl; good = c.requires.good })

pub returns-then-self-len-clause-spared : goal.returns-then-self-len-clause-spared
returns-then-self-len-clause-spared g c =
    let self = c.args.self.now in
    let given : self.place.at ≡ length self.cache.first.piece.items = omega (arith, c.if-self-len.true, c.len.ensures, self.cache.first.piece.ok.0) in
    let middle : self.cache.first.last ≡ false = middle-by self.cache.first.last self.place.at (length self.cache.first.piece.items)
    (c.requires.more c.if-self.true)
    (omega (arith, given)) in
    rw (c.if-self.true, middle) (omega arith)

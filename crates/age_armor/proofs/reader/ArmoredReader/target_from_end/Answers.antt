use Rattle.std.proofs.Common.{◌≡◌, arith, length, to_z-of_z, w64}
use Rattle.std.proofs.lemmas.Result.{IfOk-weaker}
use Rattle.age_error.specs.declared.io.SeekFrom.TheVariants.{End}
use Rattle.age_io.specs.Cursor.{sought, target}
use Rattle.age_v1.proofs.DeliveredArmors.{content_short}
use Rattle.age_armor.specs.Reader.{origin_of, armored_content}
use Rattle.age_armor.proofs.Aiming.{from-known-end, aims_within, aims_outside}
use Rattle.age_armor.proofs.reader.ArmoredReader.target_from_end.Goals as goal

pub returns-clause-well : goal.returns-clause-well
returns-clause-well g c = λ told steady. ((c.args.self.now.sound.known told).end c.args.len c.requires steady).well

pub returns-clause-exact : goal.returns-clause-exact
returns-clause-exact g c = λ told steady place.
    let before = c.args.self.now in
    let is = (before.sound.known told).end c.args.len c.requires steady in
    let fits = content_short (g.R.Read.content before.source.inner) (origin_of before)
    (g.met.R.Read.are_bytes before.source.inner told) (g.met.R.Read.short before.source.inner told) in
    from-known-end _ c.args.distance c.args.len _ c.from_end.result
    (to_z-of_z {w = w64} c.ranges.distance) is.same fits c.from_end.ensures.exact place

pub returns-clause-within : goal.returns-clause-within
returns-clause-within g c = λ told steady.
    let before = c.args.self.now in
    let is = (before.sound.known told).end c.args.len c.requires steady in
    let met = (before.sound.known told).met c.args.len c.requires in
    let len = length (armored_content before).bytes in
    let exact : c.from_end.result ≡ sought (End c.args.distance) 0 len = returns-clause-exact g c told steady 0 in
    IfOk-weaker c.from_end.result _ _ (λ n within. (within, omega (arith, within, is.same, met)))
    (aims_within c.from_end.result (target (End c.args.distance) 0 len) len exact)

pub returns-clause-outside : goal.returns-clause-outside
returns-clause-outside g c = λ told steady.
    let len = length (armored_content c.args.self.now).bytes in
    let exact : c.from_end.result ≡ sought (End c.args.distance) 0 len = returns-clause-exact g c told steady 0 in
    aims_outside c.from_end.result (target (End c.args.distance) 0 len) len exact

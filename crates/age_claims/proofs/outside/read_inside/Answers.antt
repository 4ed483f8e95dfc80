use Rattle.std.proofs.lemmas.Result.{IfOk-weaker, IfErr-weaker}
use Rattle.age.specs.StreamReader.{inner_of, payload_of, place_of}
use Rattle.age_claims.proofs.Sought.{leads_inside, refused_outside}
use Rattle.age_claims.proofs.outside.read_inside.Goals as goal

pub returns-clause-inside : goal.returns-clause-inside
returns-clause-inside g c = λ told.
    IfOk-weaker c.read_at.result _ _
    (λ count led. leads_inside (payload_of c.args.reader.now) c.args.place (place_of c.args.reader.now) led.0 led.1)
    (c.read_at.ensures.gives.order told)

pub returns-clause-outside : goal.returns-clause-outside
returns-clause-outside g c = λ told silent.
    IfErr-weaker c.read_at.result _ _
    (λ e says. refused_outside g.R.Read.refuses (inner_of c.args.reader.now) (payload_of c.args.reader.now) c.args.place (place_of c.args.reader.now)
    e says silent)
    (c.read_at.ensures.refuses.outside told)

use Rattle.age_format.proofs.States.{opens_body, bad_after}
use Rattle.age_format.proofs.state.judge_after.Goals as goal

pub returns-in-Some : goal.returns-in-Some
returns-in-Some c = λ text h lacks.
    let (middle, some, texts, spelled) = h.read in
    let s = (rw c.in-Some.is at c.in_ok-stanza.ensures) in
    let r = opens_body c.args.legacy text c.args.next.now middle c.in-Some.stanza c.args.done.items texts spelled s.0 s.1 s.2 lacks h.goes in
    record { read = r.0; goes = r.1 }

pub returns-in-None : goal.returns-in-None
returns-in-None c = λ text h lacks.
    let (middle, some, texts, spelled) = h.read in
    bad_after c.args.legacy text c.args.next.now middle c.args.done.items spelled lacks h.goes (rw c.in_default.is at c.in_ok-stanza.ensures)
    (rw c.in-None.is at c.in_ok-mac.ensures)

use Rattle.std.proofs.Common.{◌≡◌, get_or, inr}
use Rattle.std.proofs.lemmas.List.{take_more}
use Rattle.sazh_core.proofs.Named.{first_refused, word_added}
use Rattle.sazh_core.proofs.words.keys_of_words.Goals as goal

pub returns-in-Err : goal.returns-in-Err
returns-in-Err g c =
    let word = c.index-words-i.result in
    let is : word ≡ get_or c.args.words.now c.loop-i.i word = c.index-words-i.is in
    inr (first_refused g.S.Suite.public_of _ _ c.args.words.now c.loop-i.i word _ c.in-Err.error c.loop-i-test.true c.loop-i.invariant
    (rw is at c.in-Err.ensures))

pub loop-i-preserved : goal.loop-i-preserved
loop-i-preserved g c =
    let word = c.index-words-i.result in
    let is : word ≡ get_or c.args.words.now c.loop-i.i word = c.index-words-i.is in
    rw (take_more c.args.words.now c.loop-i.i word c.loop-i-test.true, c.in-Ok-joined.ensures, ← is)
    (word_added g.S.Suite.public_of _ _ _ _ c.loop-i.invariant c.in-Ok.ensures)

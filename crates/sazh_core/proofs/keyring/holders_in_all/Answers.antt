use Rattle.std.proofs.Common.{◌≡◌, get_or, inr}
use Rattle.std.proofs.lemmas.List.{take_more}
use Rattle.sazh_core.proofs.KeyFiles.{file_added, file_refused}
use Rattle.sazh_core.proofs.keyring.holders_in_all.Goals as goal

pub returns-in-Err : goal.returns-in-Err
returns-in-Err g c =
    let file = c.index-files-i.result in
    let is : file ≡ get_or c.args.files.now c.loop-i.i file = c.index-files-i.is in
    inr (file_refused _ _ c.args.files.now c.loop-i.i file _ c.in-Err.error c.loop-i-test.true c.loop-i.invariant (rw is at c.in-Err.ensures))

pub loop-i-preserved : goal.loop-i-preserved
loop-i-preserved g c =
    let file = c.index-files-i.result in
    let is : file ≡ get_or c.args.files.now c.loop-i.i file = c.index-files-i.is in
    rw (take_more c.args.files.now c.loop-i.i file c.loop-i-test.true, c.in-Ok-joined.ensures, ← is)
    (file_added _ _ _ _ _ _ c.loop-i.invariant c.in-Ok.ensures)

use Rattle.age_bench.proofs.Answered.{file_for}
use Rattle.age_bench.proofs.opening.open_with.Goals as goal

pub returns-clause-plaintext : goal.returns-clause-plaintext
returns-clause-plaintext g c = λ told well plain for.
    c.open_file.ensures.plaintext told well plain (file_for c.args.with plain (g.T.Read.rest c.args.bytes).bytes for)

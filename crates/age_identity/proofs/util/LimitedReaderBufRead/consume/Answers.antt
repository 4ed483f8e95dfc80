use Rattle.age_identity.proofs.Within.{consumes_within}
use Rattle.age_identity.proofs.util.LimitedReaderBufRead.consume.Goals as goal

pub returns : goal.returns
returns g c =
    let before = c.args.self.now in
    consumes_within g.R.Read g.R.BufRead.shown before.inner c.consume.new.self before.left c.args.amount before.past c.requires c.consume.ensures

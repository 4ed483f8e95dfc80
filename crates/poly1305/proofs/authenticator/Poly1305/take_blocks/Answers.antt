use Rattle.std.proofs.Common.{◌≡◌, ◌++◌}
use Rattle.std.proofs.lemmas.List.{append_assoc, take-append-drop}
use Rattle.poly1305.proofs.authenticator.Poly1305.take_blocks.Goals as goal

pub returns-else-blocks-lt-LONG-clause-given : goal.returns-else-blocks-lt-LONG-clause-given
returns-else-blocks-lt-LONG-clause-given c = λ key text given.
    let groups = c.split_at.result.0.now in
    let last = c.split_at.result.1.now in
    let whole : groups ++ last ≡ c.args.blocks.now = rw (c.split_at.ensures.front, c.split_at.ensures.back) (take-append-drop _ _) in
    let all = c.take_each-else-blocks-lt-LONG.ensures.given key _ (c.take_groups.ensures.given key text given) in
    rw (append_assoc, whole) at all

use Rattle.std.proofs.Common.{◌≡◌, ◌++◌, ◌∙◌, ap}
use Rattle.std.proofs.lemmas.List.{append_assoc, take-append-drop}
use Rattle.poly1305.proofs.authenticator.Poly1305.take_unbegun.Goals as goal

pub returns : goal.returns
returns c = λ key text given.
    let blocks = c.split_at.result.0.now in
    let last = c.split_at.result.1.now in
    let both : blocks ++ last ≡ c.args.bytes.now = rw (c.split_at.ensures.front, c.split_at.ensures.back) (take-append-drop _ _) in
    let all = c.hold.ensures key _ (c.take_blocks.ensures.given key text given) in
    rw (append_assoc text blocks last ∙ ap (λ xs. text ++ xs) both) at all

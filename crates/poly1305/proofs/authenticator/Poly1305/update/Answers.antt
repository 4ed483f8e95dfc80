use Rattle.std.proofs.Common.{◌≡◌, ◌++◌, ◌∙◌, ap}
use Rattle.std.proofs.lemmas.List.{append_assoc, take-append-drop}
use Rattle.poly1305.proofs.authenticator.Poly1305.update.Goals as goal

pub returns-else-bytes-free : goal.returns-else-bytes-free
returns-else-bytes-free c = λ key text given.
    let front = c.split_at.result.0.now in
    let rest = c.split_at.result.1.now in
    let both : front ++ rest ≡ c.args.bytes.now = rw (c.split_at.ensures.front, c.split_at.ensures.back) (take-append-drop _ _) in
    let all = c.take_unbegun-else-bytes-free.ensures key _ (c.complete.ensures.given key text given) in
    rw (append_assoc text front rest ∙ ap (λ xs. text ++ xs) both) at all

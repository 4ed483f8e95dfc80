use Rattle.std.proofs.lemmas.Result.{MatchResult-from_both, MatchResult-weaker}
use Rattle.age_error.specs.DecryptErrors.{decrypt_refusal}
use Rattle.age_protocol.proofs.simple.decrypt.Goals as goal

pub returns-clause-honest : goal.returns-clause-honest
returns-clause-honest g c = λ carried plain carries for.
    MatchResult-weaker c.plaintext_of.result
    (MatchResult-from_both c.plaintext_of.result _ _ c.plaintext_of.ensures.success c.plaintext_of.ensures.refused)
    (λ given is. c.carried_files.ensures.gives_back _ _ _ carried plain given.items carries for is)
    (λ e why. c.carried_files.ensures.refuses_none _ _ _ carried plain (decrypt_refusal e) carries for why)

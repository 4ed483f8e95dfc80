use Rattle.std.proofs.lemmas.Result.{IfOk-weaker}
use Rattle.age_claims.proofs.Changed.{behind_front, same_file}
use Rattle.age_claims.proofs.Written.{no_other}
use Rattle.age_claims.proofs.tampered.decrypted_beside_a_file.Goals as goal

pub returns-clause-other_plaintext : goal.returns-clause-other_plaintext
returns-clause-other_plaintext g c = λ file plain for. no_other _ _ c.decrypt.result (λ carries. c.decrypt.ensures.honest file plain carries for)

pub returns-clause-follows : goal.returns-clause-follows
returns-clause-follows g c = λ file plain rest for carries.
    IfOk-weaker c.decrypt.result _ _
    (λ given d. behind_front g.S.Suite.seal_of g.I.Identity.unwraps c.args.identity.now c.decrypt.new.identity c.args.text.now file plain rest
    given.items for c.header_text_reads_back.ensures c.verdict_is_unique.ensures c.carried_is_unique.ensures carries d)
    c.decrypt.ensures.success

pub returns-clause-same_plaintext : goal.returns-clause-same_plaintext
returns-clause-same_plaintext g c = λ file plain rest for carries.
    IfOk-weaker c.decrypt.result _ _
    (λ given d same. same_file g.S.Suite.seal_of g.I.Identity.unwraps c.args.identity.now c.decrypt.new.identity c.args.text.now file plain rest
    given.items for
    (behind_front g.S.Suite.seal_of g.I.Identity.unwraps c.args.identity.now c.decrypt.new.identity c.args.text.now file plain rest given.items for
    c.header_text_reads_back.ensures c.verdict_is_unique.ensures c.carried_is_unique.ensures carries d) same)
    c.decrypt.ensures.success

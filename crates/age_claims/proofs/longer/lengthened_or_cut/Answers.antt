use Rattle.std.proofs.Common.{◌++◌, sym, subst}
use Rattle.std.proofs.lemmas.Result.{IfOk-weaker}
use Rattle.age.specs.File.{IsFileOf}
use Rattle.age_claims.proofs.longer.lengthened_or_cut.Goals as goal

pub returns-clause-added : goal.returns-clause-added
returns-clause-added g c = λ key stanzas plain file more bytes f carries.
    IfOk-weaker c.decrypt.result _ _
    (λ given d same. c.no_longer_file.ensures key d.file_key stanzas d.stanzas plain _ file more bytes d.bytes f
    (subst (λ l. IsFileOf g.S.Suite.seal_of d.file_key d.stanzas _ l) (c.carried_is_unique.ensures _ d.carried (file ++ more) d.carries carries)
    d.is_file) (sym same))
    c.decrypt.ensures.success

pub returns-clause-cut : goal.returns-clause-cut
returns-clause-cut g c = λ key stanzas plain front more bytes f carries.
    IfOk-weaker c.decrypt.result _ _
    (λ given d same. c.no_longer_file.ensures d.file_key key d.stanzas stanzas _ plain front more d.bytes bytes
    (subst (λ l. IsFileOf g.S.Suite.seal_of d.file_key d.stanzas _ l) (c.carried_is_unique.ensures _ d.carried front d.carries carries) d.is_file) f
    same)
    c.decrypt.ensures.success

use Rattle.std.proofs.Common.{refl, vec_items}
use Rattle.age_slices.proofs.Decrypted.{decrypts_err, decrypts_ok}
use Rattle.age_slices.proofs.decrypting.plaintext_by.Goals as goal

pub returns-in-Ok : goal.returns-in-Ok
returns-in-Ok g c =
    decrypts_ok g.I.Identity.unwraps g.S.Suite _ _ vec_items _ _ _ c.new-reader.result c.new-plain.result c.decrypt_all.new.writer refl
    c.new-reader.ensures.rest c.new-plain.ensures.items c.in-Ok.field-0 refl (λ plain appended. appended)
    c.carried_is_unique.ensures c.one_plaintext.ensures.header c.one_plaintext.ensures.plaintext c.in-Ok.ensures

pub returns-in-Err : goal.returns-in-Err
returns-in-Err g c =
    decrypts_err g.I.Identity.unwraps g.S.Suite _ _ vec_items _ _ _ c.new-reader.result c.new-plain.result c.decrypt_all.new.writer refl
    c.new-reader.ensures.rest c.new-plain.ensures.items c.in-Err.error (λ r. refl) (λ n d is. is) c.in-Err.ensures

use Rattle.std.proofs.Common.{◌∙◌, ap, inl, inr, refl, sym}
use Rattle.age.specs.Stretch.{Stretch}
use Rattle.age.specs.FileErrorVariants.{Io}
use Rattle.age.proofs.Decrypted.{both_told}
use Rattle.age.proofs.Parts.{file_for}
use Rattle.sazh_core.proofs.rekeying.rekey.Goals as goal

pub returns-in-Err-clause-steps : goal.returns-in-Err-clause-steps
returns-in-Err-clause-steps g c = inl (_, refl, inl (ap Io c.in-Err.ensures.memory), refl, refl)

pub returns-in-Err-open_file-clause-steps : goal.returns-in-Err-open_file-clause-steps
returns-in-Err-open_file-clause-steps g c =
    let text = c.in-Ok.ensures in
    inl (
      _,
      refl,
      inr (
        _,
        refl,
        (
          c.in-Ok.text,
          record { tells = text.tells; steady = text.steady; faults = text.faults; place = text.place; rest = text.rest; honest = text.honest },
          c.in-Err-open_file.ensures.refused,
        ),
      ),
      refl,
      refl,
    )

pub returns-clause-steps : goal.returns-clause-steps
returns-clause-steps g c =
    let text = c.in-Ok.ensures in
    inr (
      c.in-Ok.text,
      record { tells = text.tells; steady = text.steady; faults = text.faults; place = text.place; rest = text.rest; honest = text.honest },
      (c.in-Ok-open_file.stream, c.encrypt_to_keys.new.reader, c.in-Ok-open_file.ensures.opened, c.encrypt_to_keys.ensures),
    )

pub returns-clause-plaintext : goal.returns-clause-plaintext
returns-clause-plaintext g c = λ told well writer_told file plain carries for.
    let text = c.in-Ok.ensures in
    let made = c.in-Ok-open_file.ensures in
    let rest = text.honest file well carries in
    let text_told = both_told _ _ _ _ text.tells text.steady told in
    let stands = made.plaintext text_told (ap (λ (s : Stretch). s.ends_well) rest) plain
    (file_for g.S.Suite.seal_of _ plain file _ (sym (ap (λ (s : Stretch). s.bytes) rest)) for) in
    rw stands.rest at (c.encrypt_to_keys.ensures.file (made.tells ∙ text_told) writer_told)

use Rattle.std.proofs.Common.{◌≡◌, ◌^◌, length, map, vec_items, Ok, refl, sym, subst, inl, inr}
use Rattle.std.proofs.lemmas.Bool.{cases_lt}
use Rattle.age.specs.File.{file_text}
use Rattle.age_records.specs.Text.{records_text}
use Rattle.age_examples.specs.Keys.{IsWhole}
use Rattle.age_examples.proofs.RecordsBack.{memory-alone}
use Rattle.age_examples.proofs.records_there_and_back.file_of_records.Goals as goal

pub returns-in-Err-write_records-clause-refused : goal.returns-in-Err-write_records-clause-refused
returns-in-Err-write_records-clause-refused g c =
    let text = records_text (map vec_items c.args.records.now) in
    let refused = c.in-Err-write_records.ensures in
    let made = c.in-Ok-wrap_output.ensures.starts.made in
    elim (cases_lt (2 ^ 60) (length text)) [
      | inl long ↦ let is = (refused.past_limit long).0 in inr (cc, long)
      | inr fits ↦ inl (memory-alone c.in-Ok-wrap_output.writer (length text) _ _ made fits c.in-Err-write_records.error
          (refused.writes fits).writes.why)
    ]

pub returns-in-Ok-finish-clause-made : goal.returns-in-Ok-finish-clause-made
returns-in-Ok-finish-clause-made g c =
    let seal_of = g.S.Suite.seal_of in
    let prepared = c.in-Ok.encryptor in
    let plain = records_text (map vec_items c.args.records.now) in
    let text = file_text seal_of prepared.file_key prepared.stanzas prepared.nonce plain in
    let started = c.in-Ok-wrap_output.ensures in
    let written = c.in-Ok-write_records.ensures in
    elim (cases_lt (2 ^ 60) (length plain)) [
      | inl long ↦ let is = (written.past_limit long).0 in absurd (cc)
      | inr fits ↦
          let bytes = written.bytes fits in
          let is : c.in-Ok-finish.file.items ≡ text =
          rw c.new.ensures.items at (started.file refl plain c.write_records.new.writer (Ok c.in-Ok-finish.file)
          ((written.writes fits).writes.takes_all refl) (c.in-Ok-finish.ensures.ok refl)) in (
            prepared,
            c.in-Ok.ensures,
            subst (λ file. IsWhole seal_of prepared plain file) (sym is) (record {
              bytes = bytes;
              within = fits;
              text = refl;
              is_file = started.is_file plain;
              carries = c.files_carry_themselves.ensures _ _ _ text (started.bytes plain bytes) (started.is_file plain);
            }),
          )
    ]

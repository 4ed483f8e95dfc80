use Rattle.std.proofs.Common.{◌∙◌, refl, inl, inr, IsTrue, arith, subst, sym}
use Rattle.age_error.specs.DecryptErrors.{decrypt_of_io}
use Rattle.age_io.specs.Reading.{TriedAgain}
use Rattle.age_protocol.specs.Migrating.{Migrates}
use Rattle.age_protocol.proofs.Migrating.{is_under, begun_front, front_and_begun, copy_refuses}
use Rattle.age_protocol.proofs.Reasons.{refused_as}
use Rattle.age_protocol.proofs.migrate.carry_over.Goals as goal

pub returns-in_err-write_all : goal.returns-in_err-write_all
returns-in_err-write_all g c =
    let h = c.in_ok-header.field-0.header in
    let nonce = c.in_ok-header.field-0.nonce in
    let input = c.args.reader.now in
    let rest = c.read.new.reader in
    let old = c.args.writer.now in
    let begins = c.in_ok-header.ensures in
    let (answer, first, rewrites) = c.in_ok-header-2.ensures in
    let under = is_under g.I.Identity.unwraps g.R.Read c.args.identities.now c.rewritten.new.identities input rest c.in_ok-header.field-0 _
    c.in_ok-header-2.header
    c.in_ok-text.ensures.text begins answer first rewrites in
    let e = c.in_err-write_all.field-0.0 in
    let writes = (rw (c.deref.ensures.value ∙ under.front) at c.in_err-write_all.ensures.writes) in
    refused_as (λ r. Migrates g.I.Identity.unwraps g.R.Read g.W.Write c.args.identities.now c.rewritten.new.identities input rest old
    c.write_all.new.writer r)
    _ (decrypt_of_io e) c.from_residual-in_err-write_all.ensures.1 (record {
      done = λ told writer_told. tt;
      front = λ told writer_told.
          let (n, most, out) = writes.takes_front writer_told in
          inr (
            h,
            nonce,
            rest,
            under.key,
            under.asks,
            under.right,
            begun_front g.W.Write.appended _
                (g.R.Read.rest rest).bytes old c.write_all.new.writer n out,
          );
      refused = inr (inr (
        h,
        nonce,
        rest,
        under.key,
        under.asks,
        under.right,
        record {
          error = e;
          is = refl;
          device = λ device. inr (writes.device device);
          why = inr (inr (inl (_, writes.why)));
          quiet = λ told well quiet. inr (_, writes.why);
        },
      ));
    })

pub returns-in_err-copy_all : goal.returns-in_err-copy_all
returns-in_err-copy_all g c =
    let h = c.in_ok-header.field-0.header in
    let nonce = c.in_ok-header.field-0.nonce in
    let input = c.args.reader.now in
    let rest = c.read.new.reader in
    let old = c.args.writer.now in
    let begins = c.in_ok-header.ensures in
    let (answer, first, rewrites) = c.in_ok-header-2.ensures in
    let under = is_under g.I.Identity.unwraps g.R.Read c.args.identities.now c.rewritten.new.identities input rest c.in_ok-header.field-0 _
    c.in_ok-header-2.header
    c.in_ok-text.ensures.text begins answer first rewrites in
    let e = c.in_err-copy_all.field-0.0 in
    let writes = (rw (c.deref.ensures.value ∙ under.front) at c.in_ok-write_all.ensures.writes) in
    let copies = c.in_err-copy_all.ensures in
    refused_as (λ r. Migrates g.I.Identity.unwraps g.R.Read g.W.Write c.args.identities.now c.rewritten.new.identities input c.copy_all.new.reader
    old c.copy_all.new.writer r)
    _ (decrypt_of_io e) c.from_residual-in_err-copy_all.ensures.1 (record {
      done = λ told writer_told. tt;
      front = λ told writer_told.
          inr (
            h,
            nonce,
            rest,
            under.key,
            under.asks,
            under.right,
            front_and_begun g.W.Write.appended _ (g.R.Read.rest rest).bytes old g.met.W.Write.joins c.write_all.new.writer c.copy_all.new.writer
                (writes.takes_all writer_told) (copies.front (begins.keeps.tells ∙ told) (writes.same_tells ∙ writer_told)),
          );
      refused = inr (inr (
        h,
        nonce,
        rest,
        under.key,
        under.asks,
        under.right,
        record {
          error = e;
          is = refl;
          device = λ device.
              elim (copies.device device) [
                | inl reader ↦ inl (omega (arith, begins.keeps.faults, reader))
                | inr writer ↦ inr (omega (arith, writes.no_fewer_faults, writer))
              ];
          why = copy_refuses (TriedAgain g.R.Read.refuses) g.W.Write.refuses input rest old c.write_all.new.writer _ _ _ _ e begins.narrows
              writes.narrows
              (λ told. begins.keeps.tells ∙ told) copies.named;
          quiet = λ told well quiet.
              elim (copies.why (begins.keeps.tells ∙ told) (subst (λ b. IsTrue b) (sym (begins.front told).took.delivered.end) well)
              (record { same = omega (arith, quiet.same, begins.keeps.faults, copies.left.same.faults); below = quiet.below })) [
                | inl memory ↦ inl memory
                | inr writer ↦ inr (_, writes.narrows _ e writer)
              ];
        },
      ));
    })

pub returns : goal.returns
returns g c =
    let h = c.in_ok-header.field-0.header in
    let nonce = c.in_ok-header.field-0.nonce in
    let input = c.args.reader.now in
    let rest = c.read.new.reader in
    let old = c.args.writer.now in
    let begins = c.in_ok-header.ensures in
    let (answer, first, rewrites) = c.in_ok-header-2.ensures in
    let under = is_under g.I.Identity.unwraps g.R.Read c.args.identities.now c.rewritten.new.identities input rest c.in_ok-header.field-0 _
    c.in_ok-header-2.header
    c.in_ok-text.ensures.text begins answer first rewrites in
    let writes = (rw (c.deref.ensures.value ∙ under.front) at c.in_ok-write_all.ensures.writes) in
    let copies = c.in_ok-copy_all.ensures in
    record {
      done = λ told writer_told.
          let (well, all) = copies.all (begins.keeps.tells ∙ told) (writes.same_tells ∙ writer_told) in (
            h,
            nonce,
            rest,
            under.key,
            under.asks,
            under.right,
            (
              well,
              copies.stands.bytes (begins.keeps.tells ∙ told),
              g.met.W.Write.joins old c.write_all.new.writer c.copy_all.new.writer _ _ (writes.takes_all writer_told) all,
            ),
          );
      front = λ told writer_told.
          inr (
            h,
            nonce,
            rest,
            under.key,
            under.asks,
            under.right,
            front_and_begun g.W.Write.appended _ (g.R.Read.rest rest).bytes old g.met.W.Write.joins c.write_all.new.writer c.copy_all.new.writer
                (writes.takes_all writer_told) (copies.front (begins.keeps.tells ∙ told) (writes.same_tells ∙ writer_told)),
          );
      refused = tt;
    }

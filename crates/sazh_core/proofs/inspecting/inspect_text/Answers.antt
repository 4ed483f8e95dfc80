use Rattle.std.proofs.Common.{◌∙◌, arith, refl, subst, sym}
use Rattle.age.specs.HeaderV1.{IsHeaderValue}
use Rattle.sazh_core.proofs.Inspected.{rest_refused}
use Rattle.sazh_core.specs.Inspecting.{AreLengths}
use Rattle.sazh_core.specs.Placing.{inner_of}
use Rattle.sazh_core.proofs.inspecting.inspect_text.Goals as goal

pub returns-in-Err : goal.returns-in-Err
returns-in-Err g c = λ zero. record {
  exact = λ told. tt;
  refused = λ told. (inner_of c.read.new.reader, sym (c.count.ensures (c.in-Err.ensures.keeps.tells ∙ told)), c.in-Err.ensures.refused told);
}

pub returns-in-Err-copy_all : goal.returns-in-Err-copy_all
returns-in-Err-copy_all g c = λ zero.
    record {
      exact = λ told. tt;
      refused = rest_refused g.T.Read (inner_of c.args.text.now)
          (inner_of c.read.new.reader) c.new-rest.result c.count-in-Err-copy_all.result c.in-Err-copy_all.why
          c.new-rest.ensures c.in-Ok.ensures.narrows c.in-Ok.ensures.keeps.tells (λ told.
          let read = c.in-Ok.ensures.header told in
          let tells = c.in-Ok.ensures.keeps.tells ∙ told in
          let moved = c.in-Err-copy_all.ensures.left.moves tells in
          let counted = c.count-in-Err-copy_all.ensures (c.in-Err-copy_all.ensures.left.same.tells ∙ tells) in (
            record {
              header = c.in-Ok.header;
              is_header = subst (λ h. IsHeaderValue h) c.header.view_is c.header.invariant;
              rest = (g.T.Read.rest (inner_of c.read.new.reader)).bytes;
              whole = read.delivered.bytes;
              within = Prim.omega (arith, zero, read.moved, moved, counted);
            },
            refl,
          )) c.in-Err-copy_all.ensures.named;
    }

pub returns-in-Ok-copy_all : goal.returns-in-Ok-copy_all
returns-in-Ok-copy_all g c = λ zero.
    record {
      exact = λ told.
          let read = c.in-Ok.ensures.header told in
          let tells = c.in-Ok.ensures.keeps.tells ∙ told in
          let copied = c.in-Ok-copy_all.ensures.all tells refl in
          record {
            rest = (g.T.Read.rest (inner_of c.read.new.reader)).bytes;
            header = c.stanzas.ensures.header;
            whole = read.delivered.bytes;
            well = sym read.delivered.end ∙ copied.0;
            header_length = Prim.omega (arith, zero, read.moved, c.count-header_length.ensures tells);
            rest_length = Prim.omega (arith, copied.1, c.new-rest.ensures, c.count-in-Ok-copy_all.ensures);
            rule = rw c.stanzas.ensures.stanzas at c.keeps_scrypt_rule.ensures;
            lengths = subst (λ n. AreLengths n c.lengths_of.result)
                (Prim.omega (arith, copied.1, c.new-rest.ensures, c.count-in-Ok-copy_all-2.ensures)) c.lengths_of.ensures;
          };
      refused = tt;
    }

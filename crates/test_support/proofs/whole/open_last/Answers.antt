use Rattle.std.proofs.Common.{◌≡◌, ◌<◌, length, Some, None, true, sym, ◌∙◌, arith, inr}
use Rattle.std.proofs.lemmas.Bool.{eqb-true, eqb-false}
use Rattle.age_error.specs.declared.io.Error.TheVariants.{BadChunk, LastChunkEmpty, TooLong, AfterLast}
use Rattle.age_v1.specs.Payload.{chunk_nonce, chunk}
use Rattle.age_v1.specs.PayloadRefusals.{IsAllowed}
use Rattle.age_v1.proofs.Cuts.{slice-bytes, array-bytes}
use Rattle.age_v1.proofs.FrontToEnd.{refused_memory, refused_at, is_bad, held_empty, held_last, opened_whole, opened_limit}
use Rattle.test_support.proofs.whole.open_last.Goals as goal
use Rattle.test_support.proofs.whole.open_last.Goals.{else-i-gt0-via-then-i-gt0+else-is_empty, else-i-gt0-via-else-i-gt0}

pub returns-in_err-open-clause-err : goal.returns-in_err-open-clause-err
returns-in_err-open-clause-err g c =
    refused_memory g.S.Suite.seal_of c.args.key.now c.args.sealed.now c.from_residual.result c.from_residual.ensures

pub returns-in_err-extend_from_slice-in-Some-clause-err : goal.returns-in_err-extend_from_slice-in-Some-clause-err
returns-in_err-extend_from_slice-in-Some-clause-err g c =
    refused_memory g.S.Suite.seal_of c.args.key.now c.args.sealed.now (c.from_residual-in_err-extend_from_slice-in-Some).result
    (c.from_residual-in_err-extend_from_slice-in-Some).ensures

pub returns-in-None-clause-err : goal.returns-in-None-clause-err
returns-in-None-clause-err g c =
    let key = array-bytes 32 c.args.key.now c.told-key c.fits-key in
    let bytes = slice-bytes c.args.sealed.now c.type_inv.sealed in
    let none : g.S.Suite.opened c.args.key.now (chunk_nonce c.args.i true) (chunk c.args.i c.args.sealed.now) ≡ None =
    sym (rw (c.nonce_of.ensures, c.chunk_at.ensures, c.in-None.is) at c.in_ok-open.ensures.value) in
    refused_at g.S.Suite.seal_of g.S.Suite.opened g.met.S.Suite.cipher c.args.key.now key c.args.sealed.now bytes
    c.args.i c.args.out.items BadChunk c.requires.opened c.requires.reach (
      c.requires.there,
      is_bad g.S.Suite.seal_of g.S.Suite.opened g.met.S.Suite.cipher c.args.key.now key c.args.sealed.now bytes c.args.i c.requires.not_middle none,
    )

pub returns-then-is_empty-clause-err : goal.returns-then-is_empty-clause-err
returns-then-is_empty-clause-err g c =
    let key = array-bytes 32 c.args.key.now c.told-key c.fits-key in
    let bytes = slice-bytes c.args.sealed.now c.type_inv.sealed in
    let some : g.S.Suite.opened c.args.key.now (chunk_nonce c.args.i true) (chunk c.args.i c.args.sealed.now) ≡ Some c.in-Some.piece.items =
    sym (rw (c.nonce_of.ensures, c.chunk_at.ensures, c.in-Some.is) at c.in_ok-open.ensures.value) in
    let held = held_last g.S.Suite.seal_of g.S.Suite.opened g.met.S.Suite.cipher c.args.key.now key c.args.sealed.now bytes
    c.args.i c.in-Some.piece.items c.requires.not_middle some in
    let empty = eqb-true c.in-Some.piece.len 0 (sym c.is_empty.ensures ∙ c.if-is_empty.true) in
    let none : length c.in-Some.piece.items ≡ 0 = omega (arith, c.in-Some.piece.ok.0, empty) in
    refused_at g.S.Suite.seal_of g.S.Suite.opened g.met.S.Suite.cipher c.args.key.now key c.args.sealed.now bytes
    c.args.i c.args.out.items LastChunkEmpty c.requires.opened c.requires.reach (
      omega arith,
      held_empty g.S.Suite.seal_of g.S.Suite.opened g.met.S.Suite.cipher c.args.key.now key c.args.sealed.now bytes c.args.i c.in-Some.piece.items
          none held,
    )

pub returns-then-i-ge-MOST_CHUNKS-clause-err : goal.returns-then-i-ge-MOST_CHUNKS-clause-err
returns-then-i-ge-MOST_CHUNKS-clause-err g c =
    let key = array-bytes 32 c.args.key.now c.told-key c.fits-key in
    let bytes = slice-bytes c.args.sealed.now c.type_inv.sealed in
    let some : g.S.Suite.opened c.args.key.now (chunk_nonce c.args.i true) (chunk c.args.i c.args.sealed.now) ≡ Some c.in-Some.piece.items =
    sym (rw (c.nonce_of.ensures, c.chunk_at.ensures, c.in-Some.is) at c.in_ok-open.ensures.value) in
    let held = held_last g.S.Suite.seal_of g.S.Suite.opened g.met.S.Suite.cipher c.args.key.now key c.args.sealed.now bytes
    c.args.i c.in-Some.piece.items c.requires.not_middle some in
    let more : 0 < c.args.i → 0 < length c.in-Some.piece.items = λ l.
    elim c.else-i-gt0.branch [
      | else-i-gt0-via-then-i-gt0+else-is_empty w ↦
          let some_byte = eqb-false c.in-Some.piece.len 0 (sym w.is_empty.ensures ∙ w.if-is_empty.false) in
          omega (arith, c.in-Some.piece.ok.0, some_byte)
      | else-i-gt0-via-else-i-gt0 w ↦ absurd (omega (arith, w.if-i-gt0.false))
    ] in
    refused_at g.S.Suite.seal_of g.S.Suite.opened g.met.S.Suite.cipher c.args.key.now key c.args.sealed.now bytes
    c.args.i c.args.out.items TooLong c.requires.opened c.requires.reach (omega arith, (c.in-Some.piece.items, more (omega arith), inr held))

pub returns-then-left-gt-CHUNK-clause-err : goal.returns-then-left-gt-CHUNK-clause-err
returns-then-left-gt-CHUNK-clause-err g c =
    let key = array-bytes 32 c.args.key.now c.told-key c.fits-key in
    let bytes = slice-bytes c.args.sealed.now c.type_inv.sealed in
    let some : g.S.Suite.opened c.args.key.now (chunk_nonce c.args.i true) (chunk c.args.i c.args.sealed.now) ≡ Some c.in-Some.piece.items =
    sym (rw (c.nonce_of.ensures, c.chunk_at.ensures, c.in-Some.is) at c.in_ok-open.ensures.value) in
    let held = held_last g.S.Suite.seal_of g.S.Suite.opened g.met.S.Suite.cipher c.args.key.now key c.args.sealed.now bytes
    c.args.i c.in-Some.piece.items c.requires.not_middle some in
    let more : 0 < c.args.i → 0 < length c.in-Some.piece.items = λ l.
    elim c.else-i-gt0.branch [
      | else-i-gt0-via-then-i-gt0+else-is_empty w ↦
          let some_byte = eqb-false c.in-Some.piece.len 0 (sym w.is_empty.ensures ∙ w.if-is_empty.false) in
          omega (arith, c.in-Some.piece.ok.0, some_byte)
      | else-i-gt0-via-else-i-gt0 w ↦ absurd (omega (arith, w.if-i-gt0.false))
    ] in
    let allowed : IsAllowed c.args.i c.in-Some.piece.items = record { some = more; limit = λ _. omega arith } in
    refused_at g.S.Suite.seal_of g.S.Suite.opened g.met.S.Suite.cipher c.args.key.now key c.args.sealed.now bytes
    c.args.i c.args.out.items AfterLast c.requires.opened c.requires.reach (omega arith, (c.in-Some.piece.items, allowed, held))

pub returns-in_ok-extend_from_slice-in-Some-clause-ok : goal.returns-in_ok-extend_from_slice-in-Some-clause-ok
returns-in_ok-extend_from_slice-in-Some-clause-ok g c =
    let key = array-bytes 32 c.args.key.now c.told-key c.fits-key in
    let bytes = slice-bytes c.args.sealed.now c.type_inv.sealed in
    let some : g.S.Suite.opened c.args.key.now (chunk_nonce c.args.i true) (chunk c.args.i c.args.sealed.now) ≡ Some c.in-Some.piece.items =
    sym (rw (c.nonce_of.ensures, c.chunk_at.ensures, c.in-Some.is) at c.in_ok-open.ensures.value) in
    let held = held_last g.S.Suite.seal_of g.S.Suite.opened g.met.S.Suite.cipher c.args.key.now key c.args.sealed.now bytes
    c.args.i c.in-Some.piece.items c.requires.not_middle some in
    let more : 0 < c.args.i → 0 < length c.in-Some.piece.items = λ l.
    elim c.else-i-gt0.branch [
      | else-i-gt0-via-then-i-gt0+else-is_empty w ↦
          let some_byte = eqb-false c.in-Some.piece.len 0 (sym w.is_empty.ensures ∙ w.if-is_empty.false) in
          omega (arith, c.in-Some.piece.ok.0, some_byte)
      | else-i-gt0-via-else-i-gt0 w ↦ absurd (omega (arith, w.if-i-gt0.false))
    ] in
    let allowed : IsAllowed c.args.i c.in-Some.piece.items = record { some = more; limit = λ _. omega arith } in
    let out = c.in_ok-extend_from_slice-in-Some.ensures.items in
    rw (out, c.deref.ensures.value) (opened_whole g.S.Suite.seal_of g.S.Suite.opened g.met.S.Suite.cipher c.args.key.now key c.args.sealed.now bytes
    c.args.i c.args.out.items c.in-Some.piece.items c.requires.opened (omega arith) allowed held)

pub returns-in_ok-extend_from_slice-in-Some-clause-limit : goal.returns-in_ok-extend_from_slice-in-Some-clause-limit
returns-in_ok-extend_from_slice-in-Some-clause-limit g c =
    let key = array-bytes 32 c.args.key.now c.told-key c.fits-key in
    let bytes = slice-bytes c.args.sealed.now c.type_inv.sealed in
    let some : g.S.Suite.opened c.args.key.now (chunk_nonce c.args.i true) (chunk c.args.i c.args.sealed.now) ≡ Some c.in-Some.piece.items =
    sym (rw (c.nonce_of.ensures, c.chunk_at.ensures, c.in-Some.is) at c.in_ok-open.ensures.value) in
    let held = held_last g.S.Suite.seal_of g.S.Suite.opened g.met.S.Suite.cipher c.args.key.now key c.args.sealed.now bytes
    c.args.i c.in-Some.piece.items c.requires.not_middle some in
    let more : 0 < c.args.i → 0 < length c.in-Some.piece.items = λ l.
    elim c.else-i-gt0.branch [
      | else-i-gt0-via-then-i-gt0+else-is_empty w ↦
          let some_byte = eqb-false c.in-Some.piece.len 0 (sym w.is_empty.ensures ∙ w.if-is_empty.false) in
          omega (arith, c.in-Some.piece.ok.0, some_byte)
      | else-i-gt0-via-else-i-gt0 w ↦ absurd (omega (arith, w.if-i-gt0.false))
    ] in
    let allowed : IsAllowed c.args.i c.in-Some.piece.items = record { some = more; limit = λ _. omega arith } in
    let out = c.in_ok-extend_from_slice-in-Some.ensures.items in
    rw (out, c.deref.ensures.value) (opened_limit g.S.Suite.seal_of g.S.Suite.opened g.met.S.Suite.cipher c.args.key.now key c.args.sealed.now bytes
    c.args.i c.args.out.items c.in-Some.piece.items c.requires.opened c.requires.reach allowed held)

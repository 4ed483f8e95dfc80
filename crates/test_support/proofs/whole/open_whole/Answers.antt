use Rattle.std.proofs.Common.{◌≡◌, Some, None, false, sym, arith, inl}
use Rattle.age_error.specs.declared.io.Error.TheVariants.{Truncated, TooLong}
use Rattle.age_v1.specs.Payload.{chunk_nonce, chunk}
use Rattle.age_v1.proofs.Cuts.{slice-bytes, array-bytes}
use Rattle.age_v1.proofs.FrontToEnd.{refused_memory, refused_at, not_middle, short_not_middle, held_middle, middle_plain-size, opened_more}
use Rattle.test_support.proofs.whole.open_whole.Goals as goal

pub returns-in_err-open-clause-err : goal.returns-in_err-open-clause-err
returns-in_err-open-clause-err g c =
    refused_memory g.S.Suite.seal_of c.args.key.now c.args.sealed.now c.from_residual.result c.from_residual.ensures

pub returns-in_err-extend_from_slice-in-Some-clause-err : goal.returns-in_err-extend_from_slice-in-Some-clause-err
returns-in_err-extend_from_slice-in-Some-clause-err g c =
    refused_memory g.S.Suite.seal_of c.args.key.now c.args.sealed.now (c.from_residual-in_err-extend_from_slice-in-Some).result
    (c.from_residual-in_err-extend_from_slice-in-Some).ensures

pub open_last-requires-clause-not_middle : goal.open_last-requires-clause-not_middle
open_last-requires-clause-not_middle g c =
    let key = array-bytes 32 c.args.key.now c.told-key c.fits-key in
    let bytes = slice-bytes c.args.sealed.now c.type_inv.sealed in
    let none : g.S.Suite.opened c.args.key.now (chunk_nonce c.loop-i.i false) (chunk c.loop-i.i c.args.sealed.now) ≡ None =
    sym (rw (c.nonce_of.ensures, c.chunk_at.ensures, c.in-None.is) at c.in_ok-open.ensures.value) in
    not_middle g.S.Suite.seal_of g.S.Suite.opened g.met.S.Suite.cipher c.args.key.now key c.args.sealed.now bytes c.loop-i.i none

pub returns-then-i-ge-MOST_CHUNKS-clause-err : goal.returns-then-i-ge-MOST_CHUNKS-clause-err
returns-then-i-ge-MOST_CHUNKS-clause-err g c =
    let key = array-bytes 32 c.args.key.now c.told-key c.fits-key in
    let bytes = slice-bytes c.args.sealed.now c.type_inv.sealed in
    let some : g.S.Suite.opened c.args.key.now (chunk_nonce c.loop-i.i false) (chunk c.loop-i.i c.args.sealed.now) ≡ Some c.in-Some.piece.items =
    sym (rw (c.nonce_of.ensures, c.chunk_at.ensures, c.in-Some.is) at c.in_ok-open.ensures.value) in
    let held = held_middle g.S.Suite.seal_of g.S.Suite.opened g.met.S.Suite.cipher c.args.key.now key c.args.sealed.now bytes c.loop-i.i
    c.in-Some.piece.items (omega arith) some in
    let size = middle_plain-size g.S.Suite.seal_of g.S.Suite.opened g.met.S.Suite.cipher c.args.key.now key c.args.sealed.now bytes c.loop-i.i
    c.in-Some.piece.items held in
    refused_at g.S.Suite.seal_of g.S.Suite.opened g.met.S.Suite.cipher c.args.key.now key c.args.sealed.now bytes
    c.loop-i.i c.loop-i.out.items TooLong c.loop-i.invariant.opened c.loop-i.invariant.reach
    (omega arith, (c.in-Some.piece.items, omega arith, inl held))

pub loop-i-preserved : goal.loop-i-preserved
loop-i-preserved g c =
    let key = array-bytes 32 c.args.key.now c.told-key c.fits-key in
    let bytes = slice-bytes c.args.sealed.now c.type_inv.sealed in
    let some : g.S.Suite.opened c.args.key.now (chunk_nonce c.loop-i.i false) (chunk c.loop-i.i c.args.sealed.now) ≡ Some c.in-Some.piece.items =
    sym (rw (c.nonce_of.ensures, c.chunk_at.ensures, c.in-Some.is) at c.in_ok-open.ensures.value) in
    let out = c.in_ok-extend_from_slice-in-Some.ensures.items in
    record {
      opened = rw (out, c.deref.ensures.value)
          (opened_more g.S.Suite.seal_of g.S.Suite.opened g.met.S.Suite.cipher c.args.key.now key c.args.sealed.now bytes
          c.loop-i.i c.loop-i.out.items c.in-Some.piece.items c.loop-i.invariant.opened (omega arith) some);
      reach = omega arith;
      counted = λ fits.
          let before = c.loop-i.invariant.counted fits in
          (omega (arith, before.0, before.1, c.in_ok-open.ensures.counted), omega (arith, before.1, c.in_ok-open.ensures.counted));
      most = omega (arith, c.loop-i.invariant.most, c.in_ok-open.ensures.counted);
    }

pub returns-then-sealed-full-clause-err : goal.returns-then-sealed-full-clause-err
returns-then-sealed-full-clause-err g c =
    let key = array-bytes 32 c.args.key.now c.told-key c.fits-key in
    let bytes = slice-bytes c.args.sealed.now c.type_inv.sealed in
    refused_at g.S.Suite.seal_of g.S.Suite.opened g.met.S.Suite.cipher c.args.key.now key c.args.sealed.now bytes
    c.loop-i.i c.loop-i.out.items Truncated c.loop-i.invariant.opened c.loop-i.invariant.reach (omega arith)

pub open_last-requires-2-clause-not_middle : goal.open_last-requires-2-clause-not_middle
open_last-requires-2-clause-not_middle g c =
    let key = array-bytes 32 c.args.key.now c.told-key c.fits-key in
    let bytes = slice-bytes c.args.sealed.now c.type_inv.sealed in
    short_not_middle g.S.Suite.seal_of g.S.Suite.opened g.met.S.Suite.cipher c.args.key.now key c.args.sealed.now bytes
    _ (omega arith)

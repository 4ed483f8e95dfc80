use Rattle.std.proofs.Common.{◌≤◌, arith, sym, subst, length}
use Rattle.age_base64.specs.Base64.{AreColumns}
use Rattle.age_base64.proofs.Pieces.{columns-joined, columns-parted}
use Rattle.age_base64.proofs.coding.are_columns.Goals as goal

pub returns-then-not-is_piece-clause-not : goal.returns-then-not-is_piece-clause-not
returns-then-not-is_piece-clause-not c is_false whole =
    let parts = columns-parted c.loop-rest.rest.now (omega (arith, c.loop-rest-test.true)) (c.loop-rest.invariant.1 whole) in
    c.is_piece.ensures.not c.if-not-is_piece.true (subst AreColumns (sym c.split_at.ensures.front) parts.0)

pub loop-rest-preserved : goal.loop-rest-preserved
loop-rest-preserved c =
    let long : 64 ≤ length c.loop-rest.rest.now = omega (arith, c.loop-rest-test.true) in
    let piece = subst AreColumns c.split_at.ensures.front (c.is_piece.ensures.is c.if-not-is_piece.false) in (
      λ rest. c.loop-rest.invariant.0 (columns-joined c.loop-rest.rest.now long piece (subst AreColumns c.split_at.ensures.back rest)),
      λ whole. subst AreColumns (sym c.split_at.ensures.back) (columns-parted c.loop-rest.rest.now long (c.loop-rest.invariant.1 whole)).1,
    )

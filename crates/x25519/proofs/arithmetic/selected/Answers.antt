use Rattle.x25519.proofs.Selecting.{limbs-selected}
use Rattle.x25519.proofs.arithmetic.selected.Goals as goal

pub returns : goal.returns
returns c =
    let a = c.args.a in
    let b = c.args.b in
    limbs-selected c.args.swap a.limb0 a.limb1 a.limb2 a.limb3 a.limb4 b.limb0 b.limb1 b.limb2 b.limb3 b.limb4 _ _ _ _ _
    c.select.ensures c.select-2.ensures c.select-3.ensures c.select-4.ensures c.select-5.ensures

-- What an element of the field stands for.
use Rattle.std.specs.Prelude.{ℕ, ◌+◌, ◌*◌, ◌^◌}
use Rattle.x25519.specs.declared.element.Element.{Element}

-- the number of five limbs, of 51 bits each, the low one first
abbrev pub value : Element → ℕ
value e = e.limb0 + 2 ^ 51 * e.limb1 + 2 ^ 102 * e.limb2 + 2 ^ 153 * e.limb3 + 2 ^ 204 * e.limb4

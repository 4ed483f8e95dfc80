use Rattle.std.proofs.Common.{rules, ◌≡◌, sym, ◌∙◌, subst}
use Rattle.age_error.specs.Bytes.{AreBytesOf}
use Rattle.age_v1.specs.Header.{mac_line}
use Rattle.age_format.proofs.Parsing.{mac_line_other, mac_line_none, mac_line_some, mac_line_long}
use Rattle.age_format.proofs.parse.parse_mac_line.Goals as goal

pub returns-in_default : goal.returns-in_default
returns-in_default c = mac_line_other c.args.text.now c.in_default.ensures

pub returns-in_default-2 : goal.returns-in_default-2
returns-in_default-2 c = mac_line_none c.args.text.now c.in-Some.rest.now c.in-Some.ensures (rw c.in_default-2.is at c.in_ok-bytes.ensures.found)

pub returns-then-len-ne32 : goal.returns-then-len-ne32
returns-then-len-ne32 c = mac_line_long c.args.text.now c.in-Some.rest.now _ c.in-Some.ensures (rw c.in-Some-2.is at c.in_ok-bytes.ensures.found)
    (search rules)

pub returns : goal.returns
returns c =
    let found = mac_line_some c.args.text.now c.in-Some.rest.now _ c.in-Some.ensures (rw c.in-Some-2.is at c.in_ok-bytes.ensures.found)
    (search rules) in
    subst (λ m. AreBytesOf 32 m × (mac_line m ≡ c.args.text.now)) (sym (c.copy_from_slice.ensures.after ∙ c.as_slice.ensures.value)) found

use Rattle.std.proofs.Common.{◌≡◌, ◌%◌, ◌^◌, ◌<◌, ◌∙◌, get_or, [], refl, ap, add-one, arith, length, length-append}
use Rattle.std.proofs.lemmas.Nat.{one_shl, pow_pos, mod_below}
use Rattle.scrypt.specs.BlockMix.{block_mix}
use Rattle.scrypt.specs.RomMix.{integerify, table_entry, walked, rom_mix}
use Rattle.scrypt.proofs.Tables.{entries_more, walked_more, same_entry}
use Rattle.scrypt.proofs.mixing.rom_mix.Goals as goal

pub fill-init : goal.fill-init
unfolding table_entry
fill-init c = record {
  next = refl;
  long = ap length c.in_ok-table.ensures.items;
  entries = λ k h. absurd (omega arith);
}

pub fill-preserved : goal.fill-preserved
unfolding table_entry
fill-preserved c =
    let held = c.fill.invariant in
    record {
      next = rw (add-one, c.block_mix-x.ensures, held.next) refl;
      long = rw (c.in_ok-push.ensures.items, length-append) (omega (arith, held.long));
      entries = entries_more c.args.b c.fill.x c.fill.table.items _ c.fill._i held.long held.entries held.next c.in_ok-push.ensures.items;
    }

pub walk-init : goal.walk-init
unfolding walked
walk-init c =
    let count = one_shl c.args.log_n 64 (omega arith) in
    let done : c.fill._i ≡ 2 ^ c.args.log_n = omega (arith, count) in
    c.fill.invariant.next ∙ ap (table_entry c.args.b) done

pub walk-preserved : goal.walk-preserved
walk-preserved c =
    let b = c.args.b in
    let x = c.walk.x in
    let n = 2 ^ c.args.log_n in
    let entries = c.fill.table.items in
    let j = integerify x % n in
    let count = one_shl c.args.log_n 64 (omega arith) in
    let below : j < n = mod_below (integerify x) n (pow_pos c.args.log_n) in
    let filled : j < c.fill._i = omega (arith, count, below) in
    let inside : j < length entries = omega (arith, c.fill.invariant.long, filled) in
    let entry = c.index.ensures
    ∙ ap (λ k. get_or entries k c.index.result.now) c.number_modulo-j.ensures
    ∙ same_entry entries j c.index.result.now [] inside
    ∙ c.fill.invariant.entries j filled in
    walked_more b x c.index.result.now c.block_mix-x-in-walk.result n c.walk._i c.walk.invariant entry
    (c.block_mix-x-in-walk.ensures ∙ ap block_mix c.xor_blocks.ensures)

pub returns : goal.returns
unfolding rom_mix
returns c =
    let count = one_shl c.args.log_n 64 (omega arith) in
    let done : c.walk._i ≡ 2 ^ c.args.log_n = omega (arith, count) in
    c.walk.invariant ∙ ap (λ i. walked c.args.b (2 ^ c.args.log_n) i) done

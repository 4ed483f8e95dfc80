use Rattle.std.proofs.Common.{◌≡◌, ℕ, ◌^◌, ◌<◌, [], length, get_or}
use Rattle.scrypt.specs.RomMix.{table_entry, walked}
use Rattle.scrypt.proofs.mixing.rom_mix.Given as goal

-- the table's entries so far, and the next one
abbrev pub invariant-fill : goal.invariant-fill
invariant-fill l = record {
  next : l.x ≡ table_entry l.fn.b l._i;
  long : length l.table.items ≡ l._i;
  entries : (k : ℕ) → k < l._i → get_or l.table.items k [] ≡ table_entry l.fn.b k;
}

-- the steps so far
abbrev pub invariant-walk : goal.invariant-walk
invariant-walk l = l.x ≡ walked l.fn.b (2 ^ l.fn.log_n) l._i

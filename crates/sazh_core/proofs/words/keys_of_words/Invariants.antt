use Rattle.std.proofs.Common.{take}
use Rattle.sazh_core.specs.Words.{AreOfWords}
use Rattle.sazh_core.proofs.words.keys_of_words.Given as goal

-- the recipients of the words so far
abbrev pub invariant-loop-i : goal.invariant-loop-i
invariant-loop-i g l = AreOfWords g.S.Suite.public_of (take l.i l.fn.words) l.keys.items

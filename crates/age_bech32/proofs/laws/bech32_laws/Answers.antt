use Rattle.age_bech32.proofs.Written.{existing, written}
use Rattle.age_bech32.proofs.Readings.{reading, spelling, one_symbol}
use Rattle.age_bech32.proofs.laws.bech32_laws.Goals as goal

pub returns-clause-one_reading : goal.returns-clause-one_reading
returns-clause-one_reading c = reading

pub returns-clause-one_text : goal.returns-clause-one_text
returns-clause-one_text c = spelling

pub returns-clause-some_text : goal.returns-clause-some_text
returns-clause-some_text c = existing

pub returns-clause-written : goal.returns-clause-written
returns-clause-written c = written

pub returns-clause-one_symbol : goal.returns-clause-one_symbol
returns-clause-one_symbol c = one_symbol

use Rattle.age_v1.proofs.FirstFaults.{carrying_or_faulty, fault_delivered, not_both, one_fault}
use Rattle.age_armor.proofs.laws.first_fault_is_unique.Goals as goal

pub returns-clause-either : goal.returns-clause-either
returns-clause-either c = carrying_or_faulty

pub returns-clause-exclusive : goal.returns-clause-exclusive
returns-clause-exclusive c = not_both

pub returns-clause-unique : goal.returns-clause-unique
returns-clause-unique c = one_fault

pub returns-clause-delivered : goal.returns-clause-delivered
returns-clause-delivered c = fault_delivered

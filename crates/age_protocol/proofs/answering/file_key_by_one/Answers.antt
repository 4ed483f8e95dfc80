use Rattle.std.proofs.Common.{Some, refl}
use Rattle.age_format.specs.Unwrapping.{key_answer}
use Rattle.age_protocol.proofs.answering.file_key_by_one.Goals as goal

pub returns-in-Some : goal.returns-in-Some
returns-in-Some g c = (Some (key_answer c.in-Some.answer), c.in-Some.ensures, refl)

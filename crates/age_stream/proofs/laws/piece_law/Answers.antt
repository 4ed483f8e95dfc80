use Rattle.age_v1.proofs.Payloads.{are_pieces}
use Rattle.age_stream.proofs.laws.piece_law.Goals as goal

pub returns : goal.returns
returns c = are_pieces

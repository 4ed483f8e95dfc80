use Rattle.std.proofs.Common.{refl, ◌∙◌}
use Rattle.curve25519.specs.Field.{prime}
use Rattle.curve25519.specs.Encoding.{decode_little_endian, decode_u_coordinate, clamped, encode_little_endian}
use Rattle.curve25519.specs.X25519.{base_point, public_key}
use Rattle.curve25519.proofs.CurveConstants.{minus_one}
use Rattle.curve25519.proofs.PrimeField.{inverse}
use Rattle.curve25519.proofs.MontgomeryLadder.{pair_after, scalar_multiple}
use Rattle.curve25519.proofs.LadderForms.{x25519-multiple}
use Rattle.curve25519_tests.specs.Vectors.{first_scalar, first_u_coordinate, second_scalar, second_u_coordinate, secret_of_alice, secret_of_bob, public_of_bob}
use Rattle.curve25519_tests.proofs.test_vectors.Goals as goal

pub returns-clause-first : goal.returns-clause-first
unfolding prime minus_one inverse pair_after scalar_multiple decode_little_endian decode_u_coordinate clamped encode_little_endian
returns-clause-first c = x25519-multiple first_scalar first_u_coordinate ∙ refl

pub returns-clause-second : goal.returns-clause-second
unfolding prime minus_one inverse pair_after scalar_multiple decode_little_endian decode_u_coordinate clamped encode_little_endian
returns-clause-second c = x25519-multiple second_scalar second_u_coordinate ∙ refl

pub returns-clause-alice : goal.returns-clause-alice
unfolding prime minus_one inverse pair_after scalar_multiple decode_little_endian decode_u_coordinate clamped encode_little_endian public_key
returns-clause-alice c = x25519-multiple secret_of_alice base_point ∙ refl

pub returns-clause-bob : goal.returns-clause-bob
unfolding prime minus_one inverse pair_after scalar_multiple decode_little_endian decode_u_coordinate clamped encode_little_endian public_key
returns-clause-bob c = x25519-multiple secret_of_bob base_point ∙ refl

pub returns-clause-both : goal.returns-clause-both
unfolding prime minus_one inverse pair_after scalar_multiple decode_little_endian decode_u_coordinate clamped encode_little_endian
returns-clause-both c = x25519-multiple secret_of_alice public_of_bob ∙ refl

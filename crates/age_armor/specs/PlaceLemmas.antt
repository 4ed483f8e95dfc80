-- Where a reader of armor stands, for the crates above.
use Rattle.std.specs.Prelude.{IsTrue}
use Rattle.age_io.specs.declared.traits.Read as readers
use Rattle.age_io.specs.declared.bufread.BufRead as buffered
use Rattle.age_io.specs.Reading.{StandsIn}
use Rattle.age_v1.proofs.DeliveredArmors.{stands_by}
use Rattle.age_armor.specs.declared.reader.ArmoredReader.{ArmoredReader}
use Rattle.age_armor.specs.Reader.{armored_content, armored_rest, inner_of, place_of}

-- what it has before it stands at its place in what the text carries
pub stands_armored : {R : Type 0} {buf : buffered.Ghosts R} {read : readers.Ghosts R} (r : ArmoredReader R buf read) →
    IsTrue (read.tells (inner_of r)) → IsTrue (read.steady (inner_of r)) → StandsIn (armored_content r) (place_of r) (armored_rest r)
stands_armored r told steady =
    let text = r.sound.text told steady in
    stands_by (armored_content r) (armored_rest r) (place_of r) text.inside (λ some. (text.follows some).rest)

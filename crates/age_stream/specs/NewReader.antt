-- A new reader of a payload.
use Rattle.std.specs.Prelude.{◌≡◌, ℕ, ◌^◌, ◌≤◌, ◌&&◌, List, length, IsTrue}
use Rattle.age_error.specs.Bytes.{AreBytes}
use Rattle.age_error.specs.declared.io.Error.{Error}
use Rattle.age_suite.specs.declared.suite.Suite.{Ghosts as SuiteGhosts}
use Rattle.age_io.specs.declared.traits.Read.{Ghosts}
use Rattle.age_io.specs.Stretch.{whole, from_place}
use Rattle.age_v1.specs.DeliveredPayload.{payload_delivers}
use Rattle.age_v1.specs.Payload.{payload, LastIsNoMiddle}
use Rattle.age_stream.specs.Keeping.{OwnOrInner, Stops}
use Rattle.age_stream.specs.Reader.{payload_of, key_of, inner_of, inner_rest_of, HasFailed, HasSought, opens_of, tells_of, content_of, place_of, plain_rest_of, faults_of, refuses_of}
use Rattle.age_stream.specs.declared.reader.StreamReader.{StreamReader}

module _ {S R : Type 0} {suite : SuiteGhosts S} {read : Ghosts R} where
  -- The reader of the payload under this key that begins where the input stands. Nothing of it was read yet.
  pub record IsReaderOf (key : List ℕ) (input : R) (r : StreamReader S R suite read) : Type 0 where
    pub good : HasFailed r → ⊥
    pub unsought : HasSought r → ⊥
    pub opens : opens_of r ≡ 0
    pub same_key : key_of r ≡ key
    pub inner : inner_of r ≡ input
    -- Why its reads and seeks refuse: for what is wrong with the payload, or as the input does.
    pub named : (e : Error) → refuses_of r e
        → OwnOrInner read (Stops suite.seal_of key (from_place (read.place input) (read.content input))
        (IsTrue (read.tells input && read.steady input))) input e
    pub sealed : payload_of r ≡ from_place (read.place input) (read.content input)
    pub inner_rest : inner_rest_of r ≡ read.rest input
    pub tells : tells_of r ≡ (read.tells input && read.steady input)
    pub faults : faults_of r ≡ read.faults input
    pub place : place_of r ≡ 0
    pub content : content_of r ≡ payload_delivers suite.opened key 0 (from_place (read.place input) (read.content input))
    pub rest : plain_rest_of r ≡ payload_delivers suite.opened key 0 (read.rest input)
    -- It reads a plaintext to a clean end exactly where the input stood before the plaintext's payload and a clean end.
    pub success : IsTrue (read.tells input && read.steady input) → (plain : List ℕ) → plain_rest_of r ≡ whole plain
        → read.rest input ≡ whole (payload suite.seal_of key plain)
    pub honest : (plain : List ℕ) → AreBytes plain → length plain ≤ 2 ^ 60 → LastIsNoMiddle suite.seal_of key plain
        → read.rest input ≡ whole (payload suite.seal_of key plain) → plain_rest_of r ≡ whole plain

-- What a new reader of armor is.
use Rattle.std.specs.Prelude.{◌≡◌, ℕ, true, false, IsTrue, List, [], Result, IfOk, IfErr}
use Rattle.age_error.specs.Bytes.{AreBytes}
use Rattle.age_error.specs.declared.io.Error.{Error}
use Rattle.age_error.specs.declared.io.Error.TheVariants.{OutOfMemory}
use Rattle.age_io.specs.Stretch.{from_place, whole}
use Rattle.age_io.specs.declared.bufread.BufRead as buffered
use Rattle.age_io.specs.declared.traits.Read as readers
use Rattle.age_v1.specs.Armor.{Carries}
use Rattle.age_v1.specs.DeliveredArmor.{stretch_of, text_delivers}
use Rattle.age_v1.proofs.DeliveredArmors.{content_of}
use Rattle.age_armor.specs.declared.reader.ArmoredReader.{ArmoredReader}
use Rattle.age_armor.specs.Reader.{armored_content, armored_reader, armored_rest, furthest_of, has_armor, has_failed, knows_end, lines_of, notes_all, outcome_of, place_of, refuses_of, shown_of, source_of, text_outcome_of}
use Rattle.age_armor.specs.Refusing.{OrText}
use Rattle.age_armor.specs.Seeking.{text_outcome}

module _ {R : Type 0} {buf : buffered.Ghosts R} {read : readers.Ghosts R} where
  -- nothing of its text was read, so nothing is held, and nothing is known of it
  pub record IsUnread (r : ArmoredReader R buf read) : Type 0 where
    pub good : has_failed r ≡ false
    pub shown : shown_of r ≡ []
    pub form : has_armor r ≡ false
    pub marks : (lines_of r ≡ 0) × (furthest_of r ≡ 0) × (notes_all r ≡ true) × (knows_end r ≡ false)

  -- its text begins where a reader below stands: how what is left of it ends, and how the whole text does
  pub record BeginsAt {B : Type 0} (below : readers.Ghosts B) (inner : B) (r : ArmoredReader R buf read) : Type 0 where
    pub text : source_of r ≡ from_place (below.place inner) (below.content inner)
    pub outcome : outcome_of r ≡ text_delivers (below.rest inner).bytes (below.rest inner).ends_well
    pub whole : text_outcome_of r ≡ text_outcome (below.content inner) (below.place inner)

  -- What comes of making a reader of the text that begins where a reader below stands, which is handed in, or is under a buffer between them.
  pub record OpensText {B : Type 0} (below : readers.Ghosts B) (inner : B) (result : Result (ArmoredReader R buf read) Error) : Type 0 where
    -- it tells its bytes, is steady and has failed as the reader below
    pub tells : IfOk result (λ r. armored_reader.tells r ≡ below.tells inner)
    pub steady : IfOk result (λ r. armored_reader.steady r ≡ below.steady inner)
    pub faults : IfOk result (λ r. armored_reader.faults r ≡ below.faults inner)
    -- it stands at the front of its text
    pub unread : IfOk result IsUnread
    pub begins : IfOk result (BeginsAt below inner)
    pub place : IfOk result (λ r. place_of r ≡ 0)
    -- what it delivers, and can still deliver, is what the definition makes of the content and of the rest of the reader below
    pub content : IfOk result (λ r. armored_content r ≡ content_of (below.content inner) (below.place inner))
    pub rest : IfOk result (λ r. armored_rest r ≡ stretch_of (text_delivers (below.rest inner).bytes (below.rest inner).ends_well))
    -- what it delivers to a clean end is what that rest carries, and the other way
    pub carries : IsTrue (below.tells inner) → IfOk result (λ r. IsTrue (armored_rest r).ends_well →
        IsTrue (below.rest inner).ends_well × (AreBytes (below.rest inner).bytes → Carries (below.rest inner).bytes (armored_rest r).bytes))
    pub honest : (bytes : List ℕ) → IsTrue (below.rest inner).ends_well → Carries (below.rest inner).bytes bytes →
        IfOk result (λ r. armored_rest r ≡ whole bytes)
    -- why its calls refuse, and why it isn't made
    pub named : IfOk result (λ r. (e : Error) → refuses_of r e → OrText below inner e)
    pub memory : IfErr result (λ e. e ≡ OutOfMemory)

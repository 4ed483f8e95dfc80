-- A header from before the standard, in which a stanza may have the legacy form.
use Rattle.std.specs.Prelude.{◌≡◌, ℕ, List}
use Rattle.age_error.specs.Bytes.{AreBytes}
use Rattle.age_io.specs.Stretch.{Stretch}
use Rattle.age_v1.specs.HeaderTexts.{or_legacy, covered}
use Rattle.age_v1.specs.Stanza.{StanzaValue}
use Rattle.age_v1.specs.Header.{IsHeader}
use Rattle.age_v1.specs.HeaderVerdict.{Header}
use Rattle.age_format.specs.ReadingHeader.{TookVerdict}

-- what such a header says, and the front of its text that the MAC covers
pub record OldHeaderValue : Type 0 where
  pub stanzas : List StanzaValue
  pub mac : List ℕ
  pub covered : List ℕ

-- one or more stanzas, a MAC of 32 bytes, and the bytes that it covers
pub record IsOldHeaderValue (h : OldHeaderValue) : Type 0 where
  pub header : IsHeader h.stanzas h.mac
  pub front : AreBytes h.covered

-- A header text at the front of the rest was taken, in either form, and this is what it says.
pub record ReadsOldHeader (h : OldHeaderValue) (old new : Stretch) (old_place new_place : ℕ) : Type 0 where
  pub front : List ℕ
  pub took : TookVerdict or_legacy old new old_place new_place front (Header h.stanzas h.mac)
  pub told : h.covered ≡ covered front

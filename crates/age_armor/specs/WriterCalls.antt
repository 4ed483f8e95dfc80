-- What the calls of an `ArmoredWriter` say; of `write` and `flush` what they say besides what those of every writer do.
use Rattle.std.specs.Prelude.{◌≡◌, ℕ, ◌+◌, ◌<◌, ◌≤◌, ◌⊎◌, ⊤, false, IsTrue, List, length, Result, Ok, Err, IfOk, IfErr, OnOk, OnErr, IsOk}
use Rattle.age_error.specs.Refusals.{IsDevice, IsInterruption}
use Rattle.age_error.specs.declared.io.Error.{Error}
use Rattle.age_error.specs.declared.io.Error.TheVariants.{Failed, OutOfMemory}
use Rattle.age_io.specs.Copying.{AppendsFront}
use Rattle.age_io.specs.Writing.{Flushes, HandsOn, Retried, Writes}
use Rattle.age_io.specs.declared.traits.Write.{Ghosts}
use Rattle.age_v1.specs.Armor.{text_of}
use Rattle.age_v1.specs.declared.format.Format.{Format}
use Rattle.age_armor.specs.declared.writer.ArmoredWriter.{ArmoredWriter}
use Rattle.age_armor.specs.Writing.{Appended, Finishes, HasFailed, IsGood, Refused, SendsFront, WasMade, WriterRefuses, held_len, in_armor, inner_of, is_armored, left_of}

-- Where a writer was made in a form and took bytes since, this holds of the text that carries them and of the inner writer from before the
-- writer was made.
abbrev pub OfText : {W : Type 0} → (W → List ℕ → W → Type 0) → ArmoredWriter W → (List ℕ → W → Type 0) → Type 0
OfText {W} inner_appended writer Holds =
    (start : ArmoredWriter W) (format : Format) (bytes : List ℕ) (first : W) → WasMade inner_appended format first start
    → Appended inner_appended start bytes writer → Holds (text_of format bytes) first

module _ {W : Type 0} (write : Ghosts W) where
  -- what comes of making a writer that begins the text where `inner` stands
  pub record WrapsOutput (inner : W) (format : Format) (result : Result (ArmoredWriter W) Error) : Type 0 where
    -- it has taken nothing, and the begin marker went out, where the text is armor
    pub made : IsTrue (write.tells inner) → IfOk result (WasMade write.appended format inner)
    pub empty : IfOk result (λ w. IsGood w × (held_len w ≡ 0) × (is_armored w ≡ in_armor format))
    -- what stays of the inner writer, and that from here on it refuses only what `inner` might
    pub same_tells : IfOk result (λ w. write.tells (inner_of w) ≡ write.tells inner)
    pub no_fewer_faults : IfOk result (λ w. write.faults inner ≤ write.faults (inner_of w))
    pub narrows : IfOk result (λ w. (n : ℕ) (e : Error) → Refused write.refuses w n e → WriterRefuses write.refuses (in_armor format) inner n e)
    -- why it refuses
    pub binary : in_armor format ≡ false → IsOk result
    pub why : IfErr result (λ e. (e ≡ OutOfMemory) ⊎ HandsOn write.refuses inner e)
    pub patient : IfErr result (λ e. IsInterruption e → ⊥)

  -- What comes of closing it: in armor the end of the text goes out, and it is failed then; in binary nothing is done.
  pub record ClosesText (old new : ArmoredWriter W) (result : Result ⊤ Error) : Type 0 where
    -- the inner writer was given the text that carries all bytes that were taken; the bytes themselves were given before
    pub ok : IsTrue (write.tells (inner_of old)) →
        OfText write.appended old (λ text first. OnOk result (write.appended first text (inner_of new)))
    -- Whatever it answers, a beginning of what is left of the text was appended to the inner writer. So that has a beginning of the text.
    pub left : IsTrue (write.tells (inner_of old)) → AppendsFront write.appended (left_of old) (inner_of old) (inner_of new)
    pub front : IsTrue (write.tells (inner_of old)) → IsGood old →
        OfText write.appended old (λ text first. AppendsFront write.appended text first (inner_of new))
    pub binary : is_armored old ≡ false → IsOk result × (new ≡ old)
    -- what stays of it, and that from here on the inner writer refuses only what it might before
    pub same_form : is_armored new ≡ is_armored old
    pub same_tells : write.tells (inner_of new) ≡ write.tells (inner_of old)
    pub no_fewer_faults : write.faults (inner_of old) ≤ write.faults (inner_of new)
    pub narrows : OnOk result ((e : Error) → HandsOn write.refuses (inner_of new) e → HandsOn write.refuses (inner_of old) e)
    -- why it refuses, and that in armor it is failed then
    pub fails : IsTrue (is_armored old) → HasFailed new
    pub failed : HasFailed old → (result ≡ Err Failed) × (new ≡ old)
    pub why : IfErr result (Refused write.refuses old 0)
    pub patient : IfErr result (λ e. IsInterruption e → ⊥)
    pub device : IfErr result (λ e. IsDevice e → write.faults (inner_of old) < write.faults (inner_of new))

  -- what comes of finishing the text, where the inner writer is handed back
  pub record FinishesText (writer : ArmoredWriter W) (result : Result W Error) : Type 0 where
    -- it was given the text that carries all bytes that were taken; the bytes themselves were given before
    pub ok : IsTrue (write.tells (inner_of writer)) → Finishes write.appended (Appended write.appended) writer result
    pub binary : is_armored writer ≡ false → result ≡ Ok (inner_of writer)
    -- what stays of it, and that from here on it refuses only what it might before
    pub same_tells : IfOk result (λ inner. write.tells inner ≡ write.tells (inner_of writer))
    pub no_fewer_faults : IfOk result (λ inner. write.faults (inner_of writer) ≤ write.faults inner)
    pub narrows : IfOk result (λ inner. (e : Error) → HandsOn write.refuses inner e → HandsOn write.refuses (inner_of writer) e)
    -- why it refuses
    pub failed : HasFailed writer → result ≡ Err Failed
    pub why : IfErr result (Refused write.refuses writer 0)
    pub patient : IfErr result (λ e. IsInterruption e → ⊥)

-- When a writer fails, which in binary it never does: a refusal leaves it failed, and a failed one answers `Failed` and stays as it is. In armor
-- interruptions were tried again, and armor stays armor.
pub record FailsInArmor {W A : Type 0} (old new : ArmoredWriter W) (result : Result A Error) : Type 0 where
  pub good : OnOk result (IsGood old × IsGood new)
  pub fails : IsTrue (is_armored old) → OnErr result (HasFailed new)
  pub failed : HasFailed old → (result ≡ Err Failed) × (new ≡ old)
  pub patient : IsTrue (is_armored old) → IfErr result (λ e. IsInterruption e → ⊥)
  pub same_form : is_armored new ≡ is_armored old

module _ {W : Type 0} (write : Ghosts W) where
  -- What a write says besides: how much it takes and sends.
  pub record WritesArmor (old new : ArmoredWriter W) (bytes : List ℕ) (result : Result ℕ Error) : Type 0 where
    pub all : IsTrue (is_armored old) → IfOk result (λ n. n ≡ length bytes)
    -- whatever it answers, what went out is a beginning of the text
    pub sent : IsTrue (write.tells (inner_of old)) → SendsFront write.appended (is_armored old) old bytes (inner_of new)
    -- one that fills no line is never refused, and sends nothing
    pub finds_room : IsTrue (is_armored old) → IsGood old → held_len old + length bytes < 48 →
        IsOk result × (held_len new ≡ held_len old + length bytes) × (inner_of new ≡ inner_of old)
    -- in binary it is that of the inner writer
    pub binary : is_armored old ≡ false →
        Writes write.tells write.faults write.refuses write.appended (inner_of old) (inner_of new) bytes result
        × write.write_besides (inner_of old) (inner_of new) bytes result
    pub state : FailsInArmor old new result

  -- What a flush says besides: it is one of the inner writer, in armor tried again, and what is held stays so.
  pub record FlushesArmor (old new : ArmoredWriter W) (result : Result ⊤ Error) : Type 0 where
    pub inner : IsTrue (is_armored old) → IsGood old →
        Flushes write.tells write.faults (Retried write.refuses) write.appended (inner_of old) (inner_of new) result
    pub binary : is_armored old ≡ false →
        Flushes write.tells write.faults write.refuses write.appended (inner_of old) (inner_of new) result
        × write.flush_besides (inner_of old) (inner_of new) result
    pub held : held_len new ≡ held_len old
    pub state : FailsInArmor old new result

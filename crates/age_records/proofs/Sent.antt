-- What was sent of records that were written.
use Rattle.std.proofs.Common.{ℕ, IsTrue, List, [], take, drop, subst, Result, Ok, Err}
use Rattle.std.proofs.lemmas.List.{append-nil, take-append-drop}
use Rattle.age_error.specs.declared.io.Error.{Error}
use Rattle.age_io.specs.Copying.{AppendsFront}
use Rattle.age_io.specs.CopyingLemmas.{front-none}
use Rattle.age_io.specs.declared.traits.Write.{Ghosts}
use Rattle.age_v1.specs.Payload.{Seal, payload}
use Rattle.age_stream.specs.Writing.{Appended, SendsFrontOfPayload, WasMade, inner_of}
use Rattle.age_stream.specs.declared.writer.StreamWriter.{StreamWriter}
use Rattle.age_records.specs.Putting.{Puts}

module _ {S W : Type 0} (seal_of : Seal) (write : Ghosts W) where
  -- nothing was written
  pub none-sent : ((w : W) → write.appended w [] w) → (writer : StreamWriter S W) (text key : List ℕ) (first : W) → WasMade key first writer →
      AppendsFront write.appended (payload seal_of key text) first (inner_of writer)
  none-sent nothing writer text key first made =
      subst (λ w. AppendsFront write.appended (payload seal_of key text) w (inner_of writer)) made.same_inner
      (front-none write.appended nothing (payload seal_of key text) (inner_of writer))

  -- a text was put, or refused
  pub put-sent : {T : Type 0} (old new : StreamWriter S W) (text : List ℕ) (result : Result T Error) →
      SendsFrontOfPayload seal_of write.appended (Appended {S = S} {W = W} seal_of write.appended) → Puts seal_of write old new text result →
      IsTrue (write.tells (inner_of old)) → (key : List ℕ) (first : W) → WasMade key first old →
      AppendsFront write.appended (payload seal_of key text) first (inner_of new)
  put-sent old new text (Ok t) calls puts told key first made =
      rw append-nil at (calls old new key text [] first made (puts.writes.takes_all told))
  put-sent old new text (Err e) calls puts told key first made =
      let some = puts.writes.takes_front told in
      subst (λ xs. AppendsFront write.appended (payload seal_of key xs) first (inner_of new)) (take-append-drop some.0 text)
      (calls old new key (take some.0 text) (drop some.0 text) first made some.2)

-- What was appended before a flush is what was appended after it.
use Rattle.std.specs.Prelude.{Result, Ok, Err, IsTrue, OnOk}
use Rattle.std.proofs.Common.{List, ℕ, [], ◌++◌, subst}
use Rattle.std.proofs.lemmas.List.{append-nil}
use Rattle.age.specs.Types.{FileError}
use Rattle.age.specs.Members.{WriteMembers}
use Rattle.sazh_core.specs.Decrypting.{IsFlushed}

pub on_ok : {T E P : Type 0} (r : Result T E) → P → OnOk r P
on_ok (Ok x) h = h
on_ok (Err e) h = tt

pub appended_flushed : {W T : Type 0} (write : WriteMembers W)
    → ((a b c : W) (x y : List ℕ) → write.appended a x b → write.appended b y c → write.appended a (x ++ y) c) → ((w : W) → IsTrue (write.tells w))
    → (old between new : W) (out : List ℕ) (result : Result T FileError) → write.appended old out between → IsFlushed write between new result
    → write.appended old out new
appended_flushed write joins told old between new out result appended (flushed, flushes, is) =
    subst (λ l. write.appended old l new) (append-nil out) (joins old between new out [] appended (flushes.nothing (told between)))

-- What reads and seeks in turn on a reader of a payload answer, from what each call says of itself.
use Rattle.std.specs.Prelude.{◌≡◌, ℕ, ◌+◌, ◌-◌, IsTrue, List, [], ◌∷◌, ◌++◌, length, take, drop, Result, Ok, Err, IfOk, OnOk}
use Rattle.std.proofs.Common.{◌∙◌, zero, suc, get_or, refl, sym, ap, subst, inl, inr, arith, length-append, length-take-le}
use Rattle.std.proofs.lemmas.Bool.{cases_lt}
use Rattle.std.proofs.lemmas.List.{get_or-take, get_or-drop, get_or_append_left, get_or-append_right}
use Rattle.age.specs.AnswerVariants.{Bytes, At, Fault}
use Rattle.age.specs.Cursor.{OrTooLong}
use Rattle.age.specs.Members.{ReadMembers, SuiteMembers}
use Rattle.age.specs.OpVariants.{Read, Seek}
use Rattle.age.specs.Payload.{Seal}
use Rattle.age.specs.PayloadAnswers.{Gives, StandAt}
use Rattle.age.specs.Reading.{ReadsInTurn}
use Rattle.age.specs.Replies.{CameOf, CameOfAll}
use Rattle.age.specs.StreamReader.{content_of, faults_of, inner_of, key_of, payload_of, place_of, plain_rest_of, refuses_of, steady_of, tells_of}
use Rattle.age.specs.StreamSealed.{ReadsPayload}
use Rattle.age.specs.StreamSeeking.{SeeksPayload}
use Rattle.age.specs.Stretch.{Stretch}
use Rattle.age.specs.Types.{Answer, Error, Op, StreamReader}
use Rattle.age.proofs.OpenedFor.{never_fails}
use Rattle.age.proofs.StreamStanding.{held-seal}
use Rattle.age_claims.specs.Claims.{IsCalm, IsHeldAt, AreHeldAt, AnswersAt, AnswersFrom, place_behind}

module _ (seal_of : Seal) (key : List ℕ) (sealed : Stretch) where
  -- what one read gives
  held_given : (place room : ℕ) (bytes : List ℕ) → Gives seal_of key sealed place room bytes → AreHeldAt seal_of key sealed place bytes
  held_given place room bytes gives = λ i within. record {
    number = gives.number;
    at = gives.at + i;
    last = gives.last;
    plain = gives.plain;
    stands = omega (arith, gives.stands);
    within = omega (arith, within, gives.exact, gives.within);
    small = gives.small;
    held = gives.held;
    allowed = gives.allowed;
    judged = gives.judged;
    is = ap (λ xs. get_or xs i 0) gives.are ∙ get_or-take (length bytes) (drop gives.at gives.plain) i 0 within
        ∙ get_or-drop gives.at gives.plain i 0;
  }

  held_none : (place : ℕ) → AreHeldAt seal_of key sealed place []
  held_none place = λ i within. absurd (omega (arith, within))

  held_joined : (place : ℕ) (front back : List ℕ) → AreHeldAt seal_of key sealed place front
      → AreHeldAt seal_of key sealed (place + length front) back
      → AreHeldAt seal_of key sealed place (front ++ back)
  held_joined place front back first second = λ i within. elim (cases_lt i (length front)) [
    | inl less ↦ subst (λ b. IsHeldAt seal_of key sealed (place + i) b) (sym (get_or_append_left front back 0 i less)) (first i less)
    | inr more ↦
        let j = i - length front in
        let there : place + length front + j ≡ place + i = omega (arith, more) in
        let byte : get_or back j 0 ≡ get_or (front ++ back) i 0 = sym (get_or-append_right front back (length front) i 0 refl more) in
        subst (λ b. IsHeldAt seal_of key sealed (place + i) b) byte
        (subst (λ p. IsHeldAt seal_of key sealed p (get_or back j 0)) there (second j (omega (arith, more, within, length-append front back))))
  ]

  -- what is held stands in the plaintext
  pub held_stands : (place : ℕ) (bytes : List ℕ) → AreHeldAt seal_of key sealed place bytes → StandAt seal_of key sealed.bytes place bytes
  held_stands place bytes held = λ i within.
      let byte = held i within in
      let (are_bytes, is_seal, short) = held-seal seal_of key byte.last sealed.bytes byte.plain byte.number byte.held in
      record {
        number = byte.number;
        at = byte.at;
        last = byte.last;
        plain = byte.plain;
        stands = byte.stands;
        under = omega (arith, byte.within, byte.small);
        within = byte.within;
        bytes = are_bytes;
        is_seal = is_seal;
        short = short;
        is = byte.is;
      }

module _ {S R : Type 0} {suite : SuiteMembers S} {read : ReadMembers R} where
  -- the same payload under the same key, of which it tells the bytes
  pub record Keeps (old new : StreamReader S R suite read) : Type 0 where
    pub tells : IsTrue (tells_of new)
    pub payload : payload_of new ≡ payload_of old
    pub key : key_of new ≡ key_of old

  -- these bytes are held in its payload from this place on
  abbrev Held : StreamReader S R suite read → ℕ → List ℕ → Type 0
  Held r place bytes = AreHeldAt suite.seal_of (key_of r) (payload_of r) place bytes

  -- what reads gave is held from the place on, and the place is behind it then
  record Gave (old new : StreamReader S R suite read) (got : List ℕ) : Type 0 where
    keeps : Keeps old new
    held : Held old (place_of old) got
    moved : place_of new ≡ place_of old + length got

  -- one operation was answered so
  record Answered (Calm : Type 0) (op : Op) (a : Answer) (old new : StreamReader S R suite read) : Type 0 where
    keeps : Keeps old new
    answers : AnswersAt Calm suite.seal_of (key_of old) (payload_of old) op a (place_of old)
    moved : place_of new ≡ place_behind a (place_of old)

  -- and several
  pub record AllAnswered (Calm : Type 0) (ops : List Op) (answers : List Answer) (old new : StreamReader S R suite read) : Type 0 where
    pub keeps : Keeps old new
    pub each : AnswersFrom Calm suite.seal_of (key_of old) (payload_of old) ops answers (place_of old) (place_of new)

  same : (r : StreamReader S R suite read) → IsTrue (tells_of r) → Keeps r r
  same r told = record { tells = told; payload = refl; key = refl }

  later : (a b c : StreamReader S R suite read) → Keeps a b → Keeps b c → Keeps a c
  later a b c first next = record {
    tells = next.tells;
    payload = next.payload ∙ first.payload;
    key = next.key ∙ first.key;
  }

  -- what is held in the later one's payload is held in the first one's
  as_first : (first after : StreamReader S R suite read) (here place : ℕ) (bytes : List ℕ) → Keeps first after → here ≡ place → Held after here bytes
      → Held first place bytes
  as_first first after here place bytes kept there held =
      subst (λ (p : ℕ). Held first p bytes) there
      (subst (λ (s : Stretch). AreHeldAt suite.seal_of (key_of first) s here bytes) kept.payload
      (subst (λ (k : List ℕ). AreHeldAt suite.seal_of k (payload_of after) here bytes) kept.key held))

  -- what one read gives, if anything
  given : (old new : StreamReader S R suite read) (room buf : List ℕ) (n : ℕ) → IsTrue (tells_of old) → ReadsPayload old new room buf (Ok n)
      → Held old (place_of old) (take n buf)
  given old new room buf zero told own = held_none suite.seal_of (key_of old) (payload_of old) (place_of old)
  given old new room buf (suc n) told own =
      held_given suite.seal_of (key_of old) (payload_of old) (place_of old) (length room) (take (suc n) buf) (own.gives.gives told (omega arith))

  -- what reads in turn give
  turns : (n : ℕ) (old new : StreamReader S R suite read) (got : List ℕ) → IsTrue (tells_of old)
      → ReadsInTurn tells_of steady_of content_of place_of plain_rest_of faults_of refuses_of ReadsPayload n old new got
      → Gave old new got
  turns zero old new got told (stays, none) =
      subst (λ (r : StreamReader S R suite read). Gave old r got) (sym stays)
      (subst (λ (bytes : List ℕ). Gave old old bytes) (sym none) (record {
        keeps = same old told;
        held = held_none suite.seal_of (key_of old) (payload_of old) (place_of old);
        moved = omega arith;
      }))
  turns (suc n) old new got told (between, before, front, one) =
      let first = turns n old between before told front in
      let knows = first.keeps.tells in
      let more : List ℕ = take one.count one.buf in
      let size : length more ≡ one.count = length-take-le one.count one.buf one.reads.count in
      let next : Held old (place_of old + length before) more =
      as_first old between (place_of between) (place_of old + length before) more first.keeps first.moved
      (given between new one.room one.buf one.count knows one.own) in
      record {
        keeps = later old between new first.keeps (record {
          tells = subst IsTrue (sym one.reads.same_tells) knows;
          payload = one.own.leaves.payload knows;
          key = one.own.leaves.key;
        });
        held = subst (λ (bytes : List ℕ). Held old (place_of old) bytes) (sym one.grown)
            (held_joined suite.seal_of (key_of old) (payload_of old) (place_of old) before more first.held next);
        moved = omega (arith, one.reads.moves knows, first.moved, ap length one.grown, length-append before more, size);
      }

  module _ (below : Error → Type 0) (Calm : Type 0) (never : Calm → (r : R) → read.faults r ≡ 0) where
    -- one operation
    answered : (op : Op) (a : Answer) (old new : StreamReader S R suite read) → IsTrue (tells_of old)
        → (Calm → IsTrue (payload_of old).ends_well)
        → CameOf tells_of steady_of content_of place_of plain_rest_of faults_of refuses_of ReadsPayload (OrTooLong below) (SeeksPayload below) op a
        old new
        → Answered Calm op a old new
    answered (Read n) (Bytes got) old new told well came =
        let gave = turns came.turns.0 old new got.items told came.turns.1 in
        record { keeps = gave.keeps; answers = (came.most, gave.held); moved = gave.moved }
    answered (Read n) (Fault got e) old new told well came =
        let between = came.between in
        let gave = turns came.turns.0 old between got.items told came.turns.1 in
        let knows = gave.keeps.tells in
        record {
          keeps = later old between new gave.keeps (record {
            tells = subst IsTrue (sym came.refused.same_tells) knows;
            payload = came.own.leaves.payload knows;
            key = came.own.leaves.key;
          });
          answers = (came.fewer, gave.held);
          moved = came.refused.stays knows ∙ gave.moved;
        }
    answered (Read n) (At place) old new told well came = absurd came
    answered (Seek to) (Bytes got) old new told well came = absurd came
    answered (Seek to) (At n) old new told well came = record {
      keeps = record { tells = subst IsTrue (sym came.seeks.same_tells) told; payload = came.own.leaves.payload told; key = came.own.leaves.key };
      answers = (came.own.target.order told, came.own.target.ends told);
      moved = came.seeks.arrives told;
    }
    answered (Seek to) (Fault got e) old new told well (none, came) = record {
      keeps = record { tells = subst IsTrue (sym came.seeks.same_tells) told; payload = came.own.leaves.payload told; key = came.own.leaves.key };
      answers = (
        none,
        came.own.target.refused told,
        λ calm want. came.own.target.bad told (well calm) want
            (never_fails faults_of old new (λ (r : StreamReader S R suite read). never calm (inner_of r))),
      );
      moved = omega (arith, came.seeks.stays told, ap length none);
    }

    -- and the rest of them, from where that left the reader
    after_one : (op : Op) (a : Answer) (ops : List Op) (answers : List Answer) (old between new : StreamReader S R suite read)
        → Answered Calm op a old between → AllAnswered Calm ops answers between new → AllAnswered Calm (op ∷ ops) (a ∷ answers) old new
    after_one op a ops answers old between new one rest = record {
      keeps = later old between new one.keeps rest.keeps;
      each = (
        one.answers,
        subst (λ (p : ℕ). AnswersFrom Calm suite.seal_of (key_of old) (payload_of old) ops answers p (place_of new)) one.moved
            (subst (λ (l : Stretch). AnswersFrom Calm suite.seal_of (key_of old) l ops answers (place_of between) (place_of new)) one.keeps.payload
            (subst (λ (k : List ℕ). AnswersFrom Calm suite.seal_of k (payload_of between) ops answers (place_of between) (place_of new))
            one.keeps.key rest.each)),
      );
    }

    -- all of them
    all_answered : (ops : List Op) (answers : List Answer) (old new : StreamReader S R suite read) → IsTrue (tells_of old)
        → (Calm → IsTrue (payload_of old).ends_well)
        → CameOfAll tells_of steady_of content_of place_of plain_rest_of faults_of refuses_of ReadsPayload (OrTooLong below) (SeeksPayload below)
        ops answers old new
        → AllAnswered Calm ops answers old new
    all_answered [] [] old new told well stays =
        subst (λ (r : StreamReader S R suite read). AllAnswered Calm [] [] old r) (sym stays) (record { keeps = same old told; each = refl })
    all_answered [] (a ∷ answers) old new told well came = absurd came
    all_answered (op ∷ ops) [] old new told well came = absurd came
    all_answered (op ∷ ops) (a ∷ answers) old new told well (between, one, rest) =
        let first = answered op a old between told well one in
        let still : Calm → IsTrue (payload_of between).ends_well =
        λ calm. subst (λ (l : Stretch). IsTrue l.ends_well) (sym first.keeps.payload) (well calm) in
        after_one op a ops answers old between new first (all_answered ops answers between new first.keeps.tells still rest)

  -- all that `run` answers
  pub run_answers : (below : Error → Type 0) (ops : List Op) (answers : List Answer) (old new : StreamReader S R suite read) → IsTrue (tells_of old)
      → CameOfAll tells_of steady_of content_of place_of plain_rest_of faults_of refuses_of ReadsPayload (OrTooLong below) (SeeksPayload below)
      ops answers old new
      → AllAnswered (IsCalm read.faults (payload_of old)) ops answers old new
  run_answers below ops answers old new told came =
      all_answered below (IsCalm read.faults (payload_of old)) (λ calm. calm.1) ops answers old new told (λ calm. calm.0) came

-- what a value's clause comes to without the value
pub on_ok : {T E X : Type 0} (P : T → Type 0) (result : Result T E) → IfOk result P → ((x : T) → P x → X) → OnOk result X
on_ok P (Ok x) h more = more x h
on_ok P (Err e) h more = tt

use Rattle.std.proofs.Common.{◌≡◌, ◌≢◌, ◌≤◌, ◌<◌, ◌-◌, ◌+◌, ◌^◌, ◌∙◌, arith, length, sym, subst, ap, IsTrue, refl, length-drop, true, None, inl, inr, Err}
use Rattle.std.proofs.lemmas.List.Elements.{All-drop}
use Rattle.age_v1.specs.PayloadTargets.{in_length}
use Rattle.age_v1.specs.Payload.{chunk_nonce, final_chunk, plain_len}
use Rattle.age_v1.specs.DeliveredPayload.{text_at}
use Rattle.age_v1.proofs.JudgedChunks.{ends_badly}
use Rattle.age_v1.proofs.OpenedTexts.{shorter}
use Rattle.age_v1.proofs.PayloadLengths.{plain_len_says}
use Rattle.age_error.specs.Bytes.{AreBytes}
use Rattle.age_error.specs.declared.io.Error.TheVariants.{BadEnd, OutOfMemory}
use Rattle.age_io.specs.Reading.{IsQuiet}
use Rattle.age_io.specs.ReadingLemmas.{quiet_from}
use Rattle.age_stream.specs.Reading.{payload_from}
use Rattle.age_stream.specs.Reader.{payload_of, place_of, tells_of, HasEnd}
use Rattle.age_stream.specs.ReadingLemmas.{and-left, and-right}
use Rattle.age_stream.specs.Seeking.{FindsTarget, RefusesTarget, ToEnd}
use Rattle.age_stream.specs.PrivateSteps.{IsNoLast}
use Rattle.age_stream.proofs.Asking.{reader-asked}
use Rattle.age_stream.proofs.Ending.{err-well, last-opens, sought-refuses, is-end}
use Rattle.age_stream.proofs.Keeping.{told-later, told-before, payload-refused, payload-ended, payload-later, own-refusal}
use Rattle.age_stream.proofs.Seeks.{seek-ended, seek-entered, seek-handed, seek-missed, seek-refused}
use Rattle.age_stream.proofs.Stepping.{step-later}
use Rattle.age_stream.proofs.reader.StreamReader.seek_on.Goals as goal

pub enter_end-requires-clause-last : goal.enter_end-requires-clause-last
enter_end-requires-clause-last g c = (plain_len_says c.in_ok-start.size c.in-Ok.len c.in-Ok.ensures.found.plain).last

pub enter_end-requires-clause-len : goal.enter_end-requires-clause-len
enter_end-requires-clause-len g c = (plain_len_says c.in_ok-start.size c.in-Ok.len c.in-Ok.ensures.found.plain).whole

pub enter-requires-clause-before : goal.enter-requires-clause-before
enter-requires-clause-before g c =
    let p = plain_len_says c.in_ok-start.size c.in-Ok.len c.in-Ok.ensures.found.plain in
    omega (arith, p.whole, p.last.fits, p.last.enough, c.in-Ok.ensures.found.within, c.if-target-len.false)

pub stand-requires-clause-within : goal.stand-requires-clause-within
stand-requires-clause-within g c = λ told.
    let source = c.args.self.now.source in
    let read = g.R.Read in
    let look = c.in_ok-start.ensures.keeps in
    let before = told-before read source.inner c.look.new.self.inner look.inner.same told in
    let t = and-left (read.tells source.inner) (read.steady source.inner) before in
    let s = and-right (read.tells source.inner) (read.steady source.inner) before in
    omega (
      arith,
      ap (λ p. length p.bytes) (look.payload before),
      length-drop (read.place source.inner - source.taken) (read.content source.inner).bytes,
      source.fits before,
      (g.met.R.Read.stands source.inner t s).within,
    )

pub enter-requires-clause-limit : goal.enter-requires-clause-limit
enter-requires-clause-limit g c = omega (arith, c.in-Ok.ensures.found.limit, c.in-Ok.ensures.found.within, c.if-target-len.false)

pub enter_end-requires-clause-limit : goal.enter_end-requires-clause-limit
enter_end-requires-clause-limit g c = c.in-Ok.ensures.found.limit

pub enter-requires-clause-start : goal.enter-requires-clause-start
enter-requires-clause-start g c = λ told.
    let look = c.in_ok-start.ensures in
    (look.found (told-before g.R.Read c.args.self.now.source.inner c.look.new.self.inner look.keeps.inner.same told)).1

pub enter_end-requires-clause-start : goal.enter_end-requires-clause-start
enter_end-requires-clause-start g c = λ told.
    let look = c.in_ok-start.ensures in
    (look.found (told-before g.R.Read c.args.self.now.source.inner c.look.new.self.inner look.keeps.inner.same told)).1

pub stand-requires-clause-start : goal.stand-requires-clause-start
stand-requires-clause-start g c = λ told.
    let look = c.in_ok-start.ensures in
    (look.found (told-before g.R.Read c.args.self.now.source.inner c.look.new.self.inner look.keeps.inner.same told)).1

pub enter-requires-clause-size : goal.enter-requires-clause-size
enter-requires-clause-size g c = λ told.
    let look = c.in_ok-start.ensures in
    let before = told-before g.R.Read c.args.self.now.source.inner c.look.new.self.inner look.keeps.inner.same told in
    (look.found before).2 ∙ ap (λ p. length p.bytes) (sym (look.keeps.payload before))

pub enter_end-requires-clause-size : goal.enter_end-requires-clause-size
enter_end-requires-clause-size g c = λ told.
    let look = c.in_ok-start.ensures in
    let before = told-before g.R.Read c.args.self.now.source.inner c.look.new.self.inner look.keeps.inner.same told in
    (look.found before).2 ∙ ap (λ p. length p.bytes) (sym (look.keeps.payload before))

-- the inner reader is refused its own places
pub returns-in_err-start : goal.returns-in_err-start
returns-in_err-start g c =
    let self = c.args.self.now in
    let look = c.in_err-start.ensures in
    let e = c.in_err-start.field-0.0 in
    let below = g.R.Seek.seek_refuses in
    let few : self.opens ≤ self.opens = omega arith in
    let once : self.opens ≤ self.opens + 1 = omega arith in
    seek-handed below self _ c.args.to c.from_residual.result e c.from_residual.ensures.1
    (seek-refused below self _ c.args.to e c.requires (payload-refused self.source c.look.new.self e look.keeps) refl refl refl
    look.refused.refusal few once (λ _ _. refl) (λ _ _. refl)
    (λ told well memory quiet. absurd (look.refused.cause told well memory quiet))
    (λ told well _ memory quiet. look.refused.cause told well memory quiet) (λ told. inr (inr look.says)))

-- the payload's length is that of no plaintext, or of too long a one
pub returns-then-not-is_outside : goal.returns-then-not-is_outside
returns-then-not-is_outside g c =
    let self = c.args.self.now in
    let read = g.R.Read in
    let suite = g.S.Suite in
    let below = g.R.Seek.seek_refuses in
    let source = self.source in
    let mid = c.look.new.self in
    let look = c.in_ok-start.ensures in
    let e = c.in-Err.e in
    let find : RefusesTarget c.args.to (place_of self) c.in_ok-start.size e =
    subst (λ p. RefusesTarget c.args.to p c.in_ok-start.size e) c.before-place.ensures c.in-Err.ensures.refused in
    let other = c.if-not-is_outside.ensures.no refl in
    let err : IsTrue (tells_of self) → in_length (plain_len (length (payload_of self).bytes)) c.args.to (place_of self) ≡ Err e =
    λ told. subst (λ n. in_length (plain_len n) c.args.to (place_of self) ≡ Err e) (look.found told).2 find.err in
    seek-refused below self _ c.args.to e c.requires
    (payload-ended source mid e look.keeps find.not_device (own-refusal below e find.named)) refl refl refl other (omega arith)
    (omega arith) (λ _ _. refl) (λ _ _. refl)
    (λ told well memory quiet. inl (rw c.requires (err told)))
    (λ told whole well memory quiet.
    let are = All-drop (λ x. x < 2 ^ 8) (read.place source.inner - source.taken) (read.content source.inner).bytes
    (g.met.R.Read.are_bytes source.inner (and-left _ _ told)) in
    other (sought-refuses c.args.to (place_of self) _ e
    (err-well suite.opened self.key (shorter suite.seal_of suite.opened g.met.S.Suite.cipher self.key self.key_bytes)
    (payload_of self) are well c.args.to (place_of self) e (err told))))
    (λ told. inl (inl (rw c.requires (err told))))

-- the target is outside, and the inner reader isn't put back
pub returns-in_err-stand-in-Err : goal.returns-in_err-stand-in-Err
returns-in_err-stand-in-Err g c =
    let self = c.args.self.now in
    let read = g.R.Read in
    let suite = g.S.Suite in
    let below = g.R.Seek.seek_refuses in
    let source = self.source in
    let mid = c.look.new.self in
    let look = c.in_ok-start.ensures in
    let done = c.in_err-stand-in-Err.ensures in
    let e = c.in_err-stand-in-Err.field-0.0 in
    let later = told-later read source.inner mid.inner look.keeps.inner.same in
    let never : IsTrue (tells_of self) → IsTrue (payload_of self).ends_well → e ≢ OutOfMemory
    → IsQuiet (read.faults source.inner) (read.faults c.stand.new.self.inner) → ⊥ = λ told well memory quiet.
    done.refused.cause (later told) (ap (λ p. p.ends_well) (look.keeps.payload told) ∙ well) memory
    (quiet_from look.keeps.inner.same.faults done.keeps.inner.same.faults quiet) in
    let few : self.opens ≤ self.opens = omega arith in
    let once : self.opens ≤ self.opens + 1 = omega arith in
    seek-handed below self _ c.args.to c.from_residual-in_err-stand-in-Err.result e c.from_residual-in_err-stand-in-Err.ensures.1
    (seek-refused below self _ c.args.to e c.requires
    (payload-later source mid (Err e) c.stand.new.self look.keeps (payload-refused mid c.stand.new.self e done.keeps)) refl refl refl
    done.refused.refusal few once (λ _ _. refl) (λ _ _. refl)
    (λ told well memory quiet. absurd (never told well memory quiet)) (λ told well _ memory quiet. never told well memory quiet)
    (λ told. inr (inr done.says)))

-- the target is before the end, and isn't come to
pub returns-in_err-enter-in-Ok : goal.returns-in_err-enter-in-Ok
returns-in_err-enter-in-Ok g c =
    let self = c.args.self.now in
    let read = g.R.Read in
    let suite = g.S.Suite in
    let below = g.R.Seek.seek_refuses in
    let source = self.source in
    let mid = c.look.new.self in
    let look = c.in_ok-start.ensures in
    let done = c.in_err-enter-in-Ok.ensures in
    let new = c.enter.new.self in
    let e = c.in_err-enter-in-Ok.field-0.0 in
    let refused = step-later self _ new {More = λ _. ⊥} e look.keeps done.keeps refl (λ _ none. none) done.refused in
    seek-handed below self _ c.args.to c.from_residual-in_err-enter-in-Ok.result e c.from_residual-in_err-enter-in-Ok.ensures.1
    (seek-refused below self new c.args.to e c.requires
    (payload-later source mid (Err e) new.source look.keeps (payload-refused mid new.source e done.keeps))
    done.same.0 refused.fails refused.place refused.refusal (omega (arith, done.same.2)) (omega (arith, done.same.2)) (λ _ _. done.same.2)
    (λ _ _. done.same.2)
    (λ told well memory quiet. absurd (refused.cause told well memory quiet)) (λ told well _. refused.cause told well)
    (λ told. inr (inr done.says)))

-- the target is the end, and isn't come to
pub returns-in_err-enter_end-in-Ok : goal.returns-in_err-enter_end-in-Ok
returns-in_err-enter_end-in-Ok g c =
    let self = c.args.self.now in
    let read = g.R.Read in
    let suite = g.S.Suite in
    let below = g.R.Seek.seek_refuses in
    let source = self.source in
    let mid = c.look.new.self in
    let look = c.in_ok-start.ensures in
    let payload = payload_of self in
    let size = c.in_ok-start.size in
    let find : FindsTarget c.args.to (place_of self) size c.in-Ok.target c.in-Ok.len =
    subst (λ p. FindsTarget c.args.to p size c.in-Ok.target c.in-Ok.len) c.before-place.ensures c.in-Ok.ensures.found in
    let done = c.in_err-enter_end-in-Ok.ensures in
    let new = c.enter_end.new.self in
    let e = c.in_err-enter_end-in-Ok.field-0.0 in
    let same : IsTrue (tells_of self) → size ≡ length payload.bytes = λ told. (look.found told).2 in
    let at_end : IsTrue (tells_of self) → ToEnd self c.args.to = λ told.
    is-end c.args.to (place_of self) (length payload.bytes) c.in-Ok.target c.in-Ok.len (rw (same told) at find.plain) c.requires
    (rw (same told) at find.ok) c.if-target-len.true in
    let are : IsTrue (tells_of self) → AreBytes payload.bytes = λ told.
    All-drop (λ x. x < 2 ^ 8) (read.place source.inner - source.taken) (read.content source.inner).bytes
    (g.met.R.Read.are_bytes source.inner (and-left _ _ told)) in
    let no_last : IsTrue (tells_of self)
    → (e ≡ BadEnd) × (suite.opened self.key (chunk_nonce (final_chunk size) true) (text_at (final_chunk size) (payload_from mid)) ≡ None)
    → IsNoLast self (final_chunk (length payload.bytes)) e = λ told bad. (
      bad.0,
      subst (λ n. suite.opened self.key (chunk_nonce (final_chunk n) true) (text_at (final_chunk n) payload) ≡ None) (same told)
          (subst (λ p. suite.opened self.key (chunk_nonce (final_chunk size) true) (text_at (final_chunk size) p) ≡ None)
          (look.keeps.payload told) bad.1),
    ) in
    let refused = step-later self _ new {More = IsNoLast self (final_chunk (length payload.bytes))} e look.keeps done.keeps refl no_last
    done.refused in
    seek-handed below self _ c.args.to c.from_residual-in_err-enter_end-in-Ok.result e c.from_residual-in_err-enter_end-in-Ok.ensures.1
    (seek-refused below self new c.args.to e c.requires
    (payload-later source mid (Err e) new.source look.keeps (payload-refused mid new.source e done.keeps))
    done.same.0 refused.fails refused.place refused.refusal (omega (arith, done.opens.0)) (omega (arith, done.opens.1))
    (λ told other. absurd (other (at_end told)))
    (λ told was. done.none was.0 (subst (λ n. HasEnd self (final_chunk n)) (sym (same told)) was.1))
    (λ told well memory quiet.
    let found = refused.cause told well memory quiet in
    inr (
      found.0,
      record {
        end = at_end told;
        bad = ends_badly suite.seal_of suite.opened g.met.S.Suite.cipher self.key self.key_bytes payload.bytes (are told) found.1;
      },
    ))
    (λ told whole well memory quiet.
    last-opens suite.opened self.key (shorter suite.seal_of suite.opened g.met.S.Suite.cipher self.key self.key_bytes) payload (are told) well
    (refused.cause told whole memory quiet).1)
    (λ told. elim done.says [
      | inl bad ↦
          let was = no_last told (bad (told-later read source.inner mid.inner look.keeps.inner.same told)) in
          inl (inr (
            was.0,
            record {
              end = at_end told;
              bad = ends_badly suite.seal_of suite.opened g.met.S.Suite.cipher self.key self.key_bytes payload.bytes (are told) was.1;
            },
          ))
      | inr other ↦ inr other
    ]))

-- the target is before the end
pub returns-in_ok-enter-in-Ok : goal.returns-in_ok-enter-in-Ok
returns-in_ok-enter-in-Ok g c =
    let self = c.args.self.now in
    let look = c.in_ok-start.ensures in
    let done = c.in_ok-enter-in-Ok.ensures in
    seek-entered g.R.Seek.seek_refuses self c.enter.new.self c.args.to g.met.S.Suite.cipher g.met.R.Read.are_bytes
    c.in_ok-start.size (λ told. (look.found told).2) c.requires
    _ (record { number = refl; at = refl; held = refl; cache = refl; key = refl; opens = refl }) look.keeps done.keeps c.in-Ok.target c.in-Ok.len
    (subst (λ p. FindsTarget c.args.to p c.in_ok-start.size c.in-Ok.target c.in-Ok.len) c.before-place.ensures c.in-Ok.ensures.found)
    (λ same. c.if-target-len.false same) done.same.0 done.same.2 done.enters

-- the target is the end
pub returns-then-target-len : goal.returns-then-target-len
returns-then-target-len g c =
    let self = c.args.self.now in
    let look = c.in_ok-start.ensures in
    let done = c.in_ok-enter_end-in-Ok.ensures in
    seek-ended g.R.Seek.seek_refuses self c.enter_end.new.self c.args.to g.met.S.Suite.cipher g.met.R.Read.are_bytes
    c.in_ok-start.size (λ told. (look.found told).2) c.requires
    _ (record { number = refl; at = refl; held = refl; cache = refl; key = refl; opens = refl }) look.keeps done.keeps c.in-Ok.target c.in-Ok.len
    (subst (λ p. FindsTarget c.args.to p c.in_ok-start.size c.in-Ok.target c.in-Ok.len) c.before-place.ensures c.in-Ok.ensures.found)
    c.if-target-len.true done.same.0 done.opens.0 done.opens.1 done.none done.enters done.chunks

-- the target is outside, and the inner reader was put back
pub returns-in_ok-stand-in-Err : goal.returns-in_ok-stand-in-Err
returns-in_ok-stand-in-Err g c =
    let self = c.args.self.now in
    let read = g.R.Read in
    let suite = g.S.Suite in
    let below = g.R.Seek.seek_refuses in
    let source = self.source in
    let mid = c.look.new.self in
    let look = c.in_ok-start.ensures in
    let done = c.in_ok-stand-in-Err.ensures in
    let put = c.stand.new.self in
    seek-missed below self _ c.args.to g.met.S.Suite.cipher g.met.R.Read.are_bytes c.in_ok-start.size
    (λ told. (look.found told).2) c.requires
    mid (record { number = refl; at = refl; held = refl; cache = refl; key = refl; opens = refl }) look.keeps done.keeps c.in-Err.e
    (subst (λ p. RefusesTarget c.args.to p c.in_ok-start.size c.in-Err.e) c.before-place.ensures c.in-Err.ensures.refused)
    (c.if-not-is_outside.ensures.yes refl) refl g.met.R.Read.stands done.stands.rest
    (λ told.
    let later = told-later read source.inner mid.inner look.keeps.inner.same told in
    let after = told-later read mid.inner put.inner done.keeps.inner.same later in
    omega (arith, done.start later, done.stands.taken later, (look.found told).0, source.fits told, put.fits after))

pub invariant_of-self-in-Break-1 : goal.invariant_of-self-in-Break-1
invariant_of-self-in-Break-1 g c = reader-asked c.args.self.now _ c.look.new.self refl refl refl refl c.in_err-start.ensures.keeps

pub invariant_of-self-then-not-is_outside : goal.invariant_of-self-then-not-is_outside
invariant_of-self-then-not-is_outside g c = reader-asked c.args.self.now _ c.look.new.self refl refl refl refl c.in_ok-start.ensures.keeps

pub invariant_of-self-in-Ok-1 : goal.invariant_of-self-in-Ok-1
invariant_of-self-in-Ok-1 g c = reader-asked c.args.self.now _ c.look.new.self refl refl refl refl c.in_ok-start.ensures.keeps

pub invariant_of-self-in-Break-branch-2 : goal.invariant_of-self-in-Break-branch-2
invariant_of-self-in-Break-branch-2 g c =
    let source = c.args.self.now.source in
    let e = c.in_err-stand-in-Err.field-0.0 in
    reader-asked c.args.self.now _ c.stand.new.self refl refl refl refl
    (payload-later source c.look.new.self {U = Unit {0}} (Err e) c.stand.new.self c.in_ok-start.ensures.keeps c.in_err-stand-in-Err.ensures.keeps)

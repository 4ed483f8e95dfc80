use Rattle.std.specs.Prelude.{◌≡◌, ◌⊎◌, Bool, false, true, length, Ok, Err}
use Rattle.std.proofs.Common.{rules, arith, sym, ap, subst, ◌∙◌, inl, inr}
use Rattle.age_io.specs.Buffered.{place_of}
use Rattle.age_io.specs.Buffering.{held}
use Rattle.age_io.specs.Cursor.{IsOutside, MayLead, sought}
use Rattle.age_io.specs.Stretch.{from_place}
use Rattle.age_io.specs.ReadingLemmas.{quiet_from}
use Rattle.age_io.proofs.Holding.{rest-empty, kept-behind}
use Rattle.age_io.proofs.buffered.BufReaderSeek.seek.Goals as goal

-- a refusal of the inner reader is one of this
refused-below : {A B C : Type 0} → A ⊎ B → A ⊎ C ⊎ B
refused-below (inl a) = inl a
refused-below (inr b) = inr (inr b)

-- one of a good reader is one of the inner reader
refused-good : {A B C D : Type 0} → (B → D) → ((false ≡ true) × A) ⊎ B → C ⊎ D
refused-good narrows (inl failed) = let never : false ≡ true = failed.0 in absurd (Prim.cc)
refused-good narrows (inr b) = inr (narrows b)

-- one of a reader that is as failed as it was
refused-as : {A B C : Type 0} {now failed : Bool} → now ≡ failed → (B → C) → ((now ≡ true) × A) ⊎ B → ((failed ≡ true) × A) ⊎ C
refused-as same narrows (inl is) = inl (sym same ∙ is.0, is.1)
refused-as same narrows (inr b) = inr (narrows b)

-- one of the inner reader after it was put back
refused-later : {A B C D E F : Type 0} → (B → D) → (A ⊎ F) ⊎ B → (A ⊎ E ⊎ F) ⊎ C ⊎ D
refused-later narrows (inl (inl a)) = inl (inl a)
refused-later narrows (inl (inr f)) = inl (inr (inr f))
refused-later narrows (inr b) = inr (inr (narrows b))

pub returns-in-Err-clause-seeks : goal.returns-in-Err-clause-seeks
returns-in-Err-clause-seeks g c =
    let back = c.in-Err.ensures in
    record {
      same_tells = back.keeps.same.tells;
      same_steady = back.keeps.same.steady;
      no_fewer_faults = back.keeps.same.faults;
      device = back.keeps.device;
      unspent = tt;
      why = refused-below back.keeps.why;
      narrows = tt;
      again = λ is. absurd (back.keeps.patient is);
      missed = λ is. absurd (back.other is);
      same_content = back.keeps.same.content;
      arrives = λ told. tt;
      leads = λ told. tt;
      stays = back.place;
      interrupted = λ told is. absurd (back.keeps.patient is);
      moves = λ told steady. tt;
      kept = λ told steady at is. absurd (back.other is);
      refused = λ told well is. absurd (back.other is);
      cause = λ told well other quiet. absurd (back.cause told well other quiet);
    }

pub returns-in-Ok-seek_retrying-clause-seeks : goal.returns-in-Ok-seek_retrying-clause-seeks
returns-in-Ok-seek_retrying-clause-seeks g c =
    let read = g.R.Read in
    let back = c.in-Ok.ensures in
    let same = back.keeps.same in
    let seeks = c.in-Ok-seek_retrying.ensures.seeks in
    let n = c.in-Ok-seek_retrying.place in
    let old = c.args.self.now in
    let between = c.put_back.new.self in
    record {
      same_tells = seeks.same_tells ∙ same.tells;
      same_steady = seeks.same_steady ∙ same.steady;
      no_fewer_faults = omega (arith, same.faults, seeks.no_fewer_faults);
      device = tt;
      unspent = seeks.unspent;
      why = tt;
      narrows = λ e. refused-good (λ h. back.keeps.narrows e (seeks.narrows e h));
      again = tt;
      missed = tt;
      same_content = λ told. seeks.same_content (same.tells ∙ told) ∙ same.content told;
      arrives = λ told. omega (arith, seeks.arrives (same.tells ∙ told), back.empty);
      leads = λ told.
          let at : read.place between.inner ≡ place_of old = omega (arith, back.empty, back.place told) in
          subst (λ p. MayLead c.args.to p n) at (seeks.leads (same.tells ∙ told));
      stays = λ told. tt;
      interrupted = λ told. tt;
      moves = λ told steady.
          let at : read.place between.inner ≡ place_of old = omega (arith, back.empty, back.place told) in
          let moved = seeks.moves (same.tells ∙ told) (same.steady ∙ steady) in
          let content = same.content told in (
            subst (λ p. sought c.args.to p (length (read.content old.inner).bytes) ≡ Ok n) at
                (subst (λ s. sought c.args.to (read.place between.inner) (length s.bytes) ≡ Ok n) content moved.0),
            rest-empty between.buffer.items between.given between.filled (read.rest c.seek_retrying.new.reader) back.empty
                ∙ moved.1 ∙ ap (λ s. from_place n s) content,
          );
      kept = λ told steady at. tt;
      refused = λ told well. tt;
      cause = λ told well. tt;
    }

pub returns-after-self-clause-seeks : goal.returns-after-self-clause-seeks
returns-after-self-clause-seeks g c =
    let read = g.R.Read in
    let back = c.in-Ok.ensures in
    let same = back.keeps.same in
    let seeks = c.in-Err-seek_retrying.ensures.seeks in
    let patient = c.in-Err-seek_retrying.ensures.patient in
    let e = c.in-Err-seek_retrying.e in
    let old = c.args.self.now in
    let between = c.put_back.new.self in
    let new = c.seek_retrying.new.reader in
    let unmoved : IsOutside e → c.if-self.self ≡ old.failed = search rules in
    record {
      same_tells = seeks.same_tells ∙ same.tells;
      same_steady = seeks.same_steady ∙ same.steady;
      no_fewer_faults = omega (arith, same.faults, seeks.no_fewer_faults);
      device = λ is. omega (arith, same.faults, seeks.device is);
      unspent = tt;
      why = refused-later (back.keeps.narrows e) seeks.why;
      narrows = tt;
      again = λ is. absurd (patient is);
      missed = λ is x. refused-as (unmoved is) (λ h. back.keeps.narrows x (seeks.missed is x h));
      same_content = λ told. seeks.same_content (same.tells ∙ told) ∙ same.content told;
      arrives = λ told. tt;
      leads = λ told. tt;
      stays = λ told. omega (arith, seeks.stays (same.tells ∙ told), back.empty, back.place told);
      interrupted = λ told is. absurd (patient is);
      moves = λ told steady. tt;
      kept = λ told steady at is.
          let place : read.place between.inner ≡ place_of old = omega (arith, back.empty, back.place told) in
          kept-behind old.failed c.if-self.self (held old.buffer.items old.given old.filled) between.buffer.items between.given between.filled
          (read.rest old.inner) (read.rest new) back.empty (unmoved is) (λ good.
          let sound = back.sound told steady good at in
          seeks.kept (same.tells ∙ told) (same.steady ∙ steady) sound is ∙ sound
          ∙ ap (λ s. from_place (read.place between.inner) s) (same.content told)
          ∙ ap (λ p. from_place p (read.content old.inner)) place ∙ sym at);
      refused = λ told well is.
          let place : read.place between.inner ≡ place_of old = omega (arith, back.empty, back.place told) in
          let content = same.content told in
          let refused = seeks.refused (same.tells ∙ told) (ap (λ s. s.ends_well) content ∙ well) is in
          subst (λ p. sought c.args.to p (length (read.content old.inner).bytes) ≡ Err e) place
          (subst (λ s. sought c.args.to (read.place between.inner) (length s.bytes) ≡ Err e) content refused);
      cause = λ told well other quiet.
          seeks.cause (same.tells ∙ told) (ap (λ s. s.ends_well) (same.content told) ∙ well) other
          (quiet_from same.faults seeks.no_fewer_faults quiet);
    }

-- Steps that keep a reader, one after the other, and what reads and seeks make of them.
use Rattle.std.proofs.Common.{◌≤◌, true, ◌+◌, ◌<◌, length, ◌≡◌, ◌≢◌, ◌⊎◌, ◌∙◌, ◌-◌, ℕ, false, IsTrue, Result, Ok, Err, arith, ap, subst, sym, refl, inl, inr, Bool, List, take, IfOk, OnOk}
use Rattle.std.proofs.lemmas.Bool.{true≢false}
use Rattle.age_error.specs.Refusals.{IsDevice, IsInterruption}
use Rattle.age_error.specs.declared.io.Error.{Error}
use Rattle.age_error.specs.declared.io.Error.TheVariants.{Failed, OutOfMemory}
use Rattle.age_io.specs.declared.traits.Read.{Ghosts}
use Rattle.age_io.specs.Stretch.{nothing, from_place, IsCleanEnd, IsFault}
use Rattle.age_io.specs.Keeping.{SameReader, KeepsReader, OrSeek}
use Rattle.age_io.specs.Reading.{AddsNoReason, TriedAgain, most_faults, Reads, Delivers, IsQuiet}
use Rattle.age_io.proofs.Keeping.{same-later, keeps-done, keeps-later, keeps-more, keeps-refused, seek-narrows}
use Rattle.age_io.proofs.Retrying.{tried-patient, tried-narrows}
use Rattle.age_io.specs.declared.bufread.BufRead as buffered
use Rattle.age_armor.specs.declared.reader.ArmoredReader.{ArmoredReader}
use Rattle.age_armor.specs.Reader.{CountsLine, armored_content, origin_of, armored_reader, armored_rest, refuses_of, shown_of, Learns, outcome_of, source_of, text_outcome_of}
use Rattle.age_armor.specs.declared.counted.Counted.{Counted}
use Rattle.age_armor.specs.Refusing.{IsOwnRefusal}
use Rattle.age_v1.proofs.DeliveredArmors.{content_of}
use Rattle.age_armor.specs.Seeking.{OrAstray, text_outcome}
use Rattle.age_armor.specs.PrivateSeeking.{Goes}
use Rattle.age_armor.proofs.Ahead.{length_held, rest_gone}
use Rattle.age_armor.proofs.Refusing.{failed-or-kept, own-patient, own-wider, plain-narrows}
use Rattle.age_io.specs.Failing.{FailsForGood}
use Rattle.age_io.specs.Filling.{Fills}
use denote.Ref.{Bor}
use Rattle.age_v1.specs.DeliveredArmor.{Ending, begins_armor}
use Rattle.age_armor.specs.Ending.{KeepsEnding}
use Rattle.age_armor.specs.Marks.{LearnsMore}
use Rattle.age_armor.specs.Stages.{is_start, has_lines}
use Rattle.age_armor.specs.Steps.{WhereSteady}
use Rattle.age_armor.specs.Windows.{held_in}
use Rattle.age_armor.specs.PrivateSteps.{WhereTold, KeepsText}
use Rattle.age_armor.proofs.Forms.{form_kept}
use Rattle.age_armor.proofs.Pacing.{learns_later, learns_none}

module _ {R : Type 0} (read : Ghosts R) where
  -- the new reader stands in the text that the old one stood in, which begins at this place
  pub record SameText (old : R) (old_origin : ℕ) (new : R) (new_origin : ℕ) : Type 0 where
    pub told : IsTrue (read.tells new) → IsTrue (read.tells old)
    pub steady : IsTrue (read.steady new) → IsTrue (read.steady old)
    pub text : IsTrue (read.tells new) → from_place new_origin (read.content new) ≡ from_place old_origin (read.content old)
    pub content : IsTrue (read.tells new) → content_of (read.content new) new_origin ≡ content_of (read.content old) old_origin

  pub same-text : (old : R) (old_origin : ℕ) (new : R) (new_origin : ℕ) → SameReader read old new →
      (IsTrue (read.tells old) → new_origin ≡ old_origin) → SameText old old_origin new new_origin
  same-text old old_origin new new_origin same origin = record {
    told = λ told. sym same.tells ∙ told;
    steady = λ steady. sym same.steady ∙ steady;
    text = λ told. rw (same.content (sym same.tells ∙ told), origin (sym same.tells ∙ told)) refl;
    content = λ told. rw (same.content (sym same.tells ∙ told), origin (sym same.tells ∙ told)) refl;
  }

  -- a step, and then a call
  pub goes-later : {T : Type 0} (may : R → Error → Type 0) (result : Result T Error) (a b c : R) → SameReader read a b →
      AddsNoReason (TriedAgain read.refuses) a b → AddsNoReason may a b → Goes read may b c result → Goes read may a c result
  goes-later may result a b c first narrows fewer second =
      record { keeps = keeps-later read may result a b c first narrows fewer second.keeps; unspent = second.unspent }

  -- two steps, and then a refusal that isn't the device's
  pub goes-refused : {T : Type 0} (may : R → Error → Type 0) (a b c : R) (e : Error) → SameReader read a b → SameReader read b c → (IsDevice e → ⊥) →
      may a e → Goes {A = T} read may a c (Err e)
  goes-refused may a b c e first second other why =
      record { keeps = keeps-refused read may a c e (same-later read a b c first second) other why; unspent = tt }

  -- the refusal of a call is passed on
  pub goes-error : {A B : Type 0} (may : R → Error → Type 0) (a b : R) (e : Error) → KeepsReader {T = A} read may a b (Err e)
      → Goes {A = B} read may a b (Err e)
  goes-error may a b e keeps = record {
    keeps = record { same = keeps.same; device = keeps.device; patient = keeps.patient; why = keeps.why; narrows = tt };
    unspent = tt;
  }

  -- a call that refuses as one that seeks may
  pub goes-seeking : {T : Type 0} (own : Error → Type 0) (may : R → Error → Type 0) (result : Result T Error) (a b : R) → Goes read may a b result →
      Goes read (OrSeek own may) a b result
  goes-seeking own may result a b goes = record {
    keeps = keeps-more read may (OrSeek own may) result a b (λ e why. inr why) goes.keeps;
    unspent = goes.unspent;
  }

  -- a refusal of which nothing is left but that it failed, where it was that of a seek, or the same one
  pub goes-unrefused : {T U : Type 0} (below : Error → Type 0) (may : R → Error → Type 0) (a b : R) (e answer : Error)
      → (answer ≢ Failed → answer ≡ e) →
      Goes {A = T} read (OrSeek (OrAstray below) may) a b (Err e) → Goes {A = U} read (OrSeek (OrAstray below) may) a b (Err answer)
  goes-unrefused below may a b e answer kept goes = record {
    keeps = record {
      same = goes.keeps.same;
      device = λ is. goes.keeps.device (subst IsDevice (kept (λ failed. rw failed at is)) is);
      patient = λ is. goes.keeps.patient (subst IsInterruption (kept (λ failed. rw failed at is)) is);
      why = elim (failed-or-kept e answer kept) [
        | inl failed ↦ inl (inr (inr (inl failed)))
        | inr same ↦ subst (OrSeek (OrAstray below) may a) (sym same) goes.keeps.why
      ];
      narrows = tt;
    };
    unspent = tt;
  }

-- over the same source it is the same reader
module _ {R : Type 0} {buf : buffered.Ghosts R} {read : Ghosts R} where
  pub same-source : (old new : ArmoredReader R buf read) → new.source ≡ old.source → new.preceding ≡ old.preceding → SameReader armored_reader old new
  same-source old new is before = record {
    tells = ap (λ s. read.tells s.inner) is;
    steady = ap (λ s. read.steady s.inner) is;
    faults = omega (arith, ap (λ s. read.faults s.inner) is);
    content = λ told. ap (λ s. content_of (read.content s.inner) (read.place s.inner - s.taken + new.preceding)) is
        ∙ ap (λ n. content_of (read.content old.source.inner) (read.place old.source.inner - old.source.taken + n)) before;
  }

-- ---- an armored reader

module _ {R : Type 0} {buf : buffered.Ghosts R} {read : Ghosts R} where
  pub armor-patient : (r : ArmoredReader R buf read) (e : Error) → refuses_of r e → IsInterruption e → ⊥
  armor-patient r e h is = elim h [
    | inl own ↦ subst IsInterruption own.1 is
    | inr reading ↦ elim reading [
      | inl text ↦ own-patient _ _ _ e text is
      | inr tried ↦ tried-patient read.refuses r.source.inner e tried is
    ]
  ]

  pub armor-plain : (a b : ArmoredReader R buf read) → AddsNoReason (TriedAgain refuses_of) a b → AddsNoReason refuses_of a b
  armor-plain a b narrows = plain-narrows refuses_of a b armor-patient narrows

  pub seeks-plain : (own : Error → Type 0) (a b : ArmoredReader R buf read) → AddsNoReason (TriedAgain refuses_of) a b
      → AddsNoReason (OrSeek own refuses_of) a b
  seeks-plain own a b narrows = seek-narrows own refuses_of a b (armor-plain a b narrows)

  -- a step that adds no reason to the inner reader, after which it hasn't failed
  pub armor-narrows : (a b : ArmoredReader R buf read) → SameReader read a.source.inner b.source.inner →
      AddsNoReason (TriedAgain read.refuses) a.source.inner b.source.inner → WhereTold a (origin_of b ≡ origin_of a) → b.failed ≡ false →
      AddsNoReason refuses_of a b
  armor-narrows a b same narrows origin good e h = elim h [
    | inl own ↦ absurd (true≢false (sym own.0 ∙ good))
    | inr reading ↦ elim reading [
      | inl text ↦
          let ends : WhereTold a ((text_outcome_of b).ending ≡ (text_outcome_of a).ending) = λ told. rw (same.content told, origin told) refl in
          inr (inl (own-wider _ _ (read.tells a.source.inner) (read.steady a.source.inner) _ (text_outcome_of a).ending e
          (λ told. same.tells ∙ told) (λ steady. same.steady ∙ steady) ends text))
      | inr tried ↦ inr (inr (narrows e tried))
    ]
  ]

  -- why reading refuses, over the source and the count of bytes before the text
  abbrev reading_refuses : Counted R buf read → ℕ → Error → Type 0
  reading_refuses s before e = IsOwnRefusal (read.tells s.inner) (read.steady s.inner)
      (text_outcome (read.content s.inner) (read.place s.inner - s.taken + before)).ending e ⊎ TriedAgain read.refuses s.inner e

  same-refuses : (a b : ArmoredReader R buf read) (e : Error) → b.source ≡ a.source → b.preceding ≡ a.preceding →
      reading_refuses b.source b.preceding e → reading_refuses a.source a.preceding e
  same-refuses a b e is before h = subst (λ s. reading_refuses s a.preceding e) is (subst (λ n. reading_refuses b.source n e) before h)

  -- over the same source, one that has failed refuses with no more than `Failed` besides
  pub source-narrows : (a b : ArmoredReader R buf read) → b.source ≡ a.source → b.preceding ≡ a.preceding → (e : Error) → refuses_of b e →
      (e ≡ Failed) ⊎ refuses_of a e
  source-narrows a b is before e h = elim h [
    | inl own ↦ inl own.1
    | inr reading ↦ inr (inr (same-refuses a b e is before reading))
  ]

  -- and one that hasn't, with none
  pub still-narrows : (a b : ArmoredReader R buf read) → b.source ≡ a.source → b.preceding ≡ a.preceding → b.failed ≡ false
      → AddsNoReason refuses_of a b
  still-narrows a b is before good e h = elim h [
    | inl own ↦ absurd (true≢false (sym own.0 ∙ good))
    | inr reading ↦ inr (same-refuses a b e is before reading)
  ]

  pub same-armored : (a b : ArmoredReader R buf read) → SameReader read a.source.inner b.source.inner →
      WhereTold a (origin_of b ≡ origin_of a) →
      SameReader armored_reader a b
  same-armored a b same origin = record {
    tells = same.tells;
    steady = same.steady;
    faults = same.faults;
    content = λ told. rw (same.content told, origin told) refl;
  }

  -- a step of the reader that gives the text
  pub armored-done : {A B : Type 0} {x : A} {y : B} {below : R → Error → Type 0} (may : ArmoredReader R buf read → Error → Type 0)
      (a b : ArmoredReader R buf read) →
      KeepsReader {T = A} read below a.source.inner b.source.inner (Ok x) →
      WhereTold a (origin_of b ≡ origin_of a) →
      read.faults b.source.inner < most_faults → b.failed ≡ false → Goes {A = B} armored_reader may a b (Ok y)
  armored-done may a b keeps origin few good = record {
    keeps = keeps-done armored_reader may a b (same-armored a b keeps.same origin)
        (tried-narrows refuses_of a b (armor-narrows a b keeps.same keeps.narrows origin good));
    unspent = few;
  }

  pub armored-refused : {A B : Type 0} {below : R → Error → Type 0} (may : ArmoredReader R buf read → Error → Type 0)
      (a b : ArmoredReader R buf read) (e : Error) →
      KeepsReader {T = A} read below a.source.inner b.source.inner (Err e) →
      WhereTold a (origin_of b ≡ origin_of a) →
      (below a.source.inner e → may a e) → Goes {A = B} armored_reader may a b (Err e)
  armored-refused may a b e keeps origin wider = record {
    keeps = record { same = same-armored a b keeps.same origin; device = keeps.device; patient = keeps.patient; why = wider keeps.why; narrows = tt };
    unspent = tt;
  }

  -- ---- where it stands in its text, what it holds and what it shows

  pub stands_inside : (r : ArmoredReader R buf read) → WhereSteady r (r.place ≤ length (armored_content r).bytes)
  stands_inside r told steady = (r.sound.text told steady).inside

  pub follows_text : (r : ArmoredReader R buf read)
      → WhereSteady r ((armored_rest r ≡ nothing → ⊥) → armored_rest r ≡ from_place r.place (armored_content r))
  follows_text r told steady some = ((r.sound.text told steady).follows some).rest

  pub ends_as_text : (r : ArmoredReader R buf read)
      → WhereSteady r ((armored_rest r ≡ nothing → ⊥) → (outcome_of r).ending ≡ (text_outcome_of r).ending)
  ends_as_text r told steady some = ((r.sound.text told steady).follows some).ending

  pub held_shown : (r : ArmoredReader R buf read) → r.failed ≡ false → length (shown_of r) ≡ length (held_in r.window)
  held_shown r good = length_held r.failed (held_in r.window) good

  pub reached : (r : ArmoredReader R buf read) → IsTrue (read.tells r.source.inner) → r.failed ≡ false
      → r.place + length (shown_of r) ≤ r.marks.furthest
  reached r told good = omega (arith, (r.sound.paced told good).within, held_shown r good)

  pub gone : (r : ArmoredReader R buf read) → r.failed ≡ true → armored_rest r ≡ nothing
  gone r fails = rest_gone r.failed (held_in r.window) r.stage (read.rest r.source.inner) fails

-- ---- a reader that fails for good

pub good-done : {A : Type 0} {x : A} (old new : Bool) → old ≡ false → new ≡ false → FailsForGood old new (Ok x)
good-done old new before now = record { failed = λ gone. absurd (true≢false (sym gone ∙ before)); fails = tt; good = now; patient = tt }

pub good-failed : {A : Type 0} (old new : Bool) (e : Error) → old ≡ false → IsTrue new → (IsInterruption e → ⊥) → FailsForGood {A = A} old new (Err e)
good-failed old new e before fails patient =
    record { failed = λ gone. absurd (true≢false (sym gone ∙ before)); fails = fails; good = tt; patient = patient }

pub fails-passed : {A B : Type 0} (old new : Bool) (e : Error) → FailsForGood {A = A} old new (Err e) → FailsForGood {A = B} old new (Err e)
fails-passed old new e fails = record { failed = fails.failed; fails = fails.fails; good = tt; patient = fails.patient }

pub ends-passed : {A B : Type 0} (tells failed : Bool) (old_faults new_faults : ℕ) (old new : Ending) (e : Error) →
    KeepsEnding {A = A} tells failed old_faults new_faults old new (Err e) → KeepsEnding {A = B} tells failed old_faults new_faults old new (Err e)
ends-passed tells failed old_faults new_faults old new e ends = record { same = λ told. tt; named = ends.named }

-- what holds of each answer holds where there is one
pub on_if : (result : Result ℕ Error) (P : ℕ → Type 0) (Q : Type 0) → ((n : ℕ) → P n → Q) → IfOk result P → OnOk result Q
on_if (Ok n) P Q from h = from n h
on_if (Err e) P Q from h = tt

module _ {R : Type 0} {buf : buffered.Ghosts R} {read : Ghosts R} where
  -- ---- the text

  pub text-still : (a b : ArmoredReader R buf read) → b.source ≡ a.source → b.preceding ≡ a.preceding → b.marks ≡ a.marks → KeepsText a b
  text-still a b source before marks = record {
    same_text = λ told. ap (λ s. from_place (read.place s.inner - s.taken + b.preceding) (read.content s.inner)) source
        ∙ ap (λ n. from_place (read.place a.source.inner - a.source.taken + n) (read.content a.source.inner)) before;
    learns = learns_none _ _ marks;
    counts = omega (arith, ap (λ s. s.lines) source);
    bare = λ told steady plain. ap (λ s. s.lines) source;
  }

  -- the reader that gives it was moved
  pub text-moved : (a b : ArmoredReader R buf read) → SameReader read a.source.inner b.source.inner →
      WhereTold a (origin_of b ≡ origin_of a) →
      LearnsMore a.marks b.marks → a.source.lines ≤ b.source.lines →
      WhereSteady a (begins_armor (source_of a).bytes ≡ false → b.source.lines ≡ a.source.lines) → KeepsText a b
  text-moved a b same origin learns counts bare = record {
    same_text = λ told. rw (same.content told, origin told) refl;
    learns = learns;
    counts = counts;
    bare = bare;
  }

  pub text-later : (a b c : ArmoredReader R buf read) → SameReader armored_reader a b → KeepsText a b → KeepsText b c → KeepsText a c
  text-later a b c same first last = record {
    same_text = λ told. last.same_text (same.tells ∙ told) ∙ first.same_text told;
    learns = learns_later a.marks b.marks c.marks first.learns last.learns;
    counts = omega (arith, first.counts, last.counts);
    bare = λ told steady plain.
        last.bare (same.tells ∙ told) (same.steady ∙ steady) (ap (λ t. begins_armor t.bytes) (first.same_text told) ∙ plain)
        ∙ first.bare told steady plain;
  }

  pub text-learned : {A : Type 0} {result : Result A Error} (a b : ArmoredReader R buf read) → WhereTold a (source_of b ≡ source_of a) →
      Learns a b result → KeepsText a b
  text-learned a b same learns = record { same_text = same; learns = learns.more; counts = learns.lines.0; bare = learns.bare }

  -- all that it holds is before the furthest place
  pub learned : {A : Type 0} {x : A} (a b : ArmoredReader R buf read) → SameReader armored_reader a b → KeepsText a b →
      b.source.lines ≤ a.source.lines + 1 → b.failed ≡ false → WhereTold a (IsTrue (has_lines b.stage) → CountsLine a b) → Learns a b (Ok x)
  learned a b same text once good exact = record {
    more = text.learns;
    reaches = λ told. reached b (same.tells ∙ told) good;
    lines = (text.counts, once);
    bare = text.bare;
    exact = exact;
  }

  -- whether it has armor is what the text says
  pub form-found : (a b : ArmoredReader R buf read) → SameReader armored_reader a b → KeepsText a b → is_start b.stage ≡ false →
      IsTrue (read.tells a.source.inner) → IsTrue (read.steady a.source.inner) → has_lines b.stage ≡ begins_armor (source_of a).bytes
  form-found a b same text begun told steady =
      (form_kept (has_lines b.stage) (source_of b) (source_of a) ((b.sound.text (same.tells ∙ told) (same.steady ∙ steady)).form begun)
      (sym (text.same_text told))).same

  -- ---- a read

  -- what is given was read before
  pub goes-given : {A B : Type 0} {x : A} {y : B} (a b c : ArmoredReader R buf read) → Goes armored_reader refuses_of a b (Ok x) →
      c.source ≡ b.source → c.preceding ≡ b.preceding → c.failed ≡ false → Goes armored_reader refuses_of a c (Ok y)
  goes-given a b c goes source before good = record {
    keeps = keeps-done armored_reader refuses_of a c (same-later armored_reader a b c goes.keeps.same (same-source b c source before))
        (λ e h. goes.keeps.narrows e (tried-narrows refuses_of b c (still-narrows b c source before good) e h));
    unspent = omega (arith, ap (λ s. read.faults s.inner) source, goes.unspent);
  }

  pub reads-done : (a b : ArmoredReader R buf read) (into : List ℕ) (n : ℕ) → KeepsReader armored_reader refuses_of a b (Ok n) →
      (0 < length into → read.faults b.source.inner < most_faults) → n ≤ length into
      → WhereTold a (Delivers (take n into) (armored_rest a) (armored_rest b)) →
      WhereTold a (b.place ≡ a.place + n) → WhereTold a (n ≡ 0 → 0 < length into → IsCleanEnd (armored_rest a)) →
      Reads armored_reader.tells armored_reader.steady armored_reader.content armored_reader.place armored_reader.rest armored_reader.faults
      refuses_of a b into (Ok n)
  reads-done a b into n keeps few count bytes moves end = record {
    count = count;
    same_tells = keeps.same.tells;
    same_steady = keeps.same.steady;
    no_fewer_faults = keeps.same.faults;
    device = tt;
    unspent = few;
    why = tt;
    narrows = armor-plain a b keeps.narrows;
    again = tt;
    same_content = keeps.same.content;
    bytes = bytes;
    moves = moves;
    end = end;
    stays = λ told. tt;
    left = λ told. tt;
    interrupted = λ told. tt;
    cause = λ told. tt;
  }

  pub reads-failed : {A : Type 0} (a b : ArmoredReader R buf read) (into : List ℕ) (e : Error) → Goes {A = A} armored_reader refuses_of a b (Err e) →
      b.place ≡ a.place → b.failed ≡ true →
      (IsTrue (read.tells a.source.inner) → e ≢ OutOfMemory → IsQuiet (read.faults a.source.inner) (read.faults b.source.inner)
      → IsFault (armored_rest a)) →
      Reads armored_reader.tells armored_reader.steady armored_reader.content armored_reader.place armored_reader.rest armored_reader.faults
      refuses_of a b into (Err e)
  reads-failed a b into e goes stays fails cause = record {
    count = tt;
    same_tells = goes.keeps.same.tells;
    same_steady = goes.keeps.same.steady;
    no_fewer_faults = goes.keeps.same.faults;
    device = goes.keeps.device;
    unspent = tt;
    why = goes.keeps.why;
    narrows = tt;
    again = λ again. absurd (goes.keeps.patient again);
    same_content = goes.keeps.same.content;
    bytes = λ told. tt;
    moves = λ told. tt;
    end = λ told. tt;
    stays = λ told. stays;
    left = λ told. inr (gone b fails);
    interrupted = λ told again. absurd (goes.keeps.patient again);
    cause = cause;
  }

  pub fills-failed : {A : Type 0} {shown : ArmoredReader R buf read → List ℕ}
      {besides : ArmoredReader R buf read → ArmoredReader R buf read → Result (Bor (List ℕ)) Error → Type 0}
      (a b : ArmoredReader R buf read) (e : Error) → Goes {A = A} armored_reader refuses_of a b (Err e) → b.place ≡ a.place → b.failed ≡ true →
      WhereTold a (e ≢ OutOfMemory → IsQuiet (read.faults a.source.inner) (read.faults b.source.inner) → IsFault (armored_rest a))
      → besides a b (Err e) →
      Fills armored_reader.tells armored_reader.steady armored_reader.content armored_reader.place armored_reader.rest armored_reader.faults
      refuses_of shown besides a b (Err e)
  fills-failed a b e goes stays fails cause own = record {
    same_tells = goes.keeps.same.tells;
    same_steady = goes.keeps.same.steady;
    no_fewer_faults = goes.keeps.same.faults;
    device = goes.keeps.device;
    unspent = tt;
    why = goes.keeps.why;
    narrows = tt;
    again = λ again. absurd (goes.keeps.patient again);
    shows = tt;
    own = own;
    same_content = goes.keeps.same.content;
    stays = λ told. stays;
    same_rest = λ told. tt;
    left = λ told. inr (gone b fails);
    interrupted = λ told again. absurd (goes.keeps.patient again);
    cause = cause;
  }

-- The steps of a seek in armor, one after the other.
use Rattle.std.proofs.Common.{◌^◌, ◌≡◌, ◌≢◌, ◌∙◌, ◌<◌, ◌≤◌, ℕ, ℤ, false, IsTrue, length, Result, Ok, Err, ◌⊎◌, IfOk, OnOk, IfErr, arith, ap, sym, subst, refl, inl, inr}
use Rattle.std.proofs.lemmas.Bool.{cases_Bool, true≢false}
use Rattle.std.proofs.lemmas.Result.{IfOk-weaker, IfErr-weaker, on_ok_weaker}
use Rattle.age_error.specs.Refusals.{IsDevice, IsInterruption}
use Rattle.age_error.specs.declared.io.Error.{Error}
use Rattle.age_error.specs.declared.io.Error.TheVariants.{OutOfMemory, Failed}
use Rattle.age_error.specs.declared.io.SeekFrom.{SeekFrom}
use Rattle.age_error.specs.declared.io.SeekFrom.TheVariants.{Start, End}
use Rattle.age_io.specs.declared.traits.Read.{Ghosts}
use Rattle.age_io.specs.declared.bufread.BufRead as buffered
use Rattle.age_io.specs.Stretch.{from_place, IsCleanEnd}
use Rattle.age_io.specs.Keeping.{SameReader, KeepsReader, OrSeek}
use Rattle.age_io.specs.Reading.{most_faults, IsQuiet, AddsNoReason}
use Rattle.age_io.specs.Cursor.{IsOutside, sought, target}
use Rattle.age_io.proofs.Keeping.{same-later, keeps-done, seek-narrows}
use Rattle.age_armor.specs.declared.reader.ArmoredReader.{ArmoredReader}
use Rattle.age_v1.specs.DeliveredArmor.{text_delivers}
use Rattle.age_armor.specs.Stages.{NamesEnding, is_start}
use Rattle.age_armor.specs.ReaderLemmas.{well_inner}
use Rattle.age_armor.specs.Seeking.{OrAstray, AsksPast}
use Rattle.age_armor.specs.PrivateSeeking.{Goes, SeeksText, ComesBack}
use Rattle.age_armor.specs.Refusing.{OrWant}
use Rattle.age_armor.proofs.Refusing.{want-own}
use Rattle.age_armor.specs.Reader.{knows_end, origin_of, text_outcome_of, armored_reader, armored_content, armored_rest, refuses_of}
use Rattle.age_armor.specs.Steps.{WhereSteady, LandsBelow}
use Rattle.age_armor.specs.PrivateSteps.{WhereTold, KeepsText, Came, GoesTo, ReachesEnd, FailsThere, EndsAsBefore, EndsAsText, StandsInText, WalksAlong, Reaches, Misses, FindsEnd, StaysThere, SparesReading, TakesFew}
use Rattle.age_armor.proofs.Keeping.{armor-narrows, armored-refused, armored-done, same-armored, gone, goes-later, goes-seeking, goes-unrefused, armor-plain, seeks-plain, text-later}
use Rattle.age_armor.proofs.OwnEndings.{still_named}
use Rattle.age_armor.proofs.Taking.{quiet_after}
use Rattle.age_armor.proofs.Walking.{ends_at}
use Rattle.age_armor.proofs.Aiming.{from-end, clean-unnamed, moved-within, within-moved, quiet-first, refusal_or_not, refusal-device, refusal-interruption, seeks-refused}
use Rattle.age_io.proofs.Retrying.{tried-narrows}

module _ {R : Type 0} {buf : buffered.Ghosts R} {read : Ghosts R} where
  pub ends-later : (a b c : ArmoredReader R buf read) → SameReader armored_reader a b → KeepsText a b → EndsAsText b c → EndsAsText a c
  ends-later a b c same text ends = λ told steady good.
      ends (same.tells ∙ told) (same.steady ∙ steady) good ∙ ap (λ t. (text_delivers t.bytes t.ends_well).ending) (text.same_text told)

  -- ---- what is said of the other answer alone

  pub stands-none : {A : Type 0} (a b : ArmoredReader R buf read) (e : Error) → StandsInText {A = A} a b (Err e)
  stands-none a b e = record { good = tt; rest = λ told steady. tt; ending = λ told steady. tt }

  pub reaches-none : (a b : ArmoredReader R buf read) (to : SeekFrom) (e : Error) → Reaches a b to (Err e)
  reaches-none a b to e = record { stands = stands-none a b e; there = tt; place = λ told. tt; exact = λ told steady. tt }

  pub misses-none : (a b : ArmoredReader R buf read) (to : SeekFrom) (n : ℕ) → Misses a b to (Ok n)
  misses-none a b to n = record { missed = tt; refused = λ told steady. tt; named = λ told well. tt }

  pub finds-none : {A : Type 0} (a b : ArmoredReader R buf read) (e : Error) → FindsEnd {A = A} a b (Err e)
  finds-none a b e = record { well = λ told steady. tt; knows = tt }

  pub spares-own : (a b : ArmoredReader R buf read) (to : SeekFrom) (e : Error) → (IsOutside e → ⊥) → SparesReading a b to (Err e)
  spares-own a b to e own = record { lines = λ told steady noting near. tt; outside = λ told steady known refusal. absurd (own refusal) }

  pub stays-none : (a b : ArmoredReader R buf read) (target : ℕ) (e : Error) →
      (a.failed ≡ false → is_start a.stage ≡ false → a.place ≡ target → ⊥) → StaysThere a b target (Err e)
  stays-none a b target e elsewhere = record {
    still = λ good begun at. absurd (elsewhere good begun at);
    unmoved = λ told steady good at. tt;
  }

  -- a refusal that is none of the target
  pub misses-own : (a b : ArmoredReader R buf read) (to : SeekFrom) (e : Error) → (IsOutside e → ⊥) →
      (IsTrue (read.tells a.source.inner) → IsTrue (read.content a.source.inner).ends_well → e ≢ OutOfMemory →
      IsQuiet (read.faults a.source.inner) (read.faults b.source.inner) →
      NamesEnding (text_outcome_of a).ending e × AsksPast to a.place (length (armored_content a).bytes)) → Misses a b to (Err e)
  misses-own a b to e own named = record {
    missed = λ refusal. absurd (own refusal);
    refused = λ told steady refusal. absurd (own refusal);
    named = λ told well is. named told well;
  }

  -- ---- to a mark, and on from there

  pub came-on : {A B : Type 0} {x : A} {y : B} {may more : ArmoredReader R buf read → Error → Type 0} (a b c : ArmoredReader R buf read)
      (target : ℕ) →
      Goes armored_reader may a b (Ok x) → KeepsText a b → StandsInText a b (Ok x) →
      Goes armored_reader more b c (Ok y) → KeepsText b c → c.failed ≡ false → WalksAlong b c target (Ok y) → EndsAsBefore b c (Ok y) →
      (IsTrue (read.tells c.source.inner) → IsTrue (read.steady c.source.inner) → c.place ≤ length (armored_content c).bytes) → Came a c
  came-on a b c target went first_text first goes last_text good along ends inside =
      let back = went.keeps.same in
      let same = same-later armored_reader a b c back goes.keeps.same in
      record {
        same = same;
        narrows = λ e h. went.keeps.narrows e (goes.keeps.narrows e h);
        unspent = goes.unspent;
        text = text-later a b c back first_text last_text;
        good = good;
        stands = λ told steady.
            along.rest (back.tells ∙ told) (first.rest told steady ∙ ap (from_place b.place) (sym (back.content told)))
            ∙ ap (from_place c.place) (back.content told);
        within = λ told steady. subst (λ s. c.place ≤ length s.bytes) (same.content told) (inside (same.tells ∙ told) (same.steady ∙ steady));
        ending = λ told steady. ends.same (back.tells ∙ told) ∙ first.ending told steady;
      }

  pub came-goes : {A : Type 0} {x : A} {may : ArmoredReader R buf read → Error → Type 0} (a b : ArmoredReader R buf read) → Came a b
      → Goes armored_reader may a b (Ok x)
  came-goes a b came = record { keeps = keeps-done _ _ _ _ came.same came.narrows; unspent = came.unspent }

  pub came-stands : {A : Type 0} {x : A} (a b : ArmoredReader R buf read) → Came a b → StandsInText a b (Ok x)
  came-stands a b came = record { good = came.good; rest = came.stands; ending = came.ending }

  -- its clean end is that of what the text carries
  pub came-end : (a b : ArmoredReader R buf read) → Came a b → WhereTold a (IsCleanEnd (armored_rest b)) →
      WhereSteady a (IsTrue (armored_content a).ends_well × (b.place ≡ length (armored_content a).bytes))
  came-end a b came clean told steady = ends_at (armored_content a) (armored_rest b) b.place (came.stands told steady) (clean told)
      (came.within told steady)

  -- there the length is known, and with it the target at a distance from it, which is written in another way
  pub found-end : (a b : ArmoredReader R buf read) (d e : ℤ) (r answer : Result ℕ Error) → Came a b →
      WhereSteady a (IsTrue (armored_content a).ends_well × (b.place ≡ length (armored_content a).bytes)) → d ≡ e →
      (b.place < 2 ^ 63 → (place : ℕ) → r ≡ sought (End d) place b.place) → r ≡ answer →
      WhereSteady a (sought (End e) a.place (length (armored_content a).bytes) ≡ answer)
  found-end a b d e r answer came end same exact is told steady =
      subst (λ n. sought (End e) a.place n ≡ answer) (end told steady).1
      (from-end d e b.place r answer same (exact (b.sound.fits (came.same.tells ∙ told))) is a.place)

  -- the walk refused
  pub walk-goes : {A B : Type 0} {x : A} (below : Error → Type 0) (a b c : ArmoredReader R buf read) (e answer : Error) →
      Goes armored_reader (OrSeek (OrAstray below) refuses_of) a b (Ok x) → Goes {A = B} armored_reader refuses_of b c (Err e)
      → (answer ≢ Failed → answer ≡ e) →
      Goes {A = ℕ} armored_reader (OrSeek (OrAstray below) refuses_of) a c (Err answer)
  walk-goes below a b c e answer went goes kept =
      goes-later armored_reader _ (Err answer) a b c went.keeps.same went.keeps.narrows (seeks-plain (OrAstray below) a b went.keeps.narrows)
      (goes-unrefused armored_reader below refuses_of b c e answer kept (goes-seeking armored_reader (OrAstray below) refuses_of _ b c goes))

  pub walk-misses : {A B : Type 0} {x : A} {may more : ArmoredReader R buf read → Error → Type 0} (a b c : ArmoredReader R buf read)
      (to : SeekFrom) (target : ℕ)
      (e answer : Error) → (IsTrue (read.tells a.source.inner) → IsTrue (read.content a.source.inner).ends_well
      → IsTrue (read.steady a.source.inner)) →
      Goes armored_reader may a b (Ok x) → StandsInText a b (Ok x) →
      Goes {A = B} armored_reader more b c (Err e) → WalksAlong {A = B} b c target (Err e) → EndsAsBefore {A = B} b c (Err e) →
      (IsOutside answer → ⊥) → ((IsOutside e → ⊥) → answer ≡ e) → ((len : ℕ) → len < target → AsksPast to a.place len) → Misses a c to (Err answer)
  walk-misses a b c to target e answer law went first goes along ends own same asks = misses-own a c to answer own (λ told well other quiet.
      let back = went.keeps.same in
      let steady = law told well in
      let told_middle = back.tells ∙ told in
      let fine : e ≢ OutOfMemory = λ is. other (same (λ refusal. rw is at refusal) ∙ is) in
      let calm = quiet_after _ _ _ back.faults goes.keeps.same.faults quiet in
      let content : armored_content b ≡ armored_content a = back.content told in
      let stands : armored_rest b ≡ from_place b.place (armored_content b) = first.rest told steady ∙ ap (from_place b.place) (sym content) in
      let short = along.short told_middle (back.steady ∙ steady) stands fine calm in
      let named : NamesEnding (text_outcome_of a).ending e =
      subst (λ o. NamesEnding o e) (first.ending told steady) (ends.named told_middle first.good fine calm) in
      (still_named _ _ e answer named same, asks (length (armored_content a).bytes) (subst (λ s. length s.bytes < target) content short.1)))

  -- ---- a step, and then one to a target that was found from the end

  stands-later : {A : Type 0} (a b c : ArmoredReader R buf read) (result : Result A Error) → SameReader armored_reader a b → KeepsText a b →
      StandsInText b c result → StandsInText a c result
  stands-later a b c result same text stands = record {
    good = stands.good;
    rest = λ told steady.
        on_ok_weaker result (λ is. is ∙ ap (from_place c.place) (same.content told)) (stands.rest (same.tells ∙ told) (same.steady ∙ steady));
    ending = λ told steady.
        on_ok_weaker result (λ is. is ∙ ap (λ t. (text_delivers t.bytes t.ends_well).ending) (text.same_text told))
        (stands.ending (same.tells ∙ told) (same.steady ∙ steady));
  }

  pub reaches-end : (a b c : ArmoredReader R buf read) (d : ℤ) (aim : ℕ) (result : Result ℕ Error) → SameReader armored_reader a b → KeepsText a b →
      WhereSteady a (sought (End d) a.place (length (armored_content a).bytes) ≡ Ok aim) →
      Reaches b c (Start aim) result → Reaches a c (End d) result
  reaches-end a b c d aim result same text found reaches = record {
    stands = stands-later a b c result same text reaches.stands;
    there = IfOk-weaker result _ _ (λ n there. tt) reaches.there;
    place = λ told. reaches.place (same.tells ∙ told);
    exact = λ told steady. IfOk-weaker result _ _ (λ n there. found told steady ∙ ap Ok (sym there)) reaches.there;
  }

  pub misses-end : {may : ArmoredReader R buf read → Error → Type 0} (a b c : ArmoredReader R buf read) (d : ℤ) (aim : ℕ) (result : Result ℕ Error) →
      (IsTrue (read.tells a.source.inner) → IsTrue (read.content a.source.inner).ends_well → IsTrue (read.steady a.source.inner)) →
      SameReader armored_reader a b → KeepsText a b → AddsNoReason refuses_of a b →
      WhereSteady a (sought (End d) a.place (length (armored_content a).bytes) ≡ Ok aim) →
      Goes armored_reader may b c result → Misses b c (Start aim) result → Misses a c (End d) result
  misses-end a b c d aim result law same text narrows found goes misses =
      let within : (IsTrue (read.tells a.source.inner) → IsTrue (read.steady a.source.inner) → aim ≤ length (armored_content b).bytes) =
      λ told steady.
      let len = length (armored_content a).bytes in
      subst (λ s. aim ≤ length s.bytes) (sym (same.content told)) (within-moved (target (End d) a.place len) aim len (found told steady)) in
      record {
        missed = IfErr-weaker result _ _ (λ e missed refusal f h. narrows f (missed refusal f h)) misses.missed;
        refused = λ told steady. IfErr-weaker result _ _
            (λ e refused refusal. absurd (cc (sym (moved-within aim (length (armored_content b).bytes) (within told steady)) ∙ (refused refusal).1)))
            (misses.refused (same.tells ∙ told) (same.steady ∙ steady));
        named = λ told well. IfErr-weaker result _ _
            (λ e named own other quiet. absurd (omega (
              arith,
              (named own other (quiet_after _ _ _ same.faults goes.keeps.same.faults quiet)).1,
              within told (law told well),
            )))
            (misses.named (same.tells ∙ told) (subst IsTrue (sym (ap (λ t. t.ends_well) (text.same_text told))) well));
      }

  -- ---- a step that keeps the place, and then another

  pub reaches-later : (a b c : ArmoredReader R buf read) (aim : ℕ) (result : Result ℕ Error) → SameReader armored_reader a b → KeepsText a b →
      Reaches b c (Start aim) result → Reaches a c (Start aim) result
  reaches-later a b c aim result same text reaches = record {
    stands = stands-later a b c result same text reaches.stands;
    there = reaches.there;
    place = λ told. reaches.place (same.tells ∙ told);
    exact = λ told steady. IfOk-weaker result _ _
        (λ n exact. subst (λ s. sought (Start aim) a.place (length s.bytes) ≡ Ok n) (same.content told) exact)
        (reaches.exact (same.tells ∙ told) (same.steady ∙ steady));
  }

  -- a seek that isn't counted from the place
  pub misses-later : (a b c : ArmoredReader R buf read) (to : SeekFrom) (result : Result ℕ Error) →
      SameReader armored_reader a b → KeepsText a b → AddsNoReason refuses_of a b →
      ((len : ℕ) → sought to a.place len ≡ sought to b.place len) → ((len : ℕ) → AsksPast to b.place len → AsksPast to a.place len) →
      read.faults b.source.inner ≤ read.faults c.source.inner → Misses b c to result → Misses a c to result
  misses-later a b c to result same text narrows leads asks more misses = record {
    missed = IfErr-weaker result _ _ (λ e missed refusal f h. narrows f (missed refusal f h)) misses.missed;
    refused = λ told steady. IfErr-weaker result _ _
        (λ e refused refusal.
        let is = refused refusal in (
          subst (λ s. IsTrue s.ends_well) (same.content told) is.0,
          leads (length (armored_content a).bytes) ∙ subst (λ s. sought to b.place (length s.bytes) ≡ Err e) (same.content told) is.1,
        ))
        (misses.refused (same.tells ∙ told) (same.steady ∙ steady));
    named = λ told well. IfErr-weaker result _ _
        (λ e named own other quiet.
        let is = named own other (quiet_after _ _ _ same.faults more quiet) in (
          subst (λ o. NamesEnding o e) (ap (λ t. (text_delivers t.bytes t.ends_well).ending) (text.same_text told)) is.0,
          asks (length (armored_content a).bytes) (subst (λ s. AsksPast to b.place (length s.bytes)) (same.content told) is.1),
        ))
        (misses.named (same.tells ∙ told) (subst IsTrue (sym (ap (λ t. t.ends_well) (text.same_text told))) well));
  }

  pub goes-to-later : {T : Type 0} {x : T} {may : ArmoredReader R buf read → Error → Type 0} (below : Error → Type 0)
      (a b c : ArmoredReader R buf read) (aim : ℕ)
      (result : Result ℕ Error) → KeepsReader armored_reader may a b (Ok x) → KeepsText a b →
      GoesTo below b c (Start aim) result → GoesTo below a c (Start aim) result
  goes-to-later below a b c aim result keeps text next =
      let same = keeps.same in
      record {
        goes = goes-later armored_reader _ result a b c same keeps.narrows (seeks-plain (OrAstray below) a b keeps.narrows) next.goes;
        text = text-later a b c same text next.text;
        reaches = reaches-later a b c aim result same text next.reaches;
        misses = misses-later a b c (Start aim) result same text (armor-plain a b keeps.narrows) (λ len. refl)
            (λ len past. past) next.goes.keeps.same.faults next.misses;
      }

  came-later : {T : Type 0} {x : T} {may : ArmoredReader R buf read → Error → Type 0} (a b c : ArmoredReader R buf read) →
      KeepsReader armored_reader may a b (Ok x) → KeepsText a b → Came b c → Came a c
  came-later a b c keeps text came =
      let same = keeps.same in
      record {
        same = same-later armored_reader a b c same came.same;
        narrows = λ e h. keeps.narrows e (came.narrows e h);
        unspent = came.unspent;
        text = text-later a b c same text came.text;
        good = came.good;
        stands = λ told steady. came.stands (same.tells ∙ told) (same.steady ∙ steady) ∙ ap (from_place c.place) (same.content told);
        within = λ told steady. subst (λ s. c.place ≤ length s.bytes) (same.content told) (came.within (same.tells ∙ told) (same.steady ∙ steady));
        ending = λ told steady.
            came.ending (same.tells ∙ told) (same.steady ∙ steady) ∙ ap (λ t. (text_delivers t.bytes t.ends_well).ending) (text.same_text told);
      }

  pub reaches-end-later : {T : Type 0} {x : T} {may : ArmoredReader R buf read → Error → Type 0} (below : Error → Type 0)
      (a b c : ArmoredReader R buf read)
      (result : Result (Unit {0}) Error) → KeepsReader armored_reader may a b (Ok x) → KeepsText a b → ReachesEnd below b c result
      → ReachesEnd below a c result
  reaches-end-later below a b c result keeps text next =
      let same = keeps.same in
      record {
        goes = goes-later armored_reader _ result a b c same keeps.narrows (seeks-plain (OrAstray below) a b keeps.narrows) next.goes;
        text = text-later a b c same text next.text;
        came = on_ok_weaker result (came-later a b c keeps text) next.came;
        end = λ told. next.end (same.tells ∙ told);
        knows = next.knows;
        misses = IfErr-weaker result _ _ (λ e misses d.
            misses-later a b c (End d) (Err e) same text (armor-plain a b keeps.narrows) (λ len. refl)
            (λ len past. tt) next.goes.keeps.same.faults (misses d))
            next.misses;
      }

  -- the reader that gives the text was asked for the end
  pub jumped-to-end : (below : Error → Type 0) (a b : ArmoredReader R buf read) (result : Result (Unit {0}) Error) →
      KeepsReader read (OrSeek (OrAstray below) (OrWant read)) a.source.inner b.source.inner result
      → OnOk result (read.faults b.source.inner < most_faults) →
      WhereTold a (origin_of b ≡ origin_of a) → KeepsText a b → StandsInText a b result → WhereSteady a (b.place ≤ length (armored_content b).bytes) →
      WhereTold a (OnOk result (IsCleanEnd (armored_rest b))) → OnOk result (IsTrue (knows_end b)) → FailsThere a b result →
      (IsTrue (read.tells a.source.inner) → IsTrue (read.content a.source.inner).ends_well →
      IfErr result (λ e. e ≢ OutOfMemory → IsQuiet (read.faults a.source.inner) (read.faults b.source.inner) → ⊥)) → ReachesEnd below a b result
  jumped-to-end below a b (Ok x) keeps few origin text stands inside end knows fails cause =
      let same = same-armored a b keeps.same origin in
      record {
        goes = armored-done _ a b keeps origin few stands.good;
        text = text;
        came = record {
          same = same;
          narrows = tried-narrows refuses_of a b (armor-narrows a b keeps.same keeps.narrows origin stands.good);
          unspent = few;
          text = text;
          good = stands.good;
          stands = stands.rest;
          within = λ told steady. subst (λ s. b.place ≤ length s.bytes) (same.content told) (inside told steady);
          ending = stands.ending;
        };
        end = end;
        knows = knows;
        misses = tt;
      }
  jumped-to-end below a b (Err e) keeps few origin text stands inside end knows fails cause = record {
    goes = armored-refused _ a b e keeps origin
        (λ why. elim why [ inl is ↦ inl is | inr want ↦ inr (inr (want-own read a.source.inner (text_outcome_of a).ending e want)) ]);
    text = text;
    came = tt;
    end = λ told. tt;
    knows = tt;
    misses = λ d. misses-own a b (End d) e fails.other (λ told well other quiet. absurd (cause told well other quiet));
  }

  -- from where it landed it lands again
  pub lands-again : (a b c : ArmoredReader R buf read) (result : Result ℕ Error) → IfOk result (λ n. c.place ≡ n) → LandsBelow b b.place →
      IfOk result (λ n. (c ≡ b) ⊎ LandsBelow c n) → IfOk result (λ n. (c ≡ a) ⊎ LandsBelow c n)
  lands-again a b c (Ok n) place first last = elim last [
    | inl is ↦ inr (subst (λ m. LandsBelow c m) place (subst (λ r. LandsBelow r r.place) (sym is) first))
    | inr lands ↦ inr lands
  ]
  lands-again a b c (Err e) place first last = tt

  -- ---- a whole seek

  pub seek-done : (below : Error → Type 0) (a b : ArmoredReader R buf read) (to : SeekFrom) (n : ℕ) →
      Goes armored_reader (OrSeek (OrAstray below) refuses_of) a b (Ok n) → Reaches a b to (Ok n) →
      SeeksText armored_reader (λ r. r.failed) (OrAstray below) a b to (read.content a.source.inner).ends_well (text_outcome_of a).ending (Ok n)
  seek-done below a b to n goes reaches = record {
    seeks = record {
      same_tells = goes.keeps.same.tells;
      same_steady = goes.keeps.same.steady;
      no_fewer_faults = goes.keeps.same.faults;
      device = tt;
      unspent = goes.unspent;
      why = tt;
      narrows = armor-plain a b goes.keeps.narrows;
      again = tt;
      missed = tt;
      same_content = goes.keeps.same.content;
      arrives = reaches.place;
      leads = λ told. reaches.there;
      stays = λ told. tt;
      interrupted = λ told. tt;
      moves = λ told steady.
          (reaches.exact told steady, reaches.stands.rest told steady ∙ ap (λ n. from_place n (armored_content a)) (reaches.place told));
      kept = λ told steady stands. tt;
      refused = λ told well. tt;
      cause = λ told well. tt;
    };
    patient = tt;
    good = reaches.stands.good;
    unmoved = tt;
    fails = tt;
    named = λ told well. tt;
    early = λ told steady badly. tt;
  }

  -- a step that was refused, and then the way back
  pub seek-missed : (below : Error → Type 0) (a b c : ArmoredReader R buf read) (to : SeekFrom) (error answer : Error) →
      (IsTrue (read.tells a.source.inner) → IsTrue (read.content a.source.inner).ends_well → IsTrue (read.steady a.source.inner)) →
      Goes {A = ℕ} armored_reader (OrSeek (OrAstray below) refuses_of) a b (Err error) → Misses a b to (Err error) →
      ComesBack armored_reader (λ r. r.failed) (OrAstray below) b c a.place a.failed error answer →
      SeeksText armored_reader (λ r. r.failed) (OrAstray below) a c to (read.content a.source.inner).ends_well (text_outcome_of a).ending (Err answer)
  seek-missed below a b c to error answer law went misses back =
      let goes = went.keeps in
      let inner : (IsTrue (armored_content a).ends_well → IsTrue (read.content a.source.inner).ends_well) =
      well_inner (read.content a.source.inner) (origin_of a) in
      let first = goes.same.faults in
      let last = back.same.faults in
      let keeps : KeepsReader {T = ℕ} armored_reader (OrSeek (OrAstray below) refuses_of) a c (Err answer) = record {
        same = same-later armored_reader a b c goes.same back.same;
        device = λ device. elim (refusal_or_not error) [
          | inl is ↦ omega (arith, first, back.device (refusal-device error is) device)
          | inr not ↦ omega (arith, last, goes.device (subst IsDevice (back.other not) device))
        ];
        patient = λ interruption. elim (refusal_or_not error) [
          | inl is ↦ back.patient (refusal-interruption error is) interruption
          | inr not ↦ goes.patient (subst IsInterruption (back.other not) interruption)
        ];
        why = elim (refusal_or_not error) [
          | inl is ↦ seek-narrows (OrAstray below) refuses_of a b (misses.missed is) answer (back.why is)
          | inr not ↦ subst (OrSeek (OrAstray below) refuses_of a) (sym (back.other not)) goes.why
        ];
        narrows = tt;
      } in
      let returns : (IsTrue (armored_reader.tells a) → IsTrue (armored_content a).ends_well → IsOutside error → answer ≢ OutOfMemory →
      IsQuiet (armored_reader.faults a) (armored_reader.faults c) → IsOutside answer) = λ told well is other quiet.
      back.cause (goes.same.tells ∙ told) (subst (λ s. IsTrue s.ends_well) (sym (goes.same.content told)) well) is other
      (quiet_after _ _ _ first last quiet) in
      record {
        seeks = seeks-refused armored_reader (λ r. r.failed) below a c to answer keeps
            (λ refusal e h. elim (back.narrows refusal e h) [
              | inl own ↦ subst (refuses_of a) (sym own.1) (inl (own.0, refl))
              | inr earlier ↦ misses.missed (back.unmoved refusal).0 e earlier
            ])
            (λ told. back.stays (goes.same.tells ∙ told))
            (λ told is_steady stands refusal. elim (cases_Bool a.failed) [
              | inl had ↦ back.gone had ∙ sym (gone a had)
              | inr fine ↦ back.back (goes.same.tells ∙ told) (goes.same.steady ∙ is_steady) fine refusal
                  ∙ ap (from_place a.place) (goes.same.content told) ∙ sym stands
            ])
            (λ told well refusal. subst (λ e. sought to a.place (length (armored_content a).bytes) ≡ Err e) (sym (back.unmoved refusal).1)
            (misses.refused told (law told (inner well)) (back.unmoved refusal).0).1)
            (λ told well other quiet. elim (refusal_or_not error) [
              | inl is ↦ returns told well is other quiet
              | inr not ↦ absurd (clean-unnamed _ error well
                  (misses.named told (inner well) not (λ memory. other (back.other not ∙ memory)) (quiet-first _ _ _ first last quiet)).0)
            ]);
        patient = keeps.patient;
        good = tt;
        unmoved = λ refusal. (back.unmoved refusal).2;
        fails = back.fails;
        named = λ told well own other quiet. elim (refusal_or_not error) [
          | inl is ↦ absurd (own (returns told (misses.refused told (law told well) is).0 is other quiet))
          | inr not ↦
              let is_named = misses.named told well not (λ memory. other (back.other not ∙ memory)) (quiet-first _ _ _ first last quiet) in
              (subst (NamesEnding (text_outcome_of a).ending) (sym (back.other not)) is_named.0, is_named.1)
        ];
        early = λ told is_steady badly_ends refusal.
            absurd (true≢false (sym (misses.refused told is_steady (back.unmoved refusal).0).0 ∙ badly_ends));
      }

  pub takes-back : {may : ArmoredReader R buf read → Error → Type 0} {below : Error → Type 0} (a b c : ArmoredReader R buf read) (to : SeekFrom)
      (error answer : Error) →
      Goes {A = ℕ} armored_reader may a b (Err error) → SparesReading a b to (Err error) →
      ComesBack armored_reader (λ r. r.failed) below b c a.place a.failed error answer →
      (IsTrue (read.tells b.source.inner) → IsTrue (read.steady b.source.inner) → b.failed ≡ a.failed → b.place ≡ a.place → IsOutside answer →
      c.source.lines ≤ b.source.lines) → TakesFew a c to (Err answer)
  takes-back a b c to error answer goes spares back few = record {
    lines = λ told steady noting near. tt;
    outside = λ told steady known refusal.
        let same = spares.outside told steady known (back.unmoved refusal).0 in
        omega (
          arith,
          ap (λ r. r.source.lines) same,
          few (goes.keeps.same.tells ∙ told) (goes.keeps.same.steady ∙ steady) (ap (λ r. r.failed) same) (ap (λ r. r.place) same) refusal,
        );
  }

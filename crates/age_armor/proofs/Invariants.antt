-- What a reader of armor always is, over a step that fails, and over one that gives what is held.
use Rattle.std.proofs.Common.{arith, inl, inr, ◌≡◌, ◌∙◌, ◌+◌, ◌-◌, ◌*◌, ◌<◌, ◌≤◌, ◌^◌, ℕ, true, false, IsTrue, List, [], ◌%◌, length, length-drop, drop, ap, sym, subst}
use Rattle.std.proofs.lemmas.Bool.{cases_Bool, true≢false}
use Rattle.std.proofs.lemmas.List.{drop_all}
use Rattle.age_io.specs.declared.traits.Read.{Ghosts}
use Rattle.age_io.specs.declared.bufread.BufRead as buffered
use Rattle.age_io.specs.Keeping.{SameReader}
use Rattle.age_io.specs.Reading.{Delivers, StandsIn, most_faults}
use Rattle.age_io.specs.Stretch.{from_place}
use Rattle.age_armor.specs.declared.counted.Counted.{Counted}
use Rattle.age_armor.specs.declared.reader.ArmoredReader.{ArmoredReader}
use Rattle.age_armor.specs.declared.marks.Marks.{Marks}
use Rattle.age_armor.specs.declared.stages.Stage.{Stage}
use Rattle.age_armor.specs.Ahead.{outcome_ahead, rest_ahead}
use Rattle.age_v1.specs.DeliveredArmor.{text_delivers, begins_armor}
use Rattle.age_v1.proofs.DeliveredArmors.{stands_by, stands_follows}
use Rattle.age_armor.specs.Steps.{WhereSteady}
use Rattle.age_armor.specs.PrivateSteps.{WhereTold}
use Rattle.age_armor.specs.PrivateMarks.{CanResume, Knows}
use Rattle.age_armor.specs.PrivateReader.{IsHere, IsSound, carried_in}
use Rattle.age_armor.specs.declared.stages.Stage.TheVariants.{Binary, Lines}
use Rattle.age_armor.specs.Reader.{origin_of, source_of, armored_content}
use Rattle.age_armor.specs.Stages.{is_start, has_lines}
use Rattle.age_armor.specs.PrivateStages.{is_ended}
use Rattle.age_armor.specs.Windows.{held_in}
use Rattle.age_armor.proofs.Ahead.{rest_failed, given_stands, ending_same}
use Rattle.age_armor.proofs.Forms.{form_kept}
use Rattle.age_armor.proofs.Keeping.{same-text}
use Rattle.age_armor.proofs.Resuming.{knows_later, some_before, resumed_rest, resumed_ending}
use Rattle.age_armor.proofs.Walking.{further}

module _ {R : Type 0} {buf : buffered.Ghosts R} {read : Ghosts R} where
  -- the reader that gives the text was moved, and this one has failed at this place
  pub sound-failed : (a : ArmoredReader R buf read) (source : Counted R buf read) (preceding place : ℕ) (held : List ℕ)
      → SameReader read a.source.inner source.inner →
      WhereTold a (read.place source.inner - source.taken + preceding ≡ origin_of a) → WhereSteady a (preceding ≤ source.taken) →
      WhereTold a (place < 2 ^ 63) → WhereSteady a (place ≤ length (armored_content a).bytes) → a.source.lines ≤ source.lines →
      IsSound source preceding a.stage held place true a.marks
  sound-failed a source preceding place held same origin behind fits inside more =
      let text = same-text read a.source.inner (origin_of a) source.inner (read.place source.inner - source.taken + preceding) same origin in
      record {
        fresh = λ good. absurd (true≢false good);
        untaken = λ good. absurd (true≢false good);
        unspent = λ good. absurd (true≢false good);
        counted = λ told good. absurd (true≢false good);
        paced = λ told good. absurd (true≢false good);
        begins = λ told. omega (arith, origin (text.told told), a.sound.begins (text.told told));
        fits = λ told. fits (text.told told);
        known = λ told. knows_later _ _ _ _ _ text.steady (text.text told) (a.sound.known (text.told told));
        lined = λ told other. omega (arith, a.sound.lined (text.told told) other, more);
        done = a.sound.done;
        text = λ told steady.
            let before = a.sound.text (text.told told) (text.steady steady) in
            record {
              behind = behind (text.told told) (text.steady steady);
              inside = subst (λ s. place ≤ length s.bytes) (sym (text.content told)) (inside (text.told told) (text.steady steady));
              here = λ good. absurd (true≢false good);
              follows = λ some. absurd (some (rest_failed held a.stage (read.rest source.inner)));
              form = λ begun. form_kept (has_lines a.stage) _ _ (before.form begun) (text.text told);
              unread = λ start some. subst (λ t. IsTrue (begins_armor t.bytes)) (sym (text.text told)) (before.unread start some);
            };
      }

  -- so many bytes of what is held were given
  pub sound-given : (a : ArmoredReader R buf read) (n place : ℕ) (front left : List ℕ) → n ≤ length (held_in a.window) → n ≡ length front
      → left ≡ drop n (held_in a.window) →
      Delivers front (rest_ahead a.failed (held_in a.window) a.stage (read.rest a.source.inner))
      (rest_ahead a.failed (drop n (held_in a.window)) a.stage (read.rest a.source.inner)) →
      (IsTrue (read.tells a.source.inner) → place ≡ a.place + n) → (a.failed ≡ true → n ≡ 0) →
      (IsTrue (read.tells a.source.inner) → read.place a.source.inner < 2 ^ 63) →
      IsSound a.source a.preceding a.stage left place a.failed a.marks
  sound-given a n place front left most size is_left d moves none fits = rw is_left (
      let held = held_in a.window in
      let content = carried_in a.source a.preceding in
      let rest = rest_ahead a.failed held a.stage (read.rest a.source.inner) in
      let new = rest_ahead a.failed (drop n held) a.stage (read.rest a.source.inner) in
      let same : (outcome_ahead (drop n held) a.stage (read.rest a.source.inner)).ending
      ≡ (outcome_ahead held a.stage (read.rest a.source.inner)).ending =
      ending_same held (drop n held) a.stage (read.rest a.source.inner) in
      let fewer : length (drop n held) ≡ length held - n = length-drop n held in
      record {
        fresh = λ good start. ap (drop n) (a.sound.fresh good start) ∙ drop_all n [] (omega arith);
        untaken = a.sound.untaken;
        unspent = a.sound.unspent;
        counted = λ told good. omega (arith, a.sound.counted told good, moves told, most, fewer);
        paced = λ told good.
            let pace = a.sound.paced told good in
            let sum : place + length (drop n held) ≡ a.place + length held = omega (arith, moves told, most, fewer) in
            record {
              within = omega (arith, sum, pace.within);
              first = λ start. omega (arith, pace.first start, ap length (a.sound.fresh good start), most, moves told);
              lines = λ full. omega (arith, sum, pace.lines full);
            };
        begins = a.sound.begins;
        fits = λ told. elim (cases_Bool a.failed) [
          | inl gone ↦ omega (arith, a.sound.fits told, moves told, none gone)
          | inr good ↦ omega (arith, a.sound.counted told good, moves told, most, a.source.behind told, fits told)
        ];
        known = a.sound.known;
        lined = a.sound.lined;
        done = a.sound.done;
        text = λ told steady.
            let before = a.sound.text told steady in
            let stands : StandsIn content place new =
            rw (moves told) (given_stands content rest new a.place n front size d
            (stands_by content rest a.place before.inside (λ some. (before.follows some).rest))) in
            record {
              behind = before.behind;
              inside = stands.within;
              here = λ good begun.
                  let at = before.here good begun in
                  record { rest = further content rest new a.place place n front at.rest d size (moves told); ending = same ∙ at.ending };
              follows = λ some. record {
                rest = stands_follows content new place stands some;
                ending = same ∙ (before.follows (some_before rest new front d some)).ending;
              };
              form = before.form;
              unread = before.unread;
            };
      })

  -- the reader that gives the text was taken to where this one can be read on
  pub sound-resumed : (a : ArmoredReader R buf read) (source : Counted R buf read) (preceding : ℕ) (stage : Stage) (held : List ℕ)
      (place taken : ℕ) (marks : Marks) → held ≡ [] →
      SameReader read a.source.inner source.inner → WhereTold a (read.place source.inner - source.taken + preceding ≡ origin_of a) →
      source.taken ≡ preceding + taken → read.faults source.inner < most_faults
      → (IsTrue (read.tells source.inner) → read.place source.inner < 2 ^ 63) →
      (is_start stage ≡ true → (taken ≡ 0) × (place ≡ 0)) → is_ended stage ≡ false → (stage ≡ Lines false → place % 48 ≡ 0) →
      WhereTold a (CanResume (read.steady a.source.inner) (source_of a) stage place taken) →
      WhereSteady a (read.rest source.inner ≡ from_place (origin_of a + taken) (read.content a.source.inner)) →
      WhereTold a (Knows (read.steady a.source.inner) (source_of a) marks × (place ≤ marks.furthest)) →
      WhereSteady a (is_start stage ≡ true → 0 < marks.furthest → IsTrue (begins_armor (source_of a).bytes)) →
      WhereTold a ((stage ≡ Binary → ⊥) → marks.furthest ≤ 48 * source.lines) →
      IsSound source preceding stage held place false marks
  sound-resumed a source preceding stage held place taken marks none same origin is_taken few place_fits start going whole can rest knows unread
      lined =
      let content = read.content a.source.inner in
      let text = same-text read a.source.inner (origin_of a) source.inner (read.place source.inner - source.taken + preceding) same origin in
      let here : (IsTrue (read.tells source.inner) → IsTrue (read.steady source.inner) → IsHere source preceding stage held place false) =
      λ told steady.
      let there = rest (text.told told) (text.steady steady) in
      let resumes = (can (text.told told)).1 (text.steady steady) in
      record {
        rest = resumed_rest content (read.rest source.inner) (origin_of a) place taken stage held none resumes there
            ∙ ap (from_place place) (sym (text.content told));
        ending = resumed_ending content (read.rest source.inner) (origin_of a) place taken stage held resumes there
            ∙ sym (ap (λ t. (text_delivers t.bytes t.ends_well).ending) (text.text told));
      } in
      let size : length held ≡ 0 = ap length none in
      record {
        fresh = λ good start. none;
        untaken = λ good is. omega (arith, is_taken, (start is).0);
        unspent = λ good begun. few;
        counted = λ told good. omega (arith, (can (text.told told)).0, is_taken, size);
        paced = λ told good. record {
          within = omega (arith, (knows (text.told told)).1, size);
          first = λ is. (start is).1;
          lines = λ full. omega (arith, whole full, size);
        };
        begins = λ told. omega (arith, origin (text.told told), a.sound.begins (text.told told));
        fits = λ told. omega (arith, (can (text.told told)).0, is_taken, source.behind told, place_fits told);
        known = λ told. knows_later _ _ _ _ _ text.steady (text.text told) (knows (text.told told)).0;
        lined = λ told. lined (text.told told);
        done = λ ended. absurd (true≢false (sym ended ∙ going));
        text = λ told steady. record {
          behind = omega (arith, is_taken);
          inside = subst (λ s. place ≤ length s.bytes) (sym (text.content told)) ((can (text.told told)).1 (text.steady steady)).within;
          here = λ good begun. here told steady;
          follows = λ some. here told steady;
          form = λ begun. form_kept (has_lines stage) _ _ (((can (text.told told)).1 (text.steady steady)).form begun) (text.text told);
          unread = λ is some. subst (λ t. IsTrue (begins_armor t.bytes)) (sym (text.text told))
              (unread (text.told told) (text.steady steady) is some);
        };
      }

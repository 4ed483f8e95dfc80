use Rattle.std.proofs.Common.{◌≡◌, ◌∙◌, Ok, Err, IsTrue, ap, length, sym, subst, refl, inl, inr, to_z-of_z, w64}
use Rattle.std.proofs.lemmas.Bool.{true≢false}
use Rattle.std.proofs.lemmas.Result.{on_ok_weaker}
use Rattle.age_error.specs.declared.io.SeekFrom.TheVariants.{End}
use Rattle.age_io.specs.Cursor.{sought}
use Rattle.age_io.proofs.Keeping.{same-self}
use Rattle.age_armor.specs.Marks.{is_known}
use Rattle.age_armor.specs.Steps.{WhereSteady}
use Rattle.age_armor.specs.PrivateSteps.{Reaches, Misses}
use Rattle.age_armor.specs.Reader.{armored_reader, armored_content}
use Rattle.age_armor.proofs.Keeping.{goes-refused, text-still}
use Rattle.age_armor.proofs.Going.{reaches-none, reaches-end, misses-end, finds-none}
use Rattle.age_armor.proofs.reader.ArmoredReader.go_from_end.Goals as goal

pub returns-in-None : goal.returns-in-None
returns-in-None g c =
    let before = c.args.self.now in
    let after = c.look_from_end.new.self in
    let now = c.look_from_end.ensures in
    let unknown : (IsTrue (is_known before.marks.length) → ⊥) = λ known. true≢false (sym known ∙ ap is_known (sym c.length.ensures ∙ c.in-None.is)) in
    record {
      goes = now.goes;
      text = now.text;
      reaches = subst (λ d. Reaches before after (End d) c.look_from_end.result) (to_z-of_z {w = w64} c.ranges.distance) now.reaches;
      misses = subst (λ d. Misses before after (End d) c.look_from_end.result) (to_z-of_z {w = w64} c.ranges.distance) now.misses;
      finds = now.finds;
      below = now.below;
      spares = record { lines = λ told steady noting known. absurd (unknown known); outside = λ told steady known. absurd (unknown known) };
    }

pub returns-in-Err : goal.returns-in-Err
returns-in-Err g c =
    let before = c.args.self.now in
    let now = c.in-Err.ensures in
    record {
      goes = goes-refused armored_reader _ before before before c.in-Err.e (same-self _ before) (same-self _ before) now.other
          (elim now.why [ inl out ↦ inl (inl out) | inr long ↦ inl (inr (inl long)) ]);
      text = text-still _ _ refl refl refl;
      reaches = reaches-none _ _ _ _;
      misses = record {
        missed = λ refusal e h. h;
        refused = λ told steady refusal. (
          c.target_from_end.ensures.well told steady,
          subst (λ d. sought (End d) before.place (length (armored_content before).bytes) ≡ Err c.in-Err.e) (to_z-of_z {w = w64} c.ranges.distance)
              (sym (c.target_from_end.ensures.exact told steady before.place) ∙ c.in-Err.is),
        );
        named = λ told well own other quiet. absurd (own (now.outside told (g.met.R.Read.well before.source.inner told well)));
      };
      finds = finds-none _ _ _;
      below = λ told steady plain. tt;
      spares = record { lines = λ told steady noting known. tt; outside = λ told steady known refusal. refl };
    }

pub returns-in-Ok : goal.returns-in-Ok
returns-in-Ok g c =
    let before = c.args.self.now in
    let after = c.go_to.new.self in
    let now = c.go_to.ensures in
    let aim = c.in-Ok.target in
    let found : WhereSteady before (sought (End c.args.distance) before.place (length (armored_content before).bytes) ≡ Ok aim) = λ told steady.
    subst (λ d. sought (End d) before.place (length (armored_content before).bytes) ≡ Ok aim) (to_z-of_z {w = w64} c.ranges.distance)
    (sym (c.target_from_end.ensures.exact told steady before.place) ∙ c.in-Ok.is) in
    record {
      goes = now.goes;
      text = now.text;
      reaches = reaches-end before before after c.args.distance aim c.go_to.result (same-self _ before)
          (text-still _ _ refl refl refl) found now.reaches;
      misses = misses-end before before after c.args.distance aim c.go_to.result (g.met.R.Read.well before.source.inner) (same-self _ before)
          (text-still _ _ refl refl refl) (λ e h. h) found now.goes now.misses;
      finds = record {
        well = λ told steady. on_ok_weaker c.go_to.result (λ good. c.target_from_end.ensures.well told steady) now.reaches.stands.good;
        knows = on_ok_weaker c.go_to.result (λ good. now.text.learns.end (ap is_known (sym c.length.ensures ∙ c.in-Some.is))) now.reaches.stands.good;
      };
      below = now.below;
      spares = record {
        lines = λ told steady noting known. now.spares.lines told steady noting (c.in-Ok.ensures.within told steady).1;
        outside = now.spares.outside;
      };
    }

use Rattle.std.proofs.Common.{rules, ◌≡◌, ◌+◌, ◌-◌, ◌^◌, ◌<◌, ◌≤◌, ◌∙◌, arith, ap, sym, refl, subst, false, inl, inr, [], length}
use Rattle.std.proofs.lemmas.Bool.{true≢false}
use Rattle.age_io.specs.Reading.{StandsIn}
use Rattle.age_armor.specs.declared.stages.Stage.TheVariants.{Start}
use Rattle.age_armor.specs.Ahead.{rest_ahead}
use Rattle.age_armor.specs.Windows.{held_in}
use Rattle.age_v1.proofs.DeliveredArmors.{content_of, stands_follows}
use Rattle.age_armor.proofs.Ahead.{starts, starts_rest, starts_outcome, shown_none}
use Rattle.age_armor.proofs.AheadLines.{ahead_none}
use Rattle.age_armor.proofs.Whole.{rest_carries, carried_rest}
use Rattle.age_io.specs.Stretch.{from_place}
use Rattle.age_v1.specs.DeliveredArmor.{text_delivers}
use Rattle.age_armor.specs.Stages.{is_start}
use Rattle.age_armor.proofs.Resuming.{starts_at}
use Rattle.age_armor.specs.Refusing.{IsOwnRefusal}
use Rattle.age_armor.specs.Seeking.{text_outcome}
use Rattle.age_armor.proofs.reader.ArmoredReader.new_buffered.Goals as goal

pub invariant_of-result-2 : goal.invariant_of-result-2
invariant_of-result-2 g c =
    let reader = g.R.Read in
    let inner = c.args.inner in
    let held = held_in c.new-3.result in
    let none : held ≡ [] = c.new-3.ensures in
    let size : length held ≡ 0 = ap length none in
    let place = reader.place inner - 0 + 0 in
    let zero : reader.place inner - 0 + 0 ≡ reader.place inner = omega arith in
    let content = content_of (reader.content inner) place in
    let rest = rest_ahead false held Start (reader.rest inner) in
    record {
      sound = record {
        fresh = λ good start. none;
        untaken = λ good start. refl;
        unspent = λ good begun. absurd (true≢false begun);
        counted = λ told good. omega (arith, size);
        paced = λ told good. record {
          within = omega (arith, size);
          first = λ start. refl;
          lines = λ full. absurd (true≢false (ap is_start full));
        };
        begins = λ told. omega (arith, zero, g.met.R.Read.place_fits inner told);
        fits = λ told. let h : 0 < 2 ^ 63 = omega arith in h;
        known = λ told. c.new-4.ensures.knows (reader.steady inner) _;
        lined = λ told other. omega (arith, c.new-4.ensures.none.0);
        done = λ ended. absurd (true≢false (sym ended));
        text = λ told steady.
            let inner_stands : StandsIn (reader.content inner) place (reader.rest inner) = rw zero (g.met.R.Read.stands inner told steady) in
            let stands : StandsIn content 0 rest = starts (reader.content inner) (reader.rest inner) place held none inner_stands in
            record {
              behind = let h : 0 ≤ 0 = omega arith in h;
              inside = stands.within;
              here = λ good begun. absurd (true≢false begun);
              follows = λ some.
                  let at : reader.rest inner ≡ from_place place (reader.content inner) =
                  starts_at (reader.content inner) (reader.rest inner) place held none inner_stands some in
                  record {
                    rest = stands_follows content rest 0 stands some;
                    ending = ap (λ o. o.ending) (starts_outcome held (reader.rest inner) none)
                        ∙ ap (λ s. (text_delivers s.bytes s.ends_well).ending) at;
                  };
              form = λ begun. absurd (true≢false begun);
              unread = λ start some. absurd (omega (arith, some, c.new-4.ensures.none.0));
            };
      };
    }

pub returns-clause-opens : goal.returns-clause-opens
returns-clause-opens g c =
    let read = g.R.Read in
    let inner = c.args.inner in
    let rest = read.rest inner in
    let origin : read.place inner - 0 + 0 ≡ read.place inner = omega arith in
    record {
      tells = refl;
      steady = refl;
      faults = refl;
      unread = record { good = refl; shown = shown_none false _ c.new-3.ensures; form = refl; marks = search rules };
      begins = record { text = search rules; outcome = starts_outcome _ rest c.new-3.ensures; whole = search rules };
      place = refl;
      content = search rules;
      rest = starts_rest _ rest c.new-3.ensures;
      carries = λ told. rw (starts_rest _ rest c.new-3.ensures) (rest_carries rest);
      honest = λ bytes well carried. starts_rest _ rest c.new-3.ensures ∙ carried_rest rest bytes well carried;
      named = λ e h. elim h [
        | inl own ↦ absurd (true≢false (sym own.0))
        | inr reading ↦ elim reading [
          | inl own ↦ inl (subst (λ n. IsOwnRefusal (read.tells inner) (read.steady inner) (text_outcome (read.content inner) n).ending e) origin own)
          | inr tried ↦ inr tried
        ]
      ];
      memory = search rules;
    }

pub invariant_of-result-clause-shows : goal.invariant_of-result-clause-shows
invariant_of-result-clause-shows g c = ahead_none _ _ 0

use Rattle.std.proofs.Common.{◌∙◌, sym, subst}
use Rattle.age_stream.specs.Reading.{IsHeld}
use Rattle.age_stream.proofs.cache.Cache.exchange.Goals as goal

pub returns-in-Some-clause-kept : goal.returns-in-Some-clause-kept
returns-in-Some-clause-kept c = λ opened key payload kept. record {
  first = λ _. kept.other c.in-Some.opened (sym c.set_aside-first.ensures.same.0 ∙ sym c.replace-other.ensures.value ∙ c.in-Some.is);
  other = λ it is.
      let first = c.set_aside-first.ensures.is it (sym c.replace-other.ensures.after ∙ is) in
      subst (λ o. IsHeld opened key payload o.number o.last 0 o.piece.items) (sym first.1) (kept.first first.0);
}

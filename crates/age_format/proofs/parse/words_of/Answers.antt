use Rattle.std.proofs.Common.{◌≡◌, sym, ◌∙◌, ap, arith, string_bytes, map, subst, Bool, true, false}
use Rattle.age_v1.specs.Stanza.{IsString}
use Rattle.age_format.proofs.Parsing.{words_none, words_done, ascii_string}
use Rattle.std.proofs.lemmas.Str.{IsUtf8-from_ascii}
use Rattle.age_format.proofs.parse.words_of.Goals as goal

absurd_bool : (b : Bool) → b ≡ true → b ≡ false → ⊥
absurd_bool b t f = let bad : true ≡ false = sym t ∙ f in cc

pub returns-in_default : goal.returns-in_default
returns-in_default c =
    words_none (λ x. x.now) c.deref-part-items.result.now c.loop-part.part-index _ c.args.text.now
    (ap (map (λ x. x.now)) c.deref-part-items.ensures.value ∙ c.in_ok-parts.ensures) (omega arith)
    (λ string. c.in_default.ensures.cases.0 (IsUtf8-from_ascii _ (ascii_string _ string.1)))

pub returns-then-not-is_string : goal.returns-then-not-is_string
returns-then-not-is_string c =
    words_none (λ x. x.now) c.deref-part-items.result.now c.loop-part.part-index _ c.args.text.now
    (ap (map (λ x. x.now)) c.deref-part-items.ensures.value ∙ c.in_ok-parts.ensures) (omega arith)
    (λ string. absurd_bool c.is_string.result
    (c.is_string.ensures.exactly.1 (subst IsString (sym c.in-Ok.ensures.cases.0) string)) c.if-not-is_string.true)

pub returns : goal.returns
returns c =
    words_done (λ x. x.now) (λ a. string_bytes a) c.deref-part-items.result.now c.loop-part.words.items c.loop-part.part-index c.args.text.now
    (ap (map (λ x. x.now)) c.deref-part-items.ensures.value ∙ c.in_ok-parts.ensures)
    (omega arith) c.loop-part.invariant.same c.loop-part.invariant.strings

-- A place and room in one chunk, in the words of a read at a place.
use Rattle.std.specs.Prelude.{◌≡◌, ℕ, Bool, ◌^◌, Option, Some, Result, Ok, Err, if◌then◌else◌}
use Rattle.std.proofs.Common.{arith, ap, sym, ◌∙◌}
use Rattle.std.proofs.lemmas.Bool.{le-leb}
use Rattle.age.specs.Types.{Error}
use Rattle.age.specs.ErrorVariants.{PastEnd, TooLong}
use Rattle.age.specs.SeekFromVariants.{Start}
use Rattle.age.specs.Cursor.{sought}
use Rattle.age.specs.PayloadTargets.{in_length, sought_in}
use Rattle.age.specs.StreamAccess.{IsInChunk}
use Rattle.age_claims.specs.Claims.{IsInOne}

abbrev number_of : Result ℕ Error → ℕ
number_of (Ok n) = n
number_of (Err e) = 0

abbrev some_of : Option ℕ → ℕ
some_of (Some n) = n
some_of _ = 0

abbrev at_most : Bool → ℕ → Result ℕ Error
at_most b n = if b then Ok n else Err PastEnd

leads : (size place room chunk from : ℕ) → (one : IsInOne size place room chunk) → sought_in (Start place) from size ≡ Ok place
leads size place room chunk from one =
    ap (λ o. in_length o (Start place) from) one.plain
    ∙ ap (λ b. if b then sought (Start place) from one.len else Err TooLong) (le-leb one.len (2 ^ 60) one.limit)
    ∙ ap (λ b. at_most b place) (le-leb place one.len (omega (arith, one.inside)))

pub in_chunk : (size place room chunk from : ℕ) → IsInOne size place room chunk → IsInChunk size (Start place) from room chunk
in_chunk size place room chunk from one =
    let there = leads size place room chunk from one in
    record {
      start = place;
      leads = there;
      before = λ end.
          let same : place ≡ end.len = ap number_of (sym there ∙ end.target) in
          let len : one.len ≡ end.len = ap some_of (sym one.plain ∙ end.plain) in
          omega (arith, same, len, one.inside);
      some = one.some;
      from = one.from;
      within = one.within;
    }

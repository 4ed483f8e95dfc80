use Rattle.std.proofs.Common.{◌≡◌, ℕ, List, ◌∷◌, [], ◌∙◌, ap, get_or, refl}
use Rattle.std.specs.Prelude.{slice_index}
use Rattle.chacha20.proofs.Sides.{each_lane, column, column-at, slice_index-lane}
use Rattle.chacha20.proofs.transposed.transposed.Goals as goal

pub returns : goal.returns
returns c j k h l =
    let columns = c.args.columns.now in
    let zeroth : c.halves.result.0 ≡ column columns 0
    = rw (
      c.halves.ensures.low,
      c.pairs_by_turns.ensures.low,
      c.pairs_by_turns-3.ensures.low,
      c.words_by_turns.ensures.low,
      c.words_by_turns-2.ensures.low,
      c.words_by_turns-3.ensures.low,
      c.words_by_turns-4.ensures.low,
    ) refl in
    let first : c.halves-2.result.0 ≡ column columns 1
    = rw (
      c.halves-2.ensures.low,
      c.pairs_by_turns.ensures.high,
      c.pairs_by_turns-3.ensures.high,
      c.words_by_turns.ensures.low,
      c.words_by_turns-2.ensures.low,
      c.words_by_turns-3.ensures.low,
      c.words_by_turns-4.ensures.low,
    ) refl in
    let second : c.halves-3.result.0 ≡ column columns 2
    = rw (
      c.halves-3.ensures.low,
      c.pairs_by_turns-2.ensures.low,
      c.pairs_by_turns-4.ensures.low,
      c.words_by_turns.ensures.high,
      c.words_by_turns-2.ensures.high,
      c.words_by_turns-3.ensures.high,
      c.words_by_turns-4.ensures.high,
    ) refl in
    let third : c.halves-4.result.0 ≡ column columns 3
    = rw (
      c.halves-4.ensures.low,
      c.pairs_by_turns-2.ensures.high,
      c.pairs_by_turns-4.ensures.high,
      c.words_by_turns.ensures.high,
      c.words_by_turns-2.ensures.high,
      c.words_by_turns-3.ensures.high,
      c.words_by_turns-4.ensures.high,
    ) refl in
    let fourth : c.halves.result.1 ≡ column columns 4
    = rw (
      c.halves.ensures.high,
      c.pairs_by_turns.ensures.low,
      c.pairs_by_turns-3.ensures.low,
      c.words_by_turns.ensures.low,
      c.words_by_turns-2.ensures.low,
      c.words_by_turns-3.ensures.low,
      c.words_by_turns-4.ensures.low,
    ) refl in
    let fifth : c.halves-2.result.1 ≡ column columns 5
    = rw (
      c.halves-2.ensures.high,
      c.pairs_by_turns.ensures.high,
      c.pairs_by_turns-3.ensures.high,
      c.words_by_turns.ensures.low,
      c.words_by_turns-2.ensures.low,
      c.words_by_turns-3.ensures.low,
      c.words_by_turns-4.ensures.low,
    ) refl in
    let sixth : c.halves-3.result.1 ≡ column columns 6
    = rw (
      c.halves-3.ensures.high,
      c.pairs_by_turns-2.ensures.low,
      c.pairs_by_turns-4.ensures.low,
      c.words_by_turns.ensures.high,
      c.words_by_turns-2.ensures.high,
      c.words_by_turns-3.ensures.high,
      c.words_by_turns-4.ensures.high,
    ) refl in
    let seventh : c.halves-4.result.1 ≡ column columns 7
    = rw (
      c.halves-4.ensures.high,
      c.pairs_by_turns-2.ensures.high,
      c.pairs_by_turns-4.ensures.high,
      c.words_by_turns.ensures.high,
      c.words_by_turns-2.ensures.high,
      c.words_by_turns-3.ensures.high,
      c.words_by_turns-4.ensures.high,
    ) refl in
    let at : (row : List ℕ) (i : ℕ) → row ≡ column columns i → slice_index row k ≡ slice_index (get_or columns k []) i
    = λ row i e. ap (λ r. slice_index r k) e ∙ column-at columns i k l in
    rw (slice_index-lane columns j k) (each_lane (λ j. slice_index (
    slice_index c.halves.result.0 k ∷ slice_index c.halves-2.result.0 k ∷ slice_index c.halves-3.result.0 k ∷ slice_index c.halves-4.result.0 k
    ∷ slice_index c.halves.result.1 k ∷ slice_index c.halves-2.result.1 k ∷ slice_index c.halves-3.result.1 k ∷ slice_index c.halves-4.result.1 k
    ∷ []) j
    ≡ slice_index (get_or columns k []) j)
    (at _ 0 zeroth) (at _ 1 first) (at _ 2 second) (at _ 3 third) (at _ 4 fourth) (at _ 5 fifth) (at _ 6 sixth) (at _ 7 seventh) j h)

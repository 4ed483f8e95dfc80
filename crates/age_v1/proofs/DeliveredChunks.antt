-- What a chunk at the front delivers.
use Rattle.std.specs.Prelude.{◌≡◌, ℕ, ◌/◌, ◌<◌, ◌≤◌, Option, Ok, Err, Bool, true, false, cond, List, [], ◌++◌, length}
use Rattle.std.proofs.Common.{suc, refl, ◌∙◌, inl, inr, arith, length-append}
use Rattle.std.proofs.lemmas.List.{append-nil, take_at, drop_at}
use Rattle.std.proofs.lemmas.Bool.{cases_lt}
use Rattle.age_io.specs.Stretch.{Stretch, nothing}
use Rattle.age_error.specs.declared.io.Error.{Error}
use Rattle.age_v1.specs.DeliveredPayload.{chunk_of, prepend, after_last, after_chunk, delivers}

module _ (opened : List ℕ → List ℕ → List ℕ → Option (List ℕ)) (key : List ℕ) where
  -- a full chunk is at the front
  pub delivered-full : (number : ℕ) (text more : List ℕ) (ends_well : Bool) → length text ≡ 65552 →
      delivers opened key (length (text ++ more) / 65552) number (text ++ more) ends_well
      ≡ after_chunk (delivers opened key (length more / 65552) (suc number) more ends_well) (after_last more ends_well)
      (chunk_of opened key number text)
  unfolding delivers
  delivered-full number text more ends_well full =
      let count : length (text ++ more) / 65552 ≡ suc (length more / 65552) = simp length-append (omega arith) in
      rw (count, take_at text more 65552 full, drop_at text more 65552 full) refl

  -- less than a full chunk is left
  pub delivered-short : (number : ℕ) (text : List ℕ) (ends_well : Bool) → length text < 65552 →
      delivers opened key (length text / 65552) number text ends_well
      ≡ cond ends_well (after_chunk nothing (after_last [] true) (chunk_of opened key number text)) nothing
  unfolding delivers
  delivered-short number text ends_well short =
      let none : length text / 65552 ≡ 0 = omega arith in
      rw none refl

  after_chunk-by : (middle last_rest : Stretch) (plain : List ℕ) (last : Bool)
      → after_chunk middle last_rest (Ok (plain, last)) ≡ prepend plain (cond last last_rest middle)
  after_chunk-by middle last_rest plain true = refl
  after_chunk-by middle last_rest plain false = refl

  -- the chunk at the front, and what the bytes after it deliver
  pub delivered-chunk : (number : ℕ) (text more : List ℕ) (ends_well : Bool) (plain : List ℕ) (last : Bool) → length text ≤ 65552 →
      (length text < 65552 → (more ≡ []) × (ends_well ≡ true)) → (length text < 65552 → last ≡ true)
      → chunk_of opened key number text ≡ Ok (plain, last) →
      delivers opened key (length (text ++ more) / 65552) number (text ++ more) ends_well
      ≡ prepend plain (cond last (after_last more ends_well) (delivers opened key (length more / 65552) (suc number) more ends_well))
  delivered-chunk number text more ends_well plain last most ended short is = elim (cases_lt (length text) 65552) [
    | inl less ↦
        let over = ended less in
        rw (over.0, over.1, append-nil, delivered-short number text true less, is, short less) refl
    | inr full ↦
        delivered-full number text more ends_well (omega arith) ∙ rw (is, after_chunk-by) refl
  ]

  -- a refused chunk at the front delivers nothing
  pub delivered-refused : (number : ℕ) (text more : List ℕ) (ends_well : Bool) (e : Error) → length text ≤ 65552 →
      (length text < 65552 → (more ≡ []) × (ends_well ≡ true)) → chunk_of opened key number text ≡ Err e →
      delivers opened key (length (text ++ more) / 65552) number (text ++ more) ends_well ≡ nothing
  delivered-refused number text more ends_well e most ended is = elim (cases_lt (length text) 65552) [
    | inl less ↦
        let over = ended less in
        rw (over.0, over.1, append-nil, delivered-short number text true less, is) refl
    | inr full ↦
        delivered-full number text more ends_well (omega arith) ∙ rw is refl
  ]

  -- less than a full chunk, and then a bad end, delivers nothing
  pub delivered-cut : (number : ℕ) (bytes : List ℕ) → length bytes < 65552 → delivers opened key (length bytes / 65552) number bytes false ≡ nothing
  delivered-cut number bytes less = delivered-short number bytes false less

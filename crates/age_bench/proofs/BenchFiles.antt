-- The file that random bytes come to for the bench recipient.
use Rattle.std.specs.Prelude.{◌≡◌, ◌≤◌, ℕ, Bool, true, false, List, [], ◌∷◌, length, take, drop, nat_le, Option, Some, None, Result, Ok, if◌then◌else◌, refl}
use Rattle.std.specs.Result.{result_map_both}
use Rattle.std.proofs.Common.{◌∙◌, sym, ap, subst, arith, length-drop}
use Rattle.std.proofs.lemmas.Bool.{leb-true}
use Rattle.age.specs.Armor.{Carries, text_of}
use Rattle.age.specs.Draw.{taken, left_after}
use Rattle.age.specs.EncryptErrors.{EncryptRefusal, ShortRandom}
use Rattle.age.specs.Encrypting.{drawn, Prepared}
use Rattle.age.proofs.Outcomes.{same_value, no_refusal}
use Rattle.age.specs.File.{file_text, IsFileOf}
use Rattle.age_bench.specs.Bench.{bench_seal}
use Rattle.age_bench.specs.Names.{file_by}
use Rattle.age_bench.specs.Recipient.{bench_stanza, bench_grease, bench_file}
use Rattle.age_bench.specs.FileLaws.{IsBenchFile, IsCarried, CarriesOnlyIt}
use Rattle.age_bench.specs.declared.names.To.TheVariants.{Bench}
use Rattle.age_bench.proofs.OneFile.{IsMade}
use Rattle.age_bench.proofs.BothForms.{IsCarriedAs, IsGivenBack}
use Rattle.age_bench.proofs.Unwrapped.{bench_gives}

-- what was made of random bytes was made of enough of them
were_drawn : (bytes : Option (List ℕ)) (text_by : Prepared → List ℕ) (next : List ℕ → Result Prepared EncryptRefusal) (text : List ℕ)
    → result_map_both text_by (λ e. e) (drawn bytes next) ≡ Ok text
    → (b : List ℕ) × (bytes ≡ Some b) × (result_map_both text_by (λ e. e) (next b) ≡ Ok text)
were_drawn None text_by next text h = no_refusal text ShortRandom (sym h)
were_drawn (Some b) text_by next text h = (b, refl, h)

some_same : (x y : List ℕ) → Path (Option (List ℕ)) (Some x) (Some y) → x ≡ y
some_same x y is = cc

enough_by : (enough : Bool) (n : ℕ) (draws bytes : List ℕ) → Path (Option (List ℕ)) (if enough then Some (take n draws) else None) (Some bytes)
    → (enough ≡ true) × (bytes ≡ take n draws) × ((if enough then drop n draws else draws) ≡ drop n draws)
enough_by true n draws bytes is = (refl, sym (some_same _ _ is), refl)
enough_by false n draws bytes is = absurd (Prim.cc)

pub were_enough : (n : ℕ) (draws bytes : List ℕ) → taken n draws ≡ Some bytes
    → (n ≤ length draws) × (bytes ≡ take n draws) × (left_after n draws ≡ drop n draws)
were_enough n draws bytes is =
    let (enough, same, left) = enough_by (nat_le n (length draws)) n draws bytes is in
    (leb-true n (length draws) enough, same, left)

-- the text of a file of this file key and nonce
abbrev text_by : List ℕ → Prepared → List ℕ
text_by plain file = file_text bench_seal file.file_key file.stanzas file.nonce plain

abbrev made_of : List ℕ → List ℕ → Prepared
made_of file_key nonce = record { file_key = file_key; stanzas = bench_stanza file_key ∷ bench_grease ∷ []; nonce = nonce }

-- it is the bench file of 32 random bytes or more
bench_filed : (draws plain text : List ℕ) → file_by Bench draws plain ≡ Ok text → (32 ≤ length draws) × (text ≡ bench_file draws plain)
bench_filed draws plain text h =
    let (key, is_key, rest) =
    were_drawn (taken 16 draws) (text_by plain) (λ file_key. drawn (taken 16 (left_after 16 draws)) (λ nonce. Ok (made_of file_key nonce))) text h in
    let (nonce, is_nonce, done) = were_drawn (taken 16 (left_after 16 draws)) (text_by plain) (λ nonce. Ok (made_of key nonce)) text rest in
    let (long, key_same, left) = were_enough 16 draws key is_key in
    let (longer, nonce_same, more) = were_enough 16 (left_after 16 draws) nonce is_nonce in
    let behind : 16 ≤ length (drop 16 draws) = subst (λ l. 16 ≤ length l) left longer in
    let nonce_is : nonce ≡ take 16 (drop 16 draws) = nonce_same ∙ ap (λ l. take 16 l) left in (
      omega (arith, long, behind, length-drop 16 draws),
      sym (same_value _ _ done) ∙ ap (λ k. text_by plain (made_of k nonce)) key_same ∙ ap (λ n. text_by plain (made_of (take 16 draws) n)) nonce_is,
    )

pub is_file : IsMade → IsBenchFile
is_file made draws plain text b is =
    let (long, same) = bench_filed draws plain text is in
    subst (λ t. IsFileOf bench_seal (take 16 draws) (bench_stanza (take 16 draws) ∷ bench_grease ∷ []) plain t) (sym same) (made draws plain b long)

pub is_carried : IsCarriedAs → IsCarried
is_carried carried format draws plain text b p is =
    let (long, same) = bench_filed draws plain text is in
    subst (λ t. Carries (text_of format t) t) (sym same) (carried format draws plain b long p)

pub gives_back : IsGivenBack → CarriesOnlyIt
gives_back given_back format draws plain text bytes file_key stanzas given b p is carries gives f =
    let (long, same) = bench_filed draws plain text is in
    given_back format draws plain bytes file_key stanzas given b long p (subst (λ t. Carries (text_of format t) bytes) same carries)
    (bench_gives file_key stanzas gives) f

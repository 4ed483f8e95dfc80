-- What the bench identity answers to stanzas.
use Rattle.std.specs.Prelude.{◌≡◌, ◌≢◌, ℕ, Bool, true, false, List, [], ◌∷◌, ◌++◌, All, length, nat_eq, bytes_eq, codes, if◌then◌else◌, Some, None, Ok, Err, refl}
use Rattle.std.specs.Option.{option_or}
use Rattle.std.proofs.Common.{◌∙◌, sym, ap, subst, inl}
use Rattle.std.proofs.lemmas.Bool.{eqb-true, false≢true}
use Rattle.std.proofs.lemmas.List.{nil_from_length}
use Rattle.std.proofs.lemmas.List.Elements.{All-nil, All-cons, All-head, All-tail}
use Rattle.std.proofs.lemmas.Option.{none-some}
use Rattle.std.proofs.lemmas.Slice.Eq.{bytes_eq-Decides}
use Rattle.age.specs.DecryptErrors.{InvalidHeader}
use Rattle.age.specs.Stanza.{StanzaValue}
use Rattle.age.specs.Identities.{UnwrapAnswer, Steady, FirstOf, UnlessAnswered, IsFileFor}
use Rattle.age_bench.specs.Bench.{bench_seal}
use Rattle.age_bench.specs.Files.{IsFileForBench}
use Rattle.age_bench.specs.Names.{AsksWith, answers_of, gives_of}
use Rattle.age_bench.specs.Recipient.{bench_stanza, bench_unwrapped, first_answer, bench_answer, HoldsBenchKey}
use Rattle.age_bench.specs.declared.names.With.{With}
use Rattle.age_bench.specs.declared.names.With.TheVariants.{Bench}

-- ---- the file key

opened_by : (tag args body : Bool) (bytes key : List ℕ)
    → ◌≡◌ {A = UnwrapAnswer} (if tag then (if args then (if body then Some (Ok bytes) else Some (Err InvalidHeader)) else Some
    (Err InvalidHeader)) else None) (Some (Ok key))
    → (tag ≡ true) × (args ≡ true) × (body ≡ true) × (bytes ≡ key)
opened_by true true true bytes key h = (refl, refl, refl, Prim.cc)
opened_by true true false bytes key h = absurd (Prim.cc)
opened_by true false body bytes key h = absurd (Prim.cc)
opened_by false args body bytes key h = absurd (Prim.cc)

-- a stanza that gives a file key is that of the key
opened : (s : StanzaValue) (key : List ℕ) → bench_unwrapped s ≡ Some (Ok key) → (s ≡ bench_stanza key) × (length key ≡ 16)
opened s key h =
    let (tag, args, body, is) = opened_by (bytes_eq s.tag (codes "bench")) (nat_eq (length s.args) 0) (nat_eq (length s.body) 16) s.body key h in
    let name : s.tag ≡ codes "bench" = (bytes_eq-Decides s.tag (codes "bench")).0 tag in
    let none : s.args ≡ [] = nil_from_length s.args (eqb-true (length s.args) 0 args) in
    let same : s ≡ bench_stanza key =
    ap (λ t. record { tag = t; args = s.args; body = s.body }) name
    ∙ (ap (λ l. record { tag = codes "bench"; args = l; body = s.body }) none ∙ ap bench_stanza is) in
    (same, rw is at (eqb-true (length s.body) 16 body))

passed_by : (tag args body : Bool) (bytes : List ℕ)
    → ◌≡◌ {A = UnwrapAnswer} (if tag then (if args then (if body then Some (Ok bytes) else Some (Err InvalidHeader)) else Some
    (Err InvalidHeader)) else None) None
    → tag ≢ true
passed_by true true true bytes h = absurd (Prim.cc)
passed_by true true false bytes h = absurd (Prim.cc)
passed_by true false body bytes h = absurd (Prim.cc)
passed_by false args body bytes h = false≢true

-- one that gives nothing has another tag
passed_over : (s : StanzaValue) → bench_unwrapped s ≡ None → s.tag ≢ codes "bench"
passed_over s h same =
    passed_by (bytes_eq s.tag (codes "bench")) (nat_eq (length s.args) 0) (nat_eq (length s.body) 16) s.body h
    ((bytes_eq-Decides s.tag (codes "bench")).1 same)

holds_more : (s : StanzaValue) (stanzas : List StanzaValue) (key : List ℕ) (answer : UnwrapAnswer) → bench_unwrapped s ≡ answer
    → (Some (Ok key) ≡ first_answer bench_unwrapped stanzas → HoldsBenchKey key stanzas)
    → Some (Ok key) ≡ option_or answer (first_answer bench_unwrapped stanzas) → HoldsBenchKey key (s ∷ stanzas)
holds_more s stanzas key None is later h =
    let rest = later h in
    record {
      passed = s ∷ rest.passed;
      later = rest.later;
      all = ap (λ l. s ∷ l) rest.all;
      others = All-cons (λ t. t.tag ≢ codes "bench") s rest.passed (passed_over s is) rest.others;
      sixteen = rest.sixteen;
    }
holds_more s stanzas key (Some a) is later h =
    let (first, sixteen) = opened s key (is ∙ sym h) in
    record { passed = []; later = stanzas; all = ap (λ l. l ∷ stanzas) first; others = All-nil (λ t. t.tag ≢ codes "bench"); sixteen = sixteen }

-- a file key that is the first answer stands in the first bench stanza
pub holds : (stanzas : List StanzaValue) (key : List ℕ) → Some (Ok key) ≡ first_answer bench_unwrapped stanzas → HoldsBenchKey key stanzas
holds [] key h = absurd (none-some _ (sym h))
holds (s ∷ stanzas) key h = holds_more s stanzas key (bench_unwrapped s) refl (λ later. holds stanzas key later) h

-- ---- the other way

not_bench : (tag args body : Bool) (bytes : List ℕ) → tag ≢ true
    → ◌≡◌ {A = UnwrapAnswer} (if tag then (if args then (if body then Some (Ok bytes) else Some (Err InvalidHeader)) else Some
    (Err InvalidHeader)) else None) None
not_bench true args body bytes other = absurd (other refl)
not_bench false args body bytes other = refl

-- a stanza with another tag is passed over
pub over_other : (s : StanzaValue) → s.tag ≢ codes "bench" → bench_unwrapped s ≡ None
over_other s other =
    not_bench (bytes_eq s.tag (codes "bench")) (nat_eq (length s.args) 0) (nat_eq (length s.body) 16) s.body
    (λ same. other ((bytes_eq-Decides s.tag (codes "bench")).0 same))

-- and of the stanza of a file key the file key is the answer
pub of_own : (key : List ℕ) → length key ≡ 16 → bench_unwrapped (bench_stanza key) ≡ Some (Ok key)
of_own key sixteen = rw sixteen refl

held_after : (passed later : List StanzaValue) (key : List ℕ) → All (λ s. s.tag ≢ codes "bench") passed → length key ≡ 16
    → first_answer bench_unwrapped (passed ++ bench_stanza key ∷ later) ≡ Some (Ok key)
held_after [] later key others sixteen = ap (λ first. option_or first (first_answer bench_unwrapped later)) (of_own key sixteen)
held_after (p ∷ passed) later key others sixteen =
    let other : p.tag ≢ codes "bench" = All-head (λ s. s.tag ≢ codes "bench") p passed others in
    ap (λ first. option_or first (first_answer bench_unwrapped (passed ++ bench_stanza key ∷ later))) (over_other p other)
    ∙ held_after passed later key (All-tail (λ s. s.tag ≢ codes "bench") p passed others) sixteen

-- the file key of the first bench stanza is the first answer
pub held_answer : (stanzas : List StanzaValue) (key : List ℕ) → HoldsBenchKey key stanzas → first_answer bench_unwrapped stanzas ≡ Some (Ok key)
held_answer stanzas key holds = ap (first_answer bench_unwrapped) holds.all ∙ held_after holds.passed holds.later key holds.others holds.sixteen

-- ---- what WITH answers where it names the bench identity

or_else : (s : StanzaValue) (rest : List StanzaValue) (first answer : UnwrapAnswer) (between : With) → (first ≡ bench_unwrapped s) × (between ≡ Bench)
    → (answers_of Bench rest answer → answer ≡ bench_answer rest)
    → UnlessAnswered (λ with_. FirstOf (Steady AsksWith) with_ rest) first between answer Bench
    → answer ≡ option_or (bench_unwrapped s) (bench_answer rest)
or_else s rest None answer between asked step h = rw (← asked.0) (step (subst (λ with_. FirstOf (Steady AsksWith) with_ rest answer Bench) asked.1 h))
or_else s rest (Some a) answer between asked step h = rw (← asked.0) h.0

-- it is set by the stanzas
pub bench_answers : (stanzas : List StanzaValue) (answer : UnwrapAnswer) → answers_of Bench stanzas answer → answer ≡ bench_answer stanzas
bench_answers [] answer h = h.0
bench_answers (s ∷ stanzas) answer (first, between, asked, next) =
    or_else s stanzas first answer between asked (λ more. bench_answers stanzas answer more) next

-- so a file key that it gives stands in the first bench stanza
pub bench_gives : (file_key : List ℕ) (stanzas : List StanzaValue) → gives_of Bench file_key stanzas → HoldsBenchKey file_key stanzas
bench_gives file_key stanzas h = holds stanzas file_key (bench_answers stanzas (Some (Ok file_key)) h)

-- and it opens the files for it
pub for_bench : (plain text : List ℕ) → IsFileForBench plain text → IsFileFor bench_seal (answers_of Bench) plain text
for_bench plain text for = record {
  file_key = for.file_key;
  stanzas = for.stanzas;
  is_file = for.is_file;
  bytes = for.bytes;
  within = for.within;
  last = for.last;
  right = λ answer asked. inl (bench_answers for.stanzas answer asked ∙ held_answer for.stanzas for.file_key for.holds);
}

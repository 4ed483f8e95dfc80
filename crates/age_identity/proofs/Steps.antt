-- One byte more of an identity file.
use Rattle.std.proofs.Common.{◌≡◌, ◌≢◌, ◌∙◌, inr, refl, subst, ℕ, ◌+◌, ◌≤◌, ◌<◌, ◌^◌, ◌++◌, ap, append_assoc, append-nil, List, [], ◌∷◌, sym, arith, length, length-append, length-take-le, take, get_or, map, Result, Ok, Err, MatchResult}
use Rattle.std.specs.Str.Lines.{lines, strip_carriage_return}
use Rattle.age_base64.specs.Lines.{line, Lacks}
use Rattle.age_identity.specs.Entries.{Entry, AreEntries, IsBadLine, entry_of}
use Rattle.age_identity.specs.Files.{IsEnded, EndsInBad}
use Rattle.age_identity.specs.Progress.{IsAt, IsLine}
use Rattle.age_identity.specs.declared.parser.Parser.{Parser}
use Rattle.age_identity.specs.declared.entry.IdentityFileEntry.{IdentityFileEntry}
use Rattle.std.proofs.lemmas.List.{map-append, take_more}
use Rattle.age_identity.proofs.Cutting.{lines_more, line_alone, last_alone}

-- the lines of a text whose last one a line feed ends
lines_ended : (done last : List ℕ) → IsEnded done → Lacks 10 last → lines ((done ++ last) ++ 10 ∷ []) ≡ lines done ++ strip_carriage_return last ∷ []
lines_ended done last ended lacks =
    ap lines (append_assoc done last (10 ∷ [])) ∙ lines_more done (line last) ended ∙ ap (λ ls. lines done ++ ls) (line_alone last lacks)

-- the lines of the whole text
lines_last : (done last : List ℕ) → IsEnded done → Lacks 10 last → last ≢ [] → lines (done ++ last) ≡ lines done ++ last ∷ []
lines_last done last ended lacks some = lines_more done last ended ∙ ap (λ ls. lines done ++ ls) (last_alone last lacks some)

-- what a result says, weakened in both cases
pub match_weaker : {T E : Type 0} (r : Result T E) (P P' : T → Type 0) (Q Q' : E → Type 0) → ((x : T) → P x → P' x) → ((e : E) → Q e → Q' e) →
    MatchResult r P Q → MatchResult r P' Q'
match_weaker (Ok x) P P' Q Q' ok err h = ok x h
match_weaker (Err e) P P' Q Q' ok err h = err e h

module _ {S : Type 0} where
  -- the lines are fewer than the bytes
  pub few_lines : (p : Parser S) (text : List ℕ) → length text < 2 ^ 63 → IsAt p text → p.finished < 2 ^ 63
  few_lines p text short here = omega (arith, here.few, short, ap length here.parts, length-append here.done here.last)

  -- a line feed
  pub at_line : (p q : Parser S) (text : List ℕ) → length text < 2 ^ 63 → (at_text : IsAt p text) →
      AreEntries (lines at_text.done ++ strip_carriage_return at_text.last ∷ []) (map (λ e. entry_of e) q.entries.items) →
      q.finished ≡ p.finished + 1 → IsLine q.line [] → IsAt q (text ++ 10 ∷ [])
  at_line p q text short here good finished kept =
      let all = ap (λ t. t ++ 10 ∷ []) here.parts in
      let cut = lines_ended here.done here.last here.ended here.lacks in
      let size = ap length all ∙ length-append (here.done ++ here.last) (10 ∷ []) in
      let whole = length-append here.done here.last in
      record {
        done = text ++ 10 ∷ [];
        last = [];
        parts = sym (append-nil (text ++ 10 ∷ []));
        ended = inr (text, refl);
        lacks = tt;
        good = subst (λ ls. AreEntries ls (map (λ e. entry_of e) q.entries.items)) (sym (ap lines all ∙ cut)) good;
        counted = finished ∙ ap (λ n. n + 1) here.counted ∙ sym (length-append (lines here.done) (strip_carriage_return here.last ∷ []))
            ∙ ap length (sym (ap lines all ∙ cut));
        few = let h : q.finished ≤ length (text ++ 10 ∷ []) = omega (arith, finished, here.few, size, whole) in h;
        kept = kept;
      }

  -- the line that a line feed ends is bad
  pub bad_line : (p : Parser S) (number : ℕ) (text : List ℕ) → (at_text : IsAt p text) → number ≡ p.finished + 1 →
      IsBadLine (strip_carriage_return at_text.last) → EndsInBad (text ++ 10 ∷ []) number
  bad_line p number text here counted bad = record {
    before = lines here.done;
    entries = map (λ e. entry_of e) p.entries.items;
    good = here.good;
    last = strip_carriage_return here.last;
    bad = bad;
    all = ap (λ t. lines (t ++ 10 ∷ [])) here.parts ∙ lines_ended here.done here.last here.ended here.lacks;
    counted = counted ∙ ap (λ n. n + 1) here.counted;
  }

  pub all_lines : (p : Parser S) (text : List ℕ) (entries : List Entry) → (at_text : IsAt p text) → at_text.last ≢ [] →
      AreEntries (lines at_text.done ++ at_text.last ∷ []) entries → AreEntries (lines text) entries
  all_lines p text entries here some good =
      subst (λ ls. AreEntries ls entries) (sym (ap lines here.parts ∙ lines_last here.done here.last here.ended here.lacks some)) good

  -- nothing follows the last line feed
  pub no_line : (p : Parser S) (text : List ℕ) → (at_text : IsAt p text) → at_text.last ≡ []
      → AreEntries (lines text) (map (λ e. entry_of e) p.entries.items)
  no_line p text here none =
      let whole : text ≡ here.done = here.parts ∙ ap (λ l. here.done ++ l) none ∙ append-nil here.done in
      subst (λ t. AreEntries (lines t) (map (λ e. entry_of e) p.entries.items)) (sym whole) here.good

  -- the last line is bad
  pub bad_last : (p : Parser S) (number : ℕ) (text : List ℕ) → (at_text : IsAt p text) → at_text.last ≢ [] → number ≡ p.finished + 1
      → IsBadLine at_text.last →
      EndsInBad text number
  bad_last p number text here some counted bad = record {
    before = lines here.done;
    entries = map (λ e. entry_of e) p.entries.items;
    good = here.good;
    last = here.last;
    bad = bad;
    all = ap lines here.parts ∙ lines_last here.done here.last here.ended here.lacks some;
    counted = counted ∙ ap (λ n. n + 1) here.counted;
  }

-- one entry more
pub mapped_more : {S : Type 0} (old new : List (IdentityFileEntry S)) (e : IdentityFileEntry S) → new ≡ old ++ e ∷ [] →
    map (λ e. entry_of e) new ≡ map (λ e. entry_of e) old ++ entry_of e ∷ []
mapped_more old new e is = ap (map (λ e. entry_of e)) is ∙ map-append (λ e. entry_of e) old (e ∷ [])

-- a byte more of some bytes
pub byte_joined : (text bytes : List ℕ) (i : ℕ) → i < length bytes → (text ++ take i bytes) ++ get_or bytes i 0 ∷ [] ≡ text ++ take (i + 1) bytes
byte_joined text bytes i within = append_assoc text (take i bytes) (get_or bytes i 0 ∷ []) ∙ ap (λ b. text ++ b) (sym (take_more bytes i 0 within))

pub still_short : (text bytes : List ℕ) (i : ℕ) → i ≤ length bytes → length text + length bytes < 2 ^ 63 → length (text ++ take i bytes) < 2 ^ 63
still_short text bytes i within short = omega (arith, length-append text (take i bytes), length-take-le i bytes within, short)

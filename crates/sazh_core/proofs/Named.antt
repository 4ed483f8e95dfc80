-- One word more.
use Rattle.std.proofs.Common.{◌∙◌, ℕ, ◌+◌, ◌<◌, List, [], ◌∷◌, ◌++◌, length, length-take-le, take, drop, get_or, refl, sym, ap, subst, arith}
use Rattle.std.proofs.lemmas.List.{append-nil, append_assoc, drop_more, take-append-drop}
use Rattle.age.specs.Members.{ReadMembers}
use Rattle.sazh_core.specs.Words.{AreOfWord, AreOfWords, IsFirstRefused, RefusesWord}
use Rattle.sazh_core.specs.declared.error.WordsError.{WordsError}
use Rattle.sazh_core.specs.declared.words.Word.{Word}

module _ (public_of : List ℕ → List ℕ) where
  -- the recipients of words, and then those of one more
  pub word_added : (before : List Word) (word : Word) (keys more : List (List ℕ)) → AreOfWords public_of before keys → AreOfWord public_of word more
      → AreOfWords public_of (before ++ word ∷ []) (keys ++ more)
  word_added [] word keys more none is = (more, [], ap (λ all. all ++ more) none ∙ sym (append-nil more), is, refl)
  word_added (first ∷ before) word keys more (own, others, joined, of_first, of_others) is =
      (own, others ++ more, ap (λ all. all ++ more) joined ∙ append_assoc own others more, of_first, word_added before word others more of_others is)

  module _ {T : Type 0} (text_read : ReadMembers T) (S : Type 0) where
    -- the first word that is refused, of which those before it are the first ones
    pub first_refused : (all : List Word) (i : ℕ) (other : Word) (keys : List (List ℕ)) (e : WordsError) → i < length all
        → AreOfWords public_of (take i all) keys
        → RefusesWord text_read S i (get_or all i other) e → IsFirstRefused text_read S public_of all e
    first_refused all i other keys e within good refused = record {
      before = take i all;
      word = get_or all i other;
      after = drop (i + 1) all;
      parts = sym (take-append-drop i all) ∙ ap (λ rest. take i all ++ rest) (drop_more all i other within);
      keys = keys;
      good = good;
      refused = subst (λ n. RefusesWord text_read S n (get_or all i other) e) (sym (length-take-le i all (omega (arith, within)))) refused;
    }

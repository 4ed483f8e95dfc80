-- What the parts of a line say.
use Rattle.std.proofs.Common.{◌≡◌, ◌≢◌, ◌==◌, ℕ, suc, zero, ◌+◌, ◌^◌, ◌<◌, ◌≤◌, false, List, [], ◌∷◌, ◌++◌, length, take, drop, map, get_or, refl, ap, sym, arith, subst, ◌∙◌}
use Rattle.std.proofs.lemmas.List.{append_cancel_left, take_all}
use Rattle.std.proofs.lemmas.List.Splits.{slice_split_none, slice_split_at, join_with_byte-slice_split, length-slice_split}
use Rattle.std.proofs.lemmas.List.Elements.{All-from_recursion, All-nil}
use Rattle.std.specs.Prelude.{codes}
use Rattle.std.specs.Str.{IsAscii}
use Rattle.std.proofs.lemmas.Bool.{ne_eqb}
use Rattle.std.specs.List.{AllByRecursion, join_with_byte, slice_split}
use Rattle.age_error.specs.Bytes.{AreBytes, AreBytesOf}
use Rattle.age_v1.specs.Stanza.{IsString, IsGraphic, StanzaValue, IsStanza, first_line}
use Rattle.age_base64.specs.Base64.{columns}
use Rattle.age_v1.specs.Header.{mac_line}
use Rattle.age_base64.proofs.Columns.{columns_same}

hyphens : List ℕ
hyphens = codes "--- "

pub mac_line_other : (text : List ℕ) → ((rest : List ℕ) → text ≢ codes "--- " ++ rest) → (m : List ℕ) → AreBytesOf 32 m → mac_line m ≡ text → ⊥
unfolding mac_line
mac_line_other text none m h e = none (columns m) (sym e)

-- the columns of a line of a MAC
rest_is : (text rest m : List ℕ) → text ≡ codes "--- " ++ rest → mac_line m ≡ text → columns m ≡ rest
unfolding mac_line
rest_is text rest m t e = append_cancel_left (codes "--- ") (columns m) rest (e ∙ t)

pub mac_line_none : (text rest : List ℕ) → text ≡ codes "--- " ++ rest → ((b : List ℕ) → AreBytes b → columns b ≡ rest → ⊥)
    → (m : List ℕ) → AreBytesOf 32 m → mac_line m ≡ text → ⊥
mac_line_none text rest t none m h e = none m h.bytes (rest_is text rest m t e)

pub mac_line_some : (text rest b : List ℕ) → text ≡ codes "--- " ++ rest → AreBytes b × (columns b ≡ rest) → length b ≡ 32
    → AreBytesOf 32 b × (mac_line b ≡ text)
unfolding mac_line
mac_line_some text rest b t (hb, e) size = (record { len = size; bytes = hb }, ap (λ x. codes "--- " ++ x) e ∙ sym t)

pub mac_line_long : (text rest b : List ℕ) → text ≡ codes "--- " ++ rest → AreBytes b × (columns b ≡ rest) → length b ≢ 32
    → (m : List ℕ) → AreBytesOf 32 m → mac_line m ≡ text → ⊥
mac_line_long text rest b t (hb, e) size m h f =
    let same : m ≡ b = columns_same m b h.bytes hb (rest_is text rest m t f ∙ sym e) in
    size (ap length (sym same) ∙ h.len)

not_space : (w : List ℕ) → AllByRecursion IsGraphic w → AllByRecursion (λ x. (x == 32) ≡ false) w
not_space [] h = tt
not_space (c ∷ w) h = (ne_eqb c 32 (λ e. omega arith), not_space w h.1)

-- strings with a space between two are told by it
pub split_words : (w : List ℕ) (ws : List (List ℕ)) → AllByRecursion IsString (w ∷ ws)
    → slice_split (λ b. b == 32) (join_with_byte 32 (w ∷ ws)) ≡ w ∷ ws
split_words w [] h = slice_split_none (λ b. b == 32) w (All-from_recursion (λ x. (x == 32) ≡ false) w (not_space w h.0.1))
split_words w (v ∷ ws) h =
    slice_split_at (λ b. b == 32) w 32 (join_with_byte 32 (v ∷ ws)) (All-from_recursion (λ x. (x == 32) ≡ false) w (not_space w h.0.1)) refl
    ∙ ap (λ x. w ∷ x) (split_words v ws h.1)

string_at : {X : Type 0} (f : X → List ℕ) (xs : List X) (i : ℕ) (x : X) → i < length xs → AllByRecursion IsString (map f xs)
    → IsString (f (get_or xs i x))
string_at f [] i x lt h = absurd (omega arith)
string_at f (y ∷ xs) zero x lt h = h.0
string_at f (y ∷ xs) (suc i) x lt h = string_at f xs i x (omega arith) h.1

pub words_none : {X : Type 0} (f : X → List ℕ) (xs : List X) (i : ℕ) (d : X) (text : List ℕ) → map f xs ≡ slice_split (λ b. b == 32) text
    → i < length xs → (IsString (f (get_or xs i d)) → ⊥)
    → (ws : List (List ℕ)) → ws ≢ [] → AllByRecursion IsString ws → join_with_byte 32 ws ≡ text → ⊥
words_none f xs i d text parts lt none [] some h e = some refl
words_none f xs i d text parts lt none (w ∷ ws) some h e =
    let same : map f xs ≡ w ∷ ws = parts ∙ ap (λ t. slice_split (λ b. b == 32) t) (sym e) ∙ split_words w ws h in
    none (string_at f xs i d lt (subst (AllByRecursion IsString) (sym same) h))

pub ascii_string : (s : List ℕ) → AllByRecursion IsGraphic s → IsAscii s
ascii_string [] h i = omega arith
ascii_string (c ∷ s) h zero = omega arith
ascii_string (c ∷ s) h (suc i) = ascii_string s h.1 i

both : (xs : List (List ℕ)) (x : List ℕ) → AllByRecursion IsString xs → IsString x → AllByRecursion IsString (xs ++ x ∷ [])
both [] x h k = (k, tt)
both (y ∷ xs) x h k = (h.0, both xs x h.1 k)

split_some : (text : List ℕ) → slice_split (λ b. b == 32) text ≢ []
split_some text e = omega (arith, ap length e, length-slice_split (λ b. b == 32) text)

pub words_done : {X Y : Type 0} (f : X → List ℕ) (g : Y → List ℕ) (xs : List X) (ys : List Y) (i : ℕ) (text : List ℕ)
    → map f xs ≡ slice_split (λ b. b == 32) text
    → length xs ≤ i → map g ys ≡ map f (take i xs) → AllByRecursion IsString (map f (take i xs))
    → (map g ys ≢ []) × AllByRecursion IsString (map g ys) × (join_with_byte 32 (map g ys) ≡ text)
words_done f g xs ys i text parts end same strings =
    let whole : map g ys ≡ slice_split (λ b. b == 32) text = same ∙ ap (map f) (take_all i xs end) ∙ parts in (
      λ e. split_some text (sym whole ∙ e),
      subst (AllByRecursion IsString) (sym same) strings,
      ap (join_with_byte 32) whole
          ∙ join_with_byte-slice_split 32 text,
    )

pub first_line_other : (text : List ℕ) → ((rest : List ℕ) → text ≢ codes "-> " ++ rest) → (s : StanzaValue) → IsStanza s → first_line s ≡ text → ⊥
unfolding first_line
first_line_other text none s h e = none (join_with_byte 32 (s.tag ∷ s.args)) (sym e)

pub first_line_none : (text rest : List ℕ) → text ≡ codes "-> " ++ rest
    → ((ws : List (List ℕ)) → ws ≢ [] → AllByRecursion IsString ws → join_with_byte 32 ws ≡ rest → ⊥)
    → (s : StanzaValue) → IsStanza s → first_line s ≡ text → ⊥
unfolding first_line
first_line_none text rest t none s h e =
    none (s.tag ∷ s.args) (λ x. cc) (h.tag, h.args) (append_cancel_left (codes "-> ") (join_with_byte 32 (s.tag ∷ s.args)) rest (e ∙ t))

pub first_line_some : (text rest : List ℕ) (s : StanzaValue) (ws : List (List ℕ)) → text ≡ codes "-> " ++ rest → ws ≡ s.tag ∷ s.args
    → join_with_byte 32 ws ≡ rest → first_line s ≡ text
unfolding first_line
first_line_some text rest s ws t w e = ap (λ x. codes "-> " ++ join_with_byte 32 x) (sym w) ∙ ap (λ x. codes "-> " ++ x) e ∙ sym t

pub first_word : {X : Type 0} (f : X → List ℕ) (ws ys : List X) (x : X) → map f ws ≢ [] → x ≡ get_or ws 0 x → ys ≡ drop 1 ws
    → map f ws ≡ f x ∷ map f ys
first_word f [] ys x some is rest = absurd (some refl)
first_word f (w ∷ ws) ys x some is rest = ap (λ y. f y ∷ map f ws) (sym is) ∙ ap (λ y. f x ∷ map f y) (sym rest)

pub empty_stanza : (s : StanzaValue) (text rest tag : List ℕ) (args words : List (List ℕ)) (body : List ℕ)
    → s ≡ record { tag = tag; args = args; body = body }
    → body ≡ [] → IsString tag → AllByRecursion IsString args → text ≡ codes "-> " ++ rest → words ≡ tag ∷ args → join_with_byte 32 words ≡ rest
    → IsStanza s × (s.body ≡ []) × (first_line s ≡ text)
empty_stanza s text rest tag args words body is empty ht ha t w e =
    let z : StanzaValue = record { tag = tag; args = args; body = body } in
    let none : AreBytes body = subst AreBytes (sym empty) (All-nil (λ x. x < 2 ^ 8)) in
    let hz : IsStanza z = record { tag = ht; args = ha; body = none } in
    (subst IsStanza (sym is) hz, ap (λ x. x.body) is ∙ empty, ap first_line is ∙ first_line_some text rest z words t w e)

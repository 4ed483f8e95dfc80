-- The plugins and the secrets of entries.
use Rattle.std.proofs.Common.{◌≡◌, ◌∙◌, ◌⊎◌, inl, inr, refl, subst, ℕ, ◌+◌, ◌<◌, ◌++◌, ap, append_assoc, append-nil, true, false, List, [], ◌∷◌, sym, arith, length, take, drop, get_or, map}
use Rattle.std.specs.List.{AllByRecursion}
use Rattle.std.proofs.lemmas.List.{map-append, take_more, take-append-drop}
use Rattle.std.specs.Cmp.Lexicographic.{slice_cmp, nat_list_cmp_total}
use Rattle.std.specs.Ordering.{nat_cmp, is_le, is_gt, ordering_reverse}
use Rattle.std.specs.declared.cmp.Ordering.{Ordering}
use Rattle.std.specs.declared.cmp.Ordering.TheVariants.{Less, Equal, Greater}
use Rattle.std.proofs.lemmas.Cmp.{tied_itself, upto}
use Rattle.age_base64.specs.Lines.{line}
use Rattle.age_bech32.specs.Written.{bech32_text}
use Rattle.age_v1.specs.X25519.{recipient_prefix}
use Rattle.age_keys.specs.PluginKeys.{PluginKey}
use Rattle.age_identity.specs.Entries.{Entry, Native, Plugin, entry_of}
use Rattle.age_identity.specs.declared.entry.IdentityFileEntry.{IdentityFileEntry}
use Rattle.age_identity.specs.Converting.{native_secrets, plugin_names, recipients_text, IsAtMost, IsLeast}

-- ---- names of plugins

pub names-append : (before after : List Entry) → plugin_names (before ++ after) ≡ plugin_names before ++ plugin_names after
names-append [] after = refl
names-append (Native secret ∷ before) after = names-append before after
names-append (Plugin key ∷ before) after = ap (λ ns. key.name ∷ ns) (names-append before after)

pub secrets-append : (before after : List Entry) → native_secrets (before ++ after) ≡ native_secrets before ++ native_secrets after
secrets-append [] after = refl
secrets-append (Native secret ∷ before) after = ap (λ ss. secret ∷ ss) (secrets-append before after)
secrets-append (Plugin key ∷ before) after = secrets-append before after

-- the recipients before the first identity of a plugin, and those after it where there is none
pub text-append : (public_of : List ℕ → List ℕ) (before after : List Entry) → plugin_names before ≡ [] →
    recipients_text public_of (before ++ after) ≡ recipients_text public_of before ++ recipients_text public_of after
text-append public_of [] after none = refl
text-append public_of (Native secret ∷ before) after none =
    ap (λ t. line (bech32_text recipient_prefix (public_of secret)) ++ t) (text-append public_of before after none)
    ∙ sym (append_assoc (line (bech32_text recipient_prefix (public_of secret))) (recipients_text public_of before) (recipients_text public_of after))
text-append public_of (Plugin key ∷ before) after none = absurd (some_name key.name (plugin_names before) none)
  where
    some_name : (name : List ℕ) (names : List (List ℕ)) → name ∷ names ≡ [] → ⊥
    some_name name names is = let none : length (name ∷ names) ≡ 0 = ap length is in omega (arith, none)

-- ---- the order of bytes

at_most_itself : (name : List ℕ) → IsAtMost name name
at_most_itself name = ap is_le (tied_itself nat_list_cmp_total name)

reversed : (o : Ordering) → o ≡ Greater → is_le (ordering_reverse o) ≡ true
reversed Less is = let other : ⊥ = cc in absurd other
reversed Equal is = let other : ⊥ = cc in absurd other
reversed Greater is = refl

pub not_greater : (o : Ordering) → (o ≡ Greater → ⊥) → is_le o ≡ true
not_greater Less other = refl
not_greater Equal other = refl
not_greater Greater other = absurd (other refl)

-- of two names the second is no greater where the first is greater
pub greater_other : (first second : List ℕ) → slice_cmp nat_cmp first second ≡ Greater → IsAtMost second first
greater_other first second is =
    ap is_le (nat_list_cmp_total.antisymm second first) ∙ reversed (slice_cmp nat_cmp first second) is

pub itself : (name : List ℕ) → IsAtMost name name
itself name = at_most_itself name

no_gt : (o : Ordering) → is_le o ≡ true → is_gt o ≡ false
no_gt Less is = refl
no_gt Equal is = refl
no_gt Greater is = let other : ⊥ = cc in absurd other

gt_no : (o : Ordering) → is_gt o ≡ false → is_le o ≡ true
gt_no Less is = refl
gt_no Equal is = refl
gt_no Greater is = let other : ⊥ = cc in absurd other

pub at_most_trans : (a b c : List ℕ) → IsAtMost a b → IsAtMost b c → IsAtMost a c
at_most_trans a b c first second =
    gt_no (slice_cmp nat_cmp a c) (upto nat_list_cmp_total a b c (no_gt (slice_cmp nat_cmp a b) first) (no_gt (slice_cmp nat_cmp b c) second))

below_all : (r m : List ℕ) (names : List (List ℕ)) → IsAtMost r m → AllByRecursion (IsAtMost m) names → AllByRecursion (IsAtMost r) names
below_all r m [] less all = tt
below_all r m (n ∷ names) less all = (at_most_trans r m n less all.0, below_all r m names less all.1)

all_more : (r n : List ℕ) (names : List (List ℕ)) → AllByRecursion (IsAtMost r) names → IsAtMost r n → AllByRecursion (IsAtMost r) (names ++ n ∷ [])
all_more r n [] all last = (last, tt)
all_more r n (m ∷ names) all last = (all.0, all_more r n names all.1 last)

-- the least of some names and one more
pub least_one : (n : List ℕ) (names later : List (List ℕ)) → names ≡ [] → later ≡ names ++ n ∷ [] → IsLeast n later
least_one n names later none is = record {
  before = [];
  others = [];
  one = is ∙ ap (λ ns. ns ++ n ∷ []) none;
  least = subst (AllByRecursion (IsAtMost n)) (sym (is ∙ ap (λ ns. ns ++ n ∷ []) none)) (itself n, tt);
}

pub least_more : (r m n : List ℕ) (names later : List (List ℕ)) → IsLeast m names → later ≡ names ++ n ∷ [] → IsAtMost r m → IsAtMost r n
    → (r ≡ m) ⊎ (r ≡ n) → IsLeast r later
least_more r m n names later least is first second (inl same) = record {
  before = least.before;
  others = least.others ++ n ∷ [];
  one = is ∙ ap (λ ns. ns ++ n ∷ []) least.one ∙ append_assoc least.before (m ∷ least.others) (n ∷ [])
      ∙ ap (λ x. least.before ++ x ∷ (least.others ++ n ∷ [])) (sym same);
  least = subst (AllByRecursion (IsAtMost r)) (sym is) (all_more r n names (below_all r m names first least.least) second);
}
least_more r m n names later least is first second (inr same) = record {
  before = names;
  others = [];
  one = is ∙ ap (λ x. names ++ x ∷ []) (sym same);
  least = subst (AllByRecursion (IsAtMost r)) (sym is) (all_more r n names (below_all r m names first least.least) second);
}

-- ---- one entry more

module _ {S : Type 0} (entries : List (IdentityFileEntry S)) (i : ℕ) (e : IdentityFileEntry S) (within : i < length entries)
    (there : e ≡ get_or entries i e) where
  pub seen : map (λ x. entry_of x) (take (i + 1) entries) ≡ map (λ x. entry_of x) (take i entries) ++ entry_of e ∷ []
  seen = ap (map (λ x. entry_of x)) (take_more entries i e within ∙ ap (λ x. take i entries ++ x ∷ []) (sym there))
      ∙ map-append (λ x. entry_of x) (take i entries) (e ∷ [])

  all_seen : map (λ x. entry_of x) entries ≡ map (λ x. entry_of x) (take i entries) ++ (entry_of e ∷ map (λ x. entry_of x) (drop (i + 1) entries))
  all_seen =
      ap (map (λ x. entry_of x)) (sym (take-append-drop (i + 1) entries)) ∙ map-append (λ x. entry_of x) (take (i + 1) entries) (drop (i + 1) entries)
      ∙ ap (λ es. es ++ map (λ x. entry_of x) (drop (i + 1) entries)) seen
      ∙ append_assoc (map (λ x. entry_of x) (take i entries)) (entry_of e ∷ []) (map (λ x. entry_of x) (drop (i + 1) entries))

  pub plugin_first : (key : PluginKey) → entry_of e ≡ Plugin key → plugin_names (map (λ x. entry_of x) (take i entries)) ≡ [] →
      plugin_names (map (λ x. entry_of x) entries) ≡ key.name ∷ plugin_names (map (λ x. entry_of x) (drop (i + 1) entries))
  plugin_first key is none =
      ap plugin_names (all_seen ∙ ap (λ x. map (λ x. entry_of x) (take i entries) ++ (x ∷ map (λ x. entry_of x) (drop (i + 1) entries))) is)
      ∙ names-append (map (λ x. entry_of x) (take i entries)) (Plugin key ∷ map (λ x. entry_of x) (drop (i + 1) entries))
      ∙ ap (λ ns. ns ++ key.name ∷ plugin_names (map (λ x. entry_of x) (drop (i + 1) entries))) none

  -- the text ends before it
  pub plugin_text : (public_of : List ℕ → List ℕ) (key : PluginKey) → entry_of e ≡ Plugin key
      → plugin_names (map (λ x. entry_of x) (take i entries)) ≡ [] →
      recipients_text public_of (map (λ x. entry_of x) entries) ≡ recipients_text public_of (map (λ x. entry_of x) (take i entries))
  plugin_text public_of key is none =
      ap (recipients_text public_of) (all_seen
      ∙ ap (λ x. map (λ x. entry_of x) (take i entries) ++ (x ∷ map (λ x. entry_of x) (drop (i + 1) entries))) is)
      ∙ text-append public_of (map (λ x. entry_of x) (take i entries)) (Plugin key ∷ map (λ x. entry_of x) (drop (i + 1) entries)) none
      ∙ append-nil (recipients_text public_of (map (λ x. entry_of x) (take i entries)))

  -- a native one
  pub native_names : (secret : List ℕ) → entry_of e ≡ Native secret →
      plugin_names (map (λ x. entry_of x) (take (i + 1) entries)) ≡ plugin_names (map (λ x. entry_of x) (take i entries))
  native_names secret is =
      ap plugin_names (seen ∙ ap (λ x. map (λ x. entry_of x) (take i entries) ++ x ∷ []) is)
      ∙ names-append (map (λ x. entry_of x) (take i entries)) (Native secret ∷ [])
      ∙ append-nil (plugin_names (map (λ x. entry_of x) (take i entries)))

  pub native_text : (public_of : List ℕ → List ℕ) (secret : List ℕ) → entry_of e ≡ Native secret
      → plugin_names (map (λ x. entry_of x) (take i entries)) ≡ [] →
      recipients_text public_of (map (λ x. entry_of x) (take (i + 1) entries))
      ≡ recipients_text public_of (map (λ x. entry_of x) (take i entries)) ++ line (bech32_text recipient_prefix (public_of secret))
  native_text public_of secret is none =
      ap (recipients_text public_of) (seen ∙ ap (λ x. map (λ x. entry_of x) (take i entries) ++ x ∷ []) is)
      ∙ text-append public_of (map (λ x. entry_of x) (take i entries)) (Native secret ∷ []) none
      ∙ ap (λ t. recipients_text public_of (map (λ x. entry_of x) (take i entries)) ++ t)
      (append-nil (line (bech32_text recipient_prefix (public_of secret))))

pub line_same : (a b p q : List ℕ) → a ≡ b → p ≡ q → a ++ line (bech32_text recipient_prefix p) ≡ b ++ line (bech32_text recipient_prefix q)
line_same a b p q front key = ap (λ x. x ++ line (bech32_text recipient_prefix p)) front ∙ ap (λ x. b ++ line (bech32_text recipient_prefix x)) key

-- the list of the names begins with the one that was found
pub name_found : (names others : List (List ℕ)) (name found : List ℕ) → found ≡ name → names ≡ name ∷ others
    → (x : List (List ℕ)) × (names ≡ found ∷ x)
name_found names others name found same is = (others, is ∙ ap (λ n. n ∷ others) (sym same))

module _ {S : Type 0} (entries : List (IdentityFileEntry S)) (i : ℕ) (e : IdentityFileEntry S) (within : i < length entries)
    (there : e ≡ get_or entries i e) where
  -- one more, whatever it is
  pub names_seen : plugin_names (map (λ x. entry_of x) (take i entries)) ++ plugin_names (entry_of e ∷ [])
      ≡ plugin_names (map (λ x. entry_of x) (take (i + 1) entries))
  names_seen = sym (ap plugin_names (seen entries i e within there) ∙ names-append (map (λ x. entry_of x) (take i entries)) (entry_of e ∷ []))

  pub secrets_seen : native_secrets (map (λ x. entry_of x) (take i entries)) ++ native_secrets (entry_of e ∷ [])
      ≡ native_secrets (map (λ x. entry_of x) (take (i + 1) entries))
  secrets_seen = sym (ap native_secrets (seen entries i e within there) ∙ secrets-append (map (λ x. entry_of x) (take i entries)) (entry_of e ∷ []))

  pub public_seen : (public_of : List ℕ → List ℕ) (old new : List (List ℕ))
      → old ≡ map (λ x. public_of x) (native_secrets (map (λ x. entry_of x) (take i entries)))
      → new ≡ old ++ map (λ x. public_of x) (native_secrets (entry_of e ∷ []))
      → new ≡ map (λ x. public_of x) (native_secrets (map (λ x. entry_of x) (take (i + 1) entries)))
  public_seen public_of old new before more =
      more ∙ ap (λ o. o ++ map (λ x. public_of x) (native_secrets (entry_of e ∷ []))) before
      ∙ sym (map-append (λ x. public_of x) (native_secrets (map (λ x. entry_of x) (take i entries))) (native_secrets (entry_of e ∷ [])))
      ∙ ap (map (λ x. public_of x)) secrets_seen

-- a plugin's name is one name more
pub one_name : (names : List (List ℕ)) (found : List ℕ) (x : Entry) (key : PluginKey) → x ≡ Plugin key → found ≡ key.name
    → names ++ plugin_names (x ∷ []) ≡ names ++ found ∷ []
one_name names found x key is same = ap (λ y. names ++ plugin_names (y ∷ [])) is ∙ ap (λ n. names ++ n ∷ []) (sym same)

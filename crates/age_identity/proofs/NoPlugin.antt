-- A text that is refused as an identity of a plugin is none.
use Rattle.std.proofs.Common.{◌≡◌, ◌≢◌, ◌∙◌, inl, inr, refl, subst, ℕ, suc, zero, ◌++◌, ap, append_assoc, append-nil, replicate, true, false, List, [], ◌∷◌, sym}
use Rattle.std.specs.Prelude.{codes}
use Rattle.std.specs.Str.{bytes_eq}
use Rattle.std.proofs.lemmas.List.{append_cancel_left, append_cancel_right, same_from_push}
use Rattle.age_bech32.specs.Bech32.{IsBech32}
use Rattle.age_bech32.proofs.Readings.{reading}
use Rattle.age_keys.specs.PluginKeys.{PluginKey, is_name, identity_front, IsWithoutHyphens, IsPluginIdentity, RefusesIdentity}

last_hyphen : (n : ℕ) → replicate {A = ℕ} (suc n) 45 ≡ replicate {A = ℕ} n 45 ++ 45 ∷ []
last_hyphen zero = refl
last_hyphen (suc n) = ap (λ xs. 45 ∷ xs) (last_hyphen n)

-- hyphens at the end are taken off in one way
same_front : (m n : ℕ) (front other : List ℕ) → front ++ replicate m 45 ≡ other ++ replicate n 45
    → ((before : List ℕ) → front ≢ before ++ 45 ∷ []) → ((before : List ℕ) → other ≢ before ++ 45 ∷ []) → front ≡ other
same_front zero zero front other same no_more none = sym (append-nil front) ∙ same ∙ append-nil other
same_front zero (suc n) front other same no_more none =
    absurd (no_more (other ++ replicate n 45)
    (sym (append-nil front) ∙ same ∙ ap (λ xs. other ++ xs) (last_hyphen n) ∙ sym (append_assoc other (replicate n 45) (45 ∷ []))))
same_front (suc m) zero front other same no_more none =
    absurd (none (front ++ replicate m 45) (sym (append-nil other) ∙ sym same ∙ ap (λ xs. front ++ xs) (last_hyphen m)
    ∙ sym (append_assoc front (replicate m 45) (45 ∷ []))))
same_front (suc m) (suc n) front other same no_more none =
    let further : (front ++ replicate m 45) ++ 45 ∷ [] ≡ (other ++ replicate n 45) ++ 45 ∷ [] =
    append_assoc front (replicate m 45) (45 ∷ []) ∙ ap (λ xs. front ++ xs) (sym (last_hyphen m)) ∙ same
    ∙ ap (λ xs. other ++ xs) (last_hyphen n) ∙ sym (append_assoc other (replicate n 45) (45 ∷ [])) in
    same_front m n front other (same_from_push (front ++ replicate m 45) (other ++ replicate n 45) 45 45 further).0 no_more none

same_trimmed : (bytes front other : List ℕ) → IsWithoutHyphens bytes front → IsWithoutHyphens bytes other → front ≡ other
same_trimmed bytes front other a b = same_front a.count b.count front other (sym a.all ∙ b.all) a.last b.last

same_between : (before other : List ℕ) → identity_front ++ before ++ 45 ∷ [] ≡ identity_front ++ other ++ 45 ∷ [] → before ≡ other
same_between before other same =
    append_cancel_left identity_front before other (append_cancel_right (identity_front ++ before) (identity_front ++ other) (45 ∷ []) same)

true-false : true ≡ false → ⊥
true-false is = cc

-- a message that was compared is another
pub other_message : (message : List ℕ) → false ≡ bytes_eq message (codes "out of memory") → message ≢ codes "out of memory"
other_message message differs same = true-false (sym (differs ∙ ap (λ m. bytes_eq m (codes "out of memory")) same))

pub no_plugin : (text message : List ℕ) → RefusesIdentity text message → message ≢ codes "out of memory"
    → (key : PluginKey) → key.text ≡ text → IsPluginIdentity key → ⊥
no_plugin text message (inl none) other key is of =
    none.0 (identity_front ++ of.before ++ 45 ∷ []) of.bytes (subst (λ t. IsBech32 t (identity_front ++ of.before ++ 45 ∷ []) of.bytes) is of.reads)
no_plugin text message (inr (inl front)) other key is of =
    let (prefix, bytes, reads, no_front, message_is) = front in
    no_front of.before (reading text prefix (identity_front ++ of.before ++ 45 ∷ []) bytes of.bytes reads
    (subst (λ t. IsBech32 t (identity_front ++ of.before ++ 45 ∷ []) of.bytes) is of.reads)).0
no_plugin text message (inr (inr (inl named))) other key is of =
    let (before, front, bytes, reads, trimmed, no_name, message_is) = named in
    let same = same_between before of.before
    (reading text (identity_front ++ before ++ 45 ∷ []) (identity_front ++ of.before ++ 45 ∷ []) bytes of.bytes reads
    (subst (λ t. IsBech32 t (identity_front ++ of.before ++ 45 ∷ []) of.bytes) is of.reads)).0 in
    let one = same_trimmed of.before front of.front (subst (λ b. IsWithoutHyphens b front) same trimmed) of.trimmed in
    true-false (sym of.named ∙ ap is_name (sym one) ∙ no_name)
no_plugin text message (inr (inr (inr memory))) other key is of =
    let (wanted, same, wanted_of, message_is) = memory in
    other message_is

-- The text of a header, piece by piece.
use Rattle.std.proofs.Common.{◌≡◌, ℕ, ◌+◌, ◌<◌, List, [], ◌∷◌, ◌++◌, length, take, get_or, ap, sym, append_assoc, subst, ◌∙◌}
use Rattle.std.proofs.lemmas.List.{take_more, flat_map_more}
use Rattle.std.specs.Prelude.{codes}
use Rattle.std.specs.List.{AllByRecursion, flat_map}
use Rattle.age_base64.specs.Lines.{line}
use Rattle.age_base64.specs.Base64.{columns}
use Rattle.age_v1.specs.Stanza.{StanzaValue, IsStanza, stanza_text}
use Rattle.age_v1.specs.Header.{version_line, mac_line, covered_text, header_text}

pushed_all : (P : StanzaValue → Type 0) (xs : List StanzaValue) (x : StanzaValue) → AllByRecursion P xs → P x → AllByRecursion P (xs ++ x ∷ [])
pushed_all P [] x each here = (here, tt)
pushed_all P (y ∷ ys) x each here = (each.0, pushed_all P ys x each.1 here)

one_more : (stanzas : List StanzaValue) (i : ℕ) (s : StanzaValue) → i < length stanzas → s ≡ get_or stanzas i s
    → take (i + 1) stanzas ≡ take i stanzas ++ s ∷ []
one_more stanzas i s h e = take_more stanzas i s h ∙ ap (λ x. take i stanzas ++ x ∷ []) (sym e)

-- one stanza more
pub each_more : (stanzas : List StanzaValue) (i : ℕ) (s : StanzaValue) → i < length stanzas → s ≡ get_or stanzas i s
    → IsStanza s → AllByRecursion IsStanza (take i stanzas) → AllByRecursion IsStanza (take (i + 1) stanzas)
each_more stanzas i s h e is each =
    subst (λ xs. AllByRecursion IsStanza xs) (sym (one_more stanzas i s h e)) (pushed_all IsStanza (take i stanzas) s each is)

-- and its text
pub front_more : (stanzas : List StanzaValue) (i : ℕ) (s : StanzaValue) → i < length stanzas → s ≡ get_or stanzas i s
    → (line version_line ++ flat_map stanza_text (take i stanzas)) ++ stanza_text s ≡ line version_line ++ flat_map stanza_text (take (i + 1) stanzas)
front_more stanzas i s h e =
    flat_map_more stanza_text (line version_line) (take i stanzas) s
    ∙ ap (λ xs. line version_line ++ flat_map stanza_text xs) (sym (one_more stanzas i s h e))

-- all stanzas, and the hyphens
pub front_ends : (stanzas : List StanzaValue) → (line version_line ++ flat_map stanza_text stanzas) ++ codes "---" ≡ covered_text stanzas
unfolding covered_text
front_ends stanzas = append_assoc (line version_line) (flat_map stanza_text stanzas) (codes "---")

-- the covered front, and the rest of the last line
pub whole_text : (stanzas : List StanzaValue) (mac : List ℕ) → covered_text stanzas ++ 32 ∷ line (columns mac) ≡ header_text stanzas mac
unfolding covered_text header_text mac_line
whole_text stanzas mac = simp append_assoc

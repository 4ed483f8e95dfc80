-- What the MAC covers.
use Rattle.std.proofs.Common.{◌≡◌, ℕ, ◌+◌, ◌-◌, List, [], ◌∷◌, ◌++◌, length, take, refl, ap, arith, append_assoc, ◌∙◌, length-append, Bool}
use Rattle.std.proofs.lemmas.List.{take_at}
use Rattle.std.specs.Prelude.{codes}
use Rattle.std.specs.List.{flat_map}
use Rattle.age_base64.specs.Lines.{line}
use Rattle.age_base64.specs.Base64.{columns}
use Rattle.age_v1.specs.Stanza.{StanzaValue, stanza_text}
use Rattle.age_v1.specs.HeaderTexts.{IsHeaderText, covered}
use Rattle.age_v1.specs.Header.{mac_line, version_line, covered_text, header_text}
use Rattle.age_base64.proofs.Columns.{length-columns}

covered_of : (t middle m : List ℕ) → t ≡ line version_line ++ (middle ++ line (mac_line m)) → length m ≡ 32
    → covered t ≡ line version_line ++ (middle ++ codes "---")
unfolding mac_line
covered_of t middle m spelled len =
    let front : List ℕ = line version_line ++ (middle ++ codes "---") in
    let back : List ℕ = 32 ∷ (columns m ++ 10 ∷ []) in
    let whole : t ≡ front ++ back = spelled ∙ simp append_assoc in
    let size : length back ≡ 45 = omega (arith, length-append (columns m) (10 ∷ []), length-columns m, len) in
    let all : length t ≡ length front + length back = ap length whole ∙ length-append front back in
    let place : length front ≡ length t - 45 = omega (arith, all, size) in
    ap (take (length t - 45)) whole ∙ take_at front back (length t - 45) place

-- the covered front ends with the three hyphens
pub covered_is : (legacy : Bool) (t : List ℕ) (ss : List StanzaValue) (m : List ℕ) (h : IsHeaderText legacy t ss m)
    → covered t ≡ line version_line ++ (h.middle ++ codes "---")
covered_is legacy t ss m h = covered_of t h.middle m h.spelled h.is_mac.len

-- and so does that of the canonical text
pub covered_canonical : (ss : List StanzaValue) (m : List ℕ) → length m ≡ 32 → covered (header_text ss m) ≡ covered_text ss
unfolding header_text covered_text
covered_canonical ss m len = covered_of (line version_line ++ (flat_map stanza_text ss ++ line (mac_line m))) (flat_map stanza_text ss) m refl len

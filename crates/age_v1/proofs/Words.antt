-- Words of a line: where they end.
use Rattle.std.proofs.Common.{◌≡◌, ℕ, ◌<◌, List, [], ◌∷◌, ◌++◌, refl, sym, arith, subst}
use Rattle.std.specs.List.{AllByRecursion, join_with_byte}
use Rattle.age_base64.specs.Lines.{Lacks}
use Rattle.age_base64.proofs.Lines.{split_at, Lacks-append, Lacks_right}
use Rattle.age_v1.specs.Stanza.{IsGraphic, IsString}

-- a string holds no byte below 33
pub Lacks_string : (c : ℕ) → c < 33 → (s : List ℕ) → AllByRecursion IsGraphic s → Lacks c s
Lacks_string c low [] h = tt
Lacks_string c low (d ∷ s) h = (λ e. omega arith, Lacks_string c low s h.1)

pub Lacks_words : (c : ℕ) → c < 32 → (ws : List (List ℕ)) → AllByRecursion IsString ws → Lacks c (join_with_byte 32 ws)
Lacks_words c low [] h = tt
Lacks_words c low (w ∷ []) h = Lacks_string c (omega arith) w h.0.1
Lacks_words c low (w ∷ v ∷ ws) h =
    Lacks-append c w (32 ∷ join_with_byte 32 (v ∷ ws)) (Lacks_string c (omega arith) w h.0.1)
    (λ e. omega arith, Lacks_words c low (v ∷ ws) h.1)

-- the words are told by their line
pub same_words : (v w : List ℕ) (vs ws : List (List ℕ)) → AllByRecursion IsString (v ∷ vs) → AllByRecursion IsString (w ∷ ws)
    → join_with_byte 32 (v ∷ vs) ≡ join_with_byte 32 (w ∷ ws) → (v ≡ w) × (vs ≡ ws)
same_words v w [] [] hv hw e = (e, refl)
same_words v w [] (x ∷ ws) hv hw e =
    let lacks : Lacks 32 (w ++ 32 ∷ join_with_byte 32 (x ∷ ws)) = subst (Lacks 32) e (Lacks_string 32 (omega arith) v hv.0.1) in
    absurd ((Lacks_right 32 w (32 ∷ join_with_byte 32 (x ∷ ws)) lacks).0 refl)
same_words v w (x ∷ vs) [] hv hw e =
    let lacks : Lacks 32 (v ++ 32 ∷ join_with_byte 32 (x ∷ vs)) = subst (Lacks 32) (sym e) (Lacks_string 32 (omega arith) w hw.0.1) in
    absurd ((Lacks_right 32 v (32 ∷ join_with_byte 32 (x ∷ vs)) lacks).0 refl)
same_words v w (x ∷ vs) (y ∷ ws) hv hw e =
    let r = split_at 32 v w (join_with_byte 32 (x ∷ vs)) (join_with_byte 32 (y ∷ ws)) (Lacks_string 32 (omega arith) v hv.0.1)
    (Lacks_string 32 (omega arith) w hw.0.1) e in
    let deep : (x ≡ y) × (vs ≡ ws) = same_words x y vs ws hv.1 hw.1 r.1 in
    (r.0, cc)

-- Columns in pieces of 64, each of which stands for 48 bytes.
use Rattle.std.proofs.Common.{◌≡◌, ◌≤◌, ◌<◌, ◌%◌, ◌^◌, ℕ, List, ◌++◌, length, take, drop, Result, Ok, Err, ap, sym, ◌∙◌, arith}
use Rattle.std.proofs.lemmas.List.{length-take-le, take-append-drop}
use Rattle.std.proofs.lemmas.List.Elements.{All-append, All-take, All-drop}
use Rattle.std.proofs.Math.Seq.{take-append_seam, drop-append_seam}
use Rattle.base64.specs.declared.engine.general_purpose.GeneralPurpose.{GeneralPurpose}
use Rattle.base64.specs.declared.decode.DecodeError.{DecodeError}
use Rattle.base64.specs.GeneralPurpose.{decode_of, IsBytes}
use Rattle.base64.proofs.EngineFacts.{decode_of_iff}
use Rattle.age_error.specs.Bytes.{AreBytes}
use Rattle.age_base64.specs.Base64.{columns, AreColumns}
use Rattle.age_base64.specs.Engine.{IsHeaderEngine}
use Rattle.age_base64.proofs.Columns.{bytes-by_index, columns-append, length-columns}

pub decoded-columns : (e : GeneralPurpose) (text bytes : List ℕ) → IsHeaderEngine e → IsBytes text → AreBytes bytes → decode_of e text ≡ Ok bytes
    → AreColumns text
decoded-columns e text bytes is texts are ok =
    (bytes, are, sym (is.0 bytes) ∙ sym ((decode_of_iff e text bytes is.1 texts (bytes-by_index bytes are)).0 ok))

pub refused-columns : (e : GeneralPurpose) (text : List ℕ) (error : DecodeError) → IsHeaderEngine e → IsBytes text → decode_of e text ≡ Err error
    → AreColumns text → ⊥
refused-columns e text error is texts err (bytes, are, same) =
    let ok = (decode_of_iff e text bytes is.1 texts (bytes-by_index bytes are)).1 (sym same ∙ sym (is.0 bytes)) in
    let bad : Path (Result _ _) (Ok bytes) (Err error) = sym ok ∙ err in
    cc

-- the first piece stands for itself: with it the rest is columns, and without it none is
pub columns-joined : (text : List ℕ) → 64 ≤ length text → AreColumns (take 64 text) → AreColumns (drop 64 text) → AreColumns text
columns-joined text long (a, a_are, a_is) (b, b_are, b_is) =
    let wide : length (columns a) ≡ 64 = ap length a_is ∙ length-take-le 64 text long in
    let whole : length a % 3 ≡ 0 = omega (arith, wide, length-columns a) in (
      a ++ b,
      All-append (λ x. x < 2 ^ 8) a b a_are b_are,
      columns-append a b whole ∙ ap (λ x. x ++ columns b) a_is
          ∙ ap (λ x. take 64 text ++ x) b_is ∙ take-append-drop 64 text,
    )

pub columns-parted : (text : List ℕ) → 64 ≤ length text → AreColumns text → AreColumns (take 64 text) × AreColumns (drop 64 text)
columns-parted text long (bytes, are, is) =
    let size : length (columns bytes) ≡ length text = ap length is in
    let enough : 48 ≤ length bytes = omega (arith, long, size, length-columns bytes) in
    let front = take 48 bytes in
    let back = drop 48 bytes in
    let full : length front ≡ 48 = length-take-le 48 bytes enough in
    let wide : length (columns front) ≡ 64 = omega (arith, full, length-columns front) in
    let same : columns front ++ columns back ≡ text =
    sym (columns-append front back (omega (arith, full))) ∙ ap columns (take-append-drop 48 bytes) ∙ is in (
      (
        front,
        All-take (λ x. x < 2 ^ 8) 48 bytes are,
        sym (take-append_seam (columns front) (columns back))
            ∙ ap (λ n. take n (columns front ++ columns back)) wide ∙ ap (take 64) same,
      ),
      (
        back,
        All-drop (λ x. x < 2 ^ 8) 48 bytes are,
        sym (drop-append_seam (columns front) (columns back))
            ∙ ap (λ n. drop n (columns front ++ columns back)) wide ∙ ap (drop 64) same,
      ),
    )

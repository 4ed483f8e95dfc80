-- What a writer of a payload or of a bare file has begun.
use Rattle.std.specs.Prelude.{take}
use Rattle.std.proofs.Common.{◌∙◌, ◌++◌, ℕ, List, ap, append_assoc, subst, sym}
use Rattle.age.specs.Copying.{AppendsFront}
use Rattle.age.specs.CopyingLemmas.{front-later, front-more, front-take}
use Rattle.age.specs.Encrypting.{Prepared}
use Rattle.age.specs.File.{file_front, file_text}
use Rattle.age.specs.Payload.{Seal, payload, payload_key}
use Rattle.age.specs.StreamWriting.{Appended, SendsFrontOfPayload, WasMade, inner_of}
use Rattle.age.specs.StreamWritingLemmas.{Appended-both}
use Rattle.age.specs.Types.{StreamWriter}
use Rattle.age_claims.specs.Claims.{HasBegun}

module _ {W : Type 0} (seal_of : Seal) (appended : W → List ℕ → W → Type 0)
    (joins : (a b c : W) (x y : List ℕ) → appended a x b → appended b y c → appended a (x ++ y) c) where
  -- what was taken of the bytes goes on with the rest of them
  pub has-begun : {S : Type 0} (before after : StreamWriter S W) (bytes : List ℕ)
      → SendsFrontOfPayload {S = S} seal_of appended (Appended seal_of appended)
      → AppendsFront (Appended seal_of appended) bytes before after → HasBegun {S = S} seal_of appended (Appended seal_of appended) before bytes after
  has-begun before after bytes law f = λ start key plain first made took.
      subst (λ (l : List ℕ). AppendsFront appended (payload seal_of key l) first (inner_of after))
      (append_assoc plain f.front f.after ∙ ap (λ (l : List ℕ). plain ++ l) (sym f.joined))
      (law start after key (plain ++ f.front) f.after first made (Appended-both seal_of appended joins start before after plain f.front took f.out))

  -- and where the writer took nothing before
  pub sent-begun : {S : Type 0} (start after : StreamWriter S W) (key bytes : List ℕ) (first : W)
      → SendsFrontOfPayload {S = S} seal_of appended (Appended seal_of appended) → WasMade key first start
      → AppendsFront (Appended seal_of appended) bytes start after → AppendsFront appended (payload seal_of key bytes) first (inner_of after)
  sent-begun start after key bytes first law made f =
      subst (λ (l : List ℕ). AppendsFront appended (payload seal_of key l) first (inner_of after)) (sym f.joined)
      (law start after key f.front f.after first made f.out)

  module _ (file : Prepared) (plain : List ℕ) (a b : W) where
    -- a beginning of the header and the nonce is one of the file
    pub front-begun : (n : ℕ) → appended a (take n (file_front file.file_key file.stanzas file.nonce)) b
        → AppendsFront appended (file_text seal_of file.file_key file.stanzas file.nonce plain) a b
    unfolding file_text
    front-begun n out =
        front-more appended (file_front file.file_key file.stanzas file.nonce) (payload seal_of (payload_key file.file_key file.nonce) plain) a b
        (front-take appended n (file_front file.file_key file.stanzas file.nonce) a b out)

    module _ (c : W) (front : appended a (file_front file.file_key file.stanzas file.nonce) b) where
      -- after them a beginning of the payload makes one of the file
      pub begun-file : AppendsFront appended (payload seal_of (payload_key file.file_key file.nonce) plain) b c
          → AppendsFront appended (file_text seal_of file.file_key file.stanzas file.nonce plain) a c
      unfolding file_text
      begun-file more =
          front-later appended joins (file_front file.file_key file.stanzas file.nonce) (payload seal_of (payload_key file.file_key file.nonce) plain)
          a b c front more

      -- and all of it the whole
      pub whole-file : appended b (payload seal_of (payload_key file.file_key file.nonce) plain) c
          → appended a (file_text seal_of file.file_key file.stanzas file.nonce plain) c
      unfolding file_text
      whole-file rest =
          joins a b c (file_front file.file_key file.stanzas file.nonce) (payload seal_of (payload_key file.file_key file.nonce) plain) front rest

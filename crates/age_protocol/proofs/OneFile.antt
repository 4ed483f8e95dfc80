-- A file tells its stanzas, and under a file key its plaintext.
use Rattle.std.proofs.Common.{◌≡◌, ◌∙◌, sym, ap, ℕ, List, ◌++◌, take, drop, take_at, drop_at}
use Rattle.std.proofs.lemmas.List.{append_cancel_left}
use Rattle.age_error.specs.Bytes.{AreBytesOf}
use Rattle.age_v1.specs.HeaderTexts.{canonical}
use Rattle.age_v1.specs.Stanza.{StanzaValue}
use Rattle.age_v1.specs.Header.{covered_text, header_text}
use Rattle.age_v1.specs.HeaderMac.{header_mac}
use Rattle.age_v1.specs.HeaderVerdict.{Header, IsVerdict}
use Rattle.age_suite.specs.Mac.{hkdf_of}
use Rattle.age_v1.specs.Payload.{Seal, payload, payload_key}
use Rattle.age_v1.specs.PayloadLaws.{OnePlaintext}
use Rattle.age_v1.specs.File.{IsFileOf}
use Rattle.age_protocol.specs.Laws.{OneHeader, OnePlain}
use Rattle.age_protocol.proofs.Accepted.{ReadsAlone, HasOneVerdict, begins, begins_as, verdict_of}

module _ (alone : ReadsAlone) (one : HasOneVerdict) (seal_of : Seal) where
  verdict : (k : List ℕ) (s : List StanzaValue) (p bytes : List ℕ) → IsFileOf seal_of k s p bytes
      → IsVerdict canonical bytes (header_text s (header_mac k (covered_text s))) (Header s (header_mac k (covered_text s)))
  verdict k s p bytes f =
      let begun = begins seal_of k s p bytes f in
      verdict_of alone one canonical _ s _ f.nonce _ bytes (begins_as s _ f.nonce _ bytes begun)

  same_header : (k l : List ℕ) (s t : List StanzaValue) (p q bytes : List ℕ) → IsFileOf seal_of k s p bytes → IsFileOf seal_of l t q bytes
      → (header_text s (header_mac k (covered_text s)) ≡ header_text t (header_mac l (covered_text t))) × (s ≡ t)
  same_header k l s t p q bytes f g =
      let same = one canonical bytes (header_text s (header_mac k (covered_text s))) (header_text t (header_mac l (covered_text t)))
      (Header s (header_mac k (covered_text s))) (Header t (header_mac l (covered_text t))) (verdict k s p bytes f) (verdict l t q bytes g) in
      let says = same.1 in
      (same.0, Prim.cc)

  pub one_header : OneHeader seal_of
  one_header k l s t p q bytes f g = (same_header k l s t p q bytes f g).1

  -- under one file key they have the same payload
  pub same_payload : (k : List ℕ) (s t : List StanzaValue) (p q bytes : List ℕ) (f : IsFileOf seal_of k s p bytes) → IsFileOf seal_of k t q bytes
      → payload seal_of (payload_key k f.nonce) p ≡ payload seal_of (payload_key k f.nonce) q
  same_payload k s t p q bytes f g =
      let sealed = payload seal_of (payload_key k f.nonce) p in
      let other = payload seal_of (payload_key k g.nonce) q in
      let header = header_text s (header_mac k (covered_text s)) in
      let front : header ≡ header_text t (header_mac k (covered_text t)) = (same_header k k s t p q bytes f g).0 in
      let all : header ++ (f.nonce ++ sealed) ≡ header ++ (g.nonce ++ other) =
      sym (begins seal_of k s p bytes f).whole ∙ (begins seal_of k t q bytes g).whole ∙ ap (λ h. h ++ (g.nonce ++ other)) (sym front) in
      let rest : f.nonce ++ sealed ≡ g.nonce ++ other = append_cancel_left header (f.nonce ++ sealed) (g.nonce ++ other) all in
      let n : f.nonce ≡ g.nonce = sym (take_at f.nonce sealed 16 f.sixteen.len) ∙ ap (λ l. take 16 l) rest ∙ take_at g.nonce other 16 g.sixteen.len in
      let same : sealed ≡ other = sym (drop_at f.nonce sealed 16 f.sixteen.len) ∙ ap (λ l. drop 16 l) rest ∙ drop_at g.nonce other 16 g.sixteen.len in
      same ∙ ap (λ m. payload seal_of (payload_key k m) q) (sym n)

  pub one_plain : ((salt info input : List ℕ) → AreBytesOf 32 (hkdf_of salt info input)) → OnePlaintext seal_of → OnePlain seal_of
  unfolding payload_key
  one_plain key_bytes law k s t p q bytes b d f g = law (payload_key k f.nonce) p q (key_bytes _ _ _) b d (same_payload k s t p q bytes f g)

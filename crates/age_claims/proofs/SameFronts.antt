-- Bytes that begin as a file, and are a file: both tell the same header and nonce.
use Rattle.std.proofs.Common.{◌≡◌, ◌∙◌, sym, ap, ℕ, List, ◌++◌, take, drop, take_at, drop_at, append_assoc}
use Rattle.std.proofs.lemmas.List.{append_cancel_left}
use Rattle.age.specs.Header.{covered_text, header_text}
use Rattle.age.specs.HeaderMac.{header_mac}
use Rattle.age.specs.HeaderTexts.{canonical}
use Rattle.age.specs.HeaderVerdict.{Header}
use Rattle.age.specs.Stanza.{StanzaValue}
use Rattle.age.specs.Payload.{Seal, payload, payload_key}
use Rattle.age.specs.File.{BeginsAsFile, IsFileOf, file_front}
use Rattle.age.proofs.Accepted.{ReadsAlone, HasOneVerdict, begins, begins_as, verdict_of}

same_stanzas : (s t : List StanzaValue) (m n : List ℕ) → Header s m ≡ Header t n → s ≡ t
same_stanzas s t m n is = cc

-- they have the same stanzas and the same nonce, and what follows is the file's payload
pub record IsSameFront (seal_of : Seal) (key : List ℕ) (stanzas others : List StanzaValue) (nonce other more given : List ℕ) : Type 0 where
  pub stanzas_are : stanzas ≡ others
  pub nonce_is : nonce ≡ other
  pub rest_is : more ≡ payload seal_of (payload_key key other) given

pub same_front : ReadsAlone → HasOneVerdict
    → (seal_of : Seal) (key : List ℕ) (stanzas others : List StanzaValue) (mac nonce more given bytes : List ℕ)
    → BeginsAsFile stanzas mac nonce more bytes → (g : IsFileOf seal_of key others given bytes)
    → IsSameFront seal_of key stanzas others nonce g.nonce more given
same_front alone one seal_of key stanzas others mac nonce more given bytes begun g =
    let its = begins seal_of key others given bytes g in
    let other_mac = header_mac key (covered_text others) in
    let header = header_text stanzas mac in
    let other_header = header_text others other_mac in
    let sealed = payload seal_of (payload_key key g.nonce) given in
    let both = one canonical bytes header other_header (Header stanzas mac) (Header others other_mac)
    (verdict_of alone one canonical header stanzas mac nonce more bytes (begins_as stanzas mac nonce more bytes begun))
    (verdict_of alone one canonical other_header others other_mac g.nonce sealed bytes (begins_as others other_mac g.nonce sealed bytes its)) in
    let all : header ++ (nonce ++ more) ≡ header ++ (g.nonce ++ sealed) = sym begun.whole ∙ its.whole
    ∙ ap (λ h. h ++ (g.nonce ++ sealed)) (sym both.0) in
    let rest : nonce ++ more ≡ g.nonce ++ sealed = append_cancel_left header (nonce ++ more) (g.nonce ++ sealed) all in
    record {
      stanzas_are = same_stanzas stanzas others mac other_mac both.1;
      nonce_is = sym (take_at nonce more 16 begun.sixteen.len) ∙ ap (λ l. take 16 l) rest ∙ take_at g.nonce sealed 16 g.sixteen.len;
      rest_is = sym (drop_at nonce more 16 begun.sixteen.len) ∙ ap (λ l. drop 16 l) rest ∙ drop_at g.nonce sealed 16 g.sixteen.len;
    }

-- bytes that go on from a file's front as they like begin as a file
pub fronted : (seal_of : Seal) (key : List ℕ) (stanzas : List StanzaValue) (plain file rest : List ℕ) (f : IsFileOf seal_of key stanzas plain file)
    → BeginsAsFile stanzas (header_mac key (covered_text stanzas)) f.nonce rest (file_front key stanzas f.nonce ++ rest)
unfolding file_front
fronted seal_of key stanzas plain file rest f = record {
  header = f.header;
  rule = f.rule;
  sixteen = f.sixteen;
  whole = append_assoc (header_text stanzas (header_mac key (covered_text stanzas))) f.nonce rest;
}

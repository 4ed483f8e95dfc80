-- A file goes on to no other file whose plaintext is as long.
use Rattle.std.proofs.Common.{◌≡◌, ◌∙◌, sym, ap, ℕ, ◌+◌, ◌*◌, List, [], ◌∷◌, ◌++◌, codes, length, append_assoc, length-append, arith}
use Rattle.age.specs.Bytes.{AreBytes, AreBytesOf}
use Rattle.age.specs.Digests.{hkdf_of-bytes}
use Rattle.age.specs.Header.{covered_text, header_text}
use Rattle.age.specs.HeaderMac.{header_mac}
use Rattle.age.specs.Stanza.{StanzaValue}
use Rattle.age.specs.Payload.{Seal, last_piece, payload, payload_key}
use Rattle.age.specs.PayloadLaws.{PayloadLength}
use Rattle.age.specs.File.{BeginsAsFile, IsFileOf}
use Rattle.age.proofs.Accepted.{ReadsAlone, HasOneVerdict, begins}
use Rattle.age_claims.proofs.SameFronts.{same_front}

-- a list to which nothing is added by its length
nothing_more : (xs more : List ℕ) → length (xs ++ more) ≡ length xs → more ≡ []
nothing_more xs [] same = Prim.cc
nothing_more xs (b ∷ more) same = absurd (omega (arith, same, length-append xs (b ∷ more)))

pub payload_key-bytes : (file_key nonce : List ℕ) → AreBytesOf 32 (payload_key file_key nonce)
unfolding payload_key
payload_key-bytes file_key nonce = hkdf_of-bytes nonce (codes "payload") file_key

module _ (alone : ReadsAlone) (one : HasOneVerdict) (seal_of : Seal) (size : PayloadLength seal_of) (key other : List ℕ)
    (stanzas others : List StanzaValue)
    (plain given file more : List ℕ) (plain_bytes : AreBytes plain) (given_bytes : AreBytes given) (f : IsFileOf seal_of key stanzas plain file)
    (longer : IsFileOf seal_of other others given (file ++ more)) where
  abbrev sealed : List ℕ
  sealed = payload seal_of (payload_key key f.nonce) plain

  begun : BeginsAsFile stanzas (header_mac key (covered_text stanzas)) f.nonce (sealed ++ more) (file ++ more)
  begun =
      let own = begins seal_of key stanzas plain file f in
      let header = header_text stanzas (header_mac key (covered_text stanzas)) in record {
        header = own.header;
        rule = own.rule;
        sixteen = own.sixteen;
        whole = ap (λ l. l ++ more) own.whole ∙ append_assoc header (f.nonce ++ sealed) more
            ∙ ap (λ l. header ++ l) (append_assoc f.nonce sealed more);
      }

  -- the payload of the longer one goes on where the other's ends, and both are as long as their plaintexts say
  pub no_longer : length plain ≡ length given → more ≡ []
  no_longer same =
      let other_sealed = payload seal_of (payload_key other longer.nonce) given in
      let goes_on : sealed ++ more ≡ other_sealed =
      (same_front alone one seal_of other stanzas others _ f.nonce (sealed ++ more) given (file ++ more) begun longer).rest_is in
      let one_size : length sealed ≡ length plain + 16 * (last_piece (length plain) + 1) =
      (size (payload_key key f.nonce) plain (payload_key-bytes key f.nonce) plain_bytes).len in
      let other_size : length other_sealed ≡ length given + 16 * (last_piece (length given) + 1) =
      (size (payload_key other longer.nonce) given (payload_key-bytes other longer.nonce) given_bytes).len in
      nothing_more sealed more (ap length goes_on ∙ other_size ∙ ap (λ n. n + 16 * (last_piece n + 1)) (sym same) ∙ sym one_size)

-- A text opens to a plaintext exactly if it is the plaintext's seal, and what a seal is.
use Rattle.std.proofs.Common.{◌≡◌, ℕ, ◌+◌, ◌-◌, ◌<◌, ◌^◌, ◌≤◌, ◌↔◌, List, ◌++◌, length, take, drop, Some, refl, sym, ◌∙◌, ap, arith, length-append}
use Rattle.std.proofs.lemmas.List.{take_at, drop_at, take-append-drop}
use Rattle.std.proofs.lemmas.List.Elements.{All-append, All-take}
use Rattle.std.proofs.lemmas.Bool.{and_parts, le-leb}
use Rattle.std.proofs.lemmas.Option.{cond_some}
use Rattle.std.proofs.lemmas.Slice.Eq.{bytes_eq-Decides}
use Rattle.std.specs.Prelude.{All}
use Rattle.chacha20.specs.Encryption.{chacha20_encrypt}
use Rattle.chacha20.proofs.Facts.{chacha20_encrypt_twice, chacha20_encrypt-bytes, length-chacha20_encrypt}
use Rattle.poly1305.proofs.Tags.{length-poly1305_mac, poly1305_mac-bytes}
use Rattle.chacha20poly1305.specs.Aead.{ciphertext_of, ends_in_tag, mac_data, one_time_key, opened, seal_of, tag_of}

-- a byte, as the laws say it
abbrev pub IsByte : ℕ → Type 0
IsByte byte = byte < 2 ^ 8

length-tag : (key nonce ciphertext : List ℕ) → length (tag_of key nonce ciphertext) ≡ 16
unfolding tag_of
length-tag key nonce ciphertext = length-poly1305_mac (one_time_key key nonce) (mac_data ciphertext)

tag-bytes : (key nonce ciphertext : List ℕ) → All IsByte (tag_of key nonce ciphertext)
unfolding tag_of
tag-bytes key nonce ciphertext = poly1305_mac-bytes (one_time_key key nonce) (mac_data ciphertext)

pub length-seal : (key nonce plain : List ℕ) → length (seal_of key nonce plain) ≡ length plain + 16
unfolding seal_of
length-seal key nonce plain = rw (length-append, length-tag, length-chacha20_encrypt) refl

pub seal-bytes : (key nonce plain : List ℕ) → All IsByte plain → All IsByte (seal_of key nonce plain)
unfolding seal_of
seal-bytes key nonce plain bytes =
    let ciphertext = chacha20_encrypt key 1 nonce plain in
    All-append IsByte ciphertext (tag_of key nonce ciphertext) (chacha20_encrypt-bytes key 1 nonce plain bytes) (tag-bytes key nonce ciphertext)

-- a seal opens to its plaintext
opened_seal : (key nonce plain : List ℕ) → opened key nonce (seal_of key nonce plain) ≡ Some plain
unfolding opened seal_of
opened_seal key nonce plain =
    let ciphertext = chacha20_encrypt key 1 nonce plain in
    let tag = tag_of key nonce ciphertext in
    let size = length (ciphertext ++ tag) in
    let long : 16 ≤ size = omega (arith, length-append ciphertext tag, length-tag key nonce ciphertext) in
    let before : length ciphertext ≡ size - 16 = omega (arith, length-append ciphertext tag, length-tag key nonce ciphertext) in
    let same = (bytes_eq-Decides tag tag).1 refl in
    rw (
      take_at ciphertext tag (size - 16) before,
      drop_at ciphertext tag (size - 16) before,
      chacha20_encrypt_twice key 1 nonce plain,
      same,
      le-leb 16 size long,
    ) refl

module _ (key nonce sealed plain : List ℕ) (opens : opened key nonce sealed ≡ Some plain) where
  -- what opens is a seal
  seal_opened : sealed ≡ seal_of key nonce plain
  unfolding opened seal_of
  seal_opened =
      let n = length sealed - 16 in
      let some = cond_some (ends_in_tag key nonce sealed) (chacha20_encrypt key 1 nonce (ciphertext_of sealed)) plain opens in
      let tagged = and_parts _ _ some.0 in
      let back = (bytes_eq-Decides (drop n sealed) (tag_of key nonce (ciphertext_of sealed))).0 tagged.1 in
      let front = sym (chacha20_encrypt_twice key 1 nonce (take n sealed)) ∙ ap (λ text. chacha20_encrypt key 1 nonce text) some.1 in
      sym (take-append-drop n sealed) ∙ ap (λ tail. take n sealed ++ tail) back
      ∙ ap (λ ciphertext. ciphertext ++ tag_of key nonce ciphertext) front

  opened-bytes : All IsByte sealed → All IsByte plain
  unfolding opened
  opened-bytes bytes =
      let some = cond_some (ends_in_tag key nonce sealed) (chacha20_encrypt key 1 nonce (ciphertext_of sealed)) plain opens in
      let front = All-take IsByte (length sealed - 16) sealed bytes in
      let whole : All IsByte (chacha20_encrypt key 1 nonce (ciphertext_of sealed)) =
      chacha20_encrypt-bytes key 1 nonce (ciphertext_of sealed) front in
      rw some.1 at whole

pub opens_exactly : (key nonce sealed plain : List ℕ) → All IsByte sealed
    → (opened key nonce sealed ≡ Some plain) ↔ (All IsByte plain × (sealed ≡ seal_of key nonce plain))
opens_exactly key nonce sealed plain bytes = (
  λ opens. (opened-bytes key nonce sealed plain opens bytes, seal_opened key nonce sealed plain opens),
  λ is. rw is.1 (opened_seal key nonce plain),
)

-- what a text opens to, by what its last 16 bytes are
module _ (key nonce sealed : List ℕ) where
  -- where the tag is right
  pub opened_verified : (ciphertext tag plain : List ℕ) → 16 ≤ length sealed
      → ciphertext ≡ take (length sealed - 16) sealed → tag ≡ drop (length sealed - 16) sealed
      → tag ≡ tag_of key nonce ciphertext → plain ≡ chacha20_encrypt key 1 nonce ciphertext → Some plain ≡ opened key nonce sealed
  unfolding opened
  opened_verified ciphertext tag plain long front back verified decrypted =
      let same = (bytes_eq-Decides tag (tag_of key nonce ciphertext)).1 verified in
      rw (decrypted, ← front, ← back, same, le-leb 16 (length sealed) long) refl

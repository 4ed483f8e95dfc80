-- A new reader of a payload.
use Rattle.std.specs.Prelude.{◌≡◌, ◌-◌, false, IsTrue}
use Rattle.std.proofs.Common.{arith, ap, ◌∙◌, refl, sym, subst, inl, inr}
use Rattle.std.proofs.lemmas.Bool.{true≢false}
use Rattle.age_error.specs.Bytes.{AreBytes}
use Rattle.age_suite.specs.Suite.{IsCipher}
use Rattle.age_suite.specs.declared.suite.Suite.{Ghosts as SuiteGhosts}
use Rattle.age_io.specs.declared.traits.Read.{Ghosts}
use Rattle.age_io.specs.Reading.{StandsIn}
use Rattle.age_io.specs.Stretch.{from_place}
use Rattle.age_v1.specs.DeliveredPayload.{payload_delivers}
use Rattle.age_v1.proofs.HonestPayloads.{delivered-payload}
use Rattle.age_v1.proofs.ReopenedPayloads.{payload-delivered}
use Rattle.age_stream.specs.declared.reader.StreamReader.{StreamReader}
use Rattle.age_stream.specs.Keeping.{OwnOrInner, Stops}
use Rattle.age_stream.specs.NewReader.{IsReaderOf}
use Rattle.age_stream.specs.Reader.{plain_rest_of}
use Rattle.age_stream.specs.Reading.{payload_from, tells_from}
use Rattle.age_stream.specs.ReadingLemmas.{and-left, and-right}
use Rattle.age_stream.proofs.Answered.{rest-bytes}
use Rattle.age_stream.proofs.Holding.{rest-open, StandsAt}

module _ {S R : Type 0} {suite : SuiteGhosts S} {read : Ghosts R} (r : StreamReader S R suite read)
    (cipher : IsCipher suite.seal_of suite.opened)
    (are : (r : R) → IsTrue (read.tells r) → AreBytes (read.content r).bytes)
    (stand : (r : R) → IsTrue (read.tells r) → IsTrue (read.steady r) → StandsIn (read.content r) (read.place r) (read.rest r)) where
  -- It stands at the front, has taken and opened nothing, and reads from this reader.
  pub is-new : (input : R) → r.source.inner ≡ input → r.source.taken ≡ 0 → StandsAt r.place 0 0 false false → r.opens ≡ 0 → IsReaderOf r.key input r
  is-new input from none there unopened =
      let key = r.key in
      let inner = r.source.inner in
      let start : read.place inner - r.source.taken ≡ read.place inner = omega (arith, none) in
      let sealed : payload_from r.source ≡ from_place (read.place inner) (read.content inner) =
      ap (λ n. from_place n (read.content inner)) start in
      let rest : plain_rest_of r ≡ payload_delivers suite.opened key 0 (read.rest inner) =
      rest-open suite.opened key r.place r.cache (read.rest inner) there.good there.held ∙ rw (there.at, there.number) refl in
      subst (λ i. IsReaderOf key i r) from (record {
        good = λ is. true≢false (sym is ∙ there.good);
        unsought = λ is. true≢false (sym is ∙ there.sought);
        opens = unopened;
        same_key = refl;
        inner = refl;
        named = λ e h. elim h [
          | inl failed ↦ absurd (true≢false (sym failed.0 ∙ there.good))
          | inr own ↦ subst (λ p. OwnOrInner read (Stops suite.seal_of key p (IsTrue (tells_from r.source))) inner e) sealed own
        ];
        sealed = sealed;
        inner_rest = refl;
        tells = refl;
        faults = refl;
        place = omega (arith, there.number, there.at);
        content = ap (payload_delivers suite.opened key 0) sealed;
        rest = rest;
        success = λ told plain is.
            let t = and-left _ _ told in
            payload-delivered suite.seal_of suite.opened cipher key r.key_bytes (read.rest inner) plain
            (rest-bytes (read.content inner) (read.rest inner) (read.place inner) (stand inner t (and-right _ _ told)) (are inner t)) (sym rest ∙ is);
        honest = λ plain bytes most apart is.
            rest ∙ ap (payload_delivers suite.opened key 0) is
            ∙ delivered-payload suite.seal_of suite.opened cipher key r.key_bytes plain bytes most apart;
      })

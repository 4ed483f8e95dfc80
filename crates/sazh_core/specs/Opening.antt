-- Which of several who decrypt opens a header.
use Rattle.std.specs.Prelude.{◌≡◌, ℕ, List, Option, None, Ok, Result, IfOk, IfErr, length, take, drop}
use Rattle.std.specs.List.{AllZip}
use Rattle.age.specs.Identities.{Decides, FirstThatAnswers, decided, UnwrapAnswer, Unwraps}
use Rattle.age.specs.DecryptErrors.{DecryptRefusal, decrypt_refusal}
use Rattle.age.specs.Header.{covered_text}
use Rattle.age.specs.HeaderV1.{HeaderValue}
use Rattle.age.specs.HeaderMac.{header_mac}
use Rattle.age.specs.Stanza.{StanzaValue}
use Rattle.age.specs.Texts.{RefusesKey}
use Rattle.age.specs.Types.{DecryptError}

-- the first i were asked and answered None; the others are unchanged
pub record WereAsked {I A : Type 0} (asks : I → Option A → I → Type 0) (before now : List I) (i : ℕ) : Type 0 where
  pub none : AllZip (λ identity then. asks identity None then) (take i before) (take i now)
  pub later : drop i now ≡ drop i before

-- what one answers to a header's stanzas
abbrev pub AnswersHeader : {I : Type 0} → (I → List StanzaValue → UnwrapAnswer → I → Type 0) → HeaderValue → I → UnwrapAnswer → I → Type 0
AnswersHeader unwraps h identity answer then = Unwraps unwraps identity h.stanzas answer then

module _ {I : Type 0} (unwraps : I → List StanzaValue → UnwrapAnswer → I → Type 0) (h : HeaderValue) (before after : List I) where
  -- this is the answer of the one of this number, counted from 0, and of nobody before it
  abbrev pub AnswersByNumber : ℕ → Result (List ℕ) DecryptRefusal → Type 0
  AnswersByNumber number answer = (first : Decides (AnswersHeader unwraps h) before answer after) × (number ≡ length first.passed)

  -- The one of this number, counted from 0, is the first that answers, with a file key under which the header's MAC is right.
  pub record OpensByNumber (number : ℕ) : Type 0 where
    pub file_key : List ℕ
    pub first : AnswersByNumber number (Ok file_key)
    pub right : h.mac ≡ header_mac file_key (covered_text h.stanzas)

  -- Nobody answers, or who answers first refuses, or the MAC is wrong under its file key.
  abbrev pub OpensByNobody : DecryptError → Type 0
  OpensByNobody e = (answer : UnwrapAnswer) × FirstThatAnswers (AnswersHeader unwraps h) before answer after
      × RefusesKey (decided answer) h (decrypt_refusal e)

  -- which of them opens the header, or why none does
  abbrev pub FindsOpener : Result ℕ DecryptError → Type 0
  FindsOpener result = IfOk result OpensByNumber × IfErr result OpensByNobody

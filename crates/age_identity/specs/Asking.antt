-- What the identities of a file answer to the stanzas of a header.
use Rattle.std.specs.Prelude.{◌≡◌, ◌⊎◌, ℕ, List, Some, Err}
use Rattle.age_error.specs.DecryptErrors.{PluginResolve, OutOfMemory}
use Rattle.age_error.specs.ResolveErrors.{MissingPlugin}
use Rattle.age_v1.specs.Stanza.{StanzaValue}
use Rattle.age_v1.specs.Identities.{UnwrapAnswer, Steady, FirstOf}
use Rattle.age_identity.specs.Entries.{Entry, Native, Plugin}
use Rattle.age_identity.specs.Converting.{program_of}

-- of what a native identity answers to one stanza
module _ (asks : List ℕ → StanzaValue → UnwrapAnswer → Type 0) where
  -- What an entry answers: a native identity goes through the stanzas one by one, and the program of a plugin isn't there. Memory for the
  -- program's name can be refused.
  abbrev pub EntryAnswers : List StanzaValue → Entry → UnwrapAnswer → Type 0
  EntryAnswers stanzas (Native secret) answer = FirstOf (Steady asks) secret stanzas answer secret
  EntryAnswers stanzas (Plugin key) answer =
      (answer ≡ Some (Err (PluginResolve (MissingPlugin (program_of key.name))))) ⊎ (answer ≡ Some (Err OutOfMemory))

  -- What the entries of a file answer: each is asked for all of the stanzas, and the first whose answer isn't None decides.
  abbrev pub EntriesAnswer : List Entry → List StanzaValue → UnwrapAnswer → Type 0
  EntriesAnswer entries stanzas answer = FirstOf (Steady EntryAnswers) stanzas entries answer stanzas

use Rattle.std.proofs.Common.{◌≡◌, ◌⊎◌, ◌∙◌, ◌++◌, ap, inl, inr, ℕ, List, [], ◌∷◌}
use Rattle.age_error.specs.DecryptErrors.{DecryptRefusal, PluginResolve, OutOfMemory}
use Rattle.age_error.specs.ResolveErrors.{MissingPlugin}
use Rattle.age_identity.specs.Entries.{Entry, entry_of}
use Rattle.age_identity.specs.Converting.{native_secrets, plugin_names, program_of, RefusesIdentities}
use Rattle.age_identity.specs.IdentityFile.{entries_of}
use Rattle.age_identity.proofs.Named.{secrets_seen}
use Rattle.age_identity.proofs.identity.IdentityFile.into_identities.Goals as goal

-- the plugin's program isn't there, or memory for its name was refused
named_or : (entries : List Entry) (name : List ℕ) (others : List (List ℕ)) → plugin_names entries ≡ name ∷ others → (refusal : DecryptRefusal)
    → (refusal ≡ PluginResolve (MissingPlugin (program_of name))) ⊎ (refusal ≡ OutOfMemory) → RefusesIdentities entries refusal
named_or entries name others is refusal (inl missing) = inl (name, others, is, missing)
named_or entries name others is refusal (inr memory) = inr memory

pub returns-in-Some-clause-refused : goal.returns-in-Some-clause-refused
returns-in-Some-clause-refused g c =
    let found = rw c.as_slice-entries.ensures.value at c.in-Some.ensures in
    named_or (entries_of c.args.self) c.in-Some.name.now found.0 found.1 _ c.missing_plugin.ensures

pub loop-entry-preserved : goal.loop-entry-preserved
loop-entry-preserved g c =
    c.in_ok-add_identity.ensures ∙ ap (λ o. o ++ native_secrets (entry_of c.entry-item.result ∷ [])) c.loop-entry.invariant
    ∙ secrets_seen _ c.loop-entry.entry-index c.entry-item.result c.loop-entry-test.true c.entry-item.is

-- What the identity of a plugin among others says.
use Rattle.std.proofs.Common.{◌≡◌, ◌∙◌, ◌≢◌, ◌++◌, ◌∷◌, [], List, ℕ, ap, arith, inl, inr, length, sym}
use Rattle.std.proofs.lemmas.List.{length-append}
use Rattle.age.specs.Converting.{RefusesRecipients, plugin_names}
use Rattle.age.specs.EncryptErrorVariants.{PluginResolve}
use Rattle.age.specs.EncryptErrors.{encrypt_refusal}
use Rattle.age.specs.Entries.{Entry}
use Rattle.age.specs.Types.{ResolveError}

not_empty : (before : List (List ℕ)) (name : List ℕ) (others : List (List ℕ)) → [] ≡ before ++ name ∷ others → ⊥
not_empty before name others is = Prim.omega (arith, ap length is, length-append before (name ∷ others))

-- where it is why there are no recipients, there is one
pub plugin_named : (entries : List Entry) (why : ResolveError) → RefusesRecipients entries (encrypt_refusal (PluginResolve why))
    → plugin_names entries ≢ []
plugin_named entries why refuses none =
    elim refuses [
      | inl (name, least, is) ↦ not_empty least.before name least.others (sym none ∙ least.one)
      | inr memory ↦ absurd (Prim.cc)
    ]

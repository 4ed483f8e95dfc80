-- An identity that belongs to the only recipient.
use Rattle.std.specs.Prelude.{◌≡◌, ℕ, Bool, List, [], ◌∷◌}
use Rattle.std.proofs.lemmas.List.Elements.{All-nil}
use Rattle.age.specs.Stanza.{StanzaValue}
use Rattle.age.specs.Recipients.{WrapAnswer}
use Rattle.age.specs.Identities.{UnwrapAnswer}
use Rattle.age.specs.Belonging.{BelongsTo}
use Rattle.age.specs.Several.{WrapsStrange, BelongsToOne}

module _ {R I : Type 0} (wraps : R → List ℕ → List ℕ → WrapAnswer → List ℕ → Type 0)
    (unwraps : I → List StanzaValue → UnwrapAnswer → I → Type 0) where
  pub belongs_alone : (is_strange : StanzaValue → Bool) (recipients : List R) (recipient : R) (identity : I) → recipients ≡ recipient ∷ []
      → BelongsTo wraps unwraps is_strange recipient identity → BelongsToOne wraps unwraps recipients identity
  belongs_alone is_strange recipients recipient identity are belongs = record {
    is_strange = is_strange;
    front = [];
    recipient = recipient;
    back = [];
    all = are;
    strange = All-nil (WrapsStrange wraps is_strange);
    belongs = belongs;
  }

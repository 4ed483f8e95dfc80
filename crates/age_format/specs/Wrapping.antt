-- What a recipient answers.
use Rattle.std.specs.Prelude.{Result}
use Rattle.std.specs.Result.{result_map_both}
use Rattle.std.specs.BTreeSet.{BTreeSet}
use Rattle.std.specs.declared.vec.Vec.{Vec}
use Rattle.std.specs.declared.string.String.{String}
use Rattle.age_error.specs.declared.encrypt.EncryptError.{EncryptError}
use Rattle.age_error.specs.Labels.{labels_of}
use Rattle.age_error.specs.EncryptErrors.{encrypt_refusal}
use Rattle.age_v1.specs.Stanza.{StanzaValue}
use Rattle.age_v1.specs.Recipients.{WrapAnswer}

-- what an answer says, apart from where it lies in memory
abbrev pub wrap_answer : {Y Z : Type 0} → Result (Vec StanzaValue Y × BTreeSet (String Z)) EncryptError → WrapAnswer
wrap_answer answer = result_map_both (λ w. record { stanzas = w.0.items; labels = labels_of w.1 }) (λ e. encrypt_refusal e) answer

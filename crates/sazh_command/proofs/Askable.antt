-- What is asked for has a recipient or an identity, and numbers below 2^64.
use Rattle.std.specs.Prelude.{ℕ, ◌<◌, ◌^◌, Bool, true, false, List, [], ◌∷◌, if◌then◌else◌, Option, Some, None, IfSome, Result, Ok, Err, IfOk, ◌||◌, ◌==◌, ◌++◌, map, not, length, is_some}
use Rattle.std.proofs.Common.{arith}
use Rattle.clap.specs.Walk.{Row}
use Rattle.sazh_command.specs.declared.names.Operand.{Operand}
use Rattle.sazh_command.specs.declared.names.Operand.TheVariants as operand
use Rattle.sazh_command.specs.declared.names.CommandName.{CommandName}
use Rattle.sazh_command.specs.declared.names.CommandName.TheVariants as name
use Rattle.sazh_command.specs.Asked.{RecipientValue, IdentityFile, Listed, UsageErrorValue, DecryptingOption, and_then}
use Rattle.sazh_command.specs.Decimal.{number_of}
use Rattle.sazh_command.specs.Found.{GivenValue, given_of}
use Rattle.sazh_command.specs.Names.{command_named}
use Rattle.sazh_command.specs.Synopsis.{recipients_of, some_recipients, identities_of, input_of, no_operand, no_input, number_or_error, limit_of, opening_of, numbered, operands_range, range_of, says_to_whom, asked, unknown_or_asked, asked_alone, asked_named, asked_by, has_words}
use Rattle.sazh_command.specs.Laws.{HasRecipient, HasIdentity, IsOpenable, IsAskable}
use Rattle.sazh_command.proofs.Numbers.{number_of-small}

-- P of what follows each value of which K holds
and_then-ok : {T U : Type 0} (K : T → Type 0) (P : U → Type 0) (next : T → Result U UsageErrorValue) (found : Result T UsageErrorValue)
    → IfOk found K → ((x : T) → K x → IfOk (next x) P) → IfOk (and_then next found) P
and_then-ok K P next (Ok x) known follows = follows x known
and_then-ok K P next (Err error) known follows = tt

-- and of what follows each value
always : {T U : Type 0} (P : U → Type 0) (next : T → Result U UsageErrorValue) (found : Result T UsageErrorValue)
    → ((x : T) → IfOk (next x) P) → IfOk (and_then next found) P
always P next (Ok x) h = h x
always P next (Err error) h = tt

-- and of one of two answers
either : {U : Type 0} (P : U → Type 0) (test : Bool) (a b : Result U UsageErrorValue) → IfOk a P → IfOk b P → IfOk (if test then a else b) P
either P true a b is_a is_b = is_a
either P false a b is_a is_b = is_b

recipients_of-ok : (recipients : List RecipientValue) (file : Option (List ℕ)) → IfOk (recipients_of recipients file) HasRecipient
recipients_of-ok [] None = tt
recipients_of-ok [] (Some file) = tt
recipients_of-ok (first ∷ more) None = tt
recipients_of-ok (first ∷ more) (Some file) = tt

identities_of-ok : (names : List (List ℕ)) (file : Option (List ℕ)) → IfOk (identities_of names file) HasIdentity
identities_of-ok [] None = tt
identities_of-ok [] (Some file) = tt
identities_of-ok (first ∷ more) None = tt
identities_of-ok (first ∷ more) (Some file) = tt

some_recipients-ok : (recipients : List RecipientValue) → IfOk (some_recipients recipients) (λ all. HasRecipient (Listed all))
some_recipients-ok [] = tt
some_recipients-ok (first ∷ more) = tt

number_or_error-ok : (operand : Operand) (word : List ℕ) (number : Option ℕ) → IfSome number (λ n. n < 2 ^ 64)
    → IfOk (number_or_error operand word number) (λ n. n < 2 ^ 64)
number_or_error-ok operand word (Some n) small = small
number_or_error-ok operand word None small = tt

abbrev IsSmall : ℕ × ℕ × List ℕ → Type 0
IsSmall range = (range.0 < 2 ^ 64) × (range.1 < 2 ^ 64)

numbered-ok : (place count input : List ℕ) → IfOk (numbered place count input) IsSmall
numbered-ok place count input =
    and_then-ok (λ n. n < 2 ^ 64) IsSmall _ (number_or_error operand.Place place (number_of place))
    (number_or_error-ok operand.Place place (number_of place) (number_of-small place)) (λ start small_start.
    and_then-ok (λ n. n < 2 ^ 64) IsSmall _ (number_or_error operand.Count count (number_of count))
    (number_or_error-ok operand.Count count (number_of count) (number_of-small count)) (λ size small_size. (small_start, small_size)))

operands_range-ok : (operands : List (List ℕ)) → IfOk (operands_range operands) IsSmall
operands_range-ok [] = tt
operands_range-ok (place ∷ []) = tt
operands_range-ok (place ∷ count ∷ []) = tt
operands_range-ok (place ∷ count ∷ input ∷ more) = always IsSmall _ (no_operand more) (λ none. numbered-ok place count input)

range_of-ok : (place count : Option (List ℕ)) (operands : List (List ℕ)) → IfOk (range_of place count operands) IsSmall
range_of-ok None None operands = operands_range-ok operands
range_of-ok (Some place) (Some count) operands = always IsSmall _ (input_of operands) (λ input. numbered-ok place count input)
range_of-ok None (Some count) operands = tt
range_of-ok (Some place) None operands = tt

limit_of-ok : (word : Option (List ℕ)) → IfOk (limit_of word) (λ n. n < 2 ^ 64)
limit_of-ok None = omega arith
limit_of-ok (Some word) = number_or_error-ok operand.HeaderLimit word (number_of word) (number_of-small word)

opening_of-ok : (files : List (List ℕ)) (file limit : Option (List ℕ)) → IfOk (opening_of files file limit) IsOpenable
opening_of-ok files file limit =
    and_then-ok HasIdentity IsOpenable _ (identities_of files file) (identities_of-ok files file) (λ identities known.
    and_then-ok (λ n. n < 2 ^ 64) IsOpenable _ (limit_of limit) (limit_of-ok limit) (λ bytes small. (known, small)))

asked-ok : (command : CommandName) (given : GivenValue) → IfOk (asked command given) IsAskable
asked-ok name.Keygen given = either IsAskable given.publish _ _ tt (always IsAskable _ (no_input given.input) (λ none. tt))
asked-ok name.Encrypt given =
    let all = given.recipients ++ map IdentityFile given.identity_files in
    and_then-ok HasRecipient IsAskable _ (recipients_of all given.passphrase_file) (recipients_of-ok all given.passphrase_file)
    (λ recipients known. known)
asked-ok name.Decrypt given =
    and_then-ok IsOpenable IsAskable _ (opening_of given.identity_files given.passphrase_file given.header_limit)
    (opening_of-ok given.identity_files given.passphrase_file given.header_limit) (λ opening known. known)
asked-ok name.Part given =
    and_then-ok IsOpenable IsAskable _ (opening_of given.identity_files given.passphrase_file given.header_limit)
    (opening_of-ok given.identity_files given.passphrase_file given.header_limit) (λ opening known.
    and_then-ok IsSmall IsAskable _ (range_of given.place given.count given.operands) (range_of-ok given.place given.count given.operands)
    (λ range small. (known, small.0, small.1)))
asked-ok name.Migrate given =
    and_then-ok IsOpenable IsAskable _ (opening_of given.identity_files given.passphrase_file given.header_limit)
    (opening_of-ok given.identity_files given.passphrase_file given.header_limit) (λ opening known. known)
asked-ok name.Rekey given =
    and_then-ok IsOpenable IsAskable _ (opening_of given.identity_files given.passphrase_file given.header_limit)
    (opening_of-ok given.identity_files given.passphrase_file given.header_limit) (λ opening known.
    and_then-ok (λ all. HasRecipient (Listed all)) IsAskable _ (some_recipients given.recipients) (some_recipients-ok given.recipients)
    (λ recipients some. (known, some)))
asked-ok name.Verify given =
    and_then-ok IsOpenable IsAskable _ (opening_of given.identity_files given.passphrase_file given.header_limit)
    (opening_of-ok given.identity_files given.passphrase_file given.header_limit) (λ opening known. known)
asked-ok name.Inspect given =
    and_then-ok (λ n. n < 2 ^ 64) IsAskable _ (limit_of given.header_limit) (limit_of-ok given.header_limit) (λ bytes small. small)

unknown_or_asked-ok : (input : Option (List ℕ)) (given : GivenValue) → IfOk (unknown_or_asked input given) IsAskable
unknown_or_asked-ok None given = asked-ok name.Encrypt given
unknown_or_asked-ok (Some word) given =
    either IsAskable (says_to_whom given) (asked name.Encrypt given) _ (asked-ok name.Encrypt given) tt

not_asked-ok : (given : GivenValue) → IfOk
    (if not (length given.identity_files == 0) then Err DecryptingOption else unknown_or_asked given.input given) IsAskable
not_asked-ok given = either IsAskable (not (length given.identity_files == 0)) _ (unknown_or_asked given.input given) tt
    (unknown_or_asked-ok given.input given)

to_encrypt-ok : (encrypting : Bool) (given : GivenValue) → IfOk (asked_alone encrypting false given) IsAskable
to_encrypt-ok true given = either IsAskable (is_some given.header_limit) _ (asked name.Encrypt given) tt (asked-ok name.Encrypt given)
to_encrypt-ok false given = either IsAskable (is_some given.header_limit) _ _ tt (not_asked-ok given)

asked_alone-ok : (encrypting decrypting : Bool) (given : GivenValue) → IfOk (asked_alone encrypting decrypting given) IsAskable
asked_alone-ok true true given = tt
asked_alone-ok false true given =
    either IsAskable (given.armored || not (length given.recipients == 0)) _ (asked name.Decrypt given) tt (asked-ok name.Decrypt given)
asked_alone-ok true false given = to_encrypt-ok true given
asked_alone-ok false false given = to_encrypt-ok false given

asked_named-ok : (word : List ℕ) (command : Option CommandName) (rows : List Row) → IfOk (asked_named word command rows) IsAskable
asked_named-ok word None rows = tt
asked_named-ok word (Some command) rows = asked-ok command (given_of rows)

-- whatever is asked for can be asked for
pub askable : (rows : List Row) (met : Option (List ℕ × List Row)) → IfOk (asked_by rows met) IsAskable
askable rows None = asked_alone-ok _ _ (given_of rows)
askable rows (Some met) = either IsAskable (has_words rows) _ (asked_named met.0 (command_named met.0) met.1) tt
    (asked_named-ok met.0 (command_named met.0) met.1)

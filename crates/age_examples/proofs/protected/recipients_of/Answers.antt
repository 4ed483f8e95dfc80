use Rattle.std.specs.Prelude.{None, Some, Ok, Err}
use Rattle.std.proofs.Common.{subst}
use Rattle.age.specs.ErrorLemmas.{of_error}
use Rattle.age.specs.EncryptedIdentities.{IsMadeOf, filename_of, state_of}
use Rattle.age_examples.proofs.ProtectedKeys.{no_front, no_passphrase, of_protected, opens_to_none}
use Rattle.age_examples.proofs.protected.recipients_of.Goals as goal

pub returns-clause-recipients : goal.returns-clause-recipients
returns-clause-recipients g c =
    λ told steady.
    let (front, opens, made) = c.in_ok-made.ensures in
    let identity = c.in-Some.identity in
    of_protected g.S.Suite g.R.Read _ g.C.Callbacks.gives_passphrase c.opened_files.ensures.entries c.args.input c.args.callbacks told steady
    (λ result. IsMadeOf result None c.args.callbacks 18 None (Ok (Some identity)))
    (filename_of identity) (state_of identity) (λ e none. none) (λ d some. some) front opens
    (subst (λ x. IsMadeOf front None c.args.callbacks 18 None (Ok x)) c.in-Some.is made)
    (state_of c.recipients.new.self) c.in_ok-recipients.ensures.opens c.in_ok-recipients.recipients.items c.in_ok-recipients.ensures.recipients

pub returns-in_err-made-clause-refused : goal.returns-in_err-made-clause-refused
returns-in_err-made-clause-refused g c =
    let (front, opens, made) = c.in_err-made.ensures in
    of_error _ _ _ c.from_residual.ensures.1
    (no_front g.R.Read _ c.in_err-made.field-0.0 (λ result. IsMadeOf result None c.args.callbacks 18 None (Err c.in_err-made.field-0.0))
    (λ other same. same) (λ d never. never) front opens made)

pub returns-in_default-clause-none : goal.returns-in_default-clause-none
returns-in_default-clause-none g c = λ told is_none.
    let (front, opens, made) = c.in_ok-made.ensures in
    no_passphrase g.R.Read _ (λ result. IsMadeOf result None c.args.callbacks 18 None (Ok None)) (λ e never. never) (λ d other. other) front opens
    (subst (λ x. IsMadeOf front None c.args.callbacks 18 None (Ok x)) c.in_default.is made) told

pub returns-in_err-recipients-clause-refused : goal.returns-in_err-recipients-clause-refused
returns-in_err-recipients-clause-refused g c =
    let (front, opens, made) = c.in_ok-made.ensures in
    let identity = c.in-Some.identity in
    of_error _ _ _ c.from_residual-in_err-recipients.ensures.1
    (opens_to_none g.S.Suite g.R.Read _ g.C.Callbacks.gives_passphrase c.args.input c.args.callbacks _
    (λ result. IsMadeOf result None c.args.callbacks 18 None (Ok (Some identity)))
    (filename_of identity) (state_of identity) (λ e none. none) (λ d some. some) front opens
    (subst (λ x. IsMadeOf front None c.args.callbacks 18 None (Ok x)) c.in-Some.is made)
    (state_of c.recipients.new.self) c.in_err-recipients.ensures.opens c.in_err-recipients.ensures.recipients)

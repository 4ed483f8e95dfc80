-- That the device failed is none of what only seeks refuse with.
use Rattle.std.proofs.Common.{◌≡◌, subst, inl, inr}
use Rattle.age_error.specs.Refusals.{IsDevice}
use Rattle.age_error.specs.declared.io.Error.{Error}
use Rattle.age_error.specs.declared.io.Error.TheVariants.{TooLong}
use Rattle.age_io.specs.Cursor.{NoDevice, OrTooLong, OrFailed}

pub too_long_no_device : NoDevice (λ e. e ≡ TooLong)
too_long_no_device e same is = subst IsDevice same is

pub or_too_long_no_device : {Below : Error → Type 0} → NoDevice Below → NoDevice (OrTooLong Below)
or_too_long_no_device below e h is = elim h [ inl same ↦ too_long_no_device e same is | inr more ↦ below e more is ]

pub or_failed_no_device : {Below : Error → Type 0} → NoDevice Below → NoDevice (OrFailed Below)
or_failed_no_device below e h is = elim h [ inl same ↦ subst IsDevice same is | inr more ↦ below e more is ]

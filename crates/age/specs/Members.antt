-- What an implementation of each trait says of its type: a record of the trait's members.
pub use Rattle.age_suite.specs.declared.suite.Suite.{Ghosts as SuiteMembers}
pub use Rattle.age_io.specs.declared.traits.Read.{Ghosts as ReadMembers}
pub use Rattle.age_io.specs.declared.traits.Write.{Ghosts as WriteMembers}
pub use Rattle.age_io.specs.declared.bufread.BufRead.{Ghosts as BufReadMembers}
pub use Rattle.age_io.specs.declared.seeking.Seek.{Ghosts as SeekMembers}
pub use Rattle.age_format.specs.declared.recipient.Recipient.{Ghosts as RecipientMembers}
pub use Rattle.age_format.specs.declared.identity.Identity.{Ghosts as IdentityMembers}
pub use Rattle.age_identity.specs.declared.callbacks.Callbacks.{Ghosts as CallbacksMembers}

-- The names of commands. A word is a list of bytes.
use Rattle.std.specs.Prelude.{ℕ, List, bytes_eq, codes, if◌then◌else◌, Option, Some, None}
use Rattle.sazh_command.specs.declared.names.CommandName.{CommandName}
use Rattle.sazh_command.specs.declared.names.CommandName.TheVariants.{Keygen, Encrypt, Decrypt, Part, Migrate, Rekey, Verify, Inspect}

-- what the word of a command names
abbrev pub command_named : List ℕ → Option CommandName
command_named word =
    if bytes_eq word (codes "keygen") then Some Keygen
    else if bytes_eq word (codes "encrypt") then Some Encrypt
    else if bytes_eq word (codes "decrypt") then Some Decrypt
    else if bytes_eq word (codes "part") then Some Part
    else if bytes_eq word (codes "migrate") then Some Migrate
    else if bytes_eq word (codes "rekey") then Some Rekey
    else if bytes_eq word (codes "verify") then Some Verify
    else if bytes_eq word (codes "inspect") then Some Inspect
    else None

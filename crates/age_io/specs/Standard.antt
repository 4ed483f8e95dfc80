-- The kind of an error of std, as this port sorts it, how its errors are counted, and what std is told of this port's.
use Rattle.std.specs.Prelude.{◌≡◌, ℕ, ◌+◌, ◌^◌, ◌&&◌, ◌⊎◌, nat_lt, if◌then◌else◌, Option, Some, Result, Ok, Err, MatchResult}
use Rattle.age_io.specs.Cursor.{sought}
use Rattle.age_error.specs.Refusals.{IsDevice, kind_of}
use Rattle.age_error.specs.declared.io.Error.{Error}
use Rattle.age_error.specs.declared.io.Error.TheVariants.{TooLong, Failed, WriteZero}
use Rattle.age_error.specs.declared.io.SeekFrom.{SeekFrom}
use Rattle.age_error.specs.declared.io.SeekFrom.TheVariants.{Start, End, Current}
use Rattle.std.specs.IoError.{error_kind}
use Rattle.std.specs.declared.io.Error.{Error as StandardError}
use Rattle.std.specs.declared.io.traits.SeekFrom.{SeekFrom as StandardPlace}
use Rattle.std.specs.declared.io.traits.SeekFrom.TheVariants.{Start as start, End as from_end, Current as current}
use Rattle.std.specs.declared.io.ErrorKind.{ErrorKind as StandardKind}
use Rattle.std.specs.declared.io.ErrorKind.TheVariants.{NotFound as not_found, PermissionDenied as permission_denied, Interrupted as interrupted, UnexpectedEof as unexpected_eof, WriteZero as write_zero, InvalidData as invalid_data, InvalidInput as invalid_input, OutOfMemory as out_of_memory, Other as other}
use Rattle.age_error.specs.declared.io.ErrorKind.{ErrorKind}
use Rattle.age_error.specs.declared.io.ErrorKind.TheVariants.{NotFound, PermissionDenied, Interrupted, UnexpectedEof, WriteZero, InvalidData, InvalidInput, OutOfMemory, Other}

-- the kind of the same name, or `Other`
abbrev pub kind_from : StandardKind → ErrorKind
kind_from not_found = NotFound
kind_from permission_denied = PermissionDenied
kind_from interrupted = Interrupted
kind_from unexpected_eof = UnexpectedEof
kind_from write_zero = WriteZero
kind_from invalid_data = InvalidData
kind_from invalid_input = InvalidInput
kind_from out_of_memory = OutOfMemory
kind_from _ = Other

-- the kind of std with the same name
abbrev pub kind_into : ErrorKind → StandardKind
kind_into NotFound = not_found
kind_into PermissionDenied = permission_denied
kind_into Interrupted = interrupted
kind_into UnexpectedEof = unexpected_eof
kind_into WriteZero = write_zero
kind_into InvalidData = invalid_data
kind_into InvalidInput = invalid_input
kind_into OutOfMemory = out_of_memory
kind_into Other = other

-- the same place of a seek
abbrev pub place_into : StandardPlace → SeekFrom
place_into (start n) = Start n
place_into (from_end d) = End d
place_into (current d) = Current d

-- An answer of this port of which this is so, told to std: the same success, or an error of the kind of its refusal.
abbrev pub Tells : {T : Type 0} → (Result T Error → Type 0) → Result T StandardError → Type 0
Tells IsSo result = MatchResult result (λ x. IsSo (Ok x)) (λ told. (e : Error) × IsSo (Err e) × (error_kind told ≡ kind_into (kind_of e)))

-- a refusal is the device's, and is one fault more
abbrev pub CountsFaults : {T : Type 0} → ℕ → ℕ → Result T Error → Type 0
CountsFaults old new result = MatchResult result (λ _. new ≡ old) (λ e. IsDevice e × (new ≡ old + 1))

-- a refusal that isn't the device's
abbrev pub IsNoDevice : Error → Type 0
IsNoDevice e = IsDevice e → ⊥

-- What calls on a device are refused with: a fault of its own, and `Failed` once its faults are used up.
abbrev pub IsReadRefusal : Error → Type 0
IsReadRefusal e = IsDevice e ⊎ (e ≡ Failed)

-- Writes besides with `WriteZero`, where it takes none of the bytes.
abbrev pub IsWriteRefusal : Error → Type 0
IsWriteRefusal e = IsDevice e ⊎ (e ≡ Failed) ⊎ (e ≡ WriteZero)

-- a fault of the device is one fault more, and nothing else counts as one
abbrev pub CountsOwnFaults : {T : Type 0} → ℕ → ℕ → Result T Error → Type 0
CountsOwnFaults old new result = MatchResult result (λ _. new ≡ old)
    (λ e. (IsDevice e → new ≡ old + 1) × (IsNoDevice e → new ≡ old))

-- what a seek answers in a content whose place and length are below 2^63; another is refused
abbrev pub sought_below : SeekFrom → ℕ → ℕ → Result ℕ Error
sought_below to place len = if nat_lt place (2 ^ 63) && nat_lt len (2 ^ 63) then sought to place len else Err TooLong

-- A seek from this place, whose answer should be `wanted`: it is, unless the device fails, and the device stands at
-- the target, or after a refusal where it stood.
abbrev pub StandsAfter : Result ℕ Error → ℕ → Option ℕ → Result ℕ Error → Type 0
StandsAfter wanted place position result = MatchResult result (λ n. (wanted ≡ Ok n) × (position ≡ Some n))
    (λ e. IsNoDevice e → (wanted ≡ Err e) × (position ≡ Some place))

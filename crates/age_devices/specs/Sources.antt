-- What a caller sees of a device that is read, and of one that is written.
use Rattle.std.specs.Prelude.{◌≡◌, ℕ, ◌-◌, ◌<◌, ◌≤◌, List, length, min, max, Result, Ok, Err, IsOk}
use denote.Ref.{Bor}
use Rattle.age_io.specs.Buffering.{held}
use Rattle.age_error.specs.declared.io.Error.{Error}
use Rattle.age_devices.specs.AtCalls.{call_of, faults_in}
use Rattle.age_devices.specs.Devices.{by_step, TakesStep, most_failures}
use Rattle.age_devices.specs.declared.script.Step.{Step}
use Rattle.age_devices.specs.declared.source.Source.{Source}

-- what it does at the call of this number from now on, from 0
abbrev pub call : Source → ℕ → Step
call s i = call_of s.calls i

-- all its bytes
abbrev pub bytes_of : Source → List ℕ
bytes_of s = s.bytes.now

-- how many of them stand before the next read
abbrev pub place_of : Source → ℕ
place_of s = s.place

-- how often it has failed
abbrev pub faults_of : Source → ℕ
faults_of s = faults_in s.calls

-- what it shows
abbrev pub shown_of : Source → List ℕ
shown_of s = held s.bytes.now s.place s.end

-- how many bytes were shown
abbrev pub length_shown : Result (Bor (List ℕ)) Error → Result ℕ Error
length_shown (Ok front) = Ok (length front.now)
length_shown (Err e) = Err e

-- What `fill_buf` does as its script says: it shows at most as many bytes, but one at least where one is left, or fails. Where the
-- device has failed as often as it may, it doesn't.
abbrev pub ShowsAsScripted : Source → Source → Result (Bor (List ℕ)) Error → Type 0
ShowsAsScripted old new result =
    (faults_of old < most_failures → TakesStep (call old) (call new) (faults_of old) (faults_of new)
    × (length_shown result ≡ by_step (call old 0) (λ most. Ok (min (max most 1) (length (bytes_of old) - place_of old)))))
    × (most_failures ≤ faults_of old → IsOk result)

-- What a caller sees of a device that is written.
use Rattle.std.specs.Prelude.{ℕ, List}
use Rattle.age_devices.specs.AtCalls.{call_of, faults_in}
use Rattle.age_devices.specs.declared.script.Step.{Step}
use Rattle.age_devices.specs.declared.sink.Sink.{Sink}

-- what it does at the call of this number from now on, from 0
abbrev pub call : Sink → ℕ → Step
call s i = call_of s.calls i

-- the bytes that were written to it
abbrev pub kept_in : Sink → List ℕ
kept_in s = s.bytes.items

-- how often it has failed
abbrev pub faults_of : Sink → ℕ
faults_of s = faults_in s.calls

-- What a caller sees of a reader or a writer of std, and of one of this port that std is given.
use Rattle.std.specs.Prelude.{ℕ}
use Rattle.age_io.specs.declared.standard.Std.{Std}
use Rattle.age_io.specs.declared.into_std.IntoStd.{IntoStd}

-- how often its device has failed
abbrev pub faults_of : {T : Type 0} → Std T → ℕ
faults_of s = s.faults

-- its device
abbrev pub inner_of : {T : Type 0} → Std T → T
inner_of s = s.inner

-- the reader or the writer of this port that std is given
abbrev pub wrapped_of : {T : Type 0} → IntoStd T → T
wrapped_of s = s.inner

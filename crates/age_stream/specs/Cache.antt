-- The chunks that a reader has opened.
use Rattle.std.specs.Prelude.{Bool, None, Option, Some, cond, false, option_map, true, ℕ, ◌&&◌, ◌==◌, ◌≡◌, ◌⊎◌}
use Rattle.age_stream.specs.declared.cache.Cache.{Cache}
use Rattle.age_stream.specs.declared.cache.Opened.{Opened}

-- it is the chunk of this number
abbrev pub has_number : ℕ → Option Opened → Bool
has_number number None = false
has_number number (Some opened) = opened.number == number

-- and it was opened as the last
abbrev pub has_last : ℕ → Option Opened → Bool
has_last number None = false
has_last number (Some opened) = (opened.number == number) && opened.last

-- one of the two is the chunk of this number, by the verdict on it
abbrev pub HasOne : Cache → ℕ → Type 0
HasOne cache number = ((cache.judged ≡ true) × (cache.first.number ≡ number)) ⊎ (has_number number cache.other ≡ true)

-- and as the last
abbrev pub HasLast : Cache → ℕ → Type 0
HasLast cache number = ((cache.judged ≡ true) × (cache.first.number ≡ number) × (cache.first.last ≡ true)) ⊎ (has_last number cache.other ≡ true)

-- the number of the chunk that was used last, where it is there
abbrev pub last_used : Cache → Option ℕ
last_used cache = cond cache.used (cond cache.judged (Some cache.first.number) None) (option_map (λ it. it.number) cache.other)

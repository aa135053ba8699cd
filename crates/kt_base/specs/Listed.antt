-- Calls that fail where their numbers are listed.
use Rattle.std.specs.Prelude.{ℕ, ◌+◌, ◌-◌, ◌^◌, ◌==◌, Bool, true, false, min, List}
use Rattle.std.specs.List.{list_any}
use Rattle.kt_base.specs.declared.memory.Fails.{Fails}

-- one more, up to the last value of a count
abbrev pub next : ℕ → ℕ
next n = min (n + 1) (2 ^ 64 - 1)

-- no call was made yet
abbrev pub no_call_yet : List ℕ → Fails
no_call_yet listed = record { listed = listed; calls = 0; faults = 0 }

-- the next call is listed
abbrev pub next_is_listed : Fails → Bool
next_is_listed fails = list_any (λ k. k == next fails.calls) fails.listed

-- faults are counted
abbrev pub faults_after : Bool → ℕ → ℕ
faults_after true faults = next faults
faults_after false faults = faults

-- one call more, which failed or not
abbrev pub after_call : Bool → Fails → Fails
after_call failed fails = record { listed = fails.listed; calls = next fails.calls; faults = faults_after failed fails.faults }

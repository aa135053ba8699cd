use Rattle.std.proofs.Common.{◌↔◌, ◌⊎◌, ◌*◌, ℕ, length}
use Rattle.kt_lookup.specs.Filter.{HasBit, SetBy}
use Rattle.kt_lookup.proofs.filters.add_keys.Given as goal

abbrev pub invariant-loop-j : goal.invariant-loop-j
invariant-loop-j l = (k : ℕ) → HasBit l.filter k ↔ (HasBit l.initial.filter k ⊎ SetBy (8 * length l.initial.filter) l.keys l.j k)

use Rattle.std.proofs.Common.{◌↔◌, ◌⊎◌, ◌*◌, ℕ, length}
use Rattle.kt_lookup.specs.Filter.{HasBit}
use Rattle.kt_lookup.proofs.BitSets.{Upto}
use Rattle.kt_lookup.proofs.filters.add_hash.Given as goal

abbrev pub invariant-loop-i : goal.invariant-loop-i
invariant-loop-i l = (j : ℕ) → HasBit l.filter j ↔ (HasBit l.initial.filter j ⊎ Upto (8 * length l.initial.filter) l.hash l.i j)

use Rattle.std.proofs.Common.{◌<◌, ◌*◌, ℕ, length}
use Rattle.kt_lookup.specs.Hash.{bit_of}
use Rattle.kt_lookup.specs.Filter.{HasBit}
use Rattle.kt_lookup.proofs.filters.has_hash.Given as goal

abbrev pub invariant-loop-i : goal.invariant-loop-i
invariant-loop-i l = (k : ℕ) → k < l.i → HasBit l.filter (bit_of (8 * length l.filter) l.hash k)

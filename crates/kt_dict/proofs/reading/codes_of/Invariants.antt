use Rattle.std.proofs.Common.{◌≡◌, ◌-◌, ◌≤◌, []}
use Rattle.kt_dict.specs.Walk.{codes_at}
use Rattle.kt_dict.proofs.reading.codes_of.Given as goal

abbrev pub invariant-loop-i : goal.invariant-loop-i
invariant-loop-i l = record {
  so_far : codes_at (l.n - l.i) l.count l.used l.codes.items l.rest ≡ codes_at l.n l.count 0 [] l.bytes;
  within : l.used ≤ l.count;
}

use Rattle.std.proofs.Common.{◌≡◌, ◌≤◌, ◌-◌, length, Some}
use Rattle.std.specs.Prelude.{◌↔◌, IsTrue, slice_get}
use Rattle.std.specs.Option.{option_map}
use Rattle.kt_tablet.specs.Bases.{RestsOn}
use Rattle.kt_tablet.proofs.reading.base_from.Given as goal

-- it is known on which insert the row rests after the changes of the key before this place, and whether there are more
abbrev pub invariant-changes : goal.invariant-changes
invariant-changes l = record {
  from : l.initial.place ≤ l.at;
  upto : l.at ≤ length l.changes;
  rests : RestsOn l.fill l.changes l.key l.t l.base l.at;
  more : IsTrue l.more ↔ (option_map (λ c. c.key) (slice_get l.changes l.at) ≡ Some l.key);
}

abbrev pub decreases-changes : goal.decreases-changes
decreases-changes l = length l.changes - l.at

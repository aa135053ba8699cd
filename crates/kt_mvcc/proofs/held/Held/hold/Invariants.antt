use Rattle.std.proofs.Common.{◌≡◌, true, Some, nat_eq, take}
use Rattle.std.specs.List.{All}
use Rattle.std.specs.HashMap.{get}
use Rattle.kt_mvcc.specs.Held.{hash_of, Keeps, StoodElsewhere}
use Rattle.kt_mvcc.proofs.held.Held.hold.Given as goal

abbrev pub invariant-keys : goal.invariant-keys
invariant-keys l = record {
  keeps : l.self.whole ≡ true → Keeps l.initial.self l.self;
  held : l.self.whole ≡ true → All (λ key. get nat_eq l.self.writers (hash_of key) ≡ Some l.who) (take l.at l.keys);
  stood : StoodElsewhere (take l.at l.keys) l.initial.self l.self;
}

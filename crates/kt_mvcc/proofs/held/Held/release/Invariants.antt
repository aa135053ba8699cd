use Rattle.std.proofs.Common.{◌≢◌, Some, nat_eq, take}
use Rattle.std.specs.List.{All}
use Rattle.std.specs.HashMap.{get}
use Rattle.kt_mvcc.specs.Held.{hash_of, KeepsOthers, Lacks, Stood}
use Rattle.kt_mvcc.proofs.held.Held.release.Given as goal

abbrev pub invariant-keys : goal.invariant-keys
invariant-keys l = record {
  keeps : KeepsOthers l.who l.initial.self l.self;
  stood : Stood l.initial.self l.self;
  gone : All (λ key. get nat_eq l.self.writers (hash_of key) ≢ Some l.who) (take l.at l.keys);
  others : Lacks l.who l.initial.self l.self;
}

use Rattle.std.proofs.Common.{◌≡◌, None, nat_eq, take}
use Rattle.std.specs.List.{All}
use Rattle.std.specs.HashMap.{get}
use Rattle.kt_mvcc.specs.Held.{hash_of}
use Rattle.kt_mvcc.proofs.held.Held.is_free.Given as goal

abbrev pub invariant-keys : goal.invariant-keys
invariant-keys l = All (λ key. get nat_eq l.self.writers (hash_of key) ≡ None) (take l.at l.keys)

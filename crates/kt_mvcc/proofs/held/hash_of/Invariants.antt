use Rattle.std.proofs.Common.{◌≡◌, take}
use Rattle.std.specs.List.{fold}
use Rattle.kt_mvcc.specs.Held.{hash_step}
use Rattle.kt_mvcc.proofs.held.hash_of.Given as goal

abbrev pub invariant-loop-byte : goal.invariant-loop-byte
invariant-loop-byte l = l.hash ≡ fold hash_step 14695981039346656037 (take l.byte-index l.key)

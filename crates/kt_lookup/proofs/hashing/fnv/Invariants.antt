use Rattle.std.proofs.Common.{◌≡◌, take, fold}
use Rattle.kt_lookup.specs.Hash.{mixed}
use Rattle.kt_lookup.proofs.hashing.fnv.Given as goal

abbrev pub invariant-loop-byte : goal.invariant-loop-byte
invariant-loop-byte l = l.hash ≡ fold mixed 14695981039346656037 (take l.byte-index l.key)

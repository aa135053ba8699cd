-- A disk in memory before its first call.
use Rattle.std.proofs.Common.{◌≡◌, []}
use Rattle.kt_disk.specs.Memory.{MemView, mem_now, mem_seen, mem_leaves}
use Rattle.kt_disk.proofs.OneCall.{untouched}
use Rattle.kt_storeside.specs.Supers.{NamedStand}

-- nothing is pending of any file
pub fresh_stands : (disk : MemView) → disk.calls ≡ [] → NamedStand mem_seen mem_now mem_leaves disk
fresh_stands disk none files left m is c was n has = untouched disk none c was n

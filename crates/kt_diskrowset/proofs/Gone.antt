-- A disk rowset that leaves gives all its cells back.
use Rattle.std.proofs.Common.{◌≡◌, ◌+◌, ℕ, [], length, arith}
use Rattle.kt_pool.specs.Contents.{Contents, at_cell, used}
use Rattle.kt_dms.specs.Stores as dms
use Rattle.kt_diskrowset.specs.declared.rowset.DiskRowSet.{DiskRowSet}
use Rattle.kt_diskrowset.specs.Gone.{HasGone}
use Rattle.kt_diskrowset.specs.Jobs.{AreEmptied}
use Rattle.kt_diskrowset.specs.Rowset.{mems_of, IsStore}
use Rattle.kt_diskrowset.proofs.Leaving.{one_leaves}
use Rattle.kt_diskrowset.proofs.Settled.{emptied_all}

pub has_gone : (s : DiskRowSet) (old now new : Contents) → IsStore s old → AreEmptied s.frozen.items [] old now → ((k : ℕ) → ¬ dms.Owns s.active now k → at_cell new k ≡ at_cell now k)
    → used new + dms.cells_had s.active now ≡ used now → new.reserved ≡ now.reserved → length new.places ≡ length now.places → HasGone s old new
has_gone s old now new st emptied frame fewer reserved size =
    let all = one_leaves [] s.active [] (mems_of s) old now new (emptied_all s old now st emptied) frame fewer reserved size in
    record { frame = all.frame; fewer = (let cells = all.cells in omega arith); reserved = all.reserved; size = all.size }

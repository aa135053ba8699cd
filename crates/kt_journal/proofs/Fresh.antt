-- A disk in memory before its first call.
use Rattle.std.proofs.Common.{◌≡◌, ◌⊎◌, ℕ, ◌≤◌, List, [], length, Option, None, Some, Ok, ap, inl, inr, refl, sym, subst, arith}
use Rattle.std.specs.Prelude.{IsSome}
use Rattle.kt_disk.specs.Disk.{bytes_of}
use Rattle.kt_disk.specs.Memory.{MemView, mem_now, mem_seen, mem_leaves}
use Rattle.kt_disk.proofs.OneCall.{untouched}
use Rattle.kt_journal.specs.Frames.{frames_at}
use Rattle.kt_journal.specs.Log.{CanOpen, log_of, records_in}

there_or_not : (file : Option (List ℕ)) → IsSome file ⊎ (length (bytes_of file) ≤ 1)
there_or_not None = inr (omega arith)
there_or_not (Some bytes) = inl refl

-- its log may be opened
pub fresh_opens : (disk : MemView) → disk.calls ≡ [] → CanOpen mem_now mem_leaves disk
fresh_opens disk none = record {
  either = elim (there_or_not (mem_seen disk 1)) [
    | inl there ↦ inl (λ c left. subst (λ (x : Option (List ℕ)). IsSome x) (sym (untouched disk none c left 1)) there)
    | inr short ↦ inr (λ c left. subst (λ (x : Option (List ℕ)). length (bytes_of x) ≤ 1) (sym (untouched disk none c left 1)) short)
  ];
}

-- an empty disk has no record
pub fresh_log : (disk : MemView) → disk ≡ record { start = []; calls = []; faults = 0 } → log_of (mem_seen disk) ≡ Ok []
unfolding frames_at records_in
fresh_log disk is = ap (λ (d : MemView). log_of (mem_seen d)) is

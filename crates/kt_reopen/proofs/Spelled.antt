-- The names of opened stores have a spelling.
use Rattle.std.proofs.Common.{◌<◌, ◌+◌, ◌^◌, ℕ, max, List, [], ◌∷◌, ◌++◌, true, false, cond, arith}
use Rattle.std.specs.Prelude.{◌==◌}
use Rattle.std.specs.List.{AllByRecursion}
use Rattle.kt_history.specs.declared.target.Target.{Target}
use Rattle.kt_history.specs.declared.target.Target.TheVariants.{Mem, Delta}
use Rattle.kt_records.specs.declared.entry.CommitRow.{CommitRow}
use Rattle.kt_records.specs.declared.entry.Entry.{Entry}
use Rattle.kt_records.specs.declared.entry.Entry.TheVariants.{Replicate, Commit}
use Rattle.kt_records.specs.Rules.{EachAfter, TargetFits, RowFits}
use Rattle.kt_journal.specs.Order.{InOrder}
use Rattle.kt_reopen.specs.Numbers.{named_of, named_by, greatest_mem, greatest_dms}

abbrev AllSpelled : List Target → Type 0
AllSpelled targets = AllByRecursion TargetFits targets

spelled-append : (xs ys : List Target) → AllSpelled xs → AllSpelled ys → AllSpelled (xs ++ ys)
spelled-append [] ys h g = g
spelled-append (x ∷ xs) ys h g = (h.0, spelled-append xs ys h.1 g)

of_targets : (front targets : List Target) → EachAfter (λ front t. TargetFits t) front targets → AllSpelled targets
of_targets front [] h = tt
of_targets front (t ∷ targets) h = (h.0, of_targets (front ++ t ∷ []) targets h.1)

of_rows : (front rows : List CommitRow) → EachAfter (λ front row. RowFits row) front rows → AllSpelled (named_of rows)
of_rows front [] h = tt
of_rows front (row ∷ rows) h = spelled-append row.targets (named_of rows) (of_targets [] row.targets h.0.targets) (of_rows (front ++ row ∷ []) rows h.1)

pub of_log : (before records : List Entry) → InOrder before records → AllSpelled (named_by records)
of_log before [] h = tt
of_log before (Replicate ts ops ∷ records) h = of_log (Replicate ts ops ∷ before) records h.2
of_log before (Commit ts rows ∷ records) h = spelled-append (named_of rows) (named_by records) (of_rows [] rows h.0.keeps.rows) (of_log (Commit ts rows ∷ before) records h.2)

-- so the greatest numbers among them have one
pub mem_spelled : (targets : List Target) → AllSpelled targets → greatest_mem targets < 2 ^ 64
mem_spelled [] h = omega arith
mem_spelled (Mem n ∷ targets) h = let here = h.0 in let more = mem_spelled targets h.1 in omega arith
mem_spelled (Delta r n ∷ targets) h = mem_spelled targets h.1

pub dms_spelled : (r : ℕ) (targets : List Target) → AllSpelled targets → greatest_dms r targets < 2 ^ 64
dms_spelled r [] h = omega arith
dms_spelled r (Mem n ∷ targets) h = dms_spelled r targets h.1
dms_spelled r (Delta s n ∷ targets) h =
    let here : n < 2 ^ 64 = h.0.1 in
    let more = dms_spelled r targets h.1 in
    elim (s == r) as (λ b. cond b (max n (greatest_dms r targets)) (greatest_dms r targets) < 2 ^ 64) [ true ↦ omega arith | false ↦ more ]

-- and one more than a number below the last of its type
pub next_spelled : (last greatest : ℕ) → last + 1 < 2 ^ 64 → greatest < 2 ^ 64 → max (last + 1) greatest < 2 ^ 64
next_spelled last greatest low small = omega arith

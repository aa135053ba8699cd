-- What a background worker does next.
use Rattle.std.specs.Prelude.{ℕ, Bool, ◌+◌, ◌*◌, ◌&&◌, ◌||◌, nat_lt, nat_le, List, length, find, Option, Some, None, option_map, if◌then◌else◌}
use Rattle.kt_pick.specs.declared.rules.Want.{Want}
use Rattle.kt_pick.specs.declared.rules.Want.TheVariants as want
use Rattle.kt_pick.specs.declared.rules.Rule.{Rule}
use Rattle.kt_pick.specs.declared.rules.Rule.TheVariants as rule
use Rattle.kt_pick.specs.declared.stats.RowSetStat.{RowSetStat}
use Rattle.kt_pick.specs.declared.stats.Stats.{Stats}

-- fewer than a quarter of the pool's cells are free
abbrev pub is_short : Stats → Bool
is_short s = nat_lt (s.free * 4) s.cells

-- the rows in memory are flushed where they are many, and any row where cells are short
abbrev pub wants_flush : Stats → Bool
wants_flush s = nat_le 8192 s.mem_rows || (nat_lt 0 (s.mem_rows + s.frozen_rows) && is_short s)

-- so many changes of a rowset in memory are written
abbrev pub enough_changes : Stats → ℕ
enough_changes s = if is_short s then 1 else 4096

-- a rowset has so many changes in memory; many REDO files; or REDO records, but for deletes, that reach a quarter of its rows
abbrev pub applies : Rule → RowSetStat → Bool
applies (rule.Changes enough) r = nat_le enough r.fresh
applies rule.Files r = nat_le 4 r.redo_files
applies rule.Records r = nat_le r.rows (r.redo_changes * 4)

-- the first rowset to which a rule applies
abbrev pub first_rowset : Rule → List RowSetStat → Option ℕ
first_rowset which rowsets = option_map (λ (r : RowSetStat). r.rowset) (find (applies which) rowsets)

-- the job for a rowset, or else what comes behind it
abbrev pub job_or : (ℕ → Want) → Option Want → Option ℕ → Option Want
job_or job next None = next
job_or job next (Some rowset) = Some (job rowset)

-- the rowsets of the deepest stack are merged where they are three or more
abbrev pub stack_wanted : Stats → Option Want
stack_wanted s = if nat_le 3 (length s.stack) then Some (want.Compact s.stack) else None

-- the job of the first rule that applies
abbrev pub wanted : Stats → Option Want
wanted s = if wants_flush s then Some want.Flush
    else job_or want.FlushDeltas
    (job_or want.Minor
    (job_or want.Major (stack_wanted s)
    (first_rowset rule.Records s.rowsets))
    (first_rowset rule.Files s.rowsets))
    (first_rowset (rule.Changes (enough_changes s)) s.rowsets)

-- Whether a row is there after records, told by the newest of them that is no update.
use Rattle.std.specs.Prelude.{ℕ, nat_lt, Bool, true, false, [], ◌∷◌, Option, Some, None, if◌then◌else◌}
use Rattle.kt_history.specs.declared.change.Change.{Change}
use Rattle.kt_history.specs.declared.change.Change.TheVariants.{Ins, Upd, Del}
use Rattle.kt_history.specs.Stores.{Steps}
use Rattle.kt_diskrowset.specs.declared.alive.Verdict.{Verdict}

-- whether there is a row after a change, where that depends on no row before it
abbrev pub tells : Change → Option Bool
tells (Ins row) = Some true
tells (Upd cells) = None
tells Del = Some false

-- the newer of two verdicts, the latter where they are of one time
abbrev pub later_of : Verdict → Option Verdict → Verdict
later_of v None = v
later_of v (Some w) = if nat_lt w.ts v.ts then v else w

abbrev pub joined_by : ℕ → Option Bool → Option Verdict → Option Verdict
joined_by ts None v = v
joined_by ts (Some there) v = Some (later_of (record { ts = ts; there = there }) v)

-- the verdict of a record and that of those behind it
abbrev pub with_record : ℕ × Change → Option Verdict → Option Verdict
with_record c v = joined_by c.0 (tells c.1) v

-- the verdict of records in front of others
abbrev pub verdict_of : Steps → Option Verdict → Option Verdict
verdict_of [] v = v
verdict_of (c ∷ steps) v = with_record c (verdict_of steps v)

-- what it says of a row that was there before, or was not
abbrev pub alive_by : Option Verdict → Bool → Bool
alive_by None before = before
alive_by (Some v) before = v.there

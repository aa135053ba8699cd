-- The premises of the laws on events are met by a worked case: a fresh tablet, one insert that begins, is applied and ends.
use Rattle.std.proofs.Common.{ℕ, List, [], ◌∷◌, ◌++◌, refl, arith, cond, inr}
use Rattle.std.specs.Ordering.{eq_by_cmp}
use Rattle.kt_history.specs.declared.change.Change.TheVariants.{Ins}
use Rattle.kt_history.specs.declared.change.Outcome.TheVariants.{Done}
use Rattle.kt_history.specs.declared.operation.OpKind.TheVariants.{Insert}
use Rattle.kt_history.specs.declared.operation.RowOp.{RowOp}
use Rattle.kt_history.specs.declared.target.Target.TheVariants.{Mem}
use Rattle.kt_history.specs.Rows.{key_cmp}
use Rattle.kt_history.specs.History.{raise}
use Rattle.kt_records.specs.declared.entry.Entry.{Entry}
use Rattle.kt_records.specs.declared.entry.Entry.TheVariants.{Replicate}
use Rattle.kt_records.specs.declared.entry.CommitRow.{CommitRow}
use Rattle.kt_histlaws.specs.Histories.{past_hist}
use Rattle.kt_history.specs.Stores.{never}
use Rattle.kt_journal.specs.Log.{IsLog}
use Rattle.kt_loglaws.specs.Replay.{empty}
use Rattle.kt_loglaws.specs.Fronts.{with_records}
use Rattle.kt_content.specs.Rules.{no_rules}
use Rattle.kt_content.specs.Places.{fresh, memory}
use Rattle.kt_content.specs.InMemory.{mem_rows, Stores, joined_name}
use Rattle.kt_content.specs.Recoverable.{Resident, SuperStands}
use Rattle.kt_content.specs.Keeping.{fresh_tablet, begun, row_applied, ended, IsNext, TakesRow}
use Rattle.kt_content.proofs.Rules.{ops_pass_none}
use Rattle.kt_content.proofs.Keeping.{begin_keeps, row_applied_keeps}
use Rattle.kt_content.proofs.Ends.{end_keeps}
use Rattle.kt_content.proofs.StoresCome.{fresh_stands}
use Rattle.kt_content.proofs.Worked.{k, a, insert, commit}

abbrev replicate : List Entry
replicate = Replicate 4096 (insert a) ∷ []

abbrev op : RowOp
op = record { kind = Insert; key = k; cells = a }

abbrev row : CommitRow
row = record { outcome = Done; targets = Mem 1 ∷ [] }

it_begins : IsLog replicate → SuperStands no_rules [] fresh [] replicate empty (begun 4096 fresh_tablet)
it_begins log = begin_keeps no_rules [] fresh [] [] empty fresh_tablet 4096 (insert a) log (fresh_stands no_rules []) (omega arith) (refl, tt) (tt, tt) (ops_pass_none [] (insert a))

-- the MemRowSet takes it
abbrev with_it : List ℕ → Stores
with_it q = cond (eq_by_cmp key_cmp q k) (joined_name (mem_rows 1) 4096 (Ins a) (fresh_tablet.stores q)) (fresh_tablet.stores q)

abbrev applied_tablet : Resident
applied_tablet = row_applied 4096 op row with_it (begun 4096 fresh_tablet)

it_is_next : IsNext replicate (begun 4096 fresh_tablet) 4096 op
it_is_next = record { front = []; last = refl; flying = record { ts = 4096; ops = []; rows = [] }; flies = refl; unnamed = refl }

it_is_taken : TakesRow [] fresh (begun 4096 fresh_tablet) 4096 op row (past_hist k (raise (with_records [] empty replicate) 0)) with_it
it_is_taken = record {
  n = mem_rows 1;
  h = never;
  p = memory;
  c = Ins a;
  stands = refl;
  is = refl;
  one = tt;
  live_there = inr (refl, refl);
  made = refl;
  needs = refl;
  taken = refl;
  others = λ q e. rw e refl;
}

it_is_applied : IsLog replicate → SuperStands no_rules [] fresh [] replicate empty applied_tablet
it_is_applied log = row_applied_keeps no_rules [] fresh [] replicate empty (begun 4096 fresh_tablet) 4096 op row with_it log (it_begins log) it_is_next it_is_taken

-- and its COMMIT is queued, which names the MemRowSet
it_ends : IsLog replicate → IsLog (replicate ++ commit 4096 (Mem 1 ∷ []) ∷ []) → SuperStands no_rules [] fresh [] (replicate ++ commit 4096 (Mem 1 ∷ []) ∷ []) empty (ended 4096 applied_tablet)
it_ends log longer = end_keeps no_rules [] fresh [] replicate empty applied_tablet 4096 (record { ts = 4096; ops = insert a; rows = row ∷ [] }) longer (it_is_applied log) refl refl ((omega arith, tt), tt)

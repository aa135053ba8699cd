-- What an engine keeps, as laws.
use Rattle.std.specs.Prelude.{◌≡◌, ◌≢◌, ◌<◌, ◌≤◌, ℕ, ◌-◌, true, false, is_some, List, [], ◌∷◌, ◌++◌, map, Some, None, length}
use Rattle.std.specs.FinMap.Entries.{find}
use Rattle.kt_history.specs.declared.change.Change.{Change}
use Rattle.kt_history.specs.declared.operation.RowOp.{RowOp}
use Rattle.kt_history.specs.declared.event.Event.{Event}
use Rattle.kt_history.specs.declared.event.Event.TheVariants as event
use Rattle.kt_history.specs.Rows.{key_cmp}
use Rattle.kt_history.specs.History.{Past, IsPast, IsPastUpTo, rows_at}
use Rattle.kt_history.specs.Operations.{effect, effect_on}
use Rattle.kt_history.specs.Machine.{HasDifferentKeys, Allowed, ops_of, command_at, none_flies, first_turns}
use Rattle.kt_histlaws.specs.Histories.{hists, on_nth, first_some, AtMostOne, Alone, nth_option, timeline, ShowsKey, Shows}
use Rattle.kt_history.specs.Stores.{Steps, Hist, Store, row_of, step_of, push, step_at}
use Rattle.kt_histlaws.specs.Fitting.{AreSound, Rises}
use Rattle.kt_histlaws.specs.Core.{Core, ChangesLieInOrder, Stands, now, flown_by, live, run_past}
use Rattle.kt_histlaws.specs.Events.{IsNextOp, IsOver, begun, applied, ended, looked, answered_rows, marked, answered, halted}
use Rattle.kt_histlaws.specs.Parts.{part, IsOfAnother}
use Rattle.kt_histlaws.specs.Jobs.{AreAlike, IsFilled, push_all}
use Rattle.kt_histlaws.specs.Disks.{DiskRow, disk_row_at, hist_of, AreUndos}

-- each event that the machine allows keeps that the engine stands for a run

abbrev pub begin_keeps_standing : Type 0
begin_keeps_standing = (core : Core) (s i ts m : ℕ) (st : Stands core) → Allowed core.work (now core st.past) (event.Begin s i ts m) → Stands (begun core s i ts m (ops_of (command_at core.work s i)))

abbrev pub look_keeps_standing : Type 0
look_keeps_standing = (core : Core) (s i t m : ℕ) (st : Stands core) → Allowed core.work (now core st.past) (event.Look s i t m) → Stands (looked core s i t m)

-- all rows of the write are applied
abbrev pub end_keeps_standing : Type 0
end_keeps_standing = (core : Core) (s i ts : ℕ) (st : Stands core) → Allowed core.work (now core st.past) (event.End s i ts) → IsOver s core.aloft → Stands (ended core s i ts)

abbrev pub rows_keep_standing : Type 0
rows_keep_standing = (core : Core) (s i t : ℕ) (st : Stands core) → Allowed core.work (now core st.past) (event.Rows s i t) → Stands (answered_rows core s i t)

abbrev pub ancient_keeps_standing : Type 0
ancient_keeps_standing = (core : Core) (s i t a : ℕ) (st : Stands core) → Allowed core.work (now core st.past) (event.Ancient s i t a) → Stands (answered core s i (event.Ancient s i t a))

abbrev pub busy_keeps_standing : Type 0
busy_keeps_standing = (core : Core) (s i t f : ℕ) (st : Stands core) → Allowed core.work (now core st.past) (event.Busy s i t f) → Stands (answered core s i (event.Busy s i t f))

abbrev pub mark_keeps_standing : Type 0
mark_keeps_standing = (core : Core) (s i a : ℕ) (st : Stands core) → Allowed core.work (now core st.past) (event.Mark s i a) → Stands (marked core s i a)

abbrev pub chore_keeps_standing : Type 0
chore_keeps_standing = (core : Core) (s i : ℕ) (st : Stands core) → Allowed core.work (now core st.past) (event.Chore s i) → Stands (answered core s i (event.Chore s i))

abbrev pub large_keeps_standing : Type 0
large_keeps_standing = (core : Core) (s i n : ℕ) (st : Stands core) → Allowed core.work (now core st.past) (event.Large s i n) → Stands (answered core s i (event.Large s i n))

abbrev pub stop_keeps_standing : Type 0
stop_keeps_standing = (core : Core) (st : Stands core) → Allowed core.work (now core st.past) event.Stop → Stands (halted core)

-- a row of a flying write goes to a store beside which none has the key live
abbrev pub apply_keeps_standing : Type 0
apply_keeps_standing = (core : Core) (st : Stands core) (j i ts : ℕ) (op : RowOp) → IsNextOp j core.aloft ts op → i < length core.stores → Alone i (map (row_of ts) (hists op.key core.stores)) → Stands (applied core j i ts op)

-- an opened engine stands: nothing flies, and its stores show the first past from the mark on
abbrev pub opened_stands : Type 0
opened_stands = (core : Core) → core.trail ≡ [] → core.aloft ≡ [] → core.a ≡ core.first.mark → core.c ≡ core.opened → core.stopped ≡ false → core.turns ≡ first_turns core.work.plan
    → IsPastUpTo core.opened core.first → Shows core.first.mark core.stores core.first → ((q : List ℕ) → AreSound core.first.mark (hists q core.stores)) → HasDifferentKeys core.work → Stands core

-- what becomes of a row in the stores is what the run says, on the rows just before the write
abbrev pub outcomes_are_the_runs : Type 0
outcomes_are_the_runs = (core : Core) (st : Stands core) (j ts : ℕ) (op : RowOp) → IsNextOp j core.aloft ts op
    → (effect core.work.fill op.kind op.cells (live core.stores op.key ts)).1 ≡ (effect_on core.work.fill (rows_at (run_past core) (ts - 1)) op).1

-- where no write at or below t flies, the stores show the run's rows at each time up to t
abbrev pub snapshots_show_the_run : Type 0
snapshots_show_the_run = (core : Core) (st : Stands core) (t u : ℕ) (q : List ℕ) → none_flies t (map flown_by core.aloft) ≡ true → core.a ≤ u → u ≤ t → live core.stores q u ≡ find key_cmp q (rows_at (run_past core) u)

-- every change of a key that a flying write has still to apply lies below that write
abbrev pub changes_lie_in_order : Type 0
changes_lie_in_order = (core : Core) → Stands core → ChangesLieInOrder core

-- a key is live in one store at most, at each time from the mark on
abbrev pub one_is_live_at_most : Type 0
one_is_live_at_most = (core : Core) (st : Stands core) (t : ℕ) (q : List ℕ) → core.a ≤ t → AtMostOne (map (row_of t) (hists q core.stores))

-- beside a store that has the key live, none has
abbrev pub no_other_is_live : Type 0
no_other_is_live = (core : Core) (st : Stands core) (i ts : ℕ) (q : List ℕ) → core.a ≤ ts → is_some (nth_option i (map (row_of ts) (hists q core.stores))) ≡ true → Alone i (map (row_of ts) (hists q core.stores))

-- an event of one session leaves the part of another
pub record KeepsPart (core : Core) (k : ℕ) : Type 0 where
  pub begin : (s i ts m : ℕ) (ops : List RowOp) → s ≢ k → part (begun core s i ts m ops) k ≡ part core k
  pub look : (s i t m : ℕ) → s ≢ k → part (looked core s i t m) k ≡ part core k
  pub end : (s i ts : ℕ) → s ≢ k → part (ended core s i ts) k ≡ part core k
  pub rows : (s i t : ℕ) → s ≢ k → part (answered_rows core s i t) k ≡ part core k
  pub mark : (s i a : ℕ) → s ≢ k → part (marked core s i a) k ≡ part core k
  pub line : (s i : ℕ) (e : Event) → s ≢ k → part (answered core s i e) k ≡ part core k
  pub apply : (j i ts : ℕ) (op : RowOp) → IsOfAnother j core.aloft k → part (applied core j i ts op) k ≡ part core k

abbrev pub other_parts_stay : Type 0
other_parts_stay = (core : Core) (k : ℕ) → KeepsPart core k

-- a job's outputs take the place of its inputs, and nothing shows
abbrev pub finish_shows_the_same : Type 0
finish_shows_the_same = (j a : ℕ) (rest ins outs : List Hist) (whole : Hist) → ShowsKey a (rest ++ ins) whole → AreAlike j ins outs → j ≤ a → ShowsKey a (rest ++ outs) whole

-- at the swap: what went to the inputs alone since the outputs were written makes both alike, once it is put into the outputs
abbrev pub missed_makes_alike : Type 0
missed_makes_alike = (j low i k : ℕ) (missed : Steps) (ins outs : List Hist) → AreAlike j ins outs → j ≤ low → Rises low missed → i < length ins → k < length outs
    → ((t : ℕ) → low < t → Alone i (map (row_of t) ins)) → ((t : ℕ) → low < t → Alone k (map (row_of t) outs)) → ((t : ℕ) → low < t → first_some (map (step_of t) ins) ≡ None)
    → AreAlike j (on_nth i (push_all missed) ins) (on_nth k (push_all missed) outs)

-- after it: a change to both sides keeps them alike
abbrev pub both_stay_alike : Type 0
both_stay_alike = (j ts i k : ℕ) (c : Change) (ins outs : List Hist) → AreAlike j ins outs → j < ts → i < length ins → k < length outs
    → ((t : ℕ) → ts ≤ t → Alone i (map (row_of t) ins)) → ((t : ℕ) → ts ≤ t → Alone k (map (row_of t) outs)) → first_some (map (step_of ts) ins) ≡ None
    → AreAlike j (on_nth i (push ts c) ins) (on_nth k (push ts c) outs)

-- and the missed changes still lie between what was written and what was duplicated
abbrev pub missed_stay_between : Type 0
missed_stay_between = (missed : Steps) (out full : Hist) (ts : ℕ) (c : Change) → IsFilled missed out full → IsFilled missed (push ts c out) (push ts c full)

-- the order of the stores shows nothing: one of them may come first
abbrev pub any_may_come_first : Type 0
any_may_come_first = (a : ℕ) (h : Hist) (xs ys : List Hist) (whole : Hist) → ShowsKey a (xs ++ h ∷ ys) whole → ShowsKey a (h ∷ xs ++ ys) whole

-- a disk row shows at each time what its history shows
abbrev pub disk_rows_are_histories : Type 0
disk_rows_are_histories = (top t : ℕ) (d : DiskRow) → AreUndos top d.undos (Some d.base) → row_of t (hist_of d) ≡ disk_row_at t d

-- two pasts that stores show have the same rows from there on
abbrev pub stores_show_one_past : Type 0
stores_show_one_past = (a t : ℕ) (stores : List Store) (p q : Past) → Shows a stores p → Shows a stores q → IsPast p → IsPast q → a ≤ t → rows_at p t ≡ rows_at q t

-- and the same changes above it
abbrev pub stores_show_one_change : Type 0
stores_show_one_change = (a t : ℕ) (q : List ℕ) (stores : List Store) (p r : Past) → Shows a stores p → Shows a stores r → a < t → step_at t (timeline q p.writes) ≡ step_at t (timeline q r.writes)

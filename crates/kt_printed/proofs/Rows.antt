-- The rows of a run have spelled cells, at each time.
use Rattle.std.proofs.Common.{ℕ, ◌-◌, List, [], ◌∷◌, Option, Some, None, true, false, cond}
use Rattle.std.specs.Prelude.{IfSome, nat_le, not}
use Rattle.std.specs.List.{AllByRecursion, cons_option}
use Rattle.std.specs.Ordering.{nat_cmp, eq_by_cmp}
use Rattle.std.specs.declared.cmp.Ordering.{Ordering}
use Rattle.std.specs.declared.cmp.Ordering.TheVariants.{Less, Equal, Greater}
use Rattle.std.specs.FinMap.Entries.{put, find, by_order}
use Rattle.std.proofs.ByRecursion.{All-append, all_kept_by}
use Rattle.kt_base.specs.declared.cell.Kind.{Kind}
use Rattle.kt_base.specs.declared.cell.Cell.{Cell}
use Rattle.kt_history.specs.declared.change.Change.{Change}
use Rattle.kt_history.specs.declared.change.Change.TheVariants.{Ins, Upd, Del}
use Rattle.kt_history.specs.declared.command.Command.{Command}
use Rattle.kt_history.specs.declared.command.Command.TheVariants as command
use Rattle.kt_history.specs.declared.event.Event.{Event}
use Rattle.kt_history.specs.declared.event.Event.TheVariants.{Begin, End, Look, Rows as Shown, Ancient, Busy, Mark, Chore, Large, Stop}
use Rattle.kt_history.specs.declared.operation.OpKind.{OpKind}
use Rattle.kt_history.specs.declared.operation.OpKind.TheVariants as op
use Rattle.kt_history.specs.declared.operation.RowOp.{RowOp}
use Rattle.kt_history.specs.Rows.{Row, Rows, Changes, with_cells, apply, set_row, changed, key_cmp}
use Rattle.kt_history.specs.History.{Past, PastWrite, replay, rows_at, with_write}
use Rattle.kt_history.specs.Operations.{effect, effect_on, keyed, changes_on}
use Rattle.kt_history.specs.Machine.{Workload, State, after, state_after, command_at, ops_of}
use Rattle.kt_printed.proofs.Spelled.{IsSpelled, RowSpelled, KeySpelled, RowsSpelled, ChangeSpelled, ChangesSpelled, PastSpelled, OpsSpelled, CommandSpelled, WorkSpelled, key_kinds}
use Rattle.kt_printed.proofs.Places.{at_command}

-- ---- entries

module _ {K X : Type 0} (R : K → K → Ordering) (A : K → Type 0) (B : X → Type 0) where
  put_all : (k : K) (x : X) (es : List (K × X)) → A k → B x → AllByRecursion (λ (e : K × X). A e.0 × B e.1) es → AllByRecursion (λ (e : K × X). A e.0 × B e.1) (put R k x es)
  put_all k x [] a b all = ((a, b), tt)
  put_all k x (e ∷ es) a b all = elim (R k e.0) as (λ o. AllByRecursion (λ (e : K × X). A e.0 × B e.1) (by_order o ((k, x) ∷ e ∷ es) ((e.0, x) ∷ es) (e ∷ put R k x es))) [
    | Less ↦ ((a, b), all)
    | Equal ↦ ((all.0.0, b), all.1)
    | Greater ↦ (all.0, put_all k x es a b all.1)
  ]

  find_all : (k : K) (es : List (K × X)) → AllByRecursion (λ (e : K × X). A e.0 × B e.1) es → IfSome (find R k es) B
  find_all k [] all = tt
  find_all k (e ∷ es) all = elim (eq_by_cmp R k e.0) as (λ t. IfSome (cond t (Some e.1) (find R k es)) B) [
    | true ↦ all.0.1
    | false ↦ find_all k es all.1
  ]

-- ---- one row

-- a row with a fact of each number, which is none
numbered : (row : Row) → RowSpelled row → AllByRecursion (λ (x : ℕ × Cell). Unit {0} × IsSpelled x.1) row
numbered [] all = tt
numbered (x ∷ row) all = ((tt, all.0), numbered row all.1)

plain : (row : Row) → AllByRecursion (λ (x : ℕ × Cell). Unit {0} × IsSpelled x.1) row → RowSpelled row
plain [] all = tt
plain (x ∷ row) all = (all.0.1, plain row all.1)

pub cell_found : (id : ℕ) (row : Row) → RowSpelled row → IfSome (find nat_cmp id row) IsSpelled
cell_found id row all = find_all nat_cmp (λ n. Unit {0}) IsSpelled id row (numbered row all)

with_spelled : (cells row : Row) → RowSpelled cells → RowSpelled row → RowSpelled (with_cells cells row)
with_spelled [] row new old = old
with_spelled (x ∷ cells) row new old = plain _ (put_all nat_cmp (λ n. Unit {0}) IsSpelled x.0 x.1 (with_cells cells row) tt new.0 (numbered _ (with_spelled cells row new.1 old)))

apply_spelled : (change : Change) (row : Option Row) → ChangeSpelled change → IfSome row RowSpelled → IfSome (apply change row) RowSpelled
apply_spelled (Ins new) None change old = change
apply_spelled (Ins new) (Some row) change old = old
apply_spelled (Upd cells) None change old = tt
apply_spelled (Upd cells) (Some row) change old = with_spelled cells row change old
apply_spelled Del None change old = tt
apply_spelled Del (Some row) change old = tt

effect_spelled : (fill : Row) (kind : OpKind) (cells : Row) (row : Option Row) → RowSpelled fill → RowSpelled cells → IfSome (effect fill kind cells row).0 ChangeSpelled
effect_spelled fill op.Insert cells None all new = with_spelled cells fill new all
effect_spelled fill op.Insert cells (Some row) all new = tt
effect_spelled fill op.Upsert cells None all new = with_spelled cells fill new all
effect_spelled fill op.Upsert cells (Some row) all new = new
effect_spelled fill op.Update cells None all new = tt
effect_spelled fill op.Update cells (Some row) all new = new
effect_spelled fill op.Delete cells None all new = tt
effect_spelled fill op.Delete cells (Some row) all new = tt
effect_spelled fill op.InsertIgnore cells None all new = with_spelled cells fill new all
effect_spelled fill op.InsertIgnore cells (Some row) all new = tt
effect_spelled fill op.UpdateIgnore cells None all new = tt
effect_spelled fill op.UpdateIgnore cells (Some row) all new = new
effect_spelled fill op.DeleteIgnore cells None all new = tt
effect_spelled fill op.DeleteIgnore cells (Some row) all new = tt

-- ---- the rows of a table

module _ (kinds : List Kind) where
  set_spelled : (key : List ℕ) (row : Option Row) (rows : Rows) → KeySpelled kinds key → IfSome row RowSpelled → RowsSpelled kinds rows → RowsSpelled kinds (set_row key row rows)
  set_spelled key None rows k new all = all_kept_by (λ (r : List ℕ × Row). not (eq_by_cmp key_cmp key r.0)) (λ (r : List ℕ × Row). KeySpelled kinds r.0 × RowSpelled r.1) rows all
  set_spelled key (Some row) rows k new all = put_all key_cmp (KeySpelled kinds) RowSpelled key row rows k new all

  changed_spelled : (changes : Changes) (rows : Rows) → ChangesSpelled kinds changes → RowsSpelled kinds rows → RowsSpelled kinds (changed changes rows)
  changed_spelled [] rows changes all = all
  changed_spelled (c ∷ cs) rows changes all =
      let old = find_all key_cmp (KeySpelled kinds) RowSpelled c.0 rows all in
      changed_spelled cs _ changes.1 (set_spelled c.0 (apply c.1 (find key_cmp c.0 rows)) rows changes.0.0 (apply_spelled c.1 (find key_cmp c.0 rows) changes.0.1 old) all)

  replay_spelled : (t : ℕ) (writes : List PastWrite) (rows : Rows) → AllByRecursion (λ (w : PastWrite). ChangesSpelled kinds w.changes) writes → RowsSpelled kinds rows → RowsSpelled kinds (replay t writes rows)
  replay_spelled t [] rows all old = old
  replay_spelled t (w ∷ writes) rows all old = replay_spelled t writes _ all.1 (elim (nat_le w.ts t) as (λ b. RowsSpelled kinds (cond b (changed w.changes rows) rows)) [
    | true ↦ changed_spelled w.changes rows all.0 old
    | false ↦ old
  ])

  pub rows_spelled : (past : Past) (t : ℕ) → PastSpelled kinds past → RowsSpelled kinds (rows_at past t)
  rows_spelled past t is = replay_spelled t past.writes past.base is.writes is.base

  changes_spelled : (fill : Row) (rows : Rows) (ops : List RowOp) → RowSpelled fill → OpsSpelled kinds ops → ChangesSpelled kinds (changes_on fill rows ops)
  changes_spelled fill rows [] all ops = tt
  changes_spelled fill rows (o ∷ os) all ops = by (effect_on fill rows o).0 (effect_spelled fill o.kind o.cells (find key_cmp o.key rows) all ops.0.1) (changes_spelled fill rows os all ops.1)
    where
      by : (made : Option Change) → IfSome made ChangeSpelled → ChangesSpelled kinds (changes_on fill rows os) → ChangesSpelled kinds (cons_option (keyed o.key made) (changes_on fill rows os))
      by None new rest = rest
      by (Some change) new rest = ((ops.0.0, new), rest)

  write_spelled : (past : Past) (ts : ℕ) (changes : Changes) → PastSpelled kinds past → ChangesSpelled kinds changes → PastSpelled kinds (with_write past ts changes)
  write_spelled past ts [] is all = is
  write_spelled past ts (c ∷ cs) is all = record { base = is.base; writes = All-append (λ (w : PastWrite). ChangesSpelled kinds w.changes) past.writes (record { ts = ts; changes = c ∷ cs } ∷ []) is.writes (all, tt) }

-- ---- the past of a run

module _ (work : Workload) (spelled : WorkSpelled work) where
  ops_spelled : (o : Option Command) → IfSome o (CommandSpelled (key_kinds work)) → OpsSpelled (key_kinds work) (ops_of o)
  ops_spelled None all = tt
  ops_spelled (Some (command.Write w)) all = all
  ops_spelled (Some (command.Scan scan)) all = tt
  ops_spelled (Some (command.Mark t)) all = tt
  ops_spelled (Some (command.Chore chore)) all = tt

  line_spelled : (st : State) (e : Event) → PastSpelled (key_kinds work) st.past → PastSpelled (key_kinds work) (after work st e).past
  line_spelled st (Begin s i ts m) is =
      write_spelled (key_kinds work) st.past ts _ is (changes_spelled (key_kinds work) work.fill (rows_at st.past (ts - 1)) (ops_of (command_at work s i)) spelled.fill (ops_spelled (command_at work s i) (at_command (CommandSpelled (key_kinds work)) work s i spelled.plan)))
  line_spelled st (End s i ts) is = is
  line_spelled st (Look s i t m) is = is
  line_spelled st (Shown s i t) is = is
  line_spelled st (Ancient s i t a) is = is
  line_spelled st (Busy s i t f) is = is
  line_spelled st (Mark s i a) is = is
  line_spelled st (Chore s i) is = is
  line_spelled st (Large s i n) is = is
  line_spelled st Stop is = is

  pub past_spelled : (st : State) (events : List Event) → PastSpelled (key_kinds work) st.past → PastSpelled (key_kinds work) (state_after work st events).past
  past_spelled st [] is = is
  past_spelled st (e ∷ events) is = past_spelled (after work st e) events (line_spelled st e is)

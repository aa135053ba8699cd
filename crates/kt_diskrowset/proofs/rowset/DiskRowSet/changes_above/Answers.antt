use Rattle.std.proofs.Common.{◌≡◌, ◌<◌, ◌≤◌, ◌++◌, ◌∙◌, ℕ, [], List, map, length, sym, ap, subst, arith}
use Rattle.kt_baseset.specs.Tables.{key_at}
use Rattle.kt_dms.proofs.OneRow.{none_of}
use Rattle.kt_dms.specs.Stores.{steps_above}
use Rattle.kt_history.specs.declared.changes.KeyChange.{KeyChange}
use Rattle.kt_history.specs.Stores.{key_change}
use Rattle.kt_diskrowset.specs.Missed.{Precedes}
use Rattle.kt_diskrowset.specs.Rowset.{fresh_of}
use Rattle.kt_diskrowset.proofs.MissedRows.{all_more, all_over, starts_behind}
use Rattle.kt_diskrowset.proofs.rowset.DiskRowSet.changes_above.Goals as goal
use Rattle.kt_diskrowset.proofs.rowset.DiskRowSet.changes_above.Goals.{in-Some+then-ordinal-rows, in_default}

pub push_row-requires-clause-inside : goal.push_row-requires-clause-inside
push_row-requires-clause-inside c = omega (arith, c.if-ordinal-rows.false, c.rows-rows.ensures)

pub rows-smaller : goal.rows-smaller
rows-smaller c =
    let from_first = starts_behind c.rows.from c.in-Some.ordinal c.next_changed.result c.in-Some.is c.next_changed.ensures.behind in
    omega (arith, c.if-ordinal-rows.false, c.rows-rows.ensures)

pub rows-preserved : goal.rows-preserved
rows-preserved c =
    let fresh = fresh_of c.args.self.now c.args.pool.now in
    let rows = c.args.self.now.base.set.value.rows in
    let row = c.in-Some.ordinal in
    let inside : row < length rows = omega (arith, c.if-ordinal-rows.false, c.rows-rows.ensures) in
    let from_first = starts_behind c.rows.from row c.next_changed.result c.in-Some.is c.next_changed.ensures.behind in
    record {
      within = omega arith;
      so =
          c.in_ok-push_row.ensures ∙ ap (λ (xs : List KeyChange). xs ++ map (key_change (key_at rows row)) (steps_above c.args.above (fresh row))) c.rows.invariant.so
          ∙ sym (all_more c.args.above fresh rows c.rows.from row from_first inside (λ m a b. c.next_changed.ensures.none m a (subst (Precedes m) (sym c.in-Some.is) b)));
    }

pub returns : goal.returns
returns c =
    let fresh = fresh_of c.args.self.now c.args.pool.now in
    let rows = c.args.self.now.base.set.value.rows in
    let none_left : (m : ℕ) → c.rows.from ≤ m → m < length rows → fresh m ≡ [] = elim c.match-next_changed.branch [
      | in-Some+then-ordinal-rows w ↦ λ m a b.
          let past = w.if-ordinal-rows.true in
          let first : m < w.in-Some.ordinal = omega (arith, c.rows-rows.ensures) in
          c.next_changed.ensures.none m a (subst (Precedes m) (sym w.in-Some.is) first)
      | in_default w ↦ λ m a b. c.next_changed.ensures.none m a (subst (Precedes m) (sym (none_of c.next_changed.result w.in_default.not-Some)) tt)
    ] in
    c.rows.invariant.so ∙ all_over c.args.above fresh rows c.rows.from none_left

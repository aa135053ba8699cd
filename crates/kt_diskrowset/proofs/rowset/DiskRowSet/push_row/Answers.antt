use Rattle.std.proofs.Common.{◌∙◌, ◌++◌, ◌∷◌, [], List, ℕ, append_assoc, map, sym, ap, subst}
use Rattle.std.proofs.lemmas.Result.{on_ok_weaker}
use Rattle.kt_baseset.specs.Tables.{key_at}
use Rattle.kt_dms.specs.Stores.{deltas_of, steps_for, steps_above}
use Rattle.kt_dms.specs.declared.store.DeltaMem.{DeltaMem}
use Rattle.kt_history.specs.declared.changes.KeyChange.{KeyChange}
use Rattle.kt_history.specs.Stores.{key_change}
use Rattle.kt_diskrowset.specs.Mems.{AllStand}
use Rattle.kt_diskrowset.proofs.Beside.{stand_front, last_stands}
use Rattle.kt_diskrowset.proofs.MissedRows.{listed, listed_behind}
use Rattle.kt_diskrowset.proofs.rowset.DiskRowSet.push_row.Goals as goal

pub push_mems-requires : goal.push_mems-requires
push_mems-requires c = subst (AllStand c.args.pool.now) (sym c.deref.ensures.value) (stand_front c.args.pool.now c.args.self.now.frozen.items (c.args.self.now.active ∷ []) c.requires.stands.stand)

pub push_above-requires : goal.push_above-requires
push_above-requires c = last_stands c.args.pool.now c.args.self.now.frozen.items c.args.self.now.active c.requires.stands.stand

pub returns : goal.returns
returns c =
    let s = c.args.self.now in
    let pool = c.args.pool.now in
    let n = c.args.ordinal in
    let above = c.args.above in
    let key = key_at s.base.set.value.rows n in
    let mine : List ℕ → List KeyChange = λ k. map (key_change k) (steps_above above (steps_for n (deltas_of s.active pool))) in
    let first = c.in_ok-push_mems.ensures
    ∙ ap (λ (k : List ℕ). c.args.list.now ++ listed pool above n k c.deref.result.now) (c.as_slice.ensures ∙ c.in_ok-key.ensures)
    ∙ ap (λ (ms : List DeltaMem). c.args.list.now ++ listed pool above n key ms) c.deref.ensures.value in
    on_ok_weaker c.push_above.result
    (λ e.
    e ∙ ap (λ (k : List ℕ). c.push_mems.new.list ++ mine k) (c.as_slice-2.ensures ∙ c.in_ok-key.ensures)
    ∙ ap (λ (xs : List KeyChange). xs ++ mine key) first
    ∙ append_assoc c.args.list.now (listed pool above n key s.frozen.items) (mine key)
    ∙ ap (λ (xs : List KeyChange). c.args.list.now ++ xs) (sym (listed_behind pool above n key s.frozen.items s.active)))
    c.push_above.ensures

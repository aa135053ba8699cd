-- A row that is applied keeps that the engine stands, and its outcome is the run's.
use Rattle.std.proofs.Common.{◌≡◌, ℕ, ◌-◌, ◌<◌, List, Some, None, Option, refl, sym, ap, ◌∙◌, subst, map, length, inl, inr}
use Rattle.std.specs.Ordering.{eq_by_cmp}
use Rattle.std.specs.FinMap.Entries.{find}
use Rattle.std.proofs.lemmas.Bool.{cases_Bool}
use Rattle.kt_history.specs.declared.change.Change.{Change}
use Rattle.kt_history.specs.declared.operation.RowOp.{RowOp}
use Rattle.kt_history.specs.Rows.{key_cmp}
use Rattle.kt_history.specs.History.{rows_at}
use Rattle.kt_history.specs.Operations.{effect, effect_on}
use Rattle.kt_histlaws.specs.Histories.{hists, timeline, Alone, pushed, on_nth}
use Rattle.kt_history.specs.Stores.{row_of, step_at}
use Rattle.kt_histlaws.specs.Pending.{Aloft}
use Rattle.kt_histlaws.specs.Flights.{OpFlies}
use Rattle.kt_histlaws.specs.Core.{Core, flown_by, IsFlown, Stands, live, run_past}
use Rattle.kt_histlaws.specs.Events.{IsNextOp, advance, pushed_if, applied}
use Rattle.kt_histlaws.specs.Fitting.{AreSound}
use Rattle.kt_histlaws.proofs.Fitting.{sound_push}
use Rattle.kt_histlaws.proofs.OneKey.{map-on_nth_still}
use Rattle.kt_histlaws.proofs.Pending.{hists-pushed_same, hists-pushed_other, same_key}
use Rattle.kt_histlaws.proofs.Applying.{GoesOn, Awaits, apply_none_keeps, apply_some_keeps, live_before, timeline-rises, stores_under}
use Rattle.kt_histlaws.proofs.NextRow.{goes_on, flies_at}

-- what apply_row reads and keeps, all at once
pub record Applies (core : Core) (st : Stands core) (j ts : ℕ) (op : RowOp) : Type 0 where
  pub above : core.a < ts
  pub flies : OpFlies core.work.fill st.past ts op
  pub goes : GoesOn core.aloft (on_nth j advance core.aloft) op.key ts
  pub awaits : Awaits st.past op.key ts
  pub live_is : live core.stores op.key ts ≡ find key_cmp op.key (rows_at st.past (ts - 1))

pub applies : (core : Core) (st : Stands core) (j ts : ℕ) (op : RowOp) → IsNextOp j core.aloft ts op → Applies core st j ts op
applies core st j ts op h =
    let f = flies_at j core.aloft ts op core.work.fill st.past core.a core.c h st.flown.fly in
    let g = goes_on j core.aloft ts op core.work.fill st.past core.a core.c h st.flown.disjoint st.flown.fly in
    let w : Awaits st.past op.key ts = record { rise = timeline-rises op.key st.past.mark st.past.writes st.flown.ends.is.writes; last = f.1.last } in
    record {
      above = f.0;
      flies = f.1;
      goes = g;
      awaits = w;
      live_is = live_before core.stores core.aloft (on_nth j advance core.aloft) st.past core.a op.key ts st.stores.same f.0 g w st.flown.ends.is;
    }

-- the outcome is the run's
pub outcome_is : (core : Core) (st : Stands core) (j ts : ℕ) (op : RowOp) → IsNextOp j core.aloft ts op
    → (effect core.work.fill op.kind op.cells (live core.stores op.key ts)).1 ≡ (effect_on core.work.fill (rows_at st.past (ts - 1)) op).1
outcome_is core st j ts op h = ap (λ r. (effect core.work.fill op.kind op.cells r).1) (applies core st j ts op h).live_is

step_is : (core : Core) (st : Stands core) (j ts : ℕ) (op : RowOp) → IsNextOp j core.aloft ts op
    → step_at ts (timeline op.key st.past.writes) ≡ (effect core.work.fill op.kind op.cells (live core.stores op.key ts)).0
step_is core st j ts op h = (applies core st j ts op h).flies.change ∙ sym (ap (λ r. (effect core.work.fill op.kind op.cells r).0) (applies core st j ts op h).live_is)

same_flying : (j : ℕ) (aloft : List Aloft) → map flown_by (on_nth j advance aloft) ≡ map flown_by aloft
same_flying j aloft = map-on_nth_still j advance flown_by (λ w. refl) aloft

pub apply_none_stands : (core : Core) (st : Stands core) (j ts : ℕ) (op : RowOp) → IsNextOp j core.aloft ts op
    → (effect core.work.fill op.kind op.cells (live core.stores op.key ts)).0 ≡ None → Stands (record core { aloft = on_nth j advance core.aloft })
apply_none_stands core st j ts op h none =
    let g = applies core st j ts op h in
    record {
      past = st.past;
      run = record {
        is_run = st.run.is_run;
        state = st.run.state ∙ ap (λ fs. record { past = st.past; a = core.a; c = core.c; flying = fs; turns = core.turns; stopped = core.stopped }) (sym (same_flying j core.aloft));
      };
      stores = record {
        sound = st.stores.sound;
        same = apply_none_keeps core.stores core.aloft (on_nth j advance core.aloft) st.past core.a core.c op.key ts st.stores.same g.goes g.awaits st.flown.ends.writes (step_is core st j ts op h ∙ none);
      };
      flown = subst (λ fs. IsFlown core.work.fill (record { past = st.past; a = core.a; c = core.c; flying = fs; turns = core.turns; stopped = core.stopped })) (sym (same_flying j core.aloft)) st.flown;
      planned = st.planned;
    }

pub apply_some_stands : (core : Core) (st : Stands core) (j i ts : ℕ) (op : RowOp) (x : Change) → IsNextOp j core.aloft ts op
    → (effect core.work.fill op.kind op.cells (live core.stores op.key ts)).0 ≡ Some x → i < length core.stores → Alone i (map (row_of ts) (hists op.key core.stores))
    → Stands (record core { aloft = on_nth j advance core.aloft; stores = pushed i op.key ts x core.stores })
apply_some_stands core st j i ts op x h some in_list alone =
    let g = applies core st j ts op h in
    record {
      past = st.past;
      run = record {
        is_run = st.run.is_run;
        state = st.run.state ∙ ap (λ fs. record { past = st.past; a = core.a; c = core.c; flying = fs; turns = core.turns; stopped = core.stopped }) (sym (same_flying j core.aloft));
      };
      stores = record {
        sound = λ k. elim (cases_Bool (eq_by_cmp key_cmp k op.key)) [
          | inl tied ↦ subst (λ q. AreSound core.a (hists q (pushed i op.key ts x core.stores))) (sym (same_key k op.key tied))
              (subst (AreSound core.a) (sym (hists-pushed_same i op.key ts x core.stores))
              (sound_push core.a ts i core.work.fill op.cells op.kind x (hists op.key core.stores) (st.stores.sound op.key)
              (stores_under core.stores core.aloft (on_nth j advance core.aloft) st.past core.a op.key ts st.stores.same g.above g.goes g.awaits) g.above alone some))
          | inr other ↦ subst (AreSound core.a) (sym (hists-pushed_other i k op.key ts x core.stores other)) (st.stores.sound k)
        ];
        same = apply_some_keeps core.stores core.aloft (on_nth j advance core.aloft) st.past core.a core.c i op.key ts x st.stores.same g.above g.goes g.awaits st.flown.ends.writes (step_is core st j ts op h ∙ some) in_list alone;
      };
      flown = subst (λ fs. IsFlown core.work.fill (record { past = st.past; a = core.a; c = core.c; flying = fs; turns = core.turns; stopped = core.stopped })) (sym (same_flying j core.aloft)) st.flown;
      planned = st.planned;
    }

-- a row is applied, with a change or without
pub apply_stands : (core : Core) (st : Stands core) (j i ts : ℕ) (op : RowOp) → IsNextOp j core.aloft ts op → i < length core.stores → Alone i (map (row_of ts) (hists op.key core.stores)) → Stands (applied core j i ts op)
apply_stands core st j i ts op h in_list alone = one (effect core.work.fill op.kind op.cells (live core.stores op.key ts)).0 refl
  where
    one : (o : Option Change) → (effect core.work.fill op.kind op.cells (live core.stores op.key ts)).0 ≡ o → Stands (record core { aloft = on_nth j advance core.aloft; stores = pushed_if i op.key ts o core.stores })
    one None e = apply_none_stands core st j ts op h e
    one (Some x) e = apply_some_stands core st j i ts op x h e in_list alone

-- in the run's words
pub outcome_told : (core : Core) (st : Stands core) (j ts : ℕ) (op : RowOp) → IsNextOp j core.aloft ts op
    → (effect core.work.fill op.kind op.cells (live core.stores op.key ts)).1 ≡ (effect_on core.work.fill (rows_at (run_past core) (ts - 1)) op).1
outcome_told core st j ts op h = outcome_is core st j ts op h ∙ ap (λ x. (effect_on core.work.fill (rows_at x.past (ts - 1)) op).1) (sym st.run.state)

use Rattle.std.proofs.Common.{rules, arith, ◌≡◌, ◌+◌, suc, [], Some, map, take, length, slice_get, sym, ap, ◌∙◌, subst}
use Rattle.std.proofs.lemmas.List.{length-map}
use Rattle.kt_history.specs.declared.event.Event.{Event}
use Rattle.kt_seatlock.specs.Passes.{number, seen, part, joined, given, filled}
use Rattle.kt_seatlock.specs.Views.{told as told_of}
use Rattle.kt_seatlock.specs.Trails.{Each, Follows}
use Rattle.kt_seatlock.specs.declared.view.Joined.{Joined}
use Rattle.kt_engine.specs.Visits.{root_of, part_in, session_of}
use Rattle.kt_serve.specs.Points.{CameTo}
use Rattle.kt_serve.specs.Places.{AreBack, taken}
use Rattle.kt_serve.specs.Scans.{IsOn}
use Rattle.kt_serve.specs.Sessions.{TellsOwn}
use Rattle.kt_serve.proofs.Begins.{root_at}
use Rattle.kt_serve.proofs.Lists.{written_back, length_take}
use Rattle.kt_serve.proofs.Joining.{are_back, kept_each}
use Rattle.kt_serve.proofs.Rests.{store_rests}
use Rattle.kt_serve.proofs.Runs.{new_part, idle_part, may_run, same_part, none_told, each_ended, back_each, home_again, store_again, all_after, each_rounds}
use Rattle.kt_serve.proofs.run.run_locked.Goals as goal

pub run_all-requires-clause-enters : goal.run_all-requires-clause-enters
run_all-requires-clause-enters g c = λ κs within j p e.
    let new = c.split_all.ensures.each j p (ap (λ l. slice_get l j) (sym c.deref_mut.ensures.value) ∙ e) in
    (new.enters.0 ∙ sym (ap (λ l. l.table.shared.table_id) c.of-tablet.ensures), new.enters.1)

pub run_all-requires-clause-on : goal.run_all-requires-clause-on
run_all-requires-clause-on g c = λ κs within j p e root h.
    let new = c.split_all.ensures.each j p (ap (λ l. slice_get l j) (sym c.deref_mut.ensures.value) ∙ e) in
    let is = new_part (part p.pass) _ c.args.engine _ (suc j) new.part_is c.fill.ensures.told.2 (omega (arith, c.fill.ensures.pass.3, c.requires.own.2)) in
    subst (λ r. IsOn c.args.schema.now r.work) (root_at root (part p.pass) c.args.engine (suc j) h is) c.requires.on

pub run_all-requires-clause-rests : goal.run_all-requires-clause-rests
run_all-requires-clause-rests g c = λ κs within j p e.
    let new = c.split_all.ensures.each j p (ap (λ l. slice_get l j) (sym c.deref_mut.ensures.value) ∙ e) in
    let is = new_part (part p.pass) _ c.args.engine _ (suc j) new.part_is c.fill.ensures.told.2 (omega (arith, c.fill.ensures.pass.3, c.requires.own.2)) in
    store_rests (part p.pass) c.args.engine (suc j) is c.requires.fresh.store

pub run_all-requires-clause-idle : goal.run_all-requires-clause-idle
run_all-requires-clause-idle g c = λ κs within j p e.
    let new = c.split_all.ensures.each j p (ap (λ l. slice_get l j) (sym c.deref_mut.ensures.value) ∙ e) in
    let is = new_part (part p.pass) _ c.args.engine _ (suc j) new.part_is c.fill.ensures.told.2 (omega (arith, c.fill.ensures.pass.3, c.requires.own.2)) in
    idle_part (part p.pass) c.args.engine (suc j) is c.requires.fresh.home

pub run_all-requires-clause-runs : goal.run_all-requires-clause-runs
run_all-requires-clause-runs g c = λ κs within j p e commands at.
    let new = c.split_all.ensures.each j p (ap (λ l. slice_get l j) (sym c.deref_mut.ensures.value) ∙ e) in
    let me : number p.pass ≡ suc j = new.number_is ∙ omega (arith, c.fill.ensures.pass.3, c.requires.own.2) in
    let is = new_part (part p.pass) _ c.args.engine _ (suc j) new.part_is c.fill.ensures.told.2 (omega (arith, c.fill.ensures.pass.3, c.requires.own.2)) in
    may_run (part p.pass) (seen p.pass) (number p.pass) j c.args.engine c.args.plan.now commands is me (new.saw ∙ c.fill.ensures.told.0) c.requires.fresh c.requires.plan.0 c.requires.plan.1 at (c.requires.runs.runs j commands at) (c.requires.runs.few j commands at)

pub join_all-ends-requires-clause-back : goal.join_all-ends-requires-clause-back
join_all-ends-requires-clause-back g c =
    let same : length c.run_all.new.places ≡ length c.split_all.new.places.items = c.run_all.auto.places ∙ ap length c.deref_mut.ensures.value in
    let new = written_back c.split_all.new.places.items c.run_all.new.places c.split_all.new.places.len (search rules) same in
    subst (AreBack c.of-tablet.result.lock) (sym new) (are_back c.of-tablet.result.lock c.run_all.new.places
    (back_each (CameTo g.G.Gate.came c.args.gate.now) c.of-tablet.result.lock c.args.plan.now c.deref_mut.result.now c.run_all.new.places c.run_all.auto.places
    (λ j p e. let new = c.split_all.ensures.each j p (ap (λ l. slice_get l j) (sym c.deref_mut.ensures.value) ∙ e) in
    ((new.enters.0 ∙ sym (ap (λ l. l.table.shared.table_id) c.of-tablet.ensures), new.enters.1), new.alone, new.gives))
    c.run_all.ensures))

-- no pass has the log or the store out, as before the run
pub close-closing-requires-clause-home : goal.close-closing-requires-clause-home
close-closing-requires-clause-home g c = λ y told.
    let Came = CameTo g.G.Gate.came c.args.gate.now in
    let x = c.args.engine in
    let same : length c.run_all.new.places ≡ length c.split_all.new.places.items = c.run_all.auto.places ∙ ap length c.deref_mut.ensures.value in
    let new = written_back c.split_all.new.places.items c.run_all.new.places c.split_all.new.places.len (search rules) same in
    let count : length c.deref_mut.result.now ≡ length c.args.plan.now + c.args.workers = search rules in
    let number_is : number c.join_all-ends.new.pass ≡ 0 = search rules in
    let given_is : given c.join_all-ends.new.pass ≡ 1 + (length c.args.plan.now + c.args.workers) = search rules in
    let filled_is : filled c.join_all-ends.new.pass ≡ Some x = c.join_all-ends.ensures.gives.1 ∙ c.split_all.ensures.told.3 ∙ c.fill.ensures.told.2 in
    let Kept : Joined Event _ → Type 0 = λ q. (q.part ≡ Some (part_in y q.number)) × Follows session_of q.number q.seen y.tablet.core.trail in
    let kept = subst (Each Kept) (c.join_all-ends.ensures.joined ∙ ap (λ l. taken l (joined c.split_all.new.pass)) new) told.kept in
    let first : Some (part_in y 0) ≡ Some (part_in x 0) = ap (λ n. Some (part_in y n)) (sym number_is) ∙ sym told.its ∙ c.join_all-ends.ensures.pass.2 ∙ c.split_all.ensures.told.1 ∙ c.fill.ensures.told.1 ∙ ap (λ n. Some (part_in x n)) (c.fill.ensures.pass.0.1 ∙ c.requires.own.3) in (
      home_again Came x y c.args.plan.now c.deref_mut.result.now c.run_all.new.places
          (λ j p e. let new = c.split_all.ensures.each j p (ap (λ l. slice_get l j) (sym c.deref_mut.ensures.value) ∙ e) in new.number_is ∙ omega (arith, c.fill.ensures.pass.3, c.requires.own.2))
          c.run_all.ensures
          (λ j q e. (kept_each Kept c.run_all.new.places (joined c.split_all.new.pass) kept j q e).0)
          first
          (λ k past. told.new_parts k (omega (arith, past, count, given_is)) ∙ ap (λ o. told_of part_in o k) filled_is)
          c.requires.fresh.home,
      store_again Came x y c.args.plan.now c.deref_mut.result.now c.run_all.new.places
          (λ j p e. let new = c.split_all.ensures.each j p (ap (λ l. slice_get l j) (sym c.deref_mut.ensures.value) ∙ e) in new.number_is ∙ omega (arith, c.fill.ensures.pass.3, c.requires.own.2))
          c.run_all.ensures
          (λ j q e. (kept_each Kept c.run_all.new.places (joined c.split_all.new.pass) kept j q e).0)
          first
          (λ k past. told.new_parts k (omega (arith, past, count, given_is)) ∙ ap (λ o. told_of part_in o k) filled_is)
          c.requires.fresh.store,
    )

pub returns-clause-root : goal.returns-clause-root
returns-clause-root g c =
    let told = c.close-closing.ensures.told.1 in
    c.close-closing.ensures.told.3 ∙ same_part (part c.fill.new.pass) (part c.join_all-ends.new.pass) c.args.engine c.close-closing.ensures.told.0 _ _ c.fill.ensures.told.1 (c.join_all-ends.ensures.pass.2 ∙ c.split_all.ensures.told.1) told.its

pub returns-clause-ended : goal.returns-clause-ended
returns-clause-ended g c =
    let Came = CameTo g.G.Gate.came c.args.gate.now in
    let x = c.args.engine in
    let y = c.close-closing.ensures.told.0 in
    let told = c.close-closing.ensures.told.1 in
    let same : length c.run_all.new.places ≡ length c.split_all.new.places.items = c.run_all.auto.places ∙ ap length c.deref_mut.ensures.value in
    let new = written_back c.split_all.new.places.items c.run_all.new.places c.split_all.new.places.len (search rules) same in
    let count : length c.deref_mut.result.now ≡ length c.args.plan.now + c.args.workers = search rules in
    let all = c.join_all-ends.ensures.ends ∙ ap (map (λ p. p.end)) new in
    let many = ap length all ∙ length-map c.run_all.new.places (λ p. p.end) ∙ c.run_all.auto.places ∙ count in
    let cut = c.truncate.ensures.items in
    let root : root_of y ≡ root_of x = same_part (part c.fill.new.pass) (part c.join_all-ends.new.pass) x y _ _ c.fill.ensures.told.1 (c.join_all-ends.ensures.pass.2 ∙ c.split_all.ensures.told.1) told.its in
    let Kept : Joined Event _ → Type 0 = λ q. (q.part ≡ Some (part_in y q.number)) × Follows session_of q.number q.seen y.tablet.core.trail in
    let kept = subst (Each Kept) (c.join_all-ends.ensures.joined ∙ ap (λ l. taken l (joined c.split_all.new.pass)) new) told.kept in
    all_after Came (root_of x) c.args.plan.now y c.close-closing.result.engine _ (record {
      count = ap length cut ∙ length_take _ _ (omega (arith, many)) ∙ search rules;
      each = each_ended Came x y.tablet.core.trail c.args.plan.now c.deref_mut.result.now c.run_all.new.places _ _ (omega (arith, count)) (search rules) (cut ∙ ap (take _) all)
          (λ j p e. let new = c.split_all.ensures.each j p (ap (λ l. slice_get l j) (sym c.deref_mut.ensures.value) ∙ e) in
          (new_part (part p.pass) _ x _ (suc j) new.part_is c.fill.ensures.told.2 (omega (arith, c.fill.ensures.pass.3, c.requires.own.2)), new.number_is ∙ omega (arith, c.fill.ensures.pass.3, c.requires.own.2)))
          c.run_all.ensures
          (λ j q e. (kept_each Kept c.run_all.new.places (joined c.split_all.new.pass) kept j q e).1);
      others = λ s none. subst (λ r. TellsOwn r s [] y.tablet.core.trail) root (none_told y c.args.plan.now s c.close-closing.ensures.told.2.stands (ap (λ r. r.work.plan) root ∙ c.requires.plan.0) none);
    }) c.close-closing.ensures.told.4

pub returns-clause-rounds : goal.returns-clause-rounds
returns-clause-rounds g c =
    let Came = CameTo g.G.Gate.came c.args.gate.now in
    let y = c.close-closing.ensures.told.0 in
    let told = c.close-closing.ensures.told.1 in
    let same : length c.run_all.new.places ≡ length c.split_all.new.places.items = c.run_all.auto.places ∙ ap length c.deref_mut.ensures.value in
    let new = written_back c.split_all.new.places.items c.run_all.new.places c.split_all.new.places.len (search rules) same in
    let count : length c.deref_mut.result.now ≡ length c.args.plan.now + c.args.workers = search rules in
    let all = c.join_all-ends.ensures.ends ∙ ap (map (λ p. p.end)) new in
    let Kept : Joined Event _ → Type 0 = λ q. (q.part ≡ Some (part_in y q.number)) × Follows session_of q.number q.seen y.tablet.core.trail in
    let kept = subst (Each Kept) (c.join_all-ends.ensures.joined ∙ ap (λ l. taken l (joined c.split_all.new.pass)) new) told.kept in
    each_rounds Came y c.close-closing.result.engine c.args.plan.now c.deref_mut.result.now c.run_all.new.places _ _ (omega (arith, count)) (search rules) (c.truncate.ensures.items ∙ ap (take _) all)
    (λ j p e. let new = c.split_all.ensures.each j p (ap (λ l. slice_get l j) (sym c.deref_mut.ensures.value) ∙ e) in new.number_is ∙ omega (arith, c.fill.ensures.pass.3, c.requires.own.2))
    c.run_all.ensures
    (λ j q e. (kept_each Kept c.run_all.new.places (joined c.split_all.new.pass) kept j q e).0)
    c.close-closing.ensures.told.5

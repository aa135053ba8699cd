-- A plan is taken: the store of an engine is kept.
use Rattle.std.proofs.Common.{◌≡◌, ℕ, Bool, List, [], sym, ◌∙◌, subst}
use Rattle.kt_disk.specs.Disk.{Files}
use Rattle.kt_history.specs.declared.command.Command.{Command}
use Rattle.kt_history.specs.Machine.{Workload, first_turns}
use Rattle.kt_tablet.specs.Views.{View}
use Rattle.kt_engine.specs.Engines.{EngineView}
use Rattle.kt_engine.specs.Stored.{IsStored}
use Rattle.kt_engine.proofs.Outside.{outside_planned}
use Rattle.kt_engine.proofs.Plans.{no_plan, past_at_first}

pub plan_stored : {L D C : Type 0} (log_tells : Bool) (log_seen : L → Files) (tells : Bool) (seen : D → Files) (faults : D → ℕ) (view : EngineView L D C) → IsStored log_tells log_seen tells seen faults view → (tablet : View C) (plan : List (List Command))
    → view.tablet.core.trail ≡ [] → view.tablet.core.work.plan ≡ [] → tablet ≡ record view.tablet { core = record view.tablet.core { work = record view.tablet.core.work { plan = plan }; turns = first_turns plan } }
    → IsStored log_tells log_seen tells seen faults (record view { tablet = tablet })
plan_stored {L} {D} {C} log_tells log_seen tells seen faults view is tablet plan fresh none new =
    let work : Workload = record view.tablet.core.work { plan = plan } in
    subst (λ (t : View C). IsStored log_tells log_seen tells seen faults (record view { tablet = t })) (sym new) (record {
      run = is.run;
      all = is.all;
      count = is.count;
      stands = record { log = is.stands.log; since = is.stands.since; last = is.stands.last; flying = is.stands.flying; untold = is.stands.untold };
      keeps = λ rules first h passes t super one.
          let k = is.keeps rules first (record { closed = h.closed; opens = h.opens; holds = h.holds }) (no_plan rules view.tablet.core.work none) t super one in
          record {
            since = k.since;
            rest = k.rest;
            parts = k.parts;
            made = k.made;
            opened = k.opened;
            low = k.low;
            from = k.from;
            up = k.up;
            last = k.last;
            mark = k.mark;
            clock = k.clock;
            named = k.named;
            deltas = k.deltas;
            passes = k.passes;
            keeps = record {
              recovered = k.keeps.recovered;
              writes = k.keeps.writes ∙ past_at_first view.tablet.core.work first view.tablet.core.opened view.tablet.core.trail fresh ∙ sym (past_at_first work first view.tablet.core.opened view.tablet.core.trail fresh);
              numbers = k.keeps.numbers;
              stands = k.keeps.stands;
            };
          };
      below = is.below;
      names_below = is.names_below;
      near = is.near;
      files_near = is.files_near;
      room = is.room;
      rests = is.rests;
      jobs = is.jobs;
      outside = λ n job has at. outside_planned view.tablet view.store.meta view.store.lent view.upkeep view.records is.run job (is.outside n job has at) work (first_turns plan);
      holds = is.holds;
      files = is.files;
      columns = is.columns;
      mark = is.mark;
      marked = is.marked;
      clock = is.clock;
      low = is.low;
      later = is.later;
      home = is.home;
    })

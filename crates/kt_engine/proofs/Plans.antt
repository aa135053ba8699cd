-- The plan of the run is taken before anything has happened: the engine stands on.
use Rattle.std.proofs.Common.{◌≡◌, ℕ, zero, suc, Bool, List, [], sym, ap, subst, ◌∙◌}
use Rattle.kt_disk.specs.Disk.{Files}
use Rattle.kt_history.specs.declared.command.Command.{Command}
use Rattle.kt_history.specs.declared.event.Event.{Event}
use Rattle.kt_history.specs.History.{Past}
use Rattle.kt_history.specs.Machine.{Workload, state_after, start, first_turns, nth, command_of}
use Rattle.kt_history.specs.Machine as machine
use Rattle.kt_content.specs.Rules.{Rules, OpsPass}
use Rattle.kt_tablet.specs.Views.{View}
use Rattle.kt_engine.specs.Logged.{PlanPasses}
use Rattle.kt_engine.specs.Engines.{EngineView, IsEngine}

-- before the first line the past is the opened one
pub past_at_first : (work : Workload) (first : Past) (opened : ℕ) (trail : List Event) → trail ≡ [] → (state_after work (start work first opened) trail).past ≡ first
past_at_first work first opened trail none = ap (λ (es : List Event). (state_after work (start work first opened) es).past) none

-- any rules take what no plan has
pub no_plan : (rules : Rules) (work : Workload) → work.plan ≡ [] → PlanPasses rules work
no_plan rules work none s i = subst (λ (plan : List (List Command)). OpsPass rules work.fill (machine.ops_of (command_of (nth plan s) i))) (sym none) (nothing s)
  where
    nothing : (s : ℕ) → OpsPass rules work.fill (machine.ops_of (command_of (nth [] s) i))
    nothing zero = tt
    nothing (suc k) = tt

pub plan_keeps : {L D C : Type 0} (tells : Bool) (seen : L → Files) (now : L → ℕ) (leaves : L → ℕ → Files → Type 0) (faults : L → ℕ) (view : EngineView L D C) (tablet : View C) (plan : List (List Command))
    → IsEngine tells seen now leaves faults view → view.tablet.core.trail ≡ [] → view.tablet.core.work.plan ≡ []
    → tablet ≡ record view.tablet { core = record view.tablet.core { work = record view.tablet.core.work { plan = plan }; turns = first_turns plan } }
    → IsEngine tells seen now leaves faults (record view { tablet = tablet })
plan_keeps {L} {D} {C} tells seen now leaves faults view tablet plan is fresh none new =
    let work : Workload = record view.tablet.core.work { plan = plan } in
    subst (λ (t : View C). IsEngine tells seen now leaves faults (record view { tablet = t })) (sym new) (record {
      logged = record {
        run = is.logged.run;
        all = is.logged.all;
        count = is.logged.count;
        begins = is.logged.begins;
        stands = record { log = is.logged.stands.log; since = is.logged.stands.since; last = is.logged.stands.last; flying = is.logged.stands.flying; untold = is.logged.stands.untold };
        keeps = λ rules first h passes jobless.
            let keeps = is.logged.keeps rules first (record { closed = h.closed; opens = h.opens; holds = h.holds }) (no_plan rules view.tablet.core.work none) jobless in
            record {
              recovered = keeps.recovered;
              writes = keeps.writes ∙ past_at_first view.tablet.core.work first view.tablet.core.opened view.tablet.core.trail fresh ∙ sym (past_at_first work first view.tablet.core.opened view.tablet.core.trail fresh);
              numbers = keeps.numbers;
              stands = keeps.stands;
            };
        names = is.logged.names;
        framed = is.logged.framed;
        durable = is.logged.durable;
        acknowledged = is.logged.acknowledged;
      };
      home = λ journal h.
          let home = is.home journal h in
          record { opens = home.opens; others = home.others; later = home.later; known = home.known; rose = home.rose; images = home.images };
      others = is.others;
      lent = is.lent;
      whole = is.whole;
      stops = record { goes = is.stops.goes; stopped = is.stops.stopped };
      ready = record { room = is.ready.room; apart = is.ready.apart; spelled = is.ready.spelled; shelved = is.ready.shelved; named = is.ready.named };
      placed = is.placed;
    })

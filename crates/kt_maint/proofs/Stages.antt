-- A job that goes on, in steps that leave the tablet and its log.
use Rattle.std.proofs.Common.{◌≡◌, ◌≤◌, ◌<◌, ◌+◌, ◌++◌, ℕ, List, [], Option, Some, None, length, drop, refl, sym, ap, subst, ◌∙◌, arith}
use Rattle.kt_super.specs.declared.meta.MetaRowset.{MetaRowset}
use Rattle.kt_super.specs.declared.meta.Meta.{Meta}
use Rattle.kt_loglaws.specs.Side.{SideView}
use Rattle.kt_diskrowset.specs.declared.inputs.Inputs.{Inputs}
use Rattle.kt_diskrowset.specs.Rowset.{HeldFiles}
use Rattle.kt_tablet.specs.Views.{View}
use Rattle.kt_tablet.specs.Jobs.{rows_in_first, frozen_names}
use Rattle.kt_engine.specs.declared.upkeep.Stage.{Stage}
use Rattle.kt_engine.specs.Over.{AreLeft}
use Rattle.kt_engine.specs.Engines.{EngineView}
use Rattle.kt_engine.specs.Near.{first_number}
use Rattle.kt_engine.specs.Visits.{IsVisit}
use Rattle.kt_engine.specs.Jobs.{JobView, UpkeepView, UpkeepsView, HasRowset, HasUpkeep, IsUnpublished, upkeep_at, job_of}
use Rattle.kt_pick.specs.declared.rules.Want.{Want}
use Rattle.kt_pick.specs.declared.rules.Want.TheVariants as want
use Rattle.kt_engine.specs.JobSteps.{TakesInputs, TakesBy, AreUpTo, AtNewStage}
use Rattle.kt_maint.specs.Runs.{KeepsAsks, IsQuiet, IsReady, JobIsAt, MayAbandon}

pub some_is : {A : Type 0} (x y : A) → Some x ≡ Some y → x ≡ y
some_is x y e = cc

-- a job at a stage, and what it has from there on
abbrev pub staged : JobView → Stage → ℕ → ℕ → Option Inputs → List MetaRowset → List HeldFiles → ℕ → ℕ → JobView
staged j s bound mark inputs metas held room super = record j { stage = s; bound = bound; mark = mark; inputs = inputs; metas = metas; held = held; room = room; super = super }

-- of this pass's maintenance the job alone has changed
pub has_asks : (n : ℕ) (x : Option JobView) (o w : UpkeepsView) → HasUpkeep n (record (upkeep_at n o.passes) { job = x }) o w → w.begun ≡ o.begun → KeepsAsks n o w
has_asks n x o w h begun = record { own = h.own ∙ (λ k. record (upkeep_at n o.passes) { job = sym (ap (λ (u : UpkeepView). u.job) h.own) k }); begun = begun }

module _ {L D C : Type 0} (n : ℕ) (a b : EngineView L D C) where
  pub takes_then : (j : JobView) (s : Stage) (bound mark : ℕ) (inputs : Option Inputs) (metas : List MetaRowset) (held : List HeldFiles) (room super : ℕ) → b.tablet ≡ a.tablet → b.log ≡ a.log → b.store.meta ≡ a.store.meta
      → TakesInputs a j → TakesInputs b (staged j s bound mark inputs metas held room super)
  takes_then j s bound mark inputs metas held room super tablet log meta t = record {
    takes = by j.want t.takes;
    left = subst (λ (v : View C). AreLeft j.first_rowset (drop v.frozen (drop 1 v.names))) (sym tablet) t.left;
    below = subst (λ (m : Meta). m.next_rowset ≤ j.first_rowset) (sym meta) t.below;
    many = subst (λ (l : SideView L). j.many ≡ l.known.count + length (l.out ++ l.queued)) (sym log) t.many;
  }
    where
      by : (w : Want) → TakesBy a j w → TakesBy b (staged j s bound mark inputs metas held room super) w
      by want.Flush f = record {
        none = f.none;
        vacant = subst (λ (v : View C). rows_in_first v.core.stores ≡ []) (sym tablet) f.vacant;
        first = subst (λ (v : View C). j.last_mem < first_number v.names) (sym tablet) f.first;
        frozen = subst (λ (v : View C). AreUpTo j.last_mem (frozen_names v)) (sym tablet) f.frozen;
      }
      by (want.Compact taken) c = (
        c.0,
        record {
          some = c.1.some;
          there = λ r asked. subst (λ (v : View C). HasRowset r v.names) (sym tablet) (c.1.there r asked);
          first = subst (λ (v : View C). j.last_mem ≤ first_number v.names) (sym tablet) c.1.first;
        },
      )
      by (want.FlushDeltas r) never = absurd never
      by (want.Minor r) never = absurd never
      by (want.Major r) never = absurd never

  -- it has come further
  abbrev pub goes_on : {s : Stage} (at : JobIsAt a n s) (t : Stage) (bound mark : ℕ) (inputs : Option Inputs) (metas : List MetaRowset) (held : List HeldFiles) (room super : ℕ) → AtNewStage n (staged at.job t bound mark inputs metas held room super) a b → JobIsAt b n t
  goes_on at t bound mark inputs metas held room super h = record {
    job = staged at.job t bound mark inputs metas held room super;
    has = ap (λ (u : UpkeepView). u.job) h.upkeep.own;
    at = refl;
    want = at.want;
    output = at.output;
    free = h.begun.1 ∙ at.free;
    begun = λ e. at.begun (sym h.begun.0 ∙ e);
    given = subst (λ (v : EngineView L D C). at.job.first_rowset ≤ v.store.next_rowset) (sym h.beside) at.given;
    takes = takes_then at.job t bound mark inputs metas held room super (ap (λ (v : EngineView L D C). v.tablet) h.beside) (ap (λ (v : EngineView L D C). v.log) h.beside) (ap (λ (v : EngineView L D C). v.store.meta) h.beside) at.takes;
    as_many = subst (λ (v : View C). length v.names ≡ length v.core.stores) (sym (ap (λ (v : EngineView L D C). v.tablet) h.beside)) at.as_many;
  }

  -- nothing but what passes have of maintenance has changed, through two steps or none
  pub beside_then : (c : EngineView L D C) → b ≡ record a { upkeep = b.upkeep } → c ≡ record b { upkeep = c.upkeep } → c ≡ record a { upkeep = c.upkeep }
  beside_then c first second = second ∙ ap (λ (v : EngineView L D C). record v { upkeep = c.upkeep }) first

  pub beside_same : (c : EngineView L D C) → b ≡ record a { upkeep = b.upkeep } → c ≡ b → c ≡ record a { upkeep = c.upkeep }
  beside_same c first same = subst (λ (v : EngineView L D C). v ≡ record a { upkeep = v.upkeep }) (sym same) first

  pub quiet_stage : (job : JobView) → AtNewStage n job a b → IsVisit n a b → IsQuiet n a b
  quiet_stage job h visit = record {
    visit = visit;
    tablet = ap (λ (v : EngineView L D C). v.tablet) h.beside;
    log = ap (λ (v : EngineView L D C). v.log) h.beside;
    asks = has_asks n (Some job) a.upkeep b.upkeep h.upkeep h.begun.0;
  }

  -- it is ready as before
  pub ready_then : b.tablet ≡ a.tablet → b.log ≡ a.log → b.store.holder ≡ None → IsReady a → IsReady b
  ready_then tablet log home r = record {
    goes = ap (λ (v : View C). v.core.stopped) tablet ∙ r.goes;
    calm = ap (λ (v : View C). v.core.aloft) tablet ∙ r.calm;
    settled = (ap (λ (l : SideView L). l.queued) log ∙ r.settled.0, ap (λ (l : SideView L). l.out) log ∙ r.settled.1, ap (λ (l : SideView L). l.holder) log ∙ r.settled.2);
    home = home;
  }

  -- beside another store, which publishes the same superblock
  abbrev pub is_at_then : {s : Stage} → JobIsAt a n s → b.tablet ≡ a.tablet → b.log ≡ a.log → b.upkeep ≡ a.upkeep → b.store.meta ≡ a.store.meta → a.store.next_rowset ≤ b.store.next_rowset → JobIsAt b n s
  is_at_then {s} at tablet log upkeep meta more = record {
    job = at.job;
    has = ap (job_of n) upkeep ∙ at.has;
    at = at.at;
    want = at.want;
    output = at.output;
    free = ap (λ (u : UpkeepsView). u.publishing) upkeep ∙ at.free;
    begun = λ e. at.begun (sym (ap (λ (u : UpkeepsView). u.begun) upkeep) ∙ e);
    given = (let low = at.given in omega (arith, low, more));
    takes = takes_then at.job at.job.stage at.job.bound at.job.mark at.job.inputs at.job.metas at.job.held at.job.room at.job.super tablet log meta at.takes;
    as_many = subst (λ (v : View C). length v.names ≡ length v.core.stores) (sym tablet) at.as_many;
  }

-- a job that publishes nothing may be given up
pub may_abandon : {L D C : Type 0} (v : EngineView L D C) (n : ℕ) {s : Stage} → JobIsAt v n s → IsUnpublished s → MayAbandon v n
may_abandon v n at early = record { job = at.job; has = at.has; early = subst IsUnpublished (sym at.at) early; free = at.free }

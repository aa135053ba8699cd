-- The `stop` line of an engine that stands, and what a last append leaves.
use Rattle.std.proofs.Common.{◌≡◌, ℕ, inl, inr, true, false, Option, Some, None, refl, ap, sym, ◌∙◌, is_some}
use Rattle.kt_super.specs.declared.meta.Meta.{Meta}
use Rattle.kt_engine.specs.Jobs.{JobView, UpkeepsView, job_of}
use Rattle.kt_engine.specs.Stored.{next_super}
use Rattle.kt_serve.specs.Sessions.{has_stop}
use Rattle.kt_histlaws.specs.Events.{halted}
use Rattle.kt_tablet.specs.Views.{View}
use Rattle.kt_engine.specs.Engines.{EngineView, TellsStop}
use Rattle.kt_serve.specs.Closing.{IsDone, IsClosed, IsAtStop, MayHalt}

pub none_some : {A : Type 0} (x : A) → None ≡ Some x → ⊥
none_some x h = cc

-- a pass that has no job
pub no_job : (n : ℕ) (v : UpkeepsView) → is_some (job_of n v) ≡ false → job_of n v ≡ None
no_job n v e = by (job_of n v) e
  where
    by : (o : Option JobView) → is_some o ≡ false → o ≡ None
    by None e = refl
    by (Some job) e = absurd (cc)

pub meta_is : (sent : Option Meta) (m n : Meta) → sent ≡ Some m → sent ≡ Some n → m ≡ n
meta_is sent m n is was = cc

module _ {L D C : Type 0} where
  -- an engine that is stopped has its `stop` line at the end
  pub at_stop : (x : EngineView L D C) → TellsStop x.tablet.core → x.tablet.core.stopped ≡ true → IsAtStop x
  at_stop x stops stopped = record { stopped = stopped; last = stops.stopped stopped }

  -- one that has just been stopped is at its `stop` line
  pub just_stopped : (x y : EngineView L D C) → y.tablet ≡ record x.tablet { core = halted x.tablet.core } → IsAtStop y
  just_stopped x y e = record { stopped = ap (λ (t : View C). t.core.stopped) e; last = (x.tablet.core.trail, ap (λ (t : View C). t.core.trail) e) }

  -- nothing waits where neither the tablet nor the log has changed
  pub done_on : (x y : EngineView L D C) → IsDone x → y.tablet ≡ x.tablet → y.log ≡ x.log → IsDone y
  done_on x y done tablet log = record {
    goes = ap (λ (t : View C). t.core.stopped) tablet ∙ done.goes;
    none = ap (λ (t : View C). has_stop t.core.trail) tablet ∙ done.none;
    queued = ap (λ l. l.queued) log ∙ done.queued;
    out = ap (λ l. l.out) log ∙ done.out;
  }

  -- a superblock with the present mark and last timestamp is published, where all records are durable
  pub closed : {m : Meta} (x y : EngineView L D C) → IsDone x → m ≡ next_super x → y.tablet ≡ x.tablet → y.log ≡ x.log → y.store.whole ≡ true → y.store.meta ≡ m → IsClosed y
  closed x y done next tablet log whole meta = record {
    done = done_on x y done tablet log;
    whole = whole;
    mark = ap (λ (o : Meta). o.a) (meta ∙ next) ∙ sym (ap (λ (t : View C). t.core.a) tablet);
    last = ap (λ (o : Meta). o.c) (meta ∙ next) ∙ sym (ap (λ (t : View C). t.core.c) tablet);
    need = ap (λ (o : Meta). o.need) (meta ∙ next) ∙ sym (ap (λ l. l.known.count) log);
  }

  -- two steps, of which the first has not stopped it
  pub halts_on : (x y z : EngineView L D C) → MayHalt x y → y.tablet.core.stopped ≡ false → MayHalt y z → MayHalt x z
  halts_on x y z (inl same) goes (inl again) = inl (again ∙ same)
  halts_on x y z (inl same) goes (inr stops) = inr (stops ∙ ap (λ (t : View C). record t { core = halted t.core }) same)
  halts_on x y z (inr stops) goes rest = absurd (let no : true ≡ false = sym (ap (λ (t : View C). t.core.stopped) stops) ∙ goes in cc)

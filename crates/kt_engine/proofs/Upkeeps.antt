-- What passes have of maintenance.
use Rattle.std.proofs.Common.{◌≡◌, ℕ, Bool, true, false, List, Option, Some, None, refl, sym, ap, ◌∙◌, inl, inr}
use Rattle.std.specs.Prelude.{is_some}
use Rattle.std.proofs.lemmas.Bool.{cases_eq}
use Rattle.kt_records.specs.declared.entry.Entry.{Entry}
use Rattle.kt_disk.specs.Disk.{Files}
use Rattle.kt_engine.specs.Engines.{EngineView, IsEngine}
use Rattle.kt_engine.specs.Jobs.{JobView, UpkeepView, UpkeepsView, HasUpkeep, JobOn, job_of}

pub not_publishing : {A : Type 0} (o : Option A) → is_some o ≡ false → o ≡ None
not_publishing None e = refl
not_publishing (Some x) e = absurd (let f : true ≡ false = e in cc)

-- where a pass has another upkeep, each job is one of those from before, or its own
pub each_kept : (P : JobView → Type 0) (n : ℕ) (u : UpkeepView) (old new : UpkeepsView) → HasUpkeep n u old new → ((job : JobView) → u.job ≡ Some job → P job) → ((k : ℕ) (job : JobView) → job_of k old ≡ Some job → P job) → (k : ℕ) (job : JobView) → job_of k new ≡ Some job → P job
each_kept P n u old new has own others k job at = elim (cases_eq k n) [
  | inl same ↦ own job (sym (ap (λ (x : UpkeepView). x.job) has.own) ∙ sym (ap (λ (i : ℕ). job_of i new) same) ∙ at)
  | inr ne ↦ others k job (sym (ap (λ (x : UpkeepView). x.job) (has.others k ne)) ∙ at)
]

pub jobs_kept : (records : List Entry) (n : ℕ) (u : UpkeepView) (old new : UpkeepsView) → HasUpkeep n u old new → ((job : JobView) → u.job ≡ Some job → JobOn records job)
    → ((k : ℕ) (job : JobView) → job_of k old ≡ Some job → JobOn records job) → (k : ℕ) (job : JobView) → job_of k new ≡ Some job → JobOn records job
jobs_kept records = each_kept (JobOn records)

-- an engine stands whatever passes have of maintenance, as long as its jobs are counted
pub upkeep_keeps : {L D C : Type 0} (tells : Bool) (seen : L → Files) (now : L → ℕ) (leaves : L → ℕ → Files → Type 0) (faults : L → ℕ) (view : EngineView L D C) (upkeep : UpkeepsView) → (upkeep.begun ≡ 0 → view.upkeep.begun ≡ 0)
    → IsEngine tells seen now leaves faults view → IsEngine tells seen now leaves faults (record view { upkeep = upkeep })
upkeep_keeps tells seen now leaves faults view upkeep counted is = record {
  logged = record {
    run = is.logged.run;
    all = is.logged.all;
    count = is.logged.count;
    begins = is.logged.begins;
    stands = is.logged.stands;
    keeps = λ rules first h plan none. is.logged.keeps rules first (record { closed = h.closed; opens = h.opens; holds = h.holds }) plan (counted none);
    names = λ none. is.logged.names (counted none);
    framed = is.logged.framed;
    durable = is.logged.durable;
    acknowledged = is.logged.acknowledged;
  };
  home = λ journal h.
      let home = is.home journal h in
      record { opens = home.opens; others = home.others; later = home.later; known = home.known; rose = home.rose; images = home.images };
  others = is.others;
  lent = is.lent;
  whole = is.whole;
  stops = is.stops;
  ready = record { room = is.ready.room; apart = is.ready.apart; spelled = is.ready.spelled; shelved = is.ready.shelved; named = λ none. is.ready.named (counted none) };
  placed = is.placed;
}

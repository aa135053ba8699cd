-- What a crash leaves of both devices.
use Rattle.std.proofs.Common.{◌≡◌, ℕ, ◌+◌, ◌≤◌, max, Bool, true, false, List, [], ◌∷◌, ◌++◌, length, Some, Ok, refl, sym, ap, ◌∙◌, subst, arith, append_assoc, length-append, inl, inr}
use Rattle.std.specs.Prelude.{◌⊎◌, ◌&&◌, not, IsTrue, take}
use Rattle.std.proofs.lemmas.List.{append_cancel_left}
use Rattle.kt_base.specs.Causes.{Rose}
use Rattle.kt_disk.specs.Disk.{Files}
use Rattle.kt_history.specs.declared.target.Target.{Target}
use Rattle.kt_history.specs.History.{Past, raise}
use Rattle.kt_records.specs.declared.entry.Entry.{Entry}
use Rattle.kt_records.specs.declared.entry.CommitRow.{CommitRow}
use Rattle.kt_journal.specs.Log.{log_of, records_of, IsLog, Holds}
use Rattle.kt_loglaws.specs.Replay.{last_of}
use Rattle.kt_loglaws.specs.Fronts.{with_records, upto}
use Rattle.kt_histlaws.specs.Core.{Core, run_past}
use Rattle.kt_super.specs.declared.meta.Meta.{Meta}
use Rattle.kt_content.specs.Places.{Super}
use Rattle.kt_content.specs.Rules.{Rules}
use Rattle.kt_content.specs.Content.{IsContent as HoldsPast}
use Rattle.kt_content.specs.RunEvents.{Numbers, RecordsBelow}
use Rattle.kt_content.specs.Recovering.{low_after}
use Rattle.kt_content.proofs.Records.{told_front, order_front}
use Rattle.kt_content.proofs.Recovering.{runs_up, take_all, each_front}
use Rattle.kt_reopen.specs.Both.{super_in}
use Rattle.kt_storeside.specs.Supers.{HasSuper}
use Rattle.kt_storeside.specs.Sides.{HasEither, IsSide}
use Rattle.kt_engine.specs.Logged.{LogStands, AcknowledgedIn, KeepsFrom, KeepsSince, HoldsUpTo}
use Rattle.kt_engine.specs.Engines.{EngineView, IsContent, IsEngine, core_from}
use Rattle.kt_engine.specs.Stored.{IsOneOf, IsStored, core_at, names_at, numbers_of, RecoversPair, RecoversBoth, HasFailed}
use Rattle.kt_engine.proofs.Crashes.{front_at, acknowledged_by, last_of-front, leaves_some}
use Rattle.kt_engine.proofs.Devices.{acknowledged_longer}
use Rattle.kt_engine.proofs.Fronts.{told_climbs, front_last, upto_front}
use Rattle.kt_engine.proofs.Rising.{records_parts}
use Rattle.kt_engine.proofs.StoreEvents.{named_hold}

-- two ways to take a run apart, of which one has no fewer records in front
record Splits (since rest front behind : List Entry) : Type 0 where
  more : List Entry
  front_is : front ≡ since ++ more
  rest_is : rest ≡ more ++ behind

splits : (since rest front behind : List Entry) → since ++ rest ≡ front ++ behind → length since ≤ length front → Splits since rest front behind
splits [] rest front behind e le = record { more = front; front_is = refl; rest_is = e }
splits (x ∷ since) rest [] behind e le = absurd (omega arith)
splits (x ∷ since) rest (y ∷ front) behind e le =
    let head : y ≡ x = cc in
    let tail : since ++ rest ≡ front ++ behind = cc in
    let s = splits since rest front behind tail (omega arith) in
    record { more = s.more; front_is = λ k. head k ∷ s.front_is k; rest_is = s.rest_is }

-- A front of the records that has all that were durable as the superblock was made
since_holds : (rules : Rules) (core : Core) (super : Super) (names : List Target) (notes : List (List CommitRow)) (records run : List Entry) (places : List (ℕ × ℕ)) (durable : ℕ) (front behind : List Entry) (numbers : Numbers) (image : Files)
    → LogStands core records places run → KeepsSince rules core super names notes records run durable → run ≡ front ++ behind → durable ≤ length (records ++ front) → AcknowledgedIn (records ++ front) core.trail → RecordsBelow numbers (records ++ run)
    → log_of image ≡ Ok (records ++ front) → HoldsUpTo rules core super records numbers image
since_holds rules core super names notes records run places durable front behind numbers image log k run_is enough acknowledged below reads =
    let fill = core.work.fill in
    let base = records ++ k.since in
    let past = with_records fill core.first k.since in
    let counts = length-append records k.since in
    let counted = length-append records front in
    let s = splits k.since k.rest front behind (sym k.parts ∙ run_is) (let made = k.made in omega arith) in
    let keeps : KeepsFrom rules core super names notes base (s.more ++ behind) k.low past = subst (λ (l : List Entry). KeepsFrom rules core super names notes base l k.low past) s.rest_is k.keeps in
    let r = keeps.recovered in
    let t = low_after k.low s.more in
    let here : base ++ s.more ≡ records ++ front = append_assoc records k.since s.more ∙ ap (λ (l : List Entry). records ++ l) (sym s.front_is) in
    let whole : records ++ run ≡ (records ++ front) ++ behind = ap (λ (l : List Entry). records ++ l) run_is ∙ sym (append_assoc records front behind) in
    let order : IsLog ((records ++ front) ++ behind) = subst (λ (l : List Entry). IsLog l) whole log.log in
    let order_base : IsLog (base ++ (s.more ++ behind)) = subst (λ (l : List Entry). IsLog l) (ap (λ (l : List Entry). l ++ behind) (sym here) ∙ append_assoc base s.more behind) order in
    let climbs = told_climbs fill super k.low base (s.more ++ behind) r.told in
    let last = front_last fill past k.low s.more behind climbs base k.last in
    let up = runs_up fill super k.low base past s.more (told_front fill super k.low base s.more behind r.told) r.ends in
    let past_is : with_records fill past s.more ≡ upto t (run_past core) = sym (ap (upto t) (sym keeps.writes) ∙ upto_front fill past k.low s.more behind climbs up.0) in
    let holds = subst (λ (l : List Entry). HoldsPast rules fill super (base ++ l) (max super.c (last_of (base ++ l))) (raise (with_records fill past l) super.a)) (take_all s.more behind)
    (each_front rules fill super base (s.more ++ behind) k.low past (length s.more) order_base r) in
    let low : last_of (records ++ front) ≤ t = subst (λ (l : List Entry). last_of l ≤ t) here last.1 in
    record {
      records = records ++ front;
      reads = reads;
      log = order_front [] (records ++ front) behind order;
      run = front;
      front = refl;
      names = (records_parts numbers (records ++ front) behind (subst (RecordsBelow numbers) whole below)).0;
      t = t;
      after_opening = (let from = k.from in let l = last.0 in omega arith);
      acknowledged = acknowledged_by (records ++ front) t core.trail low acknowledged;
      since = omega (arith, k.opened, last_of-front records front);
      holds = subst (λ (l : List Entry). HoldsPast rules fill super l (max super.c (last_of l)) (raise (upto t (run_past core)) super.a)) here
          (subst (λ (p : Past). HoldsPast rules fill super (base ++ s.more) (max super.c (last_of (base ++ s.more))) (raise p super.a)) past_is holds);
      last = low;
      within = omega (arith, last_of-front (records ++ front) behind, ap last_of whole, log.last);
    }

module _ {L D C : Type 0} (log_tells : Bool) (log_seen : L → Files) (log_now : L → ℕ) (log_leaves : L → ℕ → Files → Type 0) (log_faults : L → ℕ) (tells : Bool) (seen : D → Files) (now : D → ℕ) (leaves : D → ℕ → Files → Type 0) (faults : D → ℕ)
    (view : EngineView L D C) (engine : IsEngine log_tells log_seen log_now log_leaves log_faults view) (is : IsStored log_tells log_seen tells seen faults view) where
  abbrev known : List Entry
  known = records_of (log_seen view.log.known.disk)

  abbrev waiting : List Entry
  waiting = view.log.out ++ view.log.queued

  -- both speak of one run where the log tells
  one_run : IsTrue log_tells → engine.logged.run ≡ is.run
  one_run t = append_cancel_left view.records engine.logged.run is.run (engine.logged.all t ∙ sym (is.all t))

  enough : IsTrue log_tells → (n : ℕ) (front : List Entry) → known ++ take n waiting ≡ view.records ++ front → view.log.known.count ≤ length (view.records ++ front)
  enough t n front e =
      let count : length known ≡ view.log.known.count = (let a = ap (λ (l : List Entry). length l) (is.all t) in let b = length-append known waiting in let c = is.count in omega arith) in
      let more = length-append known (take n waiting) in
      let same = ap (λ (l : List Entry). length l) e in
      omega arith

  -- which of both superblocks an image has
  record IsThat (image : Files) : Type 0 where
    meta : Meta
    one : IsOneOf view.store meta
    that : HasSuper (seen view.store.known) meta image

  the_one : (image : Files) → HasEither seen view.store image → IsThat image
  the_one image (inl was) = record { meta = view.store.meta; one = inl refl; that = was }
  the_one image (inr new) = record { meta = new.0; one = inr new.1; that = new.2 }

  -- what an image holds is told of no store, so it holds the same whatever stores the superblock is told of
  of_core : (m : Meta) (super : Super) (image : Files) (first : Past) → {rules : Rules} → HoldsUpTo rules (core_at view m (core_from view first)) super view.records (numbers_of view) image → HoldsUpTo rules (core_from view first) super view.records (numbers_of view) image
  of_core m super image first h = record { records = h.records; reads = h.reads; log = h.log; run = h.run; front = h.front; names = h.names; t = h.t; after_opening = h.after_opening; acknowledged = h.acknowledged; since = h.since; holds = h.holds; last = h.last; within = h.within }

  pub recovers_pair : RecoversPair log_tells log_seen tells seen view
  recovers_pair rules first content plan lt t n log_image image reads has =
      let at = front_at log_tells log_seen view engine.logged lt n in
      let that = the_one image has in
      let held = is.holds t that.meta that.one in
      let super = super_in that.meta held.0 in
      let at_core = core_at view that.meta (core_from view first) in
      let k = is.keeps rules first content plan t super (record { meta = that.meta; one = that.one; held = held.0; hold = held.1; is = refl }) in
      record {
        meta = that.meta;
        superblock = that.that.superblock;
        one = that.one;
        held = held.0;
        hold = named_hold that.meta held.0 (seen view.store.known) image that.that.named_are held.1;
        front = of_core that.meta super log_image first (since_holds rules at_core super (names_at view that.meta) view.tablet.notes view.records is.run view.tablet.places view.log.known.count at.durable at.rest (numbers_of view) log_image
            (record { log = is.stands.log; since = is.stands.since; last = is.stands.last; flying = is.stands.flying; untold = is.stands.untold }) k (sym (one_run lt) ∙ at.run_is) (enough lt n at.durable at.records)
            (subst (λ (l : List Entry). AcknowledgedIn l view.tablet.core.trail) at.records (acknowledged_longer known (take n waiting) view.tablet.core.trail (engine.logged.acknowledged lt)))
            is.below (reads ∙ ap Ok at.records));
      }

  -- each image of the store at home has one of both superblocks
  pub has_either : IsSide tells seen now leaves faults view.store → (IsTrue view.store.whole → (disk : D) → view.store.home ≡ Some disk → disk ≡ view.store.known)
      → (IsTrue view.store.whole → IsTrue tells → (disk : D) → view.store.home ≡ Some disk → (c : Files) → leaves disk (now disk) c → HasSuper (seen disk) view.store.meta c)
      → IsTrue tells → (disk : D) → view.store.home ≡ Some disk → (c : Files) → leaves disk (now disk) c → HasEither seen view.store c
  has_either side same crash t disk at c left = elim view.store.whole as (λ b. view.store.whole ≡ b → HasEither seen view.store c) [
    | true ↦ λ whole. inl (subst (λ (d : D). HasSuper (seen d) view.store.meta c) (same whole disk at) (crash whole t disk at c left))
    | false ↦ λ broken. side.broken broken disk at t c left
  ] refl

  pub recovers_both : (IsTrue log_tells → Holds log_now log_leaves view.log.known.disk known) → ((c : Files) (disk : D) → view.store.home ≡ Some disk → IsTrue tells → leaves disk (now disk) c → HasEither seen view.store c)
      → RecoversBoth log_tells log_now log_leaves tells now leaves view
  recovers_both held either rules first content plan lt t journal at disk store_at log_image image log_left left =
      let some = leaves_some log_tells log_seen log_now log_leaves log_faults view engine held lt journal at log_image log_left in
      recovers_pair rules first content plan lt t some.0 log_image image some.1 (either image disk store_at t left)

  pub has_failed : IsSide tells seen now leaves faults view.store → HasFailed log_faults faults view
  has_failed side = record {
    log = λ journal at. (engine.home journal at).later;
    store = λ disk at. (let a = is.later in let b = is.home disk at in omega arith);
    one = λ stopped journal at disk store_at. elim view.log.whole as (λ b. view.log.whole ≡ b → Rose (log_faults view.device) (log_faults journal.disk) ⊎ Rose (faults view.store_device) (faults disk)) [
      | false ↦ λ broken. inl ((engine.home journal at).rose broken)
      | true ↦ λ whole. inr (
          let broken : view.store.whole ≡ false = other view.log.whole view.store.whole whole (sym engine.whole ∙ stopped) in
          let rose = side.rose broken disk store_at in
          let low = is.later in
          let more = is.home disk store_at in
          omega arith
          )
    ] refl;
  }
    where
      other : (a b : Bool) → a ≡ true → not (a && b) ≡ true → b ≡ false
      other true true e h = cc
      other true false e h = refl
      other false b e h = absurd (cc)

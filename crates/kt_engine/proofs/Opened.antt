-- An engine as it is opened.
use Rattle.std.proofs.Common.{◌≡◌, ◌≢◌, ℕ, suc, ◌≤◌, ◌^◌, max, List, [], ◌∷◌, ◌++◌, length, map, Some, None, refl, sym, true, false, Bool, ap, ◌∙◌, subst, arith, length-append}
use Rattle.std.specs.Prelude.{not, IsTrue}
use Rattle.std.specs.List.{All}
use Rattle.std.proofs.lemmas.List.{append-nil}
use Rattle.kt_disk.specs.Disk.{Files}
use Rattle.kt_history.specs.declared.operation.OpKind.TheVariants.{Insert}
use Rattle.kt_history.specs.declared.target.Target.{Target}
use Rattle.kt_history.specs.declared.event.Event.{Event}
use Rattle.kt_history.specs.declared.event.Event.TheVariants.{Stop}
use Rattle.kt_history.specs.History.{Past, IsPastUpTo, raise}
use Rattle.kt_history.specs.Operations.{share_key}
use Rattle.kt_history.specs.Machine.{start, state_after}
use Rattle.kt_history.specs.Rows.{Row}
use Rattle.kt_records.specs.declared.entry.Entry.{Entry}
use Rattle.kt_records.specs.declared.entry.Entry.TheVariants.{Replicate, Commit}
use Rattle.kt_records.specs.declared.entry.CommitRow.{CommitRow}
use Rattle.kt_journal.specs.Log.{records_of, IsLog, CanOpen}
use Rattle.kt_journal.specs.Order.{newest_first}
use Rattle.kt_journal.specs.Open.{JournalView}
use Rattle.kt_loglaws.specs.Replay.{last_of}
use Rattle.kt_loglaws.specs.Fronts.{with_records}
use Rattle.kt_histlaws.specs.Pending.{Aloft}
use Rattle.kt_histlaws.specs.Core.{Core}
use Rattle.kt_histlaws.specs.Histories.{hists, past_hist}
use Rattle.kt_content.specs.Places.{Super}
use Rattle.kt_content.specs.Rules.{Rules, AreRules, RecordsPass}
use Rattle.kt_content.specs.KeyOps.{seen}
use Rattle.kt_content.specs.Content.{AreTold, HoldsKey, IsContent as HoldsPast}
use Rattle.kt_content.specs.Records.{AllTold}
use Rattle.kt_content.specs.InMemory.{Mirrors}
use Rattle.kt_content.specs.Recovering.{IsRecovered, low_after}
use Rattle.kt_content.specs.RunEvents.{Numbers, NumbersAreFresh}
use Rattle.kt_content.proofs.OwedQueued.{queued_stands}
use Rattle.kt_content.proofs.Recovering.{all_hold}
use Rattle.kt_tablet.specs.Views.{View, Opens}
use Rattle.kt_storeside.specs.Sides.{StoreView}
use Rattle.kt_engine.specs.Memory.{name_of, by_name, named_writes, resident, AreNamed}
use Rattle.kt_engine.specs.Logged.{Waits, UntoldFly, AreCommits, TakesUp, AreApart, AcknowledgedIn, IsDurable, NamesOnly, KeepsRun}
use Rattle.kt_engine.specs.Over.{AreShelved}
use Rattle.kt_engine.specs.Engines.{EngineView, KeepsOthers, IsHome, IsEngine}
use Rattle.kt_engine.specs.Jobs.{no_upkeep}
use Rattle.kt_engine.specs.Near.{first_number}
use Rattle.kt_engine.specs.Stored.{next_given}
use Rattle.kt_engine.proofs.Commits.{all_fit}
use Rattle.kt_engine.proofs.Lists.{all_none}
use Rattle.kt_engine.proofs.Raised.{raise_at}
use Rattle.kt_engine.proofs.Waiting.{keys_told}
use Rattle.kt_engine.proofs.Records.{order_rest, framed_all}

-- COMMITs add no write, no operation that rules would have to take, and no timestamp
commits_write : (fill : Row) (past : Past) (queued : List Entry) → AreCommits queued → with_records fill past queued ≡ past
commits_write fill past [] h = refl
commits_write fill past (Replicate ts ops ∷ queued) h = absurd h
commits_write fill past (Commit ts rows ∷ queued) h = commits_write fill past queued h

commits_pass : (rules : Rules) (fill : Row) (queued : List Entry) → AreCommits queued → RecordsPass rules fill queued
commits_pass rules fill [] h = tt
commits_pass rules fill (Replicate ts ops ∷ queued) h = absurd h
commits_pass rules fill (Commit ts rows ∷ queued) h = commits_pass rules fill queued h

commits_up : (low : ℕ) (queued : List Entry) → AreCommits queued → low_after low queued ≡ low
commits_up low [] h = refl
commits_up low (Replicate ts ops ∷ queued) h = absurd h
commits_up low (Commit ts rows ∷ queued) h = commits_up low queued h

-- with the COMMITs that it owed each write of the log has its own
all_told : (all : List Entry) (q : List ℕ) → IsLog all → UntoldFly all [] → AreTold (seen q all all)
all_told all q log untold = (keys_told all [] [] (record { kind = Insert; key = q; cells = [] } ∷ []) log (all_none (Waits all [])) untold (all_none (λ (w : Aloft). share_key (record { kind = Insert; key = q; cells = [] } ∷ []) w.ops ≡ false))).0

-- It keeps the run of each past that a superblock and the records hold, where the COMMITs that it owed are told and its stores mirror what both hold.
pub keeps_opened : (rules : Rules) (core : Core) (super : Super) (names : List Target) (notes : List (List CommitRow)) (records queued : List Entry) (numbers : Numbers) → core.trail ≡ [] → core.aloft ≡ []
    → IsLog (records ++ queued) → UntoldFly (records ++ queued) [] → core.opened ≤ core.c → last_of (records ++ queued) ≤ core.c → AreCommits queued
    → IsPastUpTo core.opened core.first → HoldsPast rules core.work.fill super records core.opened core.first → AllTold core.work.fill super core.opened records queued
    → ((q : List ℕ) → (h : HoldsKey core.work.fill super (records ++ queued) q (past_hist q core.first)) → Mirrors super.a super (by_name names (hists q core.stores)) h.held)
    → NumbersAreFresh super (records ++ queued) (map name_of names) numbers → KeepsRun rules core super names notes records queued
keeps_opened rules core super names notes records queued numbers trail aloft log untold since last commits ends holds told mirrors above =
    let fill = core.work.fill in
    let past = core.first in
    let low = core.opened in
    let none = commits_write fill past queued commits in
    let itself : raise past super.a ≡ past = raise_at past super.a holds.mark holds.ends.is in
    let recovered : IsRecovered rules fill super records queued low past = record {
      content = subst (λ (p : Past). HoldsPast rules fill super records (max super.c (last_of records)) p) (sym itself) (subst (λ (c : ℕ). HoldsPast rules fill super records c past) holds.last holds);
      told = told;
      ends = ends;
      marked = omega (arith, holds.mark);
      low_enough = let m = ends.mark in omega (arith, holds.mark);
      passes = commits_pass rules fill queued commits;
    } in
    let is : HoldsPast rules fill super (records ++ queued) (max super.c (last_of (records ++ queued))) past =
    subst (λ (p : Past). HoldsPast rules fill super (records ++ queued) (max super.c (last_of (records ++ queued))) p) (ap (λ (p : Past). raise p super.a) none ∙ itself) (all_hold rules fill super records queued low past log recovered) in
    let le : max super.c (last_of (records ++ queued)) ≤ core.c = let l = holds.last in omega arith in
    let up : low_after low queued ≤ core.c = subst (λ (n : ℕ). n ≤ core.c) (sym (commits_up low queued commits)) since in
    record {
      recovered = recovered;
      writes = none ∙ ap (λ (es : List Event). (state_after core.work (start core.work past low) es).past) (sym trail);
      numbers = numbers;
      stands = queued_stands rules fill super records queued (max super.c (last_of (records ++ queued))) low past (resident core names notes numbers) is recovered none le up
          (ap (λ (ws : List Aloft). named_writes ws notes) aloft) (λ q. mirrors q (is.keys q)) (λ q. all_told (records ++ queued) q log untold) above;
    }

-- what an engine is opened of, where nothing has happened yet
abbrev pub opened_view : {L D C : Type 0} → View C → JournalView L → List Entry → Super → List Entry → StoreView D → D → L → EngineView L D C
opened_view tablet journal records super queued store store_device device = record {
  tablet = tablet;
  log = record { home = Some journal; known = journal; holder = None; out = []; queued = queued; room = 0; whole = true; first = journal.disk };
  records = records;
  super = super;
  device = device;
  store = store;
  store_device = store_device;
  running = [];
  upkeep = no_upkeep;
  first_file = store.next_file;
  first_rowset = store.next_rowset;
  found = tablet.names;
}

pub is_opened : {L D C : Type 0} (tells : Bool) (seen : L → Files) (now : L → ℕ) (leaves : L → ℕ → Files → Type 0) (faults : L → ℕ) (tablet : View C) (journal : JournalView L) (records : List Entry) (super : Super) (queued : List Entry) (store : StoreView D) (store_device : D) (device : L)
    → IsTrue store.whole → tablet.core.trail ≡ [] → tablet.core.aloft ≡ [] → tablet.core.stopped ≡ false → map (λ p. p.0) tablet.places ≡ map (λ w. w.s) tablet.core.aloft
    → AreNamed super tablet.names → AreShelved (suc tablet.frozen) (2 ^ 64) tablet.names → IsLog (records ++ queued) → AreCommits queued
    → ((rules : Rules) (first : Past) → AreRules rules → Opens tablet.opening tablet.mark tablet.core.opened first → HoldsPast rules tablet.core.work.fill super records tablet.core.opened first → TakesUp rules tablet.core.work.fill super tablet.names tablet.core.stores records queued tablet.core.opened first)
    → (numbers : Numbers) × NumbersAreFresh super (records ++ queued) (map name_of tablet.names) numbers × (numbers.next ≤ next_given store.next_rowset) × (numbers.active ≤ first_number tablet.names) → UntoldFly (records ++ queued) tablet.core.aloft → tablet.core.opened ≤ tablet.core.c
    → last_of (records ++ queued) ≤ tablet.core.c → All (NamesOnly tablet.names) queued → journal.count ≡ length records
    → (IsTrue tells → records_of (seen journal.disk) ≡ records)
    → (IsTrue tells → CanOpen now leaves journal.disk) → (IsTrue tells → KeepsOthers now leaves device journal.disk) → faults device ≤ faults journal.disk
    → IsEngine tells seen now leaves faults (opened_view tablet journal records super queued store store_device device)
is_opened tells seen now leaves faults tablet journal records super queued store store_device device whole trail aloft stopped placed named shelved log commits taken numbers untold since last names count reads openable others later = record {
  logged = record {
    run = queued;
    all = λ t. ap (λ l. l ++ queued) (sym (reads t));
    count = omega (arith, length-append records queued);
    begins = λ t. ([], reads t ∙ sym (append-nil records));
    stands = record {
      log = log;
      since = since;
      last = last;
      flying = subst (λ (ws : List Aloft). All (Waits (records ++ queued) tablet.places) ws) (sym aloft) (all_none (Waits (records ++ queued) tablet.places));
      untold = untold;
    };
    keeps = λ rules past is plan jobless.
        let none : UntoldFly (records ++ queued) [] = subst (λ (ws : List Aloft). UntoldFly (records ++ queued) ws) aloft untold in
        let up = taken rules past is.closed is.opens is.holds in
        keeps_opened rules (record tablet.core { first = past }) super tablet.names tablet.notes records queued numbers.0 trail aloft log none since last commits is.opens.ends is.holds up.told up.mirrors numbers.1;
    names = λ jobless. names;
    framed = framed_all (newest_first [] records) queued (order_rest [] records queued log);
    durable = λ t. subst (λ (ws : List Aloft). All (IsDurable (records_of (seen journal.disk))) ws) (sym aloft) (all_none (IsDurable (records_of (seen journal.disk))));
    acknowledged = λ t. subst (λ (es : List Event). AcknowledgedIn (records_of (seen journal.disk)) es) (sym trail) tt;
  };
  home = λ other at. let is : journal ≡ other = cc in subst (λ (j : JournalView _). IsHome tells seen now leaves faults (opened_view tablet journal records super queued store store_device device) j) is (record { opens = openable; others = others; later = later; known = λ k. (refl, refl); rose = λ broken. absurd (let no : true ≡ false = broken in cc); images = λ broken. absurd (let no : true ≡ false = broken in cc) });
  others = others;
  lent = λ by out. absurd (let no : None ≡ Some by = out in cc);
  whole = stopped ∙ ap not (sym whole);
  stops = record { goes = λ k. subst (λ (es : List Event). All (λ e. e ≢ Stop) es) (sym trail) (all_none (λ e. e ≢ Stop)); stopped = λ stops. absurd (goes stops) };
  ready = record {
    room = subst (λ (ws : List Aloft). length ws ≤ 0) (sym aloft) (omega arith);
    apart = subst AreApart (sym aloft) tt;
    spelled = all_fit super tablet.names named.each;
    shelved = shelved;
    named = λ jobless. named;
  };
  placed = placed;
}
  where
    goes : tablet.core.stopped ≡ true → ⊥
    goes stops = let no : true ≡ false = sym stops ∙ stopped in cc

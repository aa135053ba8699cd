-- The store of an engine as it is opened.
use Rattle.std.proofs.Common.{◌≡◌, ℕ, ◌≤◌, List, [], ◌++◌, length, map, Some, None, refl, sym, Bool, ap, ◌∙◌, subst, arith, length-append, inl, inr}
use Rattle.std.specs.Prelude.{IsTrue}
use Rattle.std.specs.List.{All}
use Rattle.std.proofs.lemmas.List.{append-nil}
use Rattle.kt_disk.specs.Disk.{Files}
use Rattle.kt_history.specs.declared.event.Event.{Event}
use Rattle.kt_history.specs.History.{Past}
use Rattle.kt_records.specs.declared.entry.Entry.{Entry}
use Rattle.kt_journal.specs.Log.{records_of, IsLog}
use Rattle.kt_journal.specs.Open.{JournalView}
use Rattle.kt_loglaws.specs.Replay.{last_of}
use Rattle.kt_histlaws.specs.Pending.{Aloft}
use Rattle.kt_super.specs.declared.meta.Meta.{Meta}
use Rattle.kt_diskrowset.specs.Rowset.{HeldFiles}
use Rattle.kt_files.specs.Named.{AreNamed as AreEachNamed}
use Rattle.kt_files.specs.Reading.{HoldAll}
use Rattle.kt_files.proofs.OneHolding.{all_one}
use Rattle.kt_content.specs.Places.{Super}
use Rattle.kt_content.specs.Rules.{Rules, AreRules}
use Rattle.kt_content.specs.Content.{IsContent as HoldsPast}
use Rattle.kt_content.specs.RunEvents.{Numbers, NumbersAreFresh}
use Rattle.kt_reopen.specs.Both.{super_in}
use Rattle.kt_reopen.specs.Opened.{AreReadOf}
use Rattle.kt_storeside.specs.Sides.{StoreView}
use Rattle.kt_tablet.specs.Views.{View, Opens}
use Rattle.kt_engine.specs.Memory.{name_of, AreNamed}
use Rattle.kt_engine.specs.Logged.{Waits, UntoldFly, AreCommits, NamesOnly, TakesUp, DeltasBelow, KeepsFrom, KeepsSince}
use Rattle.kt_engine.specs.Engines.{IsContent}
use Rattle.kt_engine.specs.Files.{AreFiled}
use Rattle.kt_engine.specs.Near.{first_number, LeavesRoom}
use Rattle.kt_engine.proofs.Filed.{filed_read}
use Rattle.kt_engine.proofs.Near.{near_opened}
use Rattle.kt_engine.specs.Stored.{IsMarkOf, IsSuperOf, IsStored, next_given}
use Rattle.kt_engine.proofs.Rising.{records_rise, names_rise}
use Rattle.kt_engine.proofs.Lists.{all_none}
use Rattle.kt_engine.proofs.Marks.{of_each}
use Rattle.kt_engine.proofs.Opened.{opened_view, keeps_opened}

-- what the published superblock says is one thing, where the store tells its files
one_super : {D : Type 0} (seen : D → Files) (store : StoreView D) (super other : Super) → store.lent ≡ None → (held : List HeldFiles) × HoldAll (seen store.known) store.meta.rowsets held × (super ≡ super_in store.meta held) → IsSuperOf seen store other → other ≡ super
one_super seen store super other none found one = elim one.one [
  | inl was ↦ (
      let hold : HoldAll (seen store.known) store.meta.rowsets one.held = subst (λ (m : Meta). HoldAll (seen store.known) m.rowsets one.held) was one.hold in
      one.is ∙ ap (λ (m : Meta). super_in m one.held) was ∙ ap (super_in store.meta) (all_one (seen store.known) store.meta.rowsets one.held found.0 hold found.1) ∙ sym found.2
      )
  | inr new ↦ absurd (let no : None ≡ Some one.meta = sym none ∙ new in cc)
]

pub store_opened : {L D C : Type 0} (log_tells : Bool) (log_seen : L → Files) (tells : Bool) (seen : D → Files) (faults : D → ℕ) (tablet : View C) (journal : JournalView L) (records : List Entry) (super : Super) (queued : List Entry) (store : StoreView D) (store_device : D) (device : L)
    → tablet.core.trail ≡ [] → tablet.core.aloft ≡ [] → IsLog (records ++ queued) → AreCommits queued
    → ((rules : Rules) (first : Past) → AreRules rules → Opens tablet.opening tablet.mark tablet.core.opened first → HoldsPast rules tablet.core.work.fill super records tablet.core.opened first → TakesUp rules tablet.core.work.fill super tablet.names tablet.core.stores records queued tablet.core.opened first)
    → (numbers : Numbers) × NumbersAreFresh super (records ++ queued) (map name_of tablet.names) numbers × (numbers.next ≤ next_given store.next_rowset) × (numbers.active ≤ first_number tablet.names) → UntoldFly (records ++ queued) tablet.core.aloft → tablet.core.opened ≤ tablet.core.c → last_of (records ++ queued) ≤ tablet.core.c
    → journal.count ≡ length records → (IsTrue log_tells → records_of (log_seen journal.disk) ≡ records)
    → store.lent ≡ None → (IsTrue tells → (held : List HeldFiles) × HoldAll (seen store.known) store.meta.rowsets held × (super ≡ super_in store.meta held))
    → (held : List HeldFiles) × AreEachNamed store.meta.rowsets held × AreReadOf held tablet.files × (IsTrue tells → HoldAll (seen store.known) store.meta.rowsets held) → (store.meta.a ≡ tablet.mark) × (tablet.core.a ≡ tablet.mark) → store.meta.c ≤ tablet.core.c → AreNamed super tablet.names → DeltasBelow tablet.names (records ++ queued) → All (NamesOnly tablet.names) queued → faults store_device ≤ faults store.known
    → ((disk : D) → store.home ≡ Some disk → disk ≡ store.known) → LeavesRoom tablet.names store.next_rowset store.first.most
    → IsStored log_tells log_seen tells seen faults (opened_view tablet journal records super queued store store_device device)
store_opened {L} {D} {C} log_tells log_seen tells seen faults tablet journal records super queued store store_device device trail aloft log commits taken numbers untold since last count reads none found filed mark clock named deltas only later at_home room = record {
  run = queued;
  all = λ t. ap (λ l. l ++ queued) (sym (reads t));
  count = omega (arith, length-append records queued);
  stands = record {
    log = log;
    since = since;
    last = last;
    flying = subst (λ (ws : List Aloft). All (Waits (records ++ queued) tablet.places) ws) (sym aloft) (all_none (Waits (records ++ queued) tablet.places));
    untold = untold;
  };
  keeps = λ rules first h plan t other one. subst (λ (s : Super). KeepsSince rules (record tablet.core { first = first }) s tablet.names tablet.notes records queued journal.count) (sym (one_super seen store super other none (found t) one)) (
      let up = taken rules first h.closed h.opens h.holds in
      let untold_none : UntoldFly (records ++ queued) [] = subst (λ (ws : List Aloft). UntoldFly (records ++ queued) ws) aloft untold in
      let c = h.holds.last in
      record {
        since = [];
        rest = queued;
        parts = refl;
        made = omega (arith, count, ap (λ (l : List Entry). length l) (append-nil records));
        opened = omega (arith, c);
        low = tablet.core.opened;
        from = omega arith;
        up = since;
        last = omega (arith, c, ap last_of (append-nil records));
        mark = (let of_super = ap (λ (s : Super). s.a) (found t).2 in let of_run = mark.0 in let of_tablet = mark.1 in omega arith);
        clock = omega (arith, c, since);
        named = named;
        deltas = deltas;
        passes = up.passes;
        keeps = subst (λ (l : List Entry). KeepsFrom rules (record tablet.core { first = first }) super tablet.names tablet.notes l queued tablet.core.opened first) (sym (append-nil records))
            (keeps_opened rules (record tablet.core { first = first }) super tablet.names tablet.notes records queued numbers.0 trail aloft log untold_none since last commits h.opens.ends h.holds up.told up.mirrors numbers.1);
      });
  below = records_rise numbers.0 given (records ++ queued) numbers.2 numbers.3 numbers.1.records_below;
  names_below = names_rise numbers.0 given (map name_of tablet.names) numbers.2 numbers.3 numbers.1.stores;
  near = near_opened tablet.names store.next_rowset queued only;
  files_near = omega arith;
  room = room;
  rests = inl refl;
  jobs = λ n job has. absurd (let no : None ≡ Some job = has in cc);
  outside = λ n job has at. absurd (let no : None ≡ Some job = has in cc);
  holds = λ t m one. elim one [ inl was ↦ (let f = found t in (f.0, subst (λ (o : Meta). HoldAll (seen store.known) o.rowsets f.0) (sym was) f.1)) | inr new ↦ absurd (let no : None ≡ Some m = sym none ∙ new in cc) ];
  files = λ m one. elim one [
    | inl was ↦ subst (λ (o : Meta). AreFiled tells (seen store.known) o.rowsets tablet.files) (sym was) (filed_read tells (seen store.known) store.meta.rowsets filed.0 tablet.files filed.1 filed.2 filed.3)
    | inr new ↦ absurd (let no : None ≡ Some m = sym none ∙ new in cc)
  ];
  columns = λ m new. absurd (let no : None ≡ Some m = sym none ∙ new in cc);
  mark = subst (λ (es : List Event). IsMarkOf tablet.mark es tablet.core.a) (sym trail) mark.1;
  marked = of_each (λ (o : Meta). IsMarkOf tablet.mark tablet.core.trail o.a) store (subst (λ (es : List Event). IsMarkOf tablet.mark es store.meta.a) (sym trail) mark.0) (λ m new. absurd (let no : None ≡ Some m = sym none ∙ new in cc));
  clock = of_each (λ (o : Meta). o.c ≤ tablet.core.c) store clock (λ m new. absurd (let no : None ≡ Some m = sym none ∙ new in cc));
  low = of_each (λ (o : Meta). o.a ≤ tablet.core.a) store (omega (arith, mark.0, mark.1)) (λ m new. absurd (let no : None ≡ Some m = sym none ∙ new in cc));
  later = later;
  home = λ disk at. subst (λ (d : D). faults store.known ≤ faults d) (sym (at_home disk at)) (omega arith);
}
  where
    given : Numbers
    given = record { next = next_given store.next_rowset; active = first_number tablet.names; deltas = [] }

-- How far a log is done on the stores.
use Rattle.std.proofs.Common.{◌≡◌, ◌≤◌, ◌<◌, ℕ, ◌+◌, List, [], ◌∷◌, ◌++◌, Option, Some, None, Ok, Err, true, false, refl, sym, ap, ◌∙◌, subst, arith, append_assoc}
use Rattle.std.specs.Prelude.{nat_lt}
use Rattle.std.specs.List.{AllByRecursion}
use Rattle.std.proofs.lemmas.List.{append-nil}
use Rattle.std.proofs.lemmas.Bool.Decides.{nat_tests}
use Rattle.kt_history.specs.declared.operation.RowOp.{RowOp}
use Rattle.kt_history.specs.declared.target.Target.{Target}
use Rattle.kt_history.specs.Rows.{Row}
use Rattle.kt_history.specs.Operations.{need}
use Rattle.kt_history.specs.Stores.{Steps, Under, hist_in}
use Rattle.kt_histlaws.specs.Flights.{AllOps}
use Rattle.kt_records.specs.declared.entry.CommitRow.{CommitRow}
use Rattle.kt_records.specs.declared.entry.Entry.{Entry}
use Rattle.kt_records.specs.declared.entry.Entry.TheVariants.{Replicate, Commit}
use Rattle.kt_journal.specs.Log.{IsLog}
use Rattle.kt_journal.specs.Order.{last_ts, is_above, InOrder}
use Rattle.kt_loglaws.specs.Replay.{commit_of}
use Rattle.kt_pool.specs.Contents.{Contents}
use Rattle.kt_memrowset.specs.Stores.{is_frozen}
use Rattle.kt_memrowset.specs.Stores as mem
use Rattle.kt_diskrowset.specs.declared.rowset.DiskRowSet.{DiskRowSet}
use Rattle.kt_diskrowset.specs.Joining.{KeyUnder}
use Rattle.kt_diskrowset.specs.Rowset.{fresh_of}
use Rattle.kt_super.specs.declared.meta.Meta.{Meta}
use Rattle.kt_content.specs.Places.{Place}
use Rattle.kt_content.specs.Opening.{AreWrites, HasRows, write_opened, then_opened, opened}
use Rattle.kt_content.proofs.Writes.{writes_have_rows}
use Rattle.kt_reopen.specs.declared.stores.Opening.{Opening}
use Rattle.kt_reopen.specs.Bare.{bare, places_under, PlacesApart}
use Rattle.kt_reopen.specs.Needed.{AreFew, replayed, needs_of}
use Rattle.kt_reopen.specs.Owed.{rows_told, unless_told, then_owed, owed}
use Rattle.kt_reopen.specs.Standing.{placed, places_in, AreKeptIn, AllUnder, Ends}
use Rattle.kt_reopen.specs.Steps.{DoesAll, DoesLog}
use Rattle.kt_reopen.specs.Walks.{MayDo, MayDoAll, NamesEach}
use Rattle.kt_reopen.proofs.Few.{few_in_log}
use Rattle.kt_reopen.proofs.WritesDone.{ends_on, names_on}

-- the writes of the log are done but for these, and these COMMITs are queued
pub record Along (m : Meta) (all : List Entry) (o t : Opening) (queued rest : List Entry) : Type 0 where
  pub before : List Entry
  pub order : InOrder before rest
  pub writes : AreWrites all rest
  pub few : (ts : ℕ) → AreFew (commit_of ts all)
  pub ends : Ends o t
  pub thawed : is_frozen t.mem ≡ false
  pub places : places_in t ≡ places_under (bare m)
  pub apart : PlacesApart (places_in t)
  pub under : (ts : ℕ) → is_above (last_ts before) ts ≡ true → AllUnder ts t
  pub room : needs_of (bare m) all rest ≤ t.pool.reserved
  pub goes_on : (fill : Row) → opened fill (bare m) all (placed fill t) rest ≡ opened fill (bare m) all (placed fill o) all
  pub owes : (fill : Row) (name : Place → Target) → NamesEach name o → queued ++ owed fill (bare m) name all (placed fill t) rest ≡ owed fill (bare m) name all (placed fill o) all

pub along_first : (m : Meta) (all : List Entry) (o : Opening) (queued : List Entry) → IsLog all → AreKeptIn o → is_frozen o.mem ≡ false → places_in o ≡ places_under (bare m) → PlacesApart (places_in o) → ((ts : ℕ) → AllUnder ts o)
    → needs_of (bare m) all all ≤ o.pool.reserved → queued ≡ [] → Along m all o o queued all
along_first m all o queued log kept thawed places apart under room none = record {
  before = [];
  order = log;
  writes = writes_have_rows all log;
  few = λ ts. few_in_log ts [] all log;
  ends = record { kept = kept; places = refl; names = refl; files = refl; open_ = refl; even = refl; size = refl };
  thawed = thawed;
  places = places;
  apart = apart;
  under = λ ts up. under ts;
  room = room;
  goes_on = λ fill. refl;
  owes = λ fill name named. ap (λ (q : List Entry). q ++ owed fill (bare m) name all (placed fill o) all) none;
}

pub over_commit : (m : Meta) (all : List Entry) (o t : Opening) (queued : List Entry) (ts : ℕ) (rows : List CommitRow) (rest : List Entry) → Along m all o t queued (Commit ts rows ∷ rest) → Along m all o t queued rest
over_commit m all o t queued ts rows rest a = record {
  before = Commit ts rows ∷ a.before;
  order = a.order.2;
  writes = a.writes;
  few = a.few;
  ends = a.ends;
  thawed = a.thawed;
  places = a.places;
  apart = a.apart;
  under = a.under;
  room = a.room;
  goes_on = a.goes_on;
  owes = a.owes;
}

from_test : (a b : ℕ) → nat_lt a b ≡ true → a < b
from_test a b h = grind (arith, nat_tests)

-- what lies below a time lies below a later one
under_more : (ts n : ℕ) (steps : Steps) → ts < n → Under ts steps → Under n steps
under_more ts n [] lt h = tt
under_more ts n (c ∷ steps) lt h = (let low = h.0 in omega arith, under_more ts n steps lt h.1)

rowsets_more : (ts n : ℕ) (q : List ℕ) (pool : Contents) (rowsets : List DiskRowSet) → ts < n → AllByRecursion (λ (d : DiskRowSet). KeyUnder ts q d pool) rowsets → AllByRecursion (λ (d : DiskRowSet). KeyUnder n q d pool) rowsets
rowsets_more ts n q pool [] lt h = tt
rowsets_more ts n q pool (d ∷ rowsets) lt h = ((λ found e. under_more ts n (fresh_of d pool found.0) lt (h.0 found e)), rowsets_more ts n q pool rowsets lt h.1)

pub under_later : (ts n : ℕ) (o : Opening) → ts < n → AllUnder ts o → AllUnder n o
under_later ts n o lt h q = record {
  mem = under_more ts n (hist_in q (mem.store_of o.mem o.pool)).steps lt (h q).mem;
  rowsets = rowsets_more ts n q o.pool o.rowsets.items lt (h q).rowsets;
}

told_more : (commit : Option (List CommitRow)) (r : Entry) (queued rest : List Entry) → (queued ++ unless_told commit r []) ++ rest ≡ queued ++ unless_told commit r rest
told_more None r queued rest = append_assoc queued (r ∷ []) rest
told_more (Some rows) r queued rest = ap (λ q. q ++ rest) (append-nil queued)

module _ (m : Meta) (all : List Entry) (o t : Opening) (queued : List Entry) (ts : ℕ) (ops : List RowOp) (rest : List Entry) (a : Along m all o t queued (Replicate ts ops ∷ rest)) (commit : Option (List CommitRow)) (its : commit ≡ commit_of ts all) where
  may_each : (xs : List RowOp) → AllOps (λ (op : RowOp). MayDo t ts op.key) xs
  may_each [] = tt
  may_each (x ∷ xs) = (record { kept = a.ends.kept; apart = a.apart; thawed = a.thawed; under = a.under ts a.order.1 x.key }, may_each xs)

  needs_all : need (replayed (bare m) ops commit) + needs_of (bare m) all rest ≤ t.pool.reserved
  needs_all = subst (λ c. need (replayed (bare m) ops c) + needs_of (bare m) all rest ≤ t.pool.reserved) (sym its) a.room

  -- the operations of the write may be done
  pub may_write : MayDoAll t m ts ops commit
  may_write = record {
    kept = a.ends.kept;
    apart = a.apart;
    thawed = a.thawed;
    may = may_each ops;
    places = a.places;
    keys = a.writes.0;
    rows = subst (HasRows ops) (sym its) a.writes.1;
    few = subst AreFew (sym its) (a.few ts);
    room = (let enough = needs_all in omega arith);
  }

  opened_here : (fill : Row) → opened fill (bare m) all (placed fill o) all ≡ then_opened (λ s. opened fill (bare m) all s rest) (write_opened fill (bare m) ts ops commit (placed fill t))
  opened_here fill = sym (a.goes_on fill) ∙ ap (λ c. then_opened (λ s. opened fill (bare m) all s rest) (write_opened fill (bare m) ts ops c (placed fill t))) (sym its)

  -- and are done
  pub over_write : (u : Opening) (more : List Entry) → DoesAll t u m ts ops commit
      → ((fill : Row) (name : Place → Target) → NamesEach name t → more ≡ queued ++ unless_told commit (Commit ts (rows_told fill name ts ops (placed fill t))) []) → Along m all o u more rest
  over_write u more done adds = record {
    before = Replicate ts ops ∷ a.before;
    order = a.order.2;
    writes = a.writes.2;
    few = a.few;
    ends = ends_on o t u a.ends done.goes.ends;
    thawed = done.goes.ends.open_ ∙ a.thawed;
    places = done.goes.ends.places ∙ a.places;
    apart = subst PlacesApart (sym done.goes.ends.places) a.apart;
    under = λ n up. done.goes.later n (from_test ts n up) (under_later ts n t (from_test ts n up) (a.under ts a.order.1));
    room = done.goes.room (needs_of (bare m) all rest) needs_all;
    goes_on = λ fill. sym (opened_here fill ∙ ap (then_opened (λ s. opened fill (bare m) all s rest)) (done.opened_is fill));
    owes = λ fill name named.
        let commits = Commit ts (rows_told fill name ts ops (placed fill t)) in
        let opens : Ok (placed fill u) ≡ write_opened fill (bare m) ts ops (commit_of ts all) (placed fill t) = sym (done.opened_is fill) ∙ ap (λ c. write_opened fill (bare m) ts ops c (placed fill t)) its in
        ap (λ (q : List Entry). q ++ owed fill (bare m) name all (placed fill u) rest) (adds fill name (names_on name o t a.ends named))
        ∙ told_more commit commits queued (owed fill (bare m) name all (placed fill u) rest)
        ∙ (λ i. queued ++ unless_told (its i) commits (then_owed (λ s. owed fill (bare m) name all s rest) (opens i)))
        ∙ a.owes fill name named;
  }

  -- or one does not fit, and the log is not opened
  pub late_write : ((fill : Row) → write_opened fill (bare m) ts ops commit (placed fill t) ≡ Err ts) → (fill : Row) → opened fill (bare m) all (placed fill o) all ≡ Err ts
  late_write late fill = opened_here fill ∙ ap (then_opened (λ s. opened fill (bare m) all s rest)) (late fill)

-- nothing is left
pub log_done : (m : Meta) (all : List Entry) (o t : Opening) (queued : List Entry) → Along m all o t queued [] → DoesLog o t m all all
log_done m all o t queued a = record { ends = a.ends; opened_is = λ fill. sym (a.goes_on fill) }

pub all_owed : (m : Meta) (all : List Entry) (o t : Opening) (queued : List Entry) → Along m all o t queued [] → (fill : Row) (name : Place → Target) → NamesEach name o → queued ≡ owed fill (bare m) name all (placed fill o) all
all_owed m all o t queued a fill name named = sym (append-nil queued) ∙ a.owes fill name named

-- What was found of both devices is taken up by an engine.
use Rattle.std.proofs.Common.{◌≡◌, ◌++◌, ◌≤◌, ◌^◌, ℕ, suc, List, [], ◌∷◌, map, refl, sym, ap, ◌∙◌, subst, arith}
use Rattle.std.specs.List.{All, AllByRecursion, Contains}
use Rattle.kt_history.specs.declared.target.Target.{Target}
use Rattle.kt_history.specs.History.{Past, IsPastUpTo}
use Rattle.kt_history.specs.Rows.{Row}
use Rattle.kt_history.specs.Stores.{Store, Hist, hist_in}
use Rattle.kt_records.specs.declared.entry.Entry.{Entry}
use Rattle.kt_journal.specs.Log.{IsLog}
use Rattle.kt_loglaws.specs.Replay.{last_of}
use Rattle.kt_histlaws.specs.Histories.{hists, past_hist, ShowsKey}
use Rattle.kt_histlaws.specs.Fitting.{AreSound}
use Rattle.kt_histlaws.specs.Pending.{Aloft}
use Rattle.kt_rowfiles.specs.Files.{DiskRowset}
use Rattle.kt_rowfiles.specs.Fitting.{readable}
use Rattle.kt_diskrowset.specs.Rows.{store_with}
use Rattle.kt_schema.specs.declared.column.Column.{Column}
use Rattle.kt_schema.specs.Columns.{fill_of}
use Rattle.kt_super.specs.declared.meta.Meta.{Meta}
use Rattle.kt_super.specs.Body.{IsMeta}
use Rattle.kt_stores.specs.Shelf.{StoresView, names_of}
use Rattle.kt_tablet.specs.Filling.{told_stores}
use Rattle.kt_tablet.specs.Views.{Opens}
use Rattle.kt_content.specs.Places.{Super, Place, memory, disk, Held, held_in}
use Rattle.kt_content.specs.Opening.{Placed, held_of}
use Rattle.kt_content.specs.Content.{IsContent, Shown, content_at}
use Rattle.kt_content.specs.Records.{AllTold}
use Rattle.kt_content.specs.InMemory.{Mirrors}
use Rattle.kt_content.specs.Rules.{Rules, AreRules}
use Rattle.kt_content.proofs.Options.{two_oks}
use Rattle.kt_content.proofs.Records.{order_front}
use Rattle.kt_content.proofs.Rules.{stores_pass}
use Rattle.kt_reopen.specs.Bare.{places_under, PlacesApart}
use Rattle.kt_reopen.specs.Both.{Found, first_stores}
use Rattle.kt_reopen.specs.Numbers.{name_of}
use Rattle.kt_reopen.specs.Opened.{IsOpened}
use Rattle.kt_reopen.proofs.Held.{key_is, key_shown}
use Rattle.kt_reopen.proofs.OwedTold.{owed_told}
use Rattle.kt_engine.specs.Memory.{by_name, AreNamed}
use Rattle.kt_engine.specs.Over.{AreRowsetNames, AreShelved}
use Rattle.kt_engine.specs.Logged.{AreCommits, TakesUp, NamesOnly, DeltasBelow, UntoldFly}
use Rattle.kt_engine.proofs.Passed.{EachHist, held_passes}
use Rattle.kt_boot.proofs.Fresh.{AreGiven, are_given, deltas_are}
use Rattle.kt_boot.proofs.Mirrored.{Stand, each_mirrors, opened_stand, opened_named}
use Rattle.kt_boot.proofs.Owed.{owed_alone, owed_names, all_there, none_untold, content_told}

-- what stores with their places have of a key
held_hists : (q : List ℕ) (stores : Placed) → held_in (held_of q stores) ≡ hists q (map (λ (s : Place × Store). s.1) stores)
held_hists q [] = refl
held_hists q (s ∷ stores) = ap (λ (l : List Hist). hist_in q s.1 ∷ l) (held_hists q stores)

-- the names of disk rowsets
rowsets_alone : (super : Super) (records : List Entry) (rowsets : List DiskRowset) → AreRowsetNames (map (name_of super records) (map (λ (d : DiskRowset). disk d.rowset) rowsets))
rowsets_alone super records [] = tt
rowsets_alone super records (d ∷ rowsets) = rowsets_alone super records rowsets

module _ (columns : List Column) (f : Found) (m : Meta) (records queued : List Entry) (view : StoresView) (last next : ℕ) (o : IsOpened columns f m records queued view last next) where
  abbrev fill : Row
  fill = fill_of columns

  abbrev name : Place → Target
  name = name_of f.super f.records

  -- the log of what was found goes on with what is queued
  log_is : IsLog (f.records ++ queued)
  log_is = subst (λ (l : List Entry). IsLog (l ++ queued)) o.records_are o.log

  pub commits_are : AreCommits queued
  commits_are = subst AreCommits (sym o.owes) (owed_alone fill f.super name f.records (first_stores f.super) f.records)

  pub untold_are : (aloft : List Aloft) → UntoldFly (records ++ queued) aloft
  untold_are aloft = none_untold (records ++ queued) aloft o.told

  pub named_are : AreNamed f.super (names_of view.shelf)
  named_are = subst (AreNamed f.super) (sym o.names) (opened_named f.super f.records o.apart o.fit)

  pub names_only : All (NamesOnly (names_of view.shelf)) queued
  names_only =
      let there : AllByRecursion (λ (p : Place). Contains (names_of view.shelf) (name p)) (places_under f.super) =
      subst (λ (ns : List Target). AllByRecursion (λ (p : Place). Contains ns (name p)) (places_under f.super)) (sym o.names) (all_there name [] (places_under f.super)) in
      subst (All (NamesOnly (names_of view.shelf))) (sym o.owes)
      (owed_names name (names_of view.shelf) fill there.0 f.super f.records (places_under f.super) there (first_stores f.super) (first_places f.super) f.records)
    where
      first_places : (super : Super) → map (λ (s : Place × Store). s.0) (first_stores super) ≡ places_under super
      first_places super = ap (λ (ps : List Place). memory ∷ ps) (by super.rowsets)
        where
          by : (rowsets : List DiskRowset) → map (λ (s : Place × Store). s.0) (map (λ (d : DiskRowset). (disk d.rowset, store_with (readable d) (λ n. []))) rowsets) ≡ map (λ (d : DiskRowset). disk d.rowset) rowsets
          by [] = refl
          by (d ∷ rowsets) = ap (λ (ps : List Place). disk d.rowset ∷ ps) (by rowsets)

  -- nor is a DeltaMemStore named that comes later
  pub deltas_named : (names : List Target) → names ≡ names_of view.shelf → DeltasBelow names (records ++ queued)
  deltas_named names names_are =
      subst (λ (ns : List Target). DeltasBelow ns (records ++ queued)) (sym names_are)
      (subst (λ (l : List Entry). DeltasBelow (names_of view.shelf) (l ++ queued)) (sym o.records_are) (deltas_are f.super f.records queued (names_of view.shelf) o.names named_are.differ names_only))

  -- no number of a store is given again
  pub numbers_are : IsMeta m → (super : Super) (names : List Target) (side : ℕ) → super ≡ f.super → names ≡ names_of view.shelf → side ≡ next → AreGiven side super (records ++ queued) names
  numbers_are rules super names side super_is names_are side_is =
      let given = are_given m f.super f.records queued (names_of view.shelf) next rules o.super.names.rowsets log_is o.names names_only o.next_is in
      subst (λ (n : ℕ). AreGiven n super (records ++ queued) names) (sym side_is)
      (subst (λ (ns : List Target). AreGiven next super (records ++ queued) ns) (sym names_are)
      (subst (λ (l : List Entry). AreGiven next super (l ++ queued) (names_of view.shelf)) (sym o.records_are)
      (subst (λ (s : Super). AreGiven next s (f.records ++ queued) (names_of view.shelf)) (sym super_is) given)))

  -- the MemRowSet comes first, and behind it there are disk rowsets
  pub shelved_are : (names : List Target) (frozen : ℕ) → names ≡ names_of view.shelf → frozen ≡ view.frozen → AreShelved (suc frozen) (2 ^ 64) names
  shelved_are names frozen names_are frozen_are =
      subst (λ (n : ℕ). AreShelved (suc n) (2 ^ 64) names) (sym (frozen_are ∙ o.frozen))
      (subst (AreShelved 1 (2 ^ 64)) (sym (names_are ∙ o.names)) (o.fit.0, rowsets_alone f.super f.records f.super.rowsets))

  -- no record lies behind the last timestamp
  pub last_ends : last_of (records ++ queued) ≤ last
  last_ends = let ends = o.ends in let at = o.last_is in let records_are = ap last_of o.records_are in let behind = o.behind in omega arith

  -- and each past that the superblock and the log hold is shown
  module _ (rules : Rules) (c : ℕ) (past : Past) (is : IsContent rules fill f.super f.records c past) where
    front : IsLog f.records
    front = order_front [] f.records queued log_is

    pub takes_up : AreRules rules → (names : List Target) (stores : List Store) (low : ℕ) → names ≡ names_of view.shelf → stores ≡ told_stores fill view → TakesUp rules fill f.super names stores f.records queued low past
    takes_up closed names stores low names_are stores_are =
        let told = subst (AllTold fill f.super low f.records) (sym o.owes) (owed_told rules fill f.super f.records c low past (subst (λ (l : List Entry). IsLog (f.records ++ l)) o.owes log_is) is) in
        record {
          told = told;
          mirrors = λ q h.
              let there = content_told fill f.super low f.records queued q (held_of q f.stores) commits_are log_is told (key_is rules fill f.super f.records c past front is f.stores o.made q) in
              let same : h.held ≡ held_of q f.stores = two_oks (content_at fill f.super (f.records ++ queued) q) h.held (held_of q f.stores) h.is there in
              let apart : PlacesApart (map (λ (s : Place × Store). s.0) f.stores) = subst PlacesApart (sym o.places) o.apart in
              let stand : Stand f.super name (map (λ (s : Place × Store). s.0) f.stores) = subst (Stand f.super name) (sym o.places) (opened_stand f.super f.records) in
              let ns : map name (map (λ (s : Place × Store). s.0) f.stores) ≡ names = ap (map name) o.places ∙ sym o.names ∙ sym names_are in
              let ss : map (λ (s : Place × Store). s.1) f.stores ≡ stores = o.holds ∙ sym stores_are in
              subst (λ (l : Held). Mirrors f.super.a f.super (by_name names (hists q stores)) l) (sym same)
              (subst (λ (l : List Target). Mirrors f.super.a f.super (by_name l (hists q stores)) (held_of q f.stores)) ns
              (subst (λ (l : List Store). Mirrors f.super.a f.super (by_name (map name (map (λ (s : Place × Store). s.0) f.stores)) (hists q l)) (held_of q f.stores)) ss (each_mirrors f.super name q f.super.a f.stores apart stand)));
          passes = λ q.
              let held = held_passes rules q (held_of q f.stores) (stores_pass rules fill f.super f.records c past q (held_of q f.stores) closed is (key_is rules fill f.super f.records c past front is f.stores o.made q)) in
              subst (EachHist rules q) (held_hists q f.stores ∙ ap (hists q) (o.holds ∙ sym stores_are)) held;
        }

    pub opens_it : (opening : List Store) (mark opened : ℕ) → opening ≡ told_stores fill view → mark ≡ m.a → opened ≡ last → c ≡ opened → Opens opening mark opened past
    opens_it opening mark opened opening_is mark_is opened_is c_is = record {
      mark_is = is.mark ∙ sym o.super.a ∙ sym mark_is;
      ends = subst (λ (n : ℕ). IsPastUpTo n past) c_is is.ends;
      shows = λ q. subst (λ (a : ℕ). ShowsKey a (hists q opening) (past_hist q past)) (sym is.mark) (subst (λ (l : List Hist). ShowsKey f.super.a l (past_hist q past)) (hists_are q) (shown q).shows);
      sound = λ q. subst (λ (a : ℕ). AreSound a (hists q opening)) (sym is.mark) (subst (AreSound f.super.a) (hists_are q) (shown q).sound);
    }
      where
        shown : (q : List ℕ) → Shown f.super.a (held_of q f.stores) (past_hist q past)
        shown = key_shown rules fill f.super f.records c past front is f.stores o.made

        hists_are : (q : List ℕ) → held_in (held_of q f.stores) ≡ hists q opening
        hists_are q = held_hists q f.stores ∙ ap (hists q) (o.holds ∙ sym opening_is)

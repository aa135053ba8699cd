-- The numbers with which an engine goes on: no store that its superblock or its log names has one of those that are to be given.
use Rattle.std.proofs.Common.{◌≡◌, ◌≤◌, ◌<◌, ◌+◌, ◌^◌, ◌++◌, ℕ, max, Bool, true, false, cond, List, [], ◌∷◌, map, refl, sym, ap, ◌∙◌, subst, arith, inl, inr}
use Rattle.std.specs.Prelude.{◌-◌, ◌==◌}
use Rattle.std.specs.List.{All, Contains}
use Rattle.std.proofs.lemmas.Bool.Decides.{nat_tests}
use Rattle.kt_history.specs.declared.target.Target.{Target}
use Rattle.kt_history.specs.declared.target.Target.TheVariants.{Mem, Delta}
use Rattle.kt_records.specs.declared.entry.CommitRow.{CommitRow}
use Rattle.kt_records.specs.declared.entry.Entry.{Entry}
use Rattle.kt_records.specs.declared.entry.Entry.TheVariants.{Replicate, Commit}
use Rattle.kt_records.specs.Rules.{EachAfter, TargetFits, RowFits}
use Rattle.kt_journal.specs.Order.{InOrder}
use Rattle.kt_journal.specs.Log.{IsLog}
use Rattle.kt_rowfiles.specs.Files.{DiskRowset}
use Rattle.kt_super.specs.declared.meta.Meta.{Meta}
use Rattle.kt_super.specs.declared.meta.MetaRowset.{MetaRowset}
use Rattle.kt_super.specs.Body.{IsMeta}
use Rattle.kt_super.specs.Rowsets.{is_rowset, taken_by, AreRowsets}
use Rattle.kt_content.specs.Places.{Super, disk}
use Rattle.kt_content.specs.DeltaFlushes.{TargetsUpTo, RowsUpTo, DeltasUpTo}
use Rattle.kt_content.specs.RunEvents.{Numbers, IsBelow, TargetsBelow, RowsBelow, RecordsBelow, StoresBelow, RowsetsBelow, NumbersAreFresh}
use Rattle.kt_content.proofs.Records.{order_front}
use Rattle.kt_reopen.specs.Bare.{bare_rowset, places_under}
use Rattle.kt_reopen.specs.Naming.{numbered}
use Rattle.kt_reopen.specs.Numbers.{named_of, named_by, greatest_mem, greatest_dms, behind, behind_rowsets, mem_number, dms_under, next_rowset}
use Rattle.kt_reopen.specs.Numbers as numbers
use Rattle.kt_engine.specs.Memory.{name_of, NamesDiffer}
use Rattle.kt_engine.specs.Logged.{NamesOnly, DeltasBelow}
use Rattle.kt_engine.specs.Near.{first_number}
use Rattle.kt_engine.specs.Stored.{next_given}
use Rattle.kt_engine.proofs.Commits.{of_each}
use Rattle.kt_engine.proofs.Deltas.{deltas_join, deltas_only}
use Rattle.kt_engine.proofs.Ended.{each_below}
use Rattle.kt_engine.proofs.Lists.{all_head, all_tail}
use Rattle.kt_engine.proofs.Rising.{given_up, given_behind, records_join}

-- ---- COMMITs that name stores which lie below

module _ (given : Numbers) (names : List Target) (below : All (IsBelow given) names) where
  targets_only : (targets : List Target) → All (Contains names) targets → TargetsBelow given targets
  targets_only [] h = tt
  targets_only (t ∷ targets) h = (of_each (IsBelow given) names t below (all_head (Contains names) t targets h), targets_only targets (all_tail (Contains names) t targets h))

  rows_only : (rows : List CommitRow) → All (λ (row : CommitRow). All (Contains names) row.targets) rows → RowsBelow given rows
  rows_only [] h = tt
  rows_only (row ∷ rows) h =
      (targets_only row.targets (all_head (λ (r : CommitRow). All (Contains names) r.targets) row rows h), rows_only rows (all_tail (λ (r : CommitRow). All (Contains names) r.targets) row rows h))

  records_only : (records : List Entry) → All (NamesOnly names) records → RecordsBelow given records
  records_only [] h = tt
  records_only (Replicate ts ops ∷ records) h = records_only records (all_tail (NamesOnly names) (Replicate ts ops) records h)
  records_only (Commit ts rows ∷ records) h = (rows_only rows (all_head (NamesOnly names) (Commit ts rows) records h), records_only records (all_tail (NamesOnly names) (Commit ts rows) records h))

-- ---- records of a log, where these numbers lie at or behind all that they name

module _ (next active : ℕ) where
  abbrev given_at : Numbers
  given_at = record { next = next_given next; active = active; deltas = [] }

  abbrev Covers : List Target → Type 0
  Covers targets = (greatest_mem targets ≤ active) × (behind_rowsets targets ≤ next)

  covers_front : (xs ys : List Target) → Covers (xs ++ ys) → Covers xs × Covers ys
  covers_front [] ys h = ((omega arith, omega arith), h)
  covers_front (Mem n ∷ xs) ys h =
      let more = covers_front xs ys (let a = h.0 in omega arith, h.1) in
      ((let a = h.0 in let b = more.0.0 in omega arith, more.0.1), more.1)
  covers_front (Delta r n ∷ xs) ys h =
      let more = covers_front xs ys (h.0, let a = h.1 in omega arith) in
      ((more.0.0, let a = h.1 in let b = more.0.1 in omega arith), more.1)

  targets_covered : (front targets : List Target) → EachAfter (λ before t. TargetFits t) front targets → Covers targets → TargetsBelow given_at targets
  targets_covered front [] fit h = tt
  targets_covered front (Mem n ∷ targets) fit h = (let a = h.0 in omega arith, targets_covered (front ++ Mem n ∷ []) targets fit.1 (let a = h.0 in omega arith, h.1))
  targets_covered front (Delta r n ∷ targets) fit h =
      (given_behind r next fit.0.0 (let a = h.1 in omega arith), targets_covered (front ++ Delta r n ∷ []) targets fit.1 (h.0, let a = h.1 in omega arith))

  rows_covered : (front rows : List CommitRow) → EachAfter (λ before row. RowFits row) front rows → Covers (named_of rows) → RowsBelow given_at rows
  rows_covered front [] fit h = tt
  rows_covered front (row ∷ rows) fit h =
      let hs = covers_front row.targets (named_of rows) h in
      (targets_covered [] row.targets fit.0.targets hs.0, rows_covered (front ++ row ∷ []) rows fit.1 hs.1)

  records_covered : (before records : List Entry) → InOrder before records → Covers (named_by records) → RecordsBelow given_at records
  records_covered before [] log h = tt
  records_covered before (Replicate ts ops ∷ records) log h = records_covered (Replicate ts ops ∷ before) records log.2 h
  records_covered before (Commit ts rows ∷ records) log h =
      let hs = covers_front (named_of rows) (named_by records) h in
      (rows_covered [] rows log.0.keeps.rows hs.0, records_covered (Commit ts rows ∷ before) records log.2 hs.1)

-- ---- of a rowset, where one number is no less than each of its DeltaMemStores that they name

module _ (r last : ℕ) where
  greatest_front : (xs ys : List Target) → greatest_dms r (xs ++ ys) ≤ last → (greatest_dms r xs ≤ last) × (greatest_dms r ys ≤ last)
  greatest_front [] ys h = (omega arith, h)
  greatest_front (Mem n ∷ xs) ys h = greatest_front xs ys h
  greatest_front (Delta s n ∷ xs) ys h = elim (s == r) as (λ (b : Bool). cond b (max n (greatest_dms r (xs ++ ys))) (greatest_dms r (xs ++ ys)) ≤ last → (cond b (max n (greatest_dms r xs)) (greatest_dms r xs) ≤ last) × (greatest_dms r ys ≤ last)) [
    | true ↦ λ h. let more = greatest_front xs ys (omega arith) in ((let low = more.0 in omega arith), more.1)
    | false ↦ λ h. greatest_front xs ys h
  ] h

  targets_upto : (targets : List Target) → greatest_dms r targets ≤ last → TargetsUpTo r last targets
  targets_upto [] h = tt
  targets_upto (Mem n ∷ targets) h = (tt, targets_upto targets h)
  targets_upto (Delta s n ∷ targets) h = elim (s == r) as (λ (b : Bool). (s == r) ≡ b → cond b (max n (greatest_dms r targets)) (greatest_dms r targets) ≤ last → TargetsUpTo r last (Delta s n ∷ targets)) [
    | true ↦ λ e h. (inr (e, omega arith), targets_upto targets (omega arith))
    | false ↦ λ e h. (inl e, targets_upto targets h)
  ] refl h

  rows_upto : (rows : List CommitRow) → greatest_dms r (named_of rows) ≤ last → RowsUpTo r last rows
  rows_upto [] h = tt
  rows_upto (row ∷ rows) h = let hs = greatest_front row.targets (named_of rows) h in (targets_upto row.targets hs.0, rows_upto rows hs.1)

  records_upto : (records : List Entry) → greatest_dms r (named_by records) ≤ last → DeltasUpTo r last records
  records_upto [] h = tt
  records_upto (Replicate ts ops ∷ records) h = records_upto records h
  records_upto (Commit ts rows ∷ records) h = let hs = greatest_front (named_of rows) (named_by records) h in (rows_upto rows hs.0, records_upto records hs.1)

-- so it is of the stores that are opened
deltas_of : (super : Super) (records : List Entry) (rowsets : List DiskRowset) → DeltasBelow (map (numbers.name_of super records) (map (λ (d : DiskRowset). disk d.rowset) rowsets)) records
deltas_of super records [] = tt
deltas_of super records (d ∷ rowsets) = (records_upto d.rowset (dms_under super records d.rowset) records (omega arith), deltas_of super records rowsets)

pub deltas_are : (super : Super) (records queued : List Entry) (names : List Target) → names ≡ map (numbers.name_of super records) (places_under super) → NamesDiffer names → All (NamesOnly names) queued → DeltasBelow names (records ++ queued)
deltas_are super records queued names is differ only =
    deltas_join names records queued (subst (λ (ns : List Target). DeltasBelow ns records) (sym is) (deltas_of super records super.rowsets)) (deltas_only names differ queued only)

-- ---- rowsets of a superblock

under_next : (least next n : ℕ) → is_rowset least next n ≡ true → n < next
under_next least next n h = grind (arith, nat_tests)

-- the numbers of rowsets lie below one
abbrev AllUnder : ℕ → List (ℕ × ℕ) → Type 0
AllUnder next [] = Unit {0}
AllUnder next (r ∷ rs) = (r.0 < next) × AllUnder next rs

meta_under : (next_rowset next_file least : ℕ) (taken : List ℕ) (rs : List MetaRowset) → AreRowsets next_rowset next_file least taken rs → AllUnder next_rowset (numbered (map bare_rowset rs))
meta_under next_rowset next_file least taken [] h = tt
meta_under next_rowset next_file least taken (r ∷ rs) h = (under_next least next_rowset r.rowset h.0.rowset, meta_under next_rowset next_file (r.rowset + 1) (taken_by taken r) rs h.1)

module _ (given : Numbers) (low : ℕ) (up : low ≤ given.next) where
  rowsets_under : (rowsets : List DiskRowset) → AllUnder low (numbered rowsets) → RowsetsBelow given rowsets
  rowsets_under [] h = tt
  rowsets_under (d ∷ rowsets) h = (let under = h.0 in omega arith, rowsets_under rowsets h.1)

  names_under : (super : Super) (records : List Entry) (rowsets : List DiskRowset) → AllUnder low (numbered rowsets)
      → StoresBelow given (map name_of (map (numbers.name_of super records) (map (λ (d : DiskRowset). disk d.rowset) rowsets)))
  names_under super records [] h = tt
  names_under super records (d ∷ rowsets) h = (let under = h.0 in omega arith, names_under super records rowsets h.1)

-- ---- so they are fresh

abbrev pub AreGiven : ℕ → Super → List Entry → List Target → Type 0
AreGiven next super records names = (given : Numbers) × NumbersAreFresh super records (map name_of names) given × (given.next ≤ next_given next) × (given.active ≤ first_number names)

pub are_given : (m : Meta) (super : Super) (records queued : List Entry) (names : List Target) (next : ℕ) → IsMeta m → numbered (map bare_rowset m.rowsets) ≡ numbered super.rowsets → IsLog (records ++ queued)
    → names ≡ map (numbers.name_of super records) (places_under super) → All (NamesOnly names) queued → next ≡ next_rowset m.next_rowset records → AreGiven next super (records ++ queued) names
are_given m super records queued names next rules same log is only next_is =
    let active : ℕ = mem_number super.last_mem records in
    let given : Numbers = record { next = next_given next; active = active; deltas = [] } in
    let up = given_up next in
    let low : m.next_rowset ≤ given.next = omega arith in
    let under : AllUnder m.next_rowset (numbered super.rowsets) = subst (AllUnder m.next_rowset) same (meta_under m.next_rowset m.next_file 0 [] m.rowsets rules.rowsets) in
    let stores : StoresBelow given (map name_of names) =
    subst (λ (ns : List Target). StoresBelow given (map name_of ns)) (sym is) (omega arith, names_under given m.next_rowset low super records super.rowsets under) in (
      given,
      record {
        rowsets = rowsets_under given m.next_rowset low super.rowsets under;
        records_below = records_join given records queued (records_covered next active [] records (order_front [] records queued log) (omega arith, omega arith)) (records_only given names (each_below given names stores) queued only);
        stores = stores;
        mem = omega arith;
        deltas = tt;
      },
      omega arith,
      subst (λ (ns : List Target). active ≤ first_number ns) (sym is) (omega arith),
    )

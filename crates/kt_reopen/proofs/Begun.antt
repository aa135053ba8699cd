-- The stores of a superblock before the log: they stand in their pool, have the places of the superblock and the names that are due, and hold
-- what can be read of the files.
use Rattle.std.proofs.Common.{◌≡◌, ◌≤◌, ◌<◌, ◌+◌, ◌^◌, ℕ, zero, suc, max, List, [], ◌∷◌, map, length, get_or, Option, Some, Bool, true, false, cond, refl, sym, ap, ◌∙◌, subst, arith}
use Rattle.std.specs.Prelude.{unwrap_or, ◌==◌}
use Rattle.std.proofs.lemmas.Bool.Decides.{nat_tests}
use Rattle.kt_history.specs.declared.target.Target.TheVariants.{Mem, Delta}
use Rattle.kt_history.specs.Rows.{Row}
use Rattle.kt_records.specs.declared.entry.Entry.{Entry}
use Rattle.kt_records.specs.Rules.{TargetFits}
use Rattle.kt_journal.specs.Log.{IsLog}
use Rattle.kt_pool.specs.Contents.{used}
use Rattle.kt_memrowset.specs.Stores as mem
use Rattle.kt_tablet.specs.Filling.{filled}
use Rattle.kt_super.specs.declared.meta.Meta.{Meta}
use Rattle.kt_super.specs.declared.meta.MetaRowset.{MetaRowset}
use Rattle.kt_super.specs.Body.{IsMeta}
use Rattle.kt_super.specs.Rowsets.{is_small, is_rowset, taken_by, AreRowsets}
use Rattle.kt_rowfiles.specs.Files.{DiskRowset}
use Rattle.kt_rowfiles.specs.Fitting.{readable}
use Rattle.kt_diskrowset.specs.declared.data.RowSetData.{RowSetData}
use Rattle.kt_diskrowset.specs.declared.rowset.DiskRowSet.{DiskRowSet}
use Rattle.kt_diskrowset.specs.Data.{held_in}
use Rattle.kt_diskrowset.specs.Rows.{store_with}
use Rattle.kt_diskrowset.specs.Rowset as rowset
use Rattle.kt_files.specs.Content.{rowsets_in}
use Rattle.kt_files.specs.Held.{numbers_in, numbers_named}
use Rattle.kt_content.specs.Places.{Super, Place, memory, disk, last_dms_of}
use Rattle.kt_reopen.specs.declared.stores.Opening.{Opening}
use Rattle.kt_reopen.specs.Begun.{IsBegun}
use Rattle.kt_reopen.specs.Bare.{bare, bare_rowset, places_under, PlacesApart}
use Rattle.kt_reopen.specs.Naming.{numbered, NameTheSame}
use Rattle.kt_reopen.specs.Both.{super_in, first_stores}
use Rattle.kt_reopen.specs.Needed.{needs_of}
use Rattle.kt_reopen.specs.Numbers.{named_by, greatest_mem, greatest_dms, dms_under, name_of}
use Rattle.kt_reopen.specs.Opened.{AreRowsetsOf}
use Rattle.kt_reopen.specs.Standing.{placed, places_in, names_in, AreKeptIn, AllUnder}
use Rattle.kt_reopen.proofs.Apart.{places_apart}
use Rattle.kt_reopen.proofs.Firsts.{same_last}
use Rattle.kt_reopen.proofs.Making.{numbers_first, all_new, numbers_new, stores_new, new_kept, new_keys, none_used}
use Rattle.kt_reopen.proofs.OwedOrder.{AllFit}
use Rattle.kt_reopen.proofs.Spelled.{of_log, mem_spelled, dms_spelled, next_spelled}

-- ---- what a superblock says of its rowsets, looked up by their numbers

-- the last DeltaMemStore of each is found, and the numbers are small
abbrev AllKnown : (ℕ → Option ℕ) → List MetaRowset → Type 0
AllKnown f [] = Unit {0}
AllKnown f (r ∷ rs) = ((f r.rowset ≡ Some r.last_dms) × (r.rowset < 2 ^ 62) × (r.last_dms < 2 ^ 62)) × AllKnown f rs

below : (n : ℕ) → is_small n ≡ true → n < 2 ^ 62
below n h = grind (arith, nat_tests)

at_least : (least next n : ℕ) → is_rowset least next n ≡ true → (least ≤ n) × (n < next)
at_least least next n h = (grind (arith, nat_tests), grind (arith, nat_tests))

-- so one more is in its type
pub last_small : (next_rowset next_file least : ℕ) (taken : List ℕ) (rs : List MetaRowset) → AreRowsets next_rowset next_file least taken rs → (i : ℕ) (r : MetaRowset) → i < length rs → r ≡ get_or rs i r → r.last_dms < 2 ^ 62
last_small next_rowset next_file least taken [] are i r low is = absurd (omega arith)
last_small next_rowset next_file least taken (x ∷ rs) are zero r low is = subst (λ (y : MetaRowset). y.last_dms < 2 ^ 62) (sym is) (below x.last_dms are.0.last_dms)
last_small next_rowset next_file least taken (x ∷ rs) are (suc i) r low is = last_small next_rowset next_file (x.rowset + 1) (taken_by taken x) rs are.1 i r (omega arith) is

differs : (a b : ℕ) → a < b → (a == b) ≡ false
differs a b lt = grind (arith, nat_tests)

itself : (a : ℕ) → (a == a) ≡ true
itself a = grind (arith, nat_tests)

-- a rowset before them is not met by their numbers
skipped : (next_rowset next_file least : ℕ) (taken : List ℕ) (y : MetaRowset) (f : ℕ → Option ℕ) (rs : List MetaRowset) → AreRowsets next_rowset next_file least taken rs → y.rowset < least → AllKnown f rs
    → AllKnown (λ n. cond (y.rowset == n) (Some y.last_dms) (f n)) rs
skipped next_rowset next_file least taken y f [] are lt h = tt
skipped next_rowset next_file least taken y f (r ∷ rs) are lt h =
    let low = at_least least next_rowset r.rowset are.0.rowset in (
      (ap (λ (b : Bool). cond b (Some y.last_dms) (f r.rowset)) (differs y.rowset r.rowset (let l = low.0 in omega arith)) ∙ h.0.0, h.0.1, h.0.2),
      skipped next_rowset next_file (r.rowset + 1) (taken_by taken r) y f rs are.1 (let l = low.0 in omega arith) h.1,
    )

all_known : (next_rowset next_file least : ℕ) (taken : List ℕ) (rs : List MetaRowset) → next_rowset < 2 ^ 62 → AreRowsets next_rowset next_file least taken rs → AllKnown (λ n. last_dms_of n (map bare_rowset rs)) rs
all_known next_rowset next_file least taken [] small are = tt
all_known next_rowset next_file least taken (r ∷ rs) small are =
    let low = at_least least next_rowset r.rowset are.0.rowset in (
      (ap (λ (b : Bool). cond b (Some r.last_dms) (last_dms_of r.rowset (map bare_rowset rs))) (itself r.rowset), (let l = low.1 in omega arith), below r.last_dms are.0.last_dms),
      skipped next_rowset next_file (r.rowset + 1) (taken_by taken r) r (λ n. last_dms_of n (map bare_rowset rs)) rs are.1 (omega arith) (all_known next_rowset next_file (r.rowset + 1) (taken_by taken r) rs small are.1),
    )

known_by : (f g : ℕ → Option ℕ) → ((n : ℕ) → f n ≡ g n) → (rs : List MetaRowset) → AllKnown f rs → AllKnown g rs
known_by f g same [] h = tt
known_by f g same (r ∷ rs) h = ((sym (same r.rowset) ∙ h.0.0, h.0.1, h.0.2), known_by f g same rs h.1)

-- ---- a superblock and what was read of its files

-- the files tell the rowsets which the superblock names
named_read : (rs : List MetaRowset) (ds : List RowSetData) → numbers_in ds ≡ numbers_named rs → numbered (map bare_rowset rs) ≡ numbered (rowsets_in rs (map held_in ds))
named_read [] [] e = refl
named_read [] (d ∷ ds) e = (let bad : d.number ∷ numbers_in ds ≡ [] = e in absurd (cc))
named_read (r ∷ rs) [] e = (let bad : [] ≡ r.rowset ∷ numbers_named rs = e in absurd (cc))
named_read (r ∷ rs) (d ∷ ds) e =
    let two = numbers_first d ds r rs e in
    let here = two.0 in
    let behind = two.1 in
    (λ i. (sym here i, r.last_dms) ∷ named_read rs ds behind i)

disk_places : (rs : List MetaRowset) → map (λ (r : MetaRowset). disk r.rowset) rs ≡ map (λ (d : DiskRowset). disk d.rowset) (map bare_rowset rs)
disk_places [] = refl
disk_places (r ∷ rs) = ap (λ (ps : List Place). disk r.rowset ∷ ps) (disk_places rs)

module _ (m : Meta) (is : IsMeta m) (records : List Entry) (log : IsLog records) (ds : List RowSetData) (numbers : numbers_in ds ≡ numbers_named m.rowsets) where
  abbrev pub super : Super
  super = super_in m (map held_in ds)

  pub begun_same : NameTheSame (bare m) super
  begun_same = record { mem = refl; rowsets = named_read m.rowsets ds numbers }

  known : AllKnown (λ n. last_dms_of n super.rowsets) m.rowsets
  known =
      known_by (λ n. last_dms_of n (bare m).rowsets) (λ n. last_dms_of n super.rowsets) (λ n. same_last n (bare m) super begun_same) m.rowsets
      (all_known m.next_rowset m.next_file 0 [] m.rowsets (below m.next_rowset is.next_rowset) is.rowsets)

  -- each name has a spelling
  pub mem_fits : TargetFits (name_of super records memory)
  mem_fits = next_spelled m.last_mem (greatest_mem (named_by records)) (let small = below m.last_mem is.last_mem in omega arith) (mem_spelled (named_by records) (of_log [] records log))

  rowsets_fit : (rs : List MetaRowset) (es : List RowSetData) → numbers_in es ≡ numbers_named rs → AllKnown (λ n. last_dms_of n super.rowsets) rs
      → AllFit (name_of super records) (map (λ (d : DiskRowset). (disk d.rowset, store_with (readable d) (λ n. []))) (rowsets_in rs (map held_in es)))
  rowsets_fit [] [] e h = tt
  rowsets_fit [] (d ∷ es) e h = (let bad : d.number ∷ numbers_in es ≡ [] = e in absurd (cc))
  rowsets_fit (r ∷ rs) [] e h = (let bad : [] ≡ r.rowset ∷ numbers_named rs = e in absurd (cc))
  rowsets_fit (r ∷ rs) (d ∷ es) e h =
      let two = numbers_first d es r rs e in
      let here = two.0 in
      let behind = two.1 in
      let last : unwrap_or (last_dms_of d.number super.rowsets) 0 ≡ r.last_dms = ap (λ (n : ℕ). unwrap_or (last_dms_of n super.rowsets) 0) here ∙ ap (λ (o : Option ℕ). unwrap_or o 0) h.0.0 in
      let number_small = h.0.1 in
      let dms_small = h.0.2 in (
        ((omega (arith, here, number_small)), next_spelled (unwrap_or (last_dms_of d.number super.rowsets) 0) (greatest_dms d.number (named_by records)) (omega (arith, last, dms_small)) (dms_spelled d.number (named_by records) (of_log [] records log))),
        rowsets_fit rs es behind h.1,
      )

  pub all_fit : AllFit (name_of super records) (first_stores super)
  all_fit = (mem_fits, rowsets_fit m.rowsets ds numbers known)

  module _ (cells needs : ℕ) (o : Opening) (b : IsBegun m records ds cells needs o) where
    bare_pool : used o.pool ≡ 0
    bare_pool = none_used (cells + needs) o.pool b.places

    pub begun_kept : AreKeptIn o
    begun_kept =
        new_kept o.mem o.rowsets.items o.pool (b.mem_stands o.pool) (b.mem_bare o.pool) (b.mem_none o.pool) b.mem_open (all_new (named_by records) m.rowsets ds o.rowsets.items b.rowsets) bare_pool

    pub begun_under : (ts : ℕ) → AllUnder ts o
    begun_under ts q =
        let keys = new_keys o.mem o.rowsets.items o.pool (b.mem_stands o.pool) (b.mem_bare o.pool) (b.mem_none o.pool) b.mem_open (all_new (named_by records) m.rowsets ds o.rowsets.items b.rowsets) bare_pool (b.mem_empty o.pool) ts q in
        record { mem = keys.0; rowsets = keys.1 }

    pub begun_places : places_in o ≡ places_under (bare m)
    begun_places = ap (λ (ps : List Place). memory ∷ ps) (numbers_new (named_by records) m.rowsets ds o.rowsets.items b.rowsets ∙ disk_places m.rowsets)

    pub begun_apart : PlacesApart (places_in o)
    begun_apart = subst PlacesApart (sym begun_places) (places_apart m is)

    pub begun_room : needs_of (bare m) records records ≤ o.pool.reserved
    begun_room = let promised = b.promised in let needs_are = b.needs_are in omega arith

    pub begun_first : (fill : Row) → placed fill o ≡ first_stores super
    begun_first fill =
        (λ i. (memory, filled fill (b.mem_empty o.pool i)) ∷ stores_new (named_by records) m.rowsets ds o.rowsets.items b.rowsets numbers o.pool i)

    -- the names of the rowsets
    rowsets_named : (rs : List MetaRowset) (es : List RowSetData) (ss : List DiskRowSet) → AreRowsetsOf (named_by records) rs es ss → numbers_in es ≡ numbers_named rs → AllKnown (λ n. last_dms_of n super.rowsets) rs
        → map rowset.name_of ss ≡ map (name_of super records) (map (λ (d : DiskRowset). disk d.rowset) (rowsets_in rs (map held_in es)))
    rowsets_named [] [] [] are e h = refl
    rowsets_named [] [] (s ∷ ss) are e h = absurd are
    rowsets_named [] (d ∷ es) [] are e h = absurd are
    rowsets_named [] (d ∷ es) (s ∷ ss) are e h = absurd are
    rowsets_named (r ∷ rs) [] [] are e h = absurd are
    rowsets_named (r ∷ rs) [] (s ∷ ss) are e h = absurd are
    rowsets_named (r ∷ rs) (d ∷ es) [] are e h = absurd are
    rowsets_named (r ∷ rs) (d ∷ es) (s ∷ ss) are e h =
        let two = numbers_first d es r rs e in
        let here = two.0 in
        let behind = two.1 in
        let own : rowset.name_of s ≡ Delta d.number (dms_under super records d.number) =
        are.0.name
        ∙ ap (λ (o : Option ℕ). Delta r.rowset (max (unwrap_or o 0 + 1) (greatest_dms r.rowset (named_by records)))) (sym h.0.0)
        ∙ ap (λ (n : ℕ). Delta n (dms_under super records n)) (sym here)
        in
        (λ i. own i ∷ rowsets_named rs es ss are.1 behind h.1 i)

    pub begun_named : names_in o ≡ map (name_of super records) (places_under super)
    begun_named = (λ i. Mem (b.mem_number i) ∷ rowsets_named m.rowsets ds o.rowsets.items b.rowsets numbers known i)

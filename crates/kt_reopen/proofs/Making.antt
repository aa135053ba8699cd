-- The stores before a log is replayed, and what they are after it.
use Rattle.std.proofs.Common.{◌≡◌, ◌⊎◌, ◌≤◌, ◌+◌, ℕ, List, [], ◌∷◌, map, length, drop, true, false, refl, sym, ap, subst, inl, inr, suc, ◌∙◌, ◌&&◌, ◌^◌, cond, Some, max, ◌++◌, append_assoc, arith}
use Rattle.std.specs.List.{AllByRecursion, sum_by}
use Rattle.std.specs.Prelude.{replicate, None}
use Rattle.std.proofs.lemmas.List.{append-nil}
use Rattle.std.proofs.lemmas.List.Folds.{sum_by-replicate}
use Rattle.std.proofs.lemmas.List.Sums.{sum_by-cons}
use Rattle.kt_history.specs.declared.changes.Delta.{Delta as Kept}
use Rattle.kt_history.specs.declared.target.Target.{Target}
use Rattle.kt_history.specs.declared.target.Target.TheVariants.{Delta}
use Rattle.kt_history.specs.Beside.{AllStand, OwnedBy, AreApart}
use Rattle.kt_history.specs.Rows.{Rows}
use Rattle.kt_history.specs.Stores.{Store, Under, hist_in}
use Rattle.kt_pool.specs.Contents.{Contents, cells_of, used, free, with_reserved}
use Rattle.kt_memrowset.specs.declared.store.MemRowSet.{MemRowSet}
use Rattle.kt_memrowset.specs.Stores as mem
use Rattle.kt_super.specs.declared.meta.MetaRowset.{MetaRowset}
use Rattle.kt_diskrowset.specs.declared.data.RowSetData.{RowSetData}
use Rattle.kt_diskrowset.specs.declared.rowset.DiskRowSet.{DiskRowSet}
use Rattle.kt_diskrowset.specs.Mems.{told_by}
use Rattle.kt_diskrowset.specs.Held.{IsReadOf}
use Rattle.kt_diskrowset.specs.Rowset.{HeldFiles}
use Rattle.kt_diskrowset.specs.Rowset as rowset
use Rattle.kt_diskrowset.proofs.Rowsets.{under_told}
use Rattle.kt_diskrowset.specs.Joining.{KeyUnder}
use Rattle.kt_rowfiles.specs.Files.{DiskRowset, records_in, records_for, falling}
use Rattle.kt_rowfiles.specs.Fitting.{steps_fit, rows_fit, undos_fit, readable}
use Rattle.kt_diskrowset.specs.Data.{files_in, held_in, store_in}
use Rattle.kt_diskrowset.specs.Rows.{Fresh, hist_at, hists_from, store_with}
use Rattle.kt_files.specs.Content.{rowset_in, rowsets_in}
use Rattle.kt_files.specs.Held.{numbers_in, numbers_named}
use Rattle.kt_files.proofs.Contents.{tell_their_files}
use Rattle.kt_stores.specs.Shelf.{Shelved, AreClosed, AreExact, cells_in}
use Rattle.kt_stores.specs.Parts.{kept, shelved, shelf_of, stands_by, owns_by, read_by, AreKept}
use Rattle.kt_content.specs.Places.{Place, disk}
use Rattle.kt_reopen.specs.Numbers.{greatest_dms}
use Rattle.kt_reopen.specs.Opened.{IsRowsetOf, AreRowsetsOf, AreReadOf}

abbrev pub Either : Type 0
Either = MemRowSet ⊎ DiskRowSet

abbrev pub stands : Either → Contents → Type 0
stands = stands_by rowset.IsStore

abbrev pub owns : Either → Contents → ℕ → Type 0
owns = owns_by rowset.Owns

abbrev pub read : Either → Contents → Shelved
read = read_by (shelved rowset.name_of rowset.store_of (λ s. true) rowset.cells_had)

-- ---- before

-- a rowset without a change in memory
pub record IsNew (s : DiskRowSet) : Type 0 where
  pub stands : (pool : Contents) → rowset.IsStore s pool
  pub bare : (pool : Contents) (k : ℕ) → ¬ rowset.Owns s pool k
  pub none : (pool : Contents) → rowset.cells_had s pool ≡ 0
  pub fresh : (ts : ℕ) (q : List ℕ) (pool : Contents) → KeyUnder ts q s pool

abbrev pub AllNew : List DiskRowSet → Type 0
AllNew rowsets = AllByRecursion IsNew rowsets

pub all_new : (targets : List Target) (rs : List MetaRowset) (ds : List RowSetData) (ss : List DiskRowSet) → AreRowsetsOf targets rs ds ss → AllNew ss
all_new targets [] [] [] h = tt
all_new targets [] [] (s ∷ ss) h = absurd h
all_new targets [] (d ∷ ds) [] h = absurd h
all_new targets [] (d ∷ ds) (s ∷ ss) h = absurd h
all_new targets (r ∷ rs) [] [] h = absurd h
all_new targets (r ∷ rs) [] (s ∷ ss) h = absurd h
all_new targets (r ∷ rs) (d ∷ ds) [] h = absurd h
all_new targets (r ∷ rs) (d ∷ ds) (s ∷ ss) h = (record { stands = h.0.stands; bare = h.0.bare; none = h.0.none; fresh = h.0.fresh }, all_new targets rs ds ss h.1)

-- A rowset that is opened of what can be read of its files, under these numbers
pub rowset_new : (targets : List Target) (r : MetaRowset) (d e : RowSetData) (s : DiskRowSet) (dms : ℕ) → d.number ≡ r.rowset → dms ≡ max (r.last_dms + 1) (greatest_dms r.rowset targets)
    → files_in e ≡ readable (files_in d) → IsReadOf (held_in d) (held_in e) → e.fresh ≡ [] → e.number ≡ d.number
    → rowset.held_of s ≡ held_in e → rowset.name_of s ≡ Delta e.number dms → ((pool : Contents) → rowset.store_of s pool ≡ store_in e) → ((pool : Contents) → rowset.IsStore s pool) → ((pool : Contents) (k : ℕ) → ¬ rowset.Owns s pool k)
    → ((pool : Contents) → rowset.cells_had s pool ≡ 0) → ((pool : Contents) → told_by pool (rowset.mems_of s) ≡ (dms, []) ∷ []) → IsRowsetOf targets r d s
rowset_new targets r d e s dms number is files read_of none same held name store stands bare cells told = record {
  number = ap (λ (h : HeldFiles). h.number) held ∙ same ∙ number;
  held = subst (IsReadOf (held_in d)) (sym held) read_of;
  name = name ∙ (λ i. Delta ((same ∙ number) i) (is i));
  store = λ pool. store pool ∙ ap (λ (changes : List Kept). store_with (files_in e) (λ n. records_for n changes)) none ∙ ap (λ (f : DiskRowset). store_with f (λ n. [])) files;
  stands = stands;
  bare = bare;
  none = cells;
  fresh = λ ts q pool. under_told s dms pool (told pool) ts q;
}

-- one rowset more, where those that are left are opened behind it
pub rowsets_next : (targets : List Target) (i : ℕ) (rs : List MetaRowset) (r : MetaRowset) (all old new : List RowSetData) (d : RowSetData) (done after : List DiskRowSet) (s : DiskRowSet) → drop i rs ≡ r ∷ drop (i + 1) rs → old ≡ d ∷ new
    → IsRowsetOf targets r d s → after ≡ done ++ s ∷ [] → ((ss : List DiskRowSet) → AreRowsetsOf targets (drop i rs) old ss → AreRowsetsOf targets rs all (done ++ ss))
    → (ss : List DiskRowSet) → AreRowsetsOf targets (drop (i + 1) rs) new ss → AreRowsetsOf targets rs all (after ++ ss)
rowsets_next targets i rs r all old new d done after s left here one adds more ss are =
    subst (λ (l : List DiskRowSet). AreRowsetsOf targets rs all l) (sym (ap (λ (l : List DiskRowSet). l ++ ss) adds ∙ append_assoc done (s ∷ []) ss))
    (more (s ∷ ss) (subst (λ (l : List MetaRowset). AreRowsetsOf targets l old (s ∷ ss)) (sym left) (subst (λ (l : List RowSetData). AreRowsetsOf targets (r ∷ drop (i + 1) rs) l (s ∷ ss)) (sym here) (one, are))))

-- the numbers of what is left
pub numbers_first : (d : RowSetData) (new : List RowSetData) (r : MetaRowset) (rs : List MetaRowset) → numbers_in (d ∷ new) ≡ numbers_named (r ∷ rs) → (d.number ≡ r.rowset) × (numbers_in new ≡ numbers_named rs)
numbers_first d new r rs e = (let same : d.number ∷ numbers_in new ≡ r.rowset ∷ numbers_named rs = e in (cc, cc))

pub numbers_next : (i : ℕ) (rs : List MetaRowset) (r : MetaRowset) (old new : List RowSetData) (d : RowSetData) → drop i rs ≡ r ∷ drop (i + 1) rs → old ≡ d ∷ new → numbers_in old ≡ numbers_named (drop i rs)
    → (d.number ≡ r.rowset) × (numbers_in new ≡ numbers_named (drop (i + 1) rs))
numbers_next i rs r old new d left here e = numbers_first d new r (drop (i + 1) rs) (ap numbers_in (sym here) ∙ e ∙ ap numbers_named left)

-- and none is left behind the last
pub rowsets_end : (targets : List Target) (i : ℕ) (rs : List MetaRowset) (all old : List RowSetData) (done : List DiskRowSet) → drop i rs ≡ [] → numbers_in old ≡ numbers_named (drop i rs)
    → ((ss : List DiskRowSet) → AreRowsetsOf targets (drop i rs) old ss → AreRowsetsOf targets rs all (done ++ ss)) → AreRowsetsOf targets rs all done
rowsets_end targets i rs all old done none e more =
    subst (λ (l : List DiskRowSet). AreRowsetsOf targets rs all l) (append-nil done)
    (more [] (subst (λ (l : List MetaRowset). AreRowsetsOf targets l old []) (sym none) (subst (λ (l : List RowSetData). AreRowsetsOf targets [] l []) (sym (empty old (e ∙ ap numbers_named none))) tt)))
  where
    empty : (ds : List RowSetData) → numbers_in ds ≡ [] → ds ≡ []
    empty [] e = refl
    empty (d ∷ ds) e = (let bad : d.number ∷ numbers_in ds ≡ [] = e in absurd (cc))

pub none_left : (i : ℕ) (rs : List MetaRowset) (r : MetaRowset) (old : List RowSetData) → drop i rs ≡ r ∷ drop (i + 1) rs → length old ≡ 0 → numbers_in old ≡ numbers_named (drop i rs) → ⊥
none_left i rs r [] left none e = let bad : [] ≡ r.rowset ∷ numbers_named (drop (i + 1) rs) = e ∙ ap numbers_named left in cc
none_left i rs r (d ∷ old) left none e = omega (arith, none)

-- their numbers are those of the superblock
pub numbers_new : (targets : List Target) (rs : List MetaRowset) (ds : List RowSetData) (ss : List DiskRowSet) → AreRowsetsOf targets rs ds ss
    → map (λ (s : DiskRowSet). disk (rowset.held_of s).number) ss ≡ map (λ (r : MetaRowset). disk r.rowset) rs
numbers_new targets [] [] [] h = refl
numbers_new targets [] [] (s ∷ ss) h = absurd h
numbers_new targets [] (d ∷ ds) [] h = absurd h
numbers_new targets [] (d ∷ ds) (s ∷ ss) h = absurd h
numbers_new targets (r ∷ rs) [] [] h = absurd h
numbers_new targets (r ∷ rs) [] (s ∷ ss) h = absurd h
numbers_new targets (r ∷ rs) (d ∷ ds) [] h = absurd h
numbers_new targets (r ∷ rs) (d ∷ ds) (s ∷ ss) h = (λ i. disk (h.0.number i) ∷ numbers_new targets rs ds ss h.1 i)

module _ (pool : Contents) where
  new_stand : (ss : List DiskRowSet) → AllNew ss → AllStand stands pool (map (λ (s : DiskRowSet). inr s) ss)
  new_stand [] h = tt
  new_stand (s ∷ ss) h = (h.0.stands pool, new_stand ss h.1)

  new_owned : (ss : List DiskRowSet) → AllNew ss → (k : ℕ) → ¬ OwnedBy owns pool (map (λ (s : DiskRowSet). inr s) ss) k
  new_owned [] h k own = own
  new_owned (s ∷ ss) h k own = elim own [ inl mine ↦ h.0.bare pool k mine | inr other ↦ new_owned ss h.1 k other ]

  new_apart : (ss : List DiskRowSet) → AllNew ss → AreApart owns pool (map (λ (s : DiskRowSet). inr s) ss)
  new_apart [] h = tt
  new_apart (s ∷ ss) h = ((λ k own other. h.0.bare pool k own), new_apart ss h.1)

  new_cells : (ss : List DiskRowSet) → AllNew ss → cells_in (shelf_of read pool (map (λ (s : DiskRowSet). inr s) ss)) ≡ 0
  new_cells [] h = refl
  new_cells (s ∷ ss) h =
      let first = sum_by-cons (λ (s : Shelved). s.cells) (read (inr s) pool) (shelf_of read pool (map (λ (s : DiskRowSet). inr s) ss)) in
      let none = h.0.none pool in
      let more = new_cells ss h.1 in omega arith

  new_closed : (ss : List DiskRowSet) → AreClosed (shelf_of read pool (map (λ (s : DiskRowSet). inr s) ss))
  new_closed [] = tt
  new_closed (s ∷ ss) = (refl, new_closed ss)

  new_exact : (ss : List DiskRowSet) → AllNew ss → AreExact (shelf_of read pool (map (λ (s : DiskRowSet). inr s) ss))
  new_exact [] h = tt
  new_exact (s ∷ ss) h = ((λ e. h.0.none pool), new_exact ss h.1)

  new_under : (ts : ℕ) (q : List ℕ) (ss : List DiskRowSet) → AllNew ss → AllByRecursion (λ (s : DiskRowSet). KeyUnder ts q s pool) ss
  new_under ts q [] h = tt
  new_under ts q (s ∷ ss) h = (h.0.fresh ts q pool, new_under ts q ss h.1)

-- ---- what they hold

-- the last DeltaMemStore that is durable has no part in what a rowset holds
fit_named : (d : DiskRowset) (last n : ℕ) (rows : Rows) → rows_fit (record d { last_dms = last }) n rows ≡ rows_fit d n rows
fit_named d last n [] = refl
fit_named d last n (r ∷ rows) = ap (λ b. steps_fit (2 ^ 64) (falling (records_in n d.undos)) (Some r.1) && b) (fit_named d last (suc n) rows)

from_named : (d : DiskRowset) (last : ℕ) (fresh : Fresh) (n : ℕ) (rows : Rows) → hists_from (record d { last_dms = last }) fresh n rows ≡ hists_from d fresh n rows
from_named d last fresh n [] = refl
from_named d last fresh n (r ∷ rows) = ap (λ (l : Store). (r.0, hist_at d fresh (n, r.1)) ∷ l) (from_named d last fresh (suc n) rows)

store_named : (d : DiskRowset) (last : ℕ) (fresh : Fresh) → store_with (readable (record d { last_dms = last })) fresh ≡ store_with (readable d) fresh
store_named d last fresh =
    ap (λ b. store_with (cond b (record d { last_dms = last }) (record d { last_dms = last; undos = [] })) fresh) (fit_named d last 0 d.base)
    ∙ elim (undos_fit d) as (λ b. store_with (cond b (record d { last_dms = last }) (record d { last_dms = last; undos = [] })) fresh ≡ store_with (cond b d (record d { undos = [] })) fresh) [
      | true ↦ from_named d last fresh 0 d.base
      | false ↦ from_named (record d { undos = [] }) last fresh 0 d.base
    ]

-- what can be read of the files of each
pub stores_new : (targets : List Target) (rs : List MetaRowset) (ds : List RowSetData) (ss : List DiskRowSet) → AreRowsetsOf targets rs ds ss → map (λ (d : RowSetData). d.number) ds ≡ map (λ (r : MetaRowset). r.rowset) rs → (pool : Contents)
    → map {B = Place × Store} (λ (s : DiskRowSet). (disk (rowset.held_of s).number, rowset.store_of s pool)) ss ≡ map {B = Place × Store} (λ (d : DiskRowset). (disk d.rowset, store_with (readable d) (λ n. []))) (rowsets_in rs (map held_in ds))
stores_new targets [] [] [] h e pool = refl
stores_new targets [] [] (s ∷ ss) h e pool = absurd h
stores_new targets [] (d ∷ ds) [] h e pool = absurd h
stores_new targets [] (d ∷ ds) (s ∷ ss) h e pool = absurd h
stores_new targets (r ∷ rs) [] [] h e pool = absurd h
stores_new targets (r ∷ rs) [] (s ∷ ss) h e pool = absurd h
stores_new targets (r ∷ rs) (d ∷ ds) [] h e pool = absurd h
stores_new targets (r ∷ rs) (d ∷ ds) (s ∷ ss) h e pool =
    let two = numbers_first d ds r rs e in
    let here = two.0 in
    let behind = two.1 in
    let own : rowset.store_of s pool ≡ store_with (readable (rowset_in r (held_in d))) (λ n. []) =
    h.0.store pool ∙ sym (store_named (files_in d) r.last_dms (λ n. [])) ∙ ap (λ (f : DiskRowset). store_with (readable f) (λ n. [])) (sym (tell_their_files r d))
    in
    (λ i. (disk ((h.0.number ∙ sym here) i), own i) ∷ stores_new targets rs ds ss h.1 behind pool i)

-- a pool with no place uses no cell
pub none_used : (n : ℕ) (pool : Contents) → pool.places ≡ replicate n None → used pool ≡ 0
none_used n pool bare = let e = ap (sum_by cells_of) bare in let s = sum_by-replicate cells_of n None in omega arith

-- so an empty MemRowSet and these rowsets are kept in it
module _ (s : MemRowSet) (ss : List DiskRowSet) (pool : Contents) (stand : mem.IsStore s pool) (own : (k : ℕ) → ¬ mem.Owns s pool k) (none : mem.cells_had s pool ≡ 0) (thawed : mem.is_frozen s ≡ false) (new : AllNew ss) (bare : used pool ≡ 0) where
  pub new_kept : AreKept stands owns read (kept s [] ss) pool
  new_kept = record {
    stand = (stand, new_stand pool ss new);
    apart = ((λ k mine other. own k mine), new_apart pool ss new);
    counted =
        (let first = sum_by-cons (λ (s : Shelved). s.cells) (read (inl s) pool) (shelf_of read pool (map (λ (s : DiskRowSet). inr s) ss)) in
        let more = new_cells pool ss new in omega (arith, bare, none));
    first = (thawed, new_closed pool ss);
    exact = ((λ e. none), new_exact pool ss new);
  }

  pub new_keys : mem.store_of s pool ≡ [] → (ts : ℕ) (q : List ℕ) → Under ts (hist_in q (mem.store_of s pool)).steps × AllByRecursion (λ (d : DiskRowSet). KeyUnder ts q d pool) ss
  new_keys empty ts q = (subst (λ (store : Store). Under ts (hist_in q store).steps) (sym empty) tt, new_under pool ts q ss new)

-- ---- and after

-- So many cells are free as were asked for, where the rest was promised, and the promise of what is left is taken back
pub still_free : (first old new : Contents) (n cells needs : ℕ) → used first ≡ 0 → new ≡ with_reserved old n → length first.places ≡ cells + needs → first.reserved ≡ needs → length old.places ≡ length first.places
    → used old + old.reserved ≡ used first + first.reserved → cells ≤ free new
still_free first old new n cells needs bare is long promised size even =
    let places : length new.places ≡ length old.places = ap (λ (p : Contents). length p.places) is in
    let same : used new ≡ used old = ap used is in
    omega arith

-- so in memory is what can be read of their files
pub rowsets_read : (targets : List Target) (rs : List MetaRowset) (ds : List RowSetData) (ss : List DiskRowSet) → AreRowsetsOf targets rs ds ss → AreReadOf (map held_in ds) (map rowset.held_of ss)
rowsets_read targets [] [] [] are = tt
rowsets_read targets [] [] (s ∷ ss) are = absurd are
rowsets_read targets [] (d ∷ ds) [] are = absurd are
rowsets_read targets [] (d ∷ ds) (s ∷ ss) are = absurd are
rowsets_read targets (r ∷ rs) [] [] are = absurd are
rowsets_read targets (r ∷ rs) [] (s ∷ ss) are = absurd are
rowsets_read targets (r ∷ rs) (d ∷ ds) [] are = absurd are
rowsets_read targets (r ∷ rs) (d ∷ ds) (s ∷ ss) are = (are.0.held, rowsets_read targets rs ds ss are.1)

pub none_read : (files : List HeldFiles) → AreReadOf [] files → files ≡ []
none_read [] are = refl
none_read (x ∷ files) are = absurd are

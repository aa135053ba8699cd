-- What a job leaves of the stores, and its outputs behind them.
use Rattle.std.proofs.Common.{◌≡◌, ◌≤◌, ◌+◌, ◌⊎◌, ℕ, suc, Bool, true, false, cond, List, [], ◌∷◌, ◌++◌, map, length, append_assoc, inl, inr, refl, sym, ap, subst, ◌∙◌, arith}
use Rattle.std.specs.Prelude.{not, take, drop}
use Rattle.std.specs.List.{AllByRecursion, filter}
use Rattle.std.proofs.lemmas.List.{append-nil, map-append}
use Rattle.std.proofs.lemmas.List.Elements.{filter-append}
use Rattle.kt_history.specs.Beside.{AllStand, OwnedBy, AreApart}
use Rattle.kt_history.proofs.Beside.{Stays, stand_right, apart_right}
use Rattle.kt_history.specs.declared.target.Target.{Target}
use Rattle.kt_memrowset.specs.declared.store.MemRowSet.{MemRowSet}
use Rattle.kt_memrowset.specs.Stores.{IsStore, Owns}
use Rattle.kt_diskrowset.specs.declared.rowset.DiskRowSet.{DiskRowSet}
use Rattle.kt_diskrowset.specs.Rowset as disk
use Rattle.kt_pool.specs.Contents.{Contents}
use Rattle.kt_stores.specs.Shelf.{Shelved, AreClosed, AreExact, FirstIsOpen, cells_in, names_of}
use Rattle.kt_stores.specs.Parts.{kept, stands_by, owns_by, read_by, shelved_mem, shelf_of, AreKept}
use Rattle.kt_stores.specs.Leaving.{HaveLeft, AreNew, shelved_rowset, stays_behind, stays_beside}
use Rattle.kt_stores.specs.Takes.{Takes, mems, rowsets, takes, of_taken, left_on, files_left, shelf_over}
use Rattle.kt_stores.proofs.Departing.{left_between, same_shelf}
use Rattle.kt_stores.proofs.Emptying.{shelf-append, kept_more}

-- ---- MemRowSets and disk rowsets among both

module _ {X Y : Type 0} (g : Y → X) (standsX : X → Contents → Type 0) (ownsX : X → Contents → ℕ → Type 0) (readX : X → Contents → Shelved) (standsY : Y → Contents → Type 0) (ownsY : Y → Contents → ℕ → Type 0) (readY : Y → Contents → Shelved)
    (stand_is : (y : Y) (pool : Contents) → standsY y pool → standsX (g y) pool) (to : (y : Y) (pool : Contents) (k : ℕ) → ownsY y pool k → ownsX (g y) pool k) (from : (y : Y) (pool : Contents) (k : ℕ) → ownsX (g y) pool k → ownsY y pool k)
    (read_is : (y : Y) (pool : Contents) → readX (g y) pool ≡ readY y pool) where
  stand_in : (pool : Contents) (ys : List Y) → AllStand standsY pool ys → AllStand standsX pool (map g ys)
  stand_in pool [] st = tt
  stand_in pool (y ∷ ys) st = (stand_is y pool st.0, stand_in pool ys st.1)

  owned_to : (pool : Contents) (ys : List Y) (k : ℕ) → OwnedBy ownsY pool ys k → OwnedBy ownsX pool (map g ys) k
  owned_to pool [] k own = own
  owned_to pool (y ∷ ys) k own = elim own [ inl here ↦ inl (to y pool k here) | inr more ↦ inr (owned_to pool ys k more) ]

  owned_from : (pool : Contents) (ys : List Y) (k : ℕ) → OwnedBy ownsX pool (map g ys) k → OwnedBy ownsY pool ys k
  owned_from pool [] k own = own
  owned_from pool (y ∷ ys) k own = elim own [ inl here ↦ inl (from y pool k here) | inr more ↦ inr (owned_from pool ys k more) ]

  apart_in : (pool : Contents) (ys : List Y) → AreApart ownsY pool ys → AreApart ownsX pool (map g ys)
  apart_in pool [] h = tt
  apart_in pool (y ∷ ys) h = ((λ k here other. h.0 k (from y pool k here) (owned_from pool ys k other)), apart_in pool ys h.1)

  same_in : (old new : Contents) (ys : List Y) → AllByRecursion (λ (y : Y). readY y new ≡ readY y old) ys → AllByRecursion (λ (x : X). readX x new ≡ readX x old) (map g ys)
  same_in old new [] s = tt
  same_in old new (y ∷ ys) s = (read_is y new ∙ s.0 ∙ sym (read_is y old), same_in old new ys s.1)

  pub shelf_in : (pool : Contents) (ys : List Y) → shelf_of readX pool (map g ys) ≡ shelf_of readY pool ys
  shelf_in pool [] = refl
  shelf_in pool (y ∷ ys) = ap (λ (s : Shelved). s ∷ shelf_of readX pool (map g ys)) (read_is y pool) ∙ ap (λ (l : List Shelved). readY y pool ∷ l) (shelf_in pool ys)

  pub lifted : (all left : List Y) (old new : Contents) → HaveLeft standsY ownsY readY all left old new → HaveLeft standsX ownsX readX (map g all) (map g left) old new
  lifted all left old new h = record {
    stand = stand_in new left h.stand;
    apart = apart_in new left h.apart;
    same = same_in old new left h.same;
    owned = λ k own. owned_to old all k (h.owned k (owned_from new left k own));
    frame = λ k none. h.frame k (λ mine. none (owned_to old all k mine));
    cells = let was = h.cells in let a = ap cells_in (shelf_in old all) in let b = ap cells_in (shelf_in new left) in omega arith;
    reserved = h.reserved;
    size = h.size;
  }

-- ---- stores that are left are kept

module _ {X : Type 0} (read : X → Contents → Shelved) (pool : Contents) (stays : X → Bool) where
  closed_some : (pre all post : List X) → AreClosed (shelf_of read pool (pre ++ (all ++ post))) → AreClosed (shelf_of read pool (pre ++ (filter stays all ++ post)))
  closed_some [] [] post h = h
  closed_some [] (x ∷ all) post h = elim (stays x) as (λ (b : Bool). AreClosed (shelf_of read pool (cond b (x ∷ filter stays all) (filter stays all) ++ post))) [
    | true ↦ (h.0, closed_some [] all post h.1)
    | false ↦ closed_some [] all post h.1
  ]
  closed_some (x ∷ pre) all post h = (h.0, closed_some pre all post h.1)

  exact_some : (pre all post : List X) → AreExact (shelf_of read pool (pre ++ (all ++ post))) → AreExact (shelf_of read pool (pre ++ (filter stays all ++ post)))
  exact_some [] [] post h = h
  exact_some [] (x ∷ all) post h = elim (stays x) as (λ (b : Bool). AreExact (shelf_of read pool (cond b (x ∷ filter stays all) (filter stays all) ++ post))) [
    | true ↦ (h.0, exact_some [] all post h.1)
    | false ↦ exact_some [] all post h.1
  ]
  exact_some (x ∷ pre) all post h = (h.0, exact_some pre all post h.1)

module _ {X : Type 0} (stands : X → Contents → Type 0) (owns : X → Contents → ℕ → Type 0) (read : X → Contents → Shelved) (still : Stays stands owns read) (stays : X → Bool) (x : X) (pre all post : List X) (old new : Contents)
    (k : AreKept stands owns read (x ∷ pre ++ (all ++ post)) old) (h : HaveLeft stands owns read all (filter stays all) old new) where
  after : HaveLeft stands owns read (x ∷ pre ++ (all ++ post)) (x ∷ pre ++ (filter stays all ++ post)) old new
  after = left_between stands owns read still (x ∷ pre) all (filter stays all) post old new h k.stand k.apart

  pub shelf_left : shelf_of read new (x ∷ pre ++ (filter stays all ++ post)) ≡ shelf_of read old (x ∷ pre ++ (filter stays all ++ post))
  shelf_left = same_shelf read old new (x ∷ pre ++ (filter stays all ++ post)) after.same

  pub kept_left : AreKept stands owns read (x ∷ pre ++ (filter stays all ++ post)) new
  kept_left = record {
    stand = after.stand;
    apart = after.apart;
    counted = let was = k.counted in let cells = after.cells in omega arith;
    first = subst FirstIsOpen (sym shelf_left) (k.first.0, closed_some read old stays pre all post k.first.1);
    exact = subst AreExact (sym shelf_left) (k.exact.0, exact_some read old stays pre all post k.exact.1);
  }

-- ---- and others come behind them

module _ {X : Type 0} (stands : X → Contents → Type 0) (owns : X → Contents → ℕ → Type 0) (read : X → Contents → Shelved) (pool : Contents) where
  -- they stand, have no cell and take no inserts
  pub record IsNew (x : X) : Type 0 where
    pub stand : stands x pool
    pub bare : (k : ℕ) → ¬ owns x pool k
    pub none : (read x pool).cells ≡ 0
    pub closed : (read x pool).closed ≡ true

  pub kept_behind : (xs ys : List X) → AreKept stands owns read xs pool → AllByRecursion IsNew ys → AreKept stands owns read (xs ++ ys) pool
  kept_behind xs [] k new = subst (λ (l : List X). AreKept stands owns read l pool) (sym (append-nil xs)) k
  kept_behind xs (y ∷ ys) k new =
      subst (λ (l : List X). AreKept stands owns read l pool) (append_assoc xs (y ∷ []) ys)
      (kept_behind (xs ++ y ∷ []) ys (kept_more stands owns read pool y xs k new.0.stand new.0.bare new.0.none new.0.closed) new.1)

-- ---- by names

-- what is left on a shelf is the shelf of those that are left
left_shelf : {X : Type 0} (t : Takes) (read : X → Contents → Shelved) (pool : Contents) (xs : List X) → left_on t (shelf_of read pool xs) ≡ shelf_of read pool (filter (λ (x : X). not (takes t (read x pool).name)) xs)
left_shelf {X} t read pool [] = refl
left_shelf {X} t read pool (x ∷ xs) = elim (takes t (read x pool).name) as (λ (b : Bool). cond (not b) (read x pool ∷ left_on t (shelf_of read pool xs)) (left_on t (shelf_of read pool xs)) ≡ shelf_of read pool (cond (not b) (x ∷ filter (λ (x : X). not (takes t (read x pool).name)) xs) (filter (λ (x : X). not (takes t (read x pool).name)) xs))) [
  | true ↦ left_shelf t read pool xs
  | false ↦ ap (λ (l : List Shelved). read x pool ∷ l) (left_shelf t read pool xs)
]

filter_in : {X Y : Type 0} (g : Y → X) (p : X → Bool) (ys : List Y) → filter p (map g ys) ≡ map g (filter (λ (y : Y). p (g y)) ys)
filter_in g p [] = refl
filter_in g p (y ∷ ys) = elim (p (g y)) as (λ (b : Bool). cond b (g y ∷ filter p (map g ys)) (filter p (map g ys)) ≡ map g (cond b (y ∷ filter (λ (y : _). p (g y)) ys) (filter (λ (y : _). p (g y)) ys))) [
  | true ↦ ap (λ l. g y ∷ l) (filter_in g p ys)
  | false ↦ filter_in g p ys
]

all_stays : {Y : Type 0} (ys : List Y) → filter (λ (y : Y). true) ys ≡ ys
all_stays [] = refl
all_stays (y ∷ ys) = ap (λ l. y ∷ l) (all_stays ys)

-- what is said of a disk rowset, said of either
abbrev pub Stand : MemRowSet ⊎ DiskRowSet → Contents → Type 0
Stand x pool = stands_by disk.IsStore x pool

abbrev pub Own : MemRowSet ⊎ DiskRowSet → Contents → ℕ → Type 0
Own x pool k = owns_by disk.Owns x pool k

abbrev pub read_either : MemRowSet ⊎ DiskRowSet → Contents → Shelved
read_either x pool = read_by shelved_rowset x pool

module _ (still : Stays Stand Own read_either) (active : MemRowSet) (frozen : List MemRowSet) (rows outs : List DiskRowSet) (old new : Contents) (k : AreKept Stand Own read_either (kept active frozen rows) old) (fresh : AreNew old outs) where
  abbrev left : MemRowSet → MemRowSet ⊎ DiskRowSet
  left s = inl s

  abbrev right : DiskRowSet → MemRowSet ⊎ DiskRowSet
  right r = inr r

  -- it stays on the shelf
  abbrev stays : Takes → MemRowSet ⊎ DiskRowSet → Bool
  stays t x = not (takes t (read_either x old).name)

  -- ---- the outputs

  new_in : (rs : List DiskRowSet) → AllByRecursion (λ (r : DiskRowSet). disk.IsStore r old) rs → AllByRecursion (λ (r : DiskRowSet). (k : ℕ) → ¬ disk.Owns r old k) rs → AllByRecursion (λ (r : DiskRowSet). disk.cells_had r old ≡ 0) rs
      → AllByRecursion (IsNew Stand Own read_either new) (map right rs)
  new_in [] st bare none = tt
  new_in (r ∷ rs) st bare none =
      let here = still (right r) old new st.0 (λ k own. absurd (bare.0 k own)) in
      (record { stand = here.0; bare = λ k own. bare.0 k ((here.2 k).0 own); none = ap (λ (s : Shelved). s.cells) here.1 ∙ none.0; closed = refl }, new_in rs st.1 bare.1 none.1)

  shelf_new : (rs : List DiskRowSet) → AllByRecursion (λ (r : DiskRowSet). disk.IsStore r old) rs → AllByRecursion (λ (r : DiskRowSet). (k : ℕ) → ¬ disk.Owns r old k) rs → shelf_of read_either new (map right rs) ≡ map (λ (r : DiskRowSet). shelved_rowset r old) rs
  shelf_new [] st bare = refl
  shelf_new (r ∷ rs) st bare =
      let here = still (right r) old new st.0 (λ k own. absurd (bare.0 k own)) in
      ap (λ (s : Shelved). s ∷ shelf_of read_either new (map right rs)) here.1 ∙ ap (λ (l : List Shelved). shelved_rowset r old ∷ l) (shelf_new rs st.1 bare.1)

  -- ---- those that are left, and the outputs behind them

  module _ (t : Takes) (pre all post : List (MemRowSet ⊎ DiskRowSet)) (h : HaveLeft Stand Own read_either all (filter (stays t) all) old new) (kept_is : kept active frozen rows ≡ inl active ∷ pre ++ (all ++ post))
      (pre_stays : filter (stays t) pre ≡ pre) (post_stays : filter (stays t) post ≡ post) where
    kept_then : AreKept Stand Own read_either (inl active ∷ pre ++ (filter (stays t) all ++ post)) new
    kept_then = kept_left Stand Own read_either still (stays t) (inl active) pre all post old new (subst (λ xs. AreKept Stand Own read_either xs old) kept_is k) h

    pub kept_over : AreKept Stand Own read_either ((inl active ∷ pre ++ (filter (stays t) all ++ post)) ++ map right outs) new
    kept_over = kept_behind Stand Own read_either new (inl active ∷ pre ++ (filter (stays t) all ++ post)) (map right outs) kept_then (new_in outs fresh.stand fresh.bare fresh.none)

    filtered : filter (stays t) (pre ++ (all ++ post)) ≡ pre ++ (filter (stays t) all ++ post)
    filtered =
        filter-append (stays t) pre (all ++ post) ∙ ap (λ l. l ++ filter (stays t) (all ++ post)) pre_stays
        ∙ ap (λ l. pre ++ l) (filter-append (stays t) all post ∙ ap (λ l. filter (stays t) all ++ l) post_stays)

    pub shelf_is : shelf_of read_either new ((inl active ∷ pre ++ (filter (stays t) all ++ post)) ++ map right outs) ≡ shelf_over t (map (λ (r : DiskRowSet). shelved_rowset r old) outs) (shelf_of read_either old (kept active frozen rows))
    shelf_is =
        shelf-append read_either new (inl active ∷ pre ++ (filter (stays t) all ++ post)) (map right outs)
        ∙ ap (λ l. l ++ shelf_of read_either new (map right outs)) (shelf_left Stand Own read_either still (stays t) (inl active) pre all post old new (subst (λ xs. AreKept Stand Own read_either xs old) kept_is k) h)
        ∙ ap (λ l. shelf_of read_either old (inl active ∷ pre ++ (filter (stays t) all ++ post)) ++ l) (shelf_new outs fresh.stand fresh.bare)
        ∙ ap (λ l. (shelved_mem active old ∷ l) ++ map (λ (r : DiskRowSet). shelved_rowset r old) outs) (sym (ap (shelf_of read_either old) filtered) ∙ sym (left_shelf t read_either old (pre ++ (all ++ post))))
        ∙ ap (λ xs. shelf_over t (map (λ (r : DiskRowSet). shelved_rowset r old) outs) (shelf_of read_either old xs)) (sym kept_is)

  -- ---- the frozen MemRowSets of numbers up to one

  frozen_left : (last : ℕ) → filter (stays (mems last)) (map left frozen) ≡ map left (filter (stays_behind last) frozen)
  frozen_left last = filter_in left (stays (mems last)) frozen

  rows_stay : (last : ℕ) → filter (stays (mems last)) (map right rows) ≡ map right rows
  rows_stay last = filter_in right (stays (mems last)) rows ∙ ap (map right) (all_stays rows)

  module _ (last : ℕ) (h : HaveLeft IsStore Owns shelved_mem frozen (filter (stays_behind last) frozen) old new) where
    flush_left : HaveLeft Stand Own read_either (map left frozen) (filter (stays (mems last)) (map left frozen)) old new
    flush_left =
        subst (λ l. HaveLeft Stand Own read_either (map left frozen) l old new) (sym (frozen_left last))
        (lifted left Stand Own read_either IsStore Owns shelved_mem (λ s pool st. st) (λ s pool k own. own) (λ s pool k own. own) (λ s pool. refl) frozen (filter (stays_behind last) frozen) old new h)

    flush_is : (inl active ∷ filter (stays (mems last)) (map left frozen) ++ map right rows) ++ map right outs ≡ kept active (filter (stays_behind last) frozen) (rows ++ outs)
    flush_is =
        ap (λ l. (inl active ∷ l ++ map right rows) ++ map right outs) (frozen_left last)
        ∙ ap (λ l. inl active ∷ l) (append_assoc (map left (filter (stays_behind last) frozen)) (map right rows) (map right outs) ∙ ap (λ l. map left (filter (stays_behind last) frozen) ++ l) (sym (map-append right rows outs)))

    pub kept_flushed : AreKept Stand Own read_either (kept active (filter (stays_behind last) frozen) (rows ++ outs)) new
    kept_flushed = subst (λ xs. AreKept Stand Own read_either xs new) flush_is (kept_over (mems last) [] (map left frozen) (map right rows) flush_left refl refl (rows_stay last))

    pub shelf_flushed : shelf_of read_either new (kept active (filter (stays_behind last) frozen) (rows ++ outs)) ≡ shelf_over (mems last) (map (λ (r : DiskRowSet). shelved_rowset r old) outs) (shelf_of read_either old (kept active frozen rows))
    shelf_flushed = ap (shelf_of read_either new) (sym flush_is) ∙ shelf_is (mems last) [] (map left frozen) (map right rows) flush_left refl refl (rows_stay last)

  -- ---- disk rowsets of some numbers

  frozen_stay : (numbers : List ℕ) → filter (stays (rowsets numbers)) (map left frozen) ≡ map left frozen
  frozen_stay numbers = filter_in left (stays (rowsets numbers)) frozen ∙ ap (map left) (all_stays frozen)

  rows_left : (numbers : List ℕ) → filter (stays (rowsets numbers)) (map right rows) ≡ map right (filter (stays_beside numbers) rows)
  rows_left numbers = filter_in right (stays (rowsets numbers)) rows

  module _ (numbers : List ℕ) (h : HaveLeft disk.IsStore disk.Owns shelved_rowset rows (filter (stays_beside numbers) rows) old new) where
    compaction_left : HaveLeft Stand Own read_either (map right rows) (filter (stays (rowsets numbers)) (map right rows)) old new
    compaction_left =
        subst (λ l. HaveLeft Stand Own read_either (map right rows) l old new) (sym (rows_left numbers))
        (lifted right Stand Own read_either disk.IsStore disk.Owns shelved_rowset (λ r pool st. st) (λ r pool k own. own) (λ r pool k own. own) (λ r pool. refl) rows (filter (stays_beside numbers) rows) old new h)

    nothing_behind : kept active frozen rows ≡ inl active ∷ map left frozen ++ (map right rows ++ [])
    nothing_behind = ap (λ l. inl active ∷ map left frozen ++ l) (sym (append-nil (map right rows)))

    compaction_is : (inl active ∷ map left frozen ++ (filter (stays (rowsets numbers)) (map right rows) ++ [])) ++ map right outs ≡ kept active frozen (filter (stays_beside numbers) rows ++ outs)
    compaction_is =
        ap (λ l. (inl active ∷ map left frozen ++ l) ++ map right outs) (append-nil (filter (stays (rowsets numbers)) (map right rows)) ∙ rows_left numbers)
        ∙ ap (λ l. inl active ∷ l) (append_assoc (map left frozen) (map right (filter (stays_beside numbers) rows)) (map right outs) ∙ ap (λ l. map left frozen ++ l) (sym (map-append right (filter (stays_beside numbers) rows) outs)))

    pub kept_compacted : AreKept Stand Own read_either (kept active frozen (filter (stays_beside numbers) rows ++ outs)) new
    kept_compacted = subst (λ xs. AreKept Stand Own read_either xs new) compaction_is (kept_over (rowsets numbers) (map left frozen) (map right rows) [] compaction_left nothing_behind (frozen_stay numbers) refl)

    pub shelf_compacted : shelf_of read_either new (kept active frozen (filter (stays_beside numbers) rows ++ outs)) ≡ shelf_over (rowsets numbers) (map (λ (r : DiskRowSet). shelved_rowset r old) outs) (shelf_of read_either old (kept active frozen rows))
    shelf_compacted = ap (shelf_of read_either new) (sym compaction_is) ∙ shelf_is (rowsets numbers) (map left frozen) (map right rows) [] compaction_left nothing_behind (frozen_stay numbers) refl

-- ---- how many frozen ones are left

pub frozen_count : (last : ℕ) (active : MemRowSet) (frozen : List MemRowSet) (rows : List DiskRowSet) (pool : Contents)
    → length (filter (stays_behind last) frozen) ≡ length (left_on (mems last) (take (length frozen) (drop 1 (shelf_of read_either pool (kept active frozen rows)))))
frozen_count last active frozen rows pool =
    sym (ap (λ l. length (left_on (mems last) l)) (front frozen) ∙ count_left frozen)
  where
    front : (fs : List MemRowSet) → take (length fs) (shelf_of read_either pool (map inl fs ++ map inr rows)) ≡ map (λ (s : MemRowSet). shelved_mem s pool) fs
    front [] = refl
    front (f ∷ fs) = ap (λ l. shelved_mem f pool ∷ l) (front fs)

    count_left : (fs : List MemRowSet) → length (left_on (mems last) (map (λ (s : MemRowSet). shelved_mem s pool) fs)) ≡ length (filter (stays_behind last) fs)
    count_left [] = refl
    count_left (f ∷ fs) = elim (stays_behind last f) as (λ (b : Bool). length (cond b (shelved_mem f pool ∷ left_on (mems last) (map (λ (s : MemRowSet). shelved_mem s pool) fs)) (left_on (mems last) (map (λ (s : MemRowSet). shelved_mem s pool) fs))) ≡ length (cond b (f ∷ filter (stays_behind last) fs) (filter (stays_behind last) fs))) [
      | true ↦ ap suc (count_left fs)
      | false ↦ count_left fs
    ]

-- ---- the disk rowsets among all

pub rowsets_stand : (active : MemRowSet) (frozen : List MemRowSet) (rows : List DiskRowSet) (pool : Contents) → AllStand Stand pool (kept active frozen rows) → AllStand disk.IsStore pool rows
rowsets_stand active frozen rows pool st = own rows (stand_right Stand pool (map inl frozen) (map inr rows) st.1)
  where
    own : (rs : List DiskRowSet) → AllStand Stand pool (map inr rs) → AllStand disk.IsStore pool rs
    own [] st = tt
    own (r ∷ rs) st = (st.0, own rs st.1)

owned_rows : (pool : Contents) (rs : List DiskRowSet) (k : ℕ) → OwnedBy disk.Owns pool rs k → OwnedBy Own pool (map inr rs) k
owned_rows pool [] k own = own
owned_rows pool (r ∷ rs) k own = elim own [ inl here ↦ inl here | inr more ↦ inr (owned_rows pool rs k more) ]

pub rowsets_apart : (active : MemRowSet) (frozen : List MemRowSet) (rows : List DiskRowSet) (pool : Contents) → AreApart Own pool (kept active frozen rows) → AreApart disk.Owns pool rows
rowsets_apart active frozen rows pool h = own rows (apart_right Own pool (map inl frozen) (map inr rows) h.1)
  where
    own : (rs : List DiskRowSet) → AreApart Own pool (map inr rs) → AreApart disk.Owns pool rs
    own [] h = tt
    own (r ∷ rs) h = ((λ k here other. h.0 k here (owned_rows pool rs k other)), own rs h.1)

-- ---- what is read of those that are taken

-- of a shelf, what the stores hold that are taken
taken_on : (t : Takes) (shelf : List Shelved) → of_taken t (names_of shelf) (map (λ (s : Shelved). s.store) shelf) ≡ map (λ (s : Shelved). s.store) (filter (λ (s : Shelved). takes t s.name) shelf)
taken_on t [] = refl
taken_on t (s ∷ shelf) = elim (takes t s.name) as (λ (b : Bool). cond b (s.store ∷ of_taken t (names_of shelf) (map (λ (s : Shelved). s.store) shelf)) (of_taken t (names_of shelf) (map (λ (s : Shelved). s.store) shelf)) ≡ map (λ (s : Shelved). s.store) (cond b (s ∷ filter (λ (s : Shelved). takes t s.name) shelf) (filter (λ (s : Shelved). takes t s.name) shelf))) [
  | true ↦ ap (λ l. s.store ∷ l) (taken_on t shelf)
  | false ↦ taken_on t shelf
]

abbrev behind_all : List MemRowSet → List DiskRowSet → Contents → List Shelved
behind_all frozen rows pool = shelf_of read_either pool (map inl frozen ++ map inr rows)

names_behind : (frozen : List MemRowSet) (rows : List DiskRowSet) (pool : Contents) → drop (length frozen) (names_of (behind_all frozen rows pool)) ≡ names_of (shelf_of read_either pool (map inr rows))
names_behind [] rows pool = refl
names_behind (f ∷ frozen) rows pool = names_behind frozen rows pool

stores_behind : (frozen : List MemRowSet) (rows : List DiskRowSet) (pool : Contents) → drop (length frozen) (map (λ (s : Shelved). s.store) (behind_all frozen rows pool)) ≡ map (λ (s : Shelved). s.store) (shelf_of read_either pool (map inr rows))
stores_behind [] rows pool = refl
stores_behind (f ∷ frozen) rows pool = stores_behind frozen rows pool

rows_taken : (numbers : List ℕ) (rows : List DiskRowSet) (pool : Contents)
    → map (λ (s : Shelved). s.store) (filter (λ (s : Shelved). takes (rowsets numbers) s.name) (shelf_of read_either pool (map inr rows))) ≡ map (λ (r : DiskRowSet). disk.store_of r pool) (filter (λ (r : DiskRowSet). takes (rowsets numbers) (disk.name_of r)) rows)
rows_taken numbers [] pool = refl
rows_taken numbers (r ∷ rows) pool = by (takes (rowsets numbers) (disk.name_of r)) (rows_taken numbers rows pool)
  where
    by : (b : Bool)
        → map (λ (s : Shelved). s.store) (filter (λ (s : Shelved). takes (rowsets numbers) s.name) (shelf_of read_either pool (map inr rows))) ≡ map (λ (r : DiskRowSet). disk.store_of r pool) (filter (λ (r : DiskRowSet). takes (rowsets numbers) (disk.name_of r)) rows)
        → map (λ (s : Shelved). s.store) (cond b (shelved_rowset r pool ∷ filter (λ (s : Shelved). takes (rowsets numbers) s.name) (shelf_of read_either pool (map inr rows))) (filter (λ (s : Shelved). takes (rowsets numbers) s.name) (shelf_of read_either pool (map inr rows))))
        ≡ map (λ (r : DiskRowSet). disk.store_of r pool) (cond b (r ∷ filter (λ (r : DiskRowSet). takes (rowsets numbers) (disk.name_of r)) rows) (filter (λ (r : DiskRowSet). takes (rowsets numbers) (disk.name_of r)) rows))
    by true rest = ap (λ l. disk.store_of r pool ∷ l) rest
    by false rest = rest

pub taken_rows : (numbers : List ℕ) (active : MemRowSet) (frozen : List MemRowSet) (rows : List DiskRowSet) (pool : Contents)
    → of_taken (rowsets numbers) (drop (suc (length frozen)) (names_of (shelf_of read_either pool (kept active frozen rows)))) (drop (suc (length frozen)) (map (λ (s : Shelved). s.store) (shelf_of read_either pool (kept active frozen rows))))
    ≡ map (λ (r : DiskRowSet). disk.store_of r pool) (filter (λ (r : DiskRowSet). takes (rowsets numbers) (disk.name_of r)) rows)
taken_rows numbers active frozen rows pool =
    ap (λ (ns : List Target). of_taken (rowsets numbers) ns (drop (length frozen) (map (λ (s : Shelved). s.store) (behind_all frozen rows pool)))) (names_behind frozen rows pool)
    ∙ ap (of_taken (rowsets numbers) (names_of (shelf_of read_either pool (map inr rows)))) (stores_behind frozen rows pool)
    ∙ taken_on (rowsets numbers) (shelf_of read_either pool (map inr rows)) ∙ rows_taken numbers rows pool

-- how many are left is no more
pub fewer_left : {A : Type 0} (p : A → Bool) (xs : List A) → length (filter p xs) ≤ length xs
fewer_left p [] = omega arith
fewer_left p (x ∷ xs) = elim (p x) as (λ (b : Bool). length (cond b (x ∷ filter p xs) (filter p xs)) ≤ suc (length xs)) [
  | true ↦ (let few = fewer_left p xs in omega arith)
  | false ↦ (let few = fewer_left p xs in omega arith)
]

-- a compaction leaves all MemRowSets
pub frozen_stays : (numbers : List ℕ) (active : MemRowSet) (frozen : List MemRowSet) (rows : List DiskRowSet) (pool : Contents)
    → length frozen ≡ length (left_on (rowsets numbers) (take (length frozen) (drop 1 (shelf_of read_either pool (kept active frozen rows)))))
frozen_stays numbers active frozen rows pool = all_of frozen
  where
    all_of : (fs : List MemRowSet) → length fs ≡ length (left_on (rowsets numbers) (take (length fs) (shelf_of read_either pool (map inl fs ++ map inr rows))))
    all_of [] = refl
    all_of (f ∷ fs) = ap suc (all_of fs)

-- the files of the disk rowsets that stay
pub files_stay : (numbers : List ℕ) (rs : List DiskRowSet) → map disk.held_of (filter (stays_beside numbers) rs) ≡ files_left (rowsets numbers) (map disk.held_of rs)
files_stay numbers [] = refl
files_stay numbers (r ∷ rs) = by (stays_beside numbers r) (files_stay numbers rs)
  where
    by : (b : Bool) → map disk.held_of (filter (stays_beside numbers) rs) ≡ files_left (rowsets numbers) (map disk.held_of rs)
        → map disk.held_of (cond b (r ∷ filter (stays_beside numbers) rs) (filter (stays_beside numbers) rs)) ≡ cond b (disk.held_of r ∷ files_left (rowsets numbers) (map disk.held_of rs)) (files_left (rowsets numbers) (map disk.held_of rs))
    by true rest = ap (λ l. disk.held_of r ∷ l) rest
    by false rest = rest

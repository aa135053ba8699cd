-- What is read of the disk rowsets of some numbers, one after another.
use Rattle.std.proofs.Common.{◌≡◌, ◌<◌, ◌+◌, ℕ, Bool, true, false, cond, List, [], ◌∷◌, ◌++◌, map, take, length, get_or, refl, sym, ap, ◌∙◌}
use Rattle.std.specs.List.{AllByRecursion, filter, list_any}
use Rattle.std.specs.Prelude.{◌==◌}
use Rattle.std.proofs.lemmas.List.{append-nil, map-append, take_more}
use Rattle.std.proofs.lemmas.List.Elements.{filter-append}
use Rattle.kt_history.specs.Stores.{Store}
use Rattle.kt_pool.specs.Contents.{Contents}
use Rattle.kt_diskrowset.specs.declared.data.RowSetData.{RowSetData}
use Rattle.kt_diskrowset.specs.declared.rowset.DiskRowSet.{DiskRowSet}
use Rattle.kt_diskrowset.specs.Data.{store_in, held_in}
use Rattle.kt_diskrowset.specs.Rowset.{HeldFiles, held_of, name_of, store_of}
use Rattle.kt_stores.specs.Takes.{rowsets, takes, files_taken}

-- of these disk rowsets, what the ones of some numbers hold
abbrev pub taken_of : List ℕ → Contents → List DiskRowSet → List Store
taken_of numbers pool rows = map (λ (r : DiskRowSet). store_of r pool) (filter (λ (r : DiskRowSet). takes (rowsets numbers) (name_of r)) rows)

module _ (numbers : List ℕ) (pool : Contents) (rows : List DiskRowSet) (k : ℕ) (r : DiskRowSet) (lt : k < length rows) (is : r ≡ get_or rows k r) where
  abbrev picks : DiskRowSet → Bool
  picks s = takes (rowsets numbers) (name_of s)

  next : (b : Bool) → picks r ≡ b → filter picks (take (k + 1) rows) ≡ filter picks (take k rows) ++ cond b (r ∷ []) []
  next b is_so =
      ap (filter picks) (take_more rows k r lt ∙ ap (λ (s : DiskRowSet). take k rows ++ s ∷ []) (sym is)) ∙ filter-append picks (take k rows) (r ∷ [])
      ∙ ap (λ (c : Bool). filter picks (take k rows) ++ cond c (r ∷ []) []) is_so

  -- one more is read
  pub one_read : (list : List RowSetData) (d : RowSetData) → picks r ≡ true → map store_in list ≡ taken_of numbers pool (take k rows) → store_in d ≡ store_of r pool
      → map store_in (list ++ d ∷ []) ≡ taken_of numbers pool (take (k + 1) rows)
  one_read list d picked so one =
      map-append store_in list (d ∷ []) ∙ ap (λ (l : List Store). l ++ store_in d ∷ []) so ∙ ap (λ (s : Store). taken_of numbers pool (take k rows) ++ s ∷ []) one
      ∙ sym (ap (map (λ (s : DiskRowSet). store_of s pool)) (next true picked) ∙ map-append (λ (s : DiskRowSet). store_of s pool) (filter picks (take k rows)) (r ∷ []))

  -- and another passed over
  pub one_passed : (list : List RowSetData) → picks r ≡ false → map store_in list ≡ taken_of numbers pool (take k rows) → map store_in list ≡ taken_of numbers pool (take (k + 1) rows)
  one_passed list other so = so ∙ sym (ap (map (λ (s : DiskRowSet). store_of s pool)) (next false other ∙ append-nil (filter picks (take k rows))))

  -- and of anything that is told of them
  pub told_more : {B : Type 0} (f : RowSetData → B) (g : DiskRowSet → B) (list : List RowSetData) (d : RowSetData) → picks r ≡ true → map f list ≡ map g (filter picks (take k rows)) → f d ≡ g r
      → map f (list ++ d ∷ []) ≡ map g (filter picks (take (k + 1) rows))
  told_more f g list d picked so one =
      map-append f list (d ∷ []) ∙ ap (λ l. l ++ f d ∷ []) so ∙ ap (λ x. map g (filter picks (take k rows)) ++ x ∷ []) one
      ∙ sym (ap (map g) (next true picked) ∙ map-append g (filter picks (take k rows)) (r ∷ []))

  pub told_still : {B : Type 0} (f : RowSetData → B) (g : DiskRowSet → B) (list : List RowSetData) → picks r ≡ false → map f list ≡ map g (filter picks (take k rows)) → map f list ≡ map g (filter picks (take (k + 1) rows))
  told_still f g list other so = so ∙ sym (ap (map g) (next false other ∙ append-nil (filter picks (take k rows))))

-- the files of those that are picked are those of the numbers
pub files_picked : (numbers : List ℕ) (rows : List DiskRowSet) → files_taken numbers (map held_of rows) ≡ map held_of (filter (λ (r : DiskRowSet). takes (rowsets numbers) (name_of r)) rows)
files_picked numbers [] = refl
files_picked numbers (r ∷ rows) = by (takes (rowsets numbers) (name_of r)) (files_picked numbers rows)
  where
    by : (b : Bool) → files_taken numbers (map held_of rows) ≡ map held_of (filter (λ (r : DiskRowSet). takes (rowsets numbers) (name_of r)) rows)
        → cond b (held_of r ∷ files_taken numbers (map held_of rows)) (files_taken numbers (map held_of rows))
        ≡ map held_of (cond b (r ∷ filter (λ (r : DiskRowSet). takes (rowsets numbers) (name_of r)) rows) (filter (λ (r : DiskRowSet). takes (rowsets numbers) (name_of r)) rows))
    by true rest = ap (λ (l : List HeldFiles). held_of r ∷ l) rest
    by false rest = rest

-- it is of one of the numbers
pub number_read : (numbers : List ℕ) (r : DiskRowSet) (d : RowSetData) → takes (rowsets numbers) (name_of r) ≡ true → held_in d ≡ held_of r → list_any (λ (s : ℕ). s == d.number) numbers ≡ true
number_read numbers r d picked held = ap (λ (h : HeldFiles). list_any (λ (s : ℕ). s == h.number) numbers) held ∙ picked

pub and_one : {A : Type 0} (P : A → Type 0) (xs : List A) (x : A) → AllByRecursion P xs → P x → AllByRecursion P (xs ++ x ∷ [])
and_one P [] x h p = (p, tt)
and_one P (y ∷ xs) x h p = (h.0, and_one P xs x h.1 p)

-- Some of the disk rowsets that a superblock names.
use Rattle.std.proofs.Common.{◌≡◌, ◌≤◌, ◌+◌, ℕ, Bool, true, false, List, [], ◌∷◌, ◌++◌, refl, sym, arith, cond, ◌∙◌}
use Rattle.std.specs.Prelude.{◌||◌, nat_le, nat_lt}
use Rattle.std.specs.List.{filter}
use Rattle.std.proofs.lemmas.Bool.{le-leb}
use Rattle.kt_base.proofs.Values.{both_true, both}
use Rattle.kt_super.specs.declared.meta.MetaRowset.{MetaRowset}
use Rattle.kt_super.specs.Rowsets.{has, numbers_of, taken_by, IsRowset, AreRowsets}
use Rattle.kt_files.specs.Named.{named_by, named_in}
use Rattle.kt_outputs.specs.Fewer.{some_may_be_named, some_stand}
use Rattle.kt_outputs.proofs.InPlace.{TakesNoMore, has_join, none_left, no_more_join, still_file, still_files, from_least}
use Rattle.kt_outputs.proofs.Named.{file_below}

-- ---- numbers that are free stay so

-- what is free behind a rowset was free before it
free_before : (taken : List ℕ) (r : MetaRowset) (k : ℕ) → has (taken_by taken r) k ≡ false → has taken k ≡ false
free_before taken r k free =
    none_left (has taken k) (has (r.base.file ∷ []) k) (sym (has_join taken (r.base.file ∷ []) k)
    ∙ none_left (has (taken ++ r.base.file ∷ []) k) (has (numbers_of r.undo) k) (sym (has_join (taken ++ r.base.file ∷ []) (numbers_of r.undo) k)
    ∙ none_left (has (taken ++ r.base.file ∷ [] ++ numbers_of r.undo) k) (has (numbers_of r.redo) k) (sym (has_join (taken ++ r.base.file ∷ [] ++ numbers_of r.undo) (numbers_of r.redo) k) ∙ free)))

module _ (stays : MetaRowset → Bool) (next_rowset next_file : ℕ) where
  -- a rowset behind fewer others
  module _ (least low : ℕ) (taken fewer : List ℕ) (r : MetaRowset) (le : low ≤ least) (no_more : TakesNoMore next_file taken fewer) (is : IsRowset next_rowset next_file least taken r) where
    with_base : TakesNoMore next_file (taken ++ r.base.file ∷ []) (fewer ++ r.base.file ∷ [])
    with_base = no_more_join next_file taken fewer (r.base.file ∷ []) no_more

    with_undo : TakesNoMore next_file (taken ++ r.base.file ∷ [] ++ numbers_of r.undo) (fewer ++ r.base.file ∷ [] ++ numbers_of r.undo)
    with_undo = no_more_join next_file (taken ++ r.base.file ∷ []) (fewer ++ r.base.file ∷ []) (numbers_of r.undo) with_base

    with_all : TakesNoMore next_file (taken_by taken r) (taken_by fewer r)
    with_all = no_more_join next_file (taken ++ r.base.file ∷ [] ++ numbers_of r.undo) (fewer ++ r.base.file ∷ [] ++ numbers_of r.undo) (numbers_of r.redo) with_undo

    one_of_fewer : IsRowset next_rowset next_file low fewer r
    one_of_fewer = record {
      rowset = both (nat_le low r.rowset) (nat_lt r.rowset next_rowset) (le-leb low r.rowset (let up = from_least least next_rowset r.rowset is.rowset in omega arith)) (both_true (nat_le least r.rowset) (nat_lt r.rowset next_rowset) is.rowset).1;
      last_dms = is.last_dms;
      base = still_file next_file next_file next_file taken fewer r.base (file_below next_file taken r.base is.base) no_more is.base;
      undo = still_files next_file next_file next_file (taken ++ r.base.file ∷ []) (taken ++ r.base.file ∷ []) (fewer ++ r.base.file ∷ []) r.undo is.undo (omega arith) with_base is.undo;
      redo = still_files next_file next_file next_file (taken ++ r.base.file ∷ [] ++ numbers_of r.undo) (taken ++ r.base.file ∷ [] ++ numbers_of r.undo) (fewer ++ r.base.file ∷ [] ++ numbers_of r.undo) r.redo is.redo (omega arith) with_undo is.redo;
    }

  some_rowsets : (least low : ℕ) (taken fewer : List ℕ) (rowsets : List MetaRowset) → low ≤ least → TakesNoMore next_file taken fewer → AreRowsets next_rowset next_file least taken rowsets → AreRowsets next_rowset next_file low fewer (filter stays rowsets)
  some_rowsets least low taken fewer [] le no_more are = tt
  some_rowsets least low taken fewer (r ∷ rowsets) le no_more are =
      let up = from_least least next_rowset r.rowset are.0.rowset in
      by (stays r)
      (some_rowsets (r.rowset + 1) (r.rowset + 1) (taken_by taken r) (taken_by fewer r) rowsets (omega arith) (with_all least low taken fewer r le no_more are.0) are.1)
      (some_rowsets (r.rowset + 1) low (taken_by taken r) fewer rowsets (omega arith) (λ k lt free. no_more k lt (free_before taken r k free)) are.1)
    where
      by : (b : Bool) → AreRowsets next_rowset next_file (r.rowset + 1) (taken_by fewer r) (filter stays rowsets) → AreRowsets next_rowset next_file low fewer (filter stays rowsets) → AreRowsets next_rowset next_file low fewer (cond b (r ∷ filter stays rowsets) (filter stays rowsets))
      by true behind rest = (one_of_fewer least low taken fewer r le no_more are.0, behind)
      by false behind rest = rest

pub fewer_named : some_may_be_named
fewer_named stays rowsets next_rowset next_file are = some_rowsets stays next_rowset next_file 0 0 [] [] rowsets (omega arith) (λ k lt free. free) are

-- ---- their files

or_more : (a b c : Bool) → (b ≡ true → c ≡ true) → (a || b) ≡ true → (a || c) ≡ true
or_more true b c f h = refl
or_more false b c f h = f h

or_right : (a b : Bool) → b ≡ true → (a || b) ≡ true
or_right true b h = refl
or_right false b h = h

named_still : (stays : MetaRowset → Bool) (rowsets : List MetaRowset) (n : ℕ) → has (named_in (filter stays rowsets)) n ≡ true → has (named_in rowsets) n ≡ true
named_still stays [] n h = h
named_still stays (r ∷ rowsets) n h = has_join (named_by r) (named_in rowsets) n ∙ by (stays r) (named_still stays rowsets n) h
  where
    by : (b : Bool) → (has (named_in (filter stays rowsets)) n ≡ true → has (named_in rowsets) n ≡ true) → has (named_in (cond b (r ∷ filter stays rowsets) (filter stays rowsets))) n ≡ true → (has (named_by r) n || has (named_in rowsets) n) ≡ true
    by true rest h = or_more (has (named_by r) n) (has (named_in (filter stays rowsets)) n) (has (named_in rowsets) n) rest (sym (has_join (named_by r) (named_in (filter stays rowsets)) n) ∙ h)
    by false rest h = or_right (has (named_by r) n) (has (named_in rowsets) n) (rest h)

pub fewer_stand : some_stand
fewer_stand stays rowsets files c has_all n named = has_all n (named_still stays rowsets n named)

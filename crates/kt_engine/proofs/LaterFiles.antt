-- The files of disk rowsets that a job takes: what lies up to a bound in the stores does so in the files.
use Rattle.std.proofs.Common.{◌≡◌, ℕ, suc, List, [], ◌∷◌, ◌++◌, map, Option, Some, None, refl, sym, ap, ◌∙◌, subst, arith}
use Rattle.std.specs.List.{AllByRecursion}
use Rattle.kt_history.specs.Rows.{Row}
use Rattle.kt_history.specs.Stores.{Steps, Hist, Store, Under, hist_in}
use Rattle.kt_histlaws.specs.Flights.{UpTo, AllUnder}
use Rattle.kt_histlaws.specs.Histories.{hists}
use Rattle.kt_rowfiles.specs.Files.{DiskRowset, hist_in_files, row_under, row_with}
use Rattle.kt_diskrowset.specs.declared.data.RowSetData.{RowSetData}
use Rattle.kt_diskrowset.specs.Data.{held_in, files_in, fresh_in, store_in}
use Rattle.kt_diskrowset.specs.Held.{files_told}
use Rattle.kt_diskrowset.specs.Rows.{Fresh, hist_found}
use Rattle.kt_diskrowset.specs.Rowset.{HeldFiles}
use Rattle.kt_diskrowset.proofs.Histories.{hist_is}
use Rattle.kt_merge.specs.Late.{HasNoneAbove}
use Rattle.kt_stores.specs.Takes.{rowsets, files_taken}
use Rattle.kt_tablet.specs.Views.{View}
use Rattle.kt_tablet.specs.Jobs.{taken_stores}
use Rattle.kt_engine.specs.Outside.{AreUpToInFiles, FilesAreUpTo}
use Rattle.kt_engine.proofs.DeltaFiles.{told_with, tells_it}

front_up : (bound : ℕ) (xs ys : Steps) → Under (suc bound) (xs ++ ys) → UpTo bound xs
front_up bound [] ys under = tt
front_up bound (c ∷ xs) ys under = (let low = under.0 in omega arith, front_up bound xs ys under.1)

-- what the files have of a key comes first
found_up : (bound : ℕ) (d : DiskRowset) (fresh : Fresh) (o : Option (ℕ × Row)) → Under (suc bound) (hist_found d fresh o).steps → UpTo bound (row_with d o).steps
found_up bound d fresh None under = tt
found_up bound d fresh (Some found) under = front_up bound (row_with d (Some found)).steps (fresh found.0) under

told_same : (dms : ℕ) (d : RowSetData) (o : Option (ℕ × Row)) → row_with (told_with dms d) o ≡ row_with (files_in d) o
told_same dms d None = refl
told_same dms d (Some found) = refl

-- what the files of a disk rowset tell, whoever owns them
pub told_by : (q : List ℕ) (d : RowSetData) → hist_in_files q (files_told (held_in d)) ≡ hist_in_files q (files_in d)
told_by q d =
    let told : files_told (held_in d) ≡ told_with 0 d = tells_it 0 d in
    ap (hist_in_files q) told ∙ told_same 0 d (row_under q 0 (files_in d).base)

one_up : (bound : ℕ) (q : List ℕ) (d : RowSetData) → Under (suc bound) (hist_in q (store_in d)).steps → UpTo bound (hist_in_files q (files_told (held_in d))).steps
one_up bound q d under =
    subst (λ (h : Hist). UpTo bound h.steps) (sym (told_by q d))
    (found_up bound (files_in d) (fresh_in d) (row_under q 0 (files_in d).base) (subst (λ (h : Hist). Under (suc bound) h.steps) (hist_is (files_in d) (fresh_in d) q) under))

each_up : (bound : ℕ) (q : List ℕ) (list : List RowSetData) → AllUnder (suc bound) (hists q (map store_in list)) → AllByRecursion (λ (h : HeldFiles). UpTo bound (hist_in_files q (files_told h)).steps) (map held_in list)
each_up bound q [] under = tt
each_up bound q (d ∷ list) under = (one_up bound q d under.0, each_up bound q list under.1)

-- of disk rowsets as they were read
pub files_are_upto : {C : Type 0} (v : View C) (taken : List ℕ) (list : List RowSetData) → map store_in list ≡ taken_stores (rowsets taken) v → map held_in list ≡ files_taken taken v.files → FilesAreUpTo taken v
files_are_upto v taken list stores files bound q under =
    subst (AllByRecursion (λ (h : HeldFiles). UpTo bound (hist_in_files q (files_told h)).steps)) files (each_up bound q list (subst (λ (ss : List Store). AllUnder (suc bound) (hists q ss)) (sym stores) under))

-- none is taken
none_taken : (files : List HeldFiles) → files_taken [] files ≡ []
none_taken [] = refl
none_taken (h ∷ files) = none_taken files

pub none_are_upto : {C : Type 0} (v : View C) → FilesAreUpTo [] v
none_are_upto v bound q under = subst (AllByRecursion (λ (h : HeldFiles). UpTo bound (hist_in_files q (files_told h)).steps)) (sym (none_taken v.files)) tt

-- so of each key
pub of_each_key : (bound : ℕ) (files : List HeldFiles) → ((q : List ℕ) → AllByRecursion (λ (h : HeldFiles). UpTo bound (hist_in_files q (files_told h)).steps) files) → AllByRecursion (AreUpToInFiles bound) files
of_each_key bound [] each = tt
of_each_key bound (h ∷ files) each = (λ q. (each q).0, of_each_key bound files (λ q. (each q).1))

-- and of disk rowsets that have these files
pub none_above : (bound : ℕ) (list : List RowSetData) → AllByRecursion (AreUpToInFiles bound) (map held_in list) → AllByRecursion (HasNoneAbove bound) list
none_above bound [] each = tt
none_above bound (d ∷ list) each = (λ q. subst (λ (h : Hist). UpTo bound h.steps) (told_by q d) (each.0 q), none_above bound list each.1)

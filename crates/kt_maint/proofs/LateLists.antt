-- Disk rowsets that are written, with REDO files that came to them: their numbers, and what their histories pass.
use Rattle.std.proofs.Common.{◌≡◌, ◌≤◌, ℕ, suc, true, ◌&&◌, List, [], ◌∷◌, ◌++◌, map, length, refl, sym, ap, subst, ◌∙◌}
use Rattle.std.specs.Prelude.{◌==◌, ◌^◌, Option, Some, false}
use Rattle.std.specs.List.{AllByRecursion, flat_map}
use Rattle.std.specs.declared.cmp.Ordering.TheVariants.{Less}
use Rattle.std.proofs.lemmas.List.{length-map}
use Rattle.kt_history.specs.declared.changes.Delta.{Delta}
use Rattle.kt_history.specs.Rows.{Row, Rows, key_cmp}
use Rattle.kt_history.specs.Stores.{Hist, hist_in}
use Rattle.kt_history.specs.Views.{AreRising}
use Rattle.kt_histlaws.specs.Histories.{hists, AtMostOne}
use Rattle.kt_rowfiles.specs.Files.{DiskRowset, row_under, hist_in_files, records_in, falling}
use Rattle.kt_rowfiles.specs.Fitting.{steps_fit, rows_fit, undos_fit}
use Rattle.kt_rowfiles.specs.Merging.{joined_history}
use Rattle.kt_content.specs.Content.{LacksNumber, NumbersDiffer}
use Rattle.kt_content.specs.Flushes.{AreFrom}
use Rattle.kt_content.specs.Rules.{Rules, AreRules, HistPasses, RowsetPasses, RowsetsPass}
use Rattle.kt_content.specs.RunEvents.{Numbers, RowsetsBelow}
use Rattle.kt_baseset.specs.declared.rows.KeyedRow.{KeyedRow}
use Rattle.kt_baseset.specs.Rows.{keys_in}
use Rattle.kt_deltafile.specs.File.{FileView}
use Rattle.kt_deltafile.specs.declared.file.Way.{Way}
use Rattle.kt_deltafile.specs.declared.file.Way.TheVariants.{Undo, Redo}
use Rattle.kt_diskrowset.specs.declared.files.FileHeld.{FileHeld}
use Rattle.kt_diskrowset.specs.declared.data.RowSetData.{RowSetData}
use Rattle.kt_diskrowset.specs.Data.{files_in, held_in, store_in}
use Rattle.kt_diskrowset.specs.Files.{as_files, lists_of}
use Rattle.kt_diskrowset.specs.Rows.{rows_of}
use Rattle.kt_diskrowset.specs.Rowset.{HeldFiles}
use Rattle.kt_merge.specs.Late.{HasNoneAbove, TellsLate, AllTellLate}
use Rattle.kt_merge.specs.Rewriting.{AddsRedo}
use Rattle.kt_merge.specs.Told.{rows_in}
use Rattle.kt_outputs.specs.Again.{AreAgain, AddsLate, AllAddLate}
use Rattle.kt_outputs.specs.Outputs.{AreOfWay, IsWhole, AreWhole, AreWritten}
use Rattle.kt_joblaws.specs.DeltaJobs.{keys_under, AreFit, a_rowset_of_passing_histories_passes, histories_of_passing_rowsets_pass}
use Rattle.kt_joblaws.specs.Late.{HasOnce, hists_now, a_late_output_passes}

-- ---- what is written again tells the same

pub again_files : (late done : List RowSetData) → AreAgain late done → map files_in done ≡ map files_in late
again_files [] [] a = refl
again_files [] (d ∷ done) a = absurd a
again_files (r ∷ late) [] a = absurd a
again_files (r ∷ late) (d ∷ done) a = ap (λ (f : DiskRowset). f ∷ map files_in done) a.0 ∙ ap (λ (l : List DiskRowset). files_in r ∷ l) (again_files late done a.2)

pub again_fresh : (late done : List RowSetData) → AreAgain late done → AllByRecursion (λ (d : RowSetData). d.fresh ≡ []) done
again_fresh [] [] a = tt
again_fresh [] (d ∷ done) a = absurd a
again_fresh (r ∷ late) [] a = absurd a
again_fresh (r ∷ late) (d ∷ done) a = (a.1, again_fresh late done a.2)

-- ---- one by one as it came

pub adds_none : (d late : RowSetData) → late.number ≡ d.number → AddsRedo (held_in d) (held_in late) → AddsLate (held_in d) (held_in late)
adds_none d late number a = record {
  more = a.redos.more;
  are = λ i. record { number = number i; base = a.base i; undos = a.undos i; redos = a.redos.are i };
  unwritten = a.redos.unwritten;
}

module _ (bound : ℕ) (inputs : List RowSetData) where
  pub tell_more : (outputs late : List RowSetData) (o d : RowSetData) → AllTellLate bound inputs outputs late → TellsLate bound inputs o d → AllTellLate bound inputs (outputs ++ o ∷ []) (late ++ d ∷ [])
  tell_more [] [] o d all one = (one, tt)
  tell_more [] (l ∷ late) o d all one = absurd all
  tell_more (x ∷ outputs) [] o d all one = absurd all
  tell_more (x ∷ outputs) (l ∷ late) o d all one = (all.0, tell_more outputs late o d all.1 one)

pub add_more : (outputs late : List RowSetData) (o d : RowSetData) → AllAddLate outputs late → AddsLate (held_in o) (held_in d) → AllAddLate (outputs ++ o ∷ []) (late ++ d ∷ [])
add_more [] [] o d all one = (one, tt)
add_more [] (l ∷ late) o d all one = absurd all
add_more (x ∷ outputs) [] o d all one = absurd all
add_more (x ∷ outputs) (l ∷ late) o d all one = (all.0, add_more outputs late o d all.1 one)

pub whole_more : (late : List RowSetData) (d : RowSetData) → AreWhole late → IsWhole d → AreWhole (late ++ d ∷ [])
whole_more [] d all one = (one, tt)
whole_more (l ∷ late) d all one = (all.0, whole_more late d all.1 one)

-- ---- the numbers stay

-- each has the number of the other in its place
abbrev pub SameNumbers : List RowSetData → List RowSetData → Type 0
SameNumbers [] [] = Unit {0}
SameNumbers [] (d ∷ ds) = ⊥
SameNumbers (r ∷ rs) [] = ⊥
SameNumbers (r ∷ rs) (d ∷ ds) = ((files_in d).rowset ≡ (files_in r).rowset) × SameNumbers rs ds

pub numbers_stay : (out late done : List RowSetData) → AllAddLate out late → AreAgain late done → SameNumbers out done
numbers_stay [] [] [] adds again = tt
numbers_stay [] [] (d ∷ done) adds again = absurd again
numbers_stay [] (l ∷ late) done adds again = absurd adds
numbers_stay (o ∷ out) [] done adds again = absurd adds
numbers_stay (o ∷ out) (l ∷ late) [] adds again = absurd again
numbers_stay (o ∷ out) (l ∷ late) (d ∷ done) adds again = (ap (λ (f : DiskRowset). f.rowset) again.0 ∙ ap (λ (h : HeldFiles). h.number) adds.0.are, numbers_stay out late done adds.1 again.2)

pub from_same : (first : ℕ) (out done : List RowSetData) → SameNumbers out done → AreFrom first (map files_in out) → AreFrom first (map files_in done)
from_same first [] [] same from = tt
from_same first [] (d ∷ done) same from = absurd same
from_same first (o ∷ out) [] same from = absurd same
from_same first (o ∷ out) (d ∷ done) same from = (subst (λ (n : ℕ). first ≤ n) (sym same.0) from.0, from_same first out done same.1 from.1)

pub below_same : (numbers : Numbers) (out done : List RowSetData) → SameNumbers out done → RowsetsBelow numbers (map files_in out) → RowsetsBelow numbers (map files_in done)
below_same numbers [] [] same below = tt
below_same numbers [] (d ∷ done) same below = absurd same
below_same numbers (o ∷ out) [] same below = absurd same
below_same numbers (o ∷ out) (d ∷ done) same below = (subst (λ (n : ℕ). suc n ≤ numbers.next) (sym same.0) below.0, below_same numbers out done same.1 below.1)

lacks_same : (r : ℕ) (out done : List RowSetData) → SameNumbers out done → LacksNumber r (map files_in out) → LacksNumber r (map files_in done)
lacks_same r [] [] same lacks = tt
lacks_same r [] (d ∷ done) same lacks = absurd same
lacks_same r (o ∷ out) [] same lacks = absurd same
lacks_same r (o ∷ out) (d ∷ done) same lacks = (subst (λ (n : ℕ). (r == n) ≡ false) (sym same.0) lacks.0, lacks_same r out done same.1 lacks.1)

pub differ_same : (out done : List RowSetData) → SameNumbers out done → NumbersDiffer (map files_in out) → NumbersDiffer (map files_in done)
differ_same [] [] same differ = tt
differ_same [] (d ∷ done) same differ = absurd same
differ_same (o ∷ out) [] same differ = absurd same
differ_same (o ∷ out) (d ∷ done) same differ =
    (subst (λ (n : ℕ). LacksNumber n (map files_in done)) (sym same.0) (lacks_same (files_in o).rowset out done same.1 differ.0), differ_same out done same.1 differ.1)

-- ---- what was merged, under its numbers

bases_are : (q : List ℕ) (number : ℕ) (made out : List RowSetData) → AreWritten number made out → map (λ (d : DiskRowset). row_under q 0 d.base) (map files_in out) ≡ map (λ (d : DiskRowset). row_under q 0 d.base) (map files_in made)
bases_are q number [] [] w = refl
bases_are q number [] (d ∷ out) w = absurd w
bases_are q number (r ∷ made) [] w = absurd w
bases_are q number (r ∷ made) (d ∷ out) w =
    ap (λ (f : DiskRowset). row_under q 0 f.base ∷ map (λ (x : DiskRowset). row_under q 0 x.base) (map files_in out)) w.0
    ∙ ap (λ (l : List (Option (ℕ × Row))). row_under q 0 (files_in r).base ∷ l) (bases_are q (suc number) made out w.2)

pub once_written : (q : List ℕ) (number : ℕ) (made out : List RowSetData) → AreWritten number made out → HasOnce q (map files_in made) → HasOnce q (map files_in out)
once_written q number made out w once = subst AtMostOne (sym (bases_are q number made out w)) once

-- the keys of each rise
abbrev pub AllRise : List DiskRowset → Type 0
AllRise ds = AllByRecursion (λ (d : DiskRowset). AreRising (keys_under d.base)) ds

all_front : (P : List ℕ → Type 0) (xs ys : List (List ℕ)) → AllByRecursion P (xs ++ ys) → AllByRecursion P xs
all_front P [] ys all = tt
all_front P (x ∷ xs) ys all = (all.0, all_front P xs ys all.1)

rise_front : (xs ys : List (List ℕ)) → AreRising (xs ++ ys) → AreRising xs
rise_front [] ys rise = tt
rise_front (x ∷ xs) ys rise = (all_front (λ (other : List ℕ). key_cmp x other ≡ Less) xs ys rise.0, rise_front xs ys rise.1)

rise_behind : (xs ys : List (List ℕ)) → AreRising (xs ++ ys) → AreRising ys
rise_behind [] ys rise = rise
rise_behind (x ∷ xs) ys rise = rise_behind xs ys rise.1

keys_same : (rows : List KeyedRow) → keys_under (rows_of rows) ≡ keys_in rows
keys_same [] = refl
keys_same (r ∷ rows) = ap (λ (l : List (List ℕ)). r.key ∷ l) (keys_same rows)

made_rise : (made : List RowSetData) → AreRising (flat_map (λ (d : RowSetData). keys_in (rows_in d)) made) → AllRise (map files_in made)
made_rise [] rise = tt
made_rise (d ∷ made) rise =
    let behind = flat_map (λ (x : RowSetData). keys_in (rows_in x)) made in
    (subst AreRising (sym (keys_same (rows_in d))) (rise_front (keys_in (rows_in d)) behind rise), made_rise made (rise_behind (keys_in (rows_in d)) behind rise))

pub written_rise : (number : ℕ) (made out : List RowSetData) → AreWritten number made out → AllRise (map files_in made) → AllRise (map files_in out)
written_rise number [] [] w rise = tt
written_rise number [] (d ∷ out) w rise = absurd w
written_rise number (r ∷ made) [] w rise = absurd w
written_rise number (r ∷ made) (d ∷ out) w rise = (subst (λ (f : DiskRowset). AreRising (keys_under f.base)) (sym w.0) rise.0, written_rise (suc number) made out w.2 rise.1)

pub outputs_rise : (number : ℕ) (made out : List RowSetData) → AreRising (flat_map (λ (d : RowSetData). keys_in (rows_in d)) made) → AreWritten number made out → AllRise (map files_in out)
outputs_rise number made out rise w = written_rise number made out w (made_rise made rise)

-- ---- each passes as its histories do

lists_are : (files : List FileHeld) → map (λ (f : ℕ × ℕ × FileView). f.2.list) (as_files files) ≡ lists_of files
lists_are [] = refl
lists_are (f ∷ files) = ap (λ (l : List (List Delta)). f.deltas.value.list ∷ l) (lists_are files)

rows_fit_same : (x y : DiskRowset) → y.undos ≡ x.undos → (n : ℕ) (rows : Rows) → rows_fit y n rows ≡ rows_fit x n rows
rows_fit_same x y same n [] = refl
rows_fit_same x y same n (r ∷ rows) = (λ k. steps_fit (2 ^ 64) (falling (records_in n (same k))) (Some r.1) && rows_fit_same x y same (suc n) rows k)

undos_fit_same : (x y : DiskRowset) → y.base ≡ x.base → y.undos ≡ x.undos → undos_fit x ≡ true → undos_fit y ≡ true
undos_fit_same x y base same fit = rows_fit_same x y same 0 y.base ∙ ap (rows_fit x 0) base ∙ fit

fit_each : (way : Way) (rows : ℕ) (files : List FileHeld) → AreOfWay way rows files → AreFit way rows (lists_of files)
fit_each way rows [] are = tt
fit_each way rows (f ∷ files) are = (are.0.fits, fit_each way rows files are.1)

fit_of : (way : Way) (rows : List KeyedRow) (files : List FileHeld) → AreOfWay way (length rows) files → AreFit way (length (rows_of rows)) (lists_of files)
fit_of way rows files are = subst (λ (n : ℕ). AreFit way n (lists_of files)) (sym (length-map rows (λ (r : KeyedRow). (r.key, r.cells)))) (fit_each way (length rows) files are)

-- one with REDO files that came to it passes where each of its histories does
pub one_again : (rules : Rules) → AreRules rules → a_rowset_of_passing_histories_passes → histories_of_passing_rowsets_pass → (o l : RowSetData) → ((q : List ℕ) → HistPasses rules q (hist_in_files q (files_in o)) → HistPasses rules q (hist_in_files q (files_in l)))
    → AreRising (keys_under (files_in o).base) → RowsetPasses rules (files_in o) → AddsLate (held_in o) (held_in l) → IsWhole l → RowsetPasses rules (files_in l)
one_again rules are passes back o l each rise pass adds whole =
    let base : (files_in l).base ≡ (files_in o).base = ap (λ (h : HeldFiles). rows_of h.base.2.rows) adds.are in
    let undos : (files_in l).undos ≡ (files_in o).undos = sym (lists_are l.undo) ∙ ap (λ (h : HeldFiles). map (λ (f : ℕ × ℕ × FileView). f.2.list) h.undos) adds.are ∙ lists_are o.undo in
    passes rules (files_in l) are (λ q. each q (back rules are q (files_in o ∷ []) (pass, tt)).0)
    (subst (λ (rows : Rows). AreRising (keys_under rows)) (sym base) rise) (undos_fit_same (files_in o) (files_in l) base undos pass.fits)
    (fit_of Undo l.base.set.value.rows l.undo whole.undo) (fit_of Redo l.base.set.value.rows l.redo whole.redo)

module _ (rules : Rules) (are : AreRules rules) (j bound : ℕ) (le : j ≤ bound) (now : List RowSetData) (none : AllByRecursion (HasNoneAbove bound) now) (joined : (q : List ℕ) → HistPasses rules q (joined_history j (hists_now q now)))
    (late_passes : a_late_output_passes) (passes : a_rowset_of_passing_histories_passes) (back : histories_of_passing_rowsets_pass) where
  one_passes : (o l : RowSetData) → AreRising (keys_under (files_in o).base) → RowsetPasses rules (files_in o) → TellsLate bound now o l → AddsLate (held_in o) (held_in l) → IsWhole l → RowsetPasses rules (files_in l)
  one_passes o l rise pass tells adds whole = one_again rules are passes back o l (λ q own. late_passes rules j bound q now o l le none (joined q) own tells) rise pass adds whole

  pub late_pass : (out late : List RowSetData) → AllRise (map files_in out) → RowsetsPass rules (map files_in out) → AllTellLate bound now out late → AllAddLate out late → AreWhole late → RowsetsPass rules (map files_in late)
  late_pass [] [] rise pass tells adds whole = tt
  late_pass [] (l ∷ late) rise pass tells adds whole = absurd adds
  late_pass (o ∷ out) [] rise pass tells adds whole = absurd adds
  late_pass (o ∷ out) (l ∷ late) rise pass tells adds whole = (one_passes o l rise.0 pass.0 tells.0 adds.0 whole.0, late_pass out late rise.1 pass.1 tells.1 adds.1 whole.1)

-- ---- what disk rowsets have now is what their stores have

pub now_is : (q : List ℕ) (ds : List RowSetData) → hists_now q ds ≡ hists q (map store_in ds)
now_is q [] = refl
now_is q (d ∷ ds) = ap (λ (l : List Hist). hist_in q (store_in d) ∷ l) (now_is q ds)

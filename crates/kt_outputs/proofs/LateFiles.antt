-- The files of disk rowsets to which REDO files came, as the device has them.
use Rattle.std.proofs.Common.{◌≡◌, ◌≢◌, ◌≤◌, ◌<◌, ◌⊎◌, ℕ, suc, true, List, [], ◌∷◌, ◌++◌, map, length, inl, inr, sym, ap, subst, ◌∙◌, arith}
use Rattle.std.specs.Prelude.{◌==◌, ◌||◌}
use Rattle.std.specs.List.{AllByRecursion}
use Rattle.std.proofs.lemmas.Bool.{eqb-true, eq-eqb}
use Rattle.std.proofs.lemmas.List.{append-nil, map-append}
use Rattle.kt_disk.specs.Disk.{Files}
use Rattle.kt_baseset.specs.Tables.{BaseValue}
use Rattle.kt_deltafile.specs.declared.file.Way.{Way}
use Rattle.kt_deltafile.specs.declared.file.Way.TheVariants.{Redo, Undo}
use Rattle.kt_deltafile.specs.File.{FileView}
use Rattle.kt_super.specs.declared.meta.MetaRowset.{MetaRowset}
use Rattle.kt_super.specs.Rowsets.{has, numbers_of}
use Rattle.kt_diskrowset.specs.declared.files.FileHeld.{FileHeld}
use Rattle.kt_diskrowset.specs.declared.data.RowSetData.{RowSetData}
use Rattle.kt_diskrowset.specs.Data.{held_in}
use Rattle.kt_diskrowset.specs.Files.{as_file, as_files}
use Rattle.kt_diskrowset.specs.Rowset.{HeldFiles}
use Rattle.kt_files.specs.Held.{base_in}
use Rattle.kt_files.specs.Named.{base_named, delta_named, deltas_named, named_as, named_by, named_in}
use Rattle.kt_files.specs.Reading.{HoldsBase, HoldsDeltas, HoldEach, HoldsRowset}
use Rattle.kt_outputs.specs.Outputs.{meta_in}
use Rattle.kt_outputs.specs.Rewriting.{AreNumbered, HasNumbers, EachStands, KeptStand}
use Rattle.kt_outputs.specs.Again.{AddsLate, AllAddLate, AllNumbered, late_files_stand, others_hold_beside_late_files}
use Rattle.kt_outputs.proofs.InPlace.{has_join, or_left, or_right, or_cases, named_parts}
use Rattle.kt_outputs.proofs.LateNamed.{own_names, numbered_up, numbers_named, late_base, late_undos, late_redos, late_up}
use Rattle.kt_outputs.proofs.Named.{named_join}

-- ---- a number of a file is new, or was there

abbrev numbers : {V : Type 0} → List (ℕ × ℕ × V) → List ℕ
numbers {V} files = map (λ (f : ℕ × ℕ × V). f.0) files

abbrev IsNew : ℕ → ℕ → ℕ → Type 0
IsNew first next n = (first ≤ n) × (n < next)

-- where a file had the number it was kept
new_or_kept : {V : Type 0} (a b n : ℕ) (fs gs : List (ℕ × ℕ × V)) → AreNumbered a b fs gs → has (numbers gs) n ≡ true → IsNew a b n ⊎ ((n ≢ 0) × (has (numbers fs) n ≡ true))
new_or_kept a b n [] [] all is = absurd (cc)
new_or_kept a b n [] (g ∷ gs) all is = absurd all
new_or_kept a b n (f ∷ fs) [] all is = absurd all
new_or_kept {V} a b n (f ∷ fs) (g ∷ gs) all is = elim all [
  | inl kept ↦ elim (or_cases (g.0 == n) (has (numbers gs) n) is) [
    | inl own ↦
        let same : f.0 ≡ n = ap (λ (x : ℕ × ℕ × V). x.0) (sym kept.0.1) ∙ eqb-true g.0 n own in
        inr (subst (λ (k : ℕ). k ≢ 0) same kept.0.0, or_left (f.0 == n) (has (numbers fs) n) (eq-eqb f.0 n same))
    | inr rest ↦ elim (new_or_kept a b n fs gs kept.1 rest) [ inl fresh ↦ inl fresh | inr was ↦ inr (was.0, or_right (f.0 == n) (has (numbers fs) n) was.1) ]
  ]
  | inr given ↦ elim (or_cases (g.0 == n) (has (numbers gs) n) is) [
    | inl own ↦
        let same : g.0 ≡ n = eqb-true g.0 n own in
        let first = given.0.number in
        let up = numbered_up (suc a) b fs gs given.1 in
        inl ((omega arith), (omega arith))
    | inr rest ↦ elim (new_or_kept (suc a) b n fs gs given.1 rest) [
      | inl fresh ↦ inl ((let low = fresh.0 in omega arith), fresh.1)
      | inr was ↦ inr (was.0, or_right (f.0 == n) (has (numbers fs) n) was.1)
    ]
  ]
]

none_unwritten : (n : ℕ) (more : List (ℕ × ℕ × FileView)) → AllByRecursion (λ (f : ℕ × ℕ × FileView). f.0 ≡ 0) more → n ≢ 0 → has (numbers more) n ≡ true → ⊥
none_unwritten n [] none some is = cc
none_unwritten n (f ∷ more) none some is = elim (or_cases (f.0 == n) (has (numbers more) n) is) [
  | inl own ↦ some (sym (eqb-true f.0 n own) ∙ none.0)
  | inr rest ↦ none_unwritten n more none.1 some rest
]

module _ (first next : ℕ) (old late new : HeldFiles) (adds : AddsLate old late) (given : HasNumbers first next late new) (n : ℕ) where
  base_up : first ≤ given.undo_at
  base_up = numbered_up first given.undo_at (old.base ∷ []) (new.base ∷ []) (late_base first next old late new adds given)

  undo_up : given.undo_at ≤ given.redo_at
  undo_up = numbered_up given.undo_at given.redo_at old.undos new.undos (late_undos first next old late new adds given)

  redo_up : given.redo_at ≤ next
  redo_up = numbered_up given.redo_at next (old.redos ++ adds.more) new.redos (late_redos first next old late new adds given)

  as_numbers : (files : List (ℕ × ℕ × FileView)) → has (numbers_of (deltas_named files)) n ≡ has (numbers files) n
  as_numbers files = ap (λ (l : List ℕ). has l n) (numbers_named files)

  base_old : has (numbers (old.base ∷ [])) n ≡ true → has (named_by (named_as 0 old)) n ≡ true
  base_old h = named_parts (named_as 0 old) n ∙ or_left (has (numbers (old.base ∷ [])) n) (has (numbers_of (deltas_named old.undos)) n || has (numbers_of (deltas_named old.redos)) n) h

  rest_old : (has (numbers_of (deltas_named old.undos)) n || has (numbers_of (deltas_named old.redos)) n) ≡ true → has (named_by (named_as 0 old)) n ≡ true
  rest_old h = named_parts (named_as 0 old) n ∙ or_right (has (numbers (old.base ∷ [])) n) (has (numbers_of (deltas_named old.undos)) n || has (numbers_of (deltas_named old.redos)) n) h

  undo_old : has (numbers old.undos) n ≡ true → has (named_by (named_as 0 old)) n ≡ true
  undo_old h = rest_old (or_left (has (numbers_of (deltas_named old.undos)) n) (has (numbers_of (deltas_named old.redos)) n) (as_numbers old.undos ∙ h))

  redo_old : n ≢ 0 → has (numbers (old.redos ++ adds.more)) n ≡ true → has (named_by (named_as 0 old)) n ≡ true
  redo_old some h =
      elim (or_cases (has (numbers old.redos) n) (has (numbers adds.more) n) (sym (ap (λ (l : List ℕ). has l n) (map-append (λ (f : ℕ × ℕ × FileView). f.0) old.redos adds.more) ∙ has_join (numbers old.redos) (numbers adds.more) n) ∙ h)) [
        | inl own ↦ rest_old (or_right (has (numbers_of (deltas_named old.undos)) n) (has (numbers_of (deltas_named old.redos)) n) (as_numbers old.redos ∙ own))
        | inr none ↦ absurd (none_unwritten n adds.more adds.unwritten some none)
      ]

  one_stands : has (named_by (named_as 0 new)) n ≡ true → IsNew first next n ⊎ (has (named_by (named_as 0 old)) n ≡ true)
  one_stands is =
      let a = base_up in
      let b = undo_up in
      let c = redo_up in
      elim (or_cases (has (numbers (new.base ∷ [])) n) (has (numbers_of (deltas_named new.undos)) n || has (numbers_of (deltas_named new.redos)) n) (sym (named_parts (named_as 0 new) n) ∙ is)) [
        | inl base ↦ elim (new_or_kept first given.undo_at n (old.base ∷ []) (new.base ∷ []) (late_base first next old late new adds given) base) [
          | inl fresh ↦ inl (fresh.0, (let y = fresh.1 in omega arith))
          | inr was ↦ inr (base_old was.1)
        ]
        | inr rest ↦ elim (or_cases (has (numbers_of (deltas_named new.undos)) n) (has (numbers_of (deltas_named new.redos)) n) rest) [
          | inl undo ↦ elim (new_or_kept given.undo_at given.redo_at n old.undos new.undos (late_undos first next old late new adds given) (sym (as_numbers new.undos) ∙ undo)) [
            | inl fresh ↦ inl ((let x = fresh.0 in omega arith), (let y = fresh.1 in omega arith))
            | inr was ↦ inr (undo_old was.1)
          ]
          | inr redo ↦ elim (new_or_kept given.redo_at next n (old.redos ++ adds.more) new.redos (late_redos first next old late new adds given) (sym (as_numbers new.redos) ∙ redo)) [
            | inl fresh ↦ inl ((let x = fresh.0 in omega arith), fresh.1)
            | inr was ↦ inr (redo_old was.0 was.1)
          ]
        ]
      ]

own_stands : (first next n : ℕ) (o l d : RowSetData) → AddsLate (held_in o) (held_in l) → HasNumbers first next (held_in l) (held_in d) → has (named_by (meta_in 0 d)) n ≡ true → IsNew first next n ⊎ (has (named_by (meta_in 0 o)) n ≡ true)
own_stands first next n o l d adds given is =
    subst (λ (m : MetaRowset). IsNew first next n ⊎ (has (named_by m) n ≡ true)) (own_names 0 o)
    (one_stands first next (held_in o) (held_in l) (held_in d) adds given n (ap (λ (m : MetaRowset). has (named_by m) n) (own_names 0 d) ∙ is))

all_up : (first next : ℕ) (olds lates news : List RowSetData) → AllAddLate olds lates → AllNumbered first next lates news → first ≤ next
all_up first next [] [] [] adds given = let e : next ≡ first = given in omega arith
all_up first next [] [] (d ∷ news) adds given = absurd given
all_up first next [] (l ∷ lates) news adds given = absurd adds
all_up first next (o ∷ olds) [] news adds given = absurd adds
all_up first next (o ∷ olds) (l ∷ lates) [] adds given = absurd given
all_up first next (o ∷ olds) (l ∷ lates) (d ∷ news) adds given =
    let one = late_up first given.0 (held_in o) (held_in l) (held_in d) adds.0 given.1 in
    let rest = all_up given.0 next olds lates news adds.1 given.2 in
    omega arith

all_stand : (first next n : ℕ) (olds lates news : List RowSetData) → AllAddLate olds lates → AllNumbered first next lates news → has (named_in (map (meta_in 0) news)) n ≡ true → IsNew first next n ⊎ (has (named_in (map (meta_in 0) olds)) n ≡ true)
all_stand first next n [] [] [] adds given is = absurd (cc)
all_stand first next n [] [] (d ∷ news) adds given is = absurd given
all_stand first next n [] (l ∷ lates) news adds given is = absurd adds
all_stand first next n (o ∷ olds) [] news adds given is = absurd adds
all_stand first next n (o ∷ olds) (l ∷ lates) [] adds given is = absurd given
all_stand first next n (o ∷ olds) (l ∷ lates) (d ∷ news) adds given is =
    let at = given.0 in
    let one = late_up first at (held_in o) (held_in l) (held_in d) adds.0 given.1 in
    let more = all_up at next olds lates news adds.1 given.2 in
    let own = named_by (meta_in 0 o) in
    let rest = named_in (map (meta_in 0) olds) in
    elim (or_cases (has (named_by (meta_in 0 d)) n) (has (named_in (map (meta_in 0) news)) n) (sym (has_join (named_by (meta_in 0 d)) (named_in (map (meta_in 0) news)) n) ∙ is)) [
      | inl first_one ↦ elim (own_stands first at n o l d adds.0 given.1 first_one) [
        | inl fresh ↦ inl (fresh.0, (let y = fresh.1 in omega arith))
        | inr was ↦ inr (has_join own rest n ∙ or_left (has own n) (has rest n) was)
      ]
      | inr behind ↦ elim (all_stand at next n olds lates news adds.1 given.2 behind) [
        | inl fresh ↦ inl ((let x = fresh.0 in omega arith), fresh.1)
        | inr was ↦ inr (has_join own rest n ∙ or_right (has own n) (has rest n) was)
      ]
    ]

pub late_stand : late_files_stand
late_stand rowsets file file_later olds lates news files c adds given there named n is =
    let olds_named = map (meta_in 0) olds in
    let news_named = map (meta_in 0) news in
    elim (or_cases (has (named_in rowsets) n) (has (named_in news_named) n) (sym (named_join rowsets news_named n) ∙ is)) [
      | inl before ↦ named n (named_join rowsets olds_named n ∙ or_left (has (named_in rowsets) n) (has (named_in olds_named) n) before)
      | inr own ↦ elim (all_stand file file_later n olds lates news adds given own) [
        | inl fresh ↦ there n fresh.0 fresh.1
        | inr was ↦ named n (named_join rowsets olds_named n ∙ or_right (has (named_in rowsets) n) (has (named_in olds_named) n) was)
      ]
    ]

-- ---- the files that are kept

none_stands : (files : Files) (way : Way) (rows : ℕ) (list : List FileHeld) → AllByRecursion (λ (f : ℕ × ℕ × FileView). f.0 ≡ 0) (as_files list) → EachStands files way rows list
none_stands files way rows [] none = tt
none_stands files way rows (f ∷ list) none = ((λ some. absurd (some none.0)), none_stands files way rows list none.1)

each_stands : (files : Files) (way : Way) (rows : ℕ) (list : List FileHeld) (old more : List (ℕ × ℕ × FileView)) → as_files list ≡ old ++ more → AllByRecursion (λ (f : ℕ × ℕ × FileView). f.0 ≡ 0) more
    → HoldEach files way rows (deltas_named old) old → EachStands files way rows list
each_stands files way rows list [] more are none hold = none_stands files way rows list (subst (AllByRecursion (λ (f : ℕ × ℕ × FileView). f.0 ≡ 0)) (sym are) none)
each_stands files way rows [] (o ∷ old) more are none hold = tt
each_stands files way rows (f ∷ list) (o ∷ old) more are none hold =
    let same : as_file f ≡ o = (let e : as_file f ∷ as_files list ≡ o ∷ (old ++ more) = are in cc) in
    let rest : as_files list ≡ old ++ more = (let e : as_file f ∷ as_files list ≡ o ∷ (old ++ more) = are in cc) in
    ((λ some. subst (λ (x : ℕ × ℕ × FileView). HoldsDeltas files way rows (delta_named x) x) (sym same) hold.0), each_stands files way rows list old more rest none hold.1)

one_holds : (files : Files) (o l : RowSetData) → AddsLate (held_in o) (held_in l) → HoldsRowset files (named_as 0 (held_in o)) (held_in o) → KeptStand files l
one_holds files o l adds hold =
    let base : base_in l.base ≡ base_in o.base = ap (λ (h : HeldFiles). h.base) adds.are in
    let rows : length l.base.set.value.rows ≡ length o.base.set.value.rows = ap (λ (b : ℕ × ℕ × BaseValue). length b.2.rows) base in
    record {
      base = λ some. subst (λ (b : ℕ × ℕ × BaseValue). HoldsBase files (base_named b) b) (sym base) hold.base;
      undo = each_stands files Undo (length l.base.set.value.rows) l.undo (as_files o.undo) [] (ap (λ (h : HeldFiles). h.undos) adds.are ∙ sym (append-nil (as_files o.undo))) tt
          (subst (λ (n : ℕ). HoldEach files Undo n (deltas_named (as_files o.undo)) (as_files o.undo)) (sym rows) hold.undos);
      redo = each_stands files Redo (length l.base.set.value.rows) l.redo (as_files o.redo) adds.more (ap (λ (h : HeldFiles). h.redos) adds.are) adds.unwritten
          (subst (λ (n : ℕ). HoldEach files Redo n (deltas_named (as_files o.redo)) (as_files o.redo)) (sym rows) hold.redos);
    }

pub others_hold : others_hold_beside_late_files
others_hold files [] [] adds hold = tt
others_hold files [] (l ∷ lates) adds hold = absurd adds
others_hold files (o ∷ olds) [] adds hold = absurd adds
others_hold files (o ∷ olds) (l ∷ lates) adds hold =
    (one_holds files o l adds.0 (subst (λ (m : MetaRowset). HoldsRowset files m (held_in o)) (sym (own_names 0 o)) hold.0), others_hold files olds lates adds.1 hold.1)

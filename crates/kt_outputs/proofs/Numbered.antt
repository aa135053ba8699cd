-- Files that are kept or written, one after another.
use Rattle.std.proofs.Common.{◌≡◌, ◌≢◌, ◌<◌, ◌+◌, ℕ, suc, true, List, [], ◌∷◌, ◌++◌, length, map, take, get_or, Result, Ok, Err, inl, inr, refl, sym, ap, subst, ◌∙◌, arith}
use Rattle.std.specs.Prelude.{IfOk, OnOk}
use Rattle.std.specs.List.{AllByRecursion}
use Rattle.std.proofs.lemmas.List.{take_more, map_push}
use Rattle.kt_disk.specs.Disk.{Files}
use Rattle.kt_super.specs.Rowsets.{is_small}
use Rattle.kt_baseset.specs.Tables.{BaseValue}
use Rattle.kt_deltafile.specs.declared.file.Way.{Way}
use Rattle.kt_deltafile.specs.declared.file.Way.TheVariants.{Redo, Undo}
use Rattle.kt_deltafile.specs.File.{FileView}
use Rattle.kt_diskrowset.specs.declared.base.BaseHeld.{BaseHeld}
use Rattle.kt_diskrowset.specs.declared.files.FileHeld.{FileHeld}
use Rattle.kt_diskrowset.specs.declared.data.RowSetData.{RowSetData}
use Rattle.kt_diskrowset.specs.Files.{as_file, as_files}
use Rattle.kt_diskrowset.specs.Rowset.{held_with}
use Rattle.kt_files.specs.Held.{base_in}
use Rattle.kt_files.specs.Reading.{HoldsBase, HoldsDeltas, HoldEach, HoldsRowset}
use Rattle.kt_outputs.specs.declared.outputs.WriteNo.{WriteNo}
use Rattle.kt_outputs.specs.Outputs.{base_ref, delta_ref, AreOfWay, IsWhole, CountUp}
use Rattle.kt_outputs.specs.Rewriting.{AreNumbered, EachStands, KeptStand}
use Rattle.kt_outputs.proofs.Written.{all_push}

-- ---- one file

pub one_kept : {V : Type 0} (n : ℕ) (f g : ℕ × ℕ × V) → f.0 ≢ 0 → g.0 ≡ f.0 → g.1 ≡ f.1 → g.2 ≡ f.2 → AreNumbered n n (f ∷ []) (g ∷ [])
one_kept n f g some file len same = inl ((some, λ k. (file k, len k, same k)), refl)

pub one_written : {V : Type 0} (n m : ℕ) (f g : ℕ × ℕ × V) → f.0 ≡ 0 → g.0 ≡ n → is_small g.1 ≡ true → g.2 ≡ f.2 → m ≡ n + 1 → AreNumbered n m (f ∷ []) (g ∷ [])
one_written n m f g none file short same up = inr (record { none = none; number = file; short = short; same = same }, (omega arith))

pub base_kept : (files : Files) (b c : BaseHeld) → c.file ≡ b.file → c.len ≡ b.len → c.set.value ≡ b.set.value → HoldsBase files (base_ref b) (base_in b) → HoldsBase files (base_ref c) (base_in c)
base_kept files b c file len value h =
    let same : (b.file, b.len, b.set.value) ≡ (c.file, c.len, c.set.value) = λ k. (sym file k, sym len k, sym value k) in
    subst (λ (x : ℕ × ℕ × BaseValue). HoldsBase files (record { file = x.0; len = x.1 }) x) same h

pub delta_kept : (files : Files) (way : Way) (rows : ℕ) (f g : FileHeld) → g.file ≡ f.file → g.len ≡ f.len → g.deltas.value ≡ f.deltas.value → HoldsDeltas files way rows (delta_ref f) (as_file f) → HoldsDeltas files way rows (delta_ref g) (as_file g)
delta_kept files way rows f g file len value h =
    let same : (f.file, f.len, f.deltas.value) ≡ (g.file, g.len, g.deltas.value) = λ k. (sym file k, sym len k, sym value k) in
    subst (λ (x : ℕ × ℕ × FileView). HoldsDeltas files way rows (record { file = x.0; len = x.1 }) x) same h

-- ---- one more

numbered_then : {V : Type 0} (a b c : ℕ) (fs gs : List (ℕ × ℕ × V)) (f g : ℕ × ℕ × V) → AreNumbered a b fs gs → AreNumbered b c (f ∷ []) (g ∷ []) → AreNumbered a c (fs ++ f ∷ []) (gs ++ g ∷ [])
numbered_then a b c [] [] f g front one = let same : b ≡ a = front in subst (λ (n : ℕ). AreNumbered n c (f ∷ []) (g ∷ [])) same one
numbered_then a b c [] (y ∷ gs) f g front one = absurd front
numbered_then a b c (x ∷ fs) [] f g front one = absurd front
numbered_then a b c (x ∷ fs) (y ∷ gs) f g front one = elim front [
  | inl kept ↦ inl (kept.0, numbered_then a b c fs gs f g kept.1 one)
  | inr given ↦ inr (given.0, numbered_then (suc a) b c fs gs f g given.1 one)
]

pub numbered_more : (a b c : ℕ) (list : List FileHeld) (i : ℕ) (d g : FileHeld) (held more : List FileHeld) → i < length list → more ≡ held ++ g ∷ [] → AreNumbered a b (as_files (take i list)) (as_files held)
    → AreNumbered b c (as_file (get_or list i d) ∷ []) (as_file g ∷ []) → AreNumbered a c (as_files (take (i + 1) list)) (as_files more)
numbered_more a b c list i d g held more lt added so_far one =
    let front : as_files (take (i + 1) list) ≡ as_files (take i list) ++ as_file (get_or list i d) ∷ [] = ap as_files (take_more list i d lt) ∙ map_push as_file (take i list) (get_or list i d) in
    let back : as_files more ≡ as_files held ++ as_file g ∷ [] = ap as_files added ∙ map_push as_file held g in
    subst (λ (l : List (ℕ × ℕ × FileView)). AreNumbered a c l (as_files more)) (sym front)
    (subst (AreNumbered a c (as_files (take i list) ++ as_file (get_or list i d) ∷ [])) (sym back) (numbered_then a b c (as_files (take i list)) (as_files held) (as_file (get_or list i d)) (as_file g) so_far one))

pub stands_more : (files : Files) (way : Way) (rows : ℕ) (list : List FileHeld) (i : ℕ) (d : FileHeld) → i < length list → EachStands files way rows (take (i + 1) list)
    → EachStands files way rows (take i list) × ((get_or list i d).file ≢ 0 → HoldsDeltas files way rows (delta_ref (get_or list i d)) (as_file (get_or list i d)))
stands_more files way rows list i d lt all =
    all_push (λ (f : FileHeld). f.file ≢ 0 → HoldsDeltas files way rows (delta_ref f) (as_file f)) (take i list) (get_or list i d) (subst (EachStands files way rows) (take_more list i d lt) all)

-- ---- what a call answers

pub base_result : (n m : ℕ) (f : ℕ × ℕ × BaseValue) (r : Result BaseHeld WriteNo) → f.0 ≡ 0 → IfOk r (λ b. b.file ≡ n) → IfOk r (λ b. is_small b.len ≡ true) → IfOk r (λ b. b.set.value ≡ f.2) → OnOk r (m ≡ n + 1)
    → IfOk r (λ b. AreNumbered n m (f ∷ []) (base_in b ∷ []))
base_result n m f (Ok b) none file short same up = one_written n m f (base_in b) none file short same up
base_result n m f (Err e) none file short same up = tt

pub delta_result : (n m : ℕ) (f : ℕ × ℕ × FileView) (r : Result FileHeld WriteNo) → f.0 ≡ 0 → IfOk r (λ b. b.file ≡ n) → IfOk r (λ b. is_small b.len ≡ true) → IfOk r (λ b. b.deltas.value ≡ f.2) → OnOk r (m ≡ n + 1)
    → IfOk r (λ b. AreNumbered n m (f ∷ []) (as_file b ∷ []))
delta_result n m f (Ok b) none file short same up = one_written n m f (as_file b) none file short same up
delta_result n m f (Err e) none file short same up = tt

-- ---- a rowset

pub rowset_again : (files : Files) (number dms : ℕ) (b : BaseHeld) (undo redo : List FileHeld) (was : RowSetData) (undos redos : List FileHeld) → b.set.value ≡ was.base.set.value → undos ≡ was.undo → redos ≡ was.redo → IsWhole was → KeptStand files was
    → HoldsBase files (base_ref b) (base_in b)
    → ((rows : ℕ) → AreOfWay Undo rows undos → EachStands files Undo rows undos → HoldEach files Undo rows (map delta_ref undo) (as_files undo))
    → ((rows : ℕ) → AreOfWay Redo rows redos → EachStands files Redo rows redos → HoldEach files Redo rows (map delta_ref redo) (as_files redo))
    → HoldsRowset files (record { rowset = number; last_dms = dms; base = base_ref b; undo = map delta_ref undo; redo = map delta_ref redo }) (held_with number b undo redo)
rowset_again files number dms b undo redo was undos redos same undo_is redo_is whole stand base each_undo each_redo =
    let rows : length was.base.set.value.rows ≡ length b.set.value.rows = ap (λ (v : BaseValue). length v.rows) (sym same) in
    record {
      number = refl;
      base = base;
      undos = each_undo (length b.set.value.rows) (subst (λ (n : ℕ). AreOfWay Undo n undos) rows (subst (AreOfWay Undo (length was.base.set.value.rows)) (sym undo_is) whole.undo))
          (subst (λ (n : ℕ). EachStands files Undo n undos) rows (subst (EachStands files Undo (length was.base.set.value.rows)) (sym undo_is) stand.undo));
      redos = each_redo (length b.set.value.rows) (subst (λ (n : ℕ). AreOfWay Redo n redos) rows (subst (AreOfWay Redo (length was.base.set.value.rows)) (sym redo_is) whole.redo))
          (subst (λ (n : ℕ). EachStands files Redo n redos) rows (subst (EachStands files Redo (length was.base.set.value.rows)) (sym redo_is) stand.redo));
    }

-- ---- files that are kept, and others behind them

-- files of which all are kept, or which are all written
pub all_kept : {V : Type 0} (a b : ℕ) (fs gs : List (ℕ × ℕ × V)) → AllByRecursion (λ (f : ℕ × ℕ × V). f.0 ≢ 0) fs → AreNumbered a b fs gs → (b ≡ a) × (gs ≡ fs)
all_kept a b [] [] some n = (n, refl)
all_kept a b [] (g ∷ gs) some n = absurd n
all_kept a b (f ∷ fs) [] some n = absurd n
all_kept a b (f ∷ fs) (g ∷ gs) some n = elim n [
  | inl kept ↦ (let rest = all_kept a b fs gs some.1 kept.1 in (rest.0, λ k. kept.0.1 k ∷ rest.1 k))
  | inr given ↦ absurd (some.0 given.0.none)
]

pub all_given : {V : Type 0} (a b : ℕ) (fs gs : List (ℕ × ℕ × V)) → AllByRecursion (λ (f : ℕ × ℕ × V). f.0 ≡ 0) fs → AreNumbered a b fs gs
    → CountUp a b (map (λ (g : ℕ × ℕ × V). g.0) gs) × AllByRecursion (λ (g : ℕ × ℕ × V). is_small g.1 ≡ true) gs × (length gs ≡ length fs)
all_given a b [] [] none n = (n, tt, refl)
all_given a b [] (g ∷ gs) none n = absurd n
all_given a b (f ∷ fs) [] none n = absurd n
all_given a b (f ∷ fs) (g ∷ gs) none n = elim n [
  | inl kept ↦ absurd (kept.0.0 none.0)
  | inr given ↦ (let rest = all_given (suc a) b fs gs none.1 given.1 in ((given.0.number, rest.0), (given.0.short, rest.1), ap suc rest.2))
]

-- those in front of others, and those
pub numbered_parts : {V : Type 0} (a b : ℕ) (fs hs gs : List (ℕ × ℕ × V)) → AreNumbered a b (fs ++ hs) gs
    → (mid : ℕ) × ((front : List (ℕ × ℕ × V)) × ((behind : List (ℕ × ℕ × V)) × ((gs ≡ front ++ behind) × AreNumbered a mid fs front × AreNumbered mid b hs behind)))
numbered_parts {V} a b [] hs gs n = (a, ([], (gs, (refl, refl, n))))
numbered_parts {V} a b (f ∷ fs) hs [] n = absurd n
numbered_parts {V} a b (f ∷ fs) hs (g ∷ gs) n = elim n [
  | inl kept ↦ (let rest = numbered_parts a b fs hs gs kept.1 in (rest.0, (g ∷ rest.1.0, (rest.1.1.0, (ap (λ (l : List (ℕ × ℕ × V)). g ∷ l) rest.1.1.1.0, inl (kept.0, rest.1.1.1.1), rest.1.1.1.2)))))
  | inr given ↦ (let rest = numbered_parts (suc a) b fs hs gs given.1 in (rest.0, (g ∷ rest.1.0, (rest.1.1.0, (ap (λ (l : List (ℕ × ℕ × V)). g ∷ l) rest.1.1.1.0, inr (given.0, rest.1.1.1.1), rest.1.1.1.2)))))
]

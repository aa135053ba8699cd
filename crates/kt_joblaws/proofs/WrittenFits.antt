-- The UNDO records of a row that is written fit, and what it has passes the rules of the table.
use Rattle.std.proofs.Common.{◌≡◌, ◌≤◌, ◌<◌, ℕ, Bool, true, false, cond, ◌&&◌, List, [], ◌∷◌, ◌++◌, Option, Some, None, inl, inr, refl, sym, ap, ◌∙◌, subst, arith}
use Rattle.std.specs.Prelude.{nat_lt, is_some, IsTrue}
use Rattle.std.specs.List.{list_all}
use Rattle.std.specs.Option.{option_map}
use Rattle.std.specs.Ordering.{nat_cmp, eq_by_cmp}
use Rattle.std.specs.Cmp.{nat_cmp_total}
use Rattle.std.specs.FinMap.Entries.{find, find-put, where_key, is_sorted}
use Rattle.std.proofs.lemmas.Bool.{lt-ltb, le-ltb, ltb-true}
use Rattle.kt_base.proofs.Values.{both_true, both}
use Rattle.kt_base.specs.declared.cell.Cell.{Cell}
use Rattle.kt_history.specs.declared.change.Change.{Change}
use Rattle.kt_history.specs.declared.change.Change.TheVariants.{Ins, Upd, Del}
use Rattle.kt_history.specs.Rows.{Row, IsRow, apply, undo, fits, has_columns, with_cells}
use Rattle.kt_history.specs.Stores.{Steps, Hist, Under}
use Rattle.kt_histlaws.specs.Disks.{DiskRow}
use Rattle.kt_histlaws.specs.Fitting.{Rises}
use Rattle.kt_histlaws.specs.Histories.{or_else}
use Rattle.kt_rowfiles.specs.Files.{put_falling, falling}
use Rattle.kt_rowfiles.specs.Fitting.{is_row, step_fits, steps_fit}
use Rattle.kt_rowfiles.specs.Flushing.{after_all, undone, cut, EachAbove, written, written_deleted}
use Rattle.kt_rowfiles.specs.Merging.{joined_history}
use Rattle.kt_rowfiles.proofs.Flushing.{fit_is_undone}
use Rattle.kt_rowfiles.proofs.Merging.{joined_cut}
use Rattle.kt_baseset.specs.declared.schema.ColumnShape.{ColumnShape}
use Rattle.kt_content.specs.Rules.{Rules, AreRules, StepsPass, HistPasses}
use Rattle.kt_content.proofs.WrittenRows.{written_passes}
use Rattle.kt_merge.specs.Rows.{deleted_at, but_last, before_last, written_by, row_written}
use Rattle.kt_merge.specs.OneKey.{RowPasses, AllPass, PassesFrom, key_written}
use Rattle.kt_merge.proofs.Written.{ends_with, came_from}

-- ---- the columns of an update that leads back

under : (b : Bool) (x : Cell) (y o : Option Cell) → cond b (Some x) (or_else y o) ≡ or_else (cond b (Some x) y) o
under true x y o = refl
under false x y o = refl

find_over : (q : ℕ) (cells row : Row) → find nat_cmp q (with_cells cells row) ≡ or_else (find nat_cmp q cells) (find nat_cmp q row)
find_over q [] row = refl
find_over q (c ∷ cells) row = find-put nat_cmp nat_cmp_total q c.0 c.1 (with_cells cells row) ∙ ap (cond (eq_by_cmp nat_cmp q c.0) (Some c.1)) (find_over q cells row) ∙ under (eq_by_cmp nat_cmp q c.0) c.1 (find nat_cmp q cells) (find nat_cmp q row)

some_first : (a b : Option Cell) → is_some a ≡ true → is_some (or_else a b) ≡ true
some_first None b h = cc
some_first (Some x) b h = refl

-- a cell that they set is one of the row's
are_there : (cells row some : Row) → list_all (λ (c : ℕ × Cell). is_some (find nat_cmp c.0 (with_cells cells row))) (where_key nat_cmp (λ id. is_some (find nat_cmp id cells)) some) ≡ true
are_there cells row [] = refl
are_there cells row (e ∷ some) = by (is_some (find nat_cmp e.0 cells)) refl (are_there cells row some)
  where
    rest : Row
    rest = where_key nat_cmp (λ id. is_some (find nat_cmp id cells)) some

    test : ℕ × Cell → Bool
    test c = is_some (find nat_cmp c.0 (with_cells cells row))

    by : (b : Bool) → is_some (find nat_cmp e.0 cells) ≡ b → list_all test rest ≡ true → list_all test (cond b (e ∷ rest) rest) ≡ true
    by true is more = both (test e) (list_all test rest) (ap is_some (find_over e.0 cells row) ∙ some_first (find nat_cmp e.0 cells) (find nat_cmp e.0 row) is) more
    by false is more = more

columns_there : (c : Change) (row : Option Row) → fits c row ≡ true → has_columns (undo c row) (apply c row) ≡ true
columns_there (Ins cells) None fit = refl
columns_there (Ins cells) (Some old) fit = cc
columns_there (Upd cells) None fit = cc
columns_there (Upd cells) (Some old) fit = are_there cells old old
columns_there Del None fit = cc
columns_there Del (Some old) fit = refl

fits_back : (c : Change) (row : Option Row) → fits c row ≡ true → fits (undo c row) (apply c row) ≡ true
fits_back (Ins cells) None fit = refl
fits_back (Ins cells) (Some old) fit = cc
fits_back (Upd cells) None fit = cc
fits_back (Upd cells) (Some old) fit = refl
fits_back Del None fit = cc
fits_back Del (Some old) fit = refl

as_equal : (b : Bool) → IsTrue b → b ≡ true
as_equal b h = h

-- ---- the records of a row

module _ (columns : List ColumnShape) where
  in_order_row : (row : Option Row) → RowPasses columns row → is_row row ≡ true
  in_order_row None p = refl
  in_order_row (Some row) p = as_equal (is_sorted nat_cmp row) p.order

  first_passes : (steps : Steps) (row : Option Row) → AllPass columns steps row → RowPasses columns row
  first_passes [] row p = p
  first_passes (c ∷ steps) row p = p.0

  front_passes : (xs ys : Steps) (row : Option Row) → AllPass columns (xs ++ ys) row → AllPass columns xs row
  front_passes [] ys row p = first_passes ys row p
  front_passes (c ∷ xs) ys row p = (p.0, p.1, p.2, p.3, front_passes xs ys (apply c.1 row) p.4)

  undo_fits : (c : Change) (row : Option Row) (ts top : ℕ) → fits c row ≡ true → RowPasses columns (apply c row) → ts < top → step_fits top (ts, undo c row) (apply c row) ≡ true
  undo_fits c row ts top fit passes lt =
      both (nat_lt ts top) (is_row (apply c row) && (fits (undo c row) (apply c row) && has_columns (undo c row) (apply c row))) (lt-ltb ts top lt)
      (both (is_row (apply c row)) (fits (undo c row) (apply c row) && has_columns (undo c row) (apply c row)) (in_order_row (apply c row) passes)
      (both (fits (undo c row) (apply c row)) (has_columns (undo c row) (apply c row)) (fits_back c row fit) (columns_there c row fit)))

  undone_fit : (j : ℕ) (steps : Steps) (row : Option Row) (made : Steps) (low top : ℕ) → EachAbove j steps → Rises low steps → AllPass columns steps row
      → ((b : ℕ) → low < b → steps_fit b made row ≡ true) → low < top → Under top steps → steps_fit top (undone j steps row made) (after_all steps row) ≡ true
  undone_fit j [] row made low top above rise pass so lt below = so top lt
  undone_fit j (c ∷ steps) row made low top above rise pass so lt below =
      let fit = as_equal (fits c.1 row) pass.1 in
      let back = (fit_is_undone c.1 row (sorted row pass.0) pass.1 pass.2 pass.3).back in
      ap (λ (b : Bool). steps_fit top (undone j steps (apply c.1 row) (cond b ((c.0, undo c.1 row) ∷ made) made)) (after_all steps (apply c.1 row))) (lt-ltb j c.0 above.0)
      ∙ undone_fit j steps (apply c.1 row) ((c.0, undo c.1 row) ∷ made) c.0 top above.1 rise.1 pass.4
      (λ b up. both (step_fits b (c.0, undo c.1 row) (apply c.1 row)) (steps_fit c.0 made (apply (undo c.1 row) (apply c.1 row)))
      (undo_fits c.1 row c.0 b fit (first_passes steps (apply c.1 row) pass.4) up) (ap (steps_fit c.0 made) back ∙ so c.0 rise.0))
      below.0 below.1
    where
      sorted : (old : Option Row) → RowPasses columns old → IsRow old
      sorted None p = tt
      sorted (Some old) p = p.order

each_from : (j low : ℕ) (steps : Steps) → j ≤ low → Rises low steps → EachAbove j steps
each_from j low [] le r = tt
each_from j low (c ∷ steps) le r = (omega (arith, r.0), each_from j c.0 steps (omega (arith, r.0)) r.1)

rises_front : (low : ℕ) (xs ys : Steps) → Rises low (xs ++ ys) → Rises low xs
rises_front low [] ys r = tt
rises_front low (c ∷ xs) ys r = (r.0, rises_front c.0 xs ys r.1)

under_front : (top : ℕ) (xs ys : Steps) → Under top (xs ++ ys) → Under top xs
under_front top [] ys u = tt
under_front top (c ∷ xs) ys u = (u.0, under_front top xs ys u.1)

steps_front : (rules : Rules) (xs ys : Steps) → StepsPass rules (xs ++ ys) → StepsPass rules xs
steps_front rules [] ys p = tt
steps_front rules (c ∷ xs) ys p = (p.0, steps_front rules xs ys p.1)

-- timestamps that fall stand in order already
falls_same : (top : ℕ) (undos : Steps) (row : Option Row) → steps_fit top undos row ≡ true → falling undos ≡ undos
falls_same top [] row h = refl
falls_same top (u ∷ []) row h = refl
falls_same top (u ∷ v ∷ undos) row h =
    let rest = (both_true (step_fits top u row) (steps_fit u.0 (v ∷ undos) (apply u.1 row)) h).1 in
    let next = (both_true (step_fits u.0 v (apply u.1 row)) (steps_fit v.0 undos (apply v.1 (apply u.1 row))) rest).0 in
    let low : v.0 < u.0 = ltb-true v.0 u.0 (both_true (nat_lt v.0 u.0) _ next).0 in
    ap (put_falling u) (falls_same u.0 (v ∷ undos) (apply u.1 row) rest)
    ∙ ap (λ (b : Bool). cond b (v ∷ put_falling u undos) (u ∷ v ∷ undos)) (le-ltb u.0 v.0 (omega arith))

-- ---- what is written of a key

-- a row with its records, below a time, passes and fits
pub record IsGood (rules : Rules) (top : ℕ) (q : List ℕ) (d : DiskRow) : Type 0 where
  pub key : rules.key q ≡ true
  pub base : rules.row d.base ≡ true
  pub undos : StepsPass rules d.undos
  pub redos : StepsPass rules d.redos
  pub fit : steps_fit top d.undos (Some d.base) ≡ true

pub good_falls : (rules : Rules) (top : ℕ) (q : List ℕ) (d : DiskRow) → IsGood rules top q d → falling d.undos ≡ d.undos
good_falls rules top q d g = falls_same top d.undos (Some d.base) g.fit

module _ (rules : Rules) (are : AreRules rules) (columns : List ColumnShape) (j top : ℕ) (lt : j < top) (q : List ℕ) (h : Hist) (rise : Rises j h.steps) (pass : AllPass columns h.steps h.first) (below : Under top h.steps) (passes : HistPasses rules q h) where
  key_passes : (d : DiskRow) → row_written j h ≡ Some d → rules.key q ≡ true
  key_passes d is = elim passes.key [
    | inl none ↦ absurd (let e : None ≡ Some d = sym (ap (row_written j) none) ∙ is in cc)
    | inr key ↦ key
  ]

  good_there : (d : DiskRow) → option_map (written j h) (after_all h.steps h.first) ≡ Some d → rules.key q ≡ true → IsGood rules top q d
  good_there d e key =
      let from = came_from (written j h) (after_all h.steps h.first) d e in
      let own = written_passes rules j h from.0 are passes.first passes.steps from.1 in
      subst (IsGood rules top q) from.2 (record {
        key = key;
        base = own.0;
        undos = own.1;
        redos = tt;
        fit = ap (steps_fit top (undone j h.steps h.first [])) (sym from.1) ∙ undone_fit columns j h.steps h.first [] j top (each_from j j h.steps (omega arith) rise) rise pass (λ b up. refl) lt below;
      })

  good_ghost : (ts : ℕ) (d : DiskRow) → deleted_at h.steps ≡ Some ts → option_map (written_deleted j (before_last h) ts) (after_all (but_last h.steps) h.first) ≡ Some d → rules.key q ≡ true → IsGood rules top q d
  good_ghost ts d last e key =
      let from = came_from (written_deleted j (before_last h) ts) (after_all (but_last h.steps) h.first) d e in
      let parts = ends_with h.steps ts last in
      let front_rise = rises_front j (but_last h.steps) ((ts, Del) ∷ []) (subst (Rises j) parts rise) in
      let front_pass = front_passes columns (but_last h.steps) ((ts, Del) ∷ []) h.first (subst (λ (l : Steps). AllPass columns l h.first) parts pass) in
      let front_below = under_front top (but_last h.steps) ((ts, Del) ∷ []) (subst (Under top) parts below) in
      let front_steps = steps_front rules (but_last h.steps) ((ts, Del) ∷ []) (subst (StepsPass rules) parts passes.steps) in
      let own = written_passes rules j (before_last h) from.0 are passes.first front_steps from.1 in
      subst (IsGood rules top q) from.2 (record {
        key = key;
        base = own.0;
        undos = own.1;
        redos = (tt, tt);
        fit = ap (steps_fit top (undone j (but_last h.steps) h.first [])) (sym from.1)
            ∙ undone_fit columns j (but_last h.steps) h.first [] j top (each_from j j (but_last h.steps) (omega arith) front_rise) front_rise front_pass (λ b up. refl) lt front_below;
      })

  good_by : (d : DiskRow) (o : Option ℕ) → deleted_at h.steps ≡ o → written_by j h o ≡ Some d → rules.key q ≡ true → IsGood rules top q d
  good_by d None last e key = good_there d e key
  good_by d (Some ts) last e key = by (nat_lt j ts) e
    where
      by : (b : Bool) → cond b (option_map (written_deleted j (before_last h) ts) (after_all (but_last h.steps) h.first)) None ≡ Some d → IsGood rules top q d
      by true f = good_ghost ts d last f key
      by false f = cc

  good_row : (d : DiskRow) → row_written j h ≡ Some d → IsGood rules top q d
  good_row d is = good_by d (deleted_at h.steps) refl is (key_passes d is)

-- ---- of several stores

pub good_key : (rules : Rules) → AreRules rules → (columns : List ColumnShape) (j top : ℕ) → j < top → (q : List ℕ) (hs : List Hist) → PassesFrom columns j top hs → HistPasses rules q (joined_history j hs)
    → (d : DiskRow) → key_written j hs ≡ Some d → IsGood rules top q d
good_key rules are columns j top lt q hs p passes d is =
    let same : joined_history j hs ≡ cut j p.whole = joined_cut j hs p.whole p.shows p.rise p.rises in
    good_row rules are columns j top lt q (cut j p.whole) p.rises.0 p.pass p.under (subst (HistPasses rules q) same passes) d (sym (ap (row_written j) same) ∙ is)

-- Of a disk rowset whose REDO records fold the changes of each key stand in the order of their times.
use Rattle.std.proofs.Common.{◌≡◌, ◌≤◌, ◌<◌, ◌+◌, ℕ, suc, Bool, true, false, cond, List, [], ◌∷◌, ◌++◌, Option, Some, length, unwrap_or, refl, sym, subst, ◌∙◌, arith, append_assoc}
use Rattle.std.specs.Prelude.{nat_lt}
use Rattle.std.specs.Ordering.{eq_by_cmp}
use Rattle.std.specs.FinMap.Entries.{find}
use Rattle.std.proofs.lemmas.Bool.{ltb-true, ltb-false}
use Rattle.std.proofs.lemmas.List.{append-nil}
use Rattle.kt_history.specs.declared.change.Change.{Change}
use Rattle.kt_history.specs.declared.changes.Delta.{Delta}
use Rattle.kt_history.specs.Rows.{Row, apply, undo, key_cmp}
use Rattle.kt_history.specs.Stores.{Steps, Store, Under, hist_in, never}
use Rattle.kt_histlaws.specs.Disks.{led_over, hist_of}
use Rattle.kt_histlaws.specs.Fitting.{Rises}
use Rattle.kt_baseset.specs.declared.rows.KeyedRow.{KeyedRow}
use Rattle.kt_baseset.specs.declared.schema.ColumnShape.{ColumnShape}
use Rattle.kt_baseset.specs.Tables.{cells_in}
use Rattle.kt_rowfiles.specs.Files.{DiskRowset, records_for, records_in, put_falling, falling}
use Rattle.kt_rowfiles.specs.Flushing.{EachAbove, InOrderAt}
use Rattle.kt_diskrowset.specs.declared.data.RowSetData.{RowSetData}
use Rattle.kt_diskrowset.specs.Data.{files_in, fresh_in, store_in}
use Rattle.kt_diskrowset.specs.Files.{lists_of}
use Rattle.kt_diskrowset.specs.Rows.{Fresh, rows_of, hist_at, hists_from}
use Rattle.kt_merge.specs.Major.{AllFrom, redos_at}
use Rattle.kt_merge.specs.Rewriting.{IsRewritten, TellsInOrder, Folds, AllFold}
use Rattle.kt_merge.proofs.Refolded.{folds_row}

-- ---- times that do not fall

abbrev Climbs : ℕ → Steps → Type 0
Climbs low [] = Unit {0}
Climbs low (c ∷ steps) = (low ≤ c.0) × Climbs c.0 steps

climbs_above : (j low : ℕ) (steps : Steps) → j < low → Climbs low steps → EachAbove j steps
climbs_above j low [] lt h = tt
climbs_above j low (c ∷ steps) lt h = (omega (arith, lt, h.0), climbs_above j c.0 steps (omega (arith, lt, h.0)) h.1)

climbs_in_order : (j low : ℕ) (steps : Steps) → Climbs low steps → InOrderAt j steps
climbs_in_order j low [] h = tt
climbs_in_order j low (c ∷ steps) h = (λ above. climbs_above j c.0 steps (ltb-true j c.0 above) h.1, climbs_in_order j c.0 steps h.1)

climbs_less : (a b : ℕ) (steps : Steps) → a ≤ b → Climbs b steps → Climbs a steps
climbs_less a b [] le h = tt
climbs_less a b (c ∷ steps) le h = (omega (arith, le, h.0), h.1)

rises_climbs : (low : ℕ) (steps : Steps) → Rises low steps → Climbs low steps
rises_climbs low [] h = tt
rises_climbs low (c ∷ steps) h = (omega (arith, h.0), rises_climbs c.0 steps h.1)

climbs_from : (low m : ℕ) (steps : Steps) → AllFrom low steps → Rises m steps → Climbs low steps
climbs_from low m [] from rise = tt
climbs_from low m (c ∷ steps) from rise = (from.0, rises_climbs c.0 steps rise.1)

-- ---- times that do not rise

abbrev Drops : ℕ → Steps → Type 0
Drops top [] = Unit {0}
Drops top (c ∷ steps) = (c.0 ≤ top) × Drops c.0 steps

put_drops : (top : ℕ) (c : ℕ × Change) (steps : Steps) → c.0 ≤ top → Drops top steps → Drops top (put_falling c steps)
put_drops top c [] le h = (le, tt)
put_drops top c (s ∷ steps) le h = by (λ low. put_drops s.0 c steps low h.1) (nat_lt c.0 s.0) refl
  where
    by : (c.0 ≤ s.0 → Drops s.0 (put_falling c steps)) → (b : Bool) → nat_lt c.0 s.0 ≡ b → Drops top (cond b (s ∷ put_falling c steps) (c ∷ s ∷ steps))
    by behind true e = (h.0, behind (let lt = ltb-true c.0 s.0 e in omega (arith, lt)))
    by behind false e = (le, (ltb-false c.0 s.0 e, h.1))

falling_drops : (top : ℕ) (steps : Steps) → Under top steps → Drops top (falling steps)
falling_drops top [] h = tt
falling_drops top (c ∷ steps) h = put_drops top c (falling steps) (omega (arith, h.0)) (falling_drops top steps h.1)

-- the changes that UNDO records lead back over, and those behind them
led_climbs : (top : ℕ) (undos : Steps) (row : Option Row) (behind : Steps) → Drops top undos → Climbs top behind → Climbs 0 (led_over undos row ++ behind)
led_climbs top [] row behind h climb = climbs_less 0 top behind (omega arith) climb
led_climbs top (u ∷ undos) row behind h climb =
    subst (Climbs 0) (sym (append_assoc (led_over undos (apply u.1 row)) ((u.0, undo u.1 row) ∷ []) behind))
    (led_climbs u.0 undos (apply u.1 row) ((u.0, undo u.1 row) ∷ behind) h.1 ((omega arith), climbs_less u.0 top behind h.0 climb))

-- ---- a row, and each

folds_in_order : (j : ℕ) (columns : List ColumnShape) (older redos : Steps) (base : Row) → Folds columns older redos base → InOrderAt j (hist_of (record { base = base; undos = falling older; redos = redos })).steps
folds_in_order j columns older redos base f =
    let r = folds_row columns older redos base f in
    climbs_in_order j 0 (led_over (falling older) (Some base) ++ redos) (led_climbs r.low (falling older) (Some base) redos (falling_drops r.low older r.under) (climbs_from r.low 0 redos r.from_ r.rises))

each_in_order : (j : ℕ) (q : List ℕ) (d : DiskRowset) (fresh : Fresh) (n : ℕ) (rows : List KeyedRow) → ((i : ℕ) → i < length rows → InOrderAt j (hist_at d fresh (n + i, cells_in rows i)).steps) → InOrderAt j (hist_in q (hists_from d fresh n (rows_of rows))).steps
each_in_order j q d fresh n [] each = tt
each_in_order j q d fresh n (r ∷ rows) each =
    by (eq_by_cmp key_cmp q r.key) (subst (λ (m : ℕ). InOrderAt j (hist_at d fresh (m, r.cells)).steps) (let here : n + 0 ≡ n = omega arith in here) (each 0 (omega arith)))
    (each_in_order j q d fresh (suc n) rows (λ i low. subst (λ (m : ℕ). InOrderAt j (hist_at d fresh (m, cells_in rows i)).steps) (let next : n + suc i ≡ suc n + i = omega arith in next) (each (suc i) (omega (arith, low)))))
  where
    by : (b : Bool) → InOrderAt j (hist_at d fresh (n, r.cells)).steps → InOrderAt j (hist_in q (hists_from d fresh (suc n) (rows_of rows))).steps
        → InOrderAt j (unwrap_or (cond b (Some (hist_at d fresh (n, r.cells))) (find key_cmp q (hists_from d fresh (suc n) (rows_of rows)))) never).steps
    by true first rest = first
    by false first rest = rest

pub told_in_order : (d e : RowSetData) → d.fresh ≡ [] → AllFold d.base.set.value d.undo d.redo → store_in e ≡ store_in d → TellsInOrder e
told_in_order d e none fold same q j =
    subst (λ (s : Store). InOrderAt j (hist_in q s).steps) (sym same)
    (each_in_order j q (files_in d) (fresh_in d) 0 d.base.set.value.rows
    (λ i low.
    let older = records_in i (lists_of d.undo) in
    let redos = redos_at i d.redo in
    let row = cells_in d.base.set.value.rows i in
    let own : InOrderAt j (hist_of (record { base = row; undos = falling older; redos = redos })).steps = folds_in_order j d.base.set.value.schema older redos row (fold i low) in
    let bare : InOrderAt j ((hist_of (record { base = row; undos = falling older; redos = redos })).steps ++ records_for i d.fresh) =
    subst (λ (l : List Delta). InOrderAt j ((hist_of (record { base = row; undos = falling older; redos = redos })).steps ++ records_for i l)) (sym none)
    (subst (InOrderAt j) (sym (append-nil (hist_of (record { base = row; undos = falling older; redos = redos })).steps)) own) in
    subst (λ (m : ℕ). InOrderAt j (hist_at (files_in d) (fresh_in d) (m, row)).steps) (let here : i ≡ 0 + i = omega arith in here) bare))

-- ---- files that are written anew twice

pub rewritten_twice : (a b c : RowSetData) → IsRewritten a b → IsRewritten b c → IsRewritten a c
rewritten_twice a b c one two = record { number = two.number ∙ one.number; store = two.store ∙ one.store; fresh = two.fresh; lead = λ h. two.lead (one.lead h) }

-- A disk rowset passes the rules of a table where each of its histories does.
use Rattle.std.proofs.Common.{◌≡◌, ◌≤◌, ◌<◌, ◌+◌, ◌^◌, ℕ, suc, Bool, true, false, cond, List, [], ◌∷◌, ◌++◌, length, Some, None, Option, inl, inr, refl, sym, ap, ◌∙◌, subst, arith}
use Rattle.std.specs.Prelude.{nat_lt, ◌==◌}
use Rattle.std.specs.List.{AllByRecursion}
use Rattle.std.specs.Ordering.{is_eq, is_lt, eq_by_cmp, nat_cmp}
use Rattle.std.specs.declared.cmp.Ordering.TheVariants.{Less}
use Rattle.std.specs.FinMap.Entries.{below_all, is_sorted}
use Rattle.std.proofs.lemmas.Bool.{cases_lt}
use Rattle.kt_base.proofs.Values.{both}
use Rattle.kt_history.specs.declared.change.Change.{Change}
use Rattle.kt_history.specs.declared.change.Change.TheVariants.{Ins, Upd, Del}
use Rattle.kt_history.specs.declared.changes.Delta.{Delta}
use Rattle.kt_history.specs.Rows.{Row, Rows, key_cmp, apply, undo}
use Rattle.kt_history.specs.Stores.{Steps, Hist, never}
use Rattle.kt_history.specs.Views.{AreRising}
use Rattle.kt_histlaws.specs.Disks.{before_all, led_over}
use Rattle.kt_histlaws.proofs.Pending.{itself}
use Rattle.kt_rowfiles.specs.Files.{DiskRowset, row_under, records_for, records_in, put_rising, put_falling, rising, falling, row_with, hist_in_files}
use Rattle.kt_rowfiles.specs.Fitting.{undos_fit}
use Rattle.kt_rowfiles.specs.Flushing.{IsChange}
use Rattle.kt_rowfiles.specs.Reading.{UndosFit}
use Rattle.kt_rowfiles.proofs.Fitting.{fit_by_row}
use Rattle.kt_rowfiles.proofs.Flushing.{fit_is_undone}
use Rattle.kt_deltafile.specs.declared.file.Way.{Way}
use Rattle.kt_deltafile.specs.declared.file.Way.TheVariants.{Undo, Redo}
use Rattle.kt_deltafile.specs.Rules.{ChangeFits, Follows, FileFits}
use Rattle.kt_cells.specs.Rules.{EachAfter}
use Rattle.kt_content.specs.Rules.{Rules, AreRules, RowPasses, ChangePasses, BasePasses, FilesPass, StepsPass, HistPasses}
use Rattle.kt_merge.proofs.FitFiles.{RiseFrom, from_each}
use Rattle.kt_merge.proofs.KeyChanges.{same_key, by_bool}
use Rattle.kt_joblaws.specs.DeltaJobs.{keys_under, AreFit, a_rowset_of_passing_histories_passes}
use Rattle.kt_joblaws.proofs.OfTable.{lower}
use Rattle.kt_joblaws.proofs.Passing.{ordinals, steps_front, steps_behind, file_passes}

-- ---- the cells of a record stand by rising id

below_from : (k least : ℕ) (cells : Row) → k < least → RiseFrom least cells → below_all nat_cmp k cells ≡ true
below_from k least [] lt r = refl
below_from k least (c ∷ cells) lt r =
    both (is_lt (nat_cmp k c.0)) (below_all nat_cmp k cells) (lower k c.0 (let up = r.0 in omega arith)) (below_from k (c.0 + 1) cells (let up = r.0 in omega arith) r.3)

sorted_from : (least : ℕ) (cells : Row) → RiseFrom least cells → is_sorted nat_cmp cells ≡ true
sorted_from least [] r = refl
sorted_from least (c ∷ cells) r = both (below_all nat_cmp c.0 cells) (is_sorted nat_cmp cells) (below_from c.0 (c.0 + 1) cells (omega arith) r.3) (sorted_from (c.0 + 1) cells r.3)

fits_change : (way : Way) (c : Change) → ChangeFits way c → IsChange c
fits_change way (Ins row) f = tt
fits_change way (Upd cells) f = sorted_from 0 cells (from_each [] cells 0 refl f.each)
fits_change way Del f = tt

abbrev AreChanges : Steps → Type 0
AreChanges [] = Unit {0}
AreChanges (c ∷ steps) = IsChange c.1 × AreChanges steps

for_changes : (way : Way) (rows n : ℕ) (front file : List Delta) → EachAfter (Follows way rows) front file → AreChanges (records_for n file)
for_changes way rows n front [] e = tt
for_changes way rows n front (d ∷ file) e = elim (d.ordinal == n) as (λ (b : Bool). AreChanges (cond b ((d.ts, d.change) ∷ records_for n file) (records_for n file))) [
  | true ↦ (fits_change way d.change (let own : Follows way rows front d = e.0 in own.change), for_changes way rows n (front ++ d ∷ []) file e.1)
  | false ↦ for_changes way rows n (front ++ d ∷ []) file e.1
]

changes_join : (xs ys : Steps) → AreChanges xs → AreChanges ys → AreChanges (xs ++ ys)
changes_join [] ys a b = b
changes_join (x ∷ xs) ys a b = (a.0, changes_join xs ys a.1 b)

in_changes : (way : Way) (rows n : ℕ) (files : List (List Delta)) → AreFit way rows files → AreChanges (records_in n files)
in_changes way rows n [] f = tt
in_changes way rows n (file ∷ files) f =
    let own : FileFits way rows file = f.0 in
    changes_join (records_for n file) (records_in n files) (for_changes way rows n [] file own.each) (in_changes way rows n files f.1)

put_changes : (c : ℕ × Change) (steps : Steps) → IsChange c.1 → AreChanges steps → AreChanges (put_falling c steps)
put_changes c [] h p = (h, tt)
put_changes c (d ∷ steps) h p = elim (nat_lt c.0 d.0) as (λ (b : Bool). AreChanges (cond b (d ∷ put_falling c steps) (c ∷ d ∷ steps))) [
  | true ↦ (p.0, put_changes c steps h p.1)
  | false ↦ (h, p)
]

falling_changes : (steps : Steps) → AreChanges steps → AreChanges (falling steps)
falling_changes [] a = tt
falling_changes (c ∷ steps) a = put_changes c (falling steps) a.0 (falling_changes steps a.1)

-- ---- records pass where those that are put in order do

up_passes : (rules : Rules) (c : ℕ × Change) (steps : Steps) → StepsPass rules (put_rising c steps) → ChangePasses rules c.1 × StepsPass rules steps
up_passes rules c [] p = (p.0, tt)
up_passes rules c (d ∷ steps) p = elim (nat_lt d.0 c.0) as (λ (b : Bool). StepsPass rules (cond b (d ∷ put_rising c steps) (c ∷ d ∷ steps)) → ChangePasses rules c.1 × StepsPass rules (d ∷ steps)) [
  | true ↦ λ p. (let rest = up_passes rules c steps p.1 in (rest.0, (p.0, rest.1)))
  | false ↦ λ p. (p.0, p.1)
] p

rising_passes : (rules : Rules) (steps : Steps) → StepsPass rules (rising steps) → StepsPass rules steps
rising_passes rules [] p = tt
rising_passes rules (c ∷ steps) p = let parts = up_passes rules c (rising steps) p in (parts.0, rising_passes rules steps parts.1)

down_passes : (rules : Rules) (c : ℕ × Change) (steps : Steps) → StepsPass rules (put_falling c steps) → ChangePasses rules c.1 × StepsPass rules steps
down_passes rules c [] p = (p.0, tt)
down_passes rules c (d ∷ steps) p = elim (nat_lt c.0 d.0) as (λ (b : Bool). StepsPass rules (cond b (d ∷ put_falling c steps) (c ∷ d ∷ steps)) → ChangePasses rules c.1 × StepsPass rules (d ∷ steps)) [
  | true ↦ λ p. (let rest = down_passes rules c steps p.1 in (rest.0, (p.0, rest.1)))
  | false ↦ λ p. (p.0, p.1)
] p

falling_passes : (rules : Rules) (steps : Steps) → StepsPass rules (falling steps) → StepsPass rules steps
falling_passes rules [] p = tt
falling_passes rules (c ∷ steps) p = let parts = down_passes rules c (falling steps) p in (parts.0, falling_passes rules steps parts.1)

-- ---- a row whose history passes

pub changed_passes : (rules : Rules) → AreRules rules → (c : Change) (row : Option Row) → RowPasses rules row → ChangePasses rules c → RowPasses rules (apply c row)
changed_passes rules are (Ins row) None h c = c
changed_passes rules are (Ins row) (Some old) h c = h
changed_passes rules are (Upd cells) None h c = tt
changed_passes rules are (Upd cells) (Some old) h c = are.changed cells old c h
changed_passes rules are Del row h c = tt

pub undo_passes : (rules : Rules) → AreRules rules → (c : Change) (row : Option Row) → RowPasses rules row → ChangePasses rules (undo c row)
undo_passes rules are (Ins row) old h = tt
undo_passes rules are (Upd cells) (Some old) h = are.part cells old h
undo_passes rules are (Upd cells) None h = tt
undo_passes rules are Del (Some old) h = h
undo_passes rules are Del None h = tt

-- the row from which UNDO records lead back passes, and so do they, where the first row and the changes that they lead over do
led_passes : (rules : Rules) → AreRules rules → (top : ℕ) (undos : Steps) (row : Option Row) → UndosFit top undos row → AreChanges undos → RowPasses rules (before_all undos row) → StepsPass rules (led_over undos row)
    → RowPasses rules row × StepsPass rules undos
led_passes rules are top [] row f a first led = (first, tt)
led_passes rules are top (u ∷ undos) row f a first led =
    let next = apply u.1 row in
    let rest = led_passes rules are u.0 undos next f.4 a.1 first (steps_front rules (led_over undos next) ((u.0, undo u.1 row) ∷ []) led) in
    let own : ChangePasses rules (undo u.1 row) = (steps_behind rules (led_over undos next) ((u.0, undo u.1 row) ∷ []) led).0 in
    let undone = fit_is_undone u.1 row f.1 f.2 f.3 a.0 in (
      subst (RowPasses rules) undone.back (changed_passes rules are (undo u.1 row) next rest.0 own),
      (subst (ChangePasses rules) undone.over (undo_passes rules are (undo u.1 row) next rest.0), rest.1),
    )

-- a row in files has a history
not_never : (undos redos : Steps) (base : Row) → record { first = before_all undos (Some base); steps = led_over undos (Some base) ++ redos } ≡ never → ⊥
not_never [] redos base e = let none : Some base ≡ None = ap (λ (h : Hist). h.first) e in cc
not_never (u ∷ undos) redos base e = some (led_over undos (apply u.1 (Some base))) (ap (λ (h : Hist). h.steps) e)
  where
    some : (front : Steps) → (front ++ (u.0, undo u.1 (Some base)) ∷ []) ++ redos ≡ [] → ⊥
    some [] e = cc
    some (x ∷ front) e = cc

-- what is asked of a row at its place
record RowIsGood (rules : Rules) (d : DiskRowset) (n : ℕ) (r : List ℕ × Row) : Type 0 where
  pub key : rules.key r.0 ≡ true
  pub row : rules.row r.1 ≡ true
  pub undos : StepsPass rules (records_in n d.undos)
  pub redos : StepsPass rules (records_in n d.redos)

module _ (rules : Rules) (are : AreRules rules) (d : DiskRowset) (hists : (q : List ℕ) → HistPasses rules q (hist_in_files q d)) (fit : undos_fit d ≡ true) (undo : AreFit Undo (length d.base) d.undos) (redo : AreFit Redo (length d.base) d.redos) where
  row_is_good : (n : ℕ) (r : List ℕ × Row) → row_under r.0 0 d.base ≡ Some (n, r.1) → RowIsGood rules d n r
  row_is_good n r at =
      let undos : Steps = falling (records_in n d.undos) in
      let redos : Steps = rising (records_in n d.redos) in
      let h : HistPasses rules r.0 (row_with d (Some (n, r.1))) = subst (λ (o : Option (ℕ × Row)). HistPasses rules r.0 (row_with d o)) at (hists r.0) in
      let led = led_passes rules are (2 ^ 64) undos (Some r.1) (fit_by_row d r.0 (n, r.1) fit at) (falling_changes (records_in n d.undos) (in_changes Undo (length d.base) n d.undos undo)) h.first
      (steps_front rules (led_over undos (Some r.1)) redos h.steps) in
      record {
        key = elim h.key [
          | inl none ↦ absurd (not_never undos redos r.1 none)
          | inr key ↦ key
        ];
        row = led.0;
        undos = falling_passes rules (records_in n d.undos) led.1;
        redos = rising_passes rules (records_in n d.redos) (steps_behind rules (led_over undos (Some r.1)) redos h.steps);
      }

  -- each of these keys is found among all rows where it is found among the last ones, counted from n
  abbrev FoundFrom : ℕ → Rows → List (List ℕ) → Type 0
  FoundFrom n rows keys = AllByRecursion (λ (k : List ℕ). row_under k 0 d.base ≡ row_under k n rows) keys

  other_key : (low k : List ℕ) → key_cmp low k ≡ Less → eq_by_cmp key_cmp k low ≡ false
  other_key low k less = by_bool (eq_by_cmp key_cmp k low)
      (λ tied. absurd (let same : k ≡ low = same_key k low tied in let e : false ≡ true = sym (ap is_eq (subst (λ (x : List ℕ). key_cmp low x ≡ Less) same less)) ∙ itself low in cc))
      (λ e. e)

  found_behind : (n : ℕ) (r : List ℕ × Row) (rows : Rows) (keys : List (List ℕ)) → AllByRecursion (λ (k : List ℕ). key_cmp r.0 k ≡ Less) keys → FoundFrom n (r ∷ rows) keys → FoundFrom (suc n) rows keys
  found_behind n r rows [] above f = tt
  found_behind n r rows (k ∷ keys) above f = (
    f.0 ∙ ap (λ (b : Bool). cond b (Some (n, r.1)) (row_under k (suc n) rows)) (other_key r.0 k above.0),
    found_behind n r rows keys above.1 f.1,
  )

  abbrev AllGood : ℕ → Rows → Type 0
  AllGood n [] = Unit {0}
  AllGood n (r ∷ rows) = RowIsGood rules d n r × AllGood (suc n) rows

  all_good : (n : ℕ) (rows : Rows) → AreRising (keys_under rows) → FoundFrom n rows (keys_under rows) → AllGood n rows
  all_good n [] rise f = tt
  all_good n (r ∷ rows) rise f = (
    row_is_good n r (f.0 ∙ ap (λ (b : Bool). cond b (Some (n, r.1)) (row_under r.0 (suc n) rows)) (itself r.0)),
    all_good (suc n) rows rise.1 (found_behind n r rows (keys_under rows) rise.0 f.1),
  )

  bases_pass : (n : ℕ) (rows : Rows) → AllGood n rows → BasePasses rules rows
  bases_pass n [] g = tt
  bases_pass n (r ∷ rows) g = (g.0.key, g.0.row, bases_pass (suc n) rows g.1)

  each_passes : (n : ℕ) (rows : Rows) → AllGood n rows → (m : ℕ) → n ≤ m → m < n + length rows → StepsPass rules (records_in m d.undos) × StepsPass rules (records_in m d.redos)
  each_passes n [] g m low up = absurd (let e : m < n + 0 = up in omega arith)
  each_passes n (r ∷ rows) g m low up = elim (cases_lt n m) [
    | inl lt ↦ each_passes (suc n) rows g.1 m (omega arith) (omega arith)
    | inr le ↦
        let same : n ≡ m = omega arith in
        subst (λ (k : ℕ). StepsPass rules (records_in k d.undos) × StepsPass rules (records_in k d.redos)) same (g.0.undos, g.0.redos)
  ]

  files_pass : (way : Way) (rows : ℕ) (files : List (List Delta)) → AreFit way rows files → ((n : ℕ) → n < rows → StepsPass rules (records_in n files)) → FilesPass rules files
  files_pass way rows [] f each = tt
  files_pass way rows (file ∷ files) f each =
      let own : FileFits way rows file = f.0 in (
        file_passes rules rows file (ordinals way rows [] file own.each) (λ n lt. steps_front rules (records_for n file) (records_in n files) (each n lt)),
        files_pass way rows files f.1 (λ n lt. steps_behind rules (records_for n file) (records_in n files) (each n lt)),
      )

  found_all : (keys : List (List ℕ)) → FoundFrom 0 d.base keys
  found_all [] = tt
  found_all (k ∷ keys) = (refl, found_all keys)

pub rowset_passes : a_rowset_of_passing_histories_passes
rowset_passes rules d are hists rise fit undo redo =
    let good = all_good rules are d hists fit undo redo 0 d.base rise (found_all rules are d hists fit undo redo (keys_under d.base)) in
    let each = each_passes rules are d hists fit undo redo 0 d.base good in
    record {
      base = bases_pass rules are d hists fit undo redo 0 d.base good;
      undos = files_pass rules are d hists fit undo redo Undo (length d.base) d.undos undo (λ n lt. (each n (omega arith) (omega arith)).0);
      redos = files_pass rules are d hists fit undo redo Redo (length d.base) d.redos redo (λ n lt. (each n (omega arith) (omega arith)).1);
      fits = fit;
    }

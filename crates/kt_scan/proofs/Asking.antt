-- A line is told by the columns that its scan asks for.
use Rattle.std.proofs.Common.{◌≡◌, ℕ, suc, List, [], ◌∷◌, ◌++◌, ◌||◌, ◌&&◌, Bool, true, false, cond, length, Option, Some, None, refl, sym, ap, ◌∙◌, subst, map, arith, append_assoc}
use Rattle.std.specs.Prelude.{not, unwrap_or}
use Rattle.std.specs.List.{AllByRecursion, list_any}
use Rattle.std.specs.Option.{option_or}
use Rattle.std.specs.Cmp.{nat_cmp_total}
use Rattle.std.proofs.lemmas.Cmp.{tied_itself}
use Rattle.std.specs.Ordering.{nat_cmp, is_eq, eq_by_cmp}
use Rattle.std.specs.FinMap.Entries.{find}
use Rattle.std.proofs.lemmas.Bool.{false≢true}
use Rattle.std.proofs.lemmas.List.{length-map}
use Rattle.kt_base.specs.declared.cell.Kind.{Kind}
use Rattle.kt_base.specs.declared.cell.Cell.{Cell}
use Rattle.kt_base.specs.declared.cell.Cell.TheVariants.{Null}
use Rattle.kt_base.specs.Keys.{key_cells, after_first}
use Rattle.kt_schema.specs.declared.column.Column.{Column}
use Rattle.kt_schema.specs.Columns.{key_columns, key_kinds}
use Rattle.kt_history.specs.declared.scan.Scan.{Scan}
use Rattle.kt_history.specs.declared.scan.Pred.{Pred}
use Rattle.kt_history.specs.Rows.{Row, is_among, AgreeIn, AgreeOn}
use Rattle.kt_history.specs.Replies.{cell_of, passes, kept, selected}
use Rattle.kt_scan.specs.Asking.{others_in, asked_ids}
use Rattle.kt_scan.specs.Encoded.{keys_of, ids_with}
use Rattle.kt_scan.specs.Lines.{cut, line_of}
use Rattle.kt_scan.specs.Whole.{has_id}
use Rattle.kt_scan.proofs.Named.{found_first, found_later, not_among, kept_without, cut_read}

-- ---- the first view that has a row

pub first_found : (ids : List ℕ) (row rest : Option Row) (read : Row) → AgreeOn ids row (Some read) → AgreeOn ids (option_or row rest) (Some read)
first_found ids None rest read agree = absurd agree
first_found ids (Some row) rest read agree = agree

pub first_missing : (ids : List ℕ) (row rest : Option Row) → AgreeOn ids row None → option_or row rest ≡ rest
first_missing ids None rest agree = refl
first_missing ids (Some row) rest agree = absurd agree

-- ---- the columns that are asked for

pub one_other : (keys : List Column) (old ids : List ℕ) (id : ℕ) → (old ++ others_in keys (id ∷ [])) ++ others_in keys ids ≡ old ++ others_in keys (id ∷ ids)
one_other keys old ids id = elim (has_id keys id) as (λ b. (old ++ cond (not b) (id ∷ []) []) ++ others_in keys ids ≡ old ++ cond (not b) (id ∷ others_in keys ids) (others_in keys ids)) [
  | true ↦ append_assoc old [] (others_in keys ids)
  | false ↦ append_assoc old (id ∷ []) (others_in keys ids)
]

-- ---- a key has as many cells as columns

count_cells : (kinds : List Kind) (bytes : List ℕ) → length (key_cells kinds bytes) ≡ length kinds
count_cells [] bytes = refl
count_cells (kind ∷ []) bytes = refl
count_cells (kind ∷ next ∷ kinds) bytes = ap suc (count_cells (next ∷ kinds) (after_first kind bytes))

-- so each of its columns has one
in_key : (columns : List Column) (cells : List Cell) (id : ℕ) → length cells ≡ length columns → has_id columns id ≡ true → (x : Cell) × (find nat_cmp id (ids_with columns cells) ≡ Some x)
in_key [] cells id count h = absurd (false≢true h)
in_key (c ∷ columns) [] id count h = absurd (omega (arith, count))
in_key (c ∷ columns) (cell ∷ cells) id count h =
    elim (eq_by_cmp nat_cmp id c.id) as (λ b. (b || has_id columns id) ≡ true → (x : Cell) × (cond b (Some cell) (find nat_cmp id (ids_with columns cells)) ≡ Some x)) [
      | true ↦ λ here. (cell, refl)
      | false ↦ λ later. in_key columns cells id (omega (arith, count)) later
    ] h

or_true : (a b : Bool) → b ≡ true → (a || b) ≡ true
or_true true b e = refl
or_true false b e = e

among_front : (ids more : List ℕ) (id : ℕ) → is_among ids id ≡ true → is_among (ids ++ more) id ≡ true
among_front [] more id h = absurd (false≢true h)
among_front (n ∷ ids) more id h = elim (eq_by_cmp nat_cmp id n) as (λ b. (b || is_among ids id) ≡ true → (b || is_among (ids ++ more) id) ≡ true) [ true ↦ λ here. refl | false ↦ λ later. among_front ids more id later ] h

among_back : (ids more : List ℕ) (id : ℕ) → is_among more id ≡ true → is_among (ids ++ more) id ≡ true
among_back [] more id h = h
among_back (n ∷ ids) more id h = or_true (eq_by_cmp nat_cmp id n) (is_among (ids ++ more) id) (among_back ids more id h)

module _ (keys : List Column) (cells : List Cell) (count : length cells ≡ length keys) (a b : Row) where
  of_key : (id : ℕ) → has_id keys id ≡ true → cell_of (ids_with keys cells ++ a) id ≡ cell_of (ids_with keys cells ++ b) id
  of_key id h =
      let x = in_key keys cells id count h in
      found_first id (ids_with keys cells) a x.0 Null x.1 ∙ sym (found_first id (ids_with keys cells) b x.0 Null x.1)

  of_others : (id : ℕ) → has_id keys id ≡ false → find nat_cmp id a ≡ find nat_cmp id b → cell_of (ids_with keys cells ++ a) id ≡ cell_of (ids_with keys cells ++ b) id
  of_others id h same =
      let none = not_among keys cells id h in
      found_later id (ids_with keys cells) a Null none ∙ ap (λ o. unwrap_or o Null) same ∙ sym (found_later id (ids_with keys cells) b Null none)

  alike : (ids : List ℕ) → AgreeIn (others_in keys ids) a b → AllByRecursion (λ id. cell_of (ids_with keys cells ++ a) id ≡ cell_of (ids_with keys cells ++ b) id) ids
  alike [] agree = tt
  alike (id ∷ ids) agree =
      elim (has_id keys id) as (λ h. has_id keys id ≡ h → AgreeIn (cond (not h) (id ∷ others_in keys ids) (others_in keys ids)) a b → AllByRecursion (λ id. cell_of (ids_with keys cells ++ a) id ≡ cell_of (ids_with keys cells ++ b) id) (id ∷ ids)) [
        | true ↦ λ is same. (of_key id is, alike ids same)
        | false ↦ λ is same. (of_others id is (same id (ap (λ o. is_eq o || is_among (others_in keys ids) id) (tied_itself nat_cmp_total id))), alike ids (λ n yes. same n (or_true (eq_by_cmp nat_cmp n id) (is_among (others_in keys ids) n) yes)))
      ] refl agree

  kept_alike : (preds : List Pred) → AllByRecursion (λ id. cell_of (ids_with keys cells ++ a) id ≡ cell_of (ids_with keys cells ++ b) id) (map (λ p. p.column) preds) → kept preds (ids_with keys cells ++ a) ≡ kept preds (ids_with keys cells ++ b)
  kept_alike [] all = refl
  kept_alike (p ∷ preds) all =
      ap (λ (c : Cell). passes p.test c && kept preds (ids_with keys cells ++ a)) all.0 ∙ ap (λ v. passes p.test (cell_of (ids_with keys cells ++ b) p.column) && v) (kept_alike preds all.1)

  cells_alike : (ids : List ℕ) → AllByRecursion (λ id. cell_of (ids_with keys cells ++ a) id ≡ cell_of (ids_with keys cells ++ b) id) ids → map (cell_of (ids_with keys cells ++ a)) ids ≡ map (cell_of (ids_with keys cells ++ b)) ids
  cells_alike [] all = refl
  cells_alike (id ∷ ids) all = ap (λ (c : Cell). c ∷ map (cell_of (ids_with keys cells ++ a)) ids) all.0 ∙ ap (λ (l : List Cell). cell_of (ids_with keys cells ++ b) id ∷ l) (cells_alike ids all.1)

  cut_alike : (scan : Scan) (ids : List ℕ) → scan.columns ≡ Some ids → AgreeIn (asked_ids keys scan) a b → cut scan (ids_with keys cells ++ a) ≡ cut scan (ids_with keys cells ++ b)
  cut_alike scan ids is agree =
      let tested = alike (map (λ p. p.column) scan.preds) (λ id yes. agree id (among_front (others_in keys (map (λ p. p.column) scan.preds)) (others_in keys (unwrap_or scan.columns [])) id yes)) in
      let chosen = alike ids (λ id yes. agree id (among_back (others_in keys (map (λ p. p.column) scan.preds)) (others_in keys (unwrap_or scan.columns [])) id (subst (λ (o : Option (List ℕ)). is_among (others_in keys (unwrap_or o [])) id ≡ true) (sym is) yes))) in
      let shown : selected scan.columns (ids_with keys cells ++ a) ≡ selected scan.columns (ids_with keys cells ++ b) =
      subst (λ (o : Option (List ℕ)). selected o (ids_with keys cells ++ a) ≡ selected o (ids_with keys cells ++ b)) (sym is) (cells_alike ids chosen) in
      ap (λ v. cond v (Some (selected scan.columns (ids_with keys cells ++ a))) None) (kept_alike scan.preds tested)
      ∙ ap (λ (l : List Cell). cond (kept scan.preds (ids_with keys cells ++ b)) (Some l) None) shown

-- ---- the line

line_some : (columns : List Column) (scan : Scan) (key ids : List ℕ) (a b : Row) → scan.columns ≡ Some ids → AgreeIn (asked_ids (key_columns columns) scan) a b → line_of (keys_of columns) scan key (Some a) ≡ line_of (keys_of columns) scan key (Some b)
line_some columns scan key ids a b is agree =
    let cells = key_cells (key_kinds columns) key in
    let count : length cells ≡ length (key_columns columns) = count_cells (key_kinds columns) key ∙ length-map (key_columns columns) (λ c. c.kind) in
    sym (cut_read columns scan key cells a refl) ∙ cut_alike (key_columns columns) cells count a b scan ids is agree ∙ cut_read columns scan key cells b refl

pub line_alike : (columns : List Column) (scan : Scan) (key ids : List ℕ) (row read : Option Row) → scan.columns ≡ Some ids → AgreeOn (asked_ids (key_columns columns) scan) row read → line_of (keys_of columns) scan key row ≡ line_of (keys_of columns) scan key read
line_alike columns scan key ids None None is agree = refl
line_alike columns scan key ids None (Some b) is agree = absurd agree
line_alike columns scan key ids (Some a) None is agree = absurd agree
line_alike columns scan key ids (Some a) (Some b) is agree = line_some columns scan key ids a b is agree

-- ---- a row that does not pass the tests, as the columns tell that are tested

pub fails_line : (columns : List Column) (scan : Scan) (key : List ℕ) (cells : List Cell) (row : Option Row) (read : Row) → list_any (λ p. has_id (key_columns columns) p.column) scan.preds ≡ false
    → AgreeOn (others_in (key_columns columns) (map (λ p. p.column) scan.preds)) row (Some read) → kept scan.preds (ids_with (key_columns columns) cells ++ read) ≡ false → line_of (keys_of columns) scan key row ≡ None
fails_line columns scan key cells None read none agree fails = refl
fails_line columns scan key cells (Some a) read none agree fails =
    let keys = key_columns columns in
    let own = key_cells (key_kinds columns) key in
    let count : length own ≡ length keys = count_cells (key_kinds columns) key ∙ length-map keys (λ c. c.kind) in
    let same : kept scan.preds (ids_with keys own ++ a) ≡ kept scan.preds (ids_with keys own ++ read) = kept_alike keys own count a read scan.preds (alike keys own count a read (map (λ p. p.column) scan.preds) agree) in
    let not_kept : kept scan.preds (ids_with keys own ++ a) ≡ false = same ∙ kept_without keys own read scan.preds none ∙ sym (kept_without keys cells read scan.preds none) ∙ fails in
    sym (cut_read columns scan key own a refl) ∙ ap (λ v. cond v (Some (selected scan.columns (ids_with keys own ++ a))) None) not_kept

pub no_line : (columns : List Column) (scan : Scan) (key ids : List ℕ) (row : Option Row) → AgreeOn ids row None → line_of (keys_of columns) scan key row ≡ None
no_line columns scan key ids None agree = refl
no_line columns scan key ids (Some a) agree = absurd agree

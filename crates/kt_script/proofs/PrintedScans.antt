-- A printed scan is read as that scan.
use Rattle.std.proofs.Common.{◌≡◌, ℕ, ◌≤◌, List, [], ◌∷◌, ◌++◌, refl, sym, ap, subst, ◌∙◌, arith, length, drop, map, Bool, true, false, not, min, Option, Some, None}
use mathlib.Core.List.{append-nil}
use Rattle.std.specs.Prelude.{◌||◌, ◌&&◌, ◌==◌, is_some, if◌then◌else◌, codes}
use Rattle.std.specs.List.{list_any, cons_option, AllByRecursion}
use Rattle.std.specs.Fmt.{decimal}
use Rattle.std.specs.Option.{option_map}
use Rattle.std.proofs.lemmas.Bool.{eq-eqb}
use Rattle.std.proofs.lemmas.List.Folds.{list_any-append}
use Rattle.kt_base.specs.Literals.{same}
use Rattle.kt_base.proofs.Values.{both_true}
use Rattle.kt_schema.specs.declared.column.Column.{Column}
use Rattle.kt_history.specs.declared.scan.At.{At}
use Rattle.kt_history.specs.declared.scan.At.TheVariants.{Looked, Given}
use Rattle.kt_history.specs.declared.scan.Pred.{Pred}
use Rattle.kt_history.specs.declared.scan.Scan.{Scan}
use Rattle.kt_script.specs.Pieces.{cut}
use Rattle.kt_script.specs.Reasons.{sound, reason_if}
use Rattle.kt_script.specs.Writes.{column_named}
use Rattle.kt_script.specs.Scans.{ScanLine, where_line, select_line, timed, name_no, names_no, preds_no, select_no, scan_no, id_of, ids_of, preds_of, scan_of, scan_said, timed_scan, timed_no, line_no}
use Rattle.kt_script.specs.Times.{most_time, time_in, at_no}
use Rattle.kt_script.specs.Fit.{column_of, are_selected, selection_fits, AtFits, ScanFits}
use Rattle.kt_script.specs.Print.{ColumnFits, joined, parted, name_of, pred_words, at_words, names_word, select_words, where_words, scan_words, TestBytes}
use Rattle.kt_base.proofs.Decimals.{same_text}
use Rattle.kt_script.proofs.Cuts.{Without, cut_front, cut_end}
use Rattle.kt_script.proofs.InLine.{join}
use Rattle.kt_script.proofs.PrintedWords.{High, NameByte, Named, name_is, name_high, name_bytes_of, name_apart}
use Rattle.kt_script.proofs.FormLaws.{Plain, zip_all, plain, plain_high}
use Rattle.kt_script.proofs.PrintedCells.{min_sound}
use Rattle.kt_script.proofs.PrintedTables.{IsNamed, Tabled, column_found}
use Rattle.kt_script.proofs.PrintedNames.{Known}
use Rattle.kt_script.proofs.PrintedPreds.{PredRead, preds_read, pred_lines, preds_many, preds_sound, preds_are, where_plain, where_again}
use Rattle.kt_script.proofs.TimeWords.{time_again, time_high, not_late}

-- ---- the selected names

-- an id of the selection, and its column
record Selected (columns : List Column) (id : ℕ) : Type 0 where
  c : Column
  known : Known columns c
  name_is : name_of (column_of columns id) ≡ c.name
  id_is : c.id ≡ id

abbrev ApartIds : List ℕ → Type 0
ApartIds [] = Unit {0}
ApartIds (id ∷ ids) = AllByRecursion (λ n. (n == id) ≡ false) ids × ApartIds ids

none_equal : (id : ℕ) (ids : List ℕ) → not (list_any (λ n. n == id) ids) ≡ true → AllByRecursion (λ n. (n == id) ≡ false) ids
none_equal id [] h = tt
none_equal id (n ∷ ids) h = by (n == id) refl h (λ g. none_equal id ids g)
  where
    by : (t : Bool) → (n == id) ≡ t → not (t || list_any (λ m. m == id) ids) ≡ true → (not (list_any (λ m. m == id) ids) ≡ true → AllByRecursion (λ m. (m == id) ≡ false) ids) → AllByRecursion (λ m. (m == id) ≡ false) (n ∷ ids)
    by true is g later = absurd cc
    by false is g later = (is, later g)

selected_of : (columns : List Column) (id : ℕ) → Tabled columns → is_some (column_of columns id) ≡ true → Selected columns id
selected_of columns id t h = by (column_of columns id) refl h
  where
    by : (o : Option Column) → column_of columns id ≡ o → is_some o ≡ true → Selected columns id
    by None is g = absurd cc
    by (Some c) is g =
        let found = column_found (Known columns) columns id c (zip_all (IsNamed columns) ColumnFits (Known columns) columns (λ d n f. record { named = n; fit = f }) t.named t.fit) is in
        record { c = c; known = found.0; name_is = ap name_of is; id_is = found.1 }

all_selected : (columns : List Column) (ids : List ℕ) → Tabled columns → are_selected columns ids ≡ true → AllByRecursion (Selected columns) ids × ApartIds ids
all_selected columns [] t h = (tt, tt)
all_selected columns (id ∷ ids) t h =
    let first = both_true (is_some (column_of columns id)) (not (list_any (λ n. n == id) ids) && are_selected columns ids) h in
    let second = both_true (not (list_any (λ n. n == id) ids)) (are_selected columns ids) first.1 in
    let later = all_selected columns ids t second.1 in
    ((selected_of columns id t first.0, later.0), (none_equal id ids second.0, later.1))

abbrev selected_name : List Column → ℕ → List ℕ
selected_name columns id = name_of (column_of columns id)

names_differ : (columns : List Column) (id other : ℕ) → Selected columns id → Selected columns other → (other == id) ≡ false → same (selected_name columns id) (selected_name columns other) ≡ false
names_differ columns id other s o apart = by (same (selected_name columns id) (selected_name columns other)) refl
  where
    just : (c d : Column) → ◌≡◌ {A = Option Column} (Some c) (Some d) → c ≡ d
    just c d e = cc

    no : ◌≡◌ {A = Bool} true false → ⊥
    no e = cc

    by : (t : Bool) → same (selected_name columns id) (selected_name columns other) ≡ t → t ≡ false
    by true e =
        let names : s.c.name ≡ o.c.name = sym s.name_is ∙ (same_text (selected_name columns id) (selected_name columns other) e ∙ o.name_is) in
        let columns_same : s.c ≡ o.c = just s.c o.c (sym s.known.named ∙ (ap (column_named columns) names ∙ o.known.named)) in
        let ids_same : other ≡ id = sym o.id_is ∙ (ap (λ x. x.id) (sym columns_same) ∙ s.id_is) in
        absurd (no (sym (eq-eqb other id ids_same) ∙ apart))
    by false e = refl

abbrev Unused : List Column → List (List ℕ) → ℕ → Type 0
Unused columns seen id = list_any (λ n. same n (selected_name columns id)) seen ≡ false

name_sound : (columns : List Column) (id : ℕ) → Selected columns id → name_no columns (selected_name columns id) ≡ sound
name_sound columns id s =
    ap (name_no columns) s.name_is ∙ (ap (λ t. if t then reason_if (not (is_some (column_named columns s.c.name))) 13 else 12) s.known.fit.name ∙ ap (λ (o : Option Column). reason_if (not (is_some o)) 13) s.known.named)

unused_more : (columns : List Column) (seen : List (List ℕ)) (id other : ℕ) → same (selected_name columns id) (selected_name columns other) ≡ false → Unused columns seen other → Unused columns (seen ++ selected_name columns id ∷ []) other
unused_more columns seen id other differ un =
    list_any-append (λ n. same n (selected_name columns other)) seen (selected_name columns id ∷ []) ∙ (ap (λ t. t || (same (selected_name columns id) (selected_name columns other) || false)) un ∙ ap (λ t. t || false) differ)

abbrev Differs : List Column → ℕ → ℕ → Type 0
Differs columns id other = same (selected_name columns id) (selected_name columns other) ≡ false

names_sound : (columns : List Column) (seen : List (List ℕ)) (ids : List ℕ) → AllByRecursion (Selected columns) ids → ApartIds ids → AllByRecursion (Unused columns seen) ids → names_no columns seen (map (selected_name columns) ids) ≡ sound
names_sound columns seen [] all apart un = refl
names_sound columns seen (id ∷ ids) all apart un =
    let name : List ℕ = selected_name columns id in
    let differ : AllByRecursion (Differs columns id) ids = zip_all (Selected columns) (λ n. (n == id) ≡ false) (Differs columns id) ids (λ n s a. names_differ columns id n all.0 s a) all.1 apart.0 in
    let later = names_sound columns (seen ++ name ∷ []) ids all.1 apart.1 (zip_all (Differs columns id) (Unused columns seen) (Unused columns (seen ++ name ∷ [])) ids (λ n d u. unused_more columns seen id n d u) differ un.1) in
    min_sound (name_no columns name) (min (reason_if (list_any (λ n. same n name) seen) 13) (names_no columns (seen ++ name ∷ []) (map (selected_name columns) ids))) (name_sound columns id all.0)
    (min_sound (reason_if (list_any (λ n. same n name) seen) 13) (names_no columns (seen ++ name ∷ []) (map (selected_name columns) ids)) (ap (λ b. reason_if b 13) un.0) later)

all_unused : (columns : List Column) (ids : List ℕ) → AllByRecursion (Unused columns []) ids
all_unused columns [] = tt
all_unused columns (id ∷ ids) = (refl, all_unused columns ids)

ids_again : (columns : List Column) (ids : List ℕ) → AllByRecursion (Selected columns) ids → ids_of columns (map (selected_name columns) ids) ≡ ids
ids_again columns [] all = refl
ids_again columns (id ∷ ids) all =
    let rest : List ℕ = ids_of columns (map (selected_name columns) ids) in
    ap (λ n. cons_option (id_of (column_named columns n)) rest) all.0.name_is ∙ (ap (λ o. cons_option (id_of o) rest) all.0.known.named ∙ (ap (λ n. n ∷ rest) all.0.id_is ∙ ap (λ ns. id ∷ ns) (ids_again columns ids all.1)))

name_known : (columns : List Column) (id : ℕ) → Selected columns id → Named (selected_name columns id)
name_known columns id s = subst Named (sym s.name_is) (name_is s.c.name s.known.fit.name)

no_comma : (bytes : List ℕ) → AllByRecursion NameByte bytes → Without 44 bytes
no_comma [] p = tt
no_comma (b ∷ bytes) p = let low = p.0.low in ((λ e. omega arith), no_comma bytes p.1)

names_cut : (columns : List Column) (id : ℕ) (ids : List ℕ) → AllByRecursion (Selected columns) (id ∷ ids) → cut 44 (joined (codes ",") (map (selected_name columns) (id ∷ ids))) ≡ map (selected_name columns) (id ∷ ids)
names_cut columns id [] all =
    let name : List ℕ = selected_name columns id in
    ap (cut 44) (append-nil name) ∙ cut_end 44 name (no_comma name (name_bytes_of name (name_known columns id all.0)))
names_cut columns id (next ∷ ids) all =
    let name : List ℕ = selected_name columns id in
    cut_front 44 name (joined (codes ",") (map (selected_name columns) (next ∷ ids))) (no_comma name (name_bytes_of name (name_known columns id all.0))) ∙ ap (λ ns. name ∷ ns) (names_cut columns next ids all.1)

names_high : (columns : List Column) (id : ℕ) (ids : List ℕ) → AllByRecursion (Selected columns) (id ∷ ids) → AllByRecursion High (joined (codes ",") (map (selected_name columns) (id ∷ ids)))
names_high columns id [] all = let name : List ℕ = selected_name columns id in join High name [] (name_high name (name_known columns id all.0)) tt
names_high columns id (next ∷ ids) all =
    let name : List ℕ = selected_name columns id in
    join High name (44 ∷ joined (codes ",") (map (selected_name columns) (next ∷ ids))) (name_high name (name_known columns id all.0)) (omega arith, names_high columns next ids all.1)

-- ---- the selection

abbrev names_selected : List Column → Option (List ℕ) → Option (List (List ℕ))
names_selected columns sel = option_map (map (selected_name columns)) sel

record SelectRead (columns : List Column) (sel : Option (List ℕ)) : Type 0 where
  plain : AllByRecursion Plain (select_words columns sel)
  line : (preds : List Pred) → AllByRecursion (PredRead columns) preds → select_line (select_words columns sel ++ where_words columns preds) ≡ where_line (names_selected columns sel) (where_words columns preds)
  no : select_no columns (names_selected columns sel) ≡ sound
  is : option_map (ids_of columns) (names_selected columns sel) ≡ sel

no_selection : (ws : List (List ℕ)) → 1 ≤ length ws → select_line (codes "where" ∷ ws) ≡ where_line None (codes "where" ∷ ws)
no_selection [] h = absurd (omega arith)
no_selection (w ∷ ws) h = refl

select_read : (columns : List Column) (sel : Option (List ℕ)) → Tabled columns → selection_fits columns sel ≡ true → SelectRead columns sel
select_read columns None t fit = record { plain = tt; line = line; no = refl; is = refl }
  where
    line : (preds : List Pred) → AllByRecursion (PredRead columns) preds → select_line (where_words columns preds) ≡ where_line None (where_words columns preds)
    line [] all = refl
    line (p ∷ preds) all = let many = preds_many columns p preds all in no_selection (parted (codes "and") (map (pred_words columns) (p ∷ preds))) (omega (arith, many))
select_read columns (Some []) t fit = absurd cc
select_read columns (Some (id ∷ ids)) t fit =
    let all = all_selected columns (id ∷ ids) t (both_true (not (length (id ∷ ids) == 0)) (are_selected columns (id ∷ ids)) fit).1 in
    let names : List ℕ = names_word columns (id ∷ ids) in
    record {
      plain = (plain (codes "select") refl refl, (plain_high names (names_high columns id ids all.0) (name_apart (selected_name columns id) _ (name_known columns id all.0.0)), tt));
      line = λ preds ps. ap (λ ns. where_line (Some ns) (where_words columns preds)) (names_cut columns id ids all.0);
      no = names_sound columns [] (id ∷ ids) all.0 all.1 (all_unused columns (id ∷ ids));
      is = ap Some (ids_again columns (id ∷ ids) all.0);
    }

-- ---- the time

-- a time and what is read behind it
record AtRead (at : At) : Type 0 where
  plain : AllByRecursion Plain (at_words at)
  read : (ws : List (List ℕ)) → timed (at_words at ++ ws) ≡ Some (at, ws)
  no : at_no at ≡ sound

pub time_plain : (t : ℕ) → t ≤ most_time → Plain (decimal t)
time_plain t h = plain_high (decimal t) (time_high t h) (no_sign (same (decimal t) (codes ";")) refl)
  where
    no_sign : (b : Bool) → same (decimal t) (codes ";") ≡ b → b ≡ false
    no_sign true e = let none : None ≡ Some t = ap time_in (sym (same_text (decimal t) (codes ";") e)) ∙ time_again t h in absurd cc
    no_sign false e = refl

at_read : (at : At) → AtFits at → AtRead at
at_read Looked fit = record { plain = (plain (codes "now") refl refl, tt); read = λ ws. refl; no = refl }
at_read (Given t) fit = record { plain = (plain (codes "at") refl refl, (time_plain t fit, tt)); read = λ ws. ap (option_map (λ n. (Given n, ws))) (time_again t fit); no = not_late t fit }

-- the words of a scan, which are read as it
pub record ScanRead (columns : List Column) (scan : Scan) : Type 0 where
  pub plain : AllByRecursion Plain (scan_words columns scan)
  pub no : scan_no columns (drop 1 (scan_words columns scan)) ≡ sound
  pub is : scan_of columns (drop 1 (scan_words columns scan)) ≡ scan

pub scan_read : (columns : List Column) (scan : Scan) → Tabled columns → ScanFits columns scan → AllByRecursion (λ (p : Pred). TestBytes p.test) scan.preds → ScanRead columns scan
scan_read columns scan t fit bytes =
    let preds = preds_read columns scan.preds t fit.preds bytes in
    let select = select_read columns scan.columns t fit.columns_there in
    let time = at_read scan.at fit.time in
    let ws : List (List ℕ) = select_words columns scan.columns ++ where_words columns scan.preds in
    let sl : ScanLine = record { names = names_selected columns scan.columns; preds = pred_lines columns scan.preds preds } in
    let line : select_line ws ≡ Some sl = select.line scan.preds preds ∙ where_again columns (names_selected columns scan.columns) scan.preds preds in
    let read : timed (at_words scan.at ++ ws) ≡ Some (scan.at, ws) = time.read ws in
    let taken : line_no columns (select_line ws) ≡ sound = ap (line_no columns) line ∙ min_sound (select_no columns sl.names) (preds_no columns sl.preds) select.no (preds_sound columns scan.preds preds) in
    record {
      plain = (plain (codes "scan") refl refl, join Plain (at_words scan.at) ws time.plain (join Plain (select_words columns scan.columns) (where_words columns scan.preds) select.plain (where_plain columns scan.preds preds)));
      no = ap (timed_no columns) read ∙ min_sound (at_no scan.at) (line_no columns (select_line ws)) time.no taken;
      is = ap (timed_scan columns) read ∙ (ap (scan_said columns scan.at) line ∙ (ap (λ cs. record { at = scan.at; columns = cs; preds = preds_of columns sl.preds }) select.is
          ∙ ap (λ ps. record { at = scan.at; columns = scan.columns; preds = ps }) (preds_are columns scan.preds preds)));
    }

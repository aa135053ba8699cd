-- The form of an operation: a kind, a key, and cells by the kind's form.
use Rattle.std.proofs.Common.{◌≡◌, ℕ, ◌<◌, ◌≤◌, min, Bool, true, false, not, ◌&&◌, List, [], ◌∷◌, ◌++◌, length, take, drop, map, suc, Option, Some, None, inl, inr, refl, sym, ap, subst, ◌∙◌, arith}
use Rattle.std.specs.Prelude.{◌==◌, if◌then◌else◌, nat_lt, codes}
use Rattle.std.specs.List.{list_any, list_all, AllByRecursion}
use Rattle.std.proofs.lemmas.Bool.{false≢true, eqb-true}
use Rattle.std.proofs.lemmas.Bool.Decides.{nat_tests}
use Rattle.std.proofs.lemmas.List.{take-append-drop}
use Rattle.kt_base.specs.declared.cell.Cell.{Cell}
use Rattle.kt_base.specs.Keys.{key_cells as cells_of_key}
use Rattle.kt_base.specs.Literals.{literal, CellBytes}
use Rattle.kt_base.proofs.Values.{both, both_true}
use Rattle.kt_key.specs.Fit.{is_key}
use Rattle.kt_key.specs.Spelling.{spelling}
use Rattle.kt_key.proofs.KeyReads.{keys_again}
use Rattle.kt_schema.specs.Columns.{key_columns, other_columns, key_kinds}
use Rattle.kt_schema.specs.Names.{is_name}
use Rattle.kt_schema.specs.declared.column.Column.{Column}
use Rattle.kt_history.specs.declared.operation.OpKind.{OpKind}
use Rattle.kt_history.specs.declared.operation.OpKind.TheVariants as op
use Rattle.kt_history.specs.declared.operation.RowOp.{RowOp}
use Rattle.kt_script.specs.declared.forms.OpForm.{OpForm}
use Rattle.kt_script.specs.declared.forms.OpForm.TheVariants as form
use Rattle.kt_script.specs.Reasons.{sound, reason_if, cell_no, cell_value}
use Rattle.kt_script.specs.Columns.{IsTable}
use Rattle.kt_script.specs.Texts.{literals}
use Rattle.kt_script.specs.Writes.{name_in, cells_no, cells_of, key_len, key_of, key_no, under, must_be_named, left_out_no, is_empty, none_left_no, rest_no, rest_cells, op_form, op_word, op_kinds, kind_no, op_kind, op_no, op_of, op_cells, kind_or_delete}
use Rattle.kt_script.specs.Fit.{is_part, is_given, cells_fit, fits_column, OpFits}
use Rattle.kt_script.specs.Print.{ColumnFits, cell_words, form_names, is_named, op_words, OpBytes}
use Rattle.kt_script.specs.Alike.{of_name, behind_alike, kind_alike, op_alike}
use Rattle.kt_script.proofs.WordForms.{Form, Spells, each, each_no, each_value, each_words, each_keeps, nothing, nothing_no, pair, mapped, ruled, kind_no as kind_no_of, kind_value, chosen}
use Rattle.kt_script.proofs.FormLaws.{Plain, plain, Lawful, all_of, reads, each_law, each_size, nothing_law, pair_law, chosen_law, mapped_law, ruled_law}
use Rattle.kt_script.proofs.Among.{same_id}
use Rattle.kt_script.proofs.Cells.{literal_of, literal_law}
use Rattle.kt_script.proofs.KeyCells.{strong_keys, keys_kept, key_kept}
use Rattle.kt_script.proofs.PrintedCells.{kinds_of}
use Rattle.kt_script.proofs.PrintedTables.{Tabled, Rising, Apart, apart_of, apart_kept, rising_of, rising_kept, numbered}
use Rattle.kt_script.proofs.Packed.{packed_part, part_packed, no_words}
use Rattle.kt_script.proofs.ByName.{none_left}
use Rattle.kt_script.proofs.NamedForm.{named, named_law, given_named}
use Rattle.kt_script.proofs.OpWords.{limit, same_op}

-- ---- the form

-- why the cells of a key are refused as a whole
abbrev long : List Column → List Cell → ℕ
long columns cells = reason_if (is_key (key_kinds columns) cells && nat_lt 16384 (length (spelling (key_kinds columns) cells))) 17

abbrev key_form : List Column → Form (List ℕ)
key_form columns = mapped (spelling (key_kinds columns)) (cells_of_key (key_kinds columns))
    (ruled (λ ws. long columns (each_value literal_of (key_columns columns) ws)) (λ cells. length (spelling (key_kinds columns) cells) ≤ 16384) (each literal_of (key_columns columns)))

abbrev values : List (ℕ × Cell) → List Cell
values cells = map (λ (x : ℕ × Cell). x.1) cells

-- the cells behind a key
abbrev pub rest_form : List Column → OpForm → Form (List (ℕ × Cell))
rest_form others form.Literals = mapped (under others) values (each literal_of others)
rest_form others form.RowNames = ruled (left_out_no others) (λ cells. list_all (is_given cells) others ≡ true) (named others)
rest_form others form.Names = ruled (λ ws. reason_if (is_empty ws) 12) (λ cells. not (length cells == 0) ≡ true) (named others)
rest_form others form.Key = nothing []

abbrev made : OpKind → List ℕ × List (ℕ × Cell) → RowOp
made kind x = record { kind = kind; key = x.0; cells = x.1 }

abbrev parts : RowOp → List ℕ × List (ℕ × Cell)
parts o = (o.key, o.cells)

abbrev body_form : List Column → OpKind → Form RowOp
body_form columns kind = mapped (made kind) parts (pair (key_len columns) (key_form columns) (rest_form (other_columns columns) (op_form kind)))

abbrev pub operation : List Column → Form RowOp
operation columns = chosen op_word op_kinds (λ (o : RowOp). o.kind) (body_form columns) (record { kind = op.Delete; key = []; cells = [] })

-- ---- its laws

under_values : (cs : List Column) (xs : List Cell) → each_keeps literal_of cs xs → values (under cs xs) ≡ xs
under_values [] [] k = refl
under_values [] (x ∷ xs) k = absurd k
under_values (c ∷ cs) [] k = absurd k
under_values (c ∷ cs) (x ∷ xs) k = ap (λ ys. x ∷ ys) (under_values cs xs k.1)

free : (t : Bool) (reason : ℕ) → reason < sound → sound ≤ reason_if t reason → t ≡ false
free true reason low h = absurd (omega arith)
free false reason low h = refl

pub op_plain : (k : OpKind) → Plain (op_word k)
op_plain op.Insert = plain (codes "insert") refl refl
op_plain op.Upsert = plain (codes "upsert") refl refl
op_plain op.Update = plain (codes "update") refl refl
op_plain op.Delete = plain (codes "delete") refl refl
op_plain op.InsertIgnore = plain (codes "insert-ignore") refl refl
op_plain op.UpdateIgnore = plain (codes "update-ignore") refl refl
op_plain op.DeleteIgnore = plain (codes "delete-ignore") refl refl

word_kind : (k : OpKind) → op_kind (op_word k) ≡ Some k
word_kind op.Insert = refl
word_kind op.Upsert = refl
word_kind op.Update = refl
word_kind op.Delete = refl
word_kind op.InsertIgnore = refl
word_kind op.UpdateIgnore = refl
word_kind op.DeleteIgnore = refl

pub others_apart : (columns : List Column) → IsTable columns → Apart (other_columns columns)
others_apart columns table = apart_kept (λ c. not c.key) columns (apart_of columns table.again)

pub others_rising : (columns : List Column) → IsTable columns → Rising (other_columns columns)
others_rising columns table = rising_kept (λ c. not c.key) columns (rising_of 1 columns (numbered 1 columns table.ids))

module _ (columns : List Column) (table : IsTable columns) where
  abbrev key_ones : List Column
  key_ones = key_columns columns

  abbrev other_ones : List Column
  other_ones = other_columns columns

  is_spelled : (cells : List Cell) → each_keeps literal_of key_ones cells → is_key (key_kinds columns) cells ≡ true
  is_spelled cells k = keys_kept key_ones cells (strong_keys columns table.weak) k

  key_law : Lawful (key_form columns)
  key_law =
      let kinds = key_kinds columns in
      mapped_law (spelling kinds) (cells_of_key kinds) _ (ruled_law (λ ws. long columns (each_value literal_of key_ones ws)) (λ cells. length (spelling kinds cells) ≤ 16384) (each literal_of key_ones) (each_law literal_of literal_law key_ones) tie)
      (λ cells k. keys_again kinds cells (spelling kinds cells) (record { key = is_spelled cells k.0; spelled = refl }))
    where
      tie : (ws : List (List ℕ)) (cells : List Cell) → Spells (each literal_of key_ones) ws cells
          → (sound ≤ long columns (each_value literal_of key_ones ws) → length (spelling (key_kinds columns) cells) ≤ 16384) × (length (spelling (key_kinds columns) cells) ≤ 16384 → sound ≤ long columns (each_value literal_of key_ones ws))
      tie ws cells s =
          let n = length (spelling (key_kinds columns) cells) in
          let is : long columns (each_value literal_of key_ones ws) ≡ reason_if (nat_lt 16384 n) 17 = ap (long columns) (reads (each literal_of key_ones) (each_law literal_of literal_law key_ones) ws cells s).1 ∙ ap (λ t. reason_if (t && nat_lt 16384 n) 17) (is_spelled cells s.keeps) in
          elim (limit 16384 n 17) [
            | inl x ↦ ((λ h. absurd (omega (arith, h, is, x.1))), (λ h. absurd (omega (arith, h, x.0))))
            | inr x ↦ ((λ h. x.0), (λ h. omega (arith, is, x.1)))
          ]

  names_law : Lawful (named other_ones)
  names_law = named_law other_ones (others_rising columns table) (others_apart columns table)

  pub rest_law : (f : OpForm) → Lawful (rest_form other_ones f)
  rest_law form.Literals = mapped_law (under other_ones) values (each literal_of other_ones) (each_law literal_of literal_law other_ones) (under_values other_ones)
  rest_law form.RowNames = ruled_law (left_out_no other_ones) (λ cells. list_all (is_given cells) other_ones ≡ true) (named other_ones) names_law tie
    where
      turned : (t g : Bool) → g ≡ not t → (sound ≤ reason_if t 15 → g ≡ true) × (g ≡ true → sound ≤ reason_if t 15)
      turned true g e = ((λ h. absurd (omega arith)), (λ h. absurd (false≢true (sym e ∙ h))))
      turned false g e = ((λ h. e), (λ h. omega arith))

      tie : (ws : List (List ℕ)) (cells : List (ℕ × Cell)) → Spells (named other_ones) ws cells → (sound ≤ left_out_no other_ones ws → list_all (is_given cells) other_ones ≡ true) × (list_all (is_given cells) other_ones ≡ true → sound ≤ left_out_no other_ones ws)
      tie ws cells s =
          let r = reads (named other_ones) names_law ws cells s in
          turned (list_any (must_be_named (map name_in ws)) other_ones) (list_all (is_given cells) other_ones) (ap (λ xs. list_all (is_given xs) other_ones) (sym r.1) ∙ given_named other_ones (others_rising columns table) (others_apart columns table) ws r.0)
  rest_law form.Names = ruled_law (λ ws. reason_if (is_empty ws) 12) (λ cells. not (length cells == 0) ≡ true) (named other_ones) names_law tie
    where
      tie : (ws : List (List ℕ)) (cells : List (ℕ × Cell)) → Spells (named other_ones) ws cells → (sound ≤ reason_if (is_empty ws) 12 → not (length cells == 0) ≡ true) × (not (length cells == 0) ≡ true → sound ≤ reason_if (is_empty ws) 12)
      tie [] cells s =
          let none : [] ≡ cells = (reads (named other_ones) names_law [] cells s).1 in
          ((λ h. absurd (omega arith)), (λ h. absurd (false≢true (ap (λ (xs : List (ℕ × Cell)). not (length xs == 0)) none ∙ h))))
      tie (w ∷ ws) [] s = absurd (some (none_left (w ∷ ws) (λ n. sym (s.words n ∙ ap (of_name n) (no_words true other_ones)))))
        where
          some : w ∷ ws ≡ [] → ⊥
          some q = cc
      tie (w ∷ ws) (x ∷ cells) s = ((λ h. more (length cells)), (λ h. omega arith))
        where
          more : (n : ℕ) → not (suc n == 0) ≡ true
          more n = grind (arith, nat_tests)
  rest_law form.Key = nothing_law []

  pub operation_law : Lawful (operation columns)
  operation_law = chosen_law op_word op_kinds (λ (o : RowOp). o.kind) (body_form columns) (record { kind = op.Delete; key = []; cells = [] })
      (λ k. mapped_law (made k) parts _ (pair_law (key_len columns) (key_form columns) (rest_form other_ones (op_form k)) key_law (rest_law (op_form k)) (λ key kept. each_size literal_of literal_law key_ones _ kept.0.0)) (λ x kept. refl))
      word_kind op_plain (λ k o kept. sym (ap (λ (x : RowOp). x.kind) kept.1)) (λ k ws. refl)

-- ---- what is read of words is what the form reads

key_words_read : (keys : List Column) (ws : List (List ℕ)) → (cells_no keys ws ≡ each_no literal_of keys (take (length keys) ws)) × (cells_of keys ws ≡ each_value literal_of keys (take (length keys) ws))
key_words_read [] ws = (refl, refl)
key_words_read (c ∷ keys) [] = (refl, refl)
key_words_read (c ∷ keys) (w ∷ ws) = let more = key_words_read keys ws in (ap (min (cell_no c w)) more.0, ap (λ xs. cell_value c.kind w ∷ xs) more.1)

values_read : (cs : List Column) (ws : List (List ℕ)) → (rest_no cs form.Literals ws ≡ each_no literal_of cs ws) × (cells_of cs ws ≡ each_value literal_of cs ws)
values_read [] [] = (refl, refl)
values_read [] (w ∷ ws) = (refl, refl)
values_read (c ∷ cs) [] = (refl, refl)
values_read (c ∷ cs) (w ∷ ws) = let more = values_read cs ws in let no = more.0 in (omega (arith, no), ap (λ xs. cell_value c.kind w ∷ xs) more.1)

none_left_is : (ws : List (List ℕ)) → none_left_no ws ≡ nothing_no ws
none_left_is [] = refl
none_left_is (w ∷ ws) = refl

pub rest_read : (others : List Column) (f : OpForm) (ws : List (List ℕ)) → (rest_no others f ws ≡ (rest_form others f).no ws) × (rest_cells others f ws ≡ (rest_form others f).value ws)
rest_read others form.Literals ws = let v = values_read others ws in (v.0, ap (under others) v.1)
rest_read others form.RowNames ws = (refl, refl)
rest_read others form.Names ws = (refl, refl)
rest_read others form.Key ws = (none_left_is ws, refl)

pub op_read : (columns : List Column) (ws : List (List ℕ)) → (op_no columns ws ≡ (operation columns).no ws) × (sound ≤ op_no columns ws → op_of columns ws ≡ (operation columns).value ws)
op_read columns [] = (refl, λ h. refl)
op_read columns (w ∷ ws) = by (op_kind w)
  where
    by : (o : Option OpKind) → (kind_no columns o ws ≡ kind_no_of op_word op_kinds (λ (x : RowOp). x.kind) (body_form columns) (record { kind = op.Delete; key = []; cells = [] }) o ws)
        × (sound ≤ kind_no columns o ws → ◌≡◌ {A = RowOp} (record { kind = kind_or_delete o; key = key_of columns ws; cells = op_cells columns o ws }) (kind_value op_word op_kinds (λ (x : RowOp). x.kind) (body_form columns) (record { kind = op.Delete; key = []; cells = [] }) o ws))
    by None = (refl, λ h. absurd (omega arith))
    by (Some k) =
        let key = key_words_read (key_columns columns) ws in
        let rest = rest_read (other_columns columns) (op_form k) (drop (key_len columns) ws) in
        let no : key_no columns ws ≡ (key_form columns).no (take (key_len columns) ws) = ap (λ n. min n (long columns (cells_of (key_columns columns) ws))) key.0 ∙ ap (λ cells. min (each_no literal_of (key_columns columns) (take (key_len columns) ws)) (long columns cells)) key.1 in
        (ap (min (key_no columns ws)) rest.0 ∙ ap (λ n. min n ((rest_form (other_columns columns) (op_form k)).no (drop (key_len columns) ws))) no, λ h. same_op k _ _ _ _ (ap (spelling (key_kinds columns)) key.1) rest.1)

-- ---- what is printed

each_literals : (cs : List Column) (xs : List Cell) → literals (kinds_of cs) xs ≡ each_words literal_of cs xs
each_literals [] [] = refl
each_literals [] (x ∷ xs) = refl
each_literals (c ∷ cs) [] = refl
each_literals (c ∷ cs) (x ∷ xs) = ap (λ ws. literal c.kind x ∷ ws) (each_literals cs xs)

under_words : (cs : List Column) (xs : List Cell) → cell_words false cs (under cs xs) ≡ each_words literal_of cs xs
under_words [] xs = refl
under_words (c ∷ cs) [] = refl
under_words (c ∷ cs) (x ∷ xs) = ap (λ t. if t then literal c.kind x ∷ cell_words false cs (under cs xs) else cell_words false cs ((c.id, x) ∷ under cs xs)) (same_id c.id) ∙ ap (λ ws. literal c.kind x ∷ ws) (under_words cs xs)

rest_words : (others : List Column) (f : OpForm) (cells : List (ℕ × Cell)) → (rest_form others f).keeps cells → cell_words (form_names f) others cells ≡ (rest_form others f).words cells
rest_words others form.Literals cells k = ap (cell_words false others) (sym k.1) ∙ under_words others (values cells)
rest_words others form.RowNames cells k = refl
rest_words others form.Names cells k = refl
rest_words others form.Key cells k = ap (cell_words true others) k ∙ no_words true others

pub op_printed : (columns : List Column) (o : RowOp) → (operation columns).keeps o → op_words columns o ≡ (operation columns).words o
op_printed columns o k =
    ap (λ ws. op_word o.kind ∷ (ws ++ cell_words (is_named o.kind) (other_columns columns) o.cells)) (each_literals (key_columns columns) (cells_of_key (key_kinds columns) o.key))
    ∙ ap (λ ws. op_word o.kind ∷ ((key_form columns).words o.key ++ ws)) (rest_words (other_columns columns) (op_form o.kind) o.cells k.0.1)

-- ---- what is alike

module _ (columns : List Column) where
  abbrev n : ℕ
  n = key_len columns

  abbrev BodyAlike : OpForm → List (List ℕ) → List (List ℕ) → Type 0
  BodyAlike f ws vs = (take n ws ≡ take n vs) × (rest_form (other_columns columns) f).alike (drop n ws) (drop n vs)

  rejoined : (ws vs : List (List ℕ)) → take n ws ≡ take n vs → drop n ws ≡ drop n vs → ws ≡ vs
  rejoined ws vs e f = sym (take-append-drop n ws) ∙ (ap (λ xs. xs ++ drop n ws) e ∙ (ap (λ xs. take n vs ++ xs) f ∙ take-append-drop n vs))

  body_alike : (f : OpForm) (ws vs : List (List ℕ)) → behind_alike columns f ws vs → BodyAlike f ws vs
  body_alike form.Literals ws vs e = (ap (take n) e, ap (drop n) e)
  body_alike form.RowNames ws vs e = e
  body_alike form.Names ws vs e = e
  body_alike form.Key ws vs e = (ap (take n) e, ap (drop n) e)

  alike_body : (f : OpForm) (ws vs : List (List ℕ)) → BodyAlike f ws vs → behind_alike columns f ws vs
  alike_body form.Literals ws vs e = rejoined ws vs e.0 e.1
  alike_body form.RowNames ws vs e = e
  alike_body form.Names ws vs e = e
  alike_body form.Key ws vs e = rejoined ws vs e.0 e.1

  pub form_alike : (ws vs : List (List ℕ)) → sound ≤ op_no columns ws → op_alike columns ws vs → (operation columns).alike ws vs
  form_alike [] vs h e = absurd (omega arith)
  form_alike (w ∷ ws) [] h e = absurd e
  form_alike (w ∷ ws) (v ∷ vs) h e = (ap (λ x. x ∷ []) e.0, λ k is. body_alike (op_form k) ws vs (subst (λ o. kind_alike columns o ws vs) is e.1))

  pub alike_form : (ws vs : List (List ℕ)) → sound ≤ op_no columns ws → (operation columns).alike ws vs → op_alike columns ws vs
  alike_form [] vs h e = absurd (omega arith)
  alike_form (w ∷ ws) [] h e = absurd (some e.0)
    where
      some : w ∷ [] ≡ [] → ⊥
      some q = cc
  alike_form (w ∷ ws) (v ∷ vs) h e = (first w v e.0, by (op_kind w) h (λ k is. e.1 k is))
    where
      first : (x y : List ℕ) → x ∷ [] ≡ y ∷ [] → x ≡ y
      first x y q = cc

      by : (o : Option OpKind) → sound ≤ kind_no columns o ws → ((k : OpKind) → o ≡ Some k → BodyAlike (op_form k) ws vs) → kind_alike columns o ws vs
      by None g f = absurd (omega arith)
      by (Some k) g f = alike_body (op_form k) ws vs (f k refl)

-- ---- what keeps the rules of a table

inserted : (cs : List Column) (xs : List Cell) → each_keeps literal_of cs xs → (is_part cs (under cs xs) ≡ true) × (length (under cs xs) ≡ length cs)
inserted [] [] k = (refl, refl)
inserted [] (x ∷ xs) k = absurd k
inserted (c ∷ cs) [] k = absurd k
inserted (c ∷ cs) (x ∷ xs) k =
    let more = inserted cs xs k.1 in
    (ap (λ b. if b then fits_column c x && is_part cs (under cs xs) else is_part cs ((c.id, x) ∷ under cs xs)) (same_id c.id) ∙ both _ _ k.0.0 more.0, ap suc more.1)

pub rest_fits : (others : List Column) (f : OpForm) (cells : List (ℕ × Cell)) → Rising others → (rest_form others f).keeps cells → cells_fit others f cells ≡ true
rest_fits others form.Literals cells r k =
    let full = inserted others (values cells) k.0 in
    subst (λ xs. cells_fit others form.Literals xs ≡ true) k.1 (both _ _ full.0 (ap (λ m. m == length others) full.1 ∙ same_id (length others)))
rest_fits others form.RowNames cells r k = both _ _ (ap (is_part others) k.0.is ∙ packed_part k.0.at others r k.0.each) k.1
rest_fits others form.Names cells r k = both _ _ (ap (is_part others) k.0.is ∙ packed_part k.0.at others r k.0.each) k.1
rest_fits others form.Key cells r k = ap (λ (xs : List (ℕ × Cell)). length xs == 0) k

pub op_fits : (columns : List Column) (o : RowOp) → IsTable columns → (operation columns).keeps o → OpFits columns o
op_fits columns o table k = record {
  key_cells = cells_of_key (key_kinds columns) o.key;
  key = record { key = is_spelled columns table _ k.0.0.0.0; spelled = k.0.0.1 };
  short = subst (λ (key : List ℕ). length key ≤ 16384) k.0.0.1 k.0.0.0.1;
  cells = rest_fits (other_columns columns) (op_form o.kind) o.cells (others_rising columns table) k.0.1;
}

-- an insert's cells are those of all columns
part_short : (cs : List Column) (cells : List (ℕ × Cell)) → is_part cs cells ≡ true → length cells ≤ length cs
part_short cs [] p = omega arith
part_short [] (x ∷ cells) p = absurd (false≢true p)
part_short (c ∷ cs) (x ∷ cells) p = by (c.id == x.0) p (part_short cs cells) (part_short cs (x ∷ cells))
  where
    by : (t : Bool) → (if t then fits_column c x.1 && is_part cs cells else is_part cs (x ∷ cells)) ≡ true → (is_part cs cells ≡ true → length cells ≤ length cs) → (is_part cs (x ∷ cells) ≡ true → length (x ∷ cells) ≤ length cs) → length (x ∷ cells) ≤ length (c ∷ cs)
    by true q here later = let size = here (both_true (fits_column c x.1) (is_part cs cells) q).1 in omega (arith, size)
    by false q here later = let size = later q in omega (arith, size)

full_part : (cs : List Column) (cells : List (ℕ × Cell)) → is_part cs cells ≡ true → length cells ≡ length cs → AllByRecursion (λ (x : ℕ × Cell). CellBytes x.1) cells → each_keeps literal_of cs (values cells) × (under cs (values cells) ≡ cells)
full_part [] [] p size bytes = (tt, refl)
full_part [] (x ∷ cells) p size bytes = absurd (false≢true p)
full_part (c ∷ cs) [] p size bytes = absurd (omega (arith, size))
full_part (c ∷ cs) (x ∷ cells) p size bytes = by (c.id == x.0) refl p (λ q. full_part cs cells q (omega (arith, size)) bytes.1)
  where
    by : (t : Bool) → (c.id == x.0) ≡ t → (if t then fits_column c x.1 && is_part cs cells else is_part cs (x ∷ cells)) ≡ true → (is_part cs cells ≡ true → each_keeps literal_of cs (values cells) × (under cs (values cells) ≡ cells))
        → each_keeps literal_of (c ∷ cs) (values (x ∷ cells)) × (under (c ∷ cs) (values (x ∷ cells)) ≡ x ∷ cells)
    by true e q more =
        let two = both_true (fits_column c x.1) (is_part cs cells) q in
        let rest = more two.1 in
        (((two.0, bytes.0), rest.0), ap (λ k. (k, x.1) ∷ under cs (values cells)) (eqb-true c.id x.0 e) ∙ ap (λ ys. x ∷ ys) rest.1)
    by false e q more = let short = part_short cs (x ∷ cells) q in absurd (omega (arith, short, size))

rest_keeps : (others : List Column) (f : OpForm) (cells : List (ℕ × Cell)) → Rising others → AllByRecursion (λ (c : Column). is_name c.name ≡ true) others → cells_fit others f cells ≡ true → AllByRecursion (λ (x : ℕ × Cell). CellBytes x.1) cells → (rest_form others f).keeps cells
rest_keeps others form.Literals cells r names fit bytes = let two = both_true (is_part others cells) (length cells == length others) fit in full_part others cells two.0 (eqb-true (length cells) (length others) two.1) bytes
rest_keeps others form.RowNames cells r names fit bytes = let two = both_true (is_part others cells) (list_all (is_given cells) others) fit in (part_packed others cells r names two.0 bytes, two.1)
rest_keeps others form.Names cells r names fit bytes = let two = both_true (is_part others cells) (not (length cells == 0)) fit in (part_packed others cells r names two.0 bytes, two.1)
rest_keeps others form.Key cells r names fit bytes = none cells fit
  where
    none : (xs : List (ℕ × Cell)) → (length xs == 0) ≡ true → xs ≡ []
    none [] e = refl
    none (x ∷ xs) e = absurd (more (length xs) e)
      where
        more : (m : ℕ) → (suc m == 0) ≡ true → ⊥
        more m q = grind (arith, nat_tests)

pub op_keeps : (columns : List Column) (o : RowOp) → Tabled columns → OpFits columns o → OpBytes columns o → (operation columns).keeps o
op_keeps columns o t fit bytes =
    let kinds = key_kinds columns in
    let cells : cells_of_key kinds o.key ≡ fit.key_cells = keys_again kinds fit.key_cells o.key fit.key in
    let spelled : spelling kinds (cells_of_key kinds o.key) ≡ o.key = ap (spelling kinds) cells ∙ fit.key.spelled in
    let size = ap length spelled in
    let short = fit.short in
    let kept = key_kept (key_columns columns) (cells_of_key kinds o.key) (ap (is_key kinds) cells ∙ fit.key.key) (omega (arith, size, short)) bytes.key_bytes in
    ((((kept, omega (arith, size, short)), spelled), rest_keeps (other_columns columns) (op_form o.kind) o.cells t.others_rising (all_of ColumnFits (λ (c : Column). is_name c.name ≡ true) (other_columns columns) (λ c f. f.name) t.others_fit) fit.cells bytes.bytes), refl)

-- A base set, and the bytes of its parts.
use Rattle.std.proofs.Common.{◌≡◌, ℕ, ◌+◌, ◌<◌, ◌≤◌, ◌-◌, List, [], ◌∷◌, ◌++◌, length, get_or, take, drop, Result, Ok, Err, refl, sym, ap, subst, ◌∙◌, append_assoc, arith}
use Rattle.std.specs.Prelude.{IfOk, MatchResult}
use Rattle.std.proofs.lemmas.List.{append-nil, take_more, drop_all, length-map, length-drop}
use Rattle.kt_base.specs.declared.cell.Cell.TheVariants as cells
use Rattle.kt_column.specs.declared.form.Form.TheVariants.{Keys}
use Rattle.kt_column.specs.Columns.{ColumnValue}
use Rattle.kt_lookup.specs.Tables.{Tables}
use Rattle.kt_lookup.specs.Tail as tail
use Rattle.kt_lookup.specs.Tail.{used_of}
use Rattle.kt_lookup.specs.Filter.{filter_of}
use Rattle.kt_lookup.specs.Index.{index_of}
use Rattle.kt_lookup.specs.declared.tails.Differs.{Differs}
use Rattle.kt_bytes.specs.declared.fault.Stop.{Stop}
use Rattle.kt_bytes.specs.declared.fault.Stop.TheVariants as stops
use Rattle.kt_baseset.specs.declared.schema.ColumnShape.{ColumnShape}
use Rattle.kt_baseset.specs.declared.rows.KeyedRow.{KeyedRow}
use Rattle.kt_baseset.specs.declared.held.HeldColumn.{HeldColumn}
use Rattle.kt_baseset.specs.Rows.{AreKeys, AreShapes, AllFit, keys_in}
use Rattle.kt_baseset.specs.Tables.{BaseValue, columns_of, shapes_of, rows_of, key_cells, keys_of, AreColumns, AreTexts, IsLookup, IsHeld}
use Rattle.kt_baseset.specs.Spelling.{SpellsEach, SpellsKeys, SpellsTable, SpellsBase, AddsOne, AddsEach, AddsColumns, lookup_bytes}
use Rattle.kt_baseset.specs.Reading.{IsKeysFault, IsColumnsFault, IsLookupFault, in_field, behind, IsFault, of_keys, of_columns, of_lookup, ReadsKeys, ReadsColumns, Stops}
use Rattle.kt_baseset.proofs.Transposed.{same_rows, same_shapes, same_keys, same_columns, base_of, columns_fit}
use Rattle.kt_baseset.proofs.Spelled.{same_texts}
use Rattle.kt_baseset.proofs.Each.{spells_push}

-- ---- made of rows

abbrev key_column : List (List ℕ) → ColumnValue
key_column keys = record { form = Keys; cells = key_cells keys }

pub keys_again : (keys : List (List ℕ)) (held : ColumnValue) → held ≡ key_column keys → keys_of held.cells ≡ keys
keys_again keys held is = ap (λ (h : ColumnValue). keys_of h.cells) is ∙ same_texts keys

pub texts_of : (keys : List (List ℕ)) (held : ColumnValue) → held ≡ key_column keys → AreTexts held
texts_of keys held is =
    let made : AreTexts (key_column keys) = record { form = refl; texts = ap key_cells (sym (same_texts keys)) } in
    subst AreTexts (sym is) made

pub held_of : (schema : List ColumnShape) (rows : List KeyedRow) (held : ColumnValue) (columns : List HeldColumn) (lookup : Tables) (list : List (List ℕ)) → held ≡ key_column (keys_in rows) → columns ≡ columns_of schema rows → list ≡ keys_of held.cells → IsLookup list lookup
    → AreKeys (keys_in rows) → AreShapes schema → AllFit schema rows → IsHeld held columns lookup
held_of schema rows held columns lookup list is made same own are shapes fit =
    let keys = keys_again (keys_in rows) held is in
    let n : length rows ≡ length (keys_of held.cells) = sym (ap length keys ∙ length-map rows (λ (r : KeyedRow). r.key)) in
    record {
      texts = texts_of (keys_in rows) held is;
      keys = subst AreKeys (sym keys) are;
      each = subst (λ (cs : List HeldColumn). AreColumns (length (keys_of held.cells)) cs) (sym made) (subst (λ (k : ℕ). AreColumns k (columns_of schema rows)) n (columns_fit schema rows shapes fit));
      own = subst (λ (ks : List (List ℕ)). IsLookup ks lookup) same own;
    }

pub value_of : (schema : List ColumnShape) (rows : List KeyedRow) (keys : List (List ℕ)) (columns : List HeldColumn) → keys ≡ keys_in rows → columns ≡ columns_of schema rows → AllFit schema rows → (shapes_of columns ≡ schema) × (rows_of keys columns ≡ rows)
value_of schema rows keys columns is made fit =
    (ap shapes_of made ∙ same_shapes schema 0 rows, ap (λ (ks : List (List ℕ)). rows_of ks columns) is ∙ ap (rows_of (keys_in rows)) made ∙ same_rows schema rows fit)

abbrev pub valued : List ColumnShape → List KeyedRow → BaseValue
valued schema rows = record { schema = schema; rows = rows }

pub value_is : (schema : List ColumnShape) (rows : List KeyedRow) (held : ColumnValue) (columns : List HeldColumn) → held ≡ key_column (keys_in rows) → columns ≡ columns_of schema rows → AllFit schema rows → valued (shapes_of columns) (rows_of (keys_of held.cells) columns) ≡ valued schema rows
value_is schema rows held columns is made fit =
    let v = value_of schema rows (keys_of held.cells) columns (keys_again (keys_in rows) held is) made fit in
    ap (λ (s : List ColumnShape). valued s (rows_of (keys_of held.cells) columns)) v.0 ∙ ap (valued schema) v.1

-- ---- spelled

pub adds_more : (cs : List HeldColumn) (i : ℕ) (c : HeldColumn) (old mid new : List ℕ) → i < length cs → c ≡ get_or cs i c → AddsEach old (take i cs) mid → AddsOne mid c new → AddsEach old (take (i + 1) cs) new
adds_more cs i c old mid new lt is so_far one =
    let last : take i cs ++ c ∷ [] ≡ take (i + 1) cs = ap (λ (x : HeldColumn). take i cs ++ x ∷ []) is ∙ sym (take_more cs i c lt) in
    let bytes : List ℕ = so_far.0 ++ one.0 in
    (bytes, subst (λ (xs : List HeldColumn). SpellsEach xs bytes) last (spells_push (take i cs) c so_far.0 one.0 so_far.1 one.1), one.2 ∙ ap (λ (x : List ℕ). x ++ one.0) so_far.2 ∙ append_assoc old so_far.0 one.0)

-- the bytes of what a base set holds
pub table_spelled : (held : ColumnValue) (columns : List HeldColumn) (lookup : Tables) (front mid new : List ℕ) → IsHeld held columns lookup → SpellsKeys (keys_of held.cells) front → AddsColumns front columns mid → new ≡ mid ++ tail.spelling lookup.filter lookup.index
    → SpellsTable (keys_of held.cells) columns new
table_spelled held columns lookup front mid new is keys added last =
    let own : tail.spelling lookup.filter lookup.index ≡ lookup_bytes (keys_of held.cells) = rw (is.own.filter, is.own.index) refl in
    record {
      front = front;
      middle = added.0;
      of_keys = keys;
      of_columns = added.1;
      parts = last ∙ ap (λ (x : List ℕ). mid ++ x) own ∙ ap (λ (x : List ℕ). x ++ lookup_bytes (keys_of held.cells)) added.2 ∙ append_assoc front added.0 (lookup_bytes (keys_of held.cells));
    }

pub base_spelled : (keys : List (List ℕ)) (columns : List HeldColumn) (bytes : List ℕ) → AreKeys keys → AreColumns (length keys) columns → SpellsTable keys columns bytes → SpellsBase (shapes_of columns) (rows_of keys columns) bytes
base_spelled keys columns bytes are each spelled =
    record {
      fits = base_of keys columns are each;
      spelled = rw (same_keys keys columns, same_columns keys columns each.each) spelled;
    }

-- ---- read

abbrev Told : Type 0
Told = Result ℕ Differs

abbrev lookup_len : List (List ℕ) → ℕ
lookup_len keys = length (lookup_bytes keys)

-- what a check of the filter and the index says
pub record Checks (keys : List (List ℕ)) (bytes : List ℕ) (r : Told) : Type 0 where
  pub found : IfOk r (λ used. bytes ≡ lookup_bytes keys ++ drop used bytes)
  pub only : (rest : List ℕ) → bytes ≡ lookup_bytes keys ++ rest → r ≡ Ok (lookup_len keys)
  pub exact : MatchResult r (λ used. used_of (filter_of keys) (index_of keys) bytes ≡ Ok used) (λ e. used_of (filter_of keys) (index_of keys) bytes ≡ Err e.offset)

whole_is : (keys : List (List ℕ)) (bytes : List ℕ) → bytes ≡ lookup_bytes keys → bytes ≡ lookup_bytes keys ++ []
whole_is keys bytes e = e ∙ sym (append-nil (lookup_bytes keys))

told_same : (r : Told) (a b : ℕ) → r ≡ Ok a → r ≡ Ok b → a ≡ b
told_same r a b p q = cc

pub not_shorter : (keys : List (List ℕ)) (bytes : List ℕ) (r : Told) (used : ℕ) → Checks keys bytes r → r ≡ Ok used → used < length bytes → bytes ≡ lookup_bytes keys → ⊥
not_shorter keys bytes r used checks is lt e =
    let len : used ≡ lookup_len keys = told_same r used (lookup_len keys) is (checks.only [] (whole_is keys bytes e)) in
    omega (arith, lt, len, ap length e)

found_at : (keys : List (List ℕ)) (bytes : List ℕ) (r : Told) (used : ℕ) → r ≡ Ok used → IfOk r (λ used. bytes ≡ lookup_bytes keys ++ drop used bytes) → bytes ≡ lookup_bytes keys ++ drop used bytes
found_at keys bytes (Ok n) used is h = let e : n ≡ used = cc in subst (λ (k : ℕ). bytes ≡ lookup_bytes keys ++ drop k bytes) e h
found_at keys bytes (Err e) used is h = absurd cc

pub longer_stop : (keys : List (List ℕ)) (bytes : List ℕ) (r : Told) (used : ℕ) → Checks keys bytes r → r ≡ Ok used → used < length bytes → IsLookupFault keys bytes (length bytes - used)
longer_stop keys bytes r used checks is lt =
    behind (drop used bytes) (found_at keys bytes r used is checks.found) (omega (arith, length-drop used bytes, lt)) (omega (arith, length-drop used bytes))

pub all_of_it : (keys : List (List ℕ)) (bytes : List ℕ) (r : Told) (used : ℕ) → Checks keys bytes r → r ≡ Ok used → length bytes ≤ used → bytes ≡ lookup_bytes keys
all_of_it keys bytes r used checks is le =
    found_at keys bytes r used is checks.found ∙ ap (λ (x : List ℕ). lookup_bytes keys ++ x) (drop_all used bytes le) ∙ append-nil (lookup_bytes keys)

never_differs : (r : Told) (e : Differs) (n : ℕ) → r ≡ Err e → r ≡ Ok n → ⊥
never_differs r e n p q = cc

pub not_differs : (keys : List (List ℕ)) (bytes : List ℕ) (r : Told) (e : Differs) → Checks keys bytes r → r ≡ Err e → bytes ≡ lookup_bytes keys → ⊥
not_differs keys bytes r e checks is same = never_differs r e (lookup_len keys) is (checks.only [] (whole_is keys bytes same))

exact_at : (keys : List (List ℕ)) (bytes : List ℕ) (r : Told) (e : Differs) → r ≡ Err e → MatchResult r (λ used. used_of (filter_of keys) (index_of keys) bytes ≡ Ok used) (λ e. used_of (filter_of keys) (index_of keys) bytes ≡ Err e.offset) → used_of (filter_of keys) (index_of keys) bytes ≡ Err e.offset
exact_at keys bytes (Ok n) e is h = absurd cc
exact_at keys bytes (Err d) e is h = let same : d ≡ e = cc in subst (λ (x : Differs). used_of (filter_of keys) (index_of keys) bytes ≡ Err x.offset) same h

pub differs_stop : (keys : List (List ℕ)) (bytes : List ℕ) (r : Told) (e : Differs) → Checks keys bytes r → r ≡ Err e → IsLookupFault keys bytes (length bytes - e.offset)
differs_stop keys bytes r e checks is = in_field e.offset (exact_at keys bytes r e is checks.exact) refl

-- what the lookup's own tables say of it
abbrev pub ChecksOf : List ℕ → List (List ℕ) → List ℕ → Told → Type 0
ChecksOf filter index bytes r = IfOk r (λ used. bytes ≡ tail.spelling filter index ++ drop used bytes) × ((rest : List ℕ) → bytes ≡ tail.spelling filter index ++ rest → r ≡ Ok (length (tail.spelling filter index))) × MatchResult r (λ used. used_of filter index bytes ≡ Ok used) (λ e. used_of filter index bytes ≡ Err e.offset)

pub checks_of : (keys : List (List ℕ)) (lookup : Tables) (bytes : List ℕ) (r : Told) → IsLookup keys lookup → ChecksOf lookup.filter lookup.index bytes r → Checks keys bytes r
checks_of keys lookup bytes r own said =
    let a = subst (λ (f : List ℕ). ChecksOf f lookup.index bytes r) own.filter said in
    let b = subst (λ (x : List (List ℕ)). ChecksOf (filter_of keys) x bytes r) own.index a in
    record { found = b.0; only = b.1; exact = b.2 }

-- ---- a base file's parts are read one after another

pub keys_read : (schema : List ColumnShape) (rows : List KeyedRow) (bytes : List ℕ) (s : SpellsBase schema rows bytes) → ReadsKeys bytes (keys_in rows) (s.spelled.middle ++ lookup_bytes (keys_in rows))
keys_read schema rows bytes s = record { are = s.fits.keys; front = s.spelled.front; spelled = s.spelled.of_keys; parts = s.spelled.parts }

pub columns_read : (schema : List ColumnShape) (rows : List KeyedRow) (bytes : List ℕ) (s : SpellsBase schema rows bytes) → ReadsColumns (length (keys_in rows)) (s.spelled.middle ++ lookup_bytes (keys_in rows)) (columns_of schema rows) (lookup_bytes (keys_in rows))
columns_read schema rows bytes s =
    let n : length rows ≡ length (keys_in rows) = sym (length-map rows (λ (r : KeyedRow). r.key)) in
    record { are = subst (λ (k : ℕ). AreColumns k (columns_of schema rows)) n (columns_fit schema rows s.fits.columns s.fits.cells); front = s.spelled.middle; spelled = s.spelled.of_columns; parts = refl }

pub keys_stop : (e : Stop) (bytes : List ℕ) → Stops (IsKeysFault bytes) e → Stops (IsFault bytes) e
keys_stop stops.Memory bytes why = tt
keys_stop (stops.Left left) bytes why = of_keys why

pub columns_stopped : (e : Stop) (bytes : List ℕ) (keys : List (List ℕ)) (n : ℕ) (rest : List ℕ) → ReadsKeys bytes keys rest → n ≡ length keys → Stops (IsColumnsFault n rest) e → Stops (IsFault bytes) e
columns_stopped stops.Memory bytes keys n rest read is why = tt
columns_stopped (stops.Left left) bytes keys n rest read is why = of_columns keys rest read (subst (λ (k : ℕ). IsColumnsFault k rest left) is why)

pub lookup_stopped : (e : Stop) (bytes : List ℕ) (keys : List (List ℕ)) (n : ℕ) (rest : List ℕ) (columns : List HeldColumn) (last : List ℕ) → ReadsKeys bytes keys rest → n ≡ length keys → ReadsColumns n rest columns last → Stops (IsLookupFault keys last) e → Stops (IsFault bytes) e
lookup_stopped stops.Memory bytes keys n rest columns last read is columns_are why = tt
lookup_stopped (stops.Left left) bytes keys n rest columns last read is columns_are why = of_lookup keys rest columns last read (subst (λ (k : ℕ). ReadsColumns k rest columns last) is columns_are) why

-- what the reading of the keys and of the columns says of each spelling
abbrev pub OnlyKeys : List ℕ → List (List ℕ) → List ℕ → Type 0
OnlyKeys bytes list rest = (keys : List (List ℕ)) (behind : List ℕ) → ReadsKeys bytes keys behind → (list ≡ keys) × (rest ≡ behind)

abbrev pub OnlyColumns : ℕ → List ℕ → List HeldColumn → List ℕ → Type 0
OnlyColumns n rest columns last = (cs : List HeldColumn) (behind : List ℕ) → ReadsColumns n rest cs behind → (columns ≡ cs) × (last ≡ behind)

pub columns_by : (schema : List ColumnShape) (rows : List KeyedRow) (bytes : List ℕ) (list : List (List ℕ)) (rest : List ℕ) (n : ℕ) → OnlyKeys bytes list rest → n ≡ length list → SpellsBase schema rows bytes → ReadsColumns n rest (columns_of schema rows) (lookup_bytes (keys_in rows))
columns_by schema rows bytes list rest n only is s =
    let same = only (keys_in rows) (s.spelled.middle ++ lookup_bytes (keys_in rows)) (keys_read schema rows bytes s) in
    let count : n ≡ length (keys_in rows) = is ∙ ap length same.0 in
    let C = columns_of schema rows in
    let L = lookup_bytes (keys_in rows) in
    subst (λ (k : ℕ). ReadsColumns k rest C L) (sym count) (subst (λ (x : List ℕ). ReadsColumns (length (keys_in rows)) x C L) (sym same.1) (columns_read schema rows bytes s))

pub last_by : (schema : List ColumnShape) (rows : List KeyedRow) (bytes : List ℕ) (list : List (List ℕ)) (rest : List ℕ) (n : ℕ) (columns : List HeldColumn) (last : List ℕ) → OnlyKeys bytes list rest → n ≡ length list → OnlyColumns n rest columns last → SpellsBase schema rows bytes → (columns ≡ columns_of schema rows) × (last ≡ lookup_bytes list)
last_by schema rows bytes list rest n columns last only is only_columns s =
    let same = only (keys_in rows) (s.spelled.middle ++ lookup_bytes (keys_in rows)) (keys_read schema rows bytes s) in
    let next = only_columns (columns_of schema rows) (lookup_bytes (keys_in rows)) (columns_by schema rows bytes list rest n only is s) in
    (next.0, next.1 ∙ ap lookup_bytes (sym same.0))

-- ---- the base set that was read

pub held_read : (bytes : List ℕ) (held : ColumnValue) (list : List (List ℕ)) (rest : List ℕ) (n : ℕ) (columns : List HeldColumn) (last : List ℕ) (lookup : Tables) → held ≡ key_column list → ReadsKeys bytes list rest → n ≡ length list → ReadsColumns n rest columns last → IsLookup list lookup → IsHeld held columns lookup
held_read bytes held list rest n columns last lookup is read count read_columns own =
    let keys = keys_again list held is in
    record {
      texts = texts_of list held is;
      keys = subst AreKeys (sym keys) read.are;
      each = subst (λ (k : ℕ). AreColumns k columns) (count ∙ ap length (sym keys)) read_columns.are;
      own = subst (λ (ks : List (List ℕ)). IsLookup ks lookup) (sym keys) own;
    }

pub base_read : (bytes : List ℕ) (held : ColumnValue) (list : List (List ℕ)) (rest : List ℕ) (n : ℕ) (columns : List HeldColumn) (last : List ℕ) → held ≡ key_column list → ReadsKeys bytes list rest → n ≡ length list → ReadsColumns n rest columns last → last ≡ lookup_bytes list
    → SpellsBase (shapes_of columns) (rows_of (keys_of held.cells) columns) bytes
base_read bytes held list rest n columns last is read count read_columns whole =
    let table : SpellsTable list columns bytes = record {
      front = read.front;
      middle = read_columns.front;
      of_keys = read.spelled;
      of_columns = read_columns.spelled;
      parts = read.parts ∙ ap (λ (x : List ℕ). read.front ++ x) (read_columns.parts ∙ ap (λ (x : List ℕ). read_columns.front ++ x) whole);
    } in
    let each = subst (λ (k : ℕ). AreColumns k columns) count read_columns.are in
    subst (λ (ks : List (List ℕ)). SpellsBase (shapes_of columns) (rows_of ks columns) bytes) (sym (keys_again list held is)) (base_spelled list columns bytes read.are each table)

pub base_only : (schema : List ColumnShape) (rows : List KeyedRow) (bytes : List ℕ) (held : ColumnValue) (list : List (List ℕ)) (rest : List ℕ) (n : ℕ) (columns : List HeldColumn) (last : List ℕ) → held ≡ key_column list → OnlyKeys bytes list rest → n ≡ length list → OnlyColumns n rest columns last → SpellsBase schema rows bytes
    → valued (shapes_of columns) (rows_of (keys_of held.cells) columns) ≡ valued schema rows
base_only schema rows bytes held list rest n columns last is only count only_columns s =
    let same = only (keys_in rows) (s.spelled.middle ++ lookup_bytes (keys_in rows)) (keys_read schema rows bytes s) in
    let next = last_by schema rows bytes list rest n columns last only count only_columns s in
    value_is schema rows held columns (is ∙ ap key_column same.0) next.0 s.fits.cells

pub valued_by : (v : BaseValue) (a b : List ColumnShape) (x y : List KeyedRow) → v.schema ≡ a → v.rows ≡ x → valued a x ≡ valued b y → v ≡ valued b y
valued_by v a b x y p q e = ap (λ (s : List ColumnShape). valued s v.rows) p ∙ ap (valued a) q ∙ e

pub spells_by : (v : BaseValue) (a : List ColumnShape) (x : List KeyedRow) (bytes : List ℕ) → v.schema ≡ a → v.rows ≡ x → SpellsBase a x bytes → SpellsBase v.schema v.rows bytes
spells_by v a x bytes p q s = rw (p, q) s

pub if_ok : {X E : Type 0} (P Q : X → Type 0) (r : Result X E) → ((x : X) → P x → Q x) → IfOk r P → IfOk r Q
if_ok P Q (Ok x) f h = f x h
if_ok P Q (Err e) f h = tt

pub count_by : (held : ColumnValue) (list : List (List ℕ)) (n : ℕ) → held ≡ key_column list → n ≡ length held.cells → n ≡ length list
count_by held list n is count = count ∙ ap (λ (h : ColumnValue). length h.cells) is ∙ length-map list cells.Bytes

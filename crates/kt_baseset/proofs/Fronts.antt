-- The letters, the number of rows and the keys, read and spelled.
use Rattle.std.proofs.Common.{◌≡◌, ◌+◌, ◌<◌, ℕ, List, [], ◌++◌, length, get_or, take, drop, Result, Ok, Err, refl, sym, ap, subst, ◌∙◌, append_assoc, arith}
use Rattle.std.specs.Int.{w32, to_le_bytes}
use Rattle.std.proofs.lemmas.List.{take-append-drop, length-map, drop_at}
use Rattle.kt_base.specs.declared.cell.Cell.{Cell}
use Rattle.kt_bytes.specs.declared.fault.Stop.{Stop}
use Rattle.kt_bytes.specs.declared.fault.Stop.TheVariants as stops
use Rattle.kt_bytes.specs.Reading.{Fails}
use Rattle.kt_bytes.proofs.Numbers.{IsBytes, ok_is}
use Rattle.kt_column.specs.declared.form.Form.TheVariants.{Keys}
use Rattle.kt_column.specs.Columns.{ColumnValue, SpellsColumn, IsColumnFound}
use Rattle.kt_column.specs.Blocks.{texts_in}
use Rattle.kt_column.specs.Keys.{AreRising}
use Rattle.kt_column.proofs.KeyFalls.{rising_next, rising_of, texts_again}
use Rattle.kt_lookup.specs.Index.{IsBelow, Rises}
use Rattle.kt_baseset.specs.Tables.{bytes_of, keys_of, key_cells}
use Rattle.kt_baseset.specs.Spelling.{ktb1}
use Rattle.kt_baseset.specs.Reading.{rows_at, AreRefusedAt, IsKeysFault, in_keys, ReadsKeys, Stops}
use Rattle.kt_baseset.proofs.Shapes.{rows_take, rows_again}
use Rattle.kt_baseset.proofs.Spelled.{column_holds, same_texts, are_texts, are_short, rises_from_next}

-- what the keys' front is read as
pub rows_read : (bytes : List ℕ) (keys : List (List ℕ)) (rest : List ℕ) (r : ReadsKeys bytes keys rest) → rows_at bytes ≡ Ok (length keys, r.spelled.blocks ++ rest)
rows_read bytes keys rest r =
    let blocks = r.spelled.blocks in
    let word : List ℕ = to_le_bytes w32 ktb1 in
    let count : List ℕ = to_le_bytes w32 (length keys) in
    let e : bytes ≡ word ++ (count ++ (blocks ++ rest)) = r.parts ∙ ap (λ (x : List ℕ). x ++ rest) r.spelled.parts ∙ append_assoc word (count ++ blocks) rest ∙ ap (λ (x : List ℕ). word ++ x) (append_assoc count blocks rest) in
    ap rows_at e ∙ rows_again (length keys) (blocks ++ rest) r.are.some r.are.few

abbrev pub Read : Type 0
Read = Result (ℕ × List ℕ) ℕ

not_both : (r : Read) (x : ℕ × List ℕ) (left : ℕ) → r ≡ Ok x → r ≡ Err left → ⊥
not_both r x left p q = absurd cc

pub no_rows : (e : Stop) (bytes : List ℕ) → Fails e (rows_at bytes) → (keys : List (List ℕ)) (rest : List ℕ) → ReadsKeys bytes keys rest → e ≡ stops.Memory
no_rows stops.Memory bytes failed keys rest r = refl
no_rows (stops.Left left) bytes failed keys rest r = absurd (not_both (rows_at bytes) (length keys, r.spelled.blocks ++ rest) left (rows_read bytes keys rest r) failed)

pub no_keys : (e : Stop) (bytes : List ℕ) (n : ℕ) (behind : List ℕ) → rows_at bytes ≡ Ok (n, behind) → Stops (AreRefusedAt n behind) e → Stops (IsKeysFault bytes) e
no_keys stops.Memory bytes n behind read why = tt
no_keys (stops.Left left) bytes n behind read why = in_keys n behind read why

-- two readings agree
pub same_read : (r : Read) (n m : ℕ) (a b : List ℕ) → r ≡ Ok (n, a) → r ≡ Ok (m, b) → (n ≡ m) × (a ≡ b)
same_read r n m a b p q =
    let e : (let x : ℕ × List ℕ = (n, a) in x) ≡ (m, b) = ok_is (n, a) (m, b) (sym p ∙ q) in
    (ap (λ (x : ℕ × List ℕ). x.0) e, ap (λ (x : ℕ × List ℕ). x.1) e)

-- keys rise one by one
rises_of : (cs : List Cell) → cs ≡ key_cells (keys_of cs) → AreRising cs → Rises (keys_of cs)
rises_of cs texts rise =
    let same : texts_in cs ≡ keys_of cs = ap texts_in texts ∙ texts_again (keys_of cs) in
    rises_from_next (keys_of cs) (λ k lt. subst (λ (ts : List (List ℕ)). IsBelow (get_or ts k []) (get_or ts (k + 1) [])) same (rising_next cs rise k (subst (λ (ts : List (List ℕ)). k + 1 < length ts) (sym same) lt)))

pub rising_keys : (keys : List (List ℕ)) → Rises keys → AreRising (key_cells keys)
rising_keys keys rise = rising_of keys (λ k lt. rise k (k + 1) (omega arith) lt)

-- the keys of a column that was found
pub front_found : (bytes : List ℕ) (n : ℕ) (behind : List ℕ) (cs : List Cell) (used : ℕ) → IsBytes bytes → rows_at bytes ≡ Ok (n, behind) → IsColumnFound Keys n behind cs used → AreRising cs → ReadsKeys bytes (keys_of cs) (drop used behind)
front_found bytes n behind cs used fits read found rise =
    let t = rows_take bytes n behind fits read in
    let each = column_holds Keys cs (take used behind) found.spelled in
    let count : length (keys_of cs) ≡ n = length-map cs bytes_of ∙ found.counted in
    let blocks : List ℕ = take used behind in
    let word : List ℕ = to_le_bytes w32 ktb1 in
    let number : List ℕ = to_le_bytes w32 (length (keys_of cs)) in
    let regrouped : word ++ (number ++ behind) ≡ (word ++ (number ++ blocks)) ++ drop used behind =
    ap (λ (x : List ℕ). word ++ (number ++ x)) (sym (take-append-drop used behind)) ∙ ap (λ (x : List ℕ). word ++ x) (sym (append_assoc number blocks (drop used behind))) ∙ sym (append_assoc word (number ++ blocks) (drop used behind)) in
    record {
      are = record { some = omega (arith, count, t.some); few = omega (arith, count, t.few); rise = rises_of cs (are_texts cs each) rise; short = are_short cs each };
      front = word ++ (number ++ blocks);
      spelled = record { blocks = blocks; spelled = subst (λ (xs : List Cell). SpellsColumn Keys xs blocks) (are_texts cs each) found.spelled; parts = refl };
      parts = t.parts ∙ ap (λ (m : ℕ). word ++ (to_le_bytes w32 m ++ behind)) (sym count) ∙ regrouped;
    }

pub front_column : (column : ColumnValue) (n : ℕ) (behind : List ℕ) (used : ℕ) → column.form ≡ Keys → IsColumnFound Keys n behind column.cells used → column ≡ record { form = Keys; cells = key_cells (keys_of column.cells) }
front_column column n behind used form found =
    let texts = are_texts column.cells (column_holds Keys column.cells (take used behind) found.spelled) in
    let made : ColumnValue = record { form = column.form; cells = column.cells } in
    let P : ColumnValue → Type 0 = λ x. column ≡ x in
    let same : made ≡ record { form = Keys; cells = key_cells (keys_of column.cells) } = ap (λ (f : _). record { form = f; cells = column.cells }) form ∙ ap (λ (cs : List Cell). record { form = Keys; cells = cs }) texts in
    same

-- what the column's decoder says of each spelling
abbrev pub OnlyColumn : ℕ → List ℕ → ColumnValue → ℕ → Type 0
OnlyColumn n behind column used = (cs : List Cell) (front rest : List ℕ) → SpellsColumn Keys cs front → length cs ≡ n → AreRising cs → behind ≡ front ++ rest → (column ≡ record { form = Keys; cells = cs }) × (used ≡ length front)

pub front_only : (bytes : List ℕ) (n : ℕ) (behind : List ℕ) (column : ColumnValue) (used : ℕ) → rows_at bytes ≡ Ok (n, behind) → OnlyColumn n behind column used
    → (keys : List (List ℕ)) (rest : List ℕ) → ReadsKeys bytes keys rest → (keys_of column.cells ≡ keys) × (drop used behind ≡ rest)
front_only bytes n behind column used read only keys rest r =
    let e = same_read (rows_at bytes) n (length keys) behind (r.spelled.blocks ++ rest) read (rows_read bytes keys rest r) in
    let count : length (key_cells keys) ≡ n = length-map keys _ ∙ sym e.0 in
    let is = only (key_cells keys) r.spelled.blocks rest r.spelled.spelled count (rising_keys keys r.are.rise) e.1 in
    (ap (λ (x : ColumnValue). keys_of x.cells) is.0 ∙ same_texts keys, ap (λ (k : ℕ). drop k behind) is.1 ∙ ap (λ (x : List ℕ). drop (length r.spelled.blocks) x) e.1 ∙ drop_at r.spelled.blocks rest (length r.spelled.blocks) refl)

pub no_front : (e : Stop) (bytes : List ℕ) (n : ℕ) (behind : List ℕ) → rows_at bytes ≡ Ok (n, behind) → ((cs : List Cell) (front rest : List ℕ) → SpellsColumn Keys cs front → length cs ≡ n → AreRising cs → behind ≡ front ++ rest → e ≡ stops.Memory)
    → (keys : List (List ℕ)) (rest : List ℕ) → ReadsKeys bytes keys rest → e ≡ stops.Memory
no_front e bytes n behind read only keys rest r =
    let s = same_read (rows_at bytes) n (length keys) behind (r.spelled.blocks ++ rest) read (rows_read bytes keys rest r) in
    only (key_cells keys) r.spelled.blocks rest r.spelled.spelled (length-map keys _ ∙ sym s.0) (rising_keys keys r.are.rise) s.1

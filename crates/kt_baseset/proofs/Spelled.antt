-- What the cells of a spelled column keep to, and keys as cells.
use Rattle.std.proofs.Common.{◌≡◌, ℕ, zero, suc, ◌+◌, ◌-◌, ◌*◌, ◌<◌, ◌≤◌, List, [], ◌∷◌, ◌++◌, length, get_or, take, drop, refl, sym, ap, ◌∙◌, arith}
use Rattle.std.specs.List.{All}
use Rattle.std.proofs.lemmas.List.{take-append-drop, length-drop}
use Rattle.std.proofs.lemmas.List.Elements.{All-head, All-tail, All-append, All-same, All-map, All-weaker}
use Rattle.kt_base.specs.declared.cell.Cell.{Cell}
use Rattle.kt_base.specs.declared.cell.Cell.TheVariants as cells
use Rattle.kt_column.specs.declared.form.Form.{Form}
use Rattle.kt_column.specs.declared.form.Form.TheVariants.{Keys}
use Rattle.kt_column.specs.Blocks.{IsCell, texts_in}
use Rattle.kt_column.specs.Columns.{block_count, SpellsBlocks, SpellsColumn}
use Rattle.kt_lookup.specs.Index.{IsBelow, Rises}
use Rattle.kt_lookup.proofs.Search.{below_trans}
use Rattle.kt_baseset.specs.Tables.{bytes_of, keys_of, key_cells}

-- ---- cells

blocks_hold : (form : Form) (k : ℕ) (cs : List Cell) (bytes : List ℕ) → length cs ≤ 8192 * k → SpellsBlocks form k cs bytes → All (IsCell form) cs
blocks_hold form zero cs bytes le spelled = λ i d lt. absurd (omega arith)
blocks_hold form (suc k) cs bytes le spelled =
    let rest : length (drop 8192 cs) ≤ 8192 * k = omega (arith, length-drop 8192 cs) in
    All-same (IsCell form) cs (take 8192 cs ++ drop 8192 cs) (sym (take-append-drop 8192 cs)) (All-append (IsCell form) (take 8192 cs) (drop 8192 cs) spelled.3.cells.each (blocks_hold form k (drop 8192 cs) spelled.1 rest spelled.4))

-- each cell of a column that is spelled is one that it may hold
pub column_holds : (form : Form) (cs : List Cell) (bytes : List ℕ) → SpellsColumn form cs bytes → All (IsCell form) cs
column_holds form cs bytes spelled = blocks_hold form (block_count (length cs)) cs bytes (omega arith) spelled

-- ---- keys

abbrev IsShort : List ℕ → Type 0
IsShort key = length key ≤ 16384

pub same_texts : (keys : List (List ℕ)) → keys_of (key_cells keys) ≡ keys
same_texts [] = refl
same_texts (key ∷ keys) = ap (λ (ks : List (List ℕ)). key ∷ ks) (same_texts keys)

-- keys are all the byte lists among their cells
texts_again : (keys : List (List ℕ)) → texts_in (key_cells keys) ≡ keys
texts_again [] = refl
texts_again (key ∷ keys) = ap (λ (ks : List (List ℕ)). key ∷ ks) (texts_again keys)

pub texts_are : (cs : List Cell) → cs ≡ key_cells (keys_of cs) → texts_in cs ≡ keys_of cs
texts_are cs texts = ap texts_in texts ∙ texts_again (keys_of cs)

-- a cell that a column of keys may hold is a byte list
is_text : (c : Cell) → IsCell Keys c → (c ≡ cells.Bytes (bytes_of c)) × IsShort (bytes_of c)
is_text cells.Null is = absurd cc
is_text (cells.Int z) is = absurd is.1
is_text (cells.Bool b) is = absurd cc
is_text (cells.Bytes bytes) is = (refl, is.1)

pub are_texts : (cs : List Cell) → All (IsCell Keys) cs → cs ≡ key_cells (keys_of cs)
are_texts [] each = refl
are_texts (c ∷ cs) each =
    let rest = are_texts cs (All-tail (IsCell Keys) c cs each) in
    let head = (is_text c (All-head (IsCell Keys) c cs each)).0 in
    ap (λ (x : Cell). x ∷ cs) head ∙ ap (λ (xs : List Cell). cells.Bytes (bytes_of c) ∷ xs) rest

pub are_short : (cs : List Cell) → All (IsCell Keys) cs → All IsShort (keys_of cs)
are_short cs each = All-map IsShort bytes_of cs (All-weaker (IsCell Keys) (λ c. IsShort (bytes_of c)) (λ c is. (is_text c is).1) cs each)

pub keys_may_stand : (keys : List (List ℕ)) → All IsShort keys → All (IsCell Keys) (key_cells keys)
keys_may_stand keys short = All-map (IsCell Keys) cells.Bytes keys (All-weaker IsShort (λ key. IsCell Keys (cells.Bytes key)) (λ key le. (refl, le)) keys short)

-- ---- keys that rise

below_later : (keys : List (List ℕ)) (i d : ℕ) → ((k : ℕ) → k + 1 < length keys → IsBelow (get_or keys k []) (get_or keys (k + 1) [])) → i + suc d < length keys → IsBelow (get_or keys i []) (get_or keys (i + suc d) [])
below_later keys i zero next lt = next i lt
below_later keys i (suc d) next lt =
    below_trans (get_or keys i []) (get_or keys (i + suc d) []) (get_or keys (i + suc (suc d)) []) (below_later keys i d next (omega arith)) (let e : i + suc (suc d) ≡ (i + suc d) + 1 = omega arith in rw e (next (i + suc d) (omega arith)))

pub rises_from_next : (keys : List (List ℕ)) → ((k : ℕ) → k + 1 < length keys → IsBelow (get_or keys k []) (get_or keys (k + 1) [])) → Rises keys
rises_from_next keys next i j lt in_ =
    let e : j ≡ i + suc (j - (i + 1)) = omega arith in
    rw e (below_later keys i (j - (i + 1)) next (omega arith))

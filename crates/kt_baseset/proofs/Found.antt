-- A key is found where it stands, and nowhere else.
use Rattle.std.proofs.Common.{◌≡◌, ◌≢◌, ℕ, zero, suc, ◌+◌, ◌-◌, ◌*◌, ◌/◌, ◌<◌, ◌≤◌, Bool, true, false, cond, eqb, List, [], length, get_or, refl, sym, ap, subst, ◌∙◌, inl, inr, zero-add, arith}
use Rattle.std.specs.Prelude.{Option, Some, None, IfSome, IfNone}
use Rattle.std.specs.List.{All}
use Rattle.std.specs.Ordering.{nat_cmp, is_eq, is_lt}
use Rattle.std.specs.declared.cmp.Ordering.TheVariants.{Greater}
use Rattle.std.specs.Cmp.Lexicographic.{slice_cmp}
use Rattle.std.proofs.lemmas.Bool.{cases_lt, ne_eqb, false≢true}
use Rattle.std.proofs.lemmas.List.{get_or-map, length-map}
use Rattle.std.proofs.lemmas.List.FromFn.{get_or-map-range_with_len, length-map-range_with_len}
use Rattle.std.proofs.lemmas.Map.Text.{is_eq-slice_cmp}
use Rattle.std.proofs.lemmas.Slice.Eq.{bytes_eq-Decides}
use Rattle.kt_base.specs.declared.cell.Cell.{Cell}
use Rattle.kt_base.specs.declared.cell.Cell.TheVariants as cells
use Rattle.kt_lookup.specs.Index.{IsBelow, Rises, index_of}
use Rattle.kt_lookup.proofs.Search.{below_trans}
use Rattle.kt_baseset.specs.declared.rows.KeyedRow.{KeyedRow}
use Rattle.kt_baseset.specs.declared.held.HeldColumn.{HeldColumn}
use Rattle.kt_baseset.specs.Tables.{no_row, key_at, cells_in, row_at, rows_of, key_cells, keys_of, bytes_of, stretch_start, stretch_end, HasCells, AreColumns}

-- ---- byte lists that are one

eq_self : (xs : List ℕ) → is_eq (slice_cmp nat_cmp xs xs) ≡ true
eq_self xs = is_eq-slice_cmp xs xs ∙ (bytes_eq-Decides xs xs).1 refl

pub same_bytes : (xs ys : List ℕ) → is_eq (slice_cmp nat_cmp xs ys) ≡ true → xs ≡ ys
same_bytes xs ys e = (bytes_eq-Decides xs ys).0 (sym (is_eq-slice_cmp xs ys) ∙ e)

pub other_bytes : (xs ys : List ℕ) → is_eq (slice_cmp nat_cmp xs ys) ≡ false → xs ≡ ys → ⊥
other_bytes xs ys e same =
    let P : List ℕ → Type 0 = λ z. is_eq (slice_cmp nat_cmp xs z) ≡ true in
    false≢true (sym e ∙ subst P same (eq_self xs))

pub below_differs : (a b : List ℕ) → IsBelow a b → a ≡ b → ⊥
below_differs a b below same =
    other_bytes a b (ap is_eq below) same

-- where a key is greater, no later one is it
pub later_differs : (keys : List (List ℕ)) (key : List ℕ) (i j : ℕ) → Rises keys → slice_cmp nat_cmp (get_or keys i []) key ≡ Greater → i ≤ j → j < length keys → get_or keys j [] ≡ key → ⊥
later_differs keys key i j rises greater le in_ same =
    elim (cases_lt i j) [
      | inl less ↦
          let below : IsBelow (get_or keys i []) key = subst (IsBelow (get_or keys i [])) same (rises i j less in_) in
          false≢true (ap is_lt (sym greater ∙ below))
      | inr ge ↦
          let e : j ≡ i = omega arith in
          other_bytes (get_or keys i []) key (ap is_eq greater) (subst (λ (k : ℕ). get_or keys k [] ≡ key) e same)
    ]

-- ---- a key of a column

pub text_at : (cs : List Cell) (i : ℕ) → cs ≡ key_cells (keys_of cs) → i < length cs → get_or cs i cells.Null ≡ cells.Bytes (get_or (keys_of cs) i [])
text_at cs i texts lt =
    ap (λ (l : List Cell). get_or l i cells.Null) texts ∙ get_or-map cells.Bytes (keys_of cs) i [] cells.Null (omega (arith, lt, length-map cs bytes_of))

pub key_bytes : (cs : List Cell) (i : ℕ) → i < length cs → bytes_of (get_or cs i cells.Null) ≡ get_or (keys_of cs) i []
key_bytes cs i lt = sym (get_or-map bytes_of cs i cells.Null [] lt)

-- ---- a stretch between two entries of the index

length-index : (keys : List (List ℕ)) → length (index_of keys) ≡ (length keys + 15) / 16
unfolding index_of
length-index keys = length-map-range_with_len (λ (j : ℕ). get_or keys (16 * j) []) 0 ((length keys + 15) / 16)

get_or-index : (keys : List (List ℕ)) (j : ℕ) → j < (length keys + 15) / 16 → get_or (index_of keys) j [] ≡ get_or keys (16 * j) []
unfolding index_of
get_or-index keys j lt = get_or-map-range_with_len (λ (j : ℕ). get_or keys (16 * j) []) 0 ((length keys + 15) / 16) j j [] lt (zero-add j)

pub entry_fits : (keys index : List (List ℕ)) (entry : ℕ) → index ≡ index_of keys → entry ≤ length index → 16 * entry ≤ length keys + 15
entry_fits keys index entry is le = omega (arith, le, ap length is, length-index keys)

-- what the search of the index says
pub record IsEntry (index : List (List ℕ)) (key : List ℕ) (entry : ℕ) : Type 0 where
  pub within : entry ≤ length index
  pub before : (j : ℕ) → j < entry → IsBelow (get_or index j []) key
  pub at : entry < length index → IsBelow (get_or index entry []) key → ⊥

-- a key before the stretch is below the one that is looked for
before_it : (keys : List (List ℕ)) (key : List ℕ) (entry i : ℕ) → Rises keys → IsEntry (index_of keys) key (suc entry) → i < 16 * entry + 1 → get_or keys i [] ≡ key → ⊥
before_it keys key entry i rises is lt same =
    let n = length-index keys in
    let in_ : entry < (length keys + 15) / 16 = omega (arith, is.within, n) in
    let mark : IsBelow (get_or keys (16 * entry) []) key = rw (get_or-index keys entry in_) at (is.before entry (omega arith)) in
    elim (cases_lt i (16 * entry)) [
      | inl less ↦ below_differs (get_or keys i []) key (below_trans (get_or keys i []) (get_or keys (16 * entry) []) key (rises i (16 * entry) less (omega (arith, in_))) mark) same
      | inr le ↦
          let e : 16 * entry ≡ i = omega arith in
          below_differs (get_or keys i []) key (subst (λ (k : ℕ). IsBelow (get_or keys k []) key) e mark) same
    ]

-- a key behind the stretch is above the entry's own, which is not below the one that is looked for
behind_it : (keys : List (List ℕ)) (key : List ℕ) (entry i : ℕ) → Rises keys → IsEntry (index_of keys) key entry → 16 * entry < i → i < length keys → get_or keys i [] ≡ key → ⊥
behind_it keys key entry i rises is lt in_ same =
    let n = length-index keys in
    let here : entry < (length keys + 15) / 16 = omega (arith, lt, in_) in
    let below : IsBelow (get_or keys (16 * entry) []) key = subst (IsBelow (get_or keys (16 * entry) [])) same (rises (16 * entry) i lt in_) in
    is.at (omega (arith, here, n)) (rw (get_or-index keys entry here) below)

start_is : (entry : ℕ) → stretch_start (suc entry) ≡ 16 * entry + 1
start_is entry =
    let other : eqb (suc entry) 0 ≡ false = ne_eqb (suc entry) 0 (λ e. omega (arith, e)) in
    ap (λ (b : Bool). cond b 0 (16 * (suc entry - 1) + 1)) other ∙ omega arith

before_any : (keys : List (List ℕ)) (key : List ℕ) (entry i : ℕ) → Rises keys → IsEntry (index_of keys) key entry → i < stretch_start entry → get_or keys i [] ≡ key → ⊥
before_any keys key zero i rises is lt same = absurd (omega arith)
before_any keys key (suc entry) i rises is lt same = before_it keys key entry i rises is (omega (arith, lt, start_is entry)) same

pub not_there : (keys index : List (List ℕ)) (key : List ℕ) (entry : ℕ) → Rises keys → index ≡ index_of keys → IsEntry index key entry
    → ((i : ℕ) → stretch_start entry ≤ i → i < stretch_end entry (length keys) → get_or keys i [] ≡ key → ⊥)
    → (i : ℕ) → i < length keys → get_or keys i [] ≡ key → ⊥
not_there keys index key entry rises is at none i lt same =
    let entry_is : IsEntry (index_of keys) key entry = subst (λ (x : List (List ℕ)). IsEntry x key entry) is at in
    elim (cases_lt i (stretch_start entry)) [
      | inl less ↦ absurd (before_any keys key entry i rises entry_is less same)
      | inr ge ↦ elim (cases_lt i (stretch_end entry (length keys))) [
        | inl less ↦ none i ge less same
        | inr le ↦ behind_it keys key entry i rises entry_is (omega arith) lt same
      ]
    ]

-- ---- the row at a place

pub rows_count : (keys : List (List ℕ)) (columns : List HeldColumn) → length (rows_of keys columns) ≡ length keys
rows_count keys columns = length-map-range_with_len (λ (i : ℕ). let row : KeyedRow = record { key = get_or keys i []; cells = row_at columns i } in row) 0 (length keys)

row_there : (keys : List (List ℕ)) (columns : List HeldColumn) (i : ℕ) → i < length keys → get_or (rows_of keys columns) i no_row ≡ record { key = get_or keys i []; cells = row_at columns i }
row_there keys columns i lt = get_or-map-range_with_len (λ (i : ℕ). let row : KeyedRow = record { key = get_or keys i []; cells = row_at columns i } in row) 0 (length keys) i i no_row lt (zero-add i)

pub key_there : (keys : List (List ℕ)) (columns : List HeldColumn) (i : ℕ) → i < length keys → key_at (rows_of keys columns) i ≡ get_or keys i []
key_there keys columns i lt = ap (λ (r : KeyedRow). r.key) (row_there keys columns i lt)

pub cells_there : (keys : List (List ℕ)) (columns : List HeldColumn) (i : ℕ) → i < length keys → cells_in (rows_of keys columns) i ≡ row_at columns i
cells_there keys columns i lt = ap (λ (r : KeyedRow). r.cells) (row_there keys columns i lt)

pub have_cells : (n : ℕ) (columns : List HeldColumn) (i : ℕ) → AreColumns n columns → i < n → All (HasCells i) columns
have_cells n columns i are lt = λ k d in_. omega (arith, (are.each k d in_).count, lt)

-- what was found is told of the rows
abbrev pub Tells : Option ℕ → ℕ → (ℕ → List ℕ) → List ℕ → Type 0
Tells r n at key = IfSome r (λ i. (i < n) × (at i ≡ key)) × IfNone r ((i : ℕ) → i < n → at i ≢ key)

pub told_of_rows : (r : Option ℕ) (cs : List Cell) (columns : List HeldColumn) (key : List ℕ) → Tells r (length cs) (λ i. get_or (keys_of cs) i []) key → Tells r (length (rows_of (keys_of cs) columns)) (key_at (rows_of (keys_of cs) columns)) key
told_of_rows (Some i) cs columns key told =
    let n = rows_count (keys_of cs) columns in
    let lt : i < length (keys_of cs) = omega (arith, told.0.0, length-map cs bytes_of) in
    ((omega (arith, lt, n), key_there (keys_of cs) columns i lt ∙ told.0.1), tt)
told_of_rows None cs columns key told =
    let n = rows_count (keys_of cs) columns in (
      tt,
      λ i lt e.
          let here : i < length (keys_of cs) = omega (arith, lt, n) in
          told.1 i (omega (arith, here, length-map cs bytes_of)) (sym (key_there (keys_of cs) columns i here) ∙ e),
    )

pub count_keys : (cs : List Cell) → length (keys_of cs) ≡ length cs
count_keys cs = length-map cs bytes_of

pub search_none : (r : Option ℕ) (cs : List Cell) (index : List (List ℕ)) (key : List ℕ) (entry n start end : ℕ) → Rises (keys_of cs) → index ≡ index_of (keys_of cs) → IsEntry index key entry
    → n ≡ length cs → start ≡ stretch_start entry → end ≡ stretch_end entry n
    → IfNone r ((i : ℕ) → start ≤ i → i < end → get_or (keys_of cs) i [] ≢ key) → IfNone r ((i : ℕ) → i < length cs → get_or (keys_of cs) i [] ≢ key)
search_none (Some i) cs index key entry n start end rises is at count from upto none = tt
search_none None cs index key entry n start end rises is at count from upto none =
    let keys = count_keys cs in
    let most : end ≡ stretch_end entry (length (keys_of cs)) = upto ∙ ap (stretch_end entry) (count ∙ sym keys) in
    λ i lt. not_there (keys_of cs) index key entry rises is at (λ k ge less. none k (omega (arith, from, ge)) (omega (arith, most, less))) i (omega (arith, keys, lt))

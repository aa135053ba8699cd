-- Operations as parts of a format.
use Rattle.std.proofs.Common.{◌≡◌, ℕ, zero, suc, ◌^◌, ◌<◌, Bool, true, false, not, ◌||◌, eqb, List, [], ◌∷◌, length, Option, Some, None, refl, sym, ap, ◌∙◌, arith}
use Rattle.std.specs.Prelude.{replicate}
use Rattle.std.specs.List.{flat_map}
use Rattle.std.specs.Int.{w16, to_le_bytes}
use Rattle.std.specs.Ordering.{eq_by_cmp}
use Rattle.std.proofs.lemmas.Bool.{ne_eqb}
use Rattle.std.proofs.lemmas.List.{length-replicate}
use Rattle.std.proofs.lemmas.Map.Lookups.{exact_bytes}
use Rattle.std.proofs.lemmas.Map.Views.{tells_apart}
use Rattle.kt_base.specs.declared.cell.Cell.{Cell}
use Rattle.kt_history.specs.Rows.{key_cmp}
use Rattle.kt_history.specs.declared.operation.OpKind.{OpKind}
use Rattle.kt_history.specs.declared.operation.OpKind.TheVariants.{Insert, Upsert, Update, Delete, InsertIgnore, UpdateIgnore, DeleteIgnore}
use Rattle.kt_history.specs.declared.operation.RowOp.{RowOp}
use Rattle.kt_bytes.specs.Reading.{◌>>=◌, checked_at, many_at}
use Rattle.kt_bytes.proofs.Numbers.{IsBytes, wide16}
use Rattle.kt_records.specs.Spelling.{kind}
use Rattle.kt_records.specs.Rules.{has_key, may_list, CellsFit, FollowingOp}
use Rattle.kt_records.specs.Fields.{listed_cell_fields, cell_list_fields, operation_fields}
use Rattle.kt_records.specs.Reading.{kind_at, listed_cell_at, cell_list_at, is_key_len, new_key_at, operation_at}
use Rattle.kt_bytes.proofs.Formats.{Part}
use Rattle.kt_bytes.proofs.Leaves.{same_reader, Passes, number_fields, number_part, IsText, text_at, text_fields, text_part, byte_at_front, code_fields, code_part, zero_bytes}
use Rattle.kt_bytes.proofs.Joins.{both_part, same_part, made_at, made_part}
use Rattle.kt_cells.proofs.Cells.{RisingCells, counted_cells_part}
use Rattle.kt_bytes.proofs.Free.{free_place}

-- ---- kinds

abbrev kind_meaning : ℕ → Option OpKind
kind_meaning zero = None
kind_meaning (suc zero) = Some Insert
kind_meaning (suc (suc zero)) = Some Upsert
kind_meaning (suc (suc (suc zero))) = Some Update
kind_meaning (suc (suc (suc (suc zero)))) = Some Delete
kind_meaning (suc (suc (suc (suc (suc zero))))) = Some InsertIgnore
kind_meaning (suc (suc (suc (suc (suc (suc zero)))))) = Some UpdateIgnore
kind_meaning (suc (suc (suc (suc (suc (suc (suc zero))))))) = Some DeleteIgnore
kind_meaning (suc (suc (suc (suc (suc (suc (suc (suc b)))))))) = None

kind_is : (bytes : List ℕ) → kind_at bytes ≡ byte_at_front kind_meaning bytes
unfolding kind_at
kind_is [] = refl
kind_is (zero ∷ rest) = refl
kind_is (suc zero ∷ rest) = refl
kind_is (suc (suc zero) ∷ rest) = refl
kind_is (suc (suc (suc zero)) ∷ rest) = refl
kind_is (suc (suc (suc (suc zero))) ∷ rest) = refl
kind_is (suc (suc (suc (suc (suc zero)))) ∷ rest) = refl
kind_is (suc (suc (suc (suc (suc (suc zero))))) ∷ rest) = refl
kind_is (suc (suc (suc (suc (suc (suc (suc zero)))))) ∷ rest) = refl
kind_is (suc (suc (suc (suc (suc (suc (suc (suc b))))))) ∷ rest) = refl

kind_code : (b : ℕ) (u v : OpKind) → kind u ≡ b → Some u ≡ Some v → (kind v ≡ b) × Unit {0}
kind_code b u v code e = let same : u ≡ v = cc in (ap kind (sym same) ∙ code, tt)

kind_part : Part kind_at (code_fields kind) (λ k. Unit {0})
kind_part = same_reader (byte_at_front kind_meaning) kind_at (code_fields kind) (λ k. Unit {0}) kind_is (code_part kind_meaning kind (λ k. Unit {0}) back there Insert tt (omega arith))
  where
    back : (b : ℕ) (v : OpKind) → kind_meaning b ≡ Some v → (kind v ≡ b) × Unit {0}
    back zero v e = absurd cc
    back (suc zero) v e = kind_code 1 Insert v refl e
    back (suc (suc zero)) v e = kind_code 2 Upsert v refl e
    back (suc (suc (suc zero))) v e = kind_code 3 Update v refl e
    back (suc (suc (suc (suc zero)))) v e = kind_code 4 Delete v refl e
    back (suc (suc (suc (suc (suc zero))))) v e = kind_code 5 InsertIgnore v refl e
    back (suc (suc (suc (suc (suc (suc zero)))))) v e = kind_code 6 UpdateIgnore v refl e
    back (suc (suc (suc (suc (suc (suc (suc zero))))))) v e = kind_code 7 DeleteIgnore v refl e
    back (suc (suc (suc (suc (suc (suc (suc (suc b)))))))) v e = absurd cc

    there : (v : OpKind) → Unit {0} → kind_meaning (kind v) ≡ Some v
    there Insert f = refl
    there Upsert f = refl
    there Update f = refl
    there Delete f = refl
    there InsertIgnore f = refl
    there UpdateIgnore f = refl
    there DeleteIgnore f = refl

-- ---- keys

-- a key that none of these operations has
abbrev NewKey : List RowOp → List ℕ → Type 0
NewKey front key = (has_key front key ≡ false) × (length key < 2 ^ 16)

-- a key of so many bytes that begins with this one
abbrev key_with : ℕ → ℕ → List ℕ
key_with n b = b ∷ replicate n 0

key_bytes : (n b : ℕ) → b < 256 → IsBytes (key_with n b)
key_bytes n b lt zero = lt
key_bytes n b lt (suc i) = zero_bytes n i

-- of each length but 0 there is a key that few operations leave free
fresh_key : (front : List RowOp) (n : ℕ) → length front < 256 → (key : List ℕ) × (has_key front key ≡ false) × (length key ≡ suc n) × IsBytes key
fresh_key front n few =
    let f = free_place (λ (op : RowOp) (b : ℕ). eq_by_cmp key_cmp op.key (key_with n b)) one 256 front few in
    (key_with n f.0, f.2, ap suc (length-replicate n 0), key_bytes n f.0 f.1)
  where
    one : (op : RowOp) (b c : ℕ) → eq_by_cmp key_cmp op.key (key_with n b) ≡ true → eq_by_cmp key_cmp op.key (key_with n c) ≡ true → b ≡ c
    one op b c p q =
        let same : key_with n b ≡ key_with n c = sym (tells_apart exact_bytes op.key (key_with n b) p) ∙ tells_apart exact_bytes op.key (key_with n c) q in
        cc

right_of : (a b : Bool) → b ≡ true → (a || b) ≡ true
right_of true b e = refl
right_of false b e = e

is_not : (b : Bool) → not b ≡ true → b ≡ false
is_not true e = absurd cc
is_not false e = refl

-- the length of a key that can stand there, as the length of a new key
key_len_of : (front : List RowOp) (key : List ℕ) → has_key front key ≡ false → is_key_len front (length key) ≡ true
key_len_of front [] new = right_of (not (eqb 0 0)) (not (has_key front [])) (ap not new)
key_len_of front (b ∷ key) new =
    let some : eqb (length (b ∷ key)) 0 ≡ false = ne_eqb (length (b ∷ key)) 0 (λ e. omega (arith, e)) in
    ap (λ (x : Bool). not x || not (has_key front [])) some

some_key : (front : List RowOp) (n : ℕ) → length front < 256 → is_key_len front n ≡ true → (key : List ℕ) × (has_key front key ≡ false) × (length key ≡ n) × IsBytes key
some_key front zero few ok = ([], is_not (has_key front []) ok, refl, λ i. omega arith)
some_key front (suc n) few ok = fresh_key front n few

key_part : (front : List RowOp) → length front < 256 → Part (new_key_at front) (λ key. to_le_bytes w16 (length key) ∷ key ∷ []) (NewKey front)
unfolding new_key_at
key_part front few =
    same_part (new_key_at front) (λ key. to_le_bytes w16 (length key) ∷ key ∷ []) (λ key. to_le_bytes w16 (length key) ∷ key ∷ []) (λ key. Lens (length key) × IsText (length key) (has_key front) key) (NewKey front)
    (λ key f. (f.1.0, f.0.1)) (λ key f. ((key_len_of front key f.0, f.1), (f.0, refl))) (λ key f. refl)
    (both_part (checked_at w16 (is_key_len front)) (number_fields w16) Lens (λ n. text_at n (has_key front)) text_fields (λ n. IsText n (has_key front)) (λ key. length key) (λ n key f. f.1)
    (number_part w16 (2 ^ 16) wide16 (is_key_len front) (omega arith) 1 refl (omega arith))
    (λ n f. let k = some_key front n few f.0 in text_part n (has_key front) k.0 k.1 k.2 k.3))
  where
    Lens : ℕ → Type 0
    Lens = Passes (is_key_len front) (2 ^ 16)

-- ---- cells

lists_none : (k : OpKind) → may_list k 0 ≡ true
lists_none Insert = refl
lists_none Upsert = refl
lists_none Update = refl
lists_none Delete = refl
lists_none InsertIgnore = refl
lists_none UpdateIgnore = refl
lists_none DeleteIgnore = refl

cell_list_part : (k : OpKind) → Part (cell_list_at k) cell_list_fields (CellsFit k)
unfolding cell_list_at
cell_list_part k =
    same_part (cell_list_at k) cell_list_fields cell_list_fields (λ cells. Passes (may_list k) (2 ^ 16) (length cells) × RisingCells (length cells) cells) (CellsFit k)
    (λ cells f. record { listed = f.0.0; count = f.0.1; cells = f.1.1 }) (λ cells f. ((f.listed, f.count), (refl, f.cells))) (λ cells f. refl)
    (both_part (checked_at w16 (may_list k)) (number_fields w16) (Passes (may_list k) (2 ^ 16)) (λ n. many_at (listed_cell_at n) n []) (flat_map listed_cell_fields) RisingCells (λ cells. length cells) (λ n cells f. f.0)
    (number_part w16 (2 ^ 16) wide16 (may_list k) (omega arith) 0 (lists_none k) (omega arith)) (λ n f. counted_cells_part n f.1))

-- ---- operations

abbrev op_of : OpKind → List ℕ → List (ℕ × Cell) → RowOp
op_of k key cells = record { kind = k; key = key; cells = cells }

abbrev OfKey : OpKind → List ℕ → RowOp → Type 0
OfKey k key op = CellsFit k op.cells × (op_of k key op.cells ≡ op)

abbrev OfKind : List RowOp → OpKind → RowOp → Type 0
OfKind front k op = NewKey front op.key × OfKey k op.key op

keyed_part : (front : List RowOp) (k : OpKind) → length front < 256
    → Part (λ bytes. new_key_at front bytes >>= λ key. made_at (cell_list_at k) (op_of k key.0) key.1) (λ op. to_le_bytes w16 (length op.key) ∷ op.key ∷ cell_list_fields op.cells) (OfKind front k)
keyed_part front k few =
    both_part (new_key_at front) (λ key. to_le_bytes w16 (length key) ∷ key ∷ []) (NewKey front) (λ key. made_at (cell_list_at k) (op_of k key)) (λ op. cell_list_fields op.cells) (OfKey k) (λ op. op.key)
    (λ key op f. sym (ap (λ (o : RowOp). o.key) f.1)) (key_part front few)
    (λ key f. made_part (cell_list_at k) cell_list_fields (CellsFit k) (op_of k key) (λ op. op.cells) (λ cells g. refl) (cell_list_part k))

pub operation_part : (front : List RowOp) → length front < 256 → Part (operation_at front) operation_fields (FollowingOp front)
unfolding operation_at
operation_part front few =
    same_part (operation_at front) operation_fields operation_fields (λ op. Unit {0} × OfKind front op.kind op) (FollowingOp front)
    (λ op f. record { new_key = f.1.0.0; key = f.1.0.1; cells = f.1.1.0 }) (λ op f. (tt, ((f.new_key, f.key), (f.cells, refl)))) (λ op f. refl)
    (both_part kind_at (code_fields kind) (λ k. Unit {0}) (λ k bytes. new_key_at front bytes >>= λ key. made_at (cell_list_at k) (op_of k key.0) key.1)
    (λ op. to_le_bytes w16 (length op.key) ∷ op.key ∷ cell_list_fields op.cells) (OfKind front) (λ op. op.kind) (λ k op f. sym (ap (λ (o : RowOp). o.kind) f.1.1)) kind_part (λ k f. keyed_part front k few))

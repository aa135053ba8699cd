-- Operations held as the bytes that spell them.
use Rattle.std.proofs.Common.{◌≡◌, ℕ, ◌+◌, ◌-◌, ◌≤◌, List, [], ◌∷◌, ◌++◌, length, take, drop, get_or, Result, Ok, Err, length-append, refl, sym, ap, ◌∙◌, subst, append_assoc, arith}
use Rattle.std.specs.Prelude.{OnOk, OnErr}
use Rattle.std.specs.List.{between, concat, flat_map, All}
use Rattle.std.proofs.lemmas.List.{take_at, drop_at, take_all, length-drop, drop-drop, map-append, append-nil, take-map, drop-map}
use Rattle.std.proofs.lemmas.List.Elements.{All-head, All-tail, All-push, All-take, All-drop}
use Rattle.std.specs.Int.{w16, to_le_bytes, from_le_bytes}
use Rattle.kt_cells.specs.Spelling.{cell_list}
use Rattle.kt_cells.specs.Reading.{cells_behind}
use Rattle.kt_cells.specs.Spelled.{SpellsCells}
use Rattle.kt_cells.proofs.Spelled.{read_back}
use Rattle.kt_history.specs.Operations.{op_len}
use Rattle.kt_history.proofs.Lengths.{length-operation}
use Rattle.std.proofs.lemmas.Nat.{from_le_bytes-to_le_bytes_2}
use Rattle.kt_history.specs.declared.operation.OpKind.{OpKind}
use Rattle.kt_history.specs.declared.operation.OpKind.TheVariants.{Insert, Upsert, Update, Delete, InsertIgnore, UpdateIgnore, DeleteIgnore}
use Rattle.kt_history.specs.declared.operation.RowOp.{RowOp}
use Rattle.kt_history.specs.Spelled.{kind, kind_of, key_len, op_in, ops_in, operation, OpFits, SpellsOp}

kind_again : (k : OpKind) → kind_of (kind k) ≡ k
kind_again Insert = refl
kind_again Upsert = refl
kind_again Update = refl
kind_again Delete = refl
kind_again InsertIgnore = refl
kind_again UpdateIgnore = refl
kind_again DeleteIgnore = refl

-- ---- one operation

-- the parts of a spelled operation, read where they lie
module _ (op : RowOp) (fits : OpFits op) where
  abbrev number : List ℕ
  number = to_le_bytes w16 (length op.key)

  abbrev rest : List ℕ
  rest = op.key ++ cell_list op.cells

  abbrev bytes : List ℕ
  bytes = kind op.kind ∷ (number ++ rest)

  whole : operation op ≡ bytes
  whole = ap (λ (xs : List ℕ). kind op.kind ∷ xs) (append_assoc number op.key (cell_list op.cells))

  len_again : key_len bytes ≡ length op.key
  len_again = ap (from_le_bytes w16) (take_at number rest 2 refl) ∙ from_le_bytes-to_le_bytes_2 (length op.key) fits.key

  behind : drop 3 bytes ≡ rest
  behind = drop_at number rest 2 refl

  key_again : take (key_len bytes) (drop 3 bytes) ≡ op.key
  key_again = rw (len_again, behind) (take_at op.key (cell_list op.cells) (length op.key) refl)

  spelled_again : drop (3 + key_len bytes) bytes ≡ cell_list op.cells
  spelled_again = rw len_again (sym (drop-drop (length op.key) 3 bytes) ∙ (ap (drop (length op.key)) behind ∙ drop_at op.key (cell_list op.cells) (length op.key) refl))

  pub op_again : op_in (operation op) ≡ op
  op_again = ap op_in whole ∙ rw (key_again, spelled_again, read_back op.cells fits.cells, kind_again op.kind) refl

  pub spells : SpellsOp (operation op)
  spells = record { fits = subst OpFits (sym op_again) fits; is = ap operation (sym op_again) }

  pub op_len_again : key_len (operation op) ≡ length op.key
  op_len_again = ap key_len whole ∙ len_again

  pub op_cells_again : drop (3 + key_len (operation op)) (operation op) ≡ cell_list op.cells
  op_cells_again = ap (λ (xs : List ℕ). drop (3 + key_len xs) xs) whole ∙ spelled_again

-- ---- bytes that spell an operation

pub len_of : (bytes : List ℕ) → SpellsOp bytes → key_len bytes ≡ length (op_in bytes).key
len_of bytes s = ap key_len s.is ∙ op_len_again (op_in bytes) s.fits

pub cells_of : (bytes : List ℕ) → SpellsOp bytes → SpellsCells (drop (3 + key_len bytes) bytes)
cells_of bytes s = record { fits = s.fits.cells; is = ap (λ (xs : List ℕ). drop (3 + key_len xs) xs) s.is ∙ op_cells_again (op_in bytes) s.fits }

pub is_long : (bytes : List ℕ) → SpellsOp bytes → 5 ≤ length bytes
is_long bytes s = omega (arith, ap length s.is, length-operation (op_in bytes))

-- the bytes of the key's length
pub two_are : (bytes : List ℕ) → 3 ≤ length bytes → get_or bytes 1 0 ∷ get_or bytes 2 0 ∷ [] ≡ take 2 (drop 1 bytes)
two_are (a ∷ b ∷ c ∷ rest) long = refl
two_are (a ∷ b ∷ []) long = absurd (omega (arith, long))
two_are (a ∷ []) long = absurd (omega (arith, long))
two_are [] long = absurd (omega (arith, long))

-- what stands behind the three bytes in front
all_behind : (bytes : List ℕ) (m : ℕ) → length bytes ≤ m + 3 → take m (drop 3 bytes) ≡ drop 3 bytes
all_behind bytes m le = take_all m (drop 3 bytes) (omega (arith, length-drop 3 bytes, le))

pub key_is : (bytes key : List ℕ) (n m : ℕ) → n ≡ key_len bytes → length bytes ≤ m + 3 → key ≡ take n (take m (drop 3 bytes)) → key ≡ (op_in bytes).key
key_is bytes key n m e le h = h ∙ rw (all_behind bytes m le, e) refl

pub cells_are : (bytes cells : List ℕ) (n m : ℕ) → n ≡ key_len bytes → length bytes ≤ m + 3 → cells ≡ drop n (take m (drop 3 bytes)) → cells ≡ drop (3 + key_len bytes) bytes
cells_are bytes cells n m e le h = h ∙ rw (all_behind bytes m le, e) (drop-drop (key_len bytes) 3 bytes)

pub op_is : (bytes : List ℕ) (k : OpKind) (key cells : List ℕ) → k ≡ kind_of (get_or bytes 0 0) → key ≡ (op_in bytes).key → cells ≡ drop (3 + key_len bytes) bytes
    → record { kind = k; key = key; cells = cells_behind cells } ≡ op_in bytes
op_is bytes k key cells is key_same cells_same = rw (is, key_same, cells_same) refl

pub len_is : (op : RowOp) (key cells : List ℕ) → SpellsCells cells → op.key ≡ key → op.cells ≡ cells_behind cells → 3 + length key + length cells ≡ op_len op
len_is op key cells s k c =
    let same : cells ≡ cell_list op.cells = s.is ∙ ap cell_list (sym c) in
    omega (arith, length-operation op, length-append (to_le_bytes w16 (length op.key) ++ op.key) (cell_list op.cells), length-append (to_le_bytes w16 (length op.key)) op.key, ap length same, ap length k)

-- ---- lists

-- what is pushed is spelled
pub parts_are : (op : RowOp) (front key cells : List ℕ) → SpellsCells cells → front ≡ kind op.kind ∷ to_le_bytes w16 (length op.key) → op.key ≡ key → op.cells ≡ cells_behind cells
    → front ++ (key ++ (cells ++ [])) ≡ operation op
parts_are op front key cells s f k c =
    let same : cells ≡ cell_list op.cells = s.is ∙ ap cell_list (sym c) in
    rw (f, sym k, append-nil cells, same) (ap (λ (xs : List ℕ). kind op.kind ∷ xs) (sym (append_assoc (to_le_bytes w16 (length op.key)) op.key (cell_list op.cells))))

-- bytes that spell an operation are its spelling
pub only_part : (bytes : List ℕ) → SpellsOp bytes → bytes ++ [] ≡ operation (op_in bytes)
only_part bytes s = append-nil bytes ∙ s.is

pub pushed : (texts : List (List ℕ)) (op : RowOp) (ops : List RowOp) → OpFits op → ops_in texts ≡ ops → ops_in (texts ++ operation op ∷ []) ≡ ops ++ op ∷ []
pushed texts op ops fits view = map-append op_in texts (operation op ∷ []) ∙ rw (view, op_again op fits) refl

-- a list that an operation was pushed onto, or that stayed
pub all_pushed : {A E : Type 0} (r : Result A E) (old new : List (List ℕ)) (op : RowOp) → OnOk r (new ≡ old ++ operation op ∷ []) → OnErr r (new ≡ old) → OpFits op → All SpellsOp old → All SpellsOp new
all_pushed (Ok x) old new op ok err fits all = subst (All SpellsOp) (sym ok) (All-push SpellsOp old (operation op) all (spells op fits))
all_pushed (Err e) old new op ok err fits all = subst (All SpellsOp) (sym err) all

pub view_pushed : {A E : Type 0} (r : Result A E) (old new : List (List ℕ)) (op : RowOp) (ops : List RowOp) → OnOk r (new ≡ old ++ operation op ∷ []) → OpFits op → ops_in old ≡ ops → OnOk r (ops_in new ≡ ops ++ op ∷ [])
view_pushed (Ok x) old new op ops ok fits view = ap ops_in ok ∙ pushed old op ops fits view
view_pushed (Err e) old new op ops ok fits view = tt

-- all bytes are those of the operations
pub bytes_are : (texts : List (List ℕ)) → All SpellsOp texts → concat texts ≡ flat_map operation (ops_in texts)
bytes_are [] all = refl
bytes_are (t ∷ texts) all = rw (sym (bytes_are texts (All-tail SpellsOp t texts all))) (ap (λ (xs : List ℕ). xs ++ concat texts) (All-head SpellsOp t texts all).is)

-- ---- a part of a list

pub all_of_part : (texts : List (List ℕ)) (first end : ℕ) → All SpellsOp texts → All SpellsOp (between first end texts)
all_of_part texts first end all = All-take SpellsOp (end - first) (drop first texts) (All-drop SpellsOp first texts all)

pub ops_of_part : (texts : List (List ℕ)) (ops : List RowOp) (first end : ℕ) → ops_in texts ≡ ops → ops_in (between first end texts) ≡ between first end ops
ops_of_part texts ops first end view = sym (take-map op_in (end - first) (drop first texts)) ∙ ap (take (end - first)) (sym (drop-map op_in first texts)) ∙ ap (between first end) view

-- Write lines: what a line says of its operations, and why it is refused.
use Rattle.std.specs.Prelude.{◌≡◌, ℕ, ◌+◌, min, Bool, true, false, not, ◌&&◌, ◌||◌, List, [], ◌∷◌, ◌++◌, length, drop, take, map, Option, Some, None, is_some, if◌then◌else◌, ◌==◌, nat_lt, codes}
use Rattle.std.proofs.Common.{Bor}
use Rattle.std.specs.Int.{w64, from_be_bytes}
use Rattle.std.specs.List.{list_any, before_first, onto_first}
use Rattle.std.specs.Ordering.{nat_cmp}
use Rattle.std.specs.FinMap.Entries.{put}
use Rattle.kt_base.specs.declared.cell.Cell.{Cell}
use Rattle.kt_base.specs.Literals.{same}
use Rattle.kt_key.specs.Fit.{is_key}
use Rattle.kt_key.specs.Spelling.{spelling}
use Rattle.kt_schema.specs.Names.{is_name}
use Rattle.kt_schema.specs.Columns.{key_columns, other_columns, key_kinds}
use Rattle.kt_schema.specs.declared.column.Column.{Column}
use Rattle.kt_history.specs.declared.operation.OpKind.{OpKind}
use Rattle.kt_history.specs.declared.operation.OpKind.TheVariants as op
use Rattle.kt_history.specs.declared.operation.RowOp.{RowOp}
use Rattle.kt_script.specs.declared.forms.OpForm.{OpForm}
use Rattle.kt_script.specs.declared.forms.OpForm.TheVariants as form
use Rattle.kt_script.specs.Pieces.{words_in}
use Rattle.kt_script.specs.Kinds.{kind_in}
use Rattle.kt_script.specs.Reasons.{sound, reason_if, cell_no, cell_value, form_no}

-- a literal for each column at the front of some words
abbrev pub cells_no : List Column → List (List ℕ) → ℕ
cells_no [] words = sound
cells_no (c ∷ columns) [] = 12
cells_no (c ∷ columns) (word ∷ words) = min (cell_no c word) (cells_no columns words)

abbrev pub cells_of : List Column → List (List ℕ) → List Cell
cells_of [] words = []
cells_of (c ∷ columns) [] = []
cells_of (c ∷ columns) (word ∷ words) = cell_value c.kind word ∷ cells_of columns words

abbrev pub is_empty : {A : Type 0} → List A → Bool
is_empty [] = true
is_empty (x ∷ xs) = false

-- no word is left
abbrev pub none_left_no : List (List ℕ) → ℕ
none_left_no words = reason_if (not (is_empty words)) 12

-- how many literals spell a key
abbrev pub key_len : List Column → ℕ
key_len columns = length (key_columns columns)

abbrev pub key_cells : List Column → List (List ℕ) → List Cell
key_cells columns words = cells_of (key_columns columns) words

-- the encoded key that the first words spell
abbrev pub key_of : List Column → List (List ℕ) → List ℕ
key_of columns words = spelling (key_kinds columns) (key_cells columns words)

-- a key that is too long
abbrev pub long_no : List Column → List (List ℕ) → ℕ
long_no columns words = reason_if (is_key (key_kinds columns) (key_cells columns words) && nat_lt 16384 (length (key_of columns words))) 17

-- the literals of a key
abbrev pub key_no : List Column → List (List ℕ) → ℕ
key_no columns words = min (cells_no (key_columns columns) words) (long_no columns words)

-- the bytes of signs, which no name has
abbrev pub is_sign : ℕ → Bool
is_sign b = (b == 61) || ((b == 60) || (b == 62))

-- what stands before the first sign, and what stands from it on
abbrev pub name_in : List ℕ → List ℕ
name_in word = before_first is_sign word

abbrev pub behind_name : List ℕ → List ℕ
behind_name word = drop (length (name_in word)) word

abbrev pub column_named : List Column → List ℕ → Option Column
column_named [] name = None
column_named (c ∷ columns) name = if same c.name name then Some c else column_named columns name

-- a literal under a column that may be missing
abbrev pub under_no : Option Column → List ℕ → ℕ
under_no None literal = min 13 (form_no literal)
under_no (Some c) literal = cell_no c literal

-- the literal behind the sign of NAME=LIT
abbrev pub given_no : List Column → List ℕ → List ℕ → ℕ
given_no others name [] = 12
given_no others name (b ∷ literal) = if is_name name && (b == 61) then under_no (column_named others name) literal else 12

-- NAME=LIT, of a column that is no key
abbrev pub named_no : List Column → List ℕ → ℕ
named_no others word = given_no others (name_in word) (behind_name word)

-- a word for each name, none of which is among those before it
abbrev pub all_named_no : List Column → List (List ℕ) → List (List ℕ) → ℕ
all_named_no others seen [] = sound
all_named_no others seen (word ∷ words) = min (named_no others word) (min (reason_if (list_any (λ n. same n (name_in word)) seen) 13) (all_named_no others (seen ++ name_in word ∷ []) words))

-- a column that an upsert has to name
abbrev pub must_be_named : List (List ℕ) → Column → Bool
must_be_named names c = (not c.nullable && not (is_some c.default)) && not (list_any (λ n. same n c.name) names)

abbrev pub left_out_no : List Column → List (List ℕ) → ℕ
left_out_no others words = reason_if (list_any (must_be_named (map name_in words)) others) 15

-- why the words behind a key are refused, by the form of their operation
abbrev pub rest_no : List Column → OpForm → List (List ℕ) → ℕ
rest_no others form.Literals words = min (cells_no others words) (none_left_no (drop (length others) words))
rest_no others form.RowNames words = min (all_named_no others [] words) (left_out_no others words)
rest_no others form.Names words = min (all_named_no others [] words) (reason_if (is_empty words) 12)
rest_no others form.Key words = none_left_no words

-- why an operation's words behind its first are refused
abbrev pub behind_no : List Column → OpForm → List (List ℕ) → ℕ
behind_no columns f words = min (key_no columns words) (rest_no (other_columns columns) f (drop (key_len columns) words))

-- the form of each kind of operation: one that ignores has that of its plain kind
abbrev pub op_form : OpKind → OpForm
op_form op.Insert = form.Literals
op_form op.Upsert = form.RowNames
op_form op.Update = form.Names
op_form op.Delete = form.Key
op_form op.InsertIgnore = form.Literals
op_form op.UpdateIgnore = form.Names
op_form op.DeleteIgnore = form.Key

-- the first word of each kind of operation
abbrev pub op_word : OpKind → List ℕ
op_word op.Insert = codes "insert"
op_word op.Upsert = codes "upsert"
op_word op.Update = codes "update"
op_word op.Delete = codes "delete"
op_word op.InsertIgnore = codes "insert-ignore"
op_word op.UpdateIgnore = codes "update-ignore"
op_word op.DeleteIgnore = codes "delete-ignore"

abbrev pub op_kinds : List OpKind
op_kinds = op.Insert ∷ op.Upsert ∷ op.Update ∷ op.Delete ∷ op.InsertIgnore ∷ op.UpdateIgnore ∷ op.DeleteIgnore ∷ []

-- the kind of an operation by its first word
abbrev pub op_kind : List ℕ → Option OpKind
op_kind word = kind_in op_word op_kinds word

abbrev pub kind_no : List Column → Option OpKind → List (List ℕ) → ℕ
kind_no columns None words = 12
kind_no columns (Some kind) words = behind_no columns (op_form kind) words

-- why an operation is refused
abbrev pub op_no : List Column → List (List ℕ) → ℕ
op_no columns [] = 12
op_no columns (word ∷ words) = kind_no columns (op_kind word) words

-- the words of each operation
abbrev pub ops_of : List (List ℕ) → List (List (List ℕ))
ops_of [] = [] ∷ []
ops_of (word ∷ words) = if same word (codes ";") then [] ∷ ops_of words else onto_first word (ops_of words)

abbrev pub ops_no : List Column → List (List (List ℕ)) → ℕ
ops_no columns [] = sound
ops_no columns (words ∷ ops) = min (op_no columns words) (ops_no columns ops)

-- the number that the first eight bytes of a key spell
abbrev pub front : List ℕ → ℕ
front key = from_be_bytes w64 (take 8 key)

abbrev pub twice : List (List ℕ) → Bool
twice [] = false
twice (x ∷ xs) = list_any (λ y. same x y) xs || twice xs

abbrev pub op_key : List Column → List (List ℕ) → List ℕ
op_key columns [] = []
op_key columns (word ∷ words) = key_of columns words

-- why a write is refused
abbrev pub write_no : List Column → List (List ℕ) → ℕ
write_no columns words = min (ops_no columns (ops_of words))
    (min (reason_if (nat_lt 64 (length (ops_of words))) 18)
    (reason_if (twice (map (op_key columns) (ops_of words))) 19))

-- cells under their columns
abbrev pub under : List Column → List Cell → List (ℕ × Cell)
under [] cells = []
under (c ∷ columns) [] = []
under (c ∷ columns) (cell ∷ cells) = (c.id, cell) ∷ under columns cells

-- the cells with one more, if its column is there
abbrev pub with_named : Option Column → List ℕ → List (ℕ × Cell) → List (ℕ × Cell)
with_named None literal cells = cells
with_named (Some c) literal cells = put nat_cmp c.id (cell_value c.kind literal) cells

-- the named cells after these, by rising id
abbrev pub all_named : List Column → List (ℕ × Cell) → List (List ℕ) → List (ℕ × Cell)
all_named others cells [] = cells
all_named others cells (word ∷ words) = all_named others (with_named (column_named others (name_in word)) (drop 1 (behind_name word)) cells) words

-- the cells that the words behind a key say
abbrev pub rest_cells : List Column → OpForm → List (List ℕ) → List (ℕ × Cell)
rest_cells others form.Literals words = under others (cells_of others words)
rest_cells others form.RowNames words = all_named others [] words
rest_cells others form.Names words = all_named others [] words
rest_cells others form.Key words = []

-- the cells that the words behind an operation's first say
abbrev pub cells_said : List Column → OpForm → List (List ℕ) → List (ℕ × Cell)
cells_said columns f words = rest_cells (other_columns columns) f (drop (key_len columns) words)

abbrev pub op_cells : List Column → Option OpKind → List (List ℕ) → List (ℕ × Cell)
op_cells columns None words = []
op_cells columns (Some kind) words = cells_said columns (op_form kind) words

abbrev pub kind_or_delete : Option OpKind → OpKind
kind_or_delete None = op.Delete
kind_or_delete (Some kind) = kind

abbrev pub op_of : List Column → List (List ℕ) → RowOp
op_of columns [] = record { kind = op.Delete; key = []; cells = [] }
op_of columns (word ∷ words) = record { kind = kind_or_delete (op_kind word); key = key_of columns words; cells = op_cells columns (op_kind word) words }

-- the operations that a write line says
abbrev pub write_of : List Column → List (List ℕ) → List RowOp
write_of columns words = map (op_of columns) (ops_of words)

-- a column of some columns, as it is kept there
abbrev pub IsFound : List Column → List ℕ → Option (Bor Column) → Type 0
IsFound columns name None = column_named columns name ≡ None
IsFound columns name (Some c) = column_named columns name ≡ Some c.now

-- the words of the first operation
abbrev pub first_op : List (List ℕ) → List (List ℕ)
first_op [] = []
first_op (word ∷ words) = if same word (codes ";") then [] else word ∷ first_op words

-- the words of each operation behind the first
abbrev pub later_ops : List (List ℕ) → List (List (List ℕ))
later_ops [] = []
later_ops (word ∷ words) = if same word (codes ";") then ops_of words else later_ops words

-- the operation at the front of what is left of a line, and those behind it
abbrev pub op_in : Option (Bor (List ℕ)) → List (List ℕ)
op_in rest = first_op (words_in rest)

abbrev pub later_in : Option (Bor (List ℕ)) → List (List (List ℕ))
later_in rest = later_ops (words_in rest)

-- the operations that are left, if any are
abbrev pub ops_in : Option (Option (Bor (List ℕ))) → List (List (List ℕ))
ops_in None = []
ops_in (Some rest) = ops_of (words_in rest)

-- the words of a line that is cut behind its first word, and none where nothing is left of it
abbrev pub words_cut : Option (Bor (List ℕ) × Option (Bor (List ℕ))) → List (List ℕ)
words_cut None = []
words_cut (Some cut) = cut.0.now ∷ words_in cut.1

-- the operations of such a line, if any are left
abbrev pub ops_cut : Option (Option (Bor (List ℕ) × Option (Bor (List ℕ)))) → List (List (List ℕ))
ops_cut None = []
ops_cut (Some cut) = ops_of (words_cut cut)

-- a word of an operation, and what is left behind it
abbrev pub IsOpCut : Option (Bor (List ℕ)) → List ℕ → Option (Bor (List ℕ)) → Type 0
IsOpCut rest word behind = (op_in rest ≡ word ∷ op_in behind) × (later_in behind ≡ later_in rest)

-- names as they are kept
abbrev pub names_now : List (Bor (List ℕ)) → List (List ℕ)
names_now names = map (λ (name : Bor (List ℕ)). name.now) names

-- a name that stands before
abbrev pub again_no : List (List ℕ) → List ℕ → ℕ
again_no seen name = reason_if (list_any (λ n. same n name) seen) 13

-- the literal behind a name, or none where the word is no NAME=LIT
abbrev pub IsGiven : List ℕ → List ℕ → Option (Bor (List ℕ)) → Type 0
IsGiven name behind None = (others : List Column) → given_no others name behind ≡ 12
IsGiven name behind (Some literal) = (literal.now ≡ drop 1 behind) × ((others : List Column) → given_no others name behind ≡ under_no (column_named others name) literal.now)

-- an operation of a kind with these words of a form behind its first
abbrev pub op_said : List Column → OpKind → OpForm → List (List ℕ) → RowOp
op_said columns kind form words = record { kind = kind; key = key_of columns words; cells = cells_said columns form words }

-- too many operations, with so many before them
abbrev pub many_no : ℕ → List (List (List ℕ)) → ℕ
many_no kept ops = reason_if (nat_lt 64 (kept + length ops)) 18

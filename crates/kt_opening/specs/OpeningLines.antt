-- What a line of an opening says: one of its first two, one that begins a write, a row or a change.
use Rattle.std.specs.Prelude.{ℕ, Bool, ◌&&◌, List, [], ◌∷◌, Option, Some, None, nat_le, nat_lt, min, drop, length, if◌then◌else◌, codes}
use Rattle.std.specs.Option.{option_map, option_and_then}
use Rattle.kt_base.specs.Literals.{same}
use Rattle.kt_schema.specs.declared.column.Column.{Column}
use Rattle.kt_schema.specs.Columns.{other_columns}
use Rattle.kt_history.specs.declared.change.Change.{Change}
use Rattle.kt_history.specs.declared.change.Change.TheVariants.{Ins, Upd, Del}
use Rattle.kt_history.specs.Rows.{Row}
use Rattle.kt_script.specs.declared.forms.OpForm.TheVariants as form
use Rattle.kt_script.specs.Reasons.{sound}
use Rattle.kt_script.specs.Pieces.{cut, words_of}
use Rattle.kt_script.specs.Outputs.{counted, unless_more, number_in}
use Rattle.kt_script.specs.Writes.{is_empty, first_op, later_ops, key_len, key_of, key_no, cells_no, cells_said, all_named_no, none_left_no}

-- ---- lines of words and numbers

-- `ahm A last C`
abbrev pub head_numbers : List (List ℕ) → Option (ℕ × ℕ)
head_numbers words = option_and_then (λ (a : ℕ × List (List ℕ)). option_and_then (λ (c : ℕ × List (List ℕ)). unless_more (a.0, c.0) c.1) (counted (codes "last") a.1)) (counted (codes "ahm") words)

abbrev pub head_of_words : List (List ℕ) → Option (ℕ × ℕ)
head_of_words [] = None
head_of_words (word ∷ more) = if same word (codes "opening") then head_numbers more else None

-- `opening ahm A last C`: the mark and the last timestamp
abbrev pub head_in : List ℕ → Option (ℕ × ℕ)
head_in text = head_of_words (cut 32 text)

-- a mark that is not above the last timestamp
abbrev pub in_order : ℕ × ℕ → Option (ℕ × ℕ)
in_order head = if nat_le head.0 head.1 then Some head else None

-- a first line that may stand
abbrev pub begin_in : List ℕ → Option (ℕ × ℕ)
begin_in text = option_and_then in_order (head_in text)

-- `rows N`: how many rows follow
abbrev pub count_in : List ℕ → Option ℕ
count_in text = option_and_then (λ (n : ℕ × List (List ℕ)). unless_more n.0 n.1) (counted (codes "rows") (cut 32 text))

-- one number, and no word more
abbrev pub number_alone : List (List ℕ) → Option ℕ
number_alone [] = None
number_alone (digits ∷ []) = number_in digits
number_alone (digits ∷ word ∷ more) = None

-- `write TS n`: the timestamp, and how many changes follow
abbrev pub write_in : List ℕ → Option (ℕ × ℕ)
write_in text = option_and_then (λ (ts : ℕ × List (List ℕ)). option_map (λ n. (ts.0, n)) (number_alone ts.1)) (counted (codes "write") (cut 32 text))

-- a write above a timestamp, not above the last, with some changes
abbrev pub in_turn : ℕ → ℕ → ℕ × ℕ → Option (ℕ × ℕ)
in_turn low c write = if nat_lt low write.0 && (nat_le write.0 c && nat_lt 0 write.1) then Some write else None

-- the first line of a write that may stand between these timestamps
abbrev pub turn_in : ℕ → ℕ → List ℕ → Option (ℕ × ℕ)
turn_in low c text = option_and_then (in_turn low c) (write_in text)

-- ---- rows and changes

-- no reason holds against some words, and none of them is `;`
abbrev pub may_stand : (List (List ℕ) → ℕ) → List (List ℕ) → Bool
may_stand reason words = nat_le sound (reason (first_op words)) && is_empty (later_ops words)

-- the least reason against a literal for each column and no word more
abbrev pub insert_no : List Column → List (List ℕ) → ℕ
insert_no columns words =
    min (key_no columns words) (min (cells_no (other_columns columns) (drop (key_len columns) words)) (none_left_no (drop (length (other_columns columns)) (drop (key_len columns) words))))

-- against the literals of a key and any number of `NAME=LIT`
abbrev pub changes_no : List Column → List (List ℕ) → ℕ
changes_no columns words = min (key_no columns words) (all_named_no (other_columns columns) [] (drop (key_len columns) words))

-- against the literals of a key and no word more
abbrev pub delete_no : List Column → List (List ℕ) → ℕ
delete_no columns words = min (key_no columns words) (none_left_no (drop (key_len columns) words))

-- the key and the other cells that a literal for each column says
abbrev pub row_said : List Column → List (List ℕ) → Option (List ℕ × Row)
row_said columns words = if may_stand (insert_no columns) words then Some (key_of columns (first_op words), cells_said columns form.Literals (first_op words)) else None

-- the key and the cells that the literals of a key and any number of `NAME=LIT` say
abbrev pub named_said : List Column → List (List ℕ) → Option (List ℕ × Row)
named_said columns words = if may_stand (changes_no columns) words then Some (key_of columns (first_op words), cells_said columns form.Names (first_op words)) else None

-- the key that literals say
abbrev pub key_said : List Column → List (List ℕ) → Option (List ℕ)
key_said columns words = if may_stand (delete_no columns) words then Some (key_of columns (first_op words)) else None

-- a row: a literal for each column
abbrev pub row_in : List Column → List ℕ → Option (List ℕ × Row)
row_in columns text = row_said columns (words_of text)

-- a change, by its first word
abbrev pub change_of_words : List Column → List (List ℕ) → Option (List ℕ × Change)
change_of_words columns [] = None
change_of_words columns (word ∷ more) =
    if same word (codes "ins") then option_map (λ (r : List ℕ × Row). (r.0, Ins r.1)) (row_said columns more)
    else (if same word (codes "upd") then option_map (λ (r : List ℕ × Row). (r.0, Upd r.1)) (named_said columns more)
    else (if same word (codes "del") then option_map (λ key. (key, Del)) (key_said columns more)
    else None))

-- `ins ROW`, `upd KEYS` and any number of `NAME=LIT`, or `del KEYS`
abbrev pub change_in : List Column → List ℕ → Option (List ℕ × Change)
change_in columns text = change_of_words columns (words_of text)

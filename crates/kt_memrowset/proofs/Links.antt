-- A change read from its bytes, and its bytes after a change of its first fields.
use Rattle.std.proofs.Common.{◌≡◌, ℕ, ◌+◌, ◌-◌, ◌≤◌, List, [], ◌∷◌, ◌++◌, length, take, drop, Ok, refl, sym, ap, ◌∙◌, arith, length-append}
use Rattle.std.specs.List.{flat_map, sum_by}
use Rattle.std.specs.Int.{w16, to_le_bytes}
use Rattle.std.proofs.lemmas.List.{append-nil, drop-take, get_or-take}
use Rattle.byteorder.specs.Endian.{little_number, little_bytes}
use Rattle.byteorder.specs.Numbers.{little_number-reads_back, little_from-take}
use Rattle.kt_history.specs.declared.target.Kindly.{Kindly}
use Rattle.kt_history.specs.declared.target.Kindly.TheVariants.{Ins, Upd, Del}
use Rattle.kt_history.specs.Rows.{Row}
use Rattle.kt_base.specs.declared.cell.Cell.{Cell}
use Rattle.kt_base.specs.declared.cell.Cell.TheVariants as cells
use Rattle.kt_history.specs.Operations.{cell_len}
use Rattle.std.proofs.lemmas.List.Concat.{flat_map-cons}
use Rattle.std.proofs.lemmas.List.Sums.{sum_by-cons}
use Rattle.kt_cells.specs.Spelling.{cell, listed_cell, cell_list}
use Rattle.kt_cells.specs.Reading.{cells_at}
use Rattle.kt_cells.proofs.Cells as listed
use Rattle.kt_pool.specs.Contents.{Contents, bytes_at, overwritten}
use Rattle.kt_tree.proofs.Places.{bytes_some}
use Rattle.kt_memrowset.specs.declared.link.Head.{Head}
use Rattle.kt_memrowset.specs.Links.{kind_byte, kind_of, Link, head_of, cells_read, link_at, spelling, CellsFit, HeadFits, IsLink}

kind_again : (k : Kindly) → kind_of (kind_byte k) ≡ k
kind_again Ins = refl
kind_again Upd = refl
kind_again Del = refl

abbrev of : ℕ → ℕ → ℕ → ℕ → Kindly → Head
of next last before ts kind = record { next = next; last = last; before = before; ts = ts; kind = kind }

same_head : (a b : Head) → a.next ≡ b.next → a.last ≡ b.last → a.before ≡ b.before → a.ts ≡ b.ts → a.kind ≡ b.kind → a ≡ b
same_head a b e f g h i =
    ap (λ x. of x a.last a.before a.ts a.kind) e ∙ ap (λ x. of b.next x a.before a.ts a.kind) f
    ∙ ap (λ x. of b.next b.last x a.ts a.kind) g ∙ ap (λ x. of b.next b.last b.before x a.kind) h ∙ ap (λ x. of b.next b.last b.before b.ts x) i

drop_front : (n m : ℕ) (bytes : List ℕ) → n ≤ m → drop n (take m bytes) ≡ take (m - n) (drop n bytes)
drop_front n m bytes low = let e : m ≡ n + (m - n) = omega arith in ap (λ m. drop n (take m bytes)) e ∙ drop-take n (m - n) bytes

-- the first fields stand in the first bytes
pub head_front : (m : ℕ) (bytes : List ℕ) → 23 ≤ m → head_of (take m bytes) ≡ head_of bytes
head_front m bytes low =
    same_head (head_of (take m bytes)) (head_of bytes)
    (little_from-take 0 4 m bytes (omega arith))
    (ap (little_number 4) (drop_front 4 m bytes (omega arith)) ∙ little_from-take 0 4 (m - 4) (drop 4 bytes) (omega arith))
    (ap (little_number 4) (drop_front 8 m bytes (omega arith)) ∙ little_from-take 0 4 (m - 8) (drop 8 bytes) (omega arith))
    (ap (little_number 8) (drop_front 12 m bytes (omega arith)) ∙ little_from-take 0 8 (m - 12) (drop 12 bytes) (omega arith))
    (ap kind_of (get_or-take m bytes 20 0 (omega arith)))

-- the first fields are read as they are spelled
pub head_again : (h : Head) (cells : Row) → HeadFits h → head_of (spelling h cells) ≡ h
head_again h cells f =
    same_head (head_of (spelling h cells)) h
    (little_number-reads_back 4 h.next (little_bytes 4 h.last ++ (little_bytes 4 h.before ++ (little_bytes 8 h.ts ++ kind_byte h.kind ∷ cell_list cells))) f.next)
    (little_number-reads_back 4 h.last (little_bytes 4 h.before ++ (little_bytes 8 h.ts ++ kind_byte h.kind ∷ cell_list cells)) f.last)
    (little_number-reads_back 4 h.before (little_bytes 8 h.ts ++ kind_byte h.kind ∷ cell_list cells) f.before)
    (little_number-reads_back 8 h.ts (kind_byte h.kind ∷ cell_list cells) f.ts)
    (kind_again h.kind)

-- and so are the cells
pub cells_again : (cells : Row) → CellsFit cells → cells_at (cell_list cells) ≡ Ok (cells, [])
cells_again cells fits = ap cells_at (sym (append-nil (cell_list cells))) ∙ listed.cells_again cells [] (record { count = fits.count; each = fits.each })

pub rest_is : (h : Head) (cells : Row) → drop 21 (spelling h cells) ≡ cell_list cells
rest_is h cells = refl

pub link_bytes : (pool : Contents) (l : Link) → IsLink pool l → bytes_at pool l.cell ≡ spelling l.head l.cells
link_bytes pool l s = bytes_some pool l.cell (spelling l.head l.cells) s.bytes

pub link_head : (pool : Contents) (l : Link) → IsLink pool l → head_of (bytes_at pool l.cell) ≡ l.head
link_head pool l s = ap head_of (link_bytes pool l s) ∙ head_again l.head l.cells s.head

pub link_cells : (pool : Contents) (l : Link) → IsLink pool l → cells_at (drop 21 (bytes_at pool l.cell)) ≡ Ok (l.cells, [])
link_cells pool l s = ap (λ bytes. cells_at (drop 21 bytes)) (link_bytes pool l s) ∙ cells_again l.cells s.cells

abbrev linked : ℕ → Head → Row → Link
linked cell head cells = record { cell = cell; head = head; cells = cells }

-- a change that stands is the one that the pool spells
pub link_again : (pool : Contents) (l : Link) → IsLink pool l → link_at pool l.cell ≡ l
link_again pool l s =
    ap (λ h. linked l.cell h (cells_read (cells_at (drop 21 (bytes_at pool l.cell))))) (link_head pool l s)
    ∙ ap (λ r. linked l.cell l.head (cells_read r)) (link_cells pool l s)

-- ---- another next change, or another last one

pub next_over : (v : ℕ) (h : Head) (cells : Row) → overwritten 0 (little_bytes 4 v) (spelling h cells) ≡ spelling (record h { next = v }) cells
next_over v h cells = refl

pub last_over : (v : ℕ) (h : Head) (cells : Row) → overwritten 4 (little_bytes 4 v) (spelling h cells) ≡ spelling (record h { last = v }) cells
last_over v h cells = refl

pub length-spelling : (h : Head) (cells : Row) → length (spelling h cells) ≡ 23 + length (flat_map listed_cell cells)
length-spelling h cells = omega (arith, length-append (to_le_bytes w16 (length cells)) (flat_map listed_cell cells))

length-cell : (c : Cell) → length (cell c) ≡ cell_len c
length-cell cells.Null = refl
length-cell (cells.Bool b) = refl
length-cell (cells.Int n) = refl
length-cell (cells.Bytes bytes) = omega arith

pub length-cells : (listed : Row) → length (flat_map listed_cell listed) ≡ sum_by (λ (c : ℕ × Cell). 2 + cell_len c.1) listed
length-cells [] = refl
length-cells (c ∷ listed) =
    let first : length (listed_cell c) ≡ 2 + cell_len c.1 = length-append (to_le_bytes w16 c.0) (cell c.1) ∙ ap (λ n. 2 + n) (length-cell c.1) in
    ap length (flat_map-cons listed_cell c listed) ∙ omega (arith, length-append (listed_cell c) (flat_map listed_cell listed), first, length-cells listed, sum_by-cons (λ (d : ℕ × Cell). 2 + cell_len d.1) c listed)

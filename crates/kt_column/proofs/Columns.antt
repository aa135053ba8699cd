-- The bytes of a column, a block more at a time.
use Rattle.std.proofs.Common.{◌≡◌, ◌≤◌, ◌<◌, ◌+◌, ◌-◌, ◌*◌, ℕ, zero, suc, List, [], ◌∷◌, ◌++◌, length, take, drop, min, get_or, refl, sym, ap, ◌∙◌, subst, arith, append_assoc, append-nil, length-append, length-take, ◌^◌, All}
use Rattle.std.proofs.lemmas.List.{take-append-le, drop-append-le, take_all, length-drop, nil_from_length, take-append-drop, take_more, get_or-take, get_or-append-add}
use Rattle.kt_base.specs.declared.cell.Cell.{Cell}
use Rattle.kt_column.specs.declared.form.Form.{Form}
use Rattle.kt_column.specs.Blocks.{BlockValue, IsCell, AreCells, SpellsBlock}
use Rattle.kt_column.specs.Columns.{ColumnValue, block_count, SpellsBlocks, SpellsColumn, IsPart, AreParts, AreFull, cells_in}
use Rattle.kt_column.proofs.Contents.{make}
use Rattle.kt_column.proofs.Places.{make_column, cells_push, full_before, part_at}

spells_push : (form : Form) (k : ℕ) (cs ds : List Cell) (a b : List ℕ) → length cs ≡ 8192 * k → SpellsBlocks form k cs a → SpellsBlock form ds b → SpellsBlocks form (suc k) (cs ++ ds) (a ++ b)
spells_push form zero cs ds a b len s t =
    let none : cs ≡ [] = nil_from_length cs (omega (arith, len)) in
    let cells : take 8192 (cs ++ ds) ≡ ds = ap (λ l. take 8192 (l ++ ds)) none ∙ take_all 8192 ds t.cells.few in
    (b, [], ap (λ l. l ++ b) s ∙ sym (append-nil b), subst (λ l. SpellsBlock form l b) (sym cells) t, refl)
spells_push form (suc k) cs ds a b len s t =
    let front : take 8192 (cs ++ ds) ≡ take 8192 cs = take-append-le 8192 cs ds (omega (arith, len)) in
    let back : drop 8192 (cs ++ ds) ≡ drop 8192 cs ++ ds = drop-append-le 8192 cs ds (omega (arith, len)) in
    let rest : SpellsBlocks form (suc k) (drop 8192 cs ++ ds) (s.1 ++ b) = spells_push form k (drop 8192 cs) ds s.1 b (omega (arith, len, length-drop 8192 cs)) s.4 t in
    (s.0, s.1 ++ b, ap (λ l. l ++ b) s.2 ∙ append_assoc s.0 s.1 b, subst (λ l. SpellsBlock form l s.0) (sym front) s.3, subst (λ l. SpellsBlocks form (suc k) l (s.1 ++ b)) (sym back) rest)

-- full blocks, and one block more
pub column_push : (form : Form) (cs ds : List Cell) (a b : List ℕ) → AreFull cs → 0 < length ds → SpellsColumn form cs a → SpellsBlock form ds b → SpellsColumn form (cs ++ ds) (a ++ b)
column_push form cs ds a b full some s t =
    let whole : length cs ≡ 8192 * block_count (length cs) = omega (arith, full) in
    let one : suc (block_count (length cs)) ≡ block_count (length (cs ++ ds)) = omega (arith, full, some, t.cells.few, length-append cs ds) in
    subst (λ k. SpellsBlocks form k (cs ++ ds) (a ++ b)) one (spells_push form (block_count (length cs)) cs ds a b whole s t)

-- a block more of the blocks in memory
pub spelled_more : (form : Form) (bs : List BlockValue) (k : ℕ) (b : BlockValue) (out bytes new : List ℕ) → AreParts form bs → k < length bs → b ≡ get_or bs k b → SpellsColumn form (cells_in (take k bs)) out → SpellsBlock b.form b.cells bytes → new ≡ out ++ bytes → SpellsColumn form (cells_in (take (k + 1) bs)) new
spelled_more form bs k b out bytes new h lt is s t e =
    let part : IsPart form b = subst (IsPart form) (sym is) (part_at form bs k b h lt) in
    let cells : cells_in (take (k + 1) bs) ≡ cells_in (take k bs) ++ b.cells = ap cells_in (take_more bs k b lt) ∙ ap (λ x. cells_in (take k bs ++ x ∷ [])) (sym is) ∙ cells_push (take k bs) b in
    let pushed : SpellsColumn form (cells_in (take k bs) ++ b.cells) (out ++ bytes) = column_push form (cells_in (take k bs)) b.cells out bytes (full_before form bs k h lt) part.some s (subst (λ f. SpellsBlock f b.cells bytes) part.is t) in
    subst (λ l. SpellsColumn form (cells_in (take (k + 1) bs)) l) (sym e) (subst (λ l. SpellsColumn form l (out ++ bytes)) (sym cells) pushed)

pub spelled_all : (form : Form) (bs : List BlockValue) (k : ℕ) (column : ColumnValue) (out bytes : List ℕ) → length bs ≤ k → make_column form (cells_in bs) ≡ column → SpellsColumn form (cells_in (take k bs)) out → bytes ≡ out → SpellsColumn column.form column.cells bytes
spelled_all form bs k column out bytes le view s e =
    subst (λ l. SpellsColumn column.form column.cells l) (sym e) (subst (λ (c : ColumnValue). SpellsColumn c.form c.cells out) view (subst (λ l. SpellsColumn form (cells_in l) out) (take_all k bs le) s))

-- cells are cut into blocks

pub each_front : (form : Form) (all cs rest front : List Cell) (m : ℕ) → All (IsCell form) all → cs ++ rest ≡ all → front ≡ take m rest → m ≡ min (length rest) 8192 → AreCells form front
each_front form all cs rest front m each parts is m-is =
    let len : length front ≡ m = (let taken = ap length is in omega (arith, taken, m-is, length-take m rest)) in
    record {
      each = λ k d lt.
          let here : get_or front k d ≡ get_or all (length cs + k) d = ap (λ l. get_or l k d) is ∙ get_or-take m rest k d (omega (arith, len, lt)) ∙ sym (get_or-append-add cs rest k d) ∙ ap (λ l. get_or l (length cs + k) d) parts in
          let whole = ap length parts in
          subst (IsCell form) (sym here) (each (length cs + k) d (omega (arith, whole, lt, len, m-is, length-append cs rest)));
      few = omega (arith, len, m-is);
    }

pub record IsCut (form : Form) (all : List Cell) (column : ColumnValue) (rest : List Cell) : Type 0 where
  pub is : column.form ≡ form
  pub parts : column.cells ++ rest ≡ all
  pub full : 0 < length rest → AreFull column.cells

pub cut_start : (form : Form) (all : List Cell) (column : ColumnValue) → column ≡ make_column form [] → IsCut form all column all
cut_start form all column e = subst (λ c. IsCut form all c all) (sym e) record { is = refl; parts = refl; full = λ lt. refl }

pub cut_more : (form : Form) (all : List Cell) (column new : ColumnValue) (block : BlockValue) (rest front after : List Cell) (m : ℕ) → IsCut form all column rest → 0 < length rest → m ≡ min (length rest) 8192 → front ≡ take m rest → after ≡ drop m rest → block ≡ make form front → new ≡ make_column column.form (column.cells ++ block.cells) → IsCut form all new after
cut_more form all column new block rest front after m cut some m-is front-is after-is block-is e =
    let cells : block.cells ≡ take m rest = ap (λ (b : BlockValue). b.cells) block-is ∙ front-is in
    let len : length block.cells ≡ m = (let taken = ap length cells in omega (arith, taken, m-is, length-take m rest)) in
    let left : length after ≡ length rest - m = ap length after-is ∙ length-drop m rest in
    subst (λ c. IsCut form all c after) (sym e) record {
      is = cut.is;
      parts = append_assoc column.cells block.cells after ∙ ap (λ l. column.cells ++ (l ++ after)) cells ∙ ap (λ l. column.cells ++ (take m rest ++ l)) after-is ∙ ap (λ l. column.cells ++ l) (take-append-drop m rest) ∙ cut.parts;
      full = λ more. (let before = cut.full some in omega (arith, more, left, m-is, len, before, length-append column.cells block.cells));
    }

pub cut_room : (form : Form) (all : List Cell) (column : ColumnValue) (block : BlockValue) (rest front : List Cell) (m : ℕ) → IsCut form all column rest → length all < 2 ^ 32 → m ≡ min (length rest) 8192 → front ≡ take m rest → block ≡ make form front → length column.cells + length block.cells < 2 ^ 32
cut_room form all column block rest front m cut few m-is front-is block-is =
    let cells = ap (λ (b : BlockValue). length b.cells) block-is ∙ ap length front-is in
    let whole = ap length cut.parts in
    omega (arith, cells, whole, few, m-is, length-take m rest, length-append column.cells rest)

pub cut_end : (form : Form) (all : List Cell) (column : ColumnValue) (rest : List Cell) → IsCut form all column rest → length rest ≡ 0 → column ≡ make_column form all
cut_end form all column rest cut none =
    let parts : column.cells ≡ all = sym (append-nil column.cells) ∙ ap (λ l. column.cells ++ l) (sym (nil_from_length rest none)) ∙ cut.parts in
    ap (λ f. make_column f column.cells) cut.is ∙ ap (make_column form) parts

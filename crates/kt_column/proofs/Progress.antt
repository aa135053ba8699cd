-- The blocks of a column that were read so far, and what is behind them.
use Rattle.std.proofs.Common.{◌≡◌, ◌≤◌, ◌<◌, ◌+◌, ◌-◌, ◌*◌, ◌/◌, ◌^◌, ℕ, suc, List, [], ◌++◌, length, take, drop, min, refl, sym, ap, ◌∙◌, subst, arith, append_assoc, append-nil, length-append, length-take}
use Rattle.std.proofs.lemmas.List.{nil_from_length, length-drop, drop-drop, take-append-drop}
use Rattle.std.proofs.Math.Seq.{take-add, drop-append_seam}
use Rattle.kt_base.specs.declared.cell.Cell.{Cell}
use Rattle.kt_column.specs.declared.form.Form.{Form}
use Rattle.kt_column.specs.declared.errors.CodecNo.{CodecNo}
use Rattle.kt_column.specs.declared.errors.CodecNo.TheVariants as answers
use Rattle.kt_column.specs.Blocks.{BlockValue, SpellsBlock}
use Rattle.kt_column.specs.Faults.{IsFound, IsRefusal}
use Rattle.kt_column.specs.Columns.{ColumnValue, block_count, SpellsBlocks, SpellsColumn, AreFull, IsColumnFound, IsColumnRefusal, IsShiftable, shifted}
use Rattle.kt_column.proofs.Columns.{column_push}
use Rattle.kt_column.proofs.Places.{make_column}
use Rattle.kt_column.proofs.Faulty.{block_within}
use Rattle.kt_column.proofs.Contents.{make}

-- what is left of a spelling behind cells that were read
pub record Remains (form : Form) (read : List Cell) (used : ℕ) (behind : List ℕ) (cs : List Cell) (front rest : List ℕ) : Type 0 where
  pub later : List Cell
  pub more : List ℕ
  pub cells : cs ≡ read ++ later
  pub lengths : length front ≡ used + length more
  pub spelled : SpellsColumn form later more
  pub bytes : behind ≡ more ++ rest

-- full blocks stand, unless all rows are read
pub record Progress (form : Form) (rows : ℕ) (bytes : List ℕ) (column : ColumnValue) (used : ℕ) : Type 0 where
  pub is : column.form ≡ form
  pub few : length column.cells ≤ rows
  pub full : length column.cells < rows → AreFull column.cells
  pub found : IsColumnFound form (length column.cells) bytes column.cells used
  pub only : (cs : List Cell) (front rest : List ℕ) → SpellsColumn form cs front → length cs ≡ rows → bytes ≡ front ++ rest → Remains form column.cells used (drop used bytes) cs front rest

pub at_start : (form : Form) (rows : ℕ) (bytes : List ℕ) (column : ColumnValue) → column ≡ make_column form [] → Progress form rows bytes column 0
at_start form rows bytes column e =
    subst (λ c. Progress form rows bytes c 0) (sym e) record {
      is = refl;
      few = omega arith;
      full = λ lt. refl;
      found = record { within = omega arith; counted = refl; spelled = refl };
      only = λ cs front rest s len is. record { later = cs; more = front; cells = refl; lengths = omega arith; spelled = s; bytes = is };
    }

-- a block more
found_push : (form : Form) (n : ℕ) (bytes : List ℕ) (cs ds : List Cell) (used len : ℕ) → IsColumnFound form (length cs) bytes cs used → AreFull cs → 0 < n → IsFound form n (drop used bytes) ds len → IsColumnFound form (length (cs ++ ds)) bytes (cs ++ ds) (used + len)
found_push form n bytes cs ds used len f full some b =
    let parts : take (used + len) bytes ≡ take used bytes ++ take len (drop used bytes) = take-add used len bytes in
    record {
      within = omega (arith, f.within, b.within, length-drop used bytes);
      counted = refl;
      spelled = subst (λ l. SpellsColumn form (cs ++ ds) l) (sym parts) (column_push form cs ds (take used bytes) (take len (drop used bytes)) full (omega (arith, some, b.counted)) f.spelled b.spelled);
    }

-- the next block of what is left
abbrev pub OnlyBlock : Form → ℕ → List ℕ → BlockValue → ℕ → Type 0
OnlyBlock form n bytes block len = (cs : List Cell) (front rest : List ℕ) → SpellsBlock form cs front → length cs ≡ n → bytes ≡ front ++ rest → (block ≡ make form cs) × (len ≡ length front)

next_block : (form : Form) (k n used len : ℕ) (read later : List Cell) (block : BlockValue) (bytes more rest front : List ℕ) (cs : List Cell) →
    cs ≡ read ++ later → length front ≡ used + length more → SpellsBlocks form (suc k) later more → drop used bytes ≡ more ++ rest → n ≡ length (take 8192 later) → k ≡ block_count (length (drop 8192 later)) → OnlyBlock form n (drop used bytes) block len
    → Remains form (read ++ block.cells) (used + len) (drop (used + len) bytes) cs front rest
next_block form k n used len read later block bytes more rest front cs cells lengths s is count blocks only =
    let here : drop used bytes ≡ s.0 ++ (s.1 ++ rest) = is ∙ ap (λ l. l ++ rest) s.2 ∙ append_assoc s.0 s.1 rest in
    let same = only (take 8192 later) s.0 (s.1 ++ rest) s.3 (sym count) here in
    let taken : block.cells ≡ take 8192 later = ap (λ (b : BlockValue). b.cells) same.0 in
    let whole : read ++ later ≡ (read ++ block.cells) ++ drop 8192 later = ap (λ l. read ++ l) (sym (take-append-drop 8192 later)) ∙ sym (append_assoc read (take 8192 later) (drop 8192 later)) ∙ ap (λ l. (read ++ l) ++ drop 8192 later) (sym taken) in
    let behind : drop (used + len) bytes ≡ s.1 ++ rest = sym (drop-drop len used bytes) ∙ ap (drop len) here ∙ ap (λ i. drop i (s.0 ++ (s.1 ++ rest))) same.1 ∙ drop-append_seam s.0 (s.1 ++ rest) in
    record {
      later = drop 8192 later;
      more = s.1;
      cells = cells ∙ whole;
      lengths = (let parts = ap length s.2 in omega (arith, lengths, parts, same.1, length-append s.0 s.1));
      spelled = subst (λ i. SpellsBlocks form i (drop 8192 later) s.1) blocks s.4;
      bytes = behind;
    }

remains_push : (form : Form) (rows n used len : ℕ) (read : List Cell) (block : BlockValue) (bytes : List ℕ) (cs : List Cell) (front rest : List ℕ) → length cs ≡ rows → length read < rows → n ≡ min (rows - length read) 8192 → OnlyBlock form n (drop used bytes) block len → Remains form read used (drop used bytes) cs front rest → Remains form (read ++ block.cells) (used + len) (drop (used + len) bytes) cs front rest
remains_push form rows n used len read block bytes cs front rest all lt is only r =
    let left : length r.later ≡ rows - length read = (let parts = ap length r.cells in omega (arith, parts, all, length-append read r.later)) in
    let count : suc (block_count (length (drop 8192 r.later))) ≡ block_count (length r.later) = omega (arith, left, lt, length-drop 8192 r.later) in
    next_block form (block_count (length (drop 8192 r.later))) n used len read r.later block bytes r.more rest front cs r.cells r.lengths (subst (λ i. SpellsBlocks form i r.later r.more) (sym count) r.spelled) r.bytes (omega (arith, is, left, length-take 8192 r.later)) refl only

pub one_more : (form : Form) (rows n used len : ℕ) (bytes part : List ℕ) (column new : ColumnValue) (block : BlockValue) → Progress form rows bytes column used → length column.cells < rows → n ≡ min (rows - length column.cells) 8192 → part ≡ drop used bytes → IsFound form n part block.cells len → OnlyBlock form n part block len → new ≡ make_column column.form (column.cells ++ block.cells) → Progress form rows bytes new (used + len)
one_more form rows n used len bytes part column new block p lt is part-is found only-part e =
    let b : IsFound form n (drop used bytes) block.cells len = subst (λ l. IsFound form n l block.cells len) part-is found in
    let only : OnlyBlock form n (drop used bytes) block len = subst (λ l. OnlyBlock form n l block len) part-is only-part in
    let some : 0 < n = omega (arith, is, lt) in
    let len-is : length (column.cells ++ block.cells) ≡ length column.cells + n = omega (arith, b.counted, length-append column.cells block.cells) in
    let full : AreFull column.cells = p.full lt in
    subst (λ c. Progress form rows bytes c (used + len)) (sym e) record {
      is = p.is;
      few = omega (arith, len-is, is, lt);
      full = λ more. omega (arith, len-is, is, full, more);
      found = found_push form n bytes column.cells block.cells used len p.found full some b;
      only = λ cs front rest s all at. remains_push form rows n used len column.cells block bytes cs front rest all lt is only (p.only cs front rest s all at);
    }

-- all rows are read
pub all_found : (form : Form) (rows used : ℕ) (bytes : List ℕ) (column : ColumnValue) → Progress form rows bytes column used → (length column.cells < rows → ⊥) → IsColumnFound form rows bytes column.cells used
all_found form rows used bytes column p done =
    let all : length column.cells ≡ rows = omega (arith, p.few, done) in
    subst (λ n. IsColumnFound form n bytes column.cells used) all p.found

nothing_left : (form : Form) (later : List Cell) (more : List ℕ) → later ≡ [] → SpellsColumn form later more → more ≡ []
nothing_left form later more e s = subst (λ l. SpellsColumn form l more) e s

pub all_only : (form : Form) (rows used : ℕ) (bytes : List ℕ) (column : ColumnValue) → Progress form rows bytes column used → (length column.cells < rows → ⊥) → (cs : List Cell) (front rest : List ℕ) → SpellsColumn form cs front → length cs ≡ rows → bytes ≡ front ++ rest → (column ≡ make_column form cs) × (used ≡ length front)
all_only form rows used bytes column p done cs front rest s all is =
    let r = p.only cs front rest s all is in
    let none : r.later ≡ [] = nil_from_length r.later (let parts = ap length r.cells in omega (arith, parts, all, p.few, done, length-append column.cells r.later)) in
    let empty : length r.more ≡ 0 = ap length (nothing_left form r.later r.more none r.spelled) in
    let same : cs ≡ column.cells = r.cells ∙ ap (λ l. column.cells ++ l) none ∙ append-nil column.cells in
    (ap (λ f. make_column f column.cells) p.is ∙ ap (make_column form) (sym same), omega (arith, r.lengths, empty))

-- the next block is refused

pub no_block : (form : Form) (rows used n : ℕ) (bytes part : List ℕ) (column : ColumnValue) (refusal : CodecNo) → Progress form rows bytes column used → length column.cells < rows → n ≡ min (rows - length column.cells) 8192 → part ≡ drop used bytes → IsRefusal form n part refusal → IsColumnRefusal form rows bytes (shifted used refusal)
no_block form rows used n bytes part column answers.Memory p lt is part-is why = tt
no_block form rows used n bytes part column (answers.Place at) p lt is part-is why =
    let r : IsRefusal form n (drop used bytes) (answers.Place at) = subst (λ l. IsRefusal form n l (answers.Place at)) part-is why in
    let full : AreFull column.cells = p.full lt in
    let whole : length column.cells ≡ 8192 * (length column.cells / 8192) = omega (arith, full) in
    record {
      blocks = length column.cells / 8192;
      more = omega (arith, whole, lt);
      cells = column.cells;
      used = used;
      found = subst (λ k. IsColumnFound form k bytes column.cells used) whole p.found;
      at = at;
      next = subst (λ k. IsRefusal form (min (rows - k) 8192) (drop used bytes) (answers.Place at)) whole (subst (λ k. IsRefusal form k (drop used bytes) (answers.Place at)) is r);
      place = refl;
    }

pub no_only : (form : Form) (rows used n : ℕ) (bytes part : List ℕ) (column : ColumnValue) (refusal : CodecNo) → Progress form rows bytes column used → length column.cells < rows → n ≡ min (rows - length column.cells) 8192 → part ≡ drop used bytes → ((cs : List Cell) (front rest : List ℕ) → SpellsBlock form cs front → length cs ≡ n → part ≡ front ++ rest → refusal ≡ answers.Memory) → (cs : List Cell) (front rest : List ℕ) → SpellsColumn form cs front → length cs ≡ rows → bytes ≡ front ++ rest → shifted used refusal ≡ answers.Memory
no_only form rows used n bytes part column refusal p lt is part-is only cs front rest s all at =
    let r = p.only cs front rest s all at in
    let left : length r.later ≡ rows - length column.cells = (let parts = ap length r.cells in omega (arith, parts, all, length-append column.cells r.later)) in
    let count : suc (block_count (length (drop 8192 r.later))) ≡ block_count (length r.later) = omega (arith, left, lt, length-drop 8192 r.later) in
    let b : SpellsBlocks form (suc (block_count (length (drop 8192 r.later)))) r.later r.more = subst (λ i. SpellsBlocks form i r.later r.more) (sym count) r.spelled in
    ap (shifted used) (only (take 8192 r.later) b.0 (b.1 ++ rest) b.3 (omega (arith, is, left, length-take 8192 r.later)) (part-is ∙ r.bytes ∙ ap (λ l. l ++ rest) b.2 ∙ append_assoc b.0 b.1 rest))

pub refusal_shifts : (form : Form) (n used : ℕ) (bytes : List ℕ) (refusal : CodecNo) → used + length bytes < 2 ^ 64 → IsRefusal form n bytes refusal → IsShiftable used refusal
refusal_shifts form n used bytes answers.Memory room r = tt
refusal_shifts form n used bytes (answers.Place at) room h = (let within = block_within form n bytes at h in omega (arith, within, room))

-- Cells that are gone over and not kept.
use Rattle.std.proofs.Common.{◌≡◌, ℕ, ◌+◌, ◌-◌, ◌<◌, ◌≤◌, List, [], ◌∷◌, ◌++◌, length, take, drop, Result, Ok, Err, refl, sym, ap, ◌∙◌, subst, length-append, arith}
use Rattle.std.proofs.lemmas.List.{length_push, take_at, drop_at}
use Rattle.std.specs.Int.{w16}
use Rattle.kt_base.specs.declared.cell.Cell.{Cell}
use Rattle.kt_bytes.specs.declared.fault.Stop.{Stop}
use Rattle.kt_bytes.specs.declared.fault.Stop.TheVariants as stop
use Rattle.kt_bytes.specs.Reading.{◌>>=◌, Fails, number_at, many_at}
use Rattle.kt_bytes.proofs.Numbers.{IsBytes, bind_ok, then_is, ok_is}
use Rattle.kt_cells.specs.Spelling.{cell_list}
use Rattle.kt_cells.specs.Rules.{next_id, CellListFits}
use Rattle.kt_cells.specs.Reading.{id_cell_at, listed_cell_at, cells_at, rest_of, cells_behind}
use Rattle.kt_cells.specs.Spelled.{SpellsCells}
use Rattle.kt_cells.proofs.Cells.{next_id-push, cells_part, cell_list_spelled}
use Rattle.kt_cells.proofs.Items.{goes_on, ends, is_done}
use Rattle.kt_cells.proofs.Spelled.{read_back, spelled}

-- ---- so many cells

-- the first of count cells lead from the front of the bytes to the rest
pub record Walked (count i least : ℕ) (bytes rest : List ℕ) : Type 0 where
  pub front : List (ℕ × Cell)
  pub len : length front ≡ i
  pub next : next_id front ≡ least
  pub left : many_at (listed_cell_at count) (count - i) front rest ≡ many_at (listed_cell_at count) count [] bytes

pub walked_none : (count : ℕ) (bytes : List ℕ) → Walked count 0 0 bytes bytes
walked_none count bytes = record { front = []; len = refl; next = refl; left = let e : count - 0 ≡ count = omega arith in ap (λ (n : ℕ). many_at (listed_cell_at count) n [] bytes) e }

listed_is : (count i least : ℕ) (front : List (ℕ × Cell)) (bytes : List ℕ) → length front ≡ i → next_id front ≡ least → listed_cell_at count front bytes ≡ id_cell_at (count - i) least bytes
unfolding listed_cell_at id_cell_at
listed_is count i least front bytes len next = (λ k. id_cell_at (count - len k) (next k) bytes)

pub walked_more : (count i least : ℕ) (bytes rest : List ℕ) (id : ℕ) (cell : Cell) (after : List ℕ) → i < count → id_cell_at (count - i) least rest ≡ Ok ((id, cell), after) → Walked count i least bytes rest → Walked count (i + 1) (id + 1) bytes after
walked_more count i least bytes rest id cell after lt h w = record {
  front = w.front ++ (id, cell) ∷ [];
  len = length_push w.front (id, cell) ∙ ap (λ (n : ℕ). n + 1) w.len;
  next = next_id-push w.front (id, cell);
  left = goes_on (listed_cell_at count) w.front count i rest (id, cell) after (many_at (listed_cell_at count) count [] bytes) lt (listed_is count i least w.front rest w.len w.next ∙ h) w.left;
}

pub walked_all : (count i least : ℕ) (bytes rest : List ℕ) → count ≤ i → Walked count i least bytes rest → rest_of (many_at (listed_cell_at count) count [] bytes) ≡ Ok rest
walked_all count i least bytes rest le w = ap rest_of (is_done (listed_cell_at count) w.front count i rest (many_at (listed_cell_at count) count [] bytes) le w.left)

fails_on : {X : Type 0} (e : Stop) (read : Result (X × List ℕ) ℕ) → Fails e read → Fails e (rest_of read)
fails_on stop.Memory read f = tt
fails_on (stop.Left left) read f = ap rest_of f

pub walked_no_more : (e : Stop) (count i least : ℕ) (bytes rest : List ℕ) → i < count → Fails e (id_cell_at (count - i) least rest) → Walked count i least bytes rest → Fails e (rest_of (many_at (listed_cell_at count) count [] bytes))
walked_no_more e count i least bytes rest lt f w =
    fails_on e (many_at (listed_cell_at count) count [] bytes)
    (ends (listed_cell_at count) e w.front count i rest (many_at (listed_cell_at count) count [] bytes) lt (subst (Fails e) (sym (listed_is count i least w.front rest w.len w.next)) f) w.left)

-- ---- behind their count

pub counted : (bytes : List ℕ) (n : ℕ) (behind : List ℕ) → number_at w16 bytes ≡ Ok (n, behind) → cells_at bytes ≡ many_at (listed_cell_at n) n [] behind
unfolding cells_at
counted bytes n behind h = then_is (number_at w16 bytes) (λ m. many_at (listed_cell_at m.0) m.0 [] m.1) (n, behind) h

pub counted_fails : (e : Stop) (bytes : List ℕ) → Fails e (number_at w16 bytes) → Fails e (cells_at bytes)
unfolding cells_at
counted_fails stop.Memory bytes f = tt
counted_fails (stop.Left left) bytes f = ap (λ (r : Result (ℕ × List ℕ) ℕ). r >>= (λ m. many_at (listed_cell_at m.0) m.0 [] m.1)) f

pub read_behind : (bytes : List ℕ) (n : ℕ) (behind rest : List ℕ) → number_at w16 bytes ≡ Ok (n, behind) → rest_of (many_at (listed_cell_at n) n [] behind) ≡ Ok rest → rest_of (cells_at bytes) ≡ Ok rest
read_behind bytes n behind rest h e = ap rest_of (counted bytes n behind h) ∙ e

pub fails_before : {X : Type 0} (e : Stop) (read : Result (X × List ℕ) ℕ) → Fails e (rest_of read) → Fails e read
fails_before stop.Memory read f = tt
fails_before (stop.Left left) (Ok x) f = absurd cc
fails_before (stop.Left left) (Err other) f = let same : other ≡ left = cc in ap (λ (n : ℕ). Err n) same

-- the cells that stand in front of the rest, and their bytes
record InFront (bytes rest : List ℕ) : Type 0 where
  cells : List (ℕ × Cell)
  read : cells_at bytes ≡ Ok (cells, rest)
  parts : bytes ≡ cell_list cells ++ rest
  fits : CellListFits cells

in_front : (bytes rest : List ℕ) → IsBytes bytes → rest_of (cells_at bytes) ≡ Ok rest → InFront bytes rest
in_front bytes rest fits e =
    let x = bind_ok (cells_at bytes) (λ y. Ok y.1) rest e in
    let same : x.0.1 ≡ rest = ok_is x.0.1 rest x.2 in
    let took = cells_part.took bytes x.0 fits x.1 in
    record {
      cells = x.0.0;
      read = x.1 ∙ ap (λ (l : List ℕ). Ok (x.0.0, l)) same;
      parts = took.parts ∙ (λ k. cell_list_spelled x.0.0 k ++ same k);
      fits = took.fits;
    }

pub not_longer : (bytes rest : List ℕ) → IsBytes bytes → rest_of (cells_at bytes) ≡ Ok rest → length rest ≤ length bytes
not_longer bytes rest fits e = let f = in_front bytes rest fits e in omega (arith, ap length f.parts, length-append (cell_list f.cells) rest)

-- what stands before the rest spells them
pub parted : (bytes rest front back : List ℕ) → IsBytes bytes → rest_of (cells_at bytes) ≡ Ok rest → front ≡ take (length bytes - length rest) bytes → back ≡ drop (length bytes - length rest) bytes
    → (cells_at bytes ≡ Ok (cells_behind front, back)) × SpellsCells front
parted bytes rest front back fits e is_front is_back =
    let f = in_front bytes rest fits e in
    let len : length (cell_list f.cells) ≡ length bytes - length rest = omega (arith, ap length f.parts, length-append (cell_list f.cells) rest) in
    let own : front ≡ cell_list f.cells = is_front ∙ ap (take (length bytes - length rest)) f.parts ∙ take_at (cell_list f.cells) rest (length bytes - length rest) len in
    let behind : back ≡ rest = is_back ∙ ap (drop (length bytes - length rest)) f.parts ∙ drop_at (cell_list f.cells) rest (length bytes - length rest) len in
    let again : cells_behind front ≡ f.cells = ap cells_behind (own) ∙ read_back f.cells f.fits in
    (f.read ∙ (λ k. Ok (sym again k, sym behind k)), subst SpellsCells (sym own) (spelled f.cells f.fits))

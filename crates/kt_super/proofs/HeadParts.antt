-- The numbers at the head of a body as a part of the format.
use Rattle.std.proofs.Common.{◌≡◌, ℕ, ◌^◌, ◌<◌, true, ◌&&◌, eqb, leb, List, [], ◌∷◌, Result, Ok, refl, sym, ap, subst, arith}
use Rattle.std.specs.Int.{w16, w64, to_le_bytes}
use Rattle.std.proofs.lemmas.Bool.{eqb-true}
use Rattle.kt_bytes.specs.Reading.{◌>>=◌, number_at, checked_at}
use Rattle.kt_bytes.proofs.Numbers.{bind_ok, ok_is, checked_passes, wide16, wide64}
use Rattle.kt_bytes.proofs.Formats.{Part}
use Rattle.kt_bytes.proofs.Leaves.{Passes, number_fields, number_part, any_number}
use Rattle.kt_bytes.proofs.Joins.{both_part, same_part, give, made_at, made_part}
use Rattle.kt_super.specs.declared.body.Head.{Head}
use Rattle.kt_super.specs.Rowsets.{is_small}
use Rattle.kt_super.specs.Body.{slot_for, is_number, is_next_file, is_next_column, is_format, format, head_at}
use Rattle.kt_super.specs.Fields.{head_fields}
use Rattle.kt_super.proofs.ColumnParts.{both}
use Rattle.kt_super.proofs.RowsetParts.{small_below, small_part}

-- numbers that keep the rules, in a slot
pub record HeadFits (slot : ℕ) (h : Head) : Type 0 where
  pub number : is_number slot h.number ≡ true
  pub a : h.a < 2 ^ 64
  pub c : h.c < 2 ^ 64
  pub need : is_small h.need ≡ true
  pub last_mem : is_small h.last_mem ≡ true
  pub next_rowset : is_small h.next_rowset ≡ true
  pub next_file : is_next_file h.next_file ≡ true
  pub next_column : is_next_column h.next_column ≡ true
  pub column_fits : h.next_column < 2 ^ 16

abbrev pub made : ℕ → ℕ → ℕ → ℕ → ℕ → ℕ → ℕ → ℕ → Head
made number a c need last_mem next_rowset next_file next_column = record { number = number; a = a; c = c; need = need; last_mem = last_mem; next_rowset = next_rowset; next_file = next_file; next_column = next_column }

abbrev Any : ℕ → Type 0
Any = Passes (λ n. true) (2 ^ 64)

abbrev Small : ℕ → Type 0
Small = Passes is_small (2 ^ 64)

abbrev NextFile : ℕ → Type 0
NextFile = Passes is_next_file (2 ^ 64)

abbrev NextColumn : ℕ → Type 0
NextColumn = Passes is_next_column (2 ^ 16)

-- ---- what stands behind the numbers before it

abbrev Columns : ℕ → ℕ → ℕ → ℕ → ℕ → ℕ → ℕ → Head → Type 0
Columns number a c need last_mem next_rowset next_file h = NextColumn h.next_column × (made number a c need last_mem next_rowset next_file h.next_column ≡ h)

abbrev Files : ℕ → ℕ → ℕ → ℕ → ℕ → ℕ → Head → Type 0
Files number a c need last_mem next_rowset h = NextFile h.next_file × Columns number a c need last_mem next_rowset h.next_file h

abbrev Rowsets : ℕ → ℕ → ℕ → ℕ → ℕ → Head → Type 0
Rowsets number a c need last_mem h = Small h.next_rowset × Files number a c need last_mem h.next_rowset h

abbrev Mems : ℕ → ℕ → ℕ → ℕ → Head → Type 0
Mems number a c need h = Small h.last_mem × Rowsets number a c need h.last_mem h

abbrev Needs : ℕ → ℕ → ℕ → Head → Type 0
Needs number a c h = Small h.need × Mems number a c h.need h

abbrev Lasts : ℕ → ℕ → Head → Type 0
Lasts number a h = Any h.c × Needs number a h.c h

abbrev Marks : ℕ → Head → Type 0
Marks number h = Any h.a × Lasts number h.a h

abbrev pub column_step : ℕ → ℕ → ℕ → ℕ → ℕ → ℕ → ℕ → List ℕ → Result (Head × List ℕ) ℕ
column_step number a c need last_mem next_rowset next_file = made_at (checked_at w16 is_next_column) (made number a c need last_mem next_rowset next_file)

abbrev pub file_step : ℕ → ℕ → ℕ → ℕ → ℕ → ℕ → List ℕ → Result (Head × List ℕ) ℕ
file_step number a c need last_mem next_rowset bytes = checked_at w64 is_next_file bytes >>= λ n. column_step number a c need last_mem next_rowset n.0 n.1

abbrev pub rowset_step : ℕ → ℕ → ℕ → ℕ → ℕ → List ℕ → Result (Head × List ℕ) ℕ
rowset_step number a c need last_mem bytes = checked_at w64 is_small bytes >>= λ n. file_step number a c need last_mem n.0 n.1

abbrev pub mem_step : ℕ → ℕ → ℕ → ℕ → List ℕ → Result (Head × List ℕ) ℕ
mem_step number a c need bytes = checked_at w64 is_small bytes >>= λ n. rowset_step number a c need n.0 n.1

abbrev pub need_step : ℕ → ℕ → ℕ → List ℕ → Result (Head × List ℕ) ℕ
need_step number a c bytes = checked_at w64 is_small bytes >>= λ n. mem_step number a c n.0 n.1

abbrev pub last_step : ℕ → ℕ → List ℕ → Result (Head × List ℕ) ℕ
last_step number a bytes = number_at w64 bytes >>= λ n. need_step number a n.0 n.1

abbrev pub mark_step : ℕ → List ℕ → Result (Head × List ℕ) ℕ
mark_step number bytes = number_at w64 bytes >>= λ n. last_step number n.0 n.1

abbrev column_fields : Head → List (List ℕ)
column_fields h = to_le_bytes w16 h.next_column ∷ []

abbrev file_fields : Head → List (List ℕ)
file_fields h = to_le_bytes w64 h.next_file ∷ column_fields h

abbrev rowset_fields : Head → List (List ℕ)
rowset_fields h = to_le_bytes w64 h.next_rowset ∷ file_fields h

abbrev mem_fields : Head → List (List ℕ)
mem_fields h = to_le_bytes w64 h.last_mem ∷ rowset_fields h

abbrev need_fields : Head → List (List ℕ)
need_fields h = to_le_bytes w64 h.need ∷ mem_fields h

abbrev last_fields : Head → List (List ℕ)
last_fields h = to_le_bytes w64 h.c ∷ need_fields h

abbrev mark_fields : Head → List (List ℕ)
mark_fields h = to_le_bytes w64 h.a ∷ last_fields h

any_part : Part (number_at w64) (number_fields w64) Any
any_part = any_number w64 (2 ^ 64) wide64 (omega arith) (omega arith)

column_part : (number a c need last_mem next_rowset next_file : ℕ) → Part (column_step number a c need last_mem next_rowset next_file) column_fields (Columns number a c need last_mem next_rowset next_file)
column_part number a c need last_mem next_rowset next_file =
    made_part (checked_at w16 is_next_column) (number_fields w16) NextColumn (made number a c need last_mem next_rowset next_file) (λ h. h.next_column) (λ n f. refl) (number_part w16 (2 ^ 16) wide16 is_next_column (omega arith) 1 refl (omega arith))

file_part : (number a c need last_mem next_rowset : ℕ) → Part (file_step number a c need last_mem next_rowset) file_fields (Files number a c need last_mem next_rowset)
file_part number a c need last_mem next_rowset =
    both_part (checked_at w64 is_next_file) (number_fields w64) NextFile (column_step number a c need last_mem next_rowset) column_fields (Columns number a c need last_mem next_rowset) (λ h. h.next_file) (λ n h g. sym (ap (λ (x : Head). x.next_file) g.1))
    (number_part w64 (2 ^ 64) wide64 is_next_file (omega arith) 3 refl (omega arith)) (λ n f. column_part number a c need last_mem next_rowset n)

rowset_part : (number a c need last_mem : ℕ) → Part (rowset_step number a c need last_mem) rowset_fields (Rowsets number a c need last_mem)
rowset_part number a c need last_mem =
    both_part (checked_at w64 is_small) (number_fields w64) Small (file_step number a c need last_mem) file_fields (Files number a c need last_mem) (λ h. h.next_rowset) (λ n h g. sym (ap (λ (x : Head). x.next_rowset) g.1.1)) small_part (λ n f. file_part number a c need last_mem n)

mem_part : (number a c need : ℕ) → Part (mem_step number a c need) mem_fields (Mems number a c need)
mem_part number a c need =
    both_part (checked_at w64 is_small) (number_fields w64) Small (rowset_step number a c need) rowset_fields (Rowsets number a c need) (λ h. h.last_mem) (λ n h g. sym (ap (λ (x : Head). x.last_mem) g.1.1.1)) small_part (λ n f. rowset_part number a c need n)

need_part : (number a c : ℕ) → Part (need_step number a c) need_fields (Needs number a c)
need_part number a c =
    both_part (checked_at w64 is_small) (number_fields w64) Small (mem_step number a c) mem_fields (Mems number a c) (λ h. h.need) (λ n h g. sym (ap (λ (x : Head). x.need) g.1.1.1.1)) small_part (λ n f. mem_part number a c n)

last_part : (number a : ℕ) → Part (last_step number a) last_fields (Lasts number a)
last_part number a =
    both_part (number_at w64) (number_fields w64) Any (need_step number a) need_fields (Needs number a) (λ h. h.c) (λ n h g. sym (ap (λ (x : Head). x.c) g.1.1.1.1.1)) any_part (λ n f. need_part number a n)

mark_part : (number : ℕ) → Part (mark_step number) mark_fields (Marks number)
mark_part number = both_part (number_at w64) (number_fields w64) Any (last_step number) last_fields (Lasts number) (λ h. h.a) (λ n h g. sym (ap (λ (x : Head). x.a) g.1.1.1.1.1.1)) any_part (λ n f. last_part number n)

-- ---- the head

abbrev IsWord : ℕ → Type 0
IsWord = Passes is_format (2 ^ 16)

abbrev pub number_step : ℕ → List ℕ → Result (Head × List ℕ) ℕ
number_step slot bytes = checked_at w64 (is_number slot) bytes >>= λ n. mark_step n.0 n.1

-- the number that was read is kept
column_number : (number a c need last_mem next_rowset next_file : ℕ) (bytes : List ℕ) (x : Head × List ℕ) → column_step number a c need last_mem next_rowset next_file bytes ≡ Ok x → x.0.number ≡ number
column_number number a c need last_mem next_rowset next_file bytes x e =
    let column = bind_ok (checked_at w16 is_next_column bytes) (give (made number a c need last_mem next_rowset next_file)) x e in
    sym (ap (λ (y : Head × List ℕ). y.0.number) (ok_is (made number a c need last_mem next_rowset next_file column.0.0, column.0.1) x column.2))

keeps_number : (number : ℕ) (bytes : List ℕ) (x : Head × List ℕ) → mark_step number bytes ≡ Ok x → x.0.number ≡ number
keeps_number number bytes x e =
    let a = bind_ok (number_at w64 bytes) (λ n. last_step number n.0 n.1) x e in
    let c = bind_ok (number_at w64 a.0.1) (λ n. need_step number a.0.0 n.0 n.1) x a.2 in
    let need = bind_ok (checked_at w64 is_small c.0.1) (λ n. mem_step number a.0.0 c.0.0 n.0 n.1) x c.2 in
    let mem = bind_ok (checked_at w64 is_small need.0.1) (λ n. rowset_step number a.0.0 c.0.0 need.0.0 n.0 n.1) x need.2 in
    let rowset = bind_ok (checked_at w64 is_small mem.0.1) (λ n. file_step number a.0.0 c.0.0 need.0.0 mem.0.0 n.0 n.1) x mem.2 in
    let file = bind_ok (checked_at w64 is_next_file rowset.0.1) (λ n. column_step number a.0.0 c.0.0 need.0.0 mem.0.0 rowset.0.0 n.0 n.1) x rowset.2 in
    column_number number a.0.0 c.0.0 need.0.0 mem.0.0 rowset.0.0 file.0.0 file.0.1 x file.2

-- and stands in the slot
pub head_number : (slot : ℕ) (bytes : List ℕ) (x : Head × List ℕ) → head_at slot bytes ≡ Ok x → is_number slot x.0.number ≡ true
unfolding head_at
head_number slot bytes x e =
    let word = bind_ok (checked_at w16 is_format bytes) (λ word. number_step slot word.1) x e in
    let number = bind_ok (checked_at w64 (is_number slot) word.0.1) (λ n. mark_step n.0 n.1) x word.2 in
    subst (λ (n : ℕ). is_number slot n ≡ true) (sym (keeps_number number.0.0 number.0.1 x number.2)) (checked_passes w64 (is_number slot) word.0.1 number.0 number.1)

module _ (slot least : ℕ) (stands : is_number slot least ≡ true) where
  number_below : (n : ℕ) → is_number slot n ≡ true → n < 2 ^ 64
  number_below n e = small_below n (both (leb 1 n) (is_small n) (both (leb 1 n && is_small n) (eqb (slot_for n) slot) e).0).1

  abbrev Number : ℕ → Type 0
  Number = Passes (is_number slot) (2 ^ 64)

  abbrev Numbered : Head → Type 0
  Numbered h = Number h.number × Marks h.number h

  abbrev numbered_fields : Head → List (List ℕ)
  numbered_fields h = to_le_bytes w64 h.number ∷ mark_fields h

  numbered : Part (number_step slot) numbered_fields Numbered
  numbered =
      both_part (checked_at w64 (is_number slot)) (number_fields w64) Number mark_step mark_fields Marks (λ h. h.number) (λ n h g. sym (ap (λ (x : Head). x.number) g.1.1.1.1.1.1.1))
      (number_part w64 (2 ^ 64) wide64 (is_number slot) (omega arith) least stands (number_below least stands)) (λ n f. mark_part n)

  below_next : (n : ℕ) → is_next_file n ≡ true → n < 2 ^ 64
  below_next n e = small_below n (both (leb 3 n) (is_small n) e).1

  pub head_part : Part (head_at slot) head_fields (HeadFits slot)
  unfolding head_at
  head_part =
      same_part (head_at slot) head_fields head_fields (λ h. IsWord format × (Numbered h × (format ≡ format))) (HeadFits slot) to from (λ h f. refl)
      (both_part (checked_at w16 is_format) (number_fields w16) IsWord (λ word. number_step slot) numbered_fields (λ word h. Numbered h × (format ≡ word)) (λ h. format) (λ word h g. g.1)
      (number_part w16 (2 ^ 16) wide16 is_format (omega arith) format refl (omega arith))
      (λ word g. same_part (number_step slot) numbered_fields numbered_fields Numbered (λ h. Numbered h × (format ≡ word)) (λ h f. (f, sym (eqb-true word format g.0))) (λ h f. f.0) (λ h f. refl) numbered))
    where
      to : (h : Head) → IsWord format × (Numbered h × (format ≡ format)) → HeadFits slot h
      to h f =
          let n = f.1.0 in
          record {
            number = n.0.0;
            a = n.1.0.1;
            c = n.1.1.0.1;
            need = n.1.1.1.0.0;
            last_mem = n.1.1.1.1.0.0;
            next_rowset = n.1.1.1.1.1.0.0;
            next_file = n.1.1.1.1.1.1.0.0;
            next_column = n.1.1.1.1.1.1.1.0.0;
            column_fits = n.1.1.1.1.1.1.1.0.1;
          }

      from : (h : Head) → HeadFits slot h → IsWord format × (Numbered h × (format ≡ format))
      from h f = (
        (refl, omega arith),
        (
          (
            (f.number, number_below h.number f.number),
            ((refl, f.a), ((refl, f.c), ((f.need, small_below h.need f.need), ((f.last_mem, small_below h.last_mem f.last_mem), ((f.next_rowset, small_below h.next_rowset f.next_rowset), ((f.next_file, below_next h.next_file f.next_file), ((f.next_column, f.column_fits), refl))))))),
          ),
          refl,
        ),
      )

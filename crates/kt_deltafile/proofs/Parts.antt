-- The parts of a delta file's format.
use Rattle.std.proofs.Common.{◌≡◌, ℕ, zero, suc, ◌+◌, ◌-◌, ◌^◌, ◌<◌, Bool, true, false, cond, ◌||◌, eqb, ltb, List, [], ◌∷◌, ◌++◌, length, Option, Some, None, Result, Ok, refl, sym, ap, subst, arith, lit<, inl, inr}
use Rattle.std.specs.List.{concat, flat_map}
use Rattle.std.specs.Int.{w32, w64, to_le_bytes}
use Rattle.std.proofs.lemmas.Bool.{cases_lt, ltb-true, lt-ltb, eqb-true, eq-eqb}
use Rattle.kt_base.specs.declared.cell.Cell.{Cell}
use Rattle.kt_history.specs.declared.change.Change.{Change}
use Rattle.kt_history.specs.declared.change.Change.TheVariants.{Ins, Upd, Del}
use Rattle.kt_history.specs.declared.changes.Delta.{Delta}
use Rattle.kt_bytes.specs.Reading.{◌>>=◌, checked_at, many_at}
use Rattle.kt_bytes.proofs.Numbers.{wide32, wide64}
use Rattle.kt_cells.specs.Rules.{EachAfter, CellListFits}
use Rattle.kt_cells.specs.Fields.{cell_list_fields}
use Rattle.kt_cells.specs.Reading.{cells_at}
use Rattle.kt_bytes.proofs.Formats.{Part}
use Rattle.kt_bytes.proofs.Leaves.{same_reader, Passes, number_fields, number_part, byte_at_front, code_fields, code_part}
use Rattle.kt_bytes.proofs.Joins.{both_part, same_part, made_at, made_part, made_as, given_part, many_part, concat_items}
use Rattle.kt_cells.proofs.Cells.{cells_part, cell_list_spelled}
use Rattle.kt_deltafile.specs.declared.file.Way.{Way}
use Rattle.kt_deltafile.specs.declared.file.Way.TheVariants.{Redo, Undo}
use Rattle.kt_deltafile.specs.File.{FileView}
use Rattle.kt_deltafile.specs.Order.{may_come, may_follow, last_ordinal}
use Rattle.kt_deltafile.specs.Rules.{may_insert, ChangeFits, Follows, FileFits}
use Rattle.kt_deltafile.specs.Spelling.{way_byte, change_bytes, record_bytes, ktd1, spelling}
use Rattle.kt_deltafile.specs.Fields.{change_fields, record_fields, file_fields}
use Rattle.kt_deltafile.specs.Reading.{behind, later, has_room, is_ordinal, is_ts, may_hold, is_ktd1, change_at, record_at, way_at, body_at, file_at}
use Rattle.kt_deltafile.proofs.Sorted.{both, both_left, both_right}
use Rattle.kt_deltafile.proofs.Rooms.{room_true, room_of, NextRecord, Space, space_start, space_next, some_ordinal, some_ts, ordinal_stands, each_next, each_follows}

-- ---- changes

data Tag : Type 0 where
  IsIns : Tag
  IsUpd : Tag
  IsDel : Tag

abbrev tag_code : Tag → ℕ
tag_code IsIns = 1
tag_code IsUpd = 2
tag_code IsDel = 3

abbrev tag_of : Change → Tag
tag_of (Ins cells) = IsIns
tag_of (Upd cells) = IsUpd
tag_of Del = IsDel

-- a record of this way may be such a change
abbrev Allowed : Way → Tag → Type 0
Allowed way IsIns = may_insert way ≡ true
Allowed way IsUpd = Unit {0}
Allowed way IsDel = Unit {0}

abbrev tag_byte : Way → ℕ → Option Tag
tag_byte way zero = None
tag_byte way (suc zero) = cond (may_insert way) (Some IsIns) None
tag_byte way (suc (suc zero)) = Some IsUpd
tag_byte way (suc (suc (suc zero))) = Some IsDel
tag_byte way (suc (suc (suc (suc b)))) = None

some_is : (u v : Tag) → Some u ≡ Some v → u ≡ v
some_is u v e = cc

tag_part : (way : Way) → Part (byte_at_front (tag_byte way)) (code_fields tag_code) (Allowed way)
tag_part way = code_part (tag_byte way) tag_code (Allowed way) (back way) (there way) IsDel tt (omega arith)
  where
    is : (way : Way) (b : ℕ) (u v : Tag) → tag_code u ≡ b → Allowed way u → Some u ≡ Some v → (tag_code v ≡ b) × Allowed way v
    is way b u v code own e = subst (λ (x : Tag). (tag_code x ≡ b) × Allowed way x) (some_is u v e) (code, own)

    back : (way : Way) (b : ℕ) (v : Tag) → tag_byte way b ≡ Some v → (tag_code v ≡ b) × Allowed way v
    back way zero v e = absurd cc
    back Redo (suc zero) v e = absurd cc
    back Undo (suc zero) v e = is Undo 1 IsIns v refl refl e
    back way (suc (suc zero)) v e = is way 2 IsUpd v refl tt e
    back way (suc (suc (suc zero))) v e = is way 3 IsDel v refl tt e
    back way (suc (suc (suc (suc b)))) v e = absurd cc

    there : (way : Way) (v : Tag) → Allowed way v → tag_byte way (tag_code v) ≡ Some v
    there way IsIns own = ap (λ (b : Bool). cond b (Some IsIns) None) own
    there way IsUpd own = refl
    there way IsDel own = refl

-- the fields behind the first
abbrev listed_fields : Change → List (List ℕ)
listed_fields (Ins cells) = cell_list_fields cells
listed_fields (Upd cells) = cell_list_fields cells
listed_fields Del = []

abbrev listed_at : Tag → List ℕ → Result (Change × List ℕ) ℕ
listed_at IsIns bytes = made_at cells_at Ins bytes
listed_at IsUpd bytes = made_at cells_at Upd bytes
listed_at IsDel bytes = Ok (Del, bytes)

abbrev listed_in : Change → List (ℕ × Cell)
listed_in (Ins cells) = cells
listed_in (Upd cells) = cells
listed_in Del = []

abbrev IsOf : Tag → Change → Type 0
IsOf tag c = CellListFits (listed_in c) × (tag_of c ≡ tag)

no_cells : CellListFits []
no_cells = record { count = omega arith; each = tt }

listed_part : (tag : Tag) → Part (listed_at tag) listed_fields (IsOf tag)
listed_part IsIns = made_as cells_at cell_list_fields CellListFits Ins listed_in listed_fields (IsOf IsIns) (λ cells f. refl) (λ cells f. (f, refl)) from (λ cells f. refl) cells_part
  where
    from : (c : Change) → IsOf IsIns c → CellListFits (listed_in c) × (Ins (listed_in c) ≡ c)
    from (Ins cells) f = (f.0, refl)
    from (Upd cells) f = let bad : IsUpd ≡ IsIns = f.1 in absurd cc
    from Del f = let bad : IsDel ≡ IsIns = f.1 in absurd cc
listed_part IsUpd = made_as cells_at cell_list_fields CellListFits Upd listed_in listed_fields (IsOf IsUpd) (λ cells f. refl) (λ cells f. (f, refl)) from (λ cells f. refl) cells_part
  where
    from : (c : Change) → IsOf IsUpd c → CellListFits (listed_in c) × (Upd (listed_in c) ≡ c)
    from (Ins cells) f = let bad : IsIns ≡ IsUpd = f.1 in absurd cc
    from (Upd cells) f = (f.0, refl)
    from Del f = let bad : IsDel ≡ IsUpd = f.1 in absurd cc
listed_part IsDel = given_part Del listed_fields (IsOf IsDel) (no_cells, refl) only refl
  where
    only : (c : Change) → IsOf IsDel c → Del ≡ c
    only (Ins cells) f = let bad : IsIns ≡ IsDel = f.1 in absurd cc
    only (Upd cells) f = let bad : IsUpd ≡ IsDel = f.1 in absurd cc
    only Del f = refl

abbrev tagged_at : Way → List ℕ → Result (Change × List ℕ) ℕ
tagged_at way bytes = byte_at_front (tag_byte way) bytes >>= λ t. listed_at t.0 t.1

change_is : (way : Way) (bytes : List ℕ) → change_at way bytes ≡ tagged_at way bytes
unfolding change_at
change_is way [] = refl
change_is way (zero ∷ rest) = refl
change_is Redo (suc zero ∷ rest) = refl
change_is Undo (suc zero ∷ rest) = refl
change_is way (suc (suc zero) ∷ rest) = refl
change_is way (suc (suc (suc zero)) ∷ rest) = refl
change_is way (suc (suc (suc (suc b))) ∷ rest) = refl

change_part : (way : Way) → Part (change_at way) change_fields (ChangeFits way)
change_part way =
    same_reader (tagged_at way) (change_at way) change_fields (ChangeFits way) (change_is way)
    (same_part (tagged_at way) (λ c. code_fields tag_code (tag_of c) ++ listed_fields c) change_fields (λ c. Allowed way (tag_of c) × IsOf (tag_of c) c) (ChangeFits way) to from fields
    (both_part (byte_at_front (tag_byte way)) (code_fields tag_code) (Allowed way) listed_at listed_fields IsOf tag_of (λ t c f. f.1) (tag_part way) (λ t f. listed_part t)))
  where
    to : (c : Change) → Allowed way (tag_of c) × IsOf (tag_of c) c → ChangeFits way c
    to (Ins cells) f = record { allowed = f.0; cells = record { count = f.1.0.count; each = f.1.0.each } }
    to (Upd cells) f = record { count = f.1.0.count; each = f.1.0.each }
    to Del f = tt

    from : (c : Change) → ChangeFits way c → Allowed way (tag_of c) × IsOf (tag_of c) c
    from (Ins cells) f = (f.allowed, (record { count = f.cells.count; each = f.cells.each }, refl))
    from (Upd cells) f = (tt, (record { count = f.count; each = f.each }, refl))
    from Del f = (tt, (no_cells, refl))

    fields : (c : Change) → Allowed way (tag_of c) × IsOf (tag_of c) c → change_fields c ≡ code_fields tag_code (tag_of c) ++ listed_fields c
    fields (Ins cells) f = refl
    fields (Upd cells) f = refl
    fields Del f = refl

-- ---- records

module _ (way : Way) (rows n : ℕ) where
  abbrev delta : ℕ → ℕ → Change → Delta
  delta ordinal ts change = record { ordinal = ordinal; ts = ts; change = change }

  abbrev Ordinals : List Delta → ℕ → Type 0
  Ordinals front = Passes (is_ordinal way rows n front) (2 ^ 32)

  abbrev Times : List Delta → ℕ → ℕ → Type 0
  Times front ordinal = Passes (is_ts way rows n front ordinal) (2 ^ 64)

  abbrev IsDelta : ℕ → ℕ → Delta → Type 0
  IsDelta ordinal ts d = ChangeFits way d.change × (delta ordinal ts d.change ≡ d)

  abbrev Timed : List Delta → ℕ → Delta → Type 0
  Timed front ordinal d = Times front ordinal d.ts × IsDelta ordinal d.ts d

  timed_part : (k : ℕ) (front : List Delta) (ordinal : ℕ) → Space way rows n (suc k) front → Ordinals front ordinal
      → Part (λ bytes. checked_at w64 (is_ts way rows n front ordinal) bytes >>= λ ts. made_at (change_at way) (delta ordinal ts.0) ts.1) (λ d. to_le_bytes w64 d.ts ∷ change_fields d.change) (Timed front ordinal)
  timed_part k front ordinal space fits =
      let some = some_ts way rows n k front ordinal space fits.0 in
      both_part (checked_at w64 (is_ts way rows n front ordinal)) (number_fields w64) (Times front ordinal) (λ ts. made_at (change_at way) (delta ordinal ts)) (λ d. change_fields d.change) (IsDelta ordinal) (λ d. d.ts)
      (λ ts d f. sym (ap (λ (e : Delta). e.ts) f.1)) (number_part w64 (2 ^ 64) wide64 (is_ts way rows n front ordinal) (omega arith) some.0 some.1 some.2)
      (λ ts f. made_part (change_at way) change_fields (ChangeFits way) (delta ordinal ts) (λ d. d.change) (λ c g. refl) (change_part way))

  pub record_part : (k : ℕ) (front : List Delta) → Space way rows n (suc k) front → Part (record_at way rows n front) record_fields (NextRecord way rows n front)
  unfolding record_at
  record_part k front space =
      let some = some_ordinal way rows n k front space in
      same_part (record_at way rows n front) record_fields record_fields (λ d. Ordinals front d.ordinal × Timed front d.ordinal d) (NextRecord way rows n front) to from (λ d f. refl)
      (both_part (checked_at w32 (is_ordinal way rows n front)) (number_fields w32) (Ordinals front) (λ ordinal bytes. checked_at w64 (is_ts way rows n front ordinal) bytes >>= λ ts. made_at (change_at way) (delta ordinal ts.0) ts.1)
      (λ d. to_le_bytes w64 d.ts ∷ change_fields d.change) (Timed front) (λ d. d.ordinal) (λ ordinal d f. sym (ap (λ (e : Delta). e.ordinal) f.1.1))
      (number_part w32 (2 ^ 32) wide32 (is_ordinal way rows n front) (omega arith) some.0 some.1 some.2) (λ ordinal f. timed_part k front ordinal space f))
    where
      to : (d : Delta) → Ordinals front d.ordinal × Timed front d.ordinal d → NextRecord way rows n front d
      to d f = record {
        follows = record {
          comes = both_left (may_come rows front d.ordinal) _ f.0.0;
          ordinal = f.0.1;
          order = both_left (may_follow way front d.ordinal d.ts) (has_room rows d.ordinal (later way d.ts) (behind n front)) f.1.0.0;
          ts = f.1.0.1;
          change = f.1.1.0;
        };
        room = room_of rows d.ordinal (later way d.ts) (behind n front) (both_right (may_follow way front d.ordinal d.ts) (has_room rows d.ordinal (later way d.ts) (behind n front)) f.1.0.0);
      }

      from : (d : Delta) → NextRecord way rows n front d → Ordinals front d.ordinal × Timed front d.ordinal d
      from d next =
          let ts : is_ts way rows n front d.ordinal d.ts ≡ true = both (may_follow way front d.ordinal d.ts) (has_room rows d.ordinal (later way d.ts) (behind n front)) next.follows.order (room_true rows d.ordinal (later way d.ts) (behind n front) next.room) in
          ((ordinal_stands way rows n front d next, next.follows.ordinal), ((ts, next.follows.ts), (next.follows.change, refl)))

  -- so many records in order
  abbrev pub AreRecords : List Delta → Type 0
  AreRecords list = (length list ≡ n) × EachAfter (Follows way rows) [] list

  pub records_part : n < 2 ^ 32 → (0 < n → 0 < rows) → Part (many_at (record_at way rows n) n []) (flat_map record_fields) AreRecords
  records_part few some =
      same_part (many_at (record_at way rows n) n []) (flat_map record_fields) (flat_map record_fields) (λ list. (length list ≡ n) × EachAfter (NextRecord way rows n) [] list) AreRecords
      (λ list f. (f.0, each_follows way rows n [] list f.1)) (λ list f. (f.0, each_next way rows n [] list (omega (arith, f.0)) f.1)) (λ list f. refl)
      (many_part (record_at way rows n) record_fields (NextRecord way rows n) (Space way rows n) (λ k front space. record_part k front space) (λ k front d space next. space_next way rows n k front d space next) n (space_start way rows n few some))

-- ---- files

abbrev way_meaning : ℕ → Option Way
way_meaning zero = None
way_meaning (suc zero) = Some Redo
way_meaning (suc (suc zero)) = Some Undo
way_meaning (suc (suc (suc b))) = None

way_is : (bytes : List ℕ) → way_at bytes ≡ byte_at_front way_meaning bytes
unfolding way_at
way_is [] = refl
way_is (zero ∷ rest) = refl
way_is (suc zero ∷ rest) = refl
way_is (suc (suc zero) ∷ rest) = refl
way_is (suc (suc (suc b)) ∷ rest) = refl

same_way : (u v : Way) → Some u ≡ Some v → u ≡ v
same_way u v e = cc

way_part : Part way_at (code_fields way_byte) (λ w. Unit {0})
way_part = same_reader (byte_at_front way_meaning) way_at (code_fields way_byte) (λ w. Unit {0}) way_is (code_part way_meaning way_byte (λ w. Unit {0}) back there Redo tt (omega arith))
  where
    back : (b : ℕ) (v : Way) → way_meaning b ≡ Some v → (way_byte v ≡ b) × Unit {0}
    back zero v e = absurd cc
    back (suc zero) v e = (ap way_byte (sym (same_way Redo v e)), tt)
    back (suc (suc zero)) v e = (ap way_byte (sym (same_way Undo v e)), tt)
    back (suc (suc (suc b))) v e = absurd cc

    there : (v : Way) → Unit {0} → way_meaning (way_byte v) ≡ Some v
    there Redo f = refl
    there Undo f = refl

-- a file over no row has no record
holds : (rows n : ℕ) → (0 < n → 0 < rows) → may_hold rows n ≡ true
holds rows n some = elim (cases_lt 0 n) [
  | inl lt ↦ right (eqb n 0) (ltb 0 rows) (lt-ltb 0 rows (some lt))
  | inr le ↦ let none : eqb n 0 ≡ true = eq-eqb n 0 (omega (arith, le)) in ap (λ (b : Bool). b || ltb 0 rows) none
]
  where
    right : (a b : Bool) → b ≡ true → (a || b) ≡ true
    right true b e = refl
    right false b e = e

held : (rows n : ℕ) → may_hold rows n ≡ true → 0 < n → 0 < rows
held rows n e some = grind arith

module _ (rows : ℕ) where
  abbrev pub BodyFits : FileView → Type 0
  BodyFits f = FileFits f.way rows f.list

  abbrev Counts : ℕ → Type 0
  Counts = Passes (may_hold rows) (2 ^ 32)

  abbrev view : Way → List Delta → FileView
  view way list = record { way = way; list = list }

  abbrev Listed : Way → ℕ → FileView → Type 0
  Listed way n f = AreRecords way rows n f.list × (view way f.list ≡ f)

  abbrev Counted : Way → FileView → Type 0
  Counted way f = Counts (length f.list) × Listed way (length f.list) f

  abbrev counted_at : Way → List ℕ → Result (FileView × List ℕ) ℕ
  counted_at way bytes = checked_at w32 (may_hold rows) bytes >>= λ n. made_at (many_at (record_at way rows n.0) n.0 []) (view way) n.1

  counted_part : (way : Way) → Part (counted_at way) (λ f. to_le_bytes w32 (length f.list) ∷ flat_map record_fields f.list) (Counted way)
  counted_part way =
      both_part (checked_at w32 (may_hold rows)) (number_fields w32) Counts (λ n. made_at (many_at (record_at way rows n) n []) (view way)) (λ f. flat_map record_fields f.list) (Listed way) (λ f. length f.list)
      (λ n f g. g.0.0) (number_part w32 (2 ^ 32) wide32 (may_hold rows) (omega arith) 0 refl (omega arith))
      (λ n f. made_part (many_at (record_at way rows n) n []) (flat_map record_fields) (AreRecords way rows n) (view way) (λ x. x.list) (λ list g. refl) (records_part way rows n f.1 (held rows n f.0)))

  -- the first record has a row
  some_row : (way : Way) (list : List Delta) → EachAfter (Follows way rows) [] list → 0 < length list → 0 < rows
  some_row way [] each some = absurd (omega (arith, some))
  some_row way (d ∷ list) each some = let below : d.ordinal < rows = ltb-true _ _ (both_right (Rattle.std.proofs.Common.leb (last_ordinal []) d.ordinal) (ltb d.ordinal rows) each.0.comes) in omega (arith, below)

  body_fields : FileView → List (List ℕ)
  body_fields f = (way_byte f.way ∷ []) ∷ to_le_bytes w32 (length f.list) ∷ flat_map record_fields f.list

  body_part : Part (body_at rows) body_fields BodyFits
  unfolding body_at body_fields
  body_part =
      same_part (body_at rows) body_fields body_fields (λ f. Unit {0} × Counted f.way f) BodyFits
      (λ f g. record { count = g.1.0.1; each = g.1.1.0.1 }) (λ f g. (tt, ((holds rows (length f.list) (some_row f.way f.list g.each), g.count), ((refl, g.each), refl)))) (λ f g. refl)
      (both_part way_at (code_fields way_byte) (λ w. Unit {0}) counted_at (λ f. to_le_bytes w32 (length f.list) ∷ flat_map record_fields f.list) Counted (λ f. f.way) (λ way f g. sym (ap (λ (x : FileView). x.way) g.1.1)) way_part (λ way g. counted_part way))

  abbrev IsWord : ℕ → Type 0
  IsWord = Passes is_ktd1 (2 ^ 32)

  pub file_part : Part (file_at rows) file_fields BodyFits
  unfolding file_at body_fields
  file_part =
      same_part (file_at rows) file_fields file_fields (λ f. IsWord ktd1 × (BodyFits f × (ktd1 ≡ ktd1))) BodyFits (λ f g. g.1.0) (λ f g. ((refl, lit< tt), (g, refl))) (λ f g. refl)
      (both_part (checked_at w32 is_ktd1) (number_fields w32) IsWord (λ word. body_at rows) body_fields (λ word f. BodyFits f × (ktd1 ≡ word)) (λ f. ktd1) (λ word f g. g.1)
      (number_part w32 (2 ^ 32) wide32 is_ktd1 (omega arith) ktd1 refl (lit< tt))
      (λ word g. same_part (body_at rows) body_fields body_fields BodyFits (λ f. BodyFits f × (ktd1 ≡ word)) (λ f h. (h, sym (eqb-true word ktd1 g.0))) (λ f h. h.0) (λ f h. refl) body_part))

-- ---- their bytes

change_spelled : (c : Change) → concat (change_fields c) ≡ change_bytes c
change_spelled (Ins cells) = ap (λ (l : List ℕ). 1 ∷ l) (cell_list_spelled cells)
change_spelled (Upd cells) = ap (λ (l : List ℕ). 2 ∷ l) (cell_list_spelled cells)
change_spelled Del = refl

record_spelled : (d : Delta) → concat (record_fields d) ≡ record_bytes d
record_spelled d = ap (λ (l : List ℕ). to_le_bytes w32 d.ordinal ++ (to_le_bytes w64 d.ts ++ l)) (change_spelled d.change)

pub file_spelled : (f : FileView) → concat (file_fields f) ≡ spelling f.way f.list
file_spelled f = ap (λ (l : List ℕ). to_le_bytes w32 ktd1 ++ (way_byte f.way ∷ (to_le_bytes w32 (length f.list) ++ l))) (concat_items record_fields record_bytes record_spelled f.list)

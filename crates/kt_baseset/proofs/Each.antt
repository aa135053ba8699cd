-- Columns, one after another: read and spelled.
use Rattle.std.proofs.Common.{◌≡◌, ℕ, ◌+◌, ◌-◌, ◌^◌, ◌<◌, ◌≤◌, List, [], ◌∷◌, ◌++◌, length, get_or, take, drop, Result, Ok, Err, refl, sym, ap, subst, ◌∙◌, append_assoc, lit<, arith}
use Rattle.std.specs.Int.{w16, to_le_bytes}
use Rattle.std.proofs.lemmas.List.{append-nil, take-append-drop, length-append, length-map, drop_at, get_or_at}
use Rattle.std.proofs.lemmas.List.Elements.{All-nil, All-push, All-head, All-tail}
use Rattle.kt_base.specs.declared.cell.Cell.{Cell}
use Rattle.kt_bytes.specs.declared.fault.Stop.{Stop}
use Rattle.kt_bytes.specs.declared.fault.Stop.TheVariants as stops
use Rattle.kt_bytes.specs.Reading.{number_at, Fails}
use Rattle.kt_bytes.proofs.Numbers.{IsBytes, ok_is, wide16, number_again}
use Rattle.kt_bytes.proofs.Taken.{number_took}
use Rattle.kt_column.specs.declared.form.Form.{Form}
use Rattle.kt_column.specs.Columns.{ColumnValue, SpellsColumn, IsColumnFound}
use Rattle.kt_baseset.specs.declared.schema.ColumnShape.{ColumnShape}
use Rattle.kt_baseset.specs.declared.held.HeldColumn.{HeldColumn}
use Rattle.kt_baseset.specs.Rows.{IdsRise, HaveIds, AreShapes, form_of}
use Rattle.kt_baseset.specs.Tables.{shapes_of, IsColumn, AreColumns}
use Rattle.kt_baseset.specs.Spelling.{shape_bytes, SpellsOne, SpellsEach}
use Rattle.kt_baseset.specs.Reading.{shape_at, IsRefusedAt, next_id, IsOneFault, in_blocks, IsEachFault, IsColumnsFault, in_each, ReadsOne, ReadsEach, ReadsColumns, Stops}
use Rattle.kt_baseset.proofs.Shapes.{shape_takes, shape_again}
use Rattle.kt_baseset.proofs.Spelled.{column_holds}

-- ---- one column

pub shape_read : (rows least more : ℕ) (bytes : List ℕ) (c : HeldColumn) (rest : List ℕ) (r : ReadsOne rows least bytes c rest) → c.shape.id + more < 2 ^ 16 → shape_at least more bytes ≡ Ok (c.shape, r.spelled.blocks ++ rest)
shape_read rows least more bytes c rest r room =
    let blocks = r.spelled.blocks in
    let e : bytes ≡ shape_bytes c.shape ++ (blocks ++ rest) = r.parts ∙ ap (λ (x : List ℕ). x ++ rest) r.spelled.parts ∙ append_assoc (shape_bytes c.shape) blocks rest in
    ap (shape_at least more) e ∙ shape_again least more c.shape (blocks ++ rest) (record { above = r.above; room = room })

abbrev pub Read : Type 0
Read = Result (ColumnShape × List ℕ) ℕ

not_both : (r : Read) (x : ColumnShape × List ℕ) (left : ℕ) → r ≡ Ok x → r ≡ Err left → ⊥
not_both r x left p q = absurd cc

pub no_shape : (e : Stop) (rows least more : ℕ) (bytes : List ℕ) → Fails e (shape_at least more bytes) → (c : HeldColumn) (rest : List ℕ) → ReadsOne rows least bytes c rest → c.shape.id + more < 2 ^ 16 → e ≡ stops.Memory
no_shape stops.Memory rows least more bytes failed c rest r room = refl
no_shape (stops.Left left) rows least more bytes failed c rest r room = absurd (not_both (shape_at least more bytes) (c.shape, r.spelled.blocks ++ rest) left (shape_read rows least more bytes c rest r room) failed)

pub no_blocks : (e : Stop) (rows least more : ℕ) (bytes : List ℕ) (shape : ColumnShape) (behind : List ℕ) → shape_at least more bytes ≡ Ok (shape, behind) → Stops (IsRefusedAt (form_of shape) rows behind) e → Stops (IsOneFault rows least more bytes) e
no_blocks stops.Memory rows least more bytes shape behind read why = tt
no_blocks (stops.Left left) rows least more bytes shape behind read why = in_blocks shape behind read why

pub same_shape : (r : Read) (s t : ColumnShape) (a b : List ℕ) → r ≡ Ok (s, a) → r ≡ Ok (t, b) → (s ≡ t) × (a ≡ b)
same_shape r s t a b p q =
    let e = ok_is (s, a) (t, b) (sym p ∙ q) in
    (ap (λ (x : ColumnShape × List ℕ). x.0) e, ap (λ (x : ColumnShape × List ℕ). x.1) e)

pub one_found : (rows least more : ℕ) (bytes : List ℕ) (shape : ColumnShape) (behind : List ℕ) (column : ColumnValue) (used : ℕ) → IsBytes bytes → shape_at least more bytes ≡ Ok (shape, behind)
    → column.form ≡ form_of shape → IsColumnFound (form_of shape) rows behind column.cells used → ReadsOne rows least bytes (record { shape = shape; column = column }) (drop used behind)
one_found rows least more bytes shape behind column used fits read form found =
    let t = shape_takes least more bytes (shape, behind) fits read in
    let blocks : List ℕ = take used behind in
    let front : List ℕ = shape_bytes shape ++ blocks in
    let regrouped : shape_bytes shape ++ behind ≡ front ++ drop used behind = ap (λ (x : List ℕ). shape_bytes shape ++ x) (sym (take-append-drop used behind)) ∙ sym (append_assoc (shape_bytes shape) blocks (drop used behind)) in
    record {
      is = record { form = form; count = found.counted; cells = column_holds (form_of shape) column.cells blocks found.spelled };
      above = t.fits.above;
      fit = omega (arith, t.fits.room);
      front = front;
      spelled = record { blocks = blocks; spelled = subst (λ (f : Form). SpellsColumn f column.cells blocks) (sym form) found.spelled; parts = refl };
      parts = t.parts ∙ regrouped;
    }

pub id_room : (least more : ℕ) (bytes : List ℕ) (shape : ColumnShape) (behind : List ℕ) → IsBytes bytes → shape_at least more bytes ≡ Ok (shape, behind) → shape.id + more < 2 ^ 16
id_room least more bytes shape behind fits read = (shape_takes least more bytes (shape, behind) fits read).fits.room

-- what the column's decoder says of each spelling
abbrev pub OnlyColumn : Form → ℕ → List ℕ → ColumnValue → ℕ → Type 0
OnlyColumn form n behind column used = (cs : List Cell) (front rest : List ℕ) → SpellsColumn form cs front → length cs ≡ n → behind ≡ front ++ rest → (column ≡ record { form = form; cells = cs }) × (used ≡ length front)

held_is : (shape : ColumnShape) (column : ColumnValue) (c : HeldColumn) → shape ≡ c.shape → column ≡ record { form = form_of shape; cells = c.column.cells } → c.column.form ≡ form_of c.shape → record { shape = shape; column = column } ≡ c
held_is shape column c e is form =
    let whole : column ≡ c.column = is ∙ ap (λ (s : ColumnShape). record { form = form_of s; cells = c.column.cells }) e ∙ ap (λ (f : Form). record { form = f; cells = c.column.cells }) (sym form) in
    rw (e, whole) refl

spelled_as : (shape : ColumnShape) (c : HeldColumn) (blocks : List ℕ) → shape ≡ c.shape → c.column.form ≡ form_of c.shape → SpellsColumn c.column.form c.column.cells blocks → SpellsColumn (form_of shape) c.column.cells blocks
spelled_as shape c blocks e form spelled = subst (λ (f : Form). SpellsColumn f c.column.cells blocks) (form ∙ ap form_of (sym e)) spelled

pub one_only : (rows least more : ℕ) (bytes : List ℕ) (shape : ColumnShape) (behind : List ℕ) (column : ColumnValue) (used : ℕ) → shape_at least more bytes ≡ Ok (shape, behind) → OnlyColumn (form_of shape) rows behind column used
    → (c : HeldColumn) (rest : List ℕ) → ReadsOne rows least bytes c rest → c.shape.id + more < 2 ^ 16 → (record { shape = shape; column = column } ≡ c) × (drop used behind ≡ rest)
one_only rows least more bytes shape behind column used read only c rest r room =
    let blocks = r.spelled.blocks in
    let e = same_shape (shape_at least more bytes) shape c.shape behind (blocks ++ rest) read (shape_read rows least more bytes c rest r room) in
    let is = only c.column.cells blocks rest (spelled_as shape c blocks e.0 r.is.form r.spelled.spelled) r.is.count e.1 in
    (held_is shape column c e.0 is.0 r.is.form, ap (λ (k : ℕ). drop k behind) is.1 ∙ ap (λ (x : List ℕ). drop (length blocks) x) e.1 ∙ drop_at blocks rest (length blocks) refl)

pub no_one : (e : Stop) (rows least more : ℕ) (bytes : List ℕ) (shape : ColumnShape) (behind : List ℕ) → shape_at least more bytes ≡ Ok (shape, behind) → ((cs : List Cell) (front rest : List ℕ) → SpellsColumn (form_of shape) cs front → length cs ≡ rows → behind ≡ front ++ rest → e ≡ stops.Memory)
    → (c : HeldColumn) (rest : List ℕ) → ReadsOne rows least bytes c rest → c.shape.id + more < 2 ^ 16 → e ≡ stops.Memory
no_one e rows least more bytes shape behind read only c rest r room =
    let blocks = r.spelled.blocks in
    let s = same_shape (shape_at least more bytes) shape c.shape behind (blocks ++ rest) read (shape_read rows least more bytes c rest r room) in
    only c.column.cells blocks rest (spelled_as shape c blocks s.0 r.is.form r.spelled.spelled) r.is.count s.1

-- ---- several

pub spells_push : (cs : List HeldColumn) (c : HeldColumn) (a b : List ℕ) → SpellsEach cs a → SpellsOne c b → SpellsEach (cs ++ c ∷ []) (a ++ b)
spells_push [] c a b spelled one =
    let e : a ++ b ≡ b = ap (λ (x : List ℕ). x ++ b) spelled in
    (b, [], one, refl, e ∙ sym (append-nil b))
spells_push (d ∷ cs) c a b spelled one =
    (spelled.0, spelled.1 ++ b, spelled.2, spells_push cs c spelled.1 b spelled.3 one, ap (λ (x : List ℕ). x ++ b) spelled.4 ∙ append_assoc spelled.0 spelled.1 b)

pub next-push : (schema : List ColumnShape) (least : ℕ) (c : ColumnShape) → next_id least (schema ++ c ∷ []) ≡ c.id + 1
next-push [] least c = refl
next-push (d ∷ schema) least c = next-push schema (d.id + 1) c

pub rise-push : (schema : List ColumnShape) (least : ℕ) (c : ColumnShape) → IdsRise least schema → next_id least schema ≤ c.id → IdsRise least (schema ++ c ∷ [])
rise-push [] least c rise le = (le, tt)
rise-push (d ∷ schema) least c rise le = (rise.0, rise-push schema (d.id + 1) c rise.1 le)

rise_after : (schema more : List ColumnShape) (least : ℕ) (c : ColumnShape) → IdsRise least (schema ++ c ∷ more) → next_id least schema ≤ c.id
rise_after [] more least c rise = rise.0
rise_after (d ∷ schema) more least c rise = rise_after schema more (d.id + 1) c rise.1

-- ids that rise leave none of those behind them without one
pub tail_past : (more : List ColumnShape) (id : ℕ) → IdsRise (id + 1) more → id + length more < next_id (id + 1) more
tail_past [] id rise = omega arith
tail_past (d ∷ more) id rise = omega (arith, rise.0, tail_past more d.id rise.1)

next_past : (schema more : List ColumnShape) (least : ℕ) (c : ColumnShape) → IdsRise least (schema ++ c ∷ more) → c.id + length more < next_id least (schema ++ c ∷ more)
next_past [] more least c rise = tail_past more c.id rise.1
next_past (d ∷ schema) more least c rise = next_past schema more (d.id + 1) c rise.1

pub next_below : (schema : List ColumnShape) (least : ℕ) → least ≤ 2 ^ 16 → HaveIds schema → next_id least schema ≤ 2 ^ 16
next_below [] least le fit = le
next_below (c ∷ schema) least le fit =
    let S : ColumnShape → Type 0 = λ s. s.id < 2 ^ 16 in
    let head : S c = All-head S c schema fit in
    next_below schema (c.id + 1) (omega (arith, head)) (All-tail S c schema fit)

pub shapes-append : (cs ds : List HeldColumn) → shapes_of (cs ++ ds) ≡ shapes_of cs ++ shapes_of ds
shapes-append [] ds = refl
shapes-append (c ∷ cs) ds = ap (λ (xs : List ColumnShape). c.shape ∷ xs) (shapes-append cs ds)

pub each_none : (rows : ℕ) (bytes : List ℕ) → ReadsEach rows 0 bytes [] bytes
each_none rows bytes = record {
  are = record { shapes = record { few = lit< tt; rise = tt; fit = All-nil (λ (c : ColumnShape). c.id < 2 ^ 16) }; each = All-nil (IsColumn rows) };
  count = refl;
  front = [];
  spelled = refl;
  parts = refl;
}

-- one column more
pub each_more : (rows n : ℕ) (bytes : List ℕ) (cs : List HeldColumn) (rest : List ℕ) (c : HeldColumn) (after : List ℕ) → n + 1 < 2 ^ 16 → ReadsEach rows n bytes cs rest → ReadsOne rows (next_id 0 (shapes_of cs)) rest c after → ReadsEach rows (n + 1) bytes (cs ++ c ∷ []) after
each_more rows n bytes cs rest c after few r one =
    let len : length (cs ++ c ∷ []) ≡ n + 1 = omega (arith, length-append cs (c ∷ []), r.count) in
    let pushed : shapes_of (cs ++ c ∷ []) ≡ shapes_of cs ++ c.shape ∷ [] = shapes-append cs (c ∷ []) in
    let shapes : AreShapes (shapes_of cs ++ c.shape ∷ []) = record {
      few = omega (arith, length-append (shapes_of cs) (c.shape ∷ []), length-map cs (λ (c : HeldColumn). c.shape), r.count, few);
      rise = rise-push (shapes_of cs) 0 c.shape r.are.shapes.rise one.above;
      fit = All-push (λ (c : ColumnShape). c.id < 2 ^ 16) (shapes_of cs) c.shape r.are.shapes.fit one.fit;
    } in
    record {
      are = record { shapes = subst AreShapes (sym pushed) shapes; each = All-push (IsColumn rows) cs c r.are.each one.is };
      count = len;
      front = r.front ++ one.front;
      spelled = spells_push cs c r.front one.front r.spelled one.spelled;
      parts = r.parts ∙ ap (λ (x : List ℕ). r.front ++ x) one.parts ∙ sym (append_assoc r.front one.front after);
    }

pub next_more : (cs : List HeldColumn) (c : HeldColumn) → c.shape.id + 1 ≡ next_id 0 (shapes_of (cs ++ c ∷ []))
next_more cs c = sym (ap (next_id 0) (shapes-append cs (c ∷ [])) ∙ next-push (shapes_of cs) 0 c.shape)

-- what is left of a list of columns where some stand
pub record Remains (cs : List HeldColumn) (rest : List ℕ) (all : List HeldColumn) (last : List ℕ) : Type 0 where
  pub more : List HeldColumn
  pub list : all ≡ cs ++ more
  pub after : List ℕ
  pub spelled : SpellsEach more after
  pub parts : rest ≡ after ++ last

pub remains_all : (rows n : ℕ) (bytes : List ℕ) (all : List HeldColumn) (last : List ℕ) → ReadsEach rows n bytes all last → Remains [] bytes all last
remains_all rows n bytes all last r = record { more = all; list = refl; after = r.front; spelled = r.spelled; parts = r.parts }

-- the next of them
pub record Next (rows : ℕ) (cs : List HeldColumn) (rest : List ℕ) (all : List HeldColumn) (last : List ℕ) : Type 0 where
  pub c : HeldColumn
  pub behind : List ℕ
  pub one : ReadsOne rows (next_id 0 (shapes_of cs)) rest c behind
  pub left : Remains (cs ++ c ∷ []) behind all last
  pub room : c.shape.id + (length all - length cs) ≤ next_id 0 (shapes_of all)

next_by : (rows : ℕ) (cs more : List HeldColumn) (rest : List ℕ) (all : List HeldColumn) (last after : List ℕ) → AreColumns rows all → all ≡ cs ++ more → SpellsEach more after → rest ≡ after ++ last → length cs < length all → Next rows cs rest all last
next_by rows cs [] rest all last after are list spelled parts lt = absurd (omega (arith, lt, ap length list, length-append cs []))
next_by rows cs (c ∷ more) rest all last after are list spelled parts lt =
    let P : HeldColumn → Type 0 = IsColumn rows in
    let S : ColumnShape → Type 0 = λ s. s.id < 2 ^ 16 in
    let shape : HeldColumn → ColumnShape = λ c. c.shape in
    let here : get_or all (length cs) c ≡ c = ap (λ (l : List HeldColumn). get_or l (length cs) c) list ∙ get_or_at cs c more c (length cs) refl in
    let shapes : shapes_of all ≡ shapes_of cs ++ c.shape ∷ shapes_of more = ap shapes_of list ∙ shapes-append cs (c ∷ more) in
    let its : get_or (shapes_of all) (length cs) c.shape ≡ c.shape = ap (λ (l : List ColumnShape). get_or l (length cs) c.shape) shapes ∙ get_or_at (shapes_of cs) c.shape (shapes_of more) c.shape (length cs) (length-map cs shape) in
    record {
      c = c;
      behind = spelled.1 ++ last;
      one = record {
        is = subst P here (are.each (length cs) c lt);
        above = rise_after (shapes_of cs) (shapes_of more) 0 c.shape (subst (IdsRise 0) shapes are.shapes.rise);
        fit = subst S its (are.shapes.fit (length cs) c.shape (omega (arith, lt, length-map all shape)));
        front = spelled.0;
        spelled = spelled.2;
        parts = parts ∙ ap (λ (x : List ℕ). x ++ last) spelled.4 ∙ append_assoc spelled.0 spelled.1 last;
      };
      left = record { more = more; list = list ∙ sym (append_assoc cs (c ∷ []) more); after = spelled.1; spelled = spelled.3; parts = refl };
      room =
          let past = next_past (shapes_of cs) (shapes_of more) 0 c.shape (subst (IdsRise 0) shapes are.shapes.rise) in
          omega (arith, past, ap (next_id 0) shapes, ap length list, length-append cs (c ∷ more), length-map more shape);
    }

pub next_of : (rows n : ℕ) (bytes : List ℕ) (cs : List HeldColumn) (rest : List ℕ) (all : List HeldColumn) (last : List ℕ) → ReadsEach rows n bytes all last → Remains cs rest all last → length cs < n → Next rows cs rest all last
next_of rows n bytes cs rest all last r left lt = next_by rows cs left.more rest all last left.after r.are left.list left.spelled left.parts (omega (arith, lt, r.count))

done_by : (cs more all : List HeldColumn) (rest last after : List ℕ) → length cs ≡ length all → all ≡ cs ++ more → SpellsEach more after → rest ≡ after ++ last → (cs ≡ all) × (rest ≡ last)
done_by cs [] all rest last after len list spelled parts = (sym (list ∙ append-nil cs), parts ∙ ap (λ (x : List ℕ). x ++ last) spelled)
done_by cs (c ∷ more) all rest last after len list spelled parts = absurd (omega (arith, len, ap length list, length-append cs (c ∷ more)))

pub each_done : (rows n : ℕ) (bytes : List ℕ) (cs : List HeldColumn) (rest : List ℕ) (all : List HeldColumn) (last : List ℕ) → length cs ≡ n → ReadsEach rows n bytes all last → Remains cs rest all last → (cs ≡ all) × (rest ≡ last)
each_done rows n bytes cs rest all last len r left = done_by cs left.more all rest last left.after (omega (arith, len, r.count)) left.list left.spelled left.parts

-- so many columns stand
pub own_count : (rows n : ℕ) (bytes : List ℕ) (cs : List HeldColumn) (rest : List ℕ) → ReadsEach rows n bytes cs rest → ReadsEach rows (length cs) bytes cs rest
own_count rows n bytes cs rest r = record { are = r.are; count = refl; front = r.front; spelled = r.spelled; parts = r.parts }

-- all columns leave ids for no other
pub room_all : (rows n : ℕ) (bytes : List ℕ) (cs : List HeldColumn) (rest : List ℕ) → ReadsEach rows n bytes cs rest → next_id 0 (shapes_of cs) + (n - length cs) ≤ 2 ^ 16
room_all rows n bytes cs rest r = omega (arith, next_below (shapes_of cs) 0 (omega arith) r.are.shapes.fit, r.count)

-- room for the columns behind one more
pub room_more : (n i : ℕ) (cs : List HeldColumn) (c : HeldColumn) (more : ℕ) → i < n → more ≡ n - i - 1 → c.shape.id + more < 2 ^ 16 → next_id 0 (shapes_of (cs ++ c ∷ [])) + (n - (i + 1)) ≤ 2 ^ 16
room_more n i cs c more lt is room = omega (arith, is, room, lt, next_more cs c)

pub each_stop : (e : Stop) (rows n i : ℕ) (bytes : List ℕ) (cs : List HeldColumn) (rest : List ℕ) (least more : ℕ) → i < n → ReadsEach rows i bytes cs rest → next_id 0 (shapes_of cs) + (n - i) ≤ 2 ^ 16 → least ≡ next_id 0 (shapes_of cs) → more ≡ n - i - 1 → Stops (IsOneFault rows least more rest) e → Stops (IsEachFault rows n bytes) e
each_stop stops.Memory rows n i bytes cs rest least more lt r room is left_over why = tt
each_stop (stops.Left left) rows n i bytes cs rest least more lt r room is left_over why =
    let same : more ≡ n - length cs - 1 = omega (arith, left_over, r.count) in
    record {
      columns = cs;
      rest = rest;
      stand = record { read = own_count rows i bytes cs rest r; some = omega (arith, r.count, lt); room = omega (arith, r.count, room) };
      next = subst (λ (k : ℕ). IsOneFault rows k (n - length cs - 1) rest left) is (subst (λ (m : ℕ). IsOneFault rows least m rest left) same why);
    }

-- what the next column's decoder says of each reading
pub no_next : (e : Stop) (rows n i : ℕ) (bytes : List ℕ) (cs : List HeldColumn) (rest : List ℕ) (least more : ℕ) → i < n → ReadsEach rows i bytes cs rest → least ≡ next_id 0 (shapes_of cs) → more ≡ n - i - 1
    → ((c : HeldColumn) (behind : List ℕ) → ReadsOne rows least rest c behind → c.shape.id + more < 2 ^ 16 → e ≡ stops.Memory)
    → (all : List HeldColumn) (last : List ℕ) → ReadsEach rows n bytes all last → Remains cs rest all last → e ≡ stops.Memory
no_next e rows n i bytes cs rest least more lt r is left_over only all last q left =
    let next = next_of rows n bytes cs rest all last q left (omega (arith, lt, r.count)) in
    only next.c next.behind (subst (λ (k : ℕ). ReadsOne rows k rest next.c next.behind) (sym is) next.one) (omega (arith, lt, left_over, r.count, q.count, next.room, room_all rows n bytes all last q))

pub remains_more : (rows n i : ℕ) (bytes : List ℕ) (cs : List HeldColumn) (rest : List ℕ) (least more : ℕ) (c : HeldColumn) (after : List ℕ) → i < n → ReadsEach rows i bytes cs rest → least ≡ next_id 0 (shapes_of cs) → more ≡ n - i - 1
    → ((d : HeldColumn) (behind : List ℕ) → ReadsOne rows least rest d behind → d.shape.id + more < 2 ^ 16 → (c ≡ d) × (after ≡ behind))
    → (all : List HeldColumn) (last : List ℕ) → ReadsEach rows n bytes all last → Remains cs rest all last → Remains (cs ++ c ∷ []) after all last
remains_more rows n i bytes cs rest least more c after lt r is left_over only all last q left =
    let next = next_of rows n bytes cs rest all last q left (omega (arith, lt, r.count)) in
    let same = only next.c next.behind (subst (λ (k : ℕ). ReadsOne rows k rest next.c next.behind) (sym is) next.one) (omega (arith, lt, left_over, r.count, q.count, next.room, room_all rows n bytes all last q)) in
    let P : HeldColumn → Type 0 = λ d. Remains (cs ++ d ∷ []) next.behind all last in
    let Q : List ℕ → Type 0 = λ b. Remains (cs ++ c ∷ []) b all last in
    subst Q (sym same.1) (subst P (sym same.0) next.left)

-- ---- behind their count

pub count_read : (rows : ℕ) (bytes : List ℕ) (cs : List HeldColumn) (last : List ℕ) (r : ReadsColumns rows bytes cs last) → number_at w16 bytes ≡ Ok (length cs, r.spelled.each ++ last)
count_read rows bytes cs last r =
    let count : List ℕ = to_le_bytes w16 (length cs) in
    let e : bytes ≡ count ++ (r.spelled.each ++ last) = r.parts ∙ ap (λ (x : List ℕ). x ++ last) r.spelled.parts ∙ append_assoc count r.spelled.each last in
    ap (number_at w16) e ∙ number_again w16 (2 ^ 16) wide16 (length cs) (r.spelled.each ++ last) (omega (arith, r.are.shapes.few, length-map cs (λ (c : HeldColumn). c.shape)))

abbrev pub Counted : Type 0
Counted = Result (ℕ × List ℕ) ℕ

never_both : (r : Counted) (x : ℕ × List ℕ) (left : ℕ) → r ≡ Ok x → r ≡ Err left → ⊥
never_both r x left p q = absurd cc

pub same_count : (r : Counted) (n m : ℕ) (a b : List ℕ) → r ≡ Ok (n, a) → r ≡ Ok (m, b) → (n ≡ m) × (a ≡ b)
same_count r n m a b p q =
    let e = ok_is (n, a) (m, b) (sym p ∙ q) in
    (ap (λ (x : ℕ × List ℕ). x.0) e, ap (λ (x : ℕ × List ℕ). x.1) e)

pub no_count : (e : Stop) (rows : ℕ) (bytes : List ℕ) → Fails e (number_at w16 bytes) → (cs : List HeldColumn) (last : List ℕ) → ReadsColumns rows bytes cs last → e ≡ stops.Memory
no_count stops.Memory rows bytes failed cs last r = refl
no_count (stops.Left left) rows bytes failed cs last r = absurd (never_both (number_at w16 bytes) (length cs, r.spelled.each ++ last) left (count_read rows bytes cs last r) failed)

pub columns_stop : (e : Stop) (rows : ℕ) (bytes : List ℕ) (n : ℕ) (behind : List ℕ) → number_at w16 bytes ≡ Ok (n, behind) → Stops (IsEachFault rows n behind) e → Stops (IsColumnsFault rows bytes) e
columns_stop stops.Memory rows bytes n behind read why = tt
columns_stop (stops.Left left) rows bytes n behind read why = in_each n behind read why

pub columns_found : (rows : ℕ) (bytes : List ℕ) (n : ℕ) (behind : List ℕ) (cs : List HeldColumn) (rest : List ℕ) → IsBytes bytes → number_at w16 bytes ≡ Ok (n, behind) → ReadsEach rows n behind cs rest → ReadsColumns rows bytes cs rest
columns_found rows bytes n behind cs rest fits read r =
    let t = number_took w16 (2 ^ 16) wide16 bytes (n, behind) fits read in
    let count : List ℕ = to_le_bytes w16 (length cs) in
    let whole : bytes ≡ count ++ behind = t.parts ∙ ap (λ (m : ℕ). to_le_bytes w16 m ++ behind) (sym r.count) in
    record {
      are = r.are;
      front = count ++ r.front;
      spelled = record { each = r.front; spelled = r.spelled; parts = refl };
      parts = whole ∙ ap (λ (x : List ℕ). count ++ x) r.parts ∙ sym (append_assoc count r.front rest);
    }

pub columns_each : (rows : ℕ) (bytes : List ℕ) (n : ℕ) (behind : List ℕ) → number_at w16 bytes ≡ Ok (n, behind) → (cs : List HeldColumn) (last : List ℕ) → ReadsColumns rows bytes cs last → ReadsEach rows n behind cs last
columns_each rows bytes n behind read cs last r =
    let same = same_count (number_at w16 bytes) n (length cs) behind (r.spelled.each ++ last) read (count_read rows bytes cs last r) in
    record { are = r.are; count = sym same.0; front = r.spelled.each; spelled = r.spelled.spelled; parts = same.1 }

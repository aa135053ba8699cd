-- What stands in front of the blocks as one format, and that what stands of it can go on.
use Rattle.std.proofs.Common.{◌≡◌, ℕ, zero, suc, ◌+◌, ◌-◌, ◌^◌, ◌<◌, ◌≤◌, Bool, true, false, List, [], ◌∷◌, ◌++◌, length, Result, Err, refl, sym, ap, subst, ◌∙◌, append_assoc, lit<, arith}
use Rattle.std.specs.List.{concat, flat_map}
use Rattle.std.specs.Int.{w16, w32, to_le_bytes}
use Rattle.std.proofs.lemmas.Bool.{eqb-true, leb-true}
use Rattle.std.proofs.lemmas.List.{append-nil, length-append, length_push}
use Rattle.std.proofs.lemmas.List.Concat.{flat_map-append, flat_map-cons}
use Rattle.std.proofs.lemmas.List.Elements.{All-nil, All-cons, All-append}
use Rattle.std.proofs.lemmas.List.Folds.{concat-append}
use Rattle.kt_base.specs.declared.cell.Kind.{Kind}
use Rattle.kt_base.specs.declared.cell.Kind.TheVariants as kinds
use Rattle.kt_bytes.specs.Places.{Begins}
use Rattle.kt_bytes.specs.Reading.{◌>>=◌, number_at, checked_at, many_at, EachAfter}
use Rattle.kt_bytes.proofs.Numbers.{IsBytes, then_is, wide16, wide32}
use Rattle.kt_bytes.proofs.Formats.{Part, bytes_join}
use Rattle.kt_bytes.proofs.Leaves.{number_bytes, Passes, number_fields, number_part, any_number, code_fields}
use Rattle.kt_bytes.proofs.Joins.{both_part, same_part, made_at, made_part, many_part}
use Rattle.kt_cells.specs.Reading.{flag_at}
use Rattle.kt_baseset.specs.declared.schema.ColumnShape.{ColumnShape}
use Rattle.kt_baseset.specs.Rows.{IdsRise, HaveIds, AreShapes}
use Rattle.kt_baseset.specs.Spelling.{ktb1, kind_number, flag_number, shape_bytes}
use Rattle.kt_baseset.specs.Reading.{may_have, is_ktb1, rows_at, kind_at, is_id, shape_at, next_id}
use Rattle.kt_baseset.specs.Fields.{Front, FrontFits, head_fields, shape_fields, list_fields, front_fields, Spelled}
use Rattle.kt_baseset.proofs.Shapes.{both_true, so_many, Any, kind_part, flag_part, IsAbove, id_test, id_tested, shape_again}
use Rattle.kt_baseset.proofs.Each.{tail_past, next_below, next-push}

-- ---- a column

abbrev shaped : ℕ → Kind → Bool → ColumnShape
shaped id kind nullable = record { id = id; kind = kind; nullable = nullable }

abbrev OfKind : ℕ → Kind → ColumnShape → Type 0
OfKind id kind c = Unit {0} × (shaped id kind c.nullable ≡ c)

abbrev OfId : ℕ → ColumnShape → Type 0
OfId id c = Unit {0} × OfKind id c.kind c

kinded_part : (id : ℕ) → Part (λ bytes. kind_at bytes >>= λ kind. made_at flag_at (shaped id kind.0) kind.1) (λ c. (kind_number c.kind ∷ []) ∷ (flag_number c.nullable ∷ []) ∷ []) (OfId id)
kinded_part id =
    both_part kind_at (code_fields kind_number) Any (λ kind. made_at flag_at (shaped id kind)) (λ c. (flag_number c.nullable ∷ []) ∷ []) (OfKind id) (λ c. c.kind) (λ kind c f. sym (ap (λ (d : ColumnShape). d.kind) f.1)) kind_part
    (λ kind f. made_part flag_at (code_fields flag_number) Any (shaped id kind) (λ c. c.nullable) (λ b g. refl) flag_part)

pub shape_part : (least more : ℕ) → least + more < 2 ^ 16 → Part (shape_at least more) shape_fields (IsAbove least more)
unfolding shape_at
shape_part least more room =
    same_part (shape_at least more) shape_fields shape_fields (λ c. Passes (is_id least more) (2 ^ 16) c.id × OfId c.id c) (IsAbove least more) to from (λ c f. refl)
    (both_part (checked_at w16 (is_id least more)) (number_fields w16) (Passes (is_id least more) (2 ^ 16)) (λ id bytes. kind_at bytes >>= λ kind. made_at flag_at (shaped id kind.0) kind.1)
    (λ c. (kind_number c.kind ∷ []) ∷ (flag_number c.nullable ∷ []) ∷ []) OfId (λ c. c.id) (λ id c f. sym (ap (λ (d : ColumnShape). d.id) f.1.1))
    (number_part w16 (2 ^ 16) wide16 (is_id least more) (omega arith) least (id_test least more least (omega arith) room) (omega (arith, room))) (λ id f. kinded_part id))
  where
    to : (c : ColumnShape) → Passes (is_id least more) (2 ^ 16) c.id × OfId c.id c → IsAbove least more c
    to c f = let t = id_tested least more c.id f.0.0 in record { above = t.0; room = t.1 }

    from : (c : ColumnShape) → IsAbove least more c → Passes (is_id least more) (2 ^ 16) c.id × OfId c.id c
    from c is = ((id_test least more c.id is.above is.room, omega (arith, is.room)), (tt, (tt, refl)))

-- ---- columns

-- the reader of the column behind some of n
abbrev pub next_at : ℕ → List ColumnShape → List ℕ → Result (ColumnShape × List ℕ) ℕ
next_at n front = shape_at (next_id 0 front) (n - length front - 1)

abbrev pub IsNext : ℕ → List ColumnShape → ColumnShape → Type 0
IsNext n front = IsAbove (next_id 0 front) (n - length front - 1)

record RoomFor (n k : ℕ) (front : List ColumnShape) : Type 0 where
  count : length front + k ≡ n
  ids : next_id 0 front + k ≤ 2 ^ 16

each_rise : (n : ℕ) (front cs : List ColumnShape) → EachAfter (IsNext n) front cs → IdsRise (next_id 0 front) cs × HaveIds cs
each_rise n front [] each = (tt, All-nil (λ (c : ColumnShape). c.id < 2 ^ 16))
each_rise n front (c ∷ cs) each =
    let rest = each_rise n (front ++ c ∷ []) cs each.1 in
    let S : ColumnShape → Type 0 = λ s. s.id < 2 ^ 16 in
    ((each.0.above, subst (λ (k : ℕ). IdsRise k cs) (next-push front 0 c) rest.0), All-cons S c cs (omega (arith, each.0.room)) rest.1)

pub each_next : (n : ℕ) (front cs : List ColumnShape) → IdsRise (next_id 0 front) cs → length front + length cs ≤ n → next_id (next_id 0 front) cs + (n - length front - length cs) ≤ 2 ^ 16 → EachAfter (IsNext n) front cs
each_next n front [] rise few room = tt
each_next n front (c ∷ cs) rise few room =
    let past = tail_past cs c.id rise.1 in
    let next = next-push front 0 c in
    let pushed = length_push front c in (
      record { above = rise.0; room = omega (arith, past, few, room) },
      each_next n (front ++ c ∷ []) cs (subst (λ (k : ℕ). IdsRise k cs) (sym next) rise.1) (omega (arith, few, pushed)) (subst (λ (k : ℕ). next_id k cs + (n - length (front ++ c ∷ []) - length cs) ≤ 2 ^ 16) (sym next) (omega (arith, few, room, pushed))),
    )

-- so many columns by rising id
abbrev Rising : ℕ → List ColumnShape → Type 0
Rising n cs = (length cs ≡ n) × IdsRise 0 cs × HaveIds cs

counted_part : (n : ℕ) → n < 2 ^ 16 → Part (many_at (next_at n) n []) (flat_map shape_fields) (Rising n)
counted_part n few =
    same_part (many_at (next_at n) n []) (flat_map shape_fields) (flat_map shape_fields) (λ cs. (length cs ≡ n) × EachAfter (IsNext n) [] cs) (Rising n) to from (λ cs f. refl)
    (many_part (next_at n) shape_fields (IsNext n) (RoomFor n) part next n (record { count = omega arith; ids = omega (arith, few) }))
  where
    to : (cs : List ColumnShape) → (length cs ≡ n) × EachAfter (IsNext n) [] cs → Rising n cs
    to cs f = let r = each_rise n [] cs f.1 in (f.0, r.0, r.1)

    from : (cs : List ColumnShape) → Rising n cs → (length cs ≡ n) × EachAfter (IsNext n) [] cs
    from cs f = (f.0, each_next n [] cs f.1 (omega (arith, f.0)) (omega (arith, f.0, next_below cs 0 (omega arith) f.2)))

    part : (k : ℕ) (front : List ColumnShape) → RoomFor n (suc k) front → Part (next_at n front) shape_fields (IsNext n front)
    part k front room = shape_part (next_id 0 front) (n - length front - 1) (omega (arith, room.count, room.ids))

    next : (k : ℕ) (front : List ColumnShape) (c : ColumnShape) → RoomFor n (suc k) front → IsNext n front c → RoomFor n k (front ++ c ∷ [])
    next k front c room is = record { count = omega (arith, room.count, length_push front c); ids = omega (arith, room.count, is.room, next-push front 0 c) }

abbrev pub columns_at : List ℕ → Result (List ColumnShape × List ℕ) ℕ
columns_at bytes = number_at w16 bytes >>= λ n. many_at (next_at n.0) n.0 [] n.1

columns_part : Part columns_at (λ cs. list_fields (length cs) cs) AreShapes
columns_part =
    same_part columns_at (λ cs. list_fields (length cs) cs) (λ cs. list_fields (length cs) cs) (λ cs. Passes (λ n. true) (2 ^ 16) (length cs) × Rising (length cs) cs) AreShapes
    (λ cs f. record { few = f.0.1; rise = f.1.1; fit = f.1.2 }) (λ cs f. ((refl, f.few), (refl, f.rise, f.fit))) (λ cs f. refl)
    (both_part (number_at w16) (number_fields w16) (Passes (λ n. true) (2 ^ 16)) (λ n. many_at (next_at n) n []) (flat_map shape_fields) Rising (λ cs. length cs) (λ n cs f. f.0)
    (any_number w16 (2 ^ 16) wide16 (omega arith) (omega arith)) (λ n f. counted_part n f.1))

-- ---- a front

abbrev pub RowsFit : ℕ → Type 0
RowsFit n = (1 ≤ n) × (n ≤ 3435973836)

abbrev IsWord : ℕ → Type 0
IsWord = Passes is_ktb1 (2 ^ 32)

abbrev Counts : ℕ → Type 0
Counts = Passes may_have (2 ^ 32)

count_part : Part (checked_at w32 may_have) (number_fields w32) Counts
count_part = number_part w32 (2 ^ 32) wide32 may_have (omega arith) 1 refl (omega arith)

pub rows_part : Part rows_at head_fields RowsFit
unfolding rows_at
rows_part =
    same_part rows_at head_fields head_fields (λ n. IsWord ktb1 × (Counts n × (ktb1 ≡ ktb1))) RowsFit to from (λ n f. refl)
    (both_part (checked_at w32 is_ktb1) (number_fields w32) IsWord (λ word. checked_at w32 may_have) (number_fields w32) (λ word n. Counts n × (ktb1 ≡ word)) (λ n. ktb1) (λ word n g. g.1)
    (number_part w32 (2 ^ 32) wide32 is_ktb1 (omega arith) ktb1 refl (lit< tt))
    (λ word g. same_part (checked_at w32 may_have) (number_fields w32) (number_fields w32) Counts (λ n. Counts n × (ktb1 ≡ word)) (λ n h. (h, sym (eqb-true word ktb1 g.0))) (λ n h. h.0) (λ n h. refl) count_part))
  where
    to : (n : ℕ) → IsWord ktb1 × (Counts n × (ktb1 ≡ ktb1)) → RowsFit n
    to n f = let t = both_true (Rattle.std.proofs.Common.leb 1 n) (Rattle.std.proofs.Common.leb n 3435973836) f.1.0.0 in (leb-true 1 n t.0, leb-true n 3435973836 t.1)

    from : (n : ℕ) → RowsFit n → IsWord ktb1 × (Counts n × (ktb1 ≡ ktb1))
    from n f = ((refl, lit< tt), ((so_many n f.0 f.1, omega (arith, f.1)), refl))

abbrev pub front_of : ℕ → List ColumnShape → Front
front_of rows schema = record { rows = rows; schema = schema }

abbrev pub front_at : List ℕ → Result (Front × List ℕ) ℕ
front_at bytes = rows_at bytes >>= λ n. made_at columns_at (front_of n.0) n.1

pub front_part : Part front_at front_fields FrontFits
front_part =
    same_part front_at front_fields front_fields (λ f. RowsFit f.rows × (AreShapes f.schema × (front_of f.rows f.schema ≡ f))) FrontFits
    (λ f g. record { some = g.0.0; few = g.0.1; columns = g.1.0 }) (λ f g. ((g.some, g.few), (g.columns, refl))) (λ f g. refl)
    (both_part rows_at head_fields RowsFit (λ n. made_at columns_at (front_of n)) (λ f. list_fields (length f.schema) f.schema) (λ n f. AreShapes f.schema × (front_of n f.schema ≡ f)) (λ f. f.rows) (λ n f g. sym (ap (λ (x : Front). x.rows) g.1)) rows_part
    (λ n g. made_part columns_at (λ cs. list_fields (length cs) cs) AreShapes (front_of n) (λ f. f.schema) (λ cs h. refl) columns_part))

-- ---- what stands can go on

kind_small : (kind : Kind) → kind_number kind < 256
kind_small kinds.Bool = omega arith
kind_small kinds.Int8 = omega arith
kind_small kinds.Int16 = omega arith
kind_small kinds.Int32 = omega arith
kind_small kinds.Int64 = omega arith
kind_small kinds.String = omega arith
kind_small kinds.Binary = omega arith

flag_small : (b : Bool) → flag_number b < 256
flag_small false = omega arith
flag_small true = omega arith

two_bytes : (a b : ℕ) → a < 256 → b < 256 → IsBytes (a ∷ b ∷ [])
two_bytes a b x y zero = x
two_bytes a b x y (suc zero) = y
two_bytes a b x y (suc (suc i)) = omega arith

pub fields_cons : (c : ColumnShape) (cs : List ColumnShape) → concat (flat_map shape_fields (c ∷ cs)) ≡ shape_bytes c ++ concat (flat_map shape_fields cs)
fields_cons c cs = ap concat (flat_map-cons shape_fields c cs) ∙ concat-append (shape_fields c) (flat_map shape_fields cs)

shapes_are_bytes : (cs : List ColumnShape) → IsBytes (concat (flat_map shape_fields cs))
shapes_are_bytes [] = λ i. omega arith
shapes_are_bytes (c ∷ cs) =
    let one : IsBytes (shape_bytes c) = bytes_join (to_le_bytes w16 c.id) (kind_number c.kind ∷ flag_number c.nullable ∷ []) (number_bytes w16 c.id) (two_bytes (kind_number c.kind) (flag_number c.nullable) (kind_small c.kind) (flag_small c.nullable)) in
    subst IsBytes (sym (fields_cons c cs)) (bytes_join (shape_bytes c) (concat (flat_map shape_fields cs)) one (shapes_are_bytes cs))

front_bytes : (f : Front) → IsBytes (concat (front_fields f))
front_bytes f =
    let columns : List ℕ = concat (flat_map shape_fields f.schema) in
    let count : List ℕ = to_le_bytes w16 (length f.schema) in
    let rows : List ℕ = to_le_bytes w32 f.rows in
    bytes_join (to_le_bytes w32 ktb1) (rows ++ (count ++ columns)) (number_bytes w32 ktb1)
    (bytes_join rows (count ++ columns) (number_bytes w32 f.rows) (bytes_join count columns (number_bytes w16 (length f.schema)) (shapes_are_bytes f.schema)))

-- so many columns from an id on
fill : ℕ → ℕ → List ColumnShape
fill id zero = []
fill id (suc k) = shaped id kinds.Bool false ∷ fill (id + 1) k

fill_len : (id k : ℕ) → length (fill id k) ≡ k
unfolding fill
fill_len id zero = refl
fill_len id (suc k) = ap suc (fill_len (id + 1) k)

fill_rise : (id k : ℕ) → IdsRise id (fill id k)
unfolding fill
fill_rise id zero = tt
fill_rise id (suc k) = (omega arith, fill_rise (id + 1) k)

fill_fit : (id k : ℕ) → id + k ≤ 2 ^ 16 → HaveIds (fill id k)
unfolding fill
fill_fit id zero le = All-nil (λ (c : ColumnShape). c.id < 2 ^ 16)
fill_fit id (suc k) le = All-cons (λ (c : ColumnShape). c.id < 2 ^ 16) (shaped id kinds.Bool false) (fill (id + 1) k) (omega (arith, le)) (fill_fit (id + 1) k (omega (arith, le)))

rise_join : (cs ds : List ColumnShape) (least : ℕ) → IdsRise least cs → IdsRise (next_id least cs) ds → IdsRise least (cs ++ ds)
rise_join [] ds least p q = q
rise_join (c ∷ cs) ds least p q = (p.0, rise_join cs ds (c.id + 1) p.1 q)

-- columns that leave ids for the others of n
pub record Listed (n : ℕ) (cs : List ColumnShape) : Type 0 where
  pub count : n < 2 ^ 16
  pub few : length cs ≤ n
  pub rise : IdsRise 0 cs
  pub fit : HaveIds cs
  pub room : next_id 0 cs + (n - length cs) ≤ 2 ^ 16

-- some front begins with them
pub begins : (rows n : ℕ) (cs : List ColumnShape) → RowsFit rows → Listed n cs → Begins Spelled (head_fields rows ++ list_fields n cs)
begins rows n cs own is =
    let k : ℕ = n - length cs in
    let more : List ColumnShape = fill (next_id 0 cs) k in
    let all : List ColumnShape = cs ++ more in
    let len : length all ≡ n = length-append cs more ∙ ap (λ (m : ℕ). length cs + m) (fill_len (next_id 0 cs) k) ∙ omega (arith, is.few) in
    let value : Front = front_of rows all in
    let same : (head_fields rows ++ list_fields n cs) ++ flat_map shape_fields more ≡ front_fields value =
    ap (λ (m : ℕ). (head_fields rows ++ list_fields m cs) ++ flat_map shape_fields more) (sym len) ∙ ap (λ (l : List (List ℕ)). head_fields rows ++ (to_le_bytes w16 (length all) ∷ l)) (sym (flat_map-append shape_fields cs more)) in (
      flat_map shape_fields more,
      record {
        value = value;
        keeps = record {
          some = own.0;
          few = own.1;
          columns = record {
            few = omega (arith, len, is.count);
            rise = rise_join cs more 0 is.rise (fill_rise (next_id 0 cs) k);
            fit = All-append (λ (c : ColumnShape). c.id < 2 ^ 16) cs more is.fit (fill_fit (next_id 0 cs) k is.room);
          };
        };
        bytes = subst (λ (l : List (List ℕ)). IsBytes (concat l)) (sym same) (front_bytes value);
        is = same;
      },
    )

-- what begins with more begins with less
pub begins_less : (S : List (List ℕ) → Type 0) (front more : List (List ℕ)) → Begins S (front ++ more) → Begins S front
begins_less S front more b = (more ++ b.0, subst S (append_assoc front more b.0) b.1)

-- ---- read again

-- behind columns that are read again the next one is read
pub many_fail : (n k : ℕ) (front cs : List ColumnShape) (rest : List ℕ) (left : ℕ) → EachAfter (IsNext n) front cs → next_at n (front ++ cs) rest ≡ Err left → many_at (next_at n) (length cs + suc k) front (concat (flat_map shape_fields cs) ++ rest) ≡ Err left
unfolding many_at
many_fail n k front [] rest left each e =
    let one : 0 + suc k ≡ suc k = omega arith in
    ap (λ (m : ℕ). many_at (next_at n) m front rest) one ∙ ap (λ (r : Result (ColumnShape × List ℕ) ℕ). r >>= λ x. many_at (next_at n) k (front ++ x.0 ∷ []) x.1) (ap (λ (l : List ColumnShape). next_at n l rest) (sym (append-nil front)) ∙ e)
many_fail n k front (c ∷ cs) rest left each e =
    let tail : List ℕ = concat (flat_map shape_fields cs) ++ rest in
    let more : length (c ∷ cs) + suc k ≡ suc (length cs + suc k) = omega arith in
    let text : concat (flat_map shape_fields (c ∷ cs)) ++ rest ≡ shape_bytes c ++ tail = ap (λ (l : List ℕ). l ++ rest) (fields_cons c cs) ∙ append_assoc (shape_bytes c) (concat (flat_map shape_fields cs)) rest in
    ap (λ (m : ℕ). many_at (next_at n) m front (concat (flat_map shape_fields (c ∷ cs)) ++ rest)) more
    ∙ ap (many_at (next_at n) (suc (length cs + suc k)) front) text
    ∙ then_is (next_at n front (shape_bytes c ++ tail)) (λ x. many_at (next_at n) (length cs + suc k) (front ++ x.0 ∷ []) x.1) (c, tail) (shape_again (next_id 0 front) (n - length front - 1) c tail each.0)
    ∙ many_fail n k (front ++ c ∷ []) cs rest left each.1 (ap (λ (l : List ColumnShape). next_at n l rest) (append_assoc front (c ∷ []) cs) ∙ e)

-- Bytes that are no base file are refused at one place.
use Rattle.std.proofs.Common.{◌≡◌, ◌≤◌, ◌<◌, ◌+◌, ◌-◌, ◌^◌, inl, inr, ℕ, List, [], ◌∷◌, ◌++◌, length, drop, Result, Ok, Err, refl, sym, ap, subst, ◌∙◌, append_assoc, arith, length-append}
use Rattle.std.specs.Int.{w16}
use Rattle.std.proofs.lemmas.Bool.{cases_lt}
use Rattle.std.proofs.lemmas.List.{append-nil, drop_at, length-map}
use Rattle.kt_bytes.specs.Reading.{number_at}
use Rattle.kt_bytes.proofs.Numbers.{IsBytes, IsBytes-drop, wide16}
use Rattle.kt_bytes.proofs.Taken.{number_took}
use Rattle.kt_base.specs.declared.cell.Cell.TheVariants as cells
use Rattle.kt_column.proofs.OnePlace.{column_once_refused, refused_column, rising_once_refused, refused_rising}
use Rattle.kt_lookup.specs.Filter.{filter_of}
use Rattle.kt_lookup.specs.Index.{index_of}
use Rattle.kt_lookup.specs.Tail as tail
use Rattle.kt_lookup.proofs.FieldsAt.{all_used}
use Rattle.kt_baseset.specs.declared.schema.ColumnShape.{ColumnShape}
use Rattle.kt_baseset.specs.declared.rows.KeyedRow.{KeyedRow}
use Rattle.kt_baseset.specs.declared.held.HeldColumn.{HeldColumn}
use Rattle.kt_baseset.specs.Rows.{keys_in, form_of}
use Rattle.kt_baseset.specs.Tables.{shapes_of, key_cells}
use Rattle.kt_baseset.specs.Spelling.{SpellsEach, SpellsBase, lookup_bytes}
use Rattle.kt_baseset.specs.Reading.{rows_at, shape_at, next_id, ReadsKeys, ReadsOne, ReadsEach, ReadsSome, ReadsColumns, IsRefusedAt, AreRefusedAt, IsKeysFault, in_rows, in_keys, IsOneFault, in_shape, in_blocks, IsEachFault, IsColumnsFault, in_count, in_each, IsLookupFault, in_field, behind, IsFault, of_keys, of_columns, of_lookup}
use Rattle.kt_baseset.proofs.Shapes.{rows_take, shape_takes}
use Rattle.kt_baseset.proofs.Fronts.{rows_read, same_read, rising_keys}
use Rattle.kt_baseset.proofs.Each.{shape_read, same_shape, count_read, same_count, columns_each, Remains, Next, next_of, own_count, room_all}
use Rattle.kt_baseset.proofs.Once.{Row, tail_row, head_one, one_same, each_same, keys_same, spelled_as}
use Rattle.kt_baseset.proofs.Whole.{keys_read, columns_read}

-- what was read was not refused, and is refused in one way
pub never : {X : Type 0} (r : Result X ℕ) (x : X) (left : ℕ) → r ≡ Ok x → r ≡ Err left → ⊥
never r x left p q = absurd cc

pub same_err : {X : Type 0} (r : Result X ℕ) (a b : ℕ) → r ≡ Err a → r ≡ Err b → a ≡ b
same_err r a b p q = cc

pub behind_bytes : (xs ys bytes : List ℕ) → bytes ≡ xs ++ ys → IsBytes bytes → IsBytes ys
behind_bytes xs ys bytes e h = subst IsBytes (ap (drop (length xs)) e ∙ drop_at xs ys (length xs) refl) (IsBytes-drop (length xs) bytes h)

-- ---- keys

pub keys_once : (bytes : List ℕ) (a b : ℕ) → IsBytes bytes → IsKeysFault bytes a → IsKeysFault bytes b → a ≡ b
keys_once bytes a b fits (in_rows p) (in_rows q) = same_err (rows_at bytes) a b p q
keys_once bytes a b fits (in_rows p) (in_keys n rest q g) = absurd (never (rows_at bytes) (n, rest) a q p)
keys_once bytes a b fits (in_keys n rest p f) (in_rows q) = absurd (never (rows_at bytes) (n, rest) b p q)
keys_once bytes a b fits (in_keys n rest p f) (in_keys m others q g) =
    let e = same_read (rows_at bytes) n m rest others p q in
    let h : AreRefusedAt n rest b = subst (λ k. AreRefusedAt k rest b) (sym e.0) (subst (λ (r : List ℕ). AreRefusedAt m r b) (sym e.1) g) in
    let at : f.at ≡ h.at = rising_once_refused n rest f.at h.at (rows_take bytes n rest fits p).rest_fits f.why h.why in
    f.place ∙ (ap (λ k. length rest - k) at ∙ sym h.place)

pub no_keys : (bytes : List ℕ) (a : ℕ) (keys : List (List ℕ)) (rest : List ℕ) → IsBytes bytes → IsKeysFault bytes a → ReadsKeys bytes keys rest → ⊥
no_keys bytes a keys rest fits (in_rows p) r = never (rows_at bytes) (length keys, r.spelled.blocks ++ rest) a (rows_read bytes keys rest r) p
no_keys bytes a keys rest fits (in_keys n others p f) r =
    let e = same_read (rows_at bytes) n (length keys) others (r.spelled.blocks ++ rest) p (rows_read bytes keys rest r) in
    refused_rising n others f.at (key_cells keys) r.spelled.blocks rest (rows_take bytes n others fits p).rest_fits f.why r.spelled.spelled (length-map keys cells.Bytes ∙ sym e.0) (rising_keys keys r.are.rise) e.1

-- ---- a column

pub one_once : (rows least more : ℕ) (bytes : List ℕ) (a b : ℕ) → IsBytes bytes → IsOneFault rows least more bytes a → IsOneFault rows least more bytes b → a ≡ b
one_once rows least more bytes a b fits (in_shape p) (in_shape q) = same_err (shape_at least more bytes) a b p q
one_once rows least more bytes a b fits (in_shape p) (in_blocks s rest q g) = absurd (never (shape_at least more bytes) (s, rest) a q p)
one_once rows least more bytes a b fits (in_blocks s rest p f) (in_shape q) = absurd (never (shape_at least more bytes) (s, rest) b p q)
one_once rows least more bytes a b fits (in_blocks s rest p f) (in_blocks t others q g) =
    let e = same_shape (shape_at least more bytes) s t rest others p q in
    let h : IsRefusedAt (form_of s) rows rest b = subst (λ (u : ColumnShape). IsRefusedAt (form_of u) rows rest b) (sym e.0) (subst (λ (r : List ℕ). IsRefusedAt (form_of t) rows r b) (sym e.1) g) in
    let at : f.at ≡ h.at = column_once_refused (form_of s) rows rest f.at h.at (shape_takes least more bytes (s, rest) fits p).rest_fits f.why h.why in
    f.place ∙ (ap (λ k. length rest - k) at ∙ sym h.place)

no_one : (rows least more : ℕ) (bytes : List ℕ) (a : ℕ) (c : HeldColumn) (rest : List ℕ) → IsBytes bytes → IsOneFault rows least more bytes a → ReadsOne rows least bytes c rest → c.shape.id + more < 2 ^ 16 → ⊥
no_one rows least more bytes a c rest fits (in_shape p) r room = never (shape_at least more bytes) (c.shape, r.spelled.blocks ++ rest) a (shape_read rows least more bytes c rest r room) p
no_one rows least more bytes a c rest fits (in_blocks s others p f) r room =
    let e = same_shape (shape_at least more bytes) s c.shape others (r.spelled.blocks ++ rest) p (shape_read rows least more bytes c rest r room) in
    let form : c.column.form ≡ form_of s = r.is.form ∙ ap form_of (sym e.0) in
    refused_column (form_of s) rows others f.at c.column.cells r.spelled.blocks rest (shape_takes least more bytes (s, others) fits p).rest_fits f.why (spelled_as c (form_of s) r.spelled.blocks form r.spelled.spelled) r.is.count e.1

-- ---- columns

-- what is left of more columns behind fewer
ahead : (rows least : ℕ) (cs ds : List HeldColumn) (a b r s : List ℕ) → Row rows least cs → Row rows least ds → SpellsEach cs a → SpellsEach ds b → length cs ≤ length ds → a ++ r ≡ b ++ s → Remains cs r ds s
ahead rows least [] ds a b r s x y p q le e = record { more = ds; list = refl; after = b; spelled = q; parts = ap (λ (z : List ℕ). z ++ r) (sym p) ∙ e }
ahead rows least (c ∷ cs) [] a b r s x y p q le e = absurd (omega (arith, le))
ahead rows least (c ∷ cs) (d ∷ ds) a b r s x y p q le e =
    let f : List ℕ = p.1 ++ r in
    let g : List ℕ = q.1 ++ s in
    let left : a ++ r ≡ p.0 ++ f = ap (λ (z : List ℕ). z ++ r) p.4 ∙ append_assoc p.0 p.1 r in
    let right : b ++ s ≡ q.0 ++ g = ap (λ (z : List ℕ). z ++ s) q.4 ∙ append_assoc q.0 q.1 s in
    let same : q.0 ++ g ≡ p.0 ++ f = sym right ∙ (sym e ∙ left) in
    let other = subst (λ (z : List ℕ). ReadsOne rows least z d g) same (head_one rows least d ds q.0 g y q.2) in
    let one = one_same rows least (p.0 ++ f) c d f g (head_one rows least c cs p.0 f x p.2) other in
    let next = subst (λ (h : HeldColumn). Row rows (h.shape.id + 1) ds) (sym one.0) (tail_row rows least d ds y) in
    let rest = ahead rows (c.shape.id + 1) cs ds p.1 q.1 r s (tail_row rows least c cs x) next p.3 q.3 (omega (arith, le)) one.1 in
    record { more = rest.more; list = ap (λ (h : HeldColumn). h ∷ ds) (sym one.0) ∙ ap (λ (hs : List HeldColumn). c ∷ hs) rest.list; after = rest.after; spelled = rest.spelled; parts = rest.parts }

row_of : (rows n : ℕ) (bytes : List ℕ) (cs : List HeldColumn) (rest : List ℕ) → ReadsEach rows n bytes cs rest → Row rows 0 cs
row_of rows n bytes cs rest r = record { rise = r.are.shapes.rise; fit = r.are.shapes.fit; each = r.are.each }

-- behind fewer columns stands the next of more
pub next_ahead : (rows : ℕ) (bytes : List ℕ) (cs ds : List HeldColumn) (rest last : List ℕ) → length cs < length ds → ReadsEach rows (length cs) bytes cs rest → ReadsEach rows (length ds) bytes ds last → Next rows cs rest ds last
next_ahead rows bytes cs ds rest last lt p q =
    let left = ahead rows 0 cs ds p.front q.front rest last (row_of rows (length cs) bytes cs rest p) (row_of rows (length ds) bytes ds last q) p.spelled q.spelled (omega (arith, lt)) (sym p.parts ∙ q.parts) in
    next_of rows (length ds) bytes cs rest ds last q left lt

-- as many columns are the same
pub some_same : (rows n : ℕ) (bytes : List ℕ) (cs ds : List HeldColumn) (rest last : List ℕ) → ReadsSome rows n bytes cs rest → ReadsSome rows n bytes ds last → length cs ≡ length ds → (cs ≡ ds) × (rest ≡ last)
some_same rows n bytes cs ds rest last p q len =
    each_same rows 0 cs ds p.read.front q.read.front rest last (row_of rows (length cs) bytes cs rest p.read) (row_of rows (length ds) bytes ds last q.read) p.read.spelled q.read.spelled len (sym p.read.parts ∙ q.read.parts)

-- where some columns stand, and the next one is at fault, no more stand
pub no_next : (rows n : ℕ) (bytes : List ℕ) (a : ℕ) (cs ds : List HeldColumn) (rest last : List ℕ) → IsBytes bytes → length cs < length ds → length ds ≤ n → ReadsEach rows (length cs) bytes cs rest → ReadsEach rows (length ds) bytes ds last
    → next_id 0 (shapes_of ds) + (n - length ds) ≤ 2 ^ 16 → IsOneFault rows (next_id 0 (shapes_of cs)) (n - length cs - 1) rest a → ⊥
no_next rows n bytes a cs ds rest last fits lt le p q room f =
    let next = next_ahead rows bytes cs ds rest last lt p q in
    no_one rows (next_id 0 (shapes_of cs)) (n - length cs - 1) rest a next.c next.behind (behind_bytes p.front rest bytes p.parts fits) f next.one (omega (arith, next.room, room, lt, le))

each_fault_once : (rows n : ℕ) (bytes : List ℕ) (a b : ℕ) → IsBytes bytes → IsEachFault rows n bytes a → IsEachFault rows n bytes b → a ≡ b
each_fault_once rows n bytes a b fits f g =
    elim (cases_lt (length f.columns) (length g.columns)) [
      | inl lt ↦ absurd (no_next rows n bytes a f.columns g.columns f.rest g.rest fits lt (omega (arith, g.stand.some)) f.stand.read g.stand.read g.stand.room f.next)
      | inr ge ↦ elim (cases_lt (length g.columns) (length f.columns)) [
        | inl lt ↦ absurd (no_next rows n bytes b g.columns f.columns g.rest f.rest fits lt (omega (arith, f.stand.some)) g.stand.read f.stand.read f.stand.room g.next)
        | inr le ↦
            let same = some_same rows n bytes f.columns g.columns f.rest g.rest f.stand g.stand (omega (arith, ge, le)) in
            let moved : IsOneFault rows (next_id 0 (shapes_of g.columns)) (n - length g.columns - 1) f.rest a = subst (λ (cs : List HeldColumn). IsOneFault rows (next_id 0 (shapes_of cs)) (n - length cs - 1) f.rest a) same.0 f.next in
            let next : IsOneFault rows (next_id 0 (shapes_of g.columns)) (n - length g.columns - 1) g.rest a = subst (λ (r : List ℕ). IsOneFault rows (next_id 0 (shapes_of g.columns)) (n - length g.columns - 1) r a) same.1 moved in
            one_once rows (next_id 0 (shapes_of g.columns)) (n - length g.columns - 1) g.rest a b (behind_bytes g.stand.read.front g.rest bytes g.stand.read.parts fits) next g.next
      ]
    ]

columns_once : (rows : ℕ) (bytes : List ℕ) (a b : ℕ) → IsBytes bytes → IsColumnsFault rows bytes a → IsColumnsFault rows bytes b → a ≡ b
columns_once rows bytes a b fits (in_count p) (in_count q) = same_err (number_at w16 bytes) a b p q
columns_once rows bytes a b fits (in_count p) (in_each n rest q g) = absurd (never (number_at w16 bytes) (n, rest) a q p)
columns_once rows bytes a b fits (in_each n rest p f) (in_count q) = absurd (never (number_at w16 bytes) (n, rest) b p q)
columns_once rows bytes a b fits (in_each n rest p f) (in_each m others q g) =
    let e = same_count (number_at w16 bytes) n m rest others p q in
    let h : IsEachFault rows n rest b = subst (λ k. IsEachFault rows k rest b) (sym e.0) (subst (λ (r : List ℕ). IsEachFault rows m r b) (sym e.1) g) in
    each_fault_once rows n rest a b (number_took w16 (2 ^ 16) wide16 bytes (n, rest) fits p).rest_fits f h

pub no_columns : (rows : ℕ) (bytes : List ℕ) (a : ℕ) (cs : List HeldColumn) (last : List ℕ) → IsBytes bytes → IsColumnsFault rows bytes a → ReadsColumns rows bytes cs last → ⊥
no_columns rows bytes a cs last fits (in_count p) r = never (number_at w16 bytes) (length cs, r.spelled.each ++ last) a (count_read rows bytes cs last r) p
no_columns rows bytes a cs last fits (in_each n rest p f) r =
    let all = columns_each rows bytes n rest p cs last r in
    no_next rows n rest a f.columns cs f.rest last (number_took w16 (2 ^ 16) wide16 bytes (n, rest) fits p).rest_fits (omega (arith, f.stand.some, all.count)) (omega (arith, all.count)) f.stand.read (own_count rows n rest cs last all) (room_all rows n rest cs last all) f.next

columns_agree : (rows : ℕ) (bytes : List ℕ) (cs ds : List HeldColumn) (last other : List ℕ) → ReadsColumns rows bytes cs last → ReadsColumns rows bytes ds other → last ≡ other
columns_agree rows bytes cs ds last other p q =
    let e = same_count (number_at w16 bytes) (length cs) (length ds) (p.spelled.each ++ last) (q.spelled.each ++ other) (count_read rows bytes cs last p) (count_read rows bytes ds other q) in
    let x : Row rows 0 cs = record { rise = p.are.shapes.rise; fit = p.are.shapes.fit; each = p.are.each } in
    let y : Row rows 0 ds = record { rise = q.are.shapes.rise; fit = q.are.shapes.fit; each = q.are.each } in
    (each_same rows 0 cs ds p.spelled.each q.spelled.each last other x y p.spelled.spelled q.spelled.spelled e.0 e.1).1

-- ---- the filter and the index

lookup_once : (keys : List (List ℕ)) (bytes : List ℕ) (a b : ℕ) → IsLookupFault keys bytes a → IsLookupFault keys bytes b → a ≡ b
lookup_once keys bytes a b (in_field i p f) (in_field j q g) = f ∙ (ap (λ k. length bytes - k) (same_err (tail.used_of (filter_of keys) (index_of keys) bytes) i j p q) ∙ sym g)
lookup_once keys bytes a b (in_field i p f) (behind rest is some g) = absurd (never (tail.used_of (filter_of keys) (index_of keys) bytes) (length (lookup_bytes keys)) i (all_used (filter_of keys) (index_of keys) bytes rest is) p)
lookup_once keys bytes a b (behind rest is some f) (in_field j q g) = absurd (never (tail.used_of (filter_of keys) (index_of keys) bytes) (length (lookup_bytes keys)) j (all_used (filter_of keys) (index_of keys) bytes rest is) q)
lookup_once keys bytes a b (behind rest is some f) (behind others are more g) = omega (arith, f, g, ap length is, ap length are, length-append (lookup_bytes keys) rest, length-append (lookup_bytes keys) others)

no_lookup : (keys : List (List ℕ)) (bytes : List ℕ) (a : ℕ) → IsLookupFault keys bytes a → bytes ≡ lookup_bytes keys → ⊥
no_lookup keys bytes a (in_field i p f) e = never (tail.used_of (filter_of keys) (index_of keys) bytes) (length (lookup_bytes keys)) i (all_used (filter_of keys) (index_of keys) bytes [] (e ∙ sym (append-nil (lookup_bytes keys)))) p
no_lookup keys bytes a (behind rest is some f) e = omega (arith, some, ap length e, ap length is, length-append (lookup_bytes keys) rest)

-- ---- the whole file

-- the bytes behind the keys, and behind the columns
pub keys_behind : (bytes : List ℕ) (keys : List (List ℕ)) (rest : List ℕ) → IsBytes bytes → ReadsKeys bytes keys rest → IsBytes rest
keys_behind bytes keys rest fits r = behind_bytes r.front rest bytes r.parts fits

pub fault_once : (bytes : List ℕ) (a b : ℕ) → IsBytes bytes → IsFault bytes a → IsFault bytes b → a ≡ b
fault_once bytes a b fits (of_keys f) (of_keys g) = keys_once bytes a b fits f g
fault_once bytes a b fits (of_keys f) (of_columns keys rest r g) = absurd (no_keys bytes a keys rest fits f r)
fault_once bytes a b fits (of_keys f) (of_lookup keys rest columns last r c g) = absurd (no_keys bytes a keys rest fits f r)
fault_once bytes a b fits (of_columns keys rest r f) (of_keys g) = absurd (no_keys bytes b keys rest fits g r)
fault_once bytes a b fits (of_lookup keys rest columns last r c f) (of_keys g) = absurd (no_keys bytes b keys rest fits g r)
fault_once bytes a b fits (of_columns keys rest r f) (of_columns others after s g) =
    let e = keys_same bytes keys others rest after r s in
    columns_once (length keys) rest a b (keys_behind bytes keys rest fits r) f (subst (λ (ks : List (List ℕ)). IsColumnsFault (length ks) rest b) (sym e.0) (subst (λ (z : List ℕ). IsColumnsFault (length others) z b) (sym e.1) g))
fault_once bytes a b fits (of_columns keys rest r f) (of_lookup others after columns last s c g) =
    let e = keys_same bytes keys others rest after r s in
    absurd (no_columns (length keys) rest a columns last (keys_behind bytes keys rest fits r) f (subst (λ (ks : List (List ℕ)). ReadsColumns (length ks) rest columns last) (sym e.0) (subst (λ (z : List ℕ). ReadsColumns (length others) z columns last) (sym e.1) c)))
fault_once bytes a b fits (of_lookup keys rest columns last r c f) (of_columns others after s g) =
    let e = keys_same bytes others keys after rest s r in
    absurd (no_columns (length others) after b columns last (keys_behind bytes others after fits s) g (subst (λ (ks : List (List ℕ)). ReadsColumns (length ks) after columns last) (sym e.0) (subst (λ (z : List ℕ). ReadsColumns (length keys) z columns last) (sym e.1) c)))
fault_once bytes a b fits (of_lookup keys rest columns last r c f) (of_lookup others after more end s d g) =
    let e = keys_same bytes keys others rest after r s in
    let there : ReadsColumns (length keys) rest more end = subst (λ (ks : List (List ℕ)). ReadsColumns (length ks) rest more end) (sym e.0) (subst (λ (z : List ℕ). ReadsColumns (length others) z more end) (sym e.1) d) in
    let same : last ≡ end = columns_agree (length keys) rest columns more last end c there in
    lookup_once keys last a b f (subst (λ (z : List ℕ). IsLookupFault keys z b) (sym same) (subst (λ (ks : List (List ℕ)). IsLookupFault ks end b) (sym e.0) g))

-- what is a base file is not refused
pub none_refused : (bytes : List ℕ) (a : ℕ) (schema : List ColumnShape) (rows : List KeyedRow) → IsBytes bytes → IsFault bytes a → SpellsBase schema rows bytes → ⊥
none_refused bytes a schema rows fits f s = against f
  where
    own : ReadsKeys bytes (keys_in rows) (s.spelled.middle ++ lookup_bytes (keys_in rows))
    own = keys_read schema rows bytes s

    against : IsFault bytes a → ⊥
    against (of_keys g) = no_keys bytes a (keys_in rows) (s.spelled.middle ++ lookup_bytes (keys_in rows)) fits g own
    against (of_columns keys rest r g) =
        let e = keys_same bytes keys (keys_in rows) rest (s.spelled.middle ++ lookup_bytes (keys_in rows)) r own in
        let g2 : IsColumnsFault (length (keys_in rows)) (s.spelled.middle ++ lookup_bytes (keys_in rows)) a = subst (λ (ks : List (List ℕ)). IsColumnsFault (length ks) (s.spelled.middle ++ lookup_bytes (keys_in rows)) a) e.0 (subst (λ (z : List ℕ). IsColumnsFault (length keys) z a) e.1 g) in
        no_columns (length (keys_in rows)) (s.spelled.middle ++ lookup_bytes (keys_in rows)) a _ _ (keys_behind bytes (keys_in rows) (s.spelled.middle ++ lookup_bytes (keys_in rows)) fits own) g2 (columns_read schema rows bytes s)
    against (of_lookup keys rest columns last r c g) =
        let e = keys_same bytes keys (keys_in rows) rest (s.spelled.middle ++ lookup_bytes (keys_in rows)) r own in
        let c2 : ReadsColumns (length (keys_in rows)) (s.spelled.middle ++ lookup_bytes (keys_in rows)) columns last = subst (λ (ks : List (List ℕ)). ReadsColumns (length ks) (s.spelled.middle ++ lookup_bytes (keys_in rows)) columns last) e.0 (subst (λ (z : List ℕ). ReadsColumns (length keys) z columns last) e.1 c) in
        let same = columns_agree (length (keys_in rows)) (s.spelled.middle ++ lookup_bytes (keys_in rows)) columns _ last _ c2 (columns_read schema rows bytes s) in
        no_lookup (keys_in rows) last a (subst (λ (ks : List (List ℕ)). IsLookupFault ks last a) e.0 g) same

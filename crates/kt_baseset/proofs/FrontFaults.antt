-- Where fields of a front stand, the reader stops in the fields that come next exactly at their first fault.
use Rattle.std.proofs.Common.{◌≡◌, ◌↔◌, ℕ, ◌+◌, ◌-◌, ◌^◌, ◌<◌, ◌≤◌, List, [], ◌∷◌, ◌++◌, length, take, drop, Result, Ok, Err, refl, sym, ap, subst, ◌∙◌, append_assoc, arith, inl, inr, length-append}
use Rattle.std.specs.List.{concat, flat_map}
use Rattle.std.specs.Int.{w16, to_le_bytes}
use Rattle.std.proofs.lemmas.Bool.{cases_lt}
use Rattle.std.proofs.lemmas.List.{append-nil, take_at, drop_at, length-map, length_push}
use Rattle.std.proofs.lemmas.List.Concat.{flat_map-append}
use Rattle.std.proofs.lemmas.List.Elements.{All-nil, All-push}
use Rattle.std.proofs.lemmas.List.Folds.{concat-append}
use Rattle.kt_bytes.specs.Places.{Begins, GoesOn, Stands as StandsAt, Delimited}
use Rattle.kt_bytes.specs.Places.{IsFault as IsPlaced}
use Rattle.kt_bytes.specs.Reading.{◌>>=◌, number_at, many_at}
use Rattle.kt_bytes.proofs.Numbers.{IsBytes, then_is, wide16, number_again}
use Rattle.kt_bytes.proofs.Taken.{number_took}
use Rattle.kt_bytes.proofs.Faults.{number_fails}
use Rattle.kt_bytes.proofs.Places.{goes_on}
use Rattle.kt_bytes.proofs.Places as places
use Rattle.kt_bytes.proofs.Formats.{bytes_front, bytes_join}
use Rattle.kt_bytes.proofs.Whole.{delimited, fault, ended}
use Rattle.kt_bytes.proofs.Joins.{made_at, give}
use Rattle.kt_baseset.specs.declared.errors.CodecNo.{CodecNo}
use Rattle.kt_baseset.specs.declared.errors.CodecNo.TheVariants as answers
use Rattle.kt_baseset.specs.declared.schema.ColumnShape.{ColumnShape}
use Rattle.kt_baseset.specs.declared.held.HeldColumn.{HeldColumn}
use Rattle.kt_baseset.specs.Tables.{shapes_of}
use Rattle.kt_baseset.specs.Spelling.{shape_bytes, lookup_bytes}
use Rattle.kt_baseset.specs.Reading.{rows_at, shape_at, next_id, ReadsKeys, ReadsEach, ReadsSome, ReadsColumns, in_rows, in_keys, IsOneFault, in_shape, in_blocks, IsEachFault, IsColumnsFault, in_count, in_each, IsLookupFault, in_field, behind, IsFault, of_keys, of_columns, of_lookup, IsRefusal}
use Rattle.kt_baseset.specs.Fields.{Front, FrontFits, head_fields, shape_fields, list_fields, front_fields, Spelled, Stands, before_rows, before_count, before_column, IsFrontFault, TellsFront}
use Rattle.kt_baseset.proofs.Shapes.{shape_takes}
use Rattle.kt_baseset.proofs.Fronts.{rows_read, same_read}
use Rattle.kt_baseset.proofs.Each.{shape_read, same_shape, count_read, same_count, columns_each, own_count, room_all, next-push, rise-push}
use Rattle.kt_baseset.proofs.Once.{keys_same}
use Rattle.kt_baseset.proofs.OnePlace.{never, behind_bytes, no_keys, next_ahead, some_same, no_next, fault_once}
use Rattle.kt_baseset.proofs.FrontParts.{next_at, each_next, columns_at, RowsFit, rows_part, front_of, front_at, front_part, shape_part, Listed, begins, begins_less, many_fail}

tells : Delimited Spelled
tells = delimited front_at front_fields FrontFits front_part

-- ---- fields that stand are not behind the fault

record Against (S : List (List ℕ) → Type 0) (front f g : List (List ℕ)) (r s : List ℕ) : Type 0 where
  begins_f : Begins S (front ++ f)
  begins_g : Begins S (front ++ g)
  ends : (field : List ℕ) → GoesOn S (front ++ f) field → ¬ StandsAt field r
  same : concat f ++ r ≡ concat g ++ s

next : {A : Type 0} (front : List A) (a : A) (f : List A) → front ++ a ∷ f ≡ (front ++ a ∷ []) ++ f
next front a f = sym (append_assoc front (a ∷ []) f)

not_shorter : (S : List (List ℕ) → Type 0) (front f g : List (List ℕ)) (r s : List ℕ) → Delimited S → Against S front f g r s → length (concat g) ≤ length (concat f)
not_shorter S front f [] r s d m = omega arith
not_shorter S front [] (b ∷ g) r s d m =
    absurd (m.ends b (rw append-nil (goes_on S front b g m.begins_g)) (concat g ++ s, m.same ∙ append_assoc b (concat g) s))
not_shorter S front (a ∷ f) (b ∷ g) r s d m =
    let len : length a ≡ length b = d front a b (goes_on S front a f m.begins_f) (goes_on S front b g m.begins_g) in
    let whole : a ++ (concat f ++ r) ≡ b ++ (concat g ++ s) = sym (append_assoc a (concat f) r) ∙ m.same ∙ append_assoc b (concat g) s in
    let one : a ≡ b = sym (take_at a (concat f ++ r) (length b) len) ∙ ap (take (length b)) whole ∙ take_at b (concat g ++ s) (length b) refl in
    let rest : concat f ++ r ≡ concat g ++ s = sym (drop_at a (concat f ++ r) (length b) len) ∙ ap (drop (length b)) whole ∙ drop_at b (concat g ++ s) (length b) refl in
    let left : front ++ a ∷ f ≡ (front ++ a ∷ []) ++ f = next front a f in
    let right : front ++ b ∷ g ≡ (front ++ a ∷ []) ++ g = ap (λ (x : List ℕ). front ++ x ∷ g) (sym one) ∙ next front a g in
    let more : length (concat g) ≤ length (concat f) = not_shorter S (front ++ a ∷ []) f g r s d (record {
      begins_f = subst (Begins S) left m.begins_f;
      begins_g = subst (Begins S) right m.begins_g;
      ends = λ field on. m.ends field (subst (λ (l : List (List ℕ)). GoesOn S l field) (sym left) on);
      same = rest;
    }) in
    omega (arith, more, len, length-append a (concat f), length-append b (concat g))

-- the place is not before the end of fields with which a spelling begins
not_before : (S : List (List ℕ) → Type 0) (front : List (List ℕ)) (bytes rest : List ℕ) (place : ℕ) → Delimited S → Begins S front → bytes ≡ concat front ++ rest → IsPlaced S bytes place → length (concat front) ≤ place
not_before S front bytes rest place d b e f =
    let le = not_shorter S [] f.front front f.rest rest d (record { begins_f = f.begins; begins_g = b; ends = f.ends; same = sym f.parts ∙ e }) in
    elim f.at [
      | inl p ↦ omega (arith, p.3, le)
      | inr p ↦ omega (arith, p.1, le)
    ]

-- ---- the fault of a front

begun_bytes : (front : List (List ℕ)) → Begins Spelled front → IsBytes (concat front)
begun_bytes front b = bytes_front (concat front) (concat b.0) (subst IsBytes (concat-append front b.0) b.1.bytes)

-- where the reader of a front stops behind fields that stand, there is their first fault
stopped : (front : List (List ℕ)) (rest : List ℕ) (left : ℕ) → Begins Spelled front → IsBytes rest → left ≤ length rest → front_at (concat front ++ rest) ≡ Err left → IsFrontFault front rest (length rest - left)
stopped front rest left b fits le e =
    let bytes : List ℕ = concat front ++ rest in
    let f = fault front_at front_fields FrontFits front_part bytes left (bytes_join (concat front) rest (begun_bytes front b) fits) (ap (λ (r : Result (Front × List ℕ) ℕ). r >>= ended front_at front_fields FrontFits front_part) e) in
    subst (IsPlaced Spelled bytes) (omega (arith, le, length-append (concat front) rest)) f.fault

-- behind fields that stand too there is no fault in these
passed : (front more : List (List ℕ)) (rest last : List ℕ) (at : ℕ) → Begins Spelled (front ++ more) → rest ≡ concat more ++ last → IsFrontFault front rest at → length (concat more) ≤ at
passed front more rest last at b e f =
    let joined : concat (front ++ more) ≡ concat front ++ concat more = concat-append front more in
    let text : concat front ++ rest ≡ concat (front ++ more) ++ last = ap (λ (l : List ℕ). concat front ++ l) e ∙ sym (append_assoc (concat front) (concat more) last) ∙ ap (λ (l : List ℕ). l ++ last) (sym joined) in
    let le = not_before Spelled (front ++ more) (concat front ++ rest) last (length (concat front) + at) tells b text f in
    omega (arith, le, ap length joined, length-append (concat front) (concat more))

-- What is known of a step of the reader, by which it goes on from fields that stand: where it stops, and what it takes
-- where it goes on.
record Step {A : Type 0} (bytes : List ℕ) (front : List (List ℕ)) (rest : List ℕ) (size : ℕ) (step : Result (A × List ℕ) ℕ) : Type 0 where
  within : length rest ≤ length bytes
  stops : (left : ℕ) → step ≡ Err left → (left ≤ length rest) × IsFrontFault front rest (length rest - left)
  told : (left : ℕ) → step ≡ Err left → IsFault bytes left
  goes : (x : A × List ℕ) → step ≡ Ok x → (at : ℕ) → IsFrontFault front rest at → size ≤ at
  behind : (x : A × List ℕ) → step ≡ Ok x → (left : ℕ) → IsFault bytes left → left + size ≤ length rest

step_law : {A : Type 0} (bytes : List ℕ) (front : List (List ℕ)) (rest : List ℕ) (size : ℕ) (step : Result (A × List ℕ) ℕ) → IsBytes bytes → Step bytes front rest size step
    → (at : ℕ) → at < size → IsRefusal bytes (answers.Place (length bytes - length rest + at)) ↔ IsFrontFault front rest at
step_law {A} bytes front rest size step fits s at lt = (to step refl, from step refl)
  where
    to : (r : Result (A × List ℕ) ℕ) → step ≡ r → IsRefusal bytes (answers.Place (length bytes - length rest + at)) → IsFrontFault front rest at
    to (Err l) is f =
        let same : f.0 ≡ l = fault_once bytes f.0 l fits f.1 (s.told l is) in
        let here = s.stops l is in
        subst (IsFrontFault front rest) (omega (arith, same, here.0, s.within, f.2)) here.1
    to (Ok x) is f = absurd (omega (arith, s.behind x is f.0 f.1, s.within, f.2, lt))

    from : (r : Result (A × List ℕ) ℕ) → step ≡ r → IsFrontFault front rest at → IsRefusal bytes (answers.Place (length bytes - length rest + at))
    from (Err l) is f =
        let here = s.stops l is in
        let same = places.one_place Spelled (concat front ++ rest) (length (concat front) + at) (length (concat front) + (length rest - l)) tells f here.1 in
        (l, s.told l is, omega (arith, same, here.0, s.within))
    from (Ok x) is f = absurd (omega (arith, s.goes x is at f, lt))

-- ---- how far a fault can be from the end

one_within : (rows least more : ℕ) (bytes : List ℕ) (left : ℕ) (x : ColumnShape × List ℕ) → shape_at least more bytes ≡ Ok x → IsOneFault rows least more bytes left → left ≤ length x.1
one_within rows least more bytes left x e (in_shape p) = absurd (never (shape_at least more bytes) x left e p)
one_within rows least more bytes left x e (in_blocks shape rest p f) =
    let same = same_shape (shape_at least more bytes) shape x.0 rest x.1 p e in
    omega (arith, f.place, ap length same.1)

-- a column's fields stop within the bytes
shape_within : (least more : ℕ) (bytes : List ℕ) (left : ℕ) → least + more < 2 ^ 16 → IsBytes bytes → shape_at least more bytes ≡ Err left → left ≤ length bytes
shape_within least more bytes left room fits e = ((shape_part least more room).fails (λ c more. more ≡ []) (λ c f own. ([], refl)) bytes left fits e).within

one_in : (rows least more : ℕ) (bytes : List ℕ) (left : ℕ) → least + more < 2 ^ 16 → IsBytes bytes → IsOneFault rows least more bytes left → left ≤ length bytes
one_in rows least more bytes left room fits (in_shape p) = shape_within least more bytes left room fits p
one_in rows least more bytes left room fits (in_blocks shape rest p f) =
    omega (arith, one_within rows least more bytes left (shape, rest) p (in_blocks shape rest p f), ap length (shape_takes least more bytes (shape, rest) fits p).parts, length-append (shape_bytes shape) rest)

next_in : (rows n : ℕ) (bytes : List ℕ) (left : ℕ) → IsBytes bytes → (f : IsEachFault rows n bytes left) → left ≤ length f.rest
next_in rows n bytes left fits f =
    one_in rows (next_id 0 (shapes_of f.columns)) (n - length f.columns - 1) f.rest left (omega (arith, f.stand.room, f.stand.some)) (behind_bytes f.stand.read.front f.rest bytes f.stand.read.parts fits) f.next

each_in : (rows n : ℕ) (bytes : List ℕ) (left : ℕ) → IsBytes bytes → IsEachFault rows n bytes left → left ≤ length bytes
each_in rows n bytes left fits f = omega (arith, next_in rows n bytes left fits f, ap length f.stand.read.parts, length-append f.stand.read.front f.rest)

columns_in : (rows : ℕ) (bytes : List ℕ) (left : ℕ) → IsBytes bytes → IsColumnsFault rows bytes left → left ≤ length bytes
columns_in rows bytes left fits (in_count p) = omega (arith, (number_fails w16 bytes left p).1)
columns_in rows bytes left fits (in_each n rest p f) =
    let t = number_took w16 (2 ^ 16) wide16 bytes (n, rest) fits p in
    omega (arith, each_in rows n rest left t.rest_fits f, ap length t.parts, length-append (to_le_bytes w16 n) rest)

columns_last : (rows : ℕ) (bytes : List ℕ) (cs : List HeldColumn) (last : List ℕ) → ReadsColumns rows bytes cs last → length last ≤ length bytes
columns_last rows bytes cs last r = omega (arith, ap length r.parts, length-append r.front last)

lookup_in : (keys : List (List ℕ)) (bytes : List ℕ) (left : ℕ) → IsLookupFault keys bytes left → left ≤ length bytes
lookup_in keys bytes left (in_field at p f) = omega (arith, f)
lookup_in keys bytes left (behind rest is some f) = omega (arith, f, ap length is, length-append (lookup_bytes keys) rest)

-- ---- the letters and the number of rows

keys_rest : (bytes : List ℕ) (keys : List (List ℕ)) (rest : List ℕ) (x : ℕ × List ℕ) → rows_at bytes ≡ Ok x → ReadsKeys bytes keys rest → length rest ≤ length x.1
keys_rest bytes keys rest x e r =
    let same = same_read (rows_at bytes) x.0 (length keys) x.1 (r.spelled.blocks ++ rest) e (rows_read bytes keys rest r) in
    omega (arith, ap length same.1, length-append r.spelled.blocks rest)

rows_behind : (bytes : List ℕ) (x : ℕ × List ℕ) (left : ℕ) → IsBytes bytes → rows_at bytes ≡ Ok x → IsFault bytes left → left ≤ length x.1
rows_behind bytes x left fits e (of_keys (in_rows p)) = absurd (never (rows_at bytes) x left e p)
rows_behind bytes x left fits e (of_keys (in_keys n rest p f)) =
    let same = same_read (rows_at bytes) n x.0 rest x.1 p e in
    omega (arith, f.place, ap length same.1)
rows_behind bytes x left fits e (of_columns keys rest r f) =
    omega (arith, columns_in (length keys) rest left (behind_bytes r.front rest bytes r.parts fits) f, keys_rest bytes keys rest x e r)
rows_behind bytes x left fits e (of_lookup keys rest columns last r c f) =
    omega (arith, lookup_in keys last left f, columns_last (length keys) rest columns last c, keys_rest bytes keys rest x e r)

listed_none : (n : ℕ) → n < 2 ^ 16 → Listed n []
listed_none n lt = record { count = lt; few = omega arith; rise = tt; fit = All-nil (λ (c : ColumnShape). c.id < 2 ^ 16); room = omega (arith, lt) }

begins_head : (rows : ℕ) → RowsFit rows → Begins Spelled (head_fields rows)
begins_head rows own = begins_less Spelled (head_fields rows) (list_fields 0 []) (begins rows 0 [] own (listed_none 0 (omega arith)))

begins_none : Begins Spelled []
begins_none = begins_less Spelled [] (head_fields 1) (begins_head 1 (omega arith, omega arith))

rows_step : (bytes : List ℕ) → IsBytes bytes → Step bytes [] bytes 8 (rows_at bytes)
rows_step bytes fits = record {
  within = omega arith;
  stops = λ left e. (within left e, stopped [] bytes left begins_none fits (within left e) (ap (λ (r : Result (ℕ × List ℕ) ℕ). r >>= λ n. made_at columns_at (front_of n.0) n.1) e));
  told = λ left e. of_keys (in_rows e);
  goes = λ x e at f. let t = rows_part.took bytes x fits e in passed [] (head_fields x.0) bytes x.1 at (begins_head x.0 t.fits) t.parts f;
  behind = λ x e left f. let t = rows_part.took bytes x fits e in omega (arith, rows_behind bytes x left fits e f, ap length t.parts, length-append (concat (head_fields x.0)) x.1);
}
  where
    within : (left : ℕ) → rows_at bytes ≡ Err left → left ≤ length bytes
    within left e = (rows_part.fails (λ n more. more ≡ []) (λ n f own. ([], refl)) bytes left fits e).within

-- ---- the number of columns

rows_fit : (bytes : List ℕ) (keys : List (List ℕ)) (rest : List ℕ) → ReadsKeys bytes keys rest → RowsFit (length keys)
rows_fit bytes keys rest r = (omega (arith, r.are.some), r.are.few)

keys_within : (bytes : List ℕ) (keys : List (List ℕ)) (rest : List ℕ) → ReadsKeys bytes keys rest → length rest ≤ length bytes
keys_within bytes keys rest r = omega (arith, ap length r.parts, length-append r.front rest)

count_in : (rows : ℕ) (bytes : List ℕ) (x : ℕ × List ℕ) (left : ℕ) → IsBytes bytes → number_at w16 bytes ≡ Ok x → IsColumnsFault rows bytes left → left ≤ length x.1
count_in rows bytes x left fits e (in_count p) = absurd (never (number_at w16 bytes) x left e p)
count_in rows bytes x left fits e (in_each n rest p f) =
    let same = same_count (number_at w16 bytes) n x.0 rest x.1 p e in
    omega (arith, each_in rows n rest left (number_took w16 (2 ^ 16) wide16 bytes (n, rest) fits p).rest_fits f, ap length same.1)

columns_of_keys : (keys others : List (List ℕ)) (rest after : List ℕ) (left : ℕ) → keys ≡ others → rest ≡ after → IsColumnsFault (length others) after left → IsColumnsFault (length keys) rest left
columns_of_keys keys others rest after left p q f = subst (λ (ks : List (List ℕ)). IsColumnsFault (length ks) rest left) (sym p) (subst (λ (z : List ℕ). IsColumnsFault (length others) z left) (sym q) f)

read_of_keys : (keys others : List (List ℕ)) (rest after : List ℕ) (cs : List HeldColumn) (last : List ℕ) → keys ≡ others → rest ≡ after → ReadsColumns (length others) after cs last → ReadsColumns (length keys) rest cs last
read_of_keys keys others rest after cs last p q c = subst (λ (ks : List (List ℕ)). ReadsColumns (length ks) rest cs last) (sym p) (subst (λ (z : List ℕ). ReadsColumns (length others) z cs last) (sym q) c)

count_behind : (bytes : List ℕ) (keys : List (List ℕ)) (rest : List ℕ) (x : ℕ × List ℕ) (left : ℕ) → IsBytes bytes → ReadsKeys bytes keys rest → number_at w16 rest ≡ Ok x → IsFault bytes left → left ≤ length x.1
count_behind bytes keys rest x left fits r e (of_keys f) = absurd (no_keys bytes left keys rest fits f r)
count_behind bytes keys rest x left fits r e (of_columns others after s f) =
    let same = keys_same bytes keys others rest after r s in
    count_in (length keys) rest x left (behind_bytes r.front rest bytes r.parts fits) e (columns_of_keys keys others rest after left same.0 same.1 f)
count_behind bytes keys rest x left fits r e (of_lookup others after cs last s c f) =
    let same = keys_same bytes keys others rest after r s in
    let own = read_of_keys keys others rest after cs last same.0 same.1 c in
    let counted = same_count (number_at w16 rest) x.0 (length cs) x.1 (own.spelled.each ++ last) e (count_read (length keys) rest cs last own) in
    omega (arith, lookup_in others last left f, ap length counted.1, length-append own.spelled.each last)

count_step : (bytes : List ℕ) (keys : List (List ℕ)) (rest : List ℕ) → IsBytes bytes → ReadsKeys bytes keys rest → Step bytes (head_fields (length keys)) rest 2 (number_at w16 rest)
count_step bytes keys rest fits r = record {
  within = keys_within bytes keys rest r;
  stops = λ left e. (within left e, stopped (head_fields n) rest left (begins_head n own) rest_fits (within left e) (stop left e));
  told = λ left e. of_columns keys rest r (in_count e);
  goes = λ x e at f. let t = number_took w16 (2 ^ 16) wide16 rest x rest_fits e in passed (head_fields n) (to_le_bytes w16 x.0 ∷ []) rest x.1 at (begins n x.0 [] own (listed_none x.0 t.fits)) t.parts f;
  behind = λ x e left f. let t = number_took w16 (2 ^ 16) wide16 rest x rest_fits e in omega (arith, count_behind bytes keys rest x left fits r e f, ap length t.parts, length-append (to_le_bytes w16 x.0) x.1);
}
  where
    n : ℕ
    n = length keys

    own : RowsFit (length keys)
    own = rows_fit bytes keys rest r

    rest_fits : IsBytes rest
    rest_fits = behind_bytes r.front rest bytes r.parts fits

    within : (left : ℕ) → number_at w16 rest ≡ Err left → left ≤ length rest
    within left e = omega (arith, (number_fails w16 rest left e).1)

    stop : (left : ℕ) → number_at w16 rest ≡ Err left → front_at (concat (head_fields (length keys)) ++ rest) ≡ Err left
    stop left e =
        then_is (rows_at (concat (head_fields (length keys)) ++ rest)) (λ k. made_at columns_at (front_of k.0) k.1) (length keys, rest) (rows_part.again (length keys) rest own)
        ∙ ap (λ (s : Result (ℕ × List ℕ) ℕ). (s >>= λ k. many_at (next_at k.0) k.0 [] k.1) >>= give (front_of (length keys))) e

-- ---- a column

-- behind fewer columns than stand the reader goes on
further : (rows n : ℕ) (listed : List ℕ) (cs ds : List HeldColumn) (rest last : List ℕ) (x : ColumnShape × List ℕ) → ReadsSome rows n listed cs rest → ReadsEach rows (length ds) listed ds last → length cs < length ds → length ds ≤ n
    → next_id 0 (shapes_of ds) + (n - length ds) ≤ 2 ^ 16 → shape_at (next_id 0 (shapes_of cs)) (n - length cs - 1) rest ≡ Ok x → length last ≤ length x.1
further rows n listed cs ds rest last x p q lt le room e =
    let next = next_ahead rows listed cs ds rest last lt p.read q in
    let step = shape_at (next_id 0 (shapes_of cs)) (n - length cs - 1) rest in
    let text : List ℕ = next.one.spelled.blocks ++ next.behind in
    let same = same_shape step x.0 next.c.shape x.1 text e (shape_read rows (next_id 0 (shapes_of cs)) (n - length cs - 1) rest next.c next.behind next.one (omega (arith, next.room, room, lt, le))) in
    omega (arith, ap length same.1, length-append next.one.spelled.blocks next.behind, ap length next.left.parts, length-append next.left.after last)

each_behind : (rows n : ℕ) (listed : List ℕ) (cs : List HeldColumn) (rest : List ℕ) (x : ColumnShape × List ℕ) (left : ℕ) → IsBytes listed → ReadsSome rows n listed cs rest → shape_at (next_id 0 (shapes_of cs)) (n - length cs - 1) rest ≡ Ok x → IsEachFault rows n listed left → left ≤ length x.1
each_behind rows n listed cs rest x left fits p e f =
    elim (cases_lt (length f.columns) (length cs)) [
      | inl lt ↦ absurd (no_next rows n listed left f.columns cs f.rest rest fits lt (omega (arith, p.some)) f.stand.read p.read p.room f.next)
      | inr ge ↦ elim (cases_lt (length cs) (length f.columns)) [
        | inl lt ↦ omega (arith, further rows n listed cs f.columns rest f.rest x p f.stand.read lt (omega (arith, f.stand.some)) f.stand.room e, next_in rows n listed left fits f)
        | inr le ↦
            let same = some_same rows n listed f.columns cs f.rest rest f.stand p (omega (arith, ge, le)) in
            let moved = subst (λ (ds : List HeldColumn). IsOneFault rows (next_id 0 (shapes_of ds)) (n - length ds - 1) f.rest left) same.0 f.next in
            one_within rows (next_id 0 (shapes_of cs)) (n - length cs - 1) rest left x e (subst (λ (z : List ℕ). IsOneFault rows (next_id 0 (shapes_of cs)) (n - length cs - 1) z left) same.1 moved)
      ]
    ]

-- keys, a count and some of the columns stand
record Begun (bytes : List ℕ) (keys : List (List ℕ)) (counted : List ℕ) (n : ℕ) (listed : List ℕ) (cs : List HeldColumn) (rest : List ℕ) : Type 0 where
  keyed : ReadsKeys bytes keys counted
  number : number_at w16 counted ≡ Ok (n, listed)
  some : ReadsSome (length keys) n listed cs rest
  fits : IsBytes bytes

module _ (bytes : List ℕ) (keys : List (List ℕ)) (counted : List ℕ) (n : ℕ) (listed : List ℕ) (cs : List HeldColumn) (rest : List ℕ) (b : Begun bytes keys counted n listed cs rest) where
  abbrev shapes : List ColumnShape
  shapes = shapes_of cs

  abbrev step : Result (ColumnShape × List ℕ) ℕ
  step = shape_at (next_id 0 (shapes_of cs)) (n - length cs - 1) rest

  counted_fits : IsBytes counted
  counted_fits = behind_bytes b.keyed.front counted bytes b.keyed.parts b.fits

  listed_fits : IsBytes listed
  listed_fits = (number_took w16 (2 ^ 16) wide16 counted (n, listed) counted_fits b.number).rest_fits

  rest_fits : IsBytes rest
  rest_fits = behind_bytes b.some.read.front rest listed b.some.read.parts listed_fits

  few : n < 2 ^ 16
  few = (number_took w16 (2 ^ 16) wide16 counted (n, listed) counted_fits b.number).fits

  as_many : length (shapes_of cs) ≡ length cs
  as_many = length-map cs (λ (c : HeldColumn). c.shape)

  own : RowsFit (length keys)
  own = rows_fit bytes keys counted b.keyed

  room : next_id 0 (shapes_of cs) + (n - length cs - 1) < 2 ^ 16
  room = omega (arith, b.some.room, b.some.some)

  are_listed : Listed n (shapes_of cs)
  are_listed = record { count = few; few = omega (arith, as_many, b.some.some); rise = b.some.read.are.shapes.rise; fit = b.some.read.are.shapes.fit; room = omega (arith, as_many, b.some.room) }

  column_within : length rest ≤ length bytes
  column_within =
      let t = number_took w16 (2 ^ 16) wide16 counted (n, listed) counted_fits b.number in
      omega (arith, keys_within bytes keys counted b.keyed, ap length t.parts, length-append (to_le_bytes w16 n) listed, ap length b.some.read.parts, length-append b.some.read.front rest)

  stop : (left : ℕ) → step ≡ Err left → front_at (concat (head_fields (length keys) ++ list_fields n (shapes_of cs)) ++ rest) ≡ Err left
  stop left e =
      let k : ℕ = n - length cs - 1 in
      let columns : List ℕ = concat (flat_map shape_fields (shapes_of cs)) ++ rest in
      let text : List ℕ = to_le_bytes w16 n ++ columns in
      let parts : concat (head_fields (length keys) ++ list_fields n (shapes_of cs)) ++ rest ≡ concat (head_fields (length keys)) ++ text =
      ap (λ (l : List ℕ). l ++ rest) (concat-append (head_fields (length keys)) (list_fields n (shapes_of cs))) ∙ append_assoc (concat (head_fields (length keys))) (concat (list_fields n (shapes_of cs))) rest
      ∙ ap (λ (l : List ℕ). concat (head_fields (length keys)) ++ l) (append_assoc (to_le_bytes w16 n) (concat (flat_map shape_fields (shapes_of cs))) rest) in
      let each = each_next n [] (shapes_of cs) b.some.read.are.shapes.rise (omega (arith, as_many, b.some.some)) (omega (arith, as_many, b.some.room)) in
      let here : next_at n (shapes_of cs) rest ≡ Err left = ap (λ (m : ℕ). shape_at (next_id 0 (shapes_of cs)) (n - m - 1) rest) as_many ∙ e in
      let many : many_at (next_at n) n [] columns ≡ Err left = ap (λ (m : ℕ). many_at (next_at n) m [] columns) (omega (arith, as_many, b.some.some)) ∙ many_fail n k [] (shapes_of cs) rest left each here in
      ap front_at parts
      ∙ then_is (rows_at (concat (head_fields (length keys)) ++ text)) (λ m. made_at columns_at (front_of m.0) m.1) (length keys, text) (rows_part.again (length keys) text own)
      ∙ ap (λ (s : Result (List ColumnShape × List ℕ) ℕ). s >>= give (front_of (length keys))) (then_is (number_at w16 text) (λ m. many_at (next_at m.0) m.0 [] m.1) (n, columns) (number_again w16 (2 ^ 16) wide16 n columns few) ∙ many)

  begins_more : (x : ColumnShape × List ℕ) → step ≡ Ok x → Begins Spelled ((head_fields (length keys) ++ list_fields n (shapes_of cs)) ++ shape_fields x.0)
  begins_more x e =
      let t = shape_takes (next_id 0 (shapes_of cs)) (n - length cs - 1) rest x rest_fits e in
      let more : List ColumnShape = shapes_of cs ++ x.0 ∷ [] in
      let S : ColumnShape → Type 0 = λ c. c.id < 2 ^ 16 in
      let len = length_push (shapes_of cs) x.0 in
      let is : Listed n more = record {
        count = few;
        few = omega (arith, len, as_many, b.some.some);
        rise = rise-push (shapes_of cs) 0 x.0 b.some.read.are.shapes.rise t.fits.above;
        fit = All-push S (shapes_of cs) x.0 b.some.read.are.shapes.fit (omega (arith, t.fits.room));
        room = omega (arith, len, as_many, b.some.some, t.fits.room, next-push (shapes_of cs) 0 x.0);
      } in
      let same : list_fields n more ≡ list_fields n (shapes_of cs) ++ shape_fields x.0 = ap (λ (l : List (List ℕ)). to_le_bytes w16 n ∷ l) (flat_map-append shape_fields (shapes_of cs) (x.0 ∷ [])) in
      subst (Begins Spelled) (ap (λ (l : List (List ℕ)). head_fields (length keys) ++ l) same ∙ sym (append_assoc (head_fields (length keys)) (list_fields n (shapes_of cs)) (shape_fields x.0))) (begins (length keys) n more own is)

  column_behind : (x : ColumnShape × List ℕ) (left : ℕ) → step ≡ Ok x → IsFault bytes left → left ≤ length x.1
  column_behind x left e (of_keys f) = absurd (no_keys bytes left keys counted b.fits f b.keyed)
  column_behind x left e (of_columns others after s f) =
      let same = keys_same bytes keys others counted after b.keyed s in
      in_columns (columns_of_keys keys others counted after left same.0 same.1 f)
    where
      in_columns : IsColumnsFault (length keys) counted left → left ≤ length x.1
      in_columns (in_count p) = absurd (never (number_at w16 counted) (n, listed) left b.number p)
      in_columns (in_each m text p g) =
          let same = same_count (number_at w16 counted) n m listed text b.number p in
          let h = subst (λ (k : ℕ). IsEachFault (length keys) k listed left) (sym same.0) (subst (λ (z : List ℕ). IsEachFault (length keys) m z left) (sym same.1) g) in
          each_behind (length keys) n listed cs rest x left listed_fits b.some e h
  column_behind x left e (of_lookup others after ds last s c f) =
      let same = keys_same bytes keys others counted after b.keyed s in
      let all = columns_each (length keys) counted n listed b.number ds last (read_of_keys keys others counted after ds last same.0 same.1 c) in
      omega (arith, lookup_in others last left f, further (length keys) n listed cs ds rest last x b.some (own_count (length keys) n listed ds last all) (omega (arith, all.count, b.some.some)) (omega (arith, all.count)) (room_all (length keys) n listed ds last all) e)

  column_step : Step bytes (head_fields (length keys) ++ list_fields n (shapes_of cs)) rest 4 step
  column_step = record {
    within = column_within;
    stops = λ left e. (inside left e, stopped (head_fields (length keys) ++ list_fields n (shapes_of cs)) rest left (begins (length keys) n (shapes_of cs) own are_listed) rest_fits (inside left e) (stop left e));
    told = λ left e. of_columns keys counted b.keyed (in_each n listed b.number (record { columns = cs; rest = rest; stand = b.some; next = in_shape e }));
    goes = λ x e at f. let t = shape_takes (next_id 0 (shapes_of cs)) (n - length cs - 1) rest x rest_fits e in passed (head_fields (length keys) ++ list_fields n (shapes_of cs)) (shape_fields x.0) rest x.1 at (begins_more x e) t.parts f;
    behind = λ x e left f. let t = shape_takes (next_id 0 (shapes_of cs)) (n - length cs - 1) rest x rest_fits e in omega (arith, column_behind x left e f, ap length t.parts, length-append (shape_bytes x.0) x.1);
  }
    where
      inside : (left : ℕ) → step ≡ Err left → left ≤ length rest
      inside left e = shape_within (next_id 0 (shapes_of cs)) (n - length cs - 1) rest left room rest_fits e

-- ---- all three

abbrev Law : List ℕ → List (List ℕ) → List ℕ → ℕ → Type 0
Law bytes front rest size = (at : ℕ) → at < size → IsRefusal bytes (answers.Place (length bytes - length rest + at)) ↔ IsFrontFault front rest at

law_as : (bytes : List ℕ) (front front' : List (List ℕ)) (rest : List ℕ) (size size' : ℕ) → front ≡ front' → size ≡ size' → Law bytes front' rest size' → Law bytes front rest size
law_as bytes front front' rest size size' p q law = subst (λ (f : List (List ℕ)). Law bytes f rest size) (sym p) (subst (Law bytes front' rest) (sym q) law)

pub front_told : (bytes : List ℕ) (front : List (List ℕ)) (rest : List ℕ) (size : ℕ) → IsBytes bytes → Stands bytes front rest size → Law bytes front rest size
front_told bytes front rest size fits (before_rows p q s) =
    law_as bytes front [] rest size 8 p s (subst (λ (z : List ℕ). Law bytes [] z 8) (sym q) (step_law bytes [] bytes 8 (rows_at bytes) fits (rows_step bytes fits)))
front_told bytes front rest size fits (before_count keys r p s) =
    law_as bytes front (head_fields (length keys)) rest size 2 p s (step_law bytes (head_fields (length keys)) rest 2 (number_at w16 rest) fits (count_step bytes keys rest fits r))
front_told bytes front rest size fits (before_column keys counted listed n cs r e some p s) =
    law_as bytes front (head_fields (length keys) ++ list_fields n (shapes_of cs)) rest size 4 p s
    (step_law bytes (head_fields (length keys) ++ list_fields n (shapes_of cs)) rest 4 (shape_at (next_id 0 (shapes_of cs)) (n - length cs - 1) rest) fits
    (column_step bytes keys counted n listed cs rest (record { keyed = r; number = e; some = some; fits = fits })))

-- what a decoder tells
pub front_tells : (bytes : List ℕ) (answer : CodecNo) → IsBytes bytes → IsRefusal bytes answer → TellsFront bytes answer
front_tells bytes answers.Memory fits refused = tt
front_tells bytes (answers.Place offset) fits refused = λ front rest size at stands lt e. (front_told bytes front rest size fits stands at lt).0 (subst (λ (k : ℕ). IsRefusal bytes (answers.Place k)) e refused)

-- Cells, their values, and which of them are null.
use Rattle.std.proofs.Common.{◌≡◌, ◌≢◌, ◌≤◌, ◌<◌, ◌+◌, inl, inr, ℕ, zero, suc, ℤ, Bool, true, false, List, [], ◌∷◌, ◌++◌, length, map, take, get_or, refl, sym, ap, ◌∙◌, subst, arith, true≢false, if◌then◌else◌}
use Rattle.std.specs.List.{All, AllByRecursion}
use Rattle.std.proofs.lemmas.List.Elements.{All-from_recursion, recursion_from_All}
use Rattle.std.proofs.lemmas.List.{length-map}
use Rattle.kt_base.specs.declared.cell.Cell.{Cell}
use Rattle.kt_base.specs.declared.cell.Cell.TheVariants.{Null, Int, Bool as Bit_, Bytes}
use Rattle.kt_plain.specs.declared.widths.Width.{Width}
use Rattle.kt_plain.specs.declared.widths.Width.TheVariants as widths
use Rattle.kt_plain.specs.declared.widths.NumberWidth.TheVariants as number_widths
use Rattle.kt_column.specs.Forms.{IsInWidth, IsNumeric}
use Rattle.kt_plain.specs.declared.widths.NumberWidth.{NumberWidth}
use Rattle.kt_plain.specs.Widths.{IsInWidth as in_width}
use Rattle.kt_plain.specs.Items.{count}
use Rattle.kt_plain.specs.declared.items.Items.{Items}
use Rattle.kt_plain.specs.declared.items.Items.TheVariants.{Numbers, Texts}
use Rattle.kt_column.specs.declared.form.Form.{Form}
use Rattle.kt_column.specs.Forms.{width, is_nullable, limit}
use Rattle.kt_column.specs.Values.{AreValues}
use Rattle.kt_column.specs.Nulls.{count_present}
use Rattle.kt_column.specs.Blocks.{IsCellOf, IsCell, AreCells, is_null, cell_len, AreNullsOf, Held, IsBlock, SpellsBlock, nulls_in, bit, numbers_in, texts_in, values_of, values_in, is_one, number_cell, value_cells, weave}
use Rattle.kt_column.proofs.Readings.{are_values}
use Rattle.kt_column.proofs.Widths.{numbers_fit_in}
use Rattle.kt_column.proofs.Lists.{concat_more}
use Rattle.std.specs.List.{concat}
use Rattle.std.proofs.Common.{append_assoc, drop, lit≤}
use Rattle.std.proofs.lemmas.List.{append-nil, drop_more}
use Rattle.kt_column.specs.declared.form.Form.TheVariants.{Cells, Keys}

-- the cells that are not null
abbrev pub there : List Cell → List Cell
there [] = []
there (Null ∷ cs) = there cs
there (c ∷ cs) = c ∷ there cs

-- cells of the kinds, one after the other
abbrev pub Each : Width → Bool → ℕ → List Cell → Type 0
Each w nullable most cs = AllByRecursion (IsCellOf w nullable most) cs

number_int : (w : Width) (z : ℤ) → w ≢ (widths.Numbers number_widths.Bit) → number_cell w z ≡ Int z
number_int (widths.Numbers number_widths.Bit) z h = absurd (h refl)
number_int (widths.Numbers number_widths.One) z h = refl
number_int (widths.Numbers number_widths.Two) z h = refl
number_int (widths.Numbers number_widths.Four) z h = refl
number_int (widths.Numbers number_widths.Eight) z h = refl
number_int widths.Bytes z h = refl

one_of_bit : (b : Bool) → is_one (bit b) ≡ b
one_of_bit true = refl
one_of_bit false = refl

number_bit : (w : Width) (b : Bool) → w ≡ (widths.Numbers number_widths.Bit) → number_cell w (bit b) ≡ Bit_ b
number_bit w b h = ap (λ v. number_cell v (bit b)) h ∙ ap Bit_ (one_of_bit b)

no_bytes : (w : Width) → IsNumeric w → w ≡ widths.Bytes → ⊥
no_bytes w n h = let bytes : IsNumeric widths.Bytes = subst IsNumeric h n in elim bytes [ ]

numbers_there : (w : Width) (nullable : Bool) (most : ℕ) (cs : List Cell) → IsNumeric w → Each w nullable most cs → map (number_cell w) (numbers_in cs) ≡ there cs
numbers_there w nullable most [] n h = refl
numbers_there w nullable most (Null ∷ cs) n h = numbers_there w nullable most cs n h.1
numbers_there w nullable most (Int z ∷ cs) n h = rw (number_int w z h.0.0, numbers_there w nullable most cs n h.1) refl
numbers_there w nullable most (Bit_ b ∷ cs) n h = rw (number_bit w b h.0, numbers_there w nullable most cs n h.1) refl
numbers_there w nullable most (Bytes t ∷ cs) n h = absurd (no_bytes w n h.0.0)

texts_there : (w : Width) (nullable : Bool) (most : ℕ) (cs : List Cell) → w ≡ widths.Bytes → Each w nullable most cs → map Bytes (texts_in cs) ≡ there cs
texts_there w nullable most [] e h = refl
texts_there w nullable most (Null ∷ cs) e h = texts_there w nullable most cs e h.1
texts_there w nullable most (Int z ∷ cs) e h = let none : IsInWidth widths.Bytes z = subst (λ v. IsInWidth v z) e h.0.1 in elim none [ ]
texts_there w nullable most (Bit_ b ∷ cs) e h = absurd (let bad : (widths.Numbers number_widths.Bit) ≡ widths.Bytes = sym h.0 ∙ e in cc)
texts_there w nullable most (Bytes t ∷ cs) e h = ap (λ r. Bytes t ∷ r) (texts_there w nullable most cs e h.1)

-- the values are the cells that are not null
pub values_there : (w : Width) (nullable : Bool) (most : ℕ) (cs : List Cell) → Each w nullable most cs → value_cells w (values_of w cs) ≡ there cs
values_there (widths.Numbers number_widths.Bit) nullable most cs h = numbers_there (widths.Numbers number_widths.Bit) nullable most cs tt h
values_there (widths.Numbers number_widths.One) nullable most cs h = numbers_there (widths.Numbers number_widths.One) nullable most cs tt h
values_there (widths.Numbers number_widths.Two) nullable most cs h = numbers_there (widths.Numbers number_widths.Two) nullable most cs tt h
values_there (widths.Numbers number_widths.Four) nullable most cs h = numbers_there (widths.Numbers number_widths.Four) nullable most cs tt h
values_there (widths.Numbers number_widths.Eight) nullable most cs h = numbers_there (widths.Numbers number_widths.Eight) nullable most cs tt h
values_there widths.Bytes nullable most cs h = texts_there widths.Bytes nullable most cs refl h

woven_there : (cs : List Cell) → weave (map is_null cs) (there cs) ≡ cs
woven_there [] = refl
woven_there (Null ∷ cs) = ap (λ r. Null ∷ r) (woven_there cs)
woven_there (Int z ∷ cs) = ap (λ r. Int z ∷ r) (woven_there cs)
woven_there (Bit_ b ∷ cs) = ap (λ r. Bit_ b ∷ r) (woven_there cs)
woven_there (Bytes t ∷ cs) = ap (λ r. Bytes t ∷ r) (woven_there cs)

all_there : (w : Width) (most : ℕ) (cs : List Cell) → Each w false most cs → there cs ≡ cs
all_there w most [] h = refl
all_there w most (Null ∷ cs) h = absurd (true≢false (sym h.0))
all_there w most (Int z ∷ cs) h = ap (λ r. Int z ∷ r) (all_there w most cs h.1)
all_there w most (Bit_ b ∷ cs) h = ap (λ r. Bit_ b ∷ r) (all_there w most cs h.1)
all_there w most (Bytes t ∷ cs) h = ap (λ r. Bytes t ∷ r) (all_there w most cs h.1)

abbrev pub nulls_if : Bool → List Cell → List Bool
nulls_if true cs = map is_null cs
nulls_if false cs = []

woven_if : (w : Width) (nullable : Bool) (most : ℕ) (cs : List Cell) → Each w nullable most cs → weave (nulls_if nullable cs) (value_cells w (values_of w cs)) ≡ cs
woven_if w true most cs h = rw (values_there w true most cs h) (woven_there cs)
woven_if w false most cs h = values_there w false most cs h ∙ all_there w most cs h

woven_cond : (w : Width) (nullable : Bool) (most : ℕ) (cs : List Cell) → Each w nullable most cs → weave (if nullable then map is_null cs else []) (value_cells w (values_of w cs)) ≡ cs
woven_cond w true most cs h = woven_if w true most cs h
woven_cond w false most cs h = woven_if w false most cs h

-- the nulls and values of cells make those cells
pub woven : (form : Form) (cs : List Cell) → AreCells form cs → weave (nulls_in form cs) (value_cells (width form) (values_in form cs)) ≡ cs
woven form cs h =
    let each : Each (width form) (is_nullable form) (limit form) cs = recursion_from_All (IsCell form) cs h.each in
    woven_cond (width form) (is_nullable form) (limit form) cs each

-- the texts among cells, one cell more

limited : (form : Form) → limit form ≤ 65536
limited (Cells kind nullable) = lit≤ tt
limited Keys = lit≤ tt

few_bytes : (form : Form) (c : Cell) → IsCell form c → cell_len c ≤ 65536
few_bytes form Null h = lit≤ tt
few_bytes form (Int z) h = lit≤ tt
few_bytes form (Bit_ b) h = lit≤ tt
few_bytes form (Bytes t) h = (let most = limited form in omega (arith, h.1, most))

pub few_bytes_at : (form : Form) (cs : List Cell) (i : ℕ) (c : Cell) → AreCells form cs → i < length cs → c ≡ get_or cs i c → cell_len c ≤ 65536
few_bytes_at form cs i c h lt e = few_bytes form c (subst (IsCell form) (sym e) (h.each i c lt))

texts_split : (c : Cell) (cs : List Cell) → texts_in (c ∷ cs) ≡ texts_in (c ∷ []) ++ texts_in cs
texts_split Null cs = refl
texts_split (Int z) cs = refl
texts_split (Bit_ b) cs = refl
texts_split (Bytes t) cs = refl

one_text : (c : Cell) (ts : List (List ℕ)) → length (concat (ts ++ texts_in (c ∷ []))) ≡ length (concat ts) + cell_len c
one_text Null ts = ap (λ r. length (concat r)) (append-nil ts) ∙ omega arith
one_text (Int z) ts = ap (λ r. length (concat r)) (append-nil ts) ∙ omega arith
one_text (Bit_ b) ts = ap (λ r. length (concat r)) (append-nil ts) ∙ omega arith
one_text (Bytes t) ts = concat_more ts t

pub text_step : (cs : List Cell) (i : ℕ) (c : Cell) (ts new all : List (List ℕ)) → i < length cs → c ≡ get_or cs i c → new ≡ ts ++ texts_in (c ∷ []) → ts ++ texts_in (drop i cs) ≡ all → new ++ texts_in (drop (i + 1) cs) ≡ all
text_step cs i c ts new all lt at e so_far =
    let split : drop i cs ≡ c ∷ drop (i + 1) cs = drop_more cs i c lt ∙ ap (λ x. x ∷ drop (i + 1) cs) (sym at) in
    rw (e, append_assoc) (ap (λ r. ts ++ r) (sym (ap texts_in split ∙ texts_split c (drop (i + 1) cs))) ∙ so_far)

numbers_split : (c : Cell) (cs : List Cell) → numbers_in (c ∷ cs) ≡ numbers_in (c ∷ []) ++ numbers_in cs
numbers_split Null cs = refl
numbers_split (Int z) cs = refl
numbers_split (Bit_ b) cs = refl
numbers_split (Bytes t) cs = refl

pub number_step : (cs : List Cell) (i : ℕ) (c : Cell) (zs new all : List ℤ) → i < length cs → c ≡ get_or cs i c → new ≡ zs ++ numbers_in (c ∷ []) → zs ++ numbers_in (drop i cs) ≡ all → new ++ numbers_in (drop (i + 1) cs) ≡ all
number_step cs i c zs new all lt at e so_far =
    let split : drop i cs ≡ c ∷ drop (i + 1) cs = drop_more cs i c lt ∙ ap (λ x. x ∷ drop (i + 1) cs) (sym at) in
    rw (e, append_assoc) (ap (λ r. zs ++ r) (sym (ap numbers_in split ∙ numbers_split c (drop (i + 1) cs))) ∙ so_far)

pub text_len : (c : Cell) (ts new : List (List ℕ)) → new ≡ ts ++ texts_in (c ∷ []) → length (concat new) ≡ length (concat ts) + cell_len c
text_len c ts new e = ap (λ r. length (concat r)) e ∙ one_text c ts

-- a cell of a block

woven_null : (nulls : List Bool) (cs : List Cell) (i : ℕ) → i < length nulls → get_or nulls i false ≡ true → get_or (weave nulls cs) i Null ≡ Null
woven_null [] cs i lt h = absurd (omega arith)
woven_null (true ∷ nulls) cs zero lt h = refl
woven_null (true ∷ nulls) cs (suc i) lt h = woven_null nulls cs i (omega arith) h
woven_null (false ∷ nulls) cs zero lt h = absurd (true≢false (sym h))
woven_null (false ∷ nulls) [] (suc i) lt h = refl
woven_null (false ∷ nulls) (c ∷ cs) (suc i) lt h = woven_null nulls cs i (omega arith) h

woven_value : (nulls : List Bool) (cs : List Cell) (i : ℕ) → i < length nulls → get_or nulls i true ≡ false → get_or (weave nulls cs) i Null ≡ get_or cs (count_present (take i nulls)) Null
woven_value [] cs i lt h = absurd (omega arith)
woven_value (true ∷ nulls) cs zero lt h = absurd (true≢false h)
woven_value (true ∷ nulls) cs (suc i) lt h = woven_value nulls cs i (omega arith) h
woven_value (false ∷ nulls) [] zero lt h = refl
woven_value (false ∷ nulls) (c ∷ cs) zero lt h = refl
woven_value (false ∷ nulls) [] (suc i) lt h = refl
woven_value (false ∷ nulls) (c ∷ cs) (suc i) lt h = woven_value nulls cs i (omega arith) h

value_before : (nulls : List Bool) (i : ℕ) → i < length nulls → get_or nulls i true ≡ false → count_present (take i nulls) < count_present nulls
value_before [] i lt h = absurd (omega arith)
value_before (true ∷ nulls) zero lt h = absurd (true≢false h)
value_before (true ∷ nulls) (suc i) lt h = value_before nulls i (omega arith) h
value_before (false ∷ nulls) zero lt h = omega arith
value_before (false ∷ nulls) (suc i) lt h = (let rest = value_before nulls i (omega arith) h in omega (arith, rest))

pub woven_len : (nulls : List Bool) (cs : List Cell) → count_present nulls ≡ length cs → length (weave nulls cs) ≡ length nulls
woven_len [] [] h = refl
woven_len [] (c ∷ cs) h = absurd (omega (arith, h))
woven_len (true ∷ nulls) cs h = ap suc (woven_len nulls cs h)
woven_len (false ∷ nulls) [] h = absurd (omega (arith, h))
woven_len (false ∷ nulls) (c ∷ cs) h = ap suc (woven_len nulls cs (omega (arith, h)))

pub cells_len : (w : Width) (items : Items) → length (value_cells w items) ≡ count items
cells_len w (Numbers zs) = length-map zs (number_cell w)
cells_len w (Texts ts) = length-map ts Bytes

-- a block's nulls and values are those of its cells

pub made_of : (form : Form) (cs : List Cell) (nulls : List Bool) (items : Items) → AreCells form cs → nulls ≡ nulls_in form cs → items ≡ values_in form cs → weave nulls (value_cells (width form) items) ≡ cs
made_of form cs nulls items h e f = ap (λ n. weave n (value_cells (width form) items)) e ∙ ap (λ i. weave (nulls_in form cs) (value_cells (width form) i)) f ∙ woven form cs h

pub held_of : (form : Form) (cs : List Cell) (nulls : List Bool) (items : Items) → AreCells form cs → nulls ≡ nulls_in form cs → items ≡ values_in form cs → Held form nulls items (weave nulls (value_cells (width form) items))
held_of form cs nulls items h e f = subst (λ x. Held form nulls items x) (sym (made_of form cs nulls items h e f)) (h, e, f)

present_there : (cs : List Cell) → count_present (map is_null cs) ≡ length (there cs)
present_there [] = refl
present_there (Null ∷ cs) = present_there cs
present_there (Int z ∷ cs) = ap suc (present_there cs)
present_there (Bit_ b ∷ cs) = ap suc (present_there cs)
present_there (Bytes t ∷ cs) = ap suc (present_there cs)

counted_if : (w : Width) (nullable : Bool) (most : ℕ) (cs : List Cell) → Each w nullable most cs → AreNullsOf nullable (if nullable then map is_null cs else []) (count (values_of w cs))
counted_if w true most cs h = present_there cs ∙ sym (ap length (values_there w true most cs h)) ∙ cells_len w (values_of w cs)
counted_if w false most cs h = refl

pub counted : (form : Form) (nulls : List Bool) (items : Items) (cs : List Cell) → Held form nulls items cs → AreNullsOf (is_nullable form) nulls (count items)
counted form nulls items cs h =
    let each : Each (width form) (is_nullable form) (limit form) cs = recursion_from_All (IsCell form) cs h.0.each in
    let there : AreNullsOf (is_nullable form) (nulls_in form cs) (count (values_in form cs)) = counted_if (width form) (is_nullable form) (limit form) cs each in
    subst (λ n. AreNullsOf (is_nullable form) n (count items)) (sym h.1) (subst (λ i. AreNullsOf (is_nullable form) (nulls_in form cs) (count i)) (sym h.2) there)

pub counted_nulls : (form : Form) (nulls : List Bool) (n : ℕ) → is_nullable form ≡ true → AreNullsOf (is_nullable form) nulls n → count_present nulls ≡ n
counted_nulls form nulls n e h = subst (λ b. AreNullsOf b nulls n) e h

pub no_nulls : (form : Form) (nulls : List Bool) (n : ℕ) → is_nullable form ≡ false → AreNullsOf (is_nullable form) nulls n → nulls ≡ []
no_nulls form nulls n e h = subst (λ b. AreNullsOf b nulls n) e h

pub len_of_nulls : (form : Form) (nulls : List Bool) (items : Items) → is_nullable form ≡ true → AreNullsOf (is_nullable form) nulls (count items) → length (weave nulls (value_cells (width form) items)) ≡ length nulls
len_of_nulls form nulls items e h = woven_len nulls (value_cells (width form) items) (counted_nulls form nulls (count items) e h ∙ sym (cells_len (width form) items))

pub len_of_values : (form : Form) (nulls : List Bool) (items : Items) → is_nullable form ≡ false → AreNullsOf (is_nullable form) nulls (count items) → length (weave nulls (value_cells (width form) items)) ≡ count items
len_of_values form nulls items e h = ap (λ n. length (weave n (value_cells (width form) items))) (no_nulls form nulls (count items) e h) ∙ cells_len (width form) items

pub cell_null : (form : Form) (nulls : List Bool) (items : Items) (i : ℕ) → i < length nulls → get_or nulls i false ≡ true → Null ≡ get_or (weave nulls (value_cells (width form) items)) i Null
cell_null form nulls items i lt h = sym (woven_null nulls (value_cells (width form) items) i lt h)

pub cell_value : (form : Form) (nulls : List Bool) (items : Items) (i k : ℕ) → i < length nulls → get_or nulls i true ≡ false → k ≡ count_present (take i nulls) → get_or (value_cells (width form) items) k Null ≡ get_or (weave nulls (value_cells (width form) items)) i Null
cell_value form nulls items i k lt h e = ap (λ j. get_or (value_cells (width form) items) j Null) e ∙ sym (woven_value nulls (value_cells (width form) items) i lt h)

pub slot_within : (form : Form) (nulls : List Bool) (n i k : ℕ) → is_nullable form ≡ true → AreNullsOf (is_nullable form) nulls n → i < length nulls → get_or nulls i true ≡ false → k ≡ count_present (take i nulls) → k < n
slot_within form nulls n i k e h lt bit is = (let before = value_before nulls i lt bit in omega (arith, before, counted_nulls form nulls n e h, is))

-- the values of cells may stand in a block

numbers_few : (cs : List Cell) → length (numbers_in cs) ≤ length cs
numbers_few [] = omega arith
numbers_few (Null ∷ cs) = (let rest = numbers_few cs in omega (arith, rest))
numbers_few (Int z ∷ cs) = (let rest = numbers_few cs in omega (arith, rest))
numbers_few (Bit_ b ∷ cs) = (let rest = numbers_few cs in omega (arith, rest))
numbers_few (Bytes t ∷ cs) = (let rest = numbers_few cs in omega (arith, rest))

texts_few : (cs : List Cell) → length (texts_in cs) ≤ length cs
texts_few [] = omega arith
texts_few (Null ∷ cs) = (let rest = texts_few cs in omega (arith, rest))
texts_few (Int z ∷ cs) = (let rest = texts_few cs in omega (arith, rest))
texts_few (Bit_ b ∷ cs) = (let rest = texts_few cs in omega (arith, rest))
texts_few (Bytes t ∷ cs) = (let rest = texts_few cs in omega (arith, rest))

bit_within : (b : Bool) → IsInWidth (widths.Numbers number_widths.Bit) (bit b)
bit_within true = inr refl
bit_within false = inl refl

numbers_within : (w : Width) (nullable : Bool) (most : ℕ) (cs : List Cell) → Each w nullable most cs → AllByRecursion (IsInWidth w) (numbers_in cs)
numbers_within w nullable most [] h = tt
numbers_within w nullable most (Null ∷ cs) h = numbers_within w nullable most cs h.1
numbers_within w nullable most (Int z ∷ cs) h = (h.0.1, numbers_within w nullable most cs h.1)
numbers_within w nullable most (Bit_ b ∷ cs) h = (subst (λ v. IsInWidth v (bit b)) (sym h.0) (bit_within b), numbers_within w nullable most cs h.1)
numbers_within w nullable most (Bytes t ∷ cs) h = numbers_within w nullable most cs h.1

texts_within : (w : Width) (nullable : Bool) (most : ℕ) (cs : List Cell) → Each w nullable most cs → AllByRecursion (λ t. length t ≤ most) (texts_in cs)
texts_within w nullable most [] h = tt
texts_within w nullable most (Null ∷ cs) h = texts_within w nullable most cs h.1
texts_within w nullable most (Int z ∷ cs) h = texts_within w nullable most cs h.1
texts_within w nullable most (Bit_ b ∷ cs) h = texts_within w nullable most cs h.1
texts_within w nullable most (Bytes t ∷ cs) h = (h.0.1, texts_within w nullable most cs h.1)

numbers_fit : (form : Form) (w : Width) (nullable : Bool) (most : ℕ) (cs : List Cell) → width form ≡ w → IsNumeric w → length cs ≤ 8192 → Each w nullable most cs → AreValues form (Numbers (numbers_in cs))
numbers_fit form w nullable most cs e n few h =
    let all : All (IsInWidth w) (numbers_in cs) = All-from_recursion (IsInWidth w) (numbers_in cs) (numbers_within w nullable most cs h) in
    let len : length (numbers_in cs) ≤ 8192 = (let less = numbers_few cs in omega (arith, less)) in
    record { fits = numbers_fit_in (width form) (numbers_in cs) (subst IsNumeric (sym e) n) (omega (arith, len)) (subst (λ v. All (IsInWidth v) (numbers_in cs)) (sym e) all); few = len; short = tt }

-- the numbers among cells are of the column's width
pub numbers_in_width : (form : Form) (w : NumberWidth) (cs : List Cell) → width form ≡ widths.Numbers w → AreCells form cs → All (in_width w) (numbers_in cs)
numbers_in_width form w cs e h =
    let each : Each (width form) (is_nullable form) (limit form) cs = recursion_from_All (IsCell form) cs h.each in
    let all : All (IsInWidth (width form)) (numbers_in cs) = All-from_recursion (IsInWidth (width form)) (numbers_in cs) (numbers_within (width form) (is_nullable form) (limit form) cs each) in
    subst (λ v. All (IsInWidth v) (numbers_in cs)) e all

values_fit : (form : Form) (w : Width) (nullable : Bool) (cs : List Cell) → width form ≡ w → length cs ≤ 8192 → Each w nullable (limit form) cs → AreValues form (values_of w cs)
values_fit form (widths.Numbers number_widths.Bit) nullable cs e few h = numbers_fit form (widths.Numbers number_widths.Bit) nullable (limit form) cs e tt few h
values_fit form (widths.Numbers number_widths.One) nullable cs e few h = numbers_fit form (widths.Numbers number_widths.One) nullable (limit form) cs e tt few h
values_fit form (widths.Numbers number_widths.Two) nullable cs e few h = numbers_fit form (widths.Numbers number_widths.Two) nullable (limit form) cs e tt few h
values_fit form (widths.Numbers number_widths.Four) nullable cs e few h = numbers_fit form (widths.Numbers number_widths.Four) nullable (limit form) cs e tt few h
values_fit form (widths.Numbers number_widths.Eight) nullable cs e few h = numbers_fit form (widths.Numbers number_widths.Eight) nullable (limit form) cs e tt few h
values_fit form widths.Bytes nullable cs e few h =
    are_values form (texts_in cs) e (let less = texts_few cs in omega (arith, less)) (All-from_recursion (λ t. length t ≤ limit form) (texts_in cs) (texts_within widths.Bytes nullable (limit form) cs h))

pub values_stand : (form : Form) (cs : List Cell) → AreCells form cs → AreValues form (values_in form cs)
values_stand form cs h = values_fit form (width form) (is_nullable form) cs refl h.few (recursion_from_All (IsCell form) cs h.each)

pub held_values : (form : Form) (nulls : List Bool) (items : Items) (cs : List Cell) → Held form nulls items cs → AreValues form items
held_values form nulls items cs h = subst (AreValues form) (sym h.2) (values_stand form cs h.0)

pub held_block : (form : Form) (nulls : List Bool) (items : Items) (cs : List Cell) (bytes : List ℕ) → Held form nulls items cs → IsBlock form nulls items bytes → SpellsBlock form cs bytes
held_block form nulls items cs bytes h b =
    record { cells = h.0; block = subst (λ n. IsBlock form n (values_in form cs) bytes) h.1 (subst (λ i. IsBlock form nulls i bytes) h.2 b) }

-- The parts of a block that was read, and the cells that they make.
use Rattle.std.proofs.Common.{◌≡◌, ◌≤◌, inl, inr, ℕ, ℤ, Bool, true, false, List, [], ◌∷◌, ◌++◌, length, map, drop, refl, sym, ap, ◌∙◌, subst, arith, true≢false, if◌then◌else◌}
use Rattle.std.specs.List.{All, AllByRecursion}
use Rattle.std.proofs.lemmas.List.Elements.{All-from_recursion, recursion_from_All}
use Rattle.std.proofs.lemmas.List.{length-map, take-append-drop}
use Rattle.std.proofs.Math.Seq.{drop-append_seam}
use Rattle.kt_base.specs.declared.cell.Cell.{Cell}
use Rattle.kt_base.specs.declared.cell.Cell.TheVariants.{Null, Int, Bool as Bit_, Bytes}
use Rattle.kt_plain.specs.declared.widths.Width.{Width}
use Rattle.kt_plain.specs.declared.widths.Width.TheVariants as widths
use Rattle.kt_plain.specs.declared.widths.NumberWidth.TheVariants as number_widths
use Rattle.kt_column.specs.Forms.{IsInWidth, IsNumeric}
use Rattle.kt_plain.specs.Items.{count}
use Rattle.kt_plain.specs.Spelling as plain
use Rattle.kt_plain.specs.declared.items.Items.{Items}
use Rattle.kt_plain.specs.declared.items.Items.TheVariants.{Numbers, Texts}
use Rattle.kt_column.specs.declared.form.Form.{Form}
use Rattle.kt_column.specs.declared.form.Encoding.{Encoding}
use Rattle.kt_column.specs.Forms.{width, is_nullable, limit}
use Rattle.kt_column.specs.Values.{AreValues, IsEncoded}
use Rattle.kt_plain.specs.Spelling.{AreShort}
use Rattle.kt_column.specs.Reading.{Reads}
use Rattle.kt_column.specs.Nulls.{byte_len, null_bytes, count_present}
use Rattle.kt_column.specs.Blocks.{IsCellOf, IsCell, AreNullsOf, Held, BlockValue, is_null, nulls_in, bit, numbers_in, texts_in, values_of, values_in, is_one, number_cell, value_cells, weave}
use Rattle.kt_column.specs.Faults.{AreNullsFor, FrontNulls, value_count, ReadsContent}
use Rattle.kt_column.proofs.Weaving.{Each, made_of, cells_len, woven_len, counted, values_stand, len_of_values}
use Rattle.kt_column.proofs.NullBits.{length-bit_bytes}
use Rattle.kt_column.proofs.Widths.{fits_numbers, fits_texts}

is_cell_number : (w : Width) (most : ℕ) (z : ℤ) → IsNumeric w → IsInWidth w z → IsCellOf w false most (number_cell w z)
is_cell_number (widths.Numbers number_widths.Bit) most z n h = refl
is_cell_number (widths.Numbers number_widths.One) most z n h = (λ e. cc, h)
is_cell_number (widths.Numbers number_widths.Two) most z n h = (λ e. cc, h)
is_cell_number (widths.Numbers number_widths.Four) most z n h = (λ e. cc, h)
is_cell_number (widths.Numbers number_widths.Eight) most z n h = (λ e. cc, h)
is_cell_number widths.Bytes most z n h = elim n [ ]

each_numbers : (w : Width) (most : ℕ) (zs : List ℤ) → IsNumeric w → AllByRecursion (IsInWidth w) zs → Each w false most (map (number_cell w) zs)
each_numbers w most [] n h = tt
each_numbers w most (z ∷ zs) n h = (is_cell_number w most z n h.0, each_numbers w most zs n h.1)

each_texts : (w : Width) (most : ℕ) (ts : List (List ℕ)) → w ≡ widths.Bytes → AllByRecursion (λ t. length t ≤ most) ts → Each w false most (map Bytes ts)
each_texts w most [] e h = tt
each_texts w most (t ∷ ts) e h = ((e, h.0), each_texts w most ts e h.1)

each_values : (w : Width) (most : ℕ) (items : Items) → plain.Fits w items → AreShort most items → Each w false most (value_cells w items)
each_values w most (Numbers zs) f s = let g = fits_numbers w zs f in each_numbers w most zs g.0 (recursion_from_All (IsInWidth w) zs g.2)
each_values w most (Texts ts) f s = each_texts w most ts (fits_texts w ts f).0 (recursion_from_All (λ t. length t ≤ most) ts s)

may_be_null : (w : Width) (most : ℕ) (c : Cell) → IsCellOf w false most c → IsCellOf w true most c
may_be_null w most Null h = refl
may_be_null w most (Int z) h = h
may_be_null w most (Bit_ b) h = h
may_be_null w most (Bytes t) h = h

each_woven : (w : Width) (most : ℕ) (nulls : List Bool) (cs : List Cell) → Each w false most cs → Each w true most (weave nulls cs)
each_woven w most [] [] h = tt
each_woven w most [] (c ∷ cs) h = (may_be_null w most c h.0, each_woven w most [] cs h.1)
each_woven w most (true ∷ nulls) cs h = (refl, each_woven w most nulls cs h)
each_woven w most (false ∷ nulls) [] h = tt
each_woven w most (false ∷ nulls) (c ∷ cs) h = (may_be_null w most c h.0, each_woven w most nulls cs h.1)

bit_again : (z : ℤ) → IsInWidth (widths.Numbers number_widths.Bit) z → bit (is_one z) ≡ z
bit_again z (inl h) = rw h refl
bit_again z (inr h) = rw h refl

one_number : (w : Width) (z : ℤ) (cs : List Cell) → IsNumeric w → IsInWidth w z → numbers_in (number_cell w z ∷ cs) ≡ z ∷ numbers_in cs
one_number (widths.Numbers number_widths.Bit) z cs n h = ap (λ x. x ∷ numbers_in cs) (bit_again z h)
one_number (widths.Numbers number_widths.One) z cs n h = refl
one_number (widths.Numbers number_widths.Two) z cs n h = refl
one_number (widths.Numbers number_widths.Four) z cs n h = refl
one_number (widths.Numbers number_widths.Eight) z cs n h = refl
one_number widths.Bytes z cs n h = elim n [ ]

numbers_again : (w : Width) (zs : List ℤ) → IsNumeric w → AllByRecursion (IsInWidth w) zs → numbers_in (map (number_cell w) zs) ≡ zs
numbers_again w [] n h = refl
numbers_again w (z ∷ zs) n h = one_number w z (map (number_cell w) zs) n h.0 ∙ ap (λ r. z ∷ r) (numbers_again w zs n h.1)

texts_again : (ts : List (List ℕ)) → texts_in (map Bytes ts) ≡ ts
texts_again [] = refl
texts_again (t ∷ ts) = ap (λ r. t ∷ r) (texts_again ts)

values_numbers : (w : Width) (cs : List Cell) → IsNumeric w → values_of w cs ≡ Numbers (numbers_in cs)
values_numbers (widths.Numbers number_widths.Bit) cs n = refl
values_numbers (widths.Numbers number_widths.One) cs n = refl
values_numbers (widths.Numbers number_widths.Two) cs n = refl
values_numbers (widths.Numbers number_widths.Four) cs n = refl
values_numbers (widths.Numbers number_widths.Eight) cs n = refl
values_numbers widths.Bytes cs n = elim n [ ]

numbers_woven : (nulls : List Bool) (cs : List Cell) → numbers_in (weave nulls cs) ≡ numbers_in cs
numbers_woven [] cs = refl
numbers_woven (true ∷ nulls) cs = numbers_woven nulls cs
numbers_woven (false ∷ nulls) [] = refl
numbers_woven (false ∷ nulls) (Null ∷ cs) = numbers_woven nulls cs
numbers_woven (false ∷ nulls) (Int z ∷ cs) = ap (λ r. z ∷ r) (numbers_woven nulls cs)
numbers_woven (false ∷ nulls) (Bit_ b ∷ cs) = ap (λ r. bit b ∷ r) (numbers_woven nulls cs)
numbers_woven (false ∷ nulls) (Bytes t ∷ cs) = numbers_woven nulls cs

texts_woven : (nulls : List Bool) (cs : List Cell) → texts_in (weave nulls cs) ≡ texts_in cs
texts_woven [] cs = refl
texts_woven (true ∷ nulls) cs = texts_woven nulls cs
texts_woven (false ∷ nulls) [] = refl
texts_woven (false ∷ nulls) (Null ∷ cs) = texts_woven nulls cs
texts_woven (false ∷ nulls) (Int z ∷ cs) = texts_woven nulls cs
texts_woven (false ∷ nulls) (Bit_ b ∷ cs) = texts_woven nulls cs
texts_woven (false ∷ nulls) (Bytes t ∷ cs) = ap (λ r. t ∷ r) (texts_woven nulls cs)

values_again : (w : Width) (nulls : List Bool) (items : Items) → plain.Fits w items → items ≡ values_of w (weave nulls (value_cells w items))
values_again w nulls (Numbers zs) f =
    let g = fits_numbers w zs f in
    sym (values_numbers w (weave nulls (map (number_cell w) zs)) g.0 ∙ ap Numbers (numbers_woven nulls (map (number_cell w) zs) ∙ numbers_again w zs g.0 (recursion_from_All (IsInWidth w) zs g.2)))
values_again w nulls (Texts ts) f =
    sym (ap (λ v. values_of v (weave nulls (map Bytes ts))) (fits_texts w ts f).0 ∙ ap Texts (texts_woven nulls (map Bytes ts) ∙ texts_again ts))

not_null : (w : Width) (most : ℕ) (c : Cell) → IsCellOf w false most c → is_null c ≡ false
not_null w most Null h = sym (absurd (true≢false (sym h)))
not_null w most (Int z) h = refl
not_null w most (Bit_ b) h = refl
not_null w most (Bytes t) h = refl

nulls_woven : (w : Width) (most : ℕ) (nulls : List Bool) (cs : List Cell) → Each w false most cs → count_present nulls ≡ length cs → nulls ≡ map is_null (weave nulls cs)
nulls_woven w most [] [] h e = refl
nulls_woven w most [] (c ∷ cs) h e = absurd (omega (arith, e))
nulls_woven w most (true ∷ nulls) cs h e = ap (λ r. true ∷ r) (nulls_woven w most nulls cs h e)
nulls_woven w most (false ∷ nulls) [] h e = absurd (omega (arith, e))
nulls_woven w most (false ∷ nulls) (c ∷ cs) h e = rw (not_null w most c h.0) (ap (λ r. false ∷ r) (nulls_woven w most nulls cs h.1 (omega (arith, e))))

-- what was read makes cells, whose parts it is
abbrev Made : Width → Bool → ℕ → ℕ → List Bool → Items → List Cell → Type 0
Made w nullable most n nulls items cs = Each w nullable most cs × (nulls ≡ if nullable then map is_null cs else []) × (items ≡ values_of w cs) × (length cs ≡ n)

made : (w : Width) (nullable : Bool) (most n : ℕ) (nulls : List Bool) (items : Items) → plain.Fits w items → AreShort most items → AreNullsFor nullable n nulls → count items ≡ value_count nullable n nulls → Made w nullable most n nulls items (weave nulls (value_cells w items))
made w true most n nulls items f s for_form counted =
    let each = each_values w most items f s in
    let len : count_present nulls ≡ length (value_cells w items) = sym (cells_len w items ∙ counted) in
    (each_woven w most nulls (value_cells w items) each, nulls_woven w most nulls (value_cells w items) each len, values_again w nulls items f, woven_len nulls (value_cells w items) len ∙ for_form)
made w false most n nulls items f s for_form counted =
    let none : weave nulls (value_cells w items) ≡ value_cells w items = ap (λ m. weave m (value_cells w items)) for_form in
    (subst (λ cs. Each w false most cs) (sym none) (each_values w most items f s), for_form, values_again w nulls items f, ap length none ∙ cells_len w items ∙ counted)

pub held_parts : (form : Form) (n : ℕ) (nulls : List Bool) (items : Items) → n ≤ 8192 → AreValues form items → AreNullsFor (is_nullable form) n nulls → count items ≡ value_count (is_nullable form) n nulls → Held form nulls items (weave nulls (value_cells (width form) items)) × (length (weave nulls (value_cells (width form) items)) ≡ n)
held_parts form n nulls items few values for_form counted =
    let m = made (width form) (is_nullable form) (limit form) n nulls items values.fits values.short for_form counted in
    let all : All (IsCell form) (weave nulls (value_cells (width form) items)) = All-from_recursion (IsCell form) (weave nulls (value_cells (width form) items)) m.0 in
    ((record { each = all; few = omega (arith, m.3) }, m.1, m.2), m.3)

pub content_of : (form : Form) (e : Encoding) (n : ℕ) (part : List ℕ) (nulls : List Bool) (items : Items) → n ≤ 8192 → FrontNulls form n part nulls → Reads form e (value_count (is_nullable form) n nulls) (drop (byte_len (length nulls)) part) items → ReadsContent form e n part (weave nulls (value_cells (width form) items))
content_of form e n part nulls items few front r =
    let held = held_parts form n nulls items few r.values front.for_form r.counted in
    record {
      cells = held.0.0;
      counted = held.1;
      values = drop (byte_len (length nulls)) part;
      encoded = subst (λ i. IsEncoded (width form) e i (drop (byte_len (length nulls)) part)) held.0.2 r.encoded;
      parts = sym (take-append-drop (byte_len (length nulls)) part) ∙ ap (λ b. b ++ drop (byte_len (length nulls)) part) (sym front.spelled ∙ ap null_bytes held.0.1);
    }

abbrev pub make : Form → List Cell → BlockValue
make form cs = record { form = form; cells = cs }

nulls_for : (nullable : Bool) (n : ℕ) (cs : List Cell) → length cs ≡ n → AreNullsFor nullable n (if nullable then map is_null cs else [])
nulls_for true n cs e = length-map cs is_null ∙ e
nulls_for false n cs e = refl

-- the nulls of content that can be read
pub nulls_front : (form : Form) (e : Encoding) (n : ℕ) (part : List ℕ) (cs : List Cell) → ReadsContent form e n part cs → AreNullsFor (is_nullable form) n (nulls_in form cs)
nulls_front form e n part cs r = nulls_for (is_nullable form) n cs r.counted

counts : (nullable : Bool) (n : ℕ) (nulls : List Bool) (k m : ℕ) → AreNullsOf nullable nulls k → (nullable ≡ false → k ≡ n) → k ≡ value_count nullable n nulls
counts true n nulls k m h e = sym h
counts false n nulls k m h e = e refl

-- the values of content that can be read
pub values_front : (form : Form) (e : Encoding) (n : ℕ) (part : List ℕ) (cs : List Cell) (nulls : List Bool) → ReadsContent form e n part cs → nulls ≡ nulls_in form cs → Reads form e (value_count (is_nullable form) n nulls) (drop (byte_len (length nulls)) part) (values_in form cs)
values_front form e n part cs nulls r same =
    let held : Held form nulls (values_in form cs) cs = (r.cells, same, refl) in
    let of_cells = made_of form cs nulls (values_in form cs) r.cells same refl in
    let number = counts (is_nullable form) n nulls (count (values_in form cs)) 0 (counted form nulls (values_in form cs) cs held)
    (λ no. sym (len_of_values form nulls (values_in form cs) no (counted form nulls (values_in form cs) cs held)) ∙ ap length of_cells ∙ r.counted) in
    let part-is : part ≡ null_bytes nulls ++ r.values = r.parts ∙ ap (λ m. null_bytes m ++ r.values) (sym same) in
    let rest : drop (byte_len (length nulls)) part ≡ r.values = ap (drop (byte_len (length nulls))) part-is ∙ subst (λ k. drop k (null_bytes nulls ++ r.values) ≡ r.values) (length-bit_bytes (byte_len (length nulls)) nulls) (drop-append_seam (null_bytes nulls) r.values) in
    record { values = values_stand form cs r.cells; counted = number; encoded = subst (IsEncoded (width form) e (values_in form cs)) (sym rest) r.encoded }

-- the cells of those nulls and values
pub same_cells : (form : Form) (e : Encoding) (n : ℕ) (part : List ℕ) (cs : List Cell) (nulls : List Bool) (items : Items) → ReadsContent form e n part cs → nulls ≡ nulls_in form cs → items ≡ values_in form cs → weave nulls (value_cells (width form) items) ≡ cs
same_cells form e n part cs nulls items r same same' = made_of form cs nulls items r.cells same same'

-- A block or a column that is refused is refused at one place.
use Rattle.std.proofs.Common.{◌≡◌, ◌≤◌, ◌<◌, ◌+◌, ◌-◌, ◌%◌, ◌/◌, ◌^◌, inl, inr, ◌*◌, ℕ, zero, suc, Bool, true, false, cond, List, [], ◌∷◌, ◌++◌, length, take, drop, get_or, min, refl, sym, ap, ◌∙◌, subst, arith, append_assoc, length-append, length-take, lit≤}
use Rattle.std.specs.Prelude.{nat_lt, ◌&&◌, Option}
use Rattle.std.specs.List.{concat}
use Rattle.std.specs.Int.{w32, to_le_bytes}
use Rattle.std.proofs.lemmas.Bool.{cases_lt}
use Rattle.std.proofs.lemmas.List.{append-nil, take-append-drop, length-drop, take_at, drop_at, nil_from_length}
use Rattle.std.proofs.Math.Seq.{take-append-add}
use Rattle.kt_bytes.specs.Places.{Begins, GoesOn, Delimited, IsFault}
use Rattle.kt_bytes.proofs.Numbers.{IsBytes, IsBytes-take, IsBytes-drop}
use Rattle.kt_bytes.proofs.Places.{goes_on, one_front, one_place}
use Rattle.kt_bytes.proofs.Fronts.{IsWhole, refused}
use Rattle.kt_base.specs.declared.cell.Cell.{Cell}
use Rattle.kt_plain.specs.declared.widths.NumberWidth.{NumberWidth}
use Rattle.kt_plain.specs.declared.items.Items.{Items}
use Rattle.kt_plain.specs.declared.items.Items.TheVariants.{Numbers, Texts}
use Rattle.kt_plain.specs.Widths.{number}
use Rattle.kt_plain.specs.Spelling as plain
use Rattle.kt_plain.proofs.Decoded as plain_proofs
use Rattle.kt_rle.specs.Runs.{run_bytes}
use Rattle.kt_rle.specs.Spelling as run_length
use Rattle.kt_rle.proofs.FirstFault as runs
use Rattle.kt_rle.proofs.Told as told
use Rattle.kt_dict.specs.Spelling as dictionary
use Rattle.kt_dict.proofs.Places as dictionary_places
use Rattle.kt_dict.proofs.Faults as dictionary_faults
use Rattle.kt_front.specs.Spelling as prefix
use Rattle.kt_front.specs.Reading.{is_rest}
use Rattle.kt_front.proofs.Places as prefix_places
use Rattle.kt_front.proofs.Faults as prefix_faults
use Rattle.kt_column.specs.declared.errors.Stop.{Stop}
use Rattle.kt_column.specs.declared.errors.Stop.TheVariants.{Memory, Fault}
use Rattle.kt_column.specs.declared.errors.CodecNo.TheVariants as answers
use Rattle.kt_column.specs.declared.form.Form.{Form}
use Rattle.kt_column.specs.declared.form.Encoding.{Encoding}
use Rattle.kt_column.specs.declared.form.Encoding.TheVariants.{Plain, RunLength, Dictionary, Prefix}
use Rattle.kt_column.specs.Forms.{width, is_nullable, limit, MayUse}
use Rattle.kt_column.specs.Values.{run_width, IsShortest}
use Rattle.kt_column.specs.Nulls.{byte_len, null_bytes, IsNullFault}
use Rattle.kt_column.specs.Blocks.{nulls_in, values_in, SpellsBlock}
use Rattle.kt_column.specs.Reading.{Reads, IsFaultOf, IsStop}
use Rattle.kt_column.specs.Faults.{IsHead, IsHeadFault, AreNullsFor, FrontNulls, IsFrontStop, IsValuesStop, IsContentStop, IsContentFault, IsWrongLength, IsLonger, ReadsContent, IsBody, IsBodyStop, IsBlockStop, IsRefusal, value_count, shifted}
use Rattle.kt_column.proofs.NullBits.{none_missing, none_spare, length-bit_bytes}
use Rattle.kt_column.proofs.Readings.{limited, plain_spelled, dictionary_spelled, prefix_spelled}
use Rattle.kt_column.proofs.Contents.{nulls_front, values_front}
use Rattle.kt_front.specs.Order.{IsFall}
use Rattle.kt_front.proofs.Falls.{fall_once}
use Rattle.kt_column.specs.declared.form.Form.TheVariants.{Keys}
use Rattle.kt_column.specs.Columns.{block_count, SpellsBlocks, SpellsColumn, IsColumnFound, IsColumnFault}
use Rattle.kt_column.specs.Keys.{AreRising, last_key, IsKeyFall, NoKeyFalls, IsNextFault, IsRisingFault}
use Rattle.kt_column.proofs.KeyFalls.{block_falls, later_rises}
use Rattle.kt_column.proofs.Once.{nulls_once, content_once, block_once, column_once}
use Rattle.kt_column.proofs.Heads.{same_code_of, same_rests, no_head_stop, block_head, body_of}

-- ---- a whole spelling, and bytes behind it

end_fault : (S : List (List ℕ) → Type 0) (bytes : List ℕ) (fs : List (List ℕ)) (tail : List ℕ) → IsWhole S → S fs → bytes ≡ concat fs ++ tail → 0 < length tail → IsFault S bytes (length (concat fs))
end_fault S bytes fs tail w s parts some = record {
  front = fs;
  rest = tail;
  parts = parts;
  begins = ([], subst S (sym (append-nil fs)) s);
  ends = λ field on stands. w fs field s on;
  more = λ whole. some;
  at = inr ((λ field on. absurd (w fs field s on)), refl);
}

-- the first fault is where the spelling ends, and its fields stand in front of it
ends_there : (S : List (List ℕ) → Type 0) (bytes : List ℕ) (place : ℕ) (fs : List (List ℕ)) (tail : List ℕ) → Delimited S → IsWhole S → (f : IsFault S bytes place) → S fs → bytes ≡ concat fs ++ tail → (place ≡ length (concat fs)) × (f.front ≡ fs)
unfolding end_fault
ends_there S bytes place fs [] d w f s parts = absurd (refused S bytes place d w f fs s (parts ∙ append-nil (concat fs)))
ends_there S bytes place fs (t ∷ tail) d w f s parts =
    let g = end_fault S bytes fs (t ∷ tail) w s parts (omega arith) in
    let same = one_front S [] f.front g.front f.rest g.rest d (record { begins_f = f.begins; begins_g = g.begins; ends_f = f.ends; ends_g = g.ends; same = sym f.parts ∙ g.parts }) in
    (one_place S bytes place (length (concat fs)) d f g, same.0)

-- a spelling is the front of no longer one
none_behind : (S : List (List ℕ) → Type 0) (fs gs : List (List ℕ)) (tail : List ℕ) → Delimited S → IsWhole S → S fs → S gs → concat gs ≡ concat fs ++ tail → length tail ≡ 0
none_behind S fs gs [] d w s t e = refl
none_behind S fs gs (x ∷ tail) d w s t e = absurd (refused S (concat gs) (length (concat fs)) d w (end_fault S (concat gs) fs (x ∷ tail) w s e (omega arith)) gs t refl)

-- ---- the values of a block

-- the fields of n values in an encoding
Format : Form → Encoding → ℕ → List (List ℕ) → Type 0
Format form Plain n = plain.SpelledWithin (limit form) (width form) n
Format form RunLength n = run_length.Spelled (run_width (width form)) n
Format form Dictionary n = dictionary.SpelledWithin (limit form) n
Format form Prefix n = prefix.SpelledWithin (limit form) n

room : (form : Form) → limit form < 2 ^ 32
room form = omega (arith, limited form)

format_delimited : (form : Form) (e : Encoding) (n : ℕ) → Delimited (Format form e n)
unfolding Format
format_delimited form Plain n = plain_proofs.within_delimited (limit form) (width form) n
format_delimited form RunLength n = runs.runs_delimited (run_width (width form)) n
format_delimited form Dictionary n = dictionary_places.delimited (limit form) n (room form)
format_delimited form Prefix n = prefix_places.delimited (limit form) n (room form)

format_whole : (form : Form) (e : Encoding) (n : ℕ) → IsWhole (Format form e n)
unfolding Format
format_whole form Plain n = plain_proofs.within_whole (limit form) (width form) n
format_whole form RunLength n = runs.runs_whole (run_width (width form)) n
format_whole form Dictionary n = λ front field s on. dictionary_places.whole_ends (limit form) n front field on s
format_whole form Prefix n = λ front field s on. prefix_places.whole_ends (limit form) n front field on s

-- values that were read are such fields
format_fields : (form : Form) (e : Encoding) (n : ℕ) (bytes : List ℕ) (items : Items) → IsBytes bytes → Reads form e n bytes items → (fs : List (List ℕ)) × Format form e n fs × (bytes ≡ concat fs)
unfolding Format
format_fields form Plain n bytes items fits r =
    let s = plain_spelled form n bytes items r in
    (plain.fields (width form) items, record { items = items; fits = s.spells.fits; short = s.short; counted = s.spells.counted; spelled = refl }, s.spells.spelled ∙ plain_proofs.joined (width form) items s.spells.fits)
format_fields form RunLength n bytes (Numbers zs) fits r = runs.joined (run_width (width form)) n zs bytes (subst (λ k. run_length.Spells (run_width (width form)) k zs bytes) r.counted r.encoded)
format_fields form RunLength n bytes (Texts ts) fits r = elim r.encoded [ ]
format_fields form Dictionary n bytes (Texts ts) fits r = let w = dictionary_faults.spelled_whole (limit form) bytes n ts fits (dictionary_spelled form n bytes ts r) in (dictionary.fields ts, w.0, w.1)
format_fields form Dictionary n bytes (Numbers zs) fits r = elim r.encoded [ ]
format_fields form Prefix n bytes (Texts ts) fits r = let w = prefix_faults.spelled_whole (limit form) bytes n ts fits (prefix_spelled form n bytes ts r) in (prefix.fields ts, w.0, w.1)
format_fields form Prefix n bytes (Numbers zs) fits r = elim r.encoded [ ]

-- ---- their first fault is one

fault_once : (form : Form) (e : Encoding) (n : ℕ) (bytes : List ℕ) (a b : ℕ) → IsFaultOf form e n bytes a → IsFaultOf form e n bytes b → a ≡ b
fault_once form Plain n bytes a b p q = one_place (plain.SpelledWithin (limit form) (width form) n) bytes a b (plain_proofs.within_delimited (limit form) (width form) n) p q
fault_once form RunLength n bytes a b p q = told.told_once (run_width (width form)) n bytes a b p q
fault_once form Dictionary n bytes a b p q = one_place (dictionary.SpelledWithin (limit form) n) bytes a b (dictionary_places.delimited (limit form) n (room form)) p q
fault_once form Prefix n bytes a b p q = prefix_faults.one_place bytes (limit form) n a b (room form) p q

-- ---- where runs end no number is wrong

-- fields that begin a spelling and are as long as one are that one
same_front : (S : List (List ℕ) → Type 0) (front g fs : List (List ℕ)) → Delimited S → IsWhole S → ((f : List (List ℕ)) (field : List ℕ) → GoesOn S f field → 0 < length field) → Begins S (front ++ g) → S (front ++ fs) → concat g ≡ concat fs → g ≡ fs
same_front S front [] [] d w some b s e = refl
same_front S front [] (x ∷ fs) d w some b s e =
    absurd (let more = some front x (goes_on S front x fs ([], subst S (sym (append-nil (front ++ x ∷ fs))) s)) in let none = ap length e in omega (arith, more, none, length-append x (concat fs)))
same_front S front (y ∷ g) [] d w some b s e = absurd (w front y (subst S (append-nil front) s) (goes_on S front y g b))
same_front S front (y ∷ g) (x ∷ fs) d w some b s e =
    let len : length y ≡ length x = d front y x (goes_on S front y g b) (goes_on S front x fs ([], subst S (sym (append-nil (front ++ x ∷ fs))) s)) in
    let one : y ≡ x = sym (take_at y (concat g) (length x) len) ∙ ap (take (length x)) e ∙ take_at x (concat fs) (length x) refl in
    let rest : concat g ≡ concat fs = sym (drop_at y (concat g) (length x) len) ∙ ap (drop (length x)) e ∙ drop_at x (concat fs) (length x) refl in
    let left : front ++ y ∷ g ≡ (front ++ y ∷ []) ++ g = sym (append_assoc front (y ∷ []) g) in
    let right : front ++ x ∷ fs ≡ (front ++ y ∷ []) ++ fs = ap (λ (z : List ℕ). front ++ z ∷ fs) (sym one) ∙ sym (append_assoc front (y ∷ []) fs) in
    ap (λ (z : List ℕ). z ∷ g) one ∙ ap (λ (l : List (List ℕ)). x ∷ l) (same_front S (front ++ y ∷ []) g fs d w some (subst (Begins S) left b) (subst S right s) rest)

run_some : (w : NumberWidth) (n : ℕ) (f : List (List ℕ)) (field : List ℕ) → GoesOn (run_length.Spelled w n) f field → 0 < length field
run_some w n f field on =
    let m = runs.one_more w n f field on in
    let four : length (to_le_bytes w32 m.run.len) ≡ 4 = refl in
    let is = ap length m.is in
    omega (arith, is, four, length-append (to_le_bytes w32 m.run.len) (number w m.run.value))

begins_of : (S : List (List ℕ) → Type 0) (front : List (List ℕ)) (field : List ℕ) → GoesOn S front field → Begins S front
begins_of S front field on = (field ∷ on.0, subst S (append_assoc front (field ∷ []) on.0) on.1)

no_number : (w : NumberWidth) (n : ℕ) (bytes : List ℕ) (at : ℕ) (fs : List (List ℕ)) (tail : List ℕ) → run_length.IsWrongNumber w n bytes at → run_length.Spelled w n fs → bytes ≡ concat fs ++ tail → at ≡ length (concat fs) → ⊥
no_number w n bytes at fs tail r s parts is =
    let S = run_length.Spelled w n in
    let size : length (concat r.front) ≡ length (concat fs) = r.begins ∙ is in
    let same : concat r.front ≡ concat fs = sym (take_at (concat r.front) (to_le_bytes w32 r.run.len ++ r.rest) (length (concat fs)) size) ∙ (ap (take (length (concat fs))) (sym r.parts ∙ parts) ∙ take_at (concat fs) tail (length (concat fs)) refl) in
    let one : r.front ≡ fs = same_front S [] r.front fs (runs.runs_delimited w n) (runs.runs_whole w n) (run_some w n) (begins_of S r.front (run_bytes w r.run) r.goes) s same in
    runs.runs_whole w n fs (run_bytes w r.run) s (subst (λ (f : List (List ℕ)). GoesOn S f (run_bytes w r.run)) one r.goes)

-- ---- the first fault behind values is where they end

fault_end : (form : Form) (e : Encoding) (n : ℕ) (bytes tail : List ℕ) (fs : List (List ℕ)) (at : ℕ) → Format form e n fs → bytes ≡ concat fs ++ tail → IsFaultOf form e n bytes at → at ≡ length (concat fs)
unfolding Format
fault_end form Plain n bytes tail fs at s parts f = (ends_there (plain.SpelledWithin (limit form) (width form) n) bytes at fs tail (plain_proofs.within_delimited (limit form) (width form) n) (plain_proofs.within_whole (limit form) (width form) n) f s parts).0
fault_end form RunLength n bytes tail fs at s parts f =
    let w : NumberWidth = run_width (width form) in
    let there : f.at ≡ length (concat fs) = (ends_there (run_length.Spelled w n) bytes f.at fs tail (runs.runs_delimited w n) (runs.runs_whole w n) f.fault s parts).0 in
    elim f.told [
      | inl x ↦ absurd (no_number w n bytes f.at fs tail x.0 s parts there)
      | inr x ↦ x.1 ∙ there
    ]
fault_end form Dictionary n bytes tail fs at s parts f =
    (ends_there (dictionary.SpelledWithin (limit form) n) bytes at fs tail (dictionary_places.delimited (limit form) n (room form)) (λ front field t on. dictionary_places.whole_ends (limit form) n front field on t) f s parts).0
fault_end form Prefix n bytes tail fs at s parts f =
    let there = ends_there (prefix.SpelledWithin (limit form) n) bytes f.field fs tail (prefix_places.delimited (limit form) n (room form)) (λ front field t on. prefix_places.whole_ends (limit form) n front field on t) f.fault s parts in
    let cells : is_rest f.fault.front ≡ false = ap is_rest (there.1 ∙ s.is) ∙ prefix_faults.whole_cells s.items in
    f.told ∙ (at_field (is_rest f.fault.front) (nat_lt f.field (length bytes)) f.field cells ∙ there.0)
  where
    at_field : (b c : Bool) (field : ℕ) → b ≡ false → cond (b && c) (field - 8) field ≡ field
    at_field true c field e = absurd cc
    at_field false c field e = refl

values_end : (form : Form) (e : Encoding) (n : ℕ) (bytes values tail : List ℕ) (items : Items) (at : ℕ) → IsBytes values → Reads form e n values items → bytes ≡ values ++ tail → IsFaultOf form e n bytes at → at ≡ length values
values_end form e n bytes values tail items at fits r parts f =
    let w = format_fields form e n values items fits r in
    fault_end form e n bytes tail w.0 at w.1 (parts ∙ ap (λ v. v ++ tail) w.2) f ∙ sym (ap length w.2)

-- values are the front of no longer ones
values_whole : (form : Form) (e : Encoding) (n : ℕ) (values others tail : List ℕ) (xs ys : Items) → IsBytes values → IsBytes others → Reads form e n values xs → Reads form e n others ys → others ≡ values ++ tail → length tail ≡ 0
values_whole form e n values others tail xs ys fits more r s parts =
    let v = format_fields form e n values xs fits r in
    let w = format_fields form e n others ys more s in
    none_behind (Format form e n) v.0 w.0 tail (format_delimited form e n) (format_whole form e n) v.1 w.1 (sym w.2 ∙ (parts ∙ ap (λ u. u ++ tail) v.2))

-- ---- nulls

length-null_bytes : (nulls : List Bool) → length (null_bytes nulls) ≡ byte_len (length nulls)
length-null_bytes nulls = length-bit_bytes (byte_len (length nulls)) nulls

null_once : (n : ℕ) (part : List ℕ) (a b : ℕ) → IsNullFault n part a → IsNullFault n part b → a ≡ b
null_once n part a b (inl p) (inl q) = p.1 ∙ sym q.1
null_once n part a b (inl p) (inr q) = absurd (omega (arith, p.0, q.0))
null_once n part a b (inr p) (inl q) = absurd (omega (arith, p.0, q.0))
null_once n part a b (inr p) (inr q) = p.2 ∙ sym q.2

front_once : (nullable : Bool) (n : ℕ) (part : List ℕ) (a b : ℕ) → IsFrontStop nullable n part (Fault a) → IsFrontStop nullable n part (Fault b) → a ≡ b
front_once true n part a b p q = null_once n part a b p q
front_once false n part a b p q = elim p [ ]

no_front_fault : (nullable : Bool) (n : ℕ) (part : List ℕ) (at : ℕ) (nulls : List Bool) (rest : List ℕ) → AreNullsFor nullable n nulls → part ≡ null_bytes nulls ++ rest → IsFrontStop nullable n part (Fault at) → ⊥
no_front_fault true n part at nulls rest count is (inl p) = omega (arith, p.0, none_missing n nulls rest part count is)
no_front_fault true n part at nulls rest count is (inr p) =
    let small : get_or part (n / 8) 0 < 2 ^ (n % 8) = none_spare n nulls rest part count is p.1 in
    let large : 2 ^ (n % 8) ≤ get_or part (n / 8) 0 = subst (λ k. 2 ^ (n % 8) ≤ get_or part k 0) p.2 p.3 in
    omega (arith, small, large)
no_front_fault false n part at nulls rest count is f = elim f [ ]

-- nulls that stand at the front
front_parts : (form : Form) (n : ℕ) (part : List ℕ) (nulls : List Bool) → FrontNulls form n part nulls → part ≡ null_bytes nulls ++ drop (byte_len (length nulls)) part
front_parts form n part nulls f = sym (take-append-drop (byte_len (length nulls)) part) ∙ ap (λ t. t ++ drop (byte_len (length nulls)) part) (sym f.spelled)

-- ---- content

-- a stop behind some bytes that is a fault
record Behind (k at : ℕ) (stop : Stop) : Type 0 where
  pub i : ℕ
  pub is : stop ≡ Fault i
  pub place : at ≡ k + i

behind_is : (k at : ℕ) (stop : Stop) → Fault at ≡ shifted k stop → Behind k at stop
behind_is k at Memory e = absurd cc
behind_is k at (Fault i) e = record { i = i; is = refl; place = fault_is at (k + i) e }
  where
    fault_is : (a b : ℕ) → Fault a ≡ Fault b → a ≡ b
    fault_is a b e = cc

values_once : (form : Form) (e : Encoding) (n : ℕ) (part : List ℕ) (a b : ℕ) → IsValuesStop form e n part (Fault a) → IsValuesStop form e n part (Fault b) → a ≡ b
values_once form e n part a b p q =
    let nulls : p.nulls ≡ q.nulls = nulls_once (is_nullable form) n part p.nulls q.nulls (drop (byte_len (length p.nulls)) part) (drop (byte_len (length q.nulls)) part) p.front.for_form q.front.for_form (front_parts form n part p.nulls p.front) (front_parts form n part q.nulls q.front) in
    let x = behind_is (byte_len (length p.nulls)) a p.behind p.place in
    let y = behind_is (byte_len (length q.nulls)) b q.behind q.place in
    let mine : IsFaultOf form e (value_count (is_nullable form) n q.nulls) (drop (byte_len (length q.nulls)) part) x.i =
    subst (λ ns. IsFaultOf form e (value_count (is_nullable form) n ns) (drop (byte_len (length ns)) part) x.i) nulls (subst (IsStop form e (value_count (is_nullable form) n p.nulls) (drop (byte_len (length p.nulls)) part)) x.is p.why) in
    let others : IsFaultOf form e (value_count (is_nullable form) n q.nulls) (drop (byte_len (length q.nulls)) part) y.i = subst (IsStop form e (value_count (is_nullable form) n q.nulls) (drop (byte_len (length q.nulls)) part)) y.is q.why in
    let same : x.i ≡ y.i = fault_once form e (value_count (is_nullable form) n q.nulls) (drop (byte_len (length q.nulls)) part) x.i y.i mine others in
    x.place ∙ (ap (λ ns. byte_len (length ns) + x.i) nulls ∙ (ap (λ i. byte_len (length q.nulls) + i) same ∙ sym y.place))

content_fault_once : (form : Form) (e : Encoding) (n : ℕ) (part : List ℕ) (a b : ℕ) → IsContentStop form e n part (Fault a) → IsContentStop form e n part (Fault b) → a ≡ b
content_fault_once form e n part a b (inl p) (inl q) = front_once (is_nullable form) n part a b p q
content_fault_once form e n part a b (inl p) (inr q) = absurd (no_front_fault (is_nullable form) n part a q.nulls (drop (byte_len (length q.nulls)) part) q.front.for_form (front_parts form n part q.nulls q.front) p)
content_fault_once form e n part a b (inr p) (inl q) = absurd (no_front_fault (is_nullable form) n part b p.nulls (drop (byte_len (length p.nulls)) part) p.front.for_form (front_parts form n part p.nulls p.front) q)
content_fault_once form e n part a b (inr p) (inr q) = values_once form e n part a b p q

-- content at the front of some bytes
record Content (form : Form) (e : Encoding) (n used : ℕ) (rest : List ℕ) (cs : List Cell) : Type 0 where
  pub within : used ≤ length rest
  pub content : ReadsContent form e n (take used rest) cs

-- the bytes of the values in it, and those behind it
content_parts : (form : Form) (e : Encoding) (n used : ℕ) (rest : List ℕ) (cs : List Cell) (c : Content form e n used rest cs) → rest ≡ null_bytes (nulls_in form cs) ++ (c.content.values ++ drop used rest)
content_parts form e n used rest cs c = sym (take-append-drop used rest) ∙ (ap (λ t. t ++ drop used rest) c.content.parts ∙ append_assoc (null_bytes (nulls_in form cs)) c.content.values (drop used rest))

nulls_len : (form : Form) (e : Encoding) (n used : ℕ) (rest : List ℕ) (cs : List Cell) (c : Content form e n used rest cs) → byte_len (length (nulls_in form cs)) + length c.content.values ≡ used
nulls_len form e n used rest cs c =
    omega (arith, ap length c.content.parts, length-take used rest, c.within, length-append (null_bytes (nulls_in form cs)) c.content.values, length-null_bytes (nulls_in form cs))

values_are : (form : Form) (e : Encoding) (n used : ℕ) (rest : List ℕ) (cs : List Cell) (c : Content form e n used rest cs) → Reads form e (value_count (is_nullable form) n (nulls_in form cs)) c.content.values (values_in form cs)
values_are form e n used rest cs c =
    let r = values_front form e n (take used rest) cs (nulls_in form cs) c.content refl in
    subst (λ v. Reads form e (value_count (is_nullable form) n (nulls_in form cs)) v (values_in form cs)) (ap (drop (byte_len (length (nulls_in form cs)))) c.content.parts ∙ drop_at (null_bytes (nulls_in form cs)) c.content.values (byte_len (length (nulls_in form cs))) (length-null_bytes (nulls_in form cs))) r

values_bytes : (form : Form) (e : Encoding) (n used : ℕ) (rest : List ℕ) (cs : List Cell) → IsBytes rest → (c : Content form e n used rest cs) → IsBytes c.content.values
values_bytes form e n used rest cs fits c =
    let k : ℕ = byte_len (length (nulls_in form cs)) in
    let is : drop k (take used rest) ≡ c.content.values = ap (drop k) c.content.parts ∙ drop_at (null_bytes (nulls_in form cs)) c.content.values k (length-null_bytes (nulls_in form cs)) in
    subst IsBytes is (IsBytes-drop k (take used rest) (IsBytes-take used rest fits))

-- the first fault of bytes that begin with content is where it ends
content_end : (form : Form) (e : Encoding) (n used at : ℕ) (rest : List ℕ) (cs : List Cell) → IsBytes rest → Content form e n used rest cs → IsContentStop form e n rest (Fault at) → at ≡ used
content_end form e n used at rest cs fits c (inl f) =
    absurd (no_front_fault (is_nullable form) n rest at (nulls_in form cs) (c.content.values ++ drop used rest) (nulls_front form e n (take used rest) cs c.content) (content_parts form e n used rest cs c) f)
content_end form e n used at rest cs fits c (inr f) =
    let ns : List Bool = nulls_in form cs in
    let k : ℕ = byte_len (length ns) in
    let parts = content_parts form e n used rest cs c in
    let nulls : f.nulls ≡ ns = nulls_once (is_nullable form) n rest f.nulls ns (drop (byte_len (length f.nulls)) rest) (c.content.values ++ drop used rest) f.front.for_form (nulls_front form e n (take used rest) cs c.content) (front_parts form n rest f.nulls f.front) parts in
    let x = behind_is (byte_len (length f.nulls)) at f.behind f.place in
    let why : IsFaultOf form e (value_count (is_nullable form) n ns) (drop k rest) x.i =
    subst (λ ms. IsFaultOf form e (value_count (is_nullable form) n ms) (drop (byte_len (length ms)) rest) x.i) nulls (subst (IsStop form e (value_count (is_nullable form) n f.nulls) (drop (byte_len (length f.nulls)) rest)) x.is f.why) in
    let behind : drop k rest ≡ c.content.values ++ drop used rest = ap (drop k) parts ∙ drop_at (null_bytes ns) (c.content.values ++ drop used rest) k (length-null_bytes ns) in
    let end : x.i ≡ length c.content.values = values_end form e (value_count (is_nullable form) n ns) (drop k rest) c.content.values (drop used rest) (values_in form cs) x.i (values_bytes form e n used rest cs fits c) (values_are form e n used rest cs c) behind why in
    x.place ∙ (ap (λ ms. byte_len (length ms) + x.i) nulls ∙ (ap (λ i. k + i) end ∙ nulls_len form e n used rest cs c))

-- content has one length
not_longer : (form : Form) (e : Encoding) (n u v : ℕ) (rest : List ℕ) (cs ds : List Cell) → IsBytes rest → Content form e n u rest cs → Content form e n v rest ds → u < v → ⊥
not_longer form e n u v rest cs ds fits c d lt =
    let p = content_parts form e n u rest cs c in
    let q = content_parts form e n v rest ds d in
    let nulls : nulls_in form cs ≡ nulls_in form ds = nulls_once (is_nullable form) n rest (nulls_in form cs) (nulls_in form ds) (c.content.values ++ drop u rest) (d.content.values ++ drop v rest) (nulls_front form e n (take u rest) cs c.content) (nulls_front form e n (take v rest) ds d.content) p q in
    let k : ℕ = byte_len (length (nulls_in form ds)) in
    let mine : drop k rest ≡ c.content.values ++ drop u rest = ap (λ ns. drop (byte_len (length ns)) rest) (sym nulls) ∙ (ap (drop (byte_len (length (nulls_in form cs)))) p ∙ drop_at (null_bytes (nulls_in form cs)) (c.content.values ++ drop u rest) (byte_len (length (nulls_in form cs))) (length-null_bytes (nulls_in form cs))) in
    let others : drop k rest ≡ d.content.values ++ drop v rest = ap (drop k) q ∙ drop_at (null_bytes (nulls_in form ds)) (d.content.values ++ drop v rest) k (length-null_bytes (nulls_in form ds)) in
    let m : ℕ = length c.content.values in
    let long : length d.content.values ≡ m + (v - u) = omega (arith, nulls_len form e n u rest cs c, nulls_len form e n v rest ds d, ap (λ ns. byte_len (length ns)) nulls, lt) in
    let split : d.content.values ≡ c.content.values ++ take (v - u) (drop u rest) =
    sym (take_at d.content.values (drop v rest) (m + (v - u)) long) ∙ (ap (take (m + (v - u))) (sym others ∙ mine) ∙ take-append-add c.content.values (drop u rest) (v - u)) in
    let s : Reads form e (value_count (is_nullable form) n (nulls_in form ds)) c.content.values (values_in form cs) = subst (λ ns. Reads form e (value_count (is_nullable form) n ns) c.content.values (values_in form cs)) nulls (values_are form e n u rest cs c) in
    let none = values_whole form e (value_count (is_nullable form) n (nulls_in form ds)) c.content.values d.content.values (take (v - u) (drop u rest)) (values_in form cs) (values_in form ds) (values_bytes form e n u rest cs fits c) (values_bytes form e n v rest ds fits d) s (values_are form e n v rest ds d) split in
    omega (arith, none, ap length split, length-append c.content.values (take (v - u) (drop u rest)), long)

one_length : (form : Form) (e : Encoding) (n u v : ℕ) (rest : List ℕ) (cs ds : List Cell) → IsBytes rest → Content form e n u rest cs → Content form e n v rest ds → u ≡ v
one_length form e n u v rest cs ds fits c d =
    elim (cases_lt u v) [
      | inl lt ↦ absurd (not_longer form e n u v rest cs ds fits c d lt)
      | inr ge ↦ elim (cases_lt v u) [
        | inl lt ↦ absurd (not_longer form e n v u rest ds cs fits d c lt)
        | inr le ↦ omega arith
      ]
    ]

-- ---- a block

-- a fault of the content stands where no content ends
not_both : (form : Form) (e : Encoding) (n used at : ℕ) (rest : List ℕ) (cs : List Cell) → IsBytes rest → IsContentFault form e n rest at → Content form e n used rest cs → ⊥
not_both form e n used at rest cs fits f c = f.open_ cs (subst (λ k. ReadsContent form e n (take k rest) cs) (sym (content_end form e n used at rest cs fits c f.fault)) c.content)

of_wrong : (form : Form) (e : Encoding) (n len : ℕ) (rest : List ℕ) → (w : IsWrongLength form e n len rest) → Content form e n w.used rest w.cells
of_wrong form e n len rest w = record { within = w.within; content = w.content }

of_longer : (form : Form) (e : Encoding) (n len : ℕ) (rest : List ℕ) → len ≤ length rest → (l : IsLonger form e n (take len rest)) → Content form e n len rest l.cs
of_longer form e n len rest within l = record { within = within; content = l.content }

body_once : (form : Form) (e : Encoding) (n len : ℕ) (rest : List ℕ) (a b : ℕ) → IsBytes rest → IsBodyStop form e n len rest (Fault a) → IsBodyStop form e n len rest (Fault b) → a ≡ b
body_once form e n len rest a b fits (inl p) (inl q) = p.2 ∙ (ap (λ k. 5 + k) (content_fault_once form e n rest p.0 q.0 p.1.fault q.1.fault) ∙ sym q.2)
body_once form e n len rest a b fits (inl p) (inr (inl q)) = absurd (not_both form e n q.0.used p.0 rest q.0.cells fits p.1 (of_wrong form e n len rest q.0))
body_once form e n len rest a b fits (inl p) (inr (inr q)) = absurd (not_both form e n len p.0 rest q.1.cs fits p.1 (of_longer form e n len rest q.0 q.1))
body_once form e n len rest a b fits (inr (inl p)) (inl q) = absurd (not_both form e n p.0.used q.0 rest p.0.cells fits q.1 (of_wrong form e n len rest p.0))
body_once form e n len rest a b fits (inr (inl p)) (inr (inl q)) = p.1 ∙ sym q.1
body_once form e n len rest a b fits (inr (inl p)) (inr (inr q)) = absurd (p.0.differs (one_length form e n p.0.used len rest p.0.cells q.1.cs fits (of_wrong form e n len rest p.0) (of_longer form e n len rest q.0 q.1)))
body_once form e n len rest a b fits (inr (inr p)) (inl q) = absurd (not_both form e n len q.0 rest p.1.cs fits q.1 (of_longer form e n len rest p.0 p.1))
body_once form e n len rest a b fits (inr (inr p)) (inr (inl q)) = absurd (q.0.differs (one_length form e n q.0.used len rest q.0.cells p.1.cs fits (of_wrong form e n len rest q.0) (of_longer form e n len rest p.0 p.1)))
body_once form e n len rest a b fits (inr (inr p)) (inr (inr q)) = p.2 ∙ sym q.2

head_once : (form : Form) (bytes : List ℕ) (a b : ℕ) → IsHeadFault form bytes a → IsHeadFault form bytes b → a ≡ b
head_once form bytes a b (inl p) (inl q) = p.1 ∙ sym q.1
head_once form bytes a b (inl p) (inr (inl q)) = p.1 ∙ sym q.1
head_once form bytes a b (inl p) (inr (inr q)) = absurd (omega (arith, p.0, q.2.3))
head_once form bytes a b (inr (inl p)) (inl q) = p.1 ∙ sym q.1
head_once form bytes a b (inr (inl p)) (inr (inl q)) = p.1 ∙ sym q.1
head_once form bytes a b (inr (inl p)) (inr (inr q)) = absurd (p.2 q.2.0 q.2.1 q.2.2)
head_once form bytes a b (inr (inr p)) (inl q) = absurd (omega (arith, q.0, p.2.3))
head_once form bytes a b (inr (inr p)) (inr (inl q)) = absurd (q.2 p.2.0 p.2.1 p.2.2)
head_once form bytes a b (inr (inr p)) (inr (inr q)) = p.1 ∙ sym q.1

rest_fits : (form : Form) (bytes : List ℕ) (e : Encoding) (len : ℕ) (rest : List ℕ) → IsBytes bytes → IsHead form bytes e len rest → IsBytes rest
rest_fits form bytes e len rest fits h = subst IsBytes (ap (drop 5) h.parts) (IsBytes-drop 5 bytes fits)

pub block_once_refused : (form : Form) (n : ℕ) (bytes : List ℕ) (a b : ℕ) → IsBytes bytes → IsBlockStop form n bytes (Fault a) → IsBlockStop form n bytes (Fault b) → a ≡ b
block_once_refused form n bytes a b fits (inl p) (inl q) = head_once form bytes a b p q
block_once_refused form n bytes a b fits (inl p) (inr q) = absurd (no_head_stop form bytes q.encoding q.len q.rest (Fault a) q.front p)
block_once_refused form n bytes a b fits (inr p) (inl q) = absurd (no_head_stop form bytes p.encoding p.len p.rest (Fault b) p.front q)
block_once_refused form n bytes a b fits (inr p) (inr q) =
    let code : q.encoding ≡ p.encoding = same_code_of form bytes q.encoding p.encoding q.len p.len q.rest p.rest q.front p.front in
    let rests = same_rests form bytes q.encoding p.encoding q.len p.len q.rest p.rest q.front p.front in
    let other : IsBodyStop form p.encoding n p.len p.rest (Fault b) = subst (λ x. IsBodyStop form x n p.len p.rest (Fault b)) code (subst (λ k. IsBodyStop form q.encoding n k p.rest (Fault b)) rests.0 (subst (λ r. IsBodyStop form q.encoding n q.len r (Fault b)) rests.1 q.body)) in
    body_once form p.encoding n p.len p.rest a b (rest_fits form bytes p.encoding p.len p.rest fits p.front) p.body other

-- ---- a block that is refused is none

pub refused_block : (form : Form) (n : ℕ) (bytes : List ℕ) (at : ℕ) (cs : List Cell) (front rest : List ℕ) → IsBytes bytes → IsBlockStop form n bytes (Fault at) → SpellsBlock form cs front → length cs ≡ n → bytes ≡ front ++ rest → ⊥
refused_block form n bytes at cs front rest fits (inl h) s count is =
    no_head_stop form bytes s.block.encoding _ _ (Fault at) (block_head form cs front rest bytes s is) h
refused_block form n bytes at cs front rest fits (inr f) s count is =
    let b = (body_of form cs front rest bytes n f.encoding f.len f.rest s count is f.front).0 in
    let c : Content form f.encoding n f.len f.rest cs = record { within = b.within; content = b.content } in
    at_body f.encoding f.len f.rest f.front.open_ f.body b c (rest_fits form bytes f.encoding f.len f.rest fits f.front)
  where
    at_body : (e : Encoding) (len : ℕ) (r : List ℕ) → MayUse form e → IsBodyStop form e n len r (Fault at) → IsBody form e n len r cs → Content form e n len r cs → IsBytes r → ⊥
    at_body e len r may (inl p) b c bytes_fit = not_both form e n len p.0 r cs bytes_fit p.1 c
    at_body e len r may (inr (inl p)) b c bytes_fit = p.0.differs (one_length form e n p.0.used len r p.0.cells cs bytes_fit (of_wrong form e n len r p.0) c)
    at_body e len r may (inr (inr p)) b c bytes_fit =
        let same : cs ≡ p.1.cs = content_once form e n (take len r) cs p.1.cs b.content p.1.content in
        p.1.longer b.content.values (subst (λ ds. IsShortest form (values_in form ds) e b.content.values) same (b.shortest b.content.values (may, b.content.encoded)))

-- ---- a column

-- some full blocks at the front of a column, and the next one
record Next (form : Form) (cs ds : List Cell) (r : List ℕ) : Type 0 where
  pub later : List Cell
  pub cells : ds ≡ cs ++ later
  pub front : List ℕ
  pub rest : List ℕ
  pub block : SpellsBlock form (take 8192 later) front
  pub full : length (take 8192 later) ≡ min (length ds - length cs) 8192
  pub bytes : r ≡ front ++ rest

next_block : (form : Form) (k t : ℕ) (cs ds : List Cell) (a b r s : List ℕ) → 8192 * k < length ds → t ≡ block_count (length ds) → SpellsBlocks form k cs a → length cs ≡ 8192 * k → SpellsBlocks form t ds b → a ++ r ≡ b ++ s → Next form cs ds r
next_block form k zero cs ds a b r s lt total p count q e = absurd (omega (arith, lt, total))
next_block form zero (suc t) cs ds a b r s lt total p count q e =
    let none : cs ≡ [] = nil_from_length cs (omega (arith, count)) in
    record {
      later = ds;
      cells = ap (λ l. l ++ ds) (sym none);
      front = q.0;
      rest = q.1 ++ s;
      block = q.3;
      full = omega (arith, length-take 8192 ds, count);
      bytes = ap (λ l. l ++ r) (sym p) ∙ (e ∙ (ap (λ l. l ++ s) q.2 ∙ append_assoc q.0 q.1 s));
    }
next_block form (suc k) (suc t) cs ds a b r s lt total p count q e =
    let apart : p.0 ++ (p.1 ++ r) ≡ q.0 ++ (q.1 ++ s) = sym (append_assoc p.0 p.1 r) ∙ (ap (λ l. l ++ r) (sym p.2) ∙ (e ∙ (ap (λ l. l ++ s) q.2 ∙ append_assoc q.0 q.1 s))) in
    let here = block_once form (take 8192 cs) (take 8192 ds) p.0 q.0 (p.1 ++ r) (q.1 ++ s) p.3 q.3 (omega (arith, length-take 8192 cs, length-take 8192 ds, count, lt)) apart in
    let more = next_block form k t (drop 8192 cs) (drop 8192 ds) p.1 q.1 r s (omega (arith, length-drop 8192 ds, lt)) (omega (arith, length-drop 8192 ds, lt, total)) p.4 (omega (arith, length-drop 8192 cs, count)) q.4 here.2 in
    record {
      later = more.later;
      cells = sym (take-append-drop 8192 ds) ∙ (ap (λ l. l ++ drop 8192 ds) (sym here.0) ∙ (ap (λ l. take 8192 cs ++ l) more.cells ∙ (sym (append_assoc (take 8192 cs) (drop 8192 cs) more.later) ∙ ap (λ l. l ++ more.later) (take-append-drop 8192 cs))));
      front = more.front;
      rest = more.rest;
      block = more.block;
      full = omega (arith, more.full, length-drop 8192 ds, length-drop 8192 cs, count, lt);
      bytes = more.bytes;
    }

-- behind full blocks that were found, the next one of a longer column
found_next : (form : Form) (j i : ℕ) (bytes front rest : List ℕ) (cs ds : List Cell) → IsColumnFound form (8192 * j) bytes cs i → SpellsColumn form ds front → bytes ≡ front ++ rest → 8192 * j < length ds → Next form cs ds (drop i bytes)
found_next form j i bytes front rest cs ds f s is lt =
    next_block form j (block_count (length ds)) cs ds (take i bytes) front (drop i bytes) rest lt refl (subst (λ m. SpellsBlocks form m cs (take i bytes)) (blocks_of j (length cs) f.counted) f.spelled) f.counted s (take-append-drop i bytes ∙ is)
  where
    blocks_of : (k n : ℕ) → n ≡ 8192 * k → block_count n ≡ k
    blocks_of k n e = omega arith

found_more : (form : Form) (j k i l : ℕ) (bytes : List ℕ) (cs ds : List Cell) → IsColumnFound form (8192 * j) bytes cs i → IsColumnFound form (8192 * k) bytes ds l → j < k → Next form cs ds (drop i bytes)
found_more form j k i l bytes cs ds f g lt = found_next form j i bytes (take l bytes) (drop l bytes) cs ds f g.spelled (sym (take-append-drop l bytes)) (omega (arith, g.counted, lt))

-- of as many blocks there is one column, in as many bytes
found_same : (form : Form) (n i l : ℕ) (bytes : List ℕ) (cs ds : List Cell) → IsColumnFound form n bytes cs i → IsColumnFound form n bytes ds l → (cs ≡ ds) × (i ≡ l)
found_same form n i l bytes cs ds f g =
    let same = column_once form cs ds (take i bytes) (take l bytes) (drop i bytes) (drop l bytes) f.spelled g.spelled (f.counted ∙ sym g.counted) (take-append-drop i bytes ∙ sym (take-append-drop l bytes)) in
    (same.0, omega (arith, ap length same.1, length-take i bytes, length-take l bytes, f.within, g.within))

-- no block stands where the column was refused
none_next : (form : Form) (n i at : ℕ) (bytes : List ℕ) (cs ds : List Cell) → IsBytes bytes → IsRefusal form n (drop i bytes) (answers.Place at) → min (length ds - length cs) 8192 ≡ n → Next form cs ds (drop i bytes) → ⊥
none_next form n i at bytes cs ds fits why size next = refused_block form n (drop i bytes) at (take 8192 next.later) next.front next.rest (IsBytes-drop i bytes fits) why next.block (next.full ∙ size) next.bytes

pub column_once_refused : (form : Form) (rows : ℕ) (bytes : List ℕ) (a b : ℕ) → IsBytes bytes → IsColumnFault form rows bytes a → IsColumnFault form rows bytes b → a ≡ b
column_once_refused form rows bytes a b fits f g =
    elim (cases_lt f.blocks g.blocks) [
      | inl lt ↦ absurd (none_next form (min (rows - 8192 * f.blocks) 8192) f.used f.at bytes f.cells g.cells fits f.next (omega (arith, f.found.counted, g.found.counted, g.more, lt)) (found_more form f.blocks g.blocks f.used g.used bytes f.cells g.cells f.found g.found lt))
      | inr ge ↦ elim (cases_lt g.blocks f.blocks) [
        | inl lt ↦ absurd (none_next form (min (rows - 8192 * g.blocks) 8192) g.used g.at bytes g.cells f.cells fits g.next (omega (arith, f.found.counted, g.found.counted, f.more, lt)) (found_more form g.blocks f.blocks g.used f.used bytes g.cells f.cells g.found f.found lt))
        | inr le ↦
            let same : f.blocks ≡ g.blocks = omega arith in
            let one = found_same form (8192 * g.blocks) f.used g.used bytes f.cells g.cells (subst (λ k. IsColumnFound form (8192 * k) bytes f.cells f.used) same f.found) g.found in
            let next : IsRefusal form (min (rows - 8192 * g.blocks) 8192) (drop g.used bytes) (answers.Place f.at) = subst (λ i. IsRefusal form (min (rows - 8192 * g.blocks) 8192) (drop i bytes) (answers.Place f.at)) one.1 (subst (λ k. IsRefusal form (min (rows - 8192 * k) 8192) (drop f.used bytes) (answers.Place f.at)) same f.next) in
            let at : f.at ≡ g.at = block_once_refused form (min (rows - 8192 * g.blocks) 8192) (drop g.used bytes) f.at g.at (IsBytes-drop g.used bytes fits) next g.next in
            f.place ∙ (ap (λ i. i + f.at) one.1 ∙ (ap (λ k. g.used + k) at ∙ sym g.place))
      ]
    ]

pub refused_column : (form : Form) (rows : ℕ) (bytes : List ℕ) (at : ℕ) (cs : List Cell) (front rest : List ℕ) → IsBytes bytes → IsColumnFault form rows bytes at → SpellsColumn form cs front → length cs ≡ rows → bytes ≡ front ++ rest → ⊥
refused_column form rows bytes at cs front rest fits f s count is =
    none_next form (min (rows - 8192 * f.blocks) 8192) f.used f.at bytes f.cells cs fits f.next (omega (arith, f.found.counted, count)) (found_next form f.blocks f.used bytes front rest f.cells cs f.found s is (omega (arith, count, f.more)))

-- ---- a column of keys that rise

-- a key that falls, and none that does
not_none : (n at : ℕ) (before : Option (List ℕ)) (bytes : List ℕ) → IsKeyFall n before bytes at → NoKeyFalls n before bytes → ⊥
not_none n at before bytes f none = f.fall.falls (none f.len f.rest f.front (f.fall.items ++ f.fall.item ∷ []) (omega (arith, f.fall.few, length-append f.fall.items (f.fall.item ∷ []))) f.fall.begins)

fall_place_once : (n a b : ℕ) (before : Option (List ℕ)) (bytes : List ℕ) → IsKeyFall n before bytes a → IsKeyFall n before bytes b → a ≡ b
fall_place_once n a b before bytes f g =
    let same : f.rest ≡ g.rest = (same_rests Keys bytes Prefix Prefix f.len g.len f.rest g.rest f.front g.front).1 in
    let one : f.behind ≡ g.behind = fall_once (limit Keys) n before g.rest f.behind g.behind (lit≤ tt) (subst (λ r. IsFall (limit Keys) n before r f.behind) same f.fall) g.fall in
    f.place ∙ (ap (λ k. 5 + k) one ∙ sym g.place)

next_fault_once : (n a b : ℕ) (before : Option (List ℕ)) (bytes : List ℕ) → IsBytes bytes → IsNextFault n before bytes a → IsNextFault n before bytes b → a ≡ b
next_fault_once n a b before bytes fits (inl p) (inl q) = fall_place_once n a b before bytes p q
next_fault_once n a b before bytes fits (inl p) (inr q) = absurd (not_none n a before bytes p q.0)
next_fault_once n a b before bytes fits (inr p) (inl q) = absurd (not_none n b before bytes q p.0)
next_fault_once n a b before bytes fits (inr p) (inr q) = block_once_refused Keys n bytes a b fits p.1 q.1

none_next_rising : (n i at : ℕ) (bytes : List ℕ) (cs ds : List Cell) → IsBytes bytes → IsNextFault n (last_key cs) (drop i bytes) at → AreRising ds → min (length ds - length cs) 8192 ≡ n → Next Keys cs ds (drop i bytes) → ⊥
none_next_rising n i at bytes cs ds fits (inl fall) rise size next = block_falls n at (last_key cs) (drop i bytes) next.front next.rest (take 8192 next.later) fall next.block (next.full ∙ size) next.bytes (later_rises cs next.later 8192 (subst AreRising next.cells rise))
none_next_rising n i at bytes cs ds fits (inr why) rise size next = none_next Keys n i at bytes cs ds fits why.1 size next

pub rising_once_refused : (rows : ℕ) (bytes : List ℕ) (a b : ℕ) → IsBytes bytes → IsRisingFault rows bytes a → IsRisingFault rows bytes b → a ≡ b
rising_once_refused rows bytes a b fits f g =
    elim (cases_lt f.blocks g.blocks) [
      | inl lt ↦ absurd (none_next_rising (min (rows - 8192 * f.blocks) 8192) f.used f.at bytes f.cells g.cells fits f.next g.rise (omega (arith, f.found.counted, g.found.counted, g.more, lt)) (found_more Keys f.blocks g.blocks f.used g.used bytes f.cells g.cells f.found g.found lt))
      | inr ge ↦ elim (cases_lt g.blocks f.blocks) [
        | inl lt ↦ absurd (none_next_rising (min (rows - 8192 * g.blocks) 8192) g.used g.at bytes g.cells f.cells fits g.next f.rise (omega (arith, f.found.counted, g.found.counted, f.more, lt)) (found_more Keys g.blocks f.blocks g.used f.used bytes g.cells f.cells g.found f.found lt))
        | inr le ↦
            let same : f.blocks ≡ g.blocks = omega arith in
            let one = found_same Keys (8192 * g.blocks) f.used g.used bytes f.cells g.cells (subst (λ k. IsColumnFound Keys (8192 * k) bytes f.cells f.used) same f.found) g.found in
            let next : IsNextFault (min (rows - 8192 * g.blocks) 8192) (last_key g.cells) (drop g.used bytes) f.at = subst (λ cs. IsNextFault (min (rows - 8192 * g.blocks) 8192) (last_key cs) (drop g.used bytes) f.at) one.0
            (subst (λ i. IsNextFault (min (rows - 8192 * g.blocks) 8192) (last_key f.cells) (drop i bytes) f.at) one.1 (subst (λ k. IsNextFault (min (rows - 8192 * k) 8192) (last_key f.cells) (drop f.used bytes) f.at) same f.next)) in
            let at : f.at ≡ g.at = next_fault_once (min (rows - 8192 * g.blocks) 8192) f.at g.at (last_key g.cells) (drop g.used bytes) (IsBytes-drop g.used bytes fits) next g.next in
            f.place ∙ (ap (λ i. i + f.at) one.1 ∙ (ap (λ k. g.used + k) at ∙ sym g.place))
      ]
    ]

pub refused_rising : (rows : ℕ) (bytes : List ℕ) (at : ℕ) (cs : List Cell) (front rest : List ℕ) → IsBytes bytes → IsRisingFault rows bytes at → SpellsColumn Keys cs front → length cs ≡ rows → AreRising cs → bytes ≡ front ++ rest → ⊥
refused_rising rows bytes at cs front rest fits f s count rise is =
    none_next_rising (min (rows - 8192 * f.blocks) 8192) f.used f.at bytes f.cells cs fits f.next rise (omega (arith, f.found.counted, count)) (found_next Keys f.blocks f.used bytes front rest f.cells cs f.found s is (omega (arith, count, f.more)))

-- A fault stands within the bytes.
use Rattle.std.proofs.Common.{◌≡◌, ◌≤◌, ◌<◌, ◌+◌, ◌-◌, ◌^◌, inl, inr, ℕ, List, length, drop, arith, refl, sym, subst}
use Rattle.std.proofs.lemmas.List.{length-drop, take_all}
use Rattle.kt_plain.specs.Spelling as plain
use Rattle.kt_plain.specs.declared.widths.NumberWidth.{NumberWidth as RunWidth}
use Rattle.kt_rle.specs.Spelling as run_length
use Rattle.kt_dict.specs.Spelling as dictionary
use Rattle.kt_front.specs.Spelling as prefix
use Rattle.kt_front.specs.Reading.{is_rest}
use Rattle.std.specs.Prelude.{◌&&◌, nat_lt}
use Rattle.std.specs.List.{concat}
use Rattle.kt_bytes.specs.Places.{IsFault, IsPlace}
use Rattle.kt_column.specs.declared.errors.Stop.{Stop}
use Rattle.kt_column.specs.declared.errors.Stop.TheVariants.{Memory, Fault}
use Rattle.kt_column.specs.declared.form.Form.{Form}
use Rattle.kt_column.specs.declared.form.Encoding.{Encoding}
use Rattle.kt_column.specs.declared.form.Encoding.TheVariants.{Plain, RunLength, Dictionary, Prefix}
use Rattle.kt_column.specs.Forms.{width, limit}
use Rattle.kt_column.specs.Values.{run_width}
use Rattle.kt_column.specs.Reading.{IsFaultOf, IsStop}
use Rattle.std.proofs.Common.{Bool, true, false, cond, suc, take, ◌∷◌, ◌++◌, ap, ◌∙◌, length-append, length-take}
use Rattle.std.proofs.Math.Seq.{take-append-add}
use Rattle.std.specs.Int.{w32, to_le_bytes}
use Rattle.kt_base.specs.declared.cell.Cell.{Cell}
use Rattle.kt_column.specs.Forms.{is_nullable, code}
use Rattle.kt_column.specs.Nulls.{byte_len, null_bytes}
use Rattle.kt_column.specs.Blocks.{nulls_in}
use Rattle.kt_column.specs.Faults.{IsShiftable, IsFrontStop, IsContentStop, IsHead, IsHeadFault, IsBody, IsBodyStop, IsFound, IsBodyFault, IsBlockStop, IsWrongLength, ReadsContent, shifted, value_count}

-- a first fault stands within the bytes
place_within : (S : List (List ℕ) → Type 0) (bytes : List ℕ) (place : ℕ) → IsFault S bytes place → place ≤ length bytes
place_within S bytes place f = of S bytes f.front f.rest place f.parts f.at
  where
    of : (S : List (List ℕ) → Type 0) (bytes : List ℕ) (front : List (List ℕ)) (rest : List ℕ) (place : ℕ) → bytes ≡ concat front ++ rest → IsPlace S front rest place → place ≤ length bytes
    of S bytes front rest place parts (inl p) = let len = ap length parts in omega (arith, len, p.3, length-append (concat front) rest)
    of S bytes front rest place parts (inr p) = let len = ap length parts in omega (arith, len, p.1, length-append (concat front) rest)

-- what is told at a place or a little before it
not_later : (b : Bool) (field place len : ℕ) → place ≡ cond b (field - 8) field → field ≤ len → place ≤ len
not_later true field place len told le = omega (arith, told)
not_later false field place len told le = omega (arith, told)

-- a fault is told within the bytes
told_within : (w : RunWidth) (n : ℕ) (bytes : List ℕ) (place : ℕ) → run_length.IsTold w n bytes place → place ≤ length bytes
told_within w n bytes place f =
    elim f.told [
      | inl t ↦
          let k = t.0 in
          let four : length (to_le_bytes w32 k.run.len) ≡ 4 = refl in
          omega (arith, t.1, four, k.begins, ap length k.parts, length-append (concat k.front) (to_le_bytes w32 k.run.len ++ k.rest), length-append (to_le_bytes w32 k.run.len) k.rest)
      | inr t ↦ omega (arith, t.1, place_within (run_length.Spelled w n) bytes f.at f.fault)
    ]

pub fault_within : (form : Form) (e : Encoding) (n : ℕ) (bytes : List ℕ) (at : ℕ) → IsFaultOf form e n bytes at → at ≤ length bytes
fault_within form Plain n bytes at f = place_within (plain.SpelledWithin (limit form) (width form) n) bytes at f
fault_within form RunLength n bytes at f = told_within (run_width (width form)) n bytes at f
fault_within form Dictionary n bytes at f = place_within (dictionary.SpelledWithin (limit form) n) bytes at f
fault_within form Prefix n bytes at f = not_later (is_rest f.fault.front && nat_lt f.field (length bytes)) f.field at (length bytes) f.told (place_within (prefix.SpelledWithin (limit form) n) bytes f.field f.fault)

pub shiftable : (form : Form) (e : Encoding) (n skip : ℕ) (bytes : List ℕ) (stop : Stop) → skip + length bytes < 2 ^ 64 → IsStop form e n bytes stop → IsShiftable skip stop
shiftable form e n skip bytes Memory room why = tt
shiftable form e n skip bytes (Fault at) room why = (let within = fault_within form e n bytes at why in omega (arith, within))

-- the fault of a content stands within it

front_within : (nullable : Bool) (n : ℕ) (part : List ℕ) (at : ℕ) → IsFrontStop nullable n part (Fault at) → at ≤ length part
front_within true n part at (inl h) = omega (arith, h.1)
front_within true n part at (inr h) = omega (arith, h.0, h.1, h.2)
front_within false n part at h = elim h [ ]

-- the bytes of a block that was read

take_five : (e : Encoding) (len : ℕ) (rest : List ℕ) → length (to_le_bytes w32 len) ≡ 4 → take (5 + len) (code e ∷ (to_le_bytes w32 len ++ rest)) ≡ code e ∷ (to_le_bytes w32 len ++ take len rest)
take_five e len rest four =
    let five : 5 + len ≡ suc (length (to_le_bytes w32 len) + len) = omega (arith, four) in
    ap (λ k. take k (code e ∷ (to_le_bytes w32 len ++ rest))) five ∙ ap (λ r. code e ∷ r) (take-append-add (to_le_bytes w32 len) rest len)

pub found_block : (form : Form) (e : Encoding) (n len : ℕ) (bytes rest : List ℕ) (cs : List Cell) → IsHead form bytes e len rest → IsBody form e n len rest cs → IsFound form n bytes cs (5 + len)
found_block form e n len bytes rest cs h b =
    let content : List ℕ = null_bytes (nulls_in form cs) ++ b.content.values in
    let len-is : length (take len rest) ≡ len = omega (arith, length-take len rest, b.within) in
    let parts : take len rest ≡ null_bytes (nulls_in form cs) ++ b.content.values = b.content.parts in
    let long : length (null_bytes (nulls_in form cs) ++ b.content.values) ≡ len = ap length (sym parts) ∙ len-is in
    let four : length (to_le_bytes w32 len) ≡ 4 = refl in
    let whole : length bytes ≡ 5 + length rest = ap length h.parts ∙ omega (arith, length-append (to_le_bytes w32 len) rest, four) in
    let front : take (5 + len) bytes ≡ code e ∷ (to_le_bytes w32 len ++ take len rest) = ap (take (5 + len)) h.parts ∙ take_five e len rest four in
    record {
      within = omega (arith, whole, b.within);
      counted = b.content.counted;
      spelled = record {
        cells = b.content.cells;
        block = record {
          encoding = e;
          values = b.content.values;
          shortest = b.shortest b.content.values (h.open_, b.content.encoded);
          room = omega (arith, long, h.room);
          spelled = front ∙ ap (λ c. code e ∷ (to_le_bytes w32 len ++ c)) parts ∙ ap (λ k. code e ∷ (to_le_bytes w32 k ++ (null_bytes (nulls_in form cs) ++ b.content.values))) (sym long);
        };
      };
    }

pub body_stop : (form : Form) (n : ℕ) (bytes : List ℕ) (stop : Stop) → IsBodyFault form n bytes stop → IsBlockStop form n bytes stop
body_stop form n bytes Memory h = tt
body_stop form n bytes (Fault at) h = inr h

-- the fault of a block stands within the bytes

head_within : (form : Form) (bytes : List ℕ) (at : ℕ) → IsHeadFault form bytes at → at ≤ length bytes
head_within form bytes at (inl h) = omega (arith, h.1)
head_within form bytes at (inr (inl h)) = omega (arith, h.1)
head_within form bytes at (inr (inr h)) = omega (arith, h.1)

values_within : (form : Form) (e : Encoding) (n k at : ℕ) (part : List ℕ) (behind : Stop) → Fault at ≡ shifted k behind → k ≤ length part → IsStop form e n (drop k part) behind → at ≤ length part
values_within form e n k at part Memory is le why = absurd (cc)
values_within form e n k at part (Fault i) is le why =
    let place : at ≡ k + i = cc in
    let within = fault_within form e n (drop k part) i why in
    omega (arith, place, within, length-drop k part)

pub content_within : (form : Form) (e : Encoding) (n : ℕ) (part : List ℕ) (at : ℕ) → IsContentStop form e n part (Fault at) → at ≤ length part
content_within form e n part at (inl h) = front_within (is_nullable form) n part at h
content_within form e n part at (inr h) = values_within form e (value_count (is_nullable form) n h.nulls) (byte_len (length h.nulls)) at part h.behind h.place h.front.within h.why

body_within : (form : Form) (e : Encoding) (n len : ℕ) (rest : List ℕ) (at : ℕ) → IsBodyStop form e n len rest (Fault at) → at ≤ 5 + length rest
body_within form e n len rest at (inl h) = (let within = content_within form e n rest h.0 h.1.fault in omega (arith, within, h.2))
body_within form e n len rest at (inr (inl h)) = omega (arith, h.1)
body_within form e n len rest at (inr (inr h)) = omega (arith, h.2)

pub block_within : (form : Form) (n : ℕ) (bytes : List ℕ) (at : ℕ) → IsBlockStop form n bytes (Fault at) → at ≤ length bytes
block_within form n bytes at (inl h) = head_within form bytes at h
block_within form n bytes at (inr h) =
    let within = body_within form h.encoding n h.len h.rest at h.body in
    let four : length (to_le_bytes w32 h.len) ≡ 4 = refl in
    let whole : length bytes ≡ 5 + length h.rest = ap length h.front.parts ∙ omega (arith, length-append (to_le_bytes w32 h.len) h.rest, four) in
    omega (arith, whole, within)

-- ---- a length that disagrees

-- all of the bytes are the content, and they are not so many
pub all_content : (form : Form) (e : Encoding) (n len : ℕ) (rest : List ℕ) (cs : List Cell) → ReadsContent form e n rest cs → (length rest ≡ len → ⊥) → IsWrongLength form e n len rest
all_content form e n len rest cs r other = record { cells = cs; used = length rest; within = omega arith; content = subst (λ p. ReadsContent form e n p cs) (sym (take_all (length rest) rest (omega arith))) r; differs = other }

-- the content is of another length than the one at which none stands
pub other_content : (form : Form) (e : Encoding) (n len used : ℕ) (rest : List ℕ) (cs : List Cell) → used ≤ length rest → ReadsContent form e n (take used rest) cs → ((ds : List Cell) → ReadsContent form e n (take len rest) ds → ⊥) → IsWrongLength form e n len rest
other_content form e n len used rest cs within r none = record { cells = cs; used = used; within = within; content = r; differs = λ same. none cs (subst (λ k. ReadsContent form e n (take k rest) cs) same r) }

pub not_all : (form : Form) (e : Encoding) (n len : ℕ) (rest : List ℕ) (cs : List Cell) → ReadsContent form e n rest cs → ((ds : List Cell) → ReadsContent form e n (take len rest) ds → ⊥) → length rest ≡ len → ⊥
not_all form e n len rest cs r none same = none cs (subst (λ p. ReadsContent form e n p cs) (sym (take_all len rest (omega (arith, same)))) r)

-- the bytes are fewer than the length tells, and all of them are the content
pub short_content : (form : Form) (e : Encoding) (n len : ℕ) (rest : List ℕ) (cs : List Cell) → length rest < len → ReadsContent form e n (take len rest) cs → IsWrongLength form e n len rest
short_content form e n len rest cs lt r = all_content form e n len rest cs (subst (λ p. ReadsContent form e n p cs) (take_all len rest (omega (arith, lt))) r) (λ same. omega (arith, same, lt))

-- What a slot tells fits it, the superblock that was written is told again, and the place that is told is the first fault.
use Rattle.std.proofs.Common.{◌≡◌, ◌⊎◌, ℕ, zero, suc, ◌+◌, ◌-◌, ◌^◌, ◌<◌, ◌≤◌, min, Bool, true, false, ◌&&◌, cond, eqb, ltb, leb, List, [], ◌∷◌, ◌++◌, length, take, drop, Some, None, Result, Ok, Err, refl, sym, ap, subst, ◌∙◌, append_assoc, arith, length-append, inl, inr}
use Rattle.std.specs.List.{flat_map}
use Rattle.std.specs.Int.{w32, w64, to_le_bytes, from_le_bytes}
use Rattle.std.proofs.lemmas.Bool.{cases_lt, eqb-true, eqb-false, leb-false, ltb-true, ltb-false, le-ltb, le-leb}
use Rattle.std.proofs.lemmas.List.{append-nil, take_at, drop_at, take_all, length-take}
use Rattle.std.proofs.lemmas.List.Concat.{flat_map-cons}
use Rattle.kt_bytes.specs.Places.{IsFault}
use Rattle.kt_bytes.proofs.Numbers.{IsBytes, IsBytes-drop, IsBytes-take, wide32}
use Rattle.kt_bytes.proofs.Formats.{bytes_front}
use Rattle.kt_super.specs.declared.meta.Meta.{Meta}
use Rattle.kt_super.specs.declared.meta.FileRef.{FileRef}
use Rattle.kt_super.specs.declared.meta.MetaRowset.{MetaRowset}
use Rattle.kt_super.specs.Rowsets.{is_small, spelled_file, spelled_files, spelled_rowset, spelled_rowsets}
use Rattle.kt_super.specs.Columns.{spelled_columns}
use Rattle.kt_super.specs.Body.{slot_for, is_number, IsMeta, head_of, spelled_head, spelled_body, body_at}
use Rattle.kt_super.specs.Fields.{FilesCount, StandsIn, Spelled}
use Rattle.kt_super.specs.Slots.{is_open, misfit, settled, of_length, opened_at, slot_at, spelled_slot, IsSlot}
use Rattle.kt_super.specs.Faults.{Fronts, IsBodyFault, IsFaultBehind, IsSlotFault}
use Rattle.kt_super.proofs.ColumnParts.{both}
use Rattle.kt_super.proofs.BodyParts.{body_number, body_takes, body_again, body_fault}

-- ---- counts

-- no more files than bytes
files_few : (files : List FileRef) → length files ≤ length (flat_map spelled_file files)
files_few [] = omega arith
files_few (f ∷ files) = omega (arith, files_few files, ap length (flat_map-cons spelled_file f files), length-append (spelled_file f) (flat_map spelled_file files), length-append (to_le_bytes w64 f.file) (to_le_bytes w64 f.len))

counted_few : (files : List FileRef) → length files ≤ length (spelled_files files)
counted_few files = omega (arith, files_few files, length-append (to_le_bytes w32 (length files)) (flat_map spelled_file files))

rowset_few : (r : MetaRowset) → length r.undo + length r.redo + 1 ≤ length (spelled_rowset r)
rowset_few r =
    let a : List ℕ = spelled_files r.undo ++ spelled_files r.redo in
    let b : List ℕ = spelled_file r.base ++ a in
    let c : List ℕ = to_le_bytes w64 r.last_dms ++ b in
    let head : 8 ≤ length (to_le_bytes w64 r.rowset) = omega arith in
    omega (arith, head, counted_few r.undo, counted_few r.redo, length-append (spelled_files r.undo) (spelled_files r.redo), length-append (spelled_file r.base) a, length-append (to_le_bytes w64 r.last_dms) b, length-append (to_le_bytes w64 r.rowset) c)

rowsets_few : (rowsets : List MetaRowset) → length (flat_map spelled_rowset rowsets) < 2 ^ 32 → (length rowsets ≤ length (flat_map spelled_rowset rowsets)) × FilesCount rowsets
rowsets_few [] few = (omega arith, tt)
rowsets_few (r ∷ rowsets) few =
    let parts : length (flat_map spelled_rowset (r ∷ rowsets)) ≡ length (spelled_rowset r) + length (flat_map spelled_rowset rowsets) = ap length (flat_map-cons spelled_rowset r rowsets) ∙ length-append (spelled_rowset r) (flat_map spelled_rowset rowsets) in
    let more = rowsets_few rowsets (omega (arith, parts, few)) in
    let one = rowset_few r in
    (omega (arith, more.0, one, parts), (omega (arith, one, parts, few), omega (arith, one, parts, few), more.1))

-- lists whose spelling has a length that can be said have counts that can be said
pub stands_in : (m : Meta) → IsMeta m → length (spelled_body m) < 2 ^ 32 → StandsIn (slot_for m.number) m
stands_in m is few =
    let rows : length (flat_map spelled_rowset m.rowsets) < 2 ^ 32 = omega (arith, few, length-append (spelled_head (head_of m)) (spelled_columns m.schema ++ spelled_rowsets m.rowsets), length-append (spelled_columns m.schema) (spelled_rowsets m.rowsets), length-append (to_le_bytes w32 (length m.rowsets)) (flat_map spelled_rowset m.rowsets)) in
    let counts = rowsets_few m.rowsets rows in
    record { rules = is; slot_is = refl; rowsets = omega (arith, counts.0, rows); files = counts.1 }

-- ---- what a slot tells

pub number_slot : (slot n : ℕ) → is_number slot n ≡ true → slot_for n ≡ slot
number_slot slot n e = eqb-true (slot_for n) slot (both (leb 1 n && is_small n) (eqb (slot_for n) slot) e).1

settled_some : (there : Bool) (end size slot : ℕ) (bytes : List ℕ) (m : Meta) (read : Result (Meta × List ℕ) ℕ) → body_at slot bytes ≡ read → settled there end size read ≡ Ok (Some m) → slot_for m.number ≡ slot
settled_some there end size slot bytes m (Ok x) is e = pick (there && eqb (length x.1) 0) e
  where
    pick : (b : Bool) → cond b (Ok (Some x.0)) (Err (misfit there end)) ≡ Ok (Some m) → slot_for m.number ≡ slot
    pick true f =
        let same : x.0 ≡ m = cc in
        subst (λ (k : Meta). slot_for k.number ≡ slot) same (number_slot slot x.0.number (body_number slot bytes x is))
    pick false f = absurd cc
settled_some there end size slot bytes m (Err zero) is e = absurd cc
settled_some there end size slot bytes m (Err (suc left)) is e = absurd cc

opened_fits : (slot : ℕ) (bytes : List ℕ) (m : Meta) → opened_at slot bytes ≡ Ok (Some m) → slot_for m.number ≡ slot
opened_fits slot bytes m e = pick (ltb (length bytes) 5) e
  where
    rest : List ℕ
    rest = drop 5 bytes

    len : ℕ
    len = from_le_bytes w32 (take 4 (drop 1 bytes))

    pick : (b : Bool) → cond b (Err (length bytes)) (of_length slot len rest) ≡ Ok (Some m) → slot_for m.number ≡ slot
    pick true f = absurd cc
    pick false f = settled_some (leb len (length rest)) (5 + length rest) (length (take len rest)) slot (take len rest) m (body_at slot (take len rest)) refl f

-- what a slot tells has a number that fits it
pub slot_fits : (slot : ℕ) (bytes : List ℕ) (m : Meta) → slot_at slot bytes ≡ Ok (Some m) → slot_for m.number ≡ slot
slot_fits slot bytes m e = pick (is_open bytes) e
  where
    pick : (b : Bool) → cond b (opened_at slot bytes) (Ok None) ≡ Ok (Some m) → slot_for m.number ≡ slot
    pick true f = opened_fits slot bytes m f
    pick false f = absurd cc

-- an open gate and the spelling of a superblock tell it, whatever is behind
pub slot_again : (slot : ℕ) (m : Meta) (more : List ℕ) → IsMeta m → slot ≡ slot_for m.number → IsBytes (spelled_body m) → length (spelled_body m) < 2 ^ 32 → slot_at slot (1 ∷ (spelled_slot m ++ more)) ≡ Ok (Some m)
slot_again slot m more is here fits few =
    let body : List ℕ = spelled_body m in
    let len : List ℕ = to_le_bytes w32 (length body) in
    let stands : StandsIn slot m = subst (λ (k : ℕ). StandsIn k m) (sym here) (stands_in m is few) in
    let parts : spelled_slot m ++ more ≡ len ++ (body ++ more) = append_assoc len body more in
    let length_is : from_le_bytes w32 (take 4 (len ++ (body ++ more))) ≡ length body = ap (λ (l : List ℕ). from_le_bytes w32 l) (take_at len (body ++ more) 4 refl) ∙ wide32.again (length body) few in
    let rest_is : drop 4 (len ++ (body ++ more)) ≡ body ++ more = drop_at len (body ++ more) 4 refl in
    let front : take (length body) (body ++ more) ≡ body = take_at body more (length body) refl in
    let read : body_at slot body ≡ Ok (m, []) = ap (λ (l : List ℕ). body_at slot l) (sym (append-nil body)) ∙ body_again slot m [] stands fits in
    let there : leb (length body) (length (body ++ more)) ≡ true = le-leb (length body) (length (body ++ more)) (omega (arith, length-append body more)) in
    let long : ltb (length (1 ∷ (len ++ (body ++ more)))) 5 ≡ false = le-ltb _ _ (omega (arith, length-append len (body ++ more))) in
    let of_body : of_length slot (length body) (body ++ more) ≡ Ok (Some m) = rw (front, read, there) refl in
    ap (λ (l : List ℕ). slot_at slot (1 ∷ l)) parts
    ∙ ap (λ (b : Bool). cond b (Err (length (1 ∷ (len ++ (body ++ more))))) (of_length slot (from_le_bytes w32 (take 4 (len ++ (body ++ more)))) (drop 4 (len ++ (body ++ more))))) long
    ∙ ap (λ (n : ℕ). of_length slot n (drop 4 (len ++ (body ++ more)))) length_is
    ∙ ap (λ (l : List ℕ). of_length slot (length body) l) rest_is
    ∙ of_body

-- ---- where a slot is at fault

-- some number stands in each slot
some_number : (slot : ℕ) → IsSlot slot → (n : ℕ) × (is_number slot n ≡ true)
some_number slot (inl one) = (1, subst (λ (s : ℕ). is_number s 1 ≡ true) (sym one) refl)
some_number slot (inr two) = (2, subst (λ (s : ℕ). is_number s 2 ≡ true) (sym two) refl)

read_err : (x : Meta × List ℕ) (left : ℕ) (r : Result (Meta × List ℕ) ℕ) → r ≡ Ok x → r ≡ Err left → ⊥
read_err x left r p q = absurd cc

and_cases : (a b : Bool) → (a && b) ≡ false → (a ≡ false) ⊎ (b ≡ false)
and_cases true b e = inr e
and_cases false b e = inl refl

module _ (slot : ℕ) (is : IsSlot slot) (len left : ℕ) (body : List ℕ) (fits : IsBytes body) where
  abbrev Fault : ℕ → Type 0
  Fault place = IsBodyFault slot len left body place

  abbrev Told : Result (Meta × List ℕ) ℕ → ℕ → Type 0
  Told r place = settled (leb len left) (5 + left) (length body) r ≡ Err place

  -- a superblock in front of the body is read
  not_in_front : (k : ℕ) → body_at slot body ≡ Err k → (more : List ℕ) → ¬ Fronts slot body more
  not_in_front k e more f =
      let fits_front = bytes_front (spelled_body f.0) more (subst IsBytes f.2 fits) in
      read_err (f.0, more) k (body_at slot body) (ap (body_at slot) f.2 ∙ body_again slot f.0 more f.1 fits_front) e

  of_read : (place : ℕ) (x : Meta × List ℕ) → body_at slot body ≡ Ok x → Told (Ok x) place → Fault place
  of_read place x read e = pick (leb len left && eqb (length x.1) 0) refl e
    where
      t : (body ≡ spelled_body x.0 ++ x.1) × StandsIn slot x.0
      t = body_takes slot body x fits read

      why : (leb len left && eqb (length x.1) 0) ≡ false → (0 < length x.1) ⊎ (left < len)
      why un = elim (and_cases (leb len left) (eqb (length x.1) 0) un) [
        | inl short ↦ inr (omega (arith, leb-false len left short))
        | inr more ↦ inl (omega (arith, eqb-false (length x.1) 0 more))
      ]

      pick : (b : Bool) → (leb len left && eqb (length x.1) 0) ≡ b → cond b (Ok (Some x.0)) (Err (misfit (leb len left) (5 + left))) ≡ Err place → Fault place
      pick true g f = absurd cc
      pick false g f = let at : misfit (leb len left) (5 + left) ≡ place = cc in inl (inr (x.1, (x.0, t.1, t.0), why g), sym at)

  of_fault : (place k : ℕ) → body_at slot body ≡ Err k → Told (Err k) place → Fault place
  of_fault place zero read e =
      let some = some_number slot is in
      let f = body_fault slot some.0 some.1 body 0 fits read in
      let at : misfit (leb len left) (5 + left) ≡ place = cc in
      let whole : length body - 0 ≡ length body = omega arith in
      inl (inl (subst (IsFault (Spelled slot) body) whole f.fault), sym at)
  of_fault place (suc k) read e =
      let some = some_number slot is in
      let f = body_fault slot some.0 some.1 body (suc k) fits read in
      let at : 5 + (length body - suc k) ≡ place = cc in
      inr (record { offset = length body - suc k; fault = f.fault; within = omega (arith, f.within); alone = not_in_front (suc k) read; at = sym at })

  -- the place that a body tells is its first fault
  pub body_place : (place : ℕ) → Told (body_at slot body) place → Fault place
  body_place place e = told (body_at slot body) refl e
    where
      told : (r : Result (Meta × List ℕ) ℕ) → body_at slot body ≡ r → Told r place → Fault place
      told (Ok x) read f = of_read place x read f
      told (Err k) read f = of_fault place k read f

-- the place that a slot tells is its first fault
pub slot_place : (slot : ℕ) (bytes : List ℕ) (place : ℕ) → IsSlot slot → IsBytes bytes → slot_at slot bytes ≡ Err place → IsSlotFault slot bytes place
slot_place slot bytes place is fits e = pick (is_open bytes) refl e
  where
    rest : List ℕ
    rest = drop 5 bytes

    len : ℕ
    len = from_le_bytes w32 (take 4 (drop 1 bytes))

    long : (b : Bool) → ltb (length bytes) 5 ≡ b → cond b (Err (length bytes)) (of_length slot len rest) ≡ Err place
        → ((length bytes < 5) × (place ≡ length bytes)) ⊎ ((5 ≤ length bytes) × IsFaultBehind slot (from_le_bytes w32 (take 4 (drop 1 bytes))) (drop 5 bytes) place)
    long true g f = inl (ltb-true (length bytes) 5 g, cc)
    long false g f = inr (ltb-false (length bytes) 5 g, body_place slot is len (length rest) (take len rest) (IsBytes-take len rest (IsBytes-drop 5 bytes fits)) place f)

    pick : (b : Bool) → is_open bytes ≡ b → cond b (opened_at slot bytes) (Ok None) ≡ Err place → IsSlotFault slot bytes place
    pick true g f = (g, long (ltb (length bytes) 5) refl f)
    pick false g f = absurd cc

-- ---- a body that was read

-- so many bytes are read as there are, or as the length says
pub read_is : (len left n : ℕ) (rest into items body : List ℕ) → body ≡ take n (into ++ drop (length into) items) → into ≡ take (length items) rest → length items ≡ n → n ≡ min len left → left ≡ length rest → body ≡ take len rest
read_is len left n rest into items body is read size least all =
    let here : length into ≡ n = omega (arith, ap (λ (l : List ℕ). length l) read, length-take (length items) rest, size, least, all) in
    let few : take n rest ≡ take len rest = elim (cases_lt len (length rest)) [
      | inl lt ↦ ap (λ (k : ℕ). take k rest) (omega (arith, least, all, lt))
      | inr le ↦ take_all n rest (omega (arith, least, all, le)) ∙ sym (take_all len rest le)
    ] in
    is ∙ take_at into (drop (length into) items) n here ∙ read ∙ ap (λ (k : ℕ). take k rest) size ∙ few

-- what was read tells what stands in the slot
pub read_told : (slot len left : ℕ) (rest body : List ℕ) → body ≡ take len rest → left ≡ length rest → of_length slot len rest ≡ settled (leb len left) (5 + left) (length body) (body_at slot body)
read_told slot len left rest body body_is left_is =
    sym (ap (λ (k : ℕ). settled (leb len k) (5 + k) (length body) (body_at slot body)) left_is ∙ ap (λ (b : List ℕ). settled (leb len (length rest)) (5 + length rest) (length b) (body_at slot b)) body_is)

-- what was read is at fault as what stands in the slot is
pub read_place : (slot len left : ℕ) (rest body : List ℕ) (place : ℕ) → IsSlot slot → IsBytes body → body ≡ take len rest → left ≡ length rest → settled (leb len left) (5 + left) (length body) (body_at slot body) ≡ Err place → IsFaultBehind slot len rest place
read_place slot len left rest body place is fits body_is left_is e =
    subst (λ (b : List ℕ). IsBodyFault slot len (length rest) b place) body_is (subst (λ (k : ℕ). IsBodyFault slot len k body place) left_is (body_place slot is len left body fits place e))

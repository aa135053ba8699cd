-- Keys that rise, block by block.
use Rattle.std.proofs.Common.{◌≡◌, ◌≤◌, ◌<◌, ◌+◌, ◌-◌, ◌*◌, ◌/◌, inr, ℕ, zero, suc, List, [], ◌∷◌, ◌++◌, length, map, take, drop, get_or, min, refl, sym, ap, ◌∙◌, subst, arith, append_assoc, length-append, length-take, lit≤}
use Rattle.std.specs.Prelude.{Option, None, Some}
use Rattle.std.specs.List.{All, AllByRecursion}
use Rattle.std.proofs.lemmas.List.{length-drop, length-map, map-append, take-append-drop, nil_from_length}
use Rattle.std.proofs.lemmas.List.Elements.{recursion_from_All}
use Rattle.std.specs.Int.{w32, to_le_bytes}
use Rattle.std.specs.Ordering.{nat_cmp}
use Rattle.std.specs.Cmp.Lexicographic.{slice_cmp}
use Rattle.std.specs.declared.cmp.Ordering.TheVariants.{Less}
use Rattle.kt_base.specs.declared.cell.Cell.{Cell}
use Rattle.kt_base.specs.declared.cell.Cell.TheVariants.{Null, Int, Bool as Bit_, Bytes}
use Rattle.kt_plain.specs.declared.widths.Width.TheVariants as widths
use Rattle.kt_plain.specs.declared.items.Items.TheVariants.{Texts}
use Rattle.kt_front.specs.Order.{Rise, BeginsWith, IsFall, NoneFalls}
use Rattle.kt_front.proofs.Falls.{rise_back, rise_append, last_is, no_fall, fall_place}
use Rattle.kt_column.specs.declared.errors.CodecNo.{CodecNo}
use Rattle.kt_column.specs.declared.errors.CodecNo.TheVariants as answers
use Rattle.kt_column.specs.declared.form.Form.TheVariants.{Keys}
use Rattle.kt_column.specs.declared.form.Encoding.{Encoding}
use Rattle.kt_column.specs.declared.form.Encoding.TheVariants.{Prefix}
use Rattle.kt_column.specs.Forms.{limit}
use Rattle.kt_column.specs.Values.{IsEncoded}
use Rattle.kt_column.specs.Blocks.{IsCell, SpellsBlock, texts_in}
use Rattle.kt_column.specs.Faults.{IsHead, IsFound, IsRefusal}
use Rattle.kt_column.specs.Columns.{ColumnValue, block_count, SpellsBlocks, SpellsColumn, AreFull, IsColumnFound, shifted}
use Rattle.kt_column.specs.Keys.{AreKeys, AreRising, last_key, IsKeyFall, NoKeyFalls, IsNextFault, IsRisingFault, IsRisingRefusal}
use Rattle.kt_column.proofs.HeldValues.{text_at}
use Rattle.kt_column.proofs.Heads.{block_head, same_rests}
use Rattle.kt_column.proofs.Progress.{Progress}

-- ---- cells of keys

keys_each : (cs : List Cell) → AllByRecursion (IsCell Keys) cs → AreKeys cs
keys_each [] h = refl
keys_each (Null ∷ cs) h = absurd (let no = h.0 in cc)
keys_each (Int z ∷ cs) h = elim h.0.1 [ ]
keys_each (Bit_ b ∷ cs) h = absurd (let no = h.0 in cc)
keys_each (Bytes t ∷ cs) h = ap (λ r. Bytes t ∷ r) (keys_each cs h.1)

are_keys : (cs : List Cell) → All (IsCell Keys) cs → AreKeys cs
are_keys cs all = keys_each cs (recursion_from_All (IsCell Keys) cs all)

pub texts_append : (cs ds : List Cell) → texts_in (cs ++ ds) ≡ texts_in cs ++ texts_in ds
texts_append [] ds = refl
texts_append (Null ∷ cs) ds = texts_append cs ds
texts_append (Int z ∷ cs) ds = texts_append cs ds
texts_append (Bit_ b ∷ cs) ds = texts_append cs ds
texts_append (Bytes t ∷ cs) ds = ap (λ r. t ∷ r) (texts_append cs ds)

keys_append : (cs ds : List Cell) → AreKeys cs → AreKeys ds → AreKeys (cs ++ ds)
keys_append cs ds p q =
    ap (λ l. l ++ ds) p ∙ (ap (λ l. map Bytes (texts_in cs) ++ l) q ∙ (sym (map-append Bytes (texts_in cs) (texts_in ds)) ∙ ap (map Bytes) (sym (texts_append cs ds))))

count_keys : (cs : List Cell) → AreKeys cs → length (texts_in cs) ≡ length cs
count_keys cs h = sym (length-map (texts_in cs) Bytes) ∙ sym (ap length h)

short_each : (cs : List Cell) → AllByRecursion (IsCell Keys) cs → AllByRecursion (λ t. length t ≤ limit Keys) (texts_in cs)
short_each [] h = tt
short_each (Null ∷ cs) h = absurd (let no = h.0 in cc)
short_each (Int z ∷ cs) h = elim h.0.1 [ ]
short_each (Bit_ b ∷ cs) h = absurd (let no = h.0 in cc)
short_each (Bytes t ∷ cs) h = (h.0.1, short_each cs h.1)

blocks_keys : (k : ℕ) (cs : List Cell) (bytes : List ℕ) → SpellsBlocks Keys k cs bytes → length cs ≤ 8192 * k → AreKeys cs
blocks_keys zero cs bytes s le = let none : cs ≡ [] = nil_from_length cs (omega arith) in subst AreKeys (sym none) refl
blocks_keys (suc k) cs bytes s le =
    let front = are_keys (take 8192 cs) s.3.cells.each in
    let behind = blocks_keys k (drop 8192 cs) s.1 s.4 (omega (arith, length-drop 8192 cs)) in
    subst AreKeys (take-append-drop 8192 cs) (keys_append (take 8192 cs) (drop 8192 cs) front behind)

pub column_keys : (rows used : ℕ) (bytes : List ℕ) (cs : List Cell) → IsColumnFound Keys rows bytes cs used → AreKeys cs
column_keys rows used bytes cs f = blocks_keys (block_count (length cs)) cs (take used bytes) f.spelled (omega arith)

-- the last key of some
pub last_cell : (cs : List Cell) → AreKeys cs → 0 < length cs → get_or cs (length cs - 1) Null ≡ Bytes (get_or (texts_in cs) (length cs - 1) [])
last_cell cs h some =
    let count = count_keys cs h in
    ap (λ l. get_or l (length cs - 1) Null) h ∙ sym (text_at (texts_in cs) (length cs - 1) (omega arith))

pub last_text : (cs : List Cell) (key : List ℕ) → AreKeys cs → 0 < length cs → Bytes key ≡ get_or cs (length cs - 1) Null → Some key ≡ last_key cs
last_text cs key h some e =
    let count = count_keys cs h in
    let is : key ≡ get_or (texts_in cs) (length cs - 1) [] = one_key key (get_or (texts_in cs) (length cs - 1) []) (e ∙ last_cell cs h some) in
    ap (λ k. Some k) (is ∙ ap (λ n. get_or (texts_in cs) (n - 1) []) (sym count)) ∙ sym (last_is None (texts_in cs) (omega arith))
  where
    one_key : (a b : List ℕ) → Bytes a ≡ Bytes b → a ≡ b
    one_key a b e = cc

pub no_key : (cs : List Cell) → length cs ≡ 0 → None ≡ last_key cs
no_key cs none = let is : cs ≡ [] = nil_from_length cs none in subst (λ ds. None ≡ last_key ds) (sym is) refl

-- ---- a block

-- what a block of keys begins with, behind its first fields
record Begins (bytes : List ℕ) (cs : List Cell) : Type 0 where
  pub len : ℕ
  pub rest : List ℕ
  pub head : IsHead Keys bytes Prefix len rest
  pub keys : BeginsWith (limit Keys) rest (texts_in cs)
  pub count : length (texts_in cs) ≡ length cs

block_begins : (cs : List Cell) (front rest bytes : List ℕ) → SpellsBlock Keys cs front → bytes ≡ front ++ rest → Begins bytes cs
block_begins cs front rest bytes b is =
    let e : b.block.encoding ≡ Prefix = b.block.shortest.stands.0 in
    let encoded : IsEncoded widths.Bytes Prefix (Texts (texts_in cs)) b.block.values = subst (λ x. IsEncoded widths.Bytes x (Texts (texts_in cs)) b.block.values) e b.block.shortest.stands.1 in
    record {
      len = length b.block.values;
      rest = b.block.values ++ rest;
      head = subst (λ x. IsHead Keys bytes x (length b.block.values) (b.block.values ++ rest)) e (block_head Keys cs front rest bytes b is);
      keys = record {
        fits = record { each = short_each cs (recursion_from_All (IsCell Keys) cs b.cells.each) };
        rest = rest;
        parts = ap (λ v. v ++ rest) encoded.1;
      };
      count = count_keys cs (are_keys cs b.cells.each);
    }

-- the keys of a block that was read rise
pub block_rises : (n len : ℕ) (before : Option (List ℕ)) (bytes : List ℕ) (cs : List Cell) → NoKeyFalls n before bytes → IsFound Keys n bytes cs len → Rise before (texts_in cs)
block_rises n len before bytes cs none f =
    let b = block_begins cs (take len bytes) (drop len bytes) bytes f.spelled (sym (take-append-drop len bytes)) in
    none b.len b.rest b.head (texts_in cs) (omega (arith, b.count, f.counted)) b.keys

-- a block whose keys rise has none that falls
pub block_falls : (n at : ℕ) (before : Option (List ℕ)) (bytes front rest : List ℕ) (cs : List Cell) → IsKeyFall n before bytes at → SpellsBlock Keys cs front → length cs ≡ n → bytes ≡ front ++ rest → Rise before (texts_in cs) → ⊥
block_falls n at before bytes front rest cs f s count is rise =
    let b = block_begins cs front rest bytes s is in
    let same : b.rest ≡ f.rest = (same_rests Keys bytes Prefix Prefix b.len f.len b.rest f.rest b.head f.front).1 in
    no_fall (limit Keys) n before f.rest f.behind (texts_in cs) (lit≤ tt) (subst (λ r. BeginsWith (limit Keys) r (texts_in cs)) same b.keys) (b.count ∙ count) rise f.fall

pub fall_within : (n at : ℕ) (before : Option (List ℕ)) (bytes : List ℕ) → IsKeyFall n before bytes at → at ≤ length bytes
fall_within n at before bytes f =
    let four : length (to_le_bytes w32 f.len) ≡ 4 = refl in
    let whole : length bytes ≡ 5 + length f.rest = ap length f.front.parts ∙ omega (arith, length-append (to_le_bytes w32 f.len) f.rest, four) in
    omega (arith, f.place, fall_place (limit Keys) n before f.rest f.behind f.fall)

-- no head, and a head
pub no_head : (n : ℕ) (before : Option (List ℕ)) (bytes : List ℕ) → ((len : ℕ) (rest : List ℕ) → IsHead Keys bytes Prefix len rest → ⊥) → NoKeyFalls n before bytes
no_head n before bytes none len rest h = absurd (none len rest h)

pub head_rises : (n len : ℕ) (e : Encoding) (before : Option (List ℕ)) (bytes rest : List ℕ) → IsHead Keys bytes e len rest → NoneFalls (limit Keys) n before rest → NoKeyFalls n before bytes
head_rises n len e before bytes rest h none k tail other = subst (NoneFalls (limit Keys) n before) (same_rests Keys bytes e Prefix len k rest tail h other).1 none

pub head_falls : (n len at : ℕ) (e : Encoding) (before : Option (List ℕ)) (bytes rest : List ℕ) → IsHead Keys bytes e len rest → IsFall (limit Keys) n before rest at → IsKeyFall n before bytes (5 + at)
head_falls n len at e before bytes rest h f = record { len = len; rest = rest; front = subst (λ x. IsHead Keys bytes x len rest) h.open_ h; behind = at; fall = f; place = refl }

-- ---- a column

-- one block more
pub rises_more : (n len : ℕ) (part : List ℕ) (read cs : List Cell) → AreRising read → NoKeyFalls n (last_key read) part → IsFound Keys n part cs len → AreRising (read ++ cs)
rises_more n len part read cs rise none f = subst (Rise None) (sym (texts_append read cs)) (rise_append None (texts_in read) (texts_in cs) rise (block_rises n len (last_key read) part cs none f))

rise_fore : (before : Option (List ℕ)) (xs ys : List (List ℕ)) → Rise before (xs ++ ys) → Rise before xs
rise_fore before [] ys rise = tt
rise_fore before (x ∷ xs) ys rise = (rise.0, rise_fore (Some x) xs ys rise.1)

-- the first of the keys behind others rise from the last of those
pub later_rises : (cs later : List Cell) (m : ℕ) → AreRising (cs ++ later) → Rise (last_key cs) (texts_in (take m later))
later_rises cs later m rise =
    let behind : Rise (last_key cs) (texts_in later) = rise_back None (texts_in cs) (texts_in later) (subst (Rise None) (texts_append cs later) rise) in
    let split : texts_in later ≡ texts_in (take m later) ++ texts_in (drop m later) = ap texts_in (sym (take-append-drop m later)) ∙ texts_append (take m later) (drop m later) in
    rise_fore (last_key cs) (texts_in (take m later)) (texts_in (drop m later)) (subst (Rise (last_key cs)) split behind)

-- where a key falls no such column stands
pub fall_only : (rows used n at : ℕ) (bytes part : List ℕ) (column : ColumnValue) → Progress Keys rows bytes column used → length column.cells < rows → n ≡ min (rows - length column.cells) 8192 → part ≡ drop used bytes → IsKeyFall n (last_key column.cells) part at
    → (cs : List Cell) (front rest : List ℕ) → SpellsColumn Keys cs front → length cs ≡ rows → AreRising cs → bytes ≡ front ++ rest → ⊥
fall_only rows used n at bytes part column p lt is part-is fall cs front rest s all rise whole =
    let r = p.only cs front rest s all whole in
    let left : length r.later ≡ rows - length column.cells = (let parts = ap length r.cells in omega (arith, parts, all, length-append column.cells r.later)) in
    let count : suc (block_count (length (drop 8192 r.later))) ≡ block_count (length r.later) = omega (arith, left, lt, length-drop 8192 r.later) in
    let b : SpellsBlocks Keys (suc (block_count (length (drop 8192 r.later)))) r.later r.more = subst (λ i. SpellsBlocks Keys i r.later r.more) (sym count) r.spelled in
    let next_rise = later_rises column.cells r.later 8192 (subst AreRising r.cells rise) in
    block_falls n at (last_key column.cells) part b.0 (b.1 ++ rest) (take 8192 r.later) fall b.3 (omega (arith, is, left, length-take 8192 r.later)) (part-is ∙ r.bytes ∙ ap (λ l. l ++ rest) b.2 ∙ append_assoc b.0 b.1 rest) next_rise

-- the next block is at fault
pub next_fault : (rows used n at : ℕ) (bytes part : List ℕ) (column : ColumnValue) → Progress Keys rows bytes column used → AreRising column.cells → length column.cells < rows → n ≡ min (rows - length column.cells) 8192 → part ≡ drop used bytes → IsNextFault n (last_key column.cells) part at → IsRisingFault rows bytes (used + at)
next_fault rows used n at bytes part column p rise lt is part-is why =
    let r : IsNextFault n (last_key column.cells) (drop used bytes) at = subst (λ l. IsNextFault n (last_key column.cells) l at) part-is why in
    let full : AreFull column.cells = p.full lt in
    let whole : length column.cells ≡ 8192 * (length column.cells / 8192) = omega (arith, full) in
    record {
      blocks = length column.cells / 8192;
      more = omega (arith, whole, lt);
      cells = column.cells;
      used = used;
      found = subst (λ k. IsColumnFound Keys k bytes column.cells used) whole p.found;
      rise = rise;
      at = at;
      next = subst (λ k. IsNextFault (min (rows - k) 8192) (last_key column.cells) (drop used bytes) at) whole (subst (λ k. IsNextFault k (last_key column.cells) (drop used bytes) at) is r);
      place = refl;
    }

pub next_refused : (rows used n : ℕ) (bytes part : List ℕ) (column : ColumnValue) (refusal : CodecNo) → Progress Keys rows bytes column used → AreRising column.cells → length column.cells < rows → n ≡ min (rows - length column.cells) 8192 → part ≡ drop used bytes → NoKeyFalls n (last_key column.cells) part → IsRefusal Keys n part refusal → IsRisingRefusal rows bytes (shifted used refusal)
next_refused rows used n bytes part column answers.Memory p rise lt is part-is none why = tt
next_refused rows used n bytes part column (answers.Place at) p rise lt is part-is none why = next_fault rows used n at bytes part column p rise lt is part-is (inr (none, why))

-- ---- each key and the next

rise_next : (before : Option (List ℕ)) (ts : List (List ℕ)) → Rise before ts → (k : ℕ) → k + 1 < length ts → slice_cmp nat_cmp (get_or ts k []) (get_or ts (k + 1) []) ≡ Less
rise_next before [] rise k lt = absurd (omega arith)
rise_next before (t ∷ []) rise k lt = absurd (omega arith)
rise_next before (t ∷ u ∷ ts) rise zero lt = rise.1.0
rise_next before (t ∷ u ∷ ts) rise (suc k) lt =
    let at : suc k + 1 ≡ suc (k + 1) = omega arith in
    rw at (rise_next (Some t) (u ∷ ts) rise.1 k (omega arith))

pub rising_next : (cs : List Cell) → AreRising cs → (k : ℕ) → k + 1 < length (texts_in cs) → slice_cmp nat_cmp (get_or (texts_in cs) k []) (get_or (texts_in cs) (k + 1) []) ≡ Less
rising_next cs rise = rise_next None (texts_in cs) rise

rise_from : (t : List ℕ) (ts : List (List ℕ)) → ((k : ℕ) → k + 1 < length (t ∷ ts) → slice_cmp nat_cmp (get_or (t ∷ ts) k []) (get_or (t ∷ ts) (k + 1) []) ≡ Less) → Rise (Some t) ts
rise_from t [] next = tt
rise_from t (u ∷ ts) next = (next 0 (omega arith), rise_from u ts (λ k lt. let at : suc k + 1 ≡ suc (k + 1) = omega arith in rw at at (next (suc k) (omega arith))))

pub texts_again : (ts : List (List ℕ)) → texts_in (map Bytes ts) ≡ ts
texts_again [] = refl
texts_again (t ∷ ts) = ap (λ r. t ∷ r) (texts_again ts)

pub rising_of : (ts : List (List ℕ)) → ((k : ℕ) → k + 1 < length ts → slice_cmp nat_cmp (get_or ts k []) (get_or ts (k + 1) []) ≡ Less) → AreRising (map Bytes ts)
rising_of ts next = subst (Rise None) (sym (texts_again ts)) (from ts next)
  where
    from : (ts : List (List ℕ)) → ((k : ℕ) → k + 1 < length ts → slice_cmp nat_cmp (get_or ts k []) (get_or ts (k + 1) []) ≡ Less) → Rise None ts
    from [] next = tt
    from (t ∷ ts) next = (tt, rise_from t ts next)

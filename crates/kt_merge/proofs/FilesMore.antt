-- Files and keys with those of one row more.
use Rattle.std.proofs.Common.{◌≡◌, ◌≤◌, ◌<◌, ◌+◌, ◌-◌, ◌^◌, ℕ, zero, suc, Bool, true, false, not, ◌&&◌, ◌||◌, List, [], ◌∷◌, ◌++◌, length, length-append, get_or, append_assoc, Option, Some, None, refl, sym, ap, ◌∙◌, subst, arith}
use Rattle.std.specs.Prelude.{◌==◌, nat_lt, nat_le}
use Rattle.std.specs.List.{AllByRecursion}
use Rattle.std.specs.declared.cmp.Ordering.TheVariants.{Less}
use Rattle.std.proofs.lemmas.Bool.{lt-ltb, le-leb, ne_eqb}
use Rattle.std.proofs.lemmas.List.{append-nil}
use Rattle.kt_cells.specs.Rules.{EachAfter}
use Rattle.kt_history.specs.declared.change.Change.TheVariants.{Del}
use Rattle.kt_history.specs.declared.changes.Delta.{Delta}
use Rattle.kt_history.specs.Rows.{key_cmp}
use Rattle.kt_history.specs.Views.{AreRising}
use Rattle.kt_lookup.specs.Index.{Rises}
use Rattle.kt_deltafile.specs.declared.file.Way.{Way}
use Rattle.kt_deltafile.specs.declared.file.Way.TheVariants.{Redo, Undo}
use Rattle.kt_deltafile.specs.Order.{in_order, ordinal_at, ts_at, last_ordinal, last_ts, may_follow}
use Rattle.kt_deltafile.specs.Rules.{ChangeFits, FileFits, Follows, IsFile}
use Rattle.kt_merge.specs.Fitting.{AreFalling}
use Rattle.kt_merge.specs.Told.{deletes_of, AreOfRows}
use Rattle.kt_merge.proofs.ToldRows.{AllOf}

-- ---- keys

all_at : (P : List ℕ → Type 0) (keys : List (List ℕ)) (i : ℕ) → AllByRecursion P keys → i < length keys → P (get_or keys i [])
all_at P [] i h low = absurd (omega arith)
all_at P (k ∷ keys) zero h low = h.0
all_at P (k ∷ keys) (suc i) h low = all_at P keys i h.1 (omega arith)

-- keys that rise do so at any two places
pub rises_of : (keys : List (List ℕ)) → AreRising keys → Rises keys
rises_of [] rise i j lt low = absurd (omega arith)
rises_of (k ∷ keys) rise i zero lt low = absurd (omega arith)
rises_of (k ∷ keys) rise zero (suc j) lt low = all_at (λ (other : List ℕ). key_cmp k other ≡ Less) keys j rise.0 (omega arith)
rises_of (k ∷ keys) rise (suc i) (suc j) lt low = rises_of keys rise.1 i j (omega arith) (omega arith)

all_more : (P : List ℕ → Type 0) (keys : List (List ℕ)) (key : List ℕ) → AllByRecursion P keys → P key → AllByRecursion P (keys ++ key ∷ [])
all_more P [] key h own = (own, tt)
all_more P (k ∷ keys) key h own = (h.0, all_more P keys key h.1 own)

-- and with one above them
pub rising_more : (keys : List (List ℕ)) (key : List ℕ) → AreRising keys → AllByRecursion (λ (k : List ℕ). key_cmp k key ≡ Less) keys → AreRising (keys ++ key ∷ [])
rising_more [] key rise above = (tt, tt)
rising_more (k ∷ keys) key rise above = (all_more (λ (other : List ℕ). key_cmp k other ≡ Less) keys key rise.0 above.0, rising_more keys key rise.1 above.1)

-- ---- records that stand behind others

pub each_append : (P : List Delta → Delta → Type 0) (front xs ys : List Delta) → EachAfter P front xs → EachAfter P (front ++ xs) ys → EachAfter P front (xs ++ ys)
each_append P front [] ys e f = subst (λ (l : List Delta). EachAfter P l ys) (append-nil front) f
each_append P front (x ∷ xs) ys e f = (e.0, each_append P (front ++ x ∷ []) xs ys e.1 (subst (λ (l : List Delta). EachAfter P l ys) (sym (append_assoc front (x ∷ []) xs)) f))

both : (a b : Bool) → a ≡ true → b ≡ true → (a && b) ≡ true
both a b p q = ap (λ (x : Bool). x && b) p ∙ q

-- the first record of a row behind those of earlier rows
ordinal_low : (m : ℕ) (xs : List Delta) (i : ℕ) → AreOfRows m xs → i < length xs → ordinal_at xs i < m
ordinal_low m [] i h low = absurd (omega arith)
ordinal_low m (d ∷ xs) zero h low = h.0
ordinal_low m (d ∷ xs) (suc i) h low = ordinal_low m xs i h.1 (omega arith)

last_low : (m : ℕ) (xs : List Delta) → AreOfRows m xs → last_ordinal xs ≤ m
last_low m [] h = omega arith
last_low m (d ∷ xs) h = let low = ordinal_low m (d ∷ xs) (length (d ∷ xs) - 1) h (omega arith) in omega (arith, low)

or_later : (a b : Bool) → b ≡ true → (a || b) ≡ true
or_later true b e = refl
or_later false b e = e

first_order : (way : Way) (m : ℕ) (xs : List Delta) (ts : ℕ) → AreOfRows m xs → may_follow way xs m ts ≡ true
first_order way m [] ts h = refl
first_order way m (d ∷ xs) ts h =
    let low = ordinal_low m (d ∷ xs) (length (d ∷ xs) - 1) h (omega arith) in
    or_later (length (d ∷ xs) == 0) (not (last_ordinal (d ∷ xs) == m) || in_order way (last_ts (d ∷ xs)) ts)
    (ap (λ (b : Bool). not b || in_order way (last_ts (d ∷ xs)) ts) (ne_eqb (last_ordinal (d ∷ xs)) m (λ e. absurd (omega (arith, low, e)))))

follows_first : (way : Way) (m : ℕ) (xs : List Delta) (d : Delta) → AreOfRows m xs → d.ordinal ≡ m → m < 2 ^ 32 → d.ts < 2 ^ 64 → ChangeFits way d.change → Follows way (2 ^ 32) xs d
follows_first way m xs d h own few in_time fits = record {
  comes = both (nat_le (last_ordinal xs) d.ordinal) (nat_lt d.ordinal (2 ^ 32)) (le-leb (last_ordinal xs) d.ordinal (omega (arith, last_low m xs h, own))) (lt-ltb d.ordinal (2 ^ 32) (omega (arith, own, few)));
  ordinal = omega (arith, own, few);
  order = ap (λ (n : ℕ). may_follow way xs n d.ts) own ∙ first_order way m xs d.ts h;
  ts = in_time;
  change = fits;
}

-- and the next ones behind it
ordinal_last : (front : List Delta) (last : Delta) → ordinal_at (front ++ last ∷ []) (length front) ≡ last.ordinal
ordinal_last [] last = refl
ordinal_last (d ∷ front) last = ordinal_last front last

ts_last : (front : List Delta) (last : Delta) → ts_at (front ++ last ∷ []) (length front) ≡ last.ts
ts_last [] last = refl
ts_last (d ∷ front) last = ts_last front last

last_at : (front : List Delta) (last : Delta) → length (front ++ last ∷ []) - 1 ≡ length front
last_at front last = let n = length-append front (last ∷ []) in omega (arith, n)

last_or : (a b : Bool) → b ≡ true → (not a || b) ≡ true
last_or true b e = e
last_or false b e = refl

follows_next : (front : List Delta) (last d : Delta) → d.ordinal ≡ last.ordinal → d.ordinal < 2 ^ 32 → d.ts < last.ts → d.ts < 2 ^ 64 → ChangeFits Undo d.change → Follows Undo (2 ^ 32) (front ++ last ∷ []) d
follows_next front last d own few below in_time fits =
    let list = front ++ last ∷ [] in
    let ordinal : last_ordinal list ≡ last.ordinal = ap (ordinal_at list) (last_at front last) ∙ ordinal_last front last in
    let time : last_ts list ≡ last.ts = ap (ts_at list) (last_at front last) ∙ ts_last front last in
    record {
      comes = both (nat_le (last_ordinal list) d.ordinal) (nat_lt d.ordinal (2 ^ 32)) (le-leb (last_ordinal list) d.ordinal (omega (arith, ordinal, own))) (lt-ltb d.ordinal (2 ^ 32) few);
      ordinal = few;
      order = or_later (length list == 0) (not (last_ordinal list == d.ordinal) || nat_lt d.ts (last_ts list)) (last_or (last_ordinal list == d.ordinal) (nat_lt d.ts (last_ts list)) (lt-ltb d.ts (last_ts list) (omega (arith, time, below))));
      ts = in_time;
      change = fits;
    }

each_next : (m : ℕ) (front : List Delta) (last : Delta) (own : List Delta) → last.ordinal ≡ m → m < 2 ^ 32 → AllOf m own → AreFalling (Some last.ts) own → EachAfter (Follows Undo (2 ^ 32)) (front ++ last ∷ []) own
each_next m front last [] is few all falls = tt
each_next m front last (d ∷ own) is few all falls = (
  follows_next front last d (all.0 ∙ sym is) (omega (arith, all.0, few)) falls.0 falls.1 falls.2,
  each_next m (front ++ last ∷ []) d own all.0 few all.1 falls.3,
)

each_own : (m : ℕ) (front own : List Delta) → AreOfRows m front → m < 2 ^ 32 → AllOf m own → AreFalling None own → EachAfter (Follows Undo (2 ^ 32)) front own
each_own m front [] low few all falls = tt
each_own m front (d ∷ own) low few all falls = (follows_first Undo m front d low all.0 few falls.1 falls.2, each_next m front d own all.0 few all.1 falls.3)

-- an UNDO file with the records of one row more, and a REDO file with its delete
pub undo_more : (m : ℕ) (undos own : List Delta) → IsFile Undo undos → AreOfRows m undos → m < 2 ^ 32 → AllOf m own → AreFalling None own → length undos + length own < 2 ^ 32 → IsFile Undo (undos ++ own)
undo_more m undos own file low few all falls room = record {
  count = (let n = length-append undos own in omega (arith, n, room));
  each = each_append (Follows Undo (2 ^ 32)) [] undos own file.each (each_own m undos own low few all falls);
}

pub redo_more : (m : ℕ) (redos : List Delta) (deleted : Option ℕ) → IsFile Redo redos → AreOfRows m redos → m < 2 ^ 32 → ((ts : ℕ) → deleted ≡ Some ts → ts < 2 ^ 64) → length redos + 1 < 2 ^ 32 → IsFile Redo (redos ++ deletes_of m deleted)
redo_more m redos None file low few in_time room = subst (IsFile Redo) (sym (append-nil redos)) file
redo_more m redos (Some ts) file low few in_time room =
    let d : Delta = record { ordinal = m; ts = ts; change = Del } in
    record {
      count = (let n = length-append redos (d ∷ []) in omega (arith, n, room));
      each = each_append (Follows Redo (2 ^ 32)) [] redos (d ∷ []) file.each (follows_first Redo m redos d low refl few (in_time ts refl) tt, tt);
    }

-- ---- files over their own rows

both_left : (a b : Bool) → (a && b) ≡ true → a ≡ true
both_left true b e = refl
both_left false b e = e

each_over : (way : Way) (n : ℕ) (front list : List Delta) → AreOfRows n list → EachAfter (Follows way (2 ^ 32)) front list → EachAfter (Follows way n) front list
each_over way n front [] own each = tt
each_over way n front (d ∷ list) own each = (
  record {
    comes = both (nat_le (last_ordinal front) d.ordinal) (nat_lt d.ordinal n) (both_left (nat_le (last_ordinal front) d.ordinal) (nat_lt d.ordinal (2 ^ 32)) each.0.comes) (lt-ltb d.ordinal n own.0);
    ordinal = each.0.ordinal;
    order = each.0.order;
    ts = each.0.ts;
    change = each.0.change;
  },
  each_over way n (front ++ d ∷ []) list own.1 each.1,
)

-- records of so many rows, which can be a file, are one over so many rows
pub file_over : (way : Way) (n : ℕ) (list : List Delta) → IsFile way list → AreOfRows n list → FileFits way n list
file_over way n list file own = record { count = file.count; each = each_over way n [] list own file.each }

each_under : (way : Way) (n : ℕ) (front list : List Delta) → EachAfter (Follows way n) front list → EachAfter (Follows way (2 ^ 32)) front list
each_under way n front [] each = tt
each_under way n front (d ∷ list) each = (
  record {
    comes = both (nat_le (last_ordinal front) d.ordinal) (nat_lt d.ordinal (2 ^ 32)) (both_left (nat_le (last_ordinal front) d.ordinal) (nat_lt d.ordinal n) each.0.comes) (lt-ltb d.ordinal (2 ^ 32) each.0.ordinal);
    ordinal = each.0.ordinal;
    order = each.0.order;
    ts = each.0.ts;
    change = each.0.change;
  },
  each_under way n (front ++ d ∷ []) list each.1,
)

-- and a file over so many rows is one over any number
pub file_under : (way : Way) (n : ℕ) (list : List Delta) → FileFits way n list → IsFile way list
file_under way n list file = record { count = file.count; each = each_under way n [] list file.each }

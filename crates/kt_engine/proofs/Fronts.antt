-- The past of a front of the records is that of all of them up to the front's last write.
use Rattle.std.proofs.Common.{◌≡◌, ℕ, ◌-◌, ◌<◌, ◌≤◌, max, List, [], ◌∷◌, ◌++◌, refl, true, ap, ◌∙◌, arith}
use Rattle.std.specs.Prelude.{nat_le}
use Rattle.std.specs.List.{filter}
use Rattle.std.proofs.lemmas.List.{append-nil}
use Rattle.std.proofs.lemmas.List.Elements.{filter-append}
use Rattle.std.proofs.lemmas.Bool.{and_parts}
use Rattle.kt_history.specs.Rows.{Row, Changes}
use Rattle.kt_history.specs.History.{Past, PastWrite, IsUpTo, IsPastUpTo, rows_at, with_write}
use Rattle.kt_history.specs.Operations.{changes_on}
use Rattle.kt_records.specs.declared.entry.Entry.{Entry}
use Rattle.kt_records.specs.declared.entry.Entry.TheVariants.{Replicate, Commit}
use Rattle.kt_loglaws.specs.Replay.{last_of}
use Rattle.kt_loglaws.specs.Laws.{with_ops}
use Rattle.kt_loglaws.specs.Fronts.{with_records, upto}
use Rattle.kt_content.specs.Places.{Super}
use Rattle.kt_content.specs.Records.{AllTold}
use Rattle.kt_content.specs.Recovering.{low_after}
use Rattle.kt_content.proofs.Keeping.{with_records-append}
use Rattle.kt_engine.proofs.Raised.{not_le}

-- each of these writes is above those before it, of which low is the last
abbrev pub Climb : ℕ → List Entry → Type 0
Climb low [] = Unit {0}
Climb low (Replicate ts ops ∷ run) = (low < ts) × Climb ts run
Climb low (Commit ts rows ∷ run) = Climb low run

pub told_climbs : (fill : Row) (super : Super) (low : ℕ) (log run : List Entry) → AllTold fill super low log run → Climb low run
told_climbs fill super low log [] told = tt
told_climbs fill super low log (Replicate ts ops ∷ run) told = (told.0, told_climbs fill super ts (log ++ Replicate ts ops ∷ []) run told.3)
told_climbs fill super low log (Commit ts rows ∷ run) told = told_climbs fill super low (log ++ Commit ts rows ∷ []) run told.1

climb_front : (low : ℕ) (xs ys : List Entry) → Climb low (xs ++ ys) → Climb low xs
climb_front low [] ys h = tt
climb_front low (Replicate ts ops ∷ xs) ys h = (h.0, climb_front ts xs ys h.1)
climb_front low (Commit ts rows ∷ xs) ys h = climb_front low xs ys h

climb_behind : (low : ℕ) (xs ys : List Entry) → Climb low (xs ++ ys) → Climb (low_after low xs) ys
climb_behind low [] ys h = h
climb_behind low (Replicate ts ops ∷ xs) ys h = climb_behind ts xs ys h.1
climb_behind low (Commit ts rows ∷ xs) ys h = climb_behind low xs ys h

-- the last write of such records is their greatest
climb_last : (low : ℕ) (run : List Entry) → Climb low run → (low ≤ low_after low run) × (last_of run ≤ low_after low run)
climb_last low [] h = (omega arith, omega arith)
climb_last low (Replicate ts ops ∷ run) h = let rest = climb_last ts run h.1 in (omega (arith, h.0, rest.0), omega (arith, rest.0, rest.1))
climb_last low (Commit ts rows ∷ run) h = climb_last low run h

pub last_of-append : (xs ys : List Entry) → last_of (xs ++ ys) ≡ max (last_of xs) (last_of ys)
last_of-append [] ys = omega arith
last_of-append (Replicate t o ∷ xs) ys = let ih = last_of-append xs ys in omega arith
last_of-append (Commit t rows ∷ xs) ys = last_of-append xs ys

-- it is at or below what bounds them and what was before
pub low_below : (low c : ℕ) (run : List Entry) → low ≤ c → last_of run ≤ c → low_after low run ≤ c
low_below low c [] le last = le
low_below low c (Replicate ts ops ∷ run) le last = low_below ts c run (omega arith) (omega arith)
low_below low c (Commit ts rows ∷ run) le last = low_below low c run le last

-- a write above t is not among those up to t
upto_write : (past : Past) (ts : ℕ) (changes : Changes) (t : ℕ) → t < ts → upto t (with_write past ts changes) ≡ upto t past
upto_write past ts [] t lt = refl
upto_write past ts (x ∷ changes) t lt =
    let w : PastWrite = record { ts = ts; changes = x ∷ changes } in
    let none : filter (λ (v : PastWrite). nat_le v.ts t) (w ∷ []) ≡ [] = rw (not_le ts t lt) refl in
    ap (λ (ws : List PastWrite). record past { writes = ws }) (filter-append (λ (v : PastWrite). nat_le v.ts t) past.writes (w ∷ []) ∙ ap (λ (l : List PastWrite). filter (λ (v : PastWrite). nat_le v.ts t) past.writes ++ l) none ∙ append-nil (filter (λ (v : PastWrite). nat_le v.ts t) past.writes))

upto_records : (fill : Row) (past : Past) (t low : ℕ) (run : List Entry) → t ≤ low → Climb low run → upto t (with_records fill past run) ≡ upto t past
upto_records fill past t low [] le c = refl
upto_records fill past t low (Replicate ts ops ∷ run) le c =
    upto_records fill (with_ops fill past ts ops) t ts run (omega (arith, c.0)) c.1 ∙ upto_write past ts (changes_on fill (rows_at past (ts - 1)) ops) t (omega (arith, c.0))
upto_records fill past t low (Commit ts rows ∷ run) le c = upto_records fill past t low run le c

kept : (t : ℕ) (ws : List PastWrite) → IsUpTo t ws → filter (λ (w : PastWrite). nat_le w.ts t) ws ≡ ws
kept t [] h = refl
kept t (w ∷ ws) h = let e : nat_le w.ts t ≡ true = (and_parts _ _ h).0 in rw e (ap (λ l. w ∷ l) (kept t ws (and_parts _ _ h).1))

pub upto_end : (t : ℕ) (past : Past) → IsPastUpTo t past → upto t past ≡ past
upto_end t past ends = ap (λ (ws : List PastWrite). record past { writes = ws }) (kept t past.writes ends.writes)

module _ (fill : Row) (past : Past) (low : ℕ) (front rest : List Entry) (climbs : Climb low (front ++ rest)) where
  pub upto_front : IsPastUpTo (low_after low front) (with_records fill past front) → upto (low_after low front) (with_records fill past (front ++ rest)) ≡ with_records fill past front
  upto_front ends =
      ap (upto (low_after low front)) (with_records-append fill past front rest)
      ∙ upto_records fill (with_records fill past front) (low_after low front) (low_after low front) rest (omega arith) (climb_behind low front rest climbs)
      ∙ upto_end (low_after low front) (with_records fill past front) ends

  -- its last write is above all that was before, and is the last of all records where those before go up to low
  pub front_last : (records : List Entry) → last_of records ≤ low → (low ≤ low_after low front) × (last_of (records ++ front) ≤ low_after low front)
  front_last records le = let up = climb_last low front (climb_front low front rest climbs) in (up.0, omega (arith, up.0, up.1, last_of-append records front))

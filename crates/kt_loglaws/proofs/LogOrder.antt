-- What the order of a log tells of the records before a REPLICATE.
use Rattle.std.proofs.Common.{◌≡◌, ℕ, ◌<◌, List, [], ◌∷◌, ◌++◌, Some, None, Option, refl, true, false, cond, ap, ◌∙◌, arith, max, ◌≤◌}
use Rattle.std.specs.Prelude.{◌==◌, nat_lt, length}
use Rattle.std.proofs.lemmas.Bool.Decides.{nat_tests}
use Rattle.kt_history.specs.declared.operation.RowOp.{RowOp}
use Rattle.kt_records.specs.declared.entry.Entry.{Entry}
use Rattle.kt_records.specs.declared.entry.Entry.TheVariants.{Replicate, Commit}
use Rattle.kt_records.specs.declared.entry.CommitRow.{CommitRow}
use Rattle.kt_journal.specs.Order.{last_ts, waiting, is_above, is_count, InOrder}
use Rattle.kt_loglaws.specs.Replay.{commit_of, last_of}

pub differs : (a b : ℕ) → a < b → (a == b) ≡ false
differs a b h = grind (arith, nat_tests)

pub differs_down : (a b : ℕ) → a < b → (b == a) ≡ false
differs_down a b h = grind (arith, nat_tests)

pub same : (a : ℕ) → (a == a) ≡ true
same a = grind (arith, nat_tests)

pub from_test : (a b : ℕ) → nat_lt a b ≡ true → a < b
from_test a b h = grind (arith, nat_tests)

above_through : (last : Option ℕ) (t ts : ℕ) → is_above last t ≡ true → t < ts → is_above last ts ≡ true
above_through None t ts h lt = refl
above_through (Some last) t ts h lt = let up = from_test last t h in grind (arith, nat_tests)

-- a REPLICATE is above the last timestamp before it
pub is_above_all : (before xs : List Entry) (ts : ℕ) (ops : List RowOp) (ys : List Entry) → InOrder before (xs ++ Replicate ts ops ∷ ys) → is_above (last_ts before) ts ≡ true
is_above_all before [] ts ops ys h = h.1
is_above_all before (Replicate t o ∷ xs) ts ops ys h = above_through (last_ts before) t ts h.1 (from_test t ts (is_above_all (Replicate t o ∷ before) xs ts ops ys h.2))
is_above_all before (Commit t rows ∷ xs) ts ops ys h = is_above_all (Commit t rows ∷ before) xs ts ops ys h.2

-- of two REPLICATEs the first has the lower timestamp
pub is_later : (before : List Entry) (t : ℕ) (o : List RowOp) (xs : List Entry) (ts : ℕ) (ops : List RowOp) (ys : List Entry) → InOrder before (Replicate t o ∷ (xs ++ Replicate ts ops ∷ ys)) → t < ts
is_later before t o xs ts ops ys h = from_test t ts (is_above_all (Replicate t o ∷ before) xs ts ops ys h.2)

pub equal : (a b : ℕ) → (a == b) ≡ true → a ≡ b
equal a b e = grind (arith, nat_tests)

none_counts : (o : Option ℕ) (n : ℕ) → o ≡ None → is_count o n ≡ true → ⊥
none_counts None n e h = cc
none_counts (Some k) n e h = cc

not_waiting : (t ts : ℕ) (before : List Entry) (rows : List CommitRow) → waiting ts before ≡ None → t ≡ ts → is_count (waiting t before) (length rows) ≡ true → ⊥
not_waiting t ts before rows w e h = none_counts (waiting t before) (length rows) (ap (λ x. waiting x before) e ∙ w) h

-- no COMMIT of a write stands before its REPLICATE
pub no_commit_yet : (before xs : List Entry) (ts : ℕ) (ops : List RowOp) (ys : List Entry) → waiting ts before ≡ None → InOrder before (xs ++ Replicate ts ops ∷ ys) → commit_of ts xs ≡ None
no_commit_yet before [] ts ops ys w h = refl
no_commit_yet before (Replicate t o ∷ xs) ts ops ys w h =
    no_commit_yet (Replicate t o ∷ before) xs ts ops ys (rw (differs t ts (is_later before t o xs ts ops ys h)) w) h.2
no_commit_yet before (Commit t rows ∷ xs) ts ops ys w h =
    elim (t == ts) as (λ b. (t == ts) ≡ b → cond b (Some rows) (commit_of ts xs) ≡ None) [
      | true ↦ λ e. absurd (not_waiting t ts before rows w (equal t ts e) h.1)
      | false ↦ λ e. no_commit_yet (Commit t rows ∷ before) xs ts ops ys (rw e w) h.2
    ] refl

-- the last timestamp of a log that ends with a write and its COMMIT, or with a write
pub last_of-ends : (before xs : List Entry) (ts : ℕ) (ops : List RowOp) (ys : List Entry) → last_of ys ≡ 0 → InOrder before (xs ++ Replicate ts ops ∷ ys) → last_of (xs ++ Replicate ts ops ∷ ys) ≡ ts
last_of-ends before [] ts ops ys e h = omega arith
last_of-ends before (Replicate t o ∷ xs) ts ops ys e h =
    let lt = is_later before t o xs ts ops ys h in
    let ih = last_of-ends (Replicate t o ∷ before) xs ts ops ys e h.2 in
    omega arith
last_of-ends before (Commit t rows ∷ xs) ts ops ys e h = last_of-ends (Commit t rows ∷ before) xs ts ops ys e h.2

-- the COMMIT of another write, in a longer log
pub commit_of-append : (ts : ℕ) (xs ys : List Entry) → commit_of ts ys ≡ None → commit_of ts (xs ++ ys) ≡ commit_of ts xs
commit_of-append ts [] ys h = h
commit_of-append ts (Replicate t o ∷ xs) ys h = commit_of-append ts xs ys h
commit_of-append ts (Commit t rows ∷ xs) ys h = ap (λ x. cond (t == ts) (Some rows) x) (commit_of-append ts xs ys h)

-- a COMMIT that stands after the others
pub commit_of-after : (ts : ℕ) (xs ys : List Entry) → commit_of ts xs ≡ None → commit_of ts (xs ++ ys) ≡ commit_of ts ys
commit_of-after ts [] ys h = refl
commit_of-after ts (Replicate t o ∷ xs) ys h = commit_of-after ts xs ys h
commit_of-after ts (Commit t rows ∷ xs) ys h =
    elim (t == ts) as (λ b. cond b (Some rows) (commit_of ts xs) ≡ None → cond b (Some rows) (commit_of ts (xs ++ ys)) ≡ commit_of ts ys) [
      | true ↦ λ e. cc
      | false ↦ λ e. commit_of-after ts xs ys e
    ] h

-- no REPLICATE of this timestamp is among these records
abbrev pub Lacks : ℕ → List Entry → Type 0
Lacks ts [] = Unit {0}
Lacks ts (Replicate t ops ∷ records) = ((t == ts) ≡ false) × Lacks ts records
Lacks ts (Commit t rows ∷ records) = Lacks ts records

-- each REPLICATE among these records is above this timestamp
abbrev pub AllAbove : ℕ → List Entry → Type 0
AllAbove ts [] = Unit {0}
AllAbove ts (Replicate t ops ∷ records) = (ts < t) × AllAbove ts records
AllAbove ts (Commit t rows ∷ records) = AllAbove ts records

above_lack : (ts : ℕ) (records : List Entry) → AllAbove ts records → Lacks ts records
above_lack ts [] h = tt
above_lack ts (Replicate t ops ∷ records) h = (differs_down ts t h.0, above_lack ts records h.1)
above_lack ts (Commit t rows ∷ records) h = above_lack ts records h

-- the records before a REPLICATE lack another of its timestamp
pub lacks_before : (before xs : List Entry) (ts : ℕ) (ops : List RowOp) (ys : List Entry) → InOrder before (xs ++ Replicate ts ops ∷ ys) → Lacks ts xs
lacks_before before [] ts ops ys h = tt
lacks_before before (Replicate t o ∷ xs) ts ops ys h = (differs t ts (is_later before t o xs ts ops ys h), lacks_before (Replicate t o ∷ before) xs ts ops ys h.2)
lacks_before before (Commit t rows ∷ xs) ts ops ys h = lacks_before (Commit t rows ∷ before) xs ts ops ys h.2

-- the newest timestamp is at least this one
abbrev AtLeast : ℕ → Option ℕ → Type 0
AtLeast ts None = ⊥
AtLeast ts (Some last) = ts ≤ last

above_through_last : (ts : ℕ) (last : Option ℕ) (t : ℕ) → AtLeast ts last → is_above last t ≡ true → ts < t
above_through_last ts None t least h = absurd least
above_through_last ts (Some last) t least h = let lt = from_test last t h in omega arith

above_from : (ts : ℕ) (before records : List Entry) → AtLeast ts (last_ts before) → InOrder before records → AllAbove ts records
above_from ts before [] least h = tt
above_from ts before (Replicate t o ∷ records) least h =
    let lt = above_through_last ts (last_ts before) t least h.1 in
    (lt, above_from ts (Replicate t o ∷ before) records (let le : ts ≤ t = omega arith in le) h.2)
above_from ts before (Commit t rows ∷ records) least h = above_from ts (Commit t rows ∷ before) records least h.2

-- the records behind a REPLICATE have timestamps above its own
pub above_behind : (before xs : List Entry) (ts : ℕ) (ops : List RowOp) (ys : List Entry) → InOrder before (xs ++ Replicate ts ops ∷ ys) → AllAbove ts ys
above_behind before [] ts ops ys h = above_from ts (Replicate ts ops ∷ before) ys (let le : ts ≤ ts = omega arith in le) h.2
above_behind before (Replicate t o ∷ xs) ts ops ys h = above_behind (Replicate t o ∷ before) xs ts ops ys h.2
above_behind before (Commit t rows ∷ xs) ts ops ys h = above_behind (Commit t rows ∷ before) xs ts ops ys h.2

-- what follows a REPLICATE is in order behind it
pub order_behind : (before xs : List Entry) (ts : ℕ) (ops : List RowOp) (ys : List Entry) → InOrder before (xs ++ Replicate ts ops ∷ ys) → (front : List Entry) × InOrder (Replicate ts ops ∷ front) ys
order_behind before [] ts ops ys h = (before, h.2)
order_behind before (Replicate t o ∷ xs) ts ops ys h = order_behind (Replicate t o ∷ before) xs ts ops ys h.2
order_behind before (Commit t rows ∷ xs) ts ops ys h = order_behind (Commit t rows ∷ before) xs ts ops ys h.2

-- a write that does not wait gets no COMMIT
none_after : (ts : ℕ) (before records : List Entry) → waiting ts before ≡ None → Lacks ts records → InOrder before records → commit_of ts records ≡ None
none_after ts before [] w lacks h = refl
none_after ts before (Replicate t o ∷ records) w lacks h = none_after ts (Replicate t o ∷ before) records (rw lacks.0 w) lacks.1 h.2
none_after ts before (Commit t rows ∷ records) w lacks h =
    elim (t == ts) as (λ b. (t == ts) ≡ b → cond b (Some rows) (commit_of ts records) ≡ None) [
      | true ↦ λ e. absurd (not_waiting t ts before rows w (equal t ts e) h.1)
      | false ↦ λ e. none_after ts (Commit t rows ∷ before) records (rw e w) lacks h.2
    ] refl

-- a COMMIT among the records is found
pub is_found : (ts : ℕ) (xs : List Entry) (rows : List CommitRow) (ys : List Entry) → commit_of ts (xs ++ Commit ts rows ∷ ys) ≡ None → ⊥
is_found ts [] rows ys h = let e : (ts == ts) ≡ true = same ts in let some : cond (ts == ts) (Some rows) (commit_of ts ys) ≡ Some rows = rw e refl in cc
is_found ts (Replicate t o ∷ xs) rows ys h = is_found ts xs rows ys h
is_found ts (Commit t r ∷ xs) rows ys h =
    elim (t == ts) as (λ b. cond b (Some r) (commit_of ts (xs ++ Commit ts rows ∷ ys)) ≡ None → ⊥) [
      | true ↦ λ e. cc
      | false ↦ λ e. is_found ts xs rows ys e
    ] h

-- a write has one COMMIT: none stands before it, and none behind
pub one_commit : (ts : ℕ) (before xs : List Entry) (rows : List CommitRow) (ys : List Entry) → Lacks ts (xs ++ Commit ts rows ∷ ys) → InOrder before (xs ++ Commit ts rows ∷ ys) → (commit_of ts xs ≡ None) × (commit_of ts ys ≡ None)
one_commit ts before [] rows ys lacks h = (refl, none_after ts (Commit ts rows ∷ before) ys (rw (same ts) refl) lacks h.2)
one_commit ts before (Replicate t o ∷ xs) rows ys lacks h = one_commit ts (Replicate t o ∷ before) xs rows ys lacks.1 h.2
one_commit ts before (Commit t r ∷ xs) rows ys lacks h =
    let rest = one_commit ts (Commit t r ∷ before) xs rows ys lacks h.2 in (
      elim (t == ts) as (λ b. (t == ts) ≡ b → cond b (Some r) (commit_of ts xs) ≡ None) [
        | true ↦ λ e. absurd (is_found ts xs rows ys (none_after ts (Commit t r ∷ before) (xs ++ Commit ts rows ∷ ys) (rw e refl) lacks h.2))
        | false ↦ λ e. rest.0
      ] refl,
      rest.1,
    )

-- two ends with the same COMMITs behind the same front
pub commit_of-alike : (t : ℕ) (xs a b : List Entry) → commit_of t a ≡ commit_of t b → commit_of t (xs ++ a) ≡ commit_of t (xs ++ b)
commit_of-alike t [] a b h = h
commit_of-alike t (Replicate u o ∷ xs) a b h = commit_of-alike t xs a b h
commit_of-alike t (Commit u rows ∷ xs) a b h = ap (λ x. cond (u == t) (Some rows) x) (commit_of-alike t xs a b h)

pub last_of-alike : (xs a b : List Entry) → last_of a ≡ last_of b → last_of (xs ++ a) ≡ last_of (xs ++ b)
last_of-alike [] a b h = h
last_of-alike (Replicate u o ∷ xs) a b h = ap (λ n. max u n) (last_of-alike xs a b h)
last_of-alike (Commit u rows ∷ xs) a b h = last_of-alike xs a b h

above_around : (ts : ℕ) (xs : List Entry) (rows : List CommitRow) (ys : List Entry) → AllAbove ts (xs ++ Commit ts rows ∷ ys) → AllAbove ts (xs ++ ys)
above_around ts [] rows ys h = h
above_around ts (Replicate t o ∷ xs) rows ys h = (h.0, above_around ts xs rows ys h.1)
above_around ts (Commit t r ∷ xs) rows ys h = above_around ts xs rows ys h

-- without the COMMIT of a write, the records around it lack the same
pub lacks_around : (ts : ℕ) (xs : List Entry) (rows : List CommitRow) (ys : List Entry) → AllAbove ts (xs ++ Commit ts rows ∷ ys) → AllAbove ts (xs ++ ys) × Lacks ts (xs ++ ys) × Lacks ts (xs ++ Commit ts rows ∷ ys)
lacks_around ts xs rows ys h = let around = above_around ts xs rows ys h in (around, above_lack ts (xs ++ ys) around, above_lack ts (xs ++ Commit ts rows ∷ ys) h)

-- What changes do to rows, and a new write to the rows at each time.
use Rattle.std.proofs.Common.{◌≡◌, ℕ, ◌<◌, ◌≤◌, List, [], ◌∷◌, ◌++◌, refl, true, false, Bool, ◌&&◌, cond, ap, ◌∙◌, arith}
use Rattle.std.specs.Prelude.{nat_le, nat_lt}
use Rattle.std.specs.List.{filter}
use Rattle.std.proofs.lemmas.Bool.{cases_lt}
use Rattle.std.proofs.Common.{inl, inr}
use Rattle.std.proofs.lemmas.Bool.Decides.{nat_tests}
use Rattle.std.proofs.Common.{Some, None, Option, T}
use Rattle.std.proofs.lemmas.Cmp.{nat_list_cmp_total}
use Rattle.std.specs.Prelude.{not}
use Rattle.std.specs.Ordering.{eq_by_cmp}
use Rattle.std.specs.FinMap.Entries.{find, is_sorted, is_sorted-put, is_sorted-where_key}
use Rattle.kt_history.specs.Rows.{Row, Rows, Changes, apply, set_row, changed, key_cmp}
use Rattle.kt_history.specs.History.{Past, PastWrite, IsPast, IsUpTo, Rise, replay, rows_at, raise, with_write}

pub replay-append : (t : ℕ) (ws vs : List PastWrite) (rows : Rows) → replay t (ws ++ vs) rows ≡ replay t vs (replay t ws rows)
replay-append t [] vs rows = refl
replay-append t (w ∷ ws) vs rows = replay-append t ws vs (cond (nat_le w.ts t) (changed w.changes rows) rows)

not_le : (a b : ℕ) → b < a → nat_le a b ≡ false
not_le a b h = grind (arith, nat_tests)

is_le : (a b : ℕ) → a ≤ b → nat_le a b ≡ true
is_le a b h = grind (arith, nat_tests)

is_lt : (a b : ℕ) → a < b → nat_lt a b ≡ true
is_lt a b h = grind (arith, nat_tests)

not_lt : (a b : ℕ) → b ≤ a → nat_lt a b ≡ false
not_lt a b h = grind (arith, nat_tests)

-- below its timestamp a new write shows nothing
pub rows_at-with_write_below : (past : Past) (ts : ℕ) (changes : Changes) (t : ℕ) → t < ts → rows_at (with_write past ts changes) t ≡ rows_at past t
rows_at-with_write_below past ts [] t h = refl
rows_at-with_write_below past ts (c ∷ changes) t h =
    replay-append t past.writes _ past.base ∙ ap (λ b. cond b (changed (c ∷ changes) (rows_at past t)) (rows_at past t)) (not_le ts t h)

-- from its timestamp on it shows its changes
pub rows_at-with_write_from : (past : Past) (ts : ℕ) (changes : Changes) (t : ℕ) → ts ≤ t → rows_at (with_write past ts changes) t ≡ changed changes (rows_at past t)
rows_at-with_write_from past ts [] t h = refl
rows_at-with_write_from past ts (c ∷ changes) t h =
    replay-append t past.writes _ past.base ∙ ap (λ b. cond b (changed (c ∷ changes) (rows_at past t)) (rows_at past t)) (is_le ts t h)

first_of_all : (a b : Bool) → (a && b) ≡ true → a ≡ true
first_of_all true b h = refl
first_of_all false b h = h

rest_of_all : (a b : Bool) → (a && b) ≡ true → b ≡ true
rest_of_all true b h = h
rest_of_all false b h = cc

le_from : (a b : ℕ) → nat_le a b ≡ true → a ≤ b
le_from a b h = grind (arith, nat_tests)

-- from the last write on the rows stay
pub replay_after_all : (u t : ℕ) (ws : List PastWrite) (rows : Rows) → IsUpTo u ws → u ≤ t → replay t ws rows ≡ replay u ws rows
replay_after_all u t [] rows h le = refl
replay_after_all u t (w ∷ ws) rows h le =
    let here = first_of_all _ _ h in
    let low : w.ts ≤ u = le_from w.ts u here in
    rw (is_le w.ts t (omega arith), here) (replay_after_all u t ws (changed w.changes rows) (rest_of_all _ _ h) le)

-- above a time, every write of a past that begins there
nothing_up_to : (low t : ℕ) (ws : List PastWrite) (rows : Rows) → Rise low ws → t ≤ low → replay t ws rows ≡ rows
nothing_up_to low t [] rows rise le = refl
nothing_up_to low t (w ∷ ws) rows rise le =
    let up : t < w.ts = omega (arith, rise.0) in
    rw (not_le w.ts t up) (nothing_up_to w.ts t ws rows rise.3 (omega arith))

all_above : (low mark : ℕ) (ws : List PastWrite) → Rise low ws → mark ≤ low → filter (λ w. nat_lt mark w.ts) ws ≡ ws
all_above low mark [] rise le = refl
all_above low mark (w ∷ ws) rise le =
    let up : mark < w.ts = omega (arith, rise.0) in
    rw (is_lt mark w.ts up) (ap (λ rest. w ∷ rest) (all_above w.ts mark ws rise.3 (omega arith)))

replay-raised : (low mark t : ℕ) (ws : List PastWrite) (rows : Rows) → Rise low ws → mark ≤ t → replay t (filter (λ w. nat_lt mark w.ts) ws) (replay mark ws rows) ≡ replay t ws rows
replay-raised low mark t [] rows rise le = refl
replay-raised low mark t (w ∷ ws) rows rise le = elim (cases_lt mark w.ts) [
  | inl up ↦ rw (is_lt mark w.ts up, not_le w.ts mark up, all_above w.ts mark ws rise.3 (omega arith), nothing_up_to w.ts mark ws rows rise.3 (omega arith)) refl
  | inr down ↦ rw (not_lt mark w.ts down, is_le w.ts mark down, is_le w.ts t (omega arith)) (replay-raised w.ts mark t ws (changed w.changes rows) rise.3 le)
]

-- told from a later mark on, a past has the same rows from there on
pub rows_at-raise : (past : Past) (mark t : ℕ) → IsPast past → mark ≤ t → rows_at (raise past mark) t ≡ rows_at past t
rows_at-raise past mark t is le = replay-raised past.mark mark t past.writes past.base is.writes le

-- rows by rising key stay so
sorted-set_row : (k : List ℕ) (o : Option Row) (rows : Rows) → T (is_sorted key_cmp rows) → T (is_sorted key_cmp (set_row k o rows))
sorted-set_row k None rows h = is_sorted-where_key key_cmp (λ other. not (eq_by_cmp key_cmp k other)) rows h
sorted-set_row k (Some row) rows h = is_sorted-put key_cmp nat_list_cmp_total k row rows h

sorted-changed : (changes : Changes) (rows : Rows) → T (is_sorted key_cmp rows) → T (is_sorted key_cmp (changed changes rows))
sorted-changed [] rows h = h
sorted-changed (c ∷ changes) rows h = sorted-changed changes _ (sorted-set_row c.0 (apply c.1 (find key_cmp c.0 rows)) rows h)

pub sorted-replay : (t : ℕ) (ws : List PastWrite) (rows : Rows) → T (is_sorted key_cmp rows) → T (is_sorted key_cmp (replay t ws rows))
sorted-replay t [] rows h = h
sorted-replay t (w ∷ ws) rows h = sorted-replay t ws _ (elim (nat_le w.ts t) as (λ b. T (is_sorted key_cmp (cond b (changed w.changes rows) rows))) [ true ↦ sorted-changed w.changes rows h | false ↦ h ])

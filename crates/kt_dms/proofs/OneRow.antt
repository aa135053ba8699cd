-- The changes of one row among all.
use Rattle.std.proofs.Common.{◌≡◌, ℕ, ◌<◌, ◌≤◌, ◌^◌, inl, inr, Bool, true, false, cond, List, [], ◌∷◌, map, length, Some, None, Option, refl, sym, ap, subst, ◌∙◌, arith}
use Rattle.std.specs.Prelude.{nat_lt, nat_le, ◌==◌, ◌&&◌, ◌||◌}
use Rattle.std.specs.List.{find, filter, AllByRecursion}
use Rattle.std.specs.Option.{option_map}
use Rattle.std.specs.Ordering.{is_lt}
use Rattle.std.proofs.lemmas.Bool.{false≢true}
use Rattle.byteorder.specs.Endian.{big_bytes}
use Rattle.kt_history.specs.Rows.{Row, apply}
use Rattle.kt_history.specs.Stores.{after_steps, apply_all, step_at}
use Rattle.kt_key.proofs.Numbers.{cases_cmp}
use Rattle.kt_pool.specs.Contents.{Contents, bytes_at}
use Rattle.kt_tree.specs.Entries.{Entry, AreAbove, IsRising, is_at, is_after, value_of}
use Rattle.kt_dms.specs.Keys.{key_of, ordinal_of, ts_of, IsKey}
use Rattle.kt_dms.specs.Changes.{change_in, SpellsChange}
use Rattle.kt_tree.specs.Trees as trees
use Rattle.kt_tree.specs.declared.tree.Pair.{Pair}
use Rattle.kt_tree.specs.declared.tree.Tree.{Tree}
use Rattle.kt_tree.proofs.Places.{bytes_some}
use Rattle.kt_dms.specs.Stores.{delta_at, steps_for, is_before, AreSorted, IsEntry, IsHeld}
use Rattle.kt_dms.specs.Walks.{placed_for, placed_if, is_behind, is_later, later, steps_at_places}
use Rattle.kt_dms.specs.declared.rows.Placed.{Placed}
use Rattle.kt_dms.proofs.KeyOrder.{is_key, ordinal_again, ts_again, lt_is, not_lt_is, eq_is, not_eq_is, le_is, not_le_is, key_lt, key_eq, below_rows, below_times, past_key, past_front}

-- ---- a search

pub find_same : (p q : Entry → Bool) (es : List Entry) → AllByRecursion (λ e. p e ≡ q e) es → find p es ≡ find q es
find_same p q [] h = refl
find_same p q (e ∷ es) h = ap (λ b. cond b (Some e) (find p es)) h.0 ∙ ap (λ r. cond (q e) (Some e) r) (find_same p q es h.1)

pub found_in : {X : Type 0} (P : X → Type 0) (f : X → Bool) (xs : List X) (x : X) → AllByRecursion P xs → find f xs ≡ Some x → P x
found_in P f [] x h e = absurd (let g : None ≡ Some x = e in cc)
found_in P f (y ∷ ys) x h e = by (f y) (λ g. found_in P f ys x h.1 g) e
  where
    by : (b : Bool) → (find f ys ≡ Some x → P x) → cond b (Some y) (find f ys) ≡ Some x → P x
    by true more g = let same : y ≡ x = cc in subst P same h.0
    by false more g = more g

none_left : {X : Type 0} (f : X → Bool) (xs : List X) → find f xs ≡ None → filter f xs ≡ []
none_left f [] e = refl
none_left f (x ∷ xs) e = by (f x) (λ g. none_left f xs g) e
  where
    by : (b : Bool) → (find f xs ≡ None → filter f xs ≡ []) → cond b (Some x) (find f xs) ≡ None → cond b (x ∷ filter f xs) (filter f xs) ≡ []
    by true more g = absurd (let k : Some x ≡ None = g in cc)
    by false more g = more g

all_kept : {X : Type 0} (f : X → Bool) (xs : List X) → AllByRecursion (λ x. f x ≡ true) xs → filter f xs ≡ xs
all_kept f [] h = refl
all_kept f (x ∷ xs) h = ap (λ b. cond b (x ∷ filter f xs) (filter f xs)) h.0 ∙ ap (λ ys. x ∷ ys) (all_kept f xs h.1)

each_of : {X : Type 0} (P Q : X → Type 0) (xs : List X) → ((x : X) → P x → Q x) → AllByRecursion P xs → AllByRecursion Q xs
each_of P Q [] f h = tt
each_of P Q (x ∷ xs) f h = (f x h.0, each_of P Q xs f h.1)

-- ---- the entries behind a key

module _ (pool : Contents) (o : ℕ) (small : o < 2 ^ 32) where
  pub behind_key : (t : ℕ) → t < 2 ^ 64 → (es : List Entry) → AllByRecursion (IsEntry pool) es → find (is_after (Some (key_of o t))) es ≡ find (is_behind o (Some t)) es
  behind_key t low es each = find_same (is_after (Some (key_of o t))) (is_behind o (Some t)) es (each_of (IsEntry pool) (λ e. is_after (Some (key_of o t)) e ≡ is_behind o (Some t) e) es (λ e h. past_key e.key o t h.key small low) each)

  pub behind_front : (es : List Entry) → AllByRecursion (IsEntry pool) es → find (is_after (Some (big_bytes 4 o))) es ≡ find (is_behind o None) es
  behind_front es each = find_same (is_after (Some (big_bytes 4 o))) (is_behind o None) es (each_of (IsEntry pool) (λ e. is_after (Some (big_bytes 4 o)) e ≡ is_behind o None e) es (λ e h. past_front e.key o h.key small) each)

-- ---- the changes of a row

-- the entry that a pair's places spell
abbrev pub read_entry : Contents → Pair → Entry
read_entry pool p = record { key = bytes_at pool p.key.cell; value = p.value.cell }

abbrev placed_of : Entry → Placed
placed_of e = record { ts = ts_of e.key; cell = e.value }

-- behind a later row there is none of this one
later_rows : (pool : Contents) (o : ℕ) (e : Entry) (es : List Entry) → IsKey e.key → o < ordinal_of e.key → AllByRecursion (IsEntry pool) es → AreAbove e.key es → placed_for o es ≡ []
later_rows pool o e [] k past each above = refl
later_rows pool o e (f ∷ es) k past each above =
    let low = below_rows e.key f.key k each.0.key above.0 in
    ap (λ b. cond b (placed_of f ∷ placed_for o es) (placed_for o es)) (not_eq_is (ordinal_of f.key) o (λ same. absurd (omega arith))) ∙ later_rows pool o e es k past each.1 above.1

-- the entry that a search finds has the first change that is later
pub next_is : (pool : Contents) (o : ℕ) (after : Option ℕ) (es : List Entry) → IsRising es → AllByRecursion (IsEntry pool) es → placed_if o (find (is_behind o after) es) ≡ find (is_later after) (placed_for o es)
next_is pool o after [] rise each = refl
next_is pool o after (e ∷ es) rise each = let more = next_is pool o after es rise.1 each.1 in
    elim (cases_cmp (ordinal_of e.key) o) [
      | inl less ↦
          ap (λ b. placed_if o (cond b (Some e) (find (is_behind o after) es))) (before_row after less)
          ∙ more
          ∙ sym (ap (λ b. find (is_later after) (cond b (placed_of e ∷ placed_for o es) (placed_for o es))) (not_eq_is (ordinal_of e.key) o (λ s. absurd (omega arith))))
      | inr rest ↦ elim rest [
        | inl same ↦
            ap (λ b. placed_if o (cond b (Some e) (find (is_behind o after) es))) (of_row after same)
            ∙ by (is_later after (placed_of e)) same more
            ∙ sym (ap (λ b. find (is_later after) (cond b (placed_of e ∷ placed_for o es) (placed_for o es))) (eq_is (ordinal_of e.key) o same))
        | inr past ↦
            ap (λ b. placed_if o (cond b (Some e) (find (is_behind o after) es))) (behind_row after past)
            ∙ ap (λ b. cond b (Some (placed_of e)) None) (not_eq_is (ordinal_of e.key) o (λ s. absurd (omega arith)))
            ∙ sym (ap (find (is_later after)) (later_rows pool o e es each.0.key past each.1 rise.0))
            ∙ sym (ap (λ b. find (is_later after) (cond b (placed_of e ∷ placed_for o es) (placed_for o es))) (not_eq_is (ordinal_of e.key) o (λ s. absurd (omega arith))))
      ]
    ]
  where
    before_row : (after : Option ℕ) → ordinal_of e.key < o → is_behind o after e ≡ false
    before_row None less = not_le_is o (ordinal_of e.key) less
    before_row (Some t) less = ap (λ b. b || ((o == ordinal_of e.key) && nat_lt t (ts_of e.key))) (not_lt_is o (ordinal_of e.key) (omega arith)) ∙ ap (λ b. b && nat_lt t (ts_of e.key)) (not_eq_is o (ordinal_of e.key) (λ s. absurd (omega arith)))

    of_row : (after : Option ℕ) → ordinal_of e.key ≡ o → is_behind o after e ≡ is_later after (placed_of e)
    of_row None same = le_is o (ordinal_of e.key) (omega arith)
    of_row (Some t) same = ap (λ b. b || ((o == ordinal_of e.key) && nat_lt t (ts_of e.key))) (not_lt_is o (ordinal_of e.key) (omega arith)) ∙ ap (λ b. b && nat_lt t (ts_of e.key)) (eq_is o (ordinal_of e.key) (sym same))

    behind_row : (after : Option ℕ) → o < ordinal_of e.key → is_behind o after e ≡ true
    behind_row None past = le_is o (ordinal_of e.key) (omega arith)
    behind_row (Some t) past = ap (λ b. b || ((o == ordinal_of e.key) && nat_lt t (ts_of e.key))) (lt_is o (ordinal_of e.key) past)

    by : (b : Bool) → ordinal_of e.key ≡ o → placed_if o (find (is_behind o after) es) ≡ find (is_later after) (placed_for o es) → placed_if o (cond b (Some e) (find (is_behind o after) es)) ≡ cond b (Some (placed_of e)) (find (is_later after) (placed_for o es))
    by true same more = ap (λ b. cond b (Some (placed_of e)) None) (eq_is (ordinal_of e.key) o same)
    by false same more = more

-- what holds of each change in its place
pub each_placed : (pool : Contents) (o : ℕ) (es : List Entry) → AllByRecursion (IsEntry pool) es → AllByRecursion (λ (p : Placed). SpellsChange (bytes_at pool p.cell)) (placed_for o es)
each_placed pool o [] each = tt
each_placed pool o (e ∷ es) each = by (ordinal_of e.key == o) (each_placed pool o es each.1)
  where
    by : (b : Bool) → AllByRecursion (λ (p : Placed). SpellsChange (bytes_at pool p.cell)) (placed_for o es) → AllByRecursion (λ (p : Placed). SpellsChange (bytes_at pool p.cell)) (cond b (placed_of e ∷ placed_for o es) (placed_for o es))
    by true more = (each.0.change, more)
    by false more = more

-- the changes of a row in their places are those that it has
pub steps_placed : (pool : Contents) (o : ℕ) (es : List Entry) → steps_for o (map (delta_at pool) es) ≡ steps_at_places pool (placed_for o es)
steps_placed pool o [] = refl
steps_placed pool o (e ∷ es) = by (ordinal_of e.key == o) (steps_placed pool o es)
  where
    by : (b : Bool) → steps_for o (map (delta_at pool) es) ≡ steps_at_places pool (placed_for o es)
        → cond b ((ts_of e.key, change_in (bytes_at pool e.value)) ∷ steps_for o (map (delta_at pool) es)) (steps_for o (map (delta_at pool) es)) ≡ steps_at_places pool (cond b (placed_of e ∷ placed_for o es) (placed_for o es))
    by true h = ap (λ xs. (ts_of e.key, change_in (bytes_at pool e.value)) ∷ xs) h
    by false h = h

-- ---- their timestamps rise

abbrev pub TimesRise : List Placed → Type 0
TimesRise [] = Unit {0}
TimesRise (p ∷ ps) = AllByRecursion (λ (q : Placed). p.ts < q.ts) ps × TimesRise ps

above_times : (pool : Contents) (o : ℕ) (e : Entry) (es : List Entry) → IsKey e.key → ordinal_of e.key ≡ o → AllByRecursion (IsEntry pool) es → AreAbove e.key es → AllByRecursion (λ (q : Placed). ts_of e.key < q.ts) (placed_for o es)
above_times pool o e [] k same each above = tt
above_times pool o e (f ∷ es) k same each above = let more = above_times pool o e es k same each.1 above.1 in
    elim (cases_cmp (ordinal_of f.key) o) [
      | inl less ↦ skip (λ s. absurd (omega arith)) more
      | inr rest ↦ elim rest [
        | inl is ↦ subst (λ b. AllByRecursion (λ (q : Placed). ts_of e.key < q.ts) (cond b (placed_of f ∷ placed_for o es) (placed_for o es))) (sym (eq_is (ordinal_of f.key) o is)) (below_times e.key f.key k each.0.key above.0 (same ∙ sym is), more)
        | inr past ↦ skip (λ s. absurd (omega arith)) more
      ]
    ]
  where
    skip : (ordinal_of f.key ≡ o → ⊥) → AllByRecursion (λ (q : Placed). ts_of e.key < q.ts) (placed_for o es) → AllByRecursion (λ (q : Placed). ts_of e.key < q.ts) (placed_for o (f ∷ es))
    skip ne more = subst (λ b. AllByRecursion (λ (q : Placed). ts_of e.key < q.ts) (cond b (placed_of f ∷ placed_for o es) (placed_for o es))) (sym (not_eq_is (ordinal_of f.key) o ne)) more

pub placed_rise : (pool : Contents) (o : ℕ) (es : List Entry) → IsRising es → AllByRecursion (IsEntry pool) es → TimesRise (placed_for o es)
placed_rise pool o [] rise each = tt
placed_rise pool o (e ∷ es) rise each = let more = placed_rise pool o es rise.1 each.1 in
    elim (cases_cmp (ordinal_of e.key) o) [
      | inl less ↦ skip (λ s. absurd (omega arith)) more
      | inr rest ↦ elim rest [
        | inl same ↦ subst (λ b. TimesRise (cond b (placed_of e ∷ placed_for o es) (placed_for o es))) (sym (eq_is (ordinal_of e.key) o same)) (above_times pool o e es each.0.key same each.1 rise.0, more)
        | inr past ↦ skip (λ s. absurd (omega arith)) more
      ]
    ]
  where
    skip : (ordinal_of e.key ≡ o → ⊥) → TimesRise (placed_for o es) → TimesRise (placed_for o (e ∷ es))
    skip ne more = subst (λ b. TimesRise (cond b (placed_of e ∷ placed_for o es) (placed_for o es))) (sym (not_eq_is (ordinal_of e.key) o ne)) more

-- ---- what is still to come

pub later_all : (ps : List Placed) → later None ps ≡ ps
later_all [] = refl
later_all (p ∷ ps) = ap (λ qs. p ∷ qs) (later_all ps)

pub later_none : (after : Option ℕ) (ps : List Placed) → find (is_later after) ps ≡ None → later after ps ≡ []
later_none after ps e = none_left (is_later after) ps e

later_on : (after : Option ℕ) (p q : Placed) → is_later after p ≡ true → p.ts < q.ts → is_later after q ≡ true
later_on None p q h low = refl
later_on (Some t) p q h low = elim (cases_cmp t q.ts) [
  | inl less ↦ lt_is t q.ts less
  | inr rest ↦ absurd (false≢true (sym (not_lt_is t p.ts (elim rest [ inl same ↦ omega arith | inr more ↦ omega arith ])) ∙ h))
]

pub later_next : (after : Option ℕ) (ps : List Placed) (p : Placed) → TimesRise ps → find (is_later after) ps ≡ Some p → later after ps ≡ p ∷ later (Some p.ts) ps
later_next after [] p rise e = absurd (let g : None ≡ Some p = e in cc)
later_next after (q ∷ qs) p rise e = by (is_later after q) refl e (λ g. later_next after qs p rise.1 g)
  where
    here : is_later after q ≡ true → later after qs ≡ later (Some q.ts) (q ∷ qs)
    here h =
        all_kept (is_later after) qs (each_of (λ (r : Placed). q.ts < r.ts) (λ r. is_later after r ≡ true) qs (λ r low. later_on after q r h low) rise.0)
        ∙ sym (all_kept (is_later (Some q.ts)) qs (each_of (λ (r : Placed). q.ts < r.ts) (λ r. is_later (Some q.ts) r ≡ true) qs (λ r low. lt_is q.ts r.ts low) rise.0))
        ∙ sym (ap (λ b. cond b (q ∷ later (Some q.ts) qs) (later (Some q.ts) qs)) (not_lt_is q.ts q.ts (omega arith)))

    by : (b : Bool) → is_later after q ≡ b → cond b (Some q) (find (is_later after) qs) ≡ Some p → (find (is_later after) qs ≡ Some p → later after qs ≡ p ∷ later (Some p.ts) qs) → cond b (q ∷ later after qs) (later after qs) ≡ p ∷ later (Some p.ts) (q ∷ qs)
    by true h g more = let same : q ≡ p = cc in ap (λ xs. q ∷ xs) (here h) ∙ ap (λ (r : Placed). r ∷ later (Some r.ts) (q ∷ qs)) same
    by false h g more =
        let low = found_in (λ (r : Placed). q.ts < r.ts) (is_later after) qs p rise.0 g in
        more g ∙ sym (ap (λ b. p ∷ cond b (q ∷ later (Some p.ts) qs) (later (Some p.ts) qs)) (not_lt_is p.ts q.ts (omega arith)))

-- each of them lies above the timestamp
pub later_above : (t : ℕ) (ps : List Placed) → AllByRecursion (λ (q : Placed). t < q.ts) (later (Some t) ps)
later_above t [] = tt
later_above t (p ∷ ps) = elim (cases_cmp t p.ts) [
  | inl less ↦ subst (λ b. AllByRecursion (λ (q : Placed). t < q.ts) (cond b (p ∷ later (Some t) ps) (later (Some t) ps))) (sym (lt_is t p.ts less)) (less, later_above t ps)
  | inr rest ↦ subst (λ b. AllByRecursion (λ (q : Placed). t < q.ts) (cond b (p ∷ later (Some t) ps) (later (Some t) ps))) (sym (not_lt_is t p.ts (elim rest [ inl same ↦ omega arith | inr more ↦ omega arith ]))) (later_above t ps)
]

-- changes above a time are not seen at it
pub after_late : (pool : Contents) (t : ℕ) (ps : List Placed) (row : Option Row) → AllByRecursion (λ (q : Placed). t < q.ts) ps → after_steps t (steps_at_places pool ps) row ≡ row
after_late pool t [] row h = refl
after_late pool t (p ∷ ps) row h = ap (λ b. after_steps t (steps_at_places pool ps) (cond b (apply (change_in (bytes_at pool p.cell)) row) row)) (not_le_is p.ts t h.0) ∙ after_late pool t ps row h.1

-- ---- the change of a row at a timestamp

pub step_is : (pool : Contents) (o t : ℕ) → o < 2 ^ 32 → t < 2 ^ 64 → (es : List Entry) → AllByRecursion (IsEntry pool) es
    → step_at t (steps_for o (map (delta_at pool) es)) ≡ option_map (λ v. change_in (bytes_at pool v)) (value_of (key_of o t) es)
step_is pool o t a b [] each = refl
step_is pool o t a b (e ∷ es) each =
    into (ordinal_of e.key == o)
    ∙ by (ordinal_of e.key == o) (ts_of e.key == t) (step_is pool o t a b es each.1)
    ∙ sym (ap (λ x. option_map (λ v. change_in (bytes_at pool v)) (option_map (λ (e : Entry). e.value) (cond x (Some e) (find (is_at (key_of o t)) es)))) here)
  where
    here : is_at (key_of o t) e ≡ ((ordinal_of e.key == o) && (ts_of e.key == t))
    here =
        key_eq e.key (key_of o t) each.0.key (is_key o t a b)
        ∙ ap (λ x. (ordinal_of e.key == x) && (ts_of e.key == ts_of (key_of o t))) (ordinal_again o t a)
        ∙ ap (λ x. (ordinal_of e.key == o) && (ts_of e.key == x)) (ts_again o t b)

    into : (x : Bool) → step_at t (cond x ((ts_of e.key, change_in (bytes_at pool e.value)) ∷ steps_for o (map (delta_at pool) es)) (steps_for o (map (delta_at pool) es)))
        ≡ cond x (cond (ts_of e.key == t) (Some (change_in (bytes_at pool e.value))) (step_at t (steps_for o (map (delta_at pool) es)))) (step_at t (steps_for o (map (delta_at pool) es)))
    into true = refl
    into false = refl

    -- whether the first is of this row, and at this timestamp
    by : (x y : Bool) → step_at t (steps_for o (map (delta_at pool) es)) ≡ option_map (λ v. change_in (bytes_at pool v)) (value_of (key_of o t) es) → cond x (cond y (Some (change_in (bytes_at pool e.value))) (step_at t (steps_for o (map (delta_at pool) es)))) (step_at t (steps_for o (map (delta_at pool) es)))
        ≡ option_map (λ v. change_in (bytes_at pool v)) (option_map (λ (e : Entry). e.value) (cond (x && y) (Some e) (find (is_at (key_of o t)) es)))
    by true true more = refl
    by true false more = more
    by false y more = more

-- ---- the order of all changes

sorted_behind : (pool : Contents) (e : Entry) (es : List Entry) → IsKey e.key → AllByRecursion (IsEntry pool) es → AreAbove e.key es → AllByRecursion (λ d. is_before (delta_at pool e) d ≡ true) (map (delta_at pool) es)
sorted_behind pool e [] k each above = tt
sorted_behind pool e (f ∷ es) k each above = (sym (key_lt e.key f.key k each.0.key) ∙ ap is_lt above.0, sorted_behind pool e es k each.1 above.1)

pub are_sorted : (pool : Contents) (es : List Entry) → IsRising es → AllByRecursion (IsEntry pool) es → AreSorted (map (delta_at pool) es)
are_sorted pool [] rise each = tt
are_sorted pool (e ∷ es) rise each = (sorted_behind pool e es each.0.key each.1 rise.0, are_sorted pool es rise.1 each.1)

-- ---- one step through the changes of a row

module _ (tree : Tree) (pool : Contents) (o : ℕ) (st : IsHeld tree pool) (after : Option ℕ) where
  abbrev placed : List Placed
  placed = placed_for o (trees.entries tree pool)

  module _ (p : Placed) (found : Some p ≡ find (is_later after) placed) where
    pub next_spells : SpellsChange (bytes_at pool p.cell)
    next_spells = found_in (λ (p : Placed). SpellsChange (bytes_at pool p.cell)) (is_later after) placed p (each_placed pool o (trees.entries tree pool) st.each) (sym found)

    pub next_rest : later after placed ≡ p ∷ later (Some p.ts) placed
    next_rest = later_next after placed p (placed_rise pool o (trees.entries tree pool) st.tree.rising st.each) (sym found)

    pub next_fewer : length (later (Some p.ts) placed) < length (later after placed)
    next_fewer = let e = ap length next_rest in omega arith

    module _ (t : ℕ) (row whole : Option Row) (so_far : after_steps t (steps_at_places pool (later after placed)) row ≡ whole) where
      opened : after_steps t (steps_at_places pool (later (Some p.ts) placed)) (cond (nat_le p.ts t) (apply (change_in (bytes_at pool p.cell)) row) row) ≡ whole
      opened = sym (ap (λ ps. after_steps t (steps_at_places pool ps) row) next_rest) ∙ so_far

      -- a change at or below the time is done
      pub row_next : (row2 : Option Row) → p.ts ≤ t → row2 ≡ apply (change_in (bytes_at pool p.cell)) row → after_steps t (steps_at_places pool (later (Some p.ts) placed)) row2 ≡ whole
      row_next row2 low e =
          ap (after_steps t (steps_at_places pool (later (Some p.ts) placed))) (e ∙ sym (ap (λ b. cond b (apply (change_in (bytes_at pool p.cell)) row) row) (le_is p.ts t low))) ∙ opened

      late : t < p.ts → AllByRecursion (λ (q : Placed). t < q.ts) (later (Some p.ts) placed)
      late high = each_of (λ (q : Placed). p.ts < q.ts) (λ (q : Placed). t < q.ts) (later (Some p.ts) placed) (λ q low. omega arith) (later_above p.ts placed)

      -- and behind one above it no other is
      pub row_breaks : t < p.ts → row ≡ whole
      row_breaks high =
          sym (after_late pool t (later (Some p.ts) placed) row (late high))
          ∙ sym (ap (λ b. after_steps t (steps_at_places pool (later (Some p.ts) placed)) (cond b (apply (change_in (bytes_at pool p.cell)) row) row)) (not_le_is p.ts t high)) ∙ opened

    -- the row after all of them
    pub live_next : (now whole : Option Row) → apply_all (steps_at_places pool (later after placed)) now ≡ whole → apply_all (steps_at_places pool (later (Some p.ts) placed)) (apply (change_in (bytes_at pool p.cell)) now) ≡ whole
    live_next now whole e = sym (ap (λ ps. apply_all (steps_at_places pool ps) now) next_rest) ∙ e

  module _ (over : find (is_later after) placed ≡ None) where
    pub nothing_left : later after placed ≡ []
    nothing_left = later_none after placed over

    pub row_done : (t : ℕ) (row whole : Option Row) → after_steps t (steps_at_places pool (later after placed)) row ≡ whole → row ≡ whole
    row_done t row whole e = sym (ap (λ ps. after_steps t (steps_at_places pool ps) row) nothing_left) ∙ e

    pub live_done : (now whole : Option Row) → apply_all (steps_at_places pool (later after placed)) now ≡ whole → now ≡ whole
    live_done now whole e = sym (ap (λ ps. apply_all (steps_at_places pool ps) now) nothing_left) ∙ e

pub row_starts : (pool : Contents) (t : ℕ) (ps : List Placed) (row : Option Row) → after_steps t (steps_at_places pool (later None ps)) row ≡ after_steps t (steps_at_places pool ps) row
row_starts pool t ps row = ap (λ qs. after_steps t (steps_at_places pool qs) row) (later_all ps)

pub live_starts : (pool : Contents) (ps : List Placed) (row : Option Row) → apply_all (steps_at_places pool (later None ps)) row ≡ apply_all (steps_at_places pool ps) row
live_starts pool ps row = ap (λ qs. apply_all (steps_at_places pool qs) row) (later_all ps)

pub none_of : {X : Type 0} (o : Option X) → ((x : X) → o ≡ Some x → ⊥) → o ≡ None
none_of None never = refl
none_of (Some x) never = absurd (never x refl)

-- ---- the entry that a search finds

pub pair_entry : (tree : Tree) (pool : Contents) (p : Pair) (f : Entry → Bool) → IsHeld tree pool → trees.IsPairOf tree pool (Some p) (find f (trees.entries tree pool)) → (e : Entry) × (find f (trees.entries tree pool) ≡ Some e) × IsEntry pool e × (read_entry pool p ≡ e)
pair_entry tree pool p f st h = by (find f (trees.entries tree pool)) refl h
  where
    by : (o : Option Entry) → find f (trees.entries tree pool) ≡ o → trees.IsPairOf tree pool (Some p) o → (e : Entry) × (o ≡ Some e) × IsEntry pool e × (read_entry pool p ≡ e)
    by None is h = absurd h
    by (Some e) is h = (
      e,
      refl,
      found_in (IsEntry pool) f (trees.entries tree pool) e st.each is,
      ap (λ k. record { key = k; value = p.value.cell }) (bytes_some pool p.key.cell e.key h.key) ∙ ap (λ v. record { key = e.key; value = v }) h.value,
    )

pub no_entry : (tree : Tree) (pool : Contents) (f : Entry → Bool) → trees.IsPairOf tree pool None (find f (trees.entries tree pool)) → find f (trees.entries tree pool) ≡ None
no_entry tree pool f h = by (find f (trees.entries tree pool)) h
  where
    by : (o : Option Entry) → trees.IsPairOf tree pool None o → o ≡ None
    by None h = refl
    by (Some e) h = absurd h

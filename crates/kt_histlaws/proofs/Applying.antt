-- A row of a flying write reaches its store.
use Rattle.std.proofs.Common.{◌≡◌, ℕ, ◌+◌, ◌-◌, ◌<◌, ◌≤◌, List, [], ◌∷◌, ◌++◌, Some, None, Option, refl, true, false, Bool, cond, sym, ap, ◌∙◌, subst, arith, map, length, inl, inr}
use Rattle.std.specs.Prelude.{nat_le, ◌==◌, not}
use Rattle.std.specs.List.{filter}
use Rattle.std.specs.Ordering.{eq_by_cmp}
use Rattle.std.specs.FinMap.Entries.{find}
use Rattle.std.proofs.lemmas.Bool.{cases_lt, cases_eq, cases_Bool, eq-eqb, ne_eqb, le-leb, lt-leb}
use Rattle.kt_history.specs.declared.change.Change.{Change}
use Rattle.kt_history.specs.Rows.{Row, apply, key_cmp}
use Rattle.kt_history.specs.History.{Past, PastWrite, IsPast, IsUpTo, Rise, replay_row, row_after, rows_at}
use Rattle.kt_history.proofs.KeyLaws.{find-rows_at}
use Rattle.kt_histlaws.specs.Histories.{hists, on_nth, pushed, first_some, Alone, ShowsKey, joined, timeline, past_hist}
use Rattle.kt_history.specs.Stores.{Steps, Hist, Store, after_steps, row_of, step_at, step_of, push, hist_in, Under}
use Rattle.kt_histlaws.specs.Pending.{Aloft, is_pending, done_writes, done, Same}
use Rattle.kt_histlaws.specs.Flights.{UpTo, AllUnder}
use Rattle.kt_histlaws.specs.Fitting.{Rises}
use Rattle.kt_histlaws.proofs.OneKey.{shows-push, none_left, none_right, length_map}
use Rattle.kt_histlaws.proofs.Pending.{same_key, hists-pushed_same, hists-pushed_other, timeline-done, filter-agree, shows_alike, timeline-up_to}

cond_none : {A : Type 0} (b : Bool) (x : A) (y : Option A) → cond b (Some x) y ≡ None → y ≡ None
cond_none true x y h = cc
cond_none false x y h = h

some_none : {A : Type 0} (b : Bool) (x : A) (y : Option A) → b ≡ true → cond b (Some x) y ≡ None → ⊥
some_none true x y e h = cc
some_none false x y e h = cc

pub under_from : (ts : ℕ) (steps : Steps) → ((t : ℕ) → ts ≤ t → step_at t steps ≡ None) → Under ts steps
under_from ts [] h = tt
under_from ts (c ∷ steps) h = (
  elim (cases_lt c.0 ts) [
    | inl lt ↦ lt
    | inr le ↦ absurd (some_none (c.0 == c.0) c.1 (step_at c.0 steps) (eq-eqb c.0 c.0 refl) (h c.0 le))
  ],
  under_from ts steps (λ t le. cond_none (c.0 == t) c.1 (step_at t steps) (h t le)),
)

pub none_under : (ts t : ℕ) (steps : Steps) → Under ts steps → ts ≤ t → step_at t steps ≡ None
none_under ts t [] un le = refl
none_under ts t (c ∷ steps) un le = rw (ne_eqb c.0 t (λ e. omega (arith, un.0))) (none_under ts t steps un.1 le)

-- from there on the row stays
pub row-settled : (ts t u : ℕ) (steps : Steps) (row : Option Row) → Under ts steps → ts ≤ t + 1 → ts ≤ u + 1 → after_steps t steps row ≡ after_steps u steps row
row-settled ts t u [] row un lt lu = refl
row-settled ts t u (c ∷ steps) row un lt lu =
    let et : nat_le c.0 t ≡ true = le-leb c.0 t (omega (arith, un.0)) in
    let eu : nat_le c.0 u ≡ true = le-leb c.0 u (omega (arith, un.0)) in
    ap (λ b. after_steps t steps (cond b (apply c.1 row) row)) et ∙ row-settled ts t u steps (apply c.1 row) un.1 lt lu ∙ sym (ap (λ b. after_steps u steps (cond b (apply c.1 row) row)) eu)

pub all_under : (ts : ℕ) (hs : List Hist) → ((t : ℕ) → ts ≤ t → first_some (map (step_of t) hs) ≡ None) → AllUnder ts hs
all_under ts [] f = tt
all_under ts (h ∷ hs) f = (under_from ts h.steps (λ t le. none_left (step_of t h) (first_some (map (step_of t) hs)) (f t le)), all_under ts hs (λ t le. none_right (step_of t h) (first_some (map (step_of t) hs)) (f t le)))

pub rows-settled : (ts t u : ℕ) (hs : List Hist) → AllUnder ts hs → ts ≤ t + 1 → ts ≤ u + 1 → map (row_of t) hs ≡ map (row_of u) hs
rows-settled ts t u [] un lt lu = refl
rows-settled ts t u (h ∷ hs) un lt lu =
    ap (λ x. x ∷ map (row_of t) hs) (row-settled ts t u h.steps h.first un.0 lt lu) ∙ ap (λ xs. row_of u h ∷ xs) (rows-settled ts t u hs un.1 lt lu)

-- the timeline of one key rises
rises_lower : (low high : ℕ) (steps : Steps) → low ≤ high → Rises high steps → Rises low steps
rises_lower low high [] le r = tt
rises_lower low high (c ∷ steps) le r = (omega (arith, r.0), r.1)

pub timeline-rises : (q : List ℕ) (low : ℕ) (ws : List PastWrite) → Rise low ws → Rises low (timeline q ws)
timeline-rises q low [] r = tt
timeline-rises q low (w ∷ ws) r = put_in (find key_cmp q w.changes) r.0 (timeline-rises q w.ts ws r.3)
  where
    put_in : (o : Option Change) → low < w.ts → Rises w.ts (timeline q ws) → Rises low (joined w.ts o (timeline q ws))
    put_in None lt rest = rises_lower low w.ts (timeline q ws) (omega arith) rest
    put_in (Some c) lt rest = (lt, rest)

-- the timeline without what is pending at ts
abbrev pub without : ℕ → Steps → Steps
without ts steps = filter (λ c. not (ts == c.0)) steps

pub without_none : (ts : ℕ) (steps : Steps) → step_at ts steps ≡ None → without ts steps ≡ steps
without_none ts [] h = refl
without_none ts (c ∷ steps) h = elim (cases_eq ts c.0) [
  | inl same ↦ absurd (some_none (c.0 == ts) c.1 (step_at ts steps) (eq-eqb c.0 ts (sym same)) h)
  | inr other ↦ ap (λ b. cond (not b) (c ∷ without ts steps) (without ts steps)) (ne_eqb ts c.0 other) ∙ ap (λ rest. c ∷ rest) (without_none ts steps (cond_none (c.0 == ts) c.1 (step_at ts steps) h))
]

no_more : (ts : ℕ) (steps : Steps) → Rises ts steps → UpTo ts steps → steps ≡ []
no_more ts [] r up = refl
no_more ts (c ∷ steps) r up = absurd (omega (arith, r.0, up.0))

when_true : {A : Type 0} (b : Bool) (x y : A) → b ≡ true → cond b x y ≡ x
when_true true x y e = refl
when_true false x y e = cc

when_false : {A : Type 0} (b : Bool) (x y : A) → b ≡ false → cond b x y ≡ y
when_false true x y e = cc
when_false false x y e = refl

the_some : {A : Type 0} (x y : A) → Some x ≡ Some y → x ≡ y
the_some x y e = cc

pub without_some : (low ts : ℕ) (c : Change) (steps : Steps) → Rises low steps → UpTo ts steps → step_at ts steps ≡ Some c → without ts steps ++ (ts, c) ∷ [] ≡ steps
without_some low ts c [] r up h = cc
without_some low ts c (d ∷ steps) r up h = elim (cases_eq ts d.0) [
  | inl same ↦
      let rest : steps ≡ [] = no_more ts steps (subst (λ n. Rises n steps) (sym same) r.1) up.1 in
      let is : d.1 ≡ c = the_some d.1 c (sym (when_true (d.0 == ts) (Some d.1) (step_at ts steps) (eq-eqb d.0 ts (sym same))) ∙ h) in
      ap (λ b. cond (not b) (d ∷ without ts steps) (without ts steps) ++ (ts, c) ∷ []) (eq-eqb ts d.0 same)
      ∙ ap (λ xs. without ts xs ++ (ts, c) ∷ []) rest
      ∙ ap (λ x. x ∷ []) (pair same (sym is))
      ∙ ap (λ xs. d ∷ xs) (sym rest)
  | inr other ↦
      ap (λ b. cond (not b) (d ∷ without ts steps) (without ts steps) ++ (ts, c) ∷ []) (ne_eqb ts d.0 other)
      ∙ ap (λ xs. d ∷ xs) (without_some d.0 ts c steps r.1 up.1 (sym (when_false (d.0 == ts) (Some d.1) (step_at ts steps) (ne_eqb d.0 ts (λ e. other (sym e)))) ∙ h))
]
  where
    pair : ts ≡ d.0 → c ≡ d.1 → (ts, c) ≡ d
    pair e f = λ i. (e i, f i)

pub without-under : (ts : ℕ) (steps : Steps) → UpTo ts steps → Under ts (without ts steps)
without-under ts [] up = tt
without-under ts (c ∷ steps) up = elim (cases_eq ts c.0) [
  | inl same ↦ subst (λ b. Under ts (cond (not b) (c ∷ without ts steps) (without ts steps))) (sym (eq-eqb ts c.0 same)) (without-under ts steps up.1)
  | inr other ↦ subst (λ b. Under ts (cond (not b) (c ∷ without ts steps) (without ts steps))) (sym (ne_eqb ts c.0 other)) (omega (arith, up.0, other), without-under ts steps up.1)
]

pub without-below : (ts u : ℕ) (steps : Steps) (row : Option Row) → u < ts → after_steps u (without ts steps) row ≡ after_steps u steps row
without-below ts u [] row lt = refl
without-below ts u (c ∷ steps) row lt = elim (cases_eq ts c.0) [
  | inl same ↦ ap (λ b. after_steps u (cond (not b) (c ∷ without ts steps) (without ts steps)) row) (eq-eqb ts c.0 same)
      ∙ without-below ts u steps row lt
      ∙ sym (ap (λ b. after_steps u steps (cond b (apply c.1 row) row)) (lt-leb c.0 u (omega arith)))
  | inr other ↦ ap (λ b. after_steps u (cond (not b) (c ∷ without ts steps) (without ts steps)) row) (ne_eqb ts c.0 other)
      ∙ without-below ts u steps (cond (nat_le c.0 u) (apply c.1 row) row) lt
]

-- the row that a timeline gives is the one of the replay
timeline-replay : (t : ℕ) (q : List ℕ) (ws : List PastWrite) (row : Option Row) → after_steps t (timeline q ws) row ≡ replay_row t q ws row
timeline-replay t q [] row = refl
timeline-replay t q (w ∷ ws) row = one (λ r. timeline-replay t q ws r) (find key_cmp q w.changes)
  where
    same : (b : Bool) → row ≡ cond b row row
    same true = refl
    same false = refl

    one : ((r : Option Row) → after_steps t (timeline q ws) r ≡ replay_row t q ws r) → (o : Option Change) → after_steps t (joined w.ts o (timeline q ws)) row ≡ replay_row t q ws (cond (nat_le w.ts t) (row_after o row) row)
    one rest None = rest row ∙ ap (replay_row t q ws) (same (nat_le w.ts t))
    one rest (Some c) = rest (cond (nat_le w.ts t) (apply c row) row)

pub row-past : (t : ℕ) (q : List ℕ) (past : Past) → IsPast past → row_of t (past_hist q past) ≡ find key_cmp q (rows_at past t)
row-past t q past apart = timeline-replay t q past.writes (find key_cmp q past.base) ∙ sym (find-rows_at past t q apart)

-- one row of a flying write goes from pending to applied: q is pending at ts alone, and then no more
pub record GoesOn (old new : List Aloft) (q : List ℕ) (ts : ℕ) : Type 0 where
  pub before : (t : ℕ) → is_pending old q t ≡ (ts == t)
  pub after : (t : ℕ) → is_pending new q t ≡ false
  pub others : (k : List ℕ) (t : ℕ) → eq_by_cmp key_cmp k q ≡ false → is_pending new k t ≡ is_pending old k t

-- what a run keeps of a flying write's key: no later write has it
pub record Awaits (past : Past) (q : List ℕ) (ts : ℕ) : Type 0 where
  pub rise : Rises past.mark (timeline q past.writes)
  pub last : UpTo ts (timeline q past.writes)

filter_all : (u : ℕ) (steps : Steps) → filter (λ c. not false) steps ≡ steps
filter_all u [] = refl
filter_all u (c ∷ steps) = ap (λ xs. c ∷ xs) (filter_all u steps)

pub old_steps : (old new : List Aloft) (past : Past) (q : List ℕ) (ts : ℕ) → GoesOn old new q ts → Awaits past q ts → timeline q (done_writes old past.writes) ≡ without ts (timeline q past.writes)
old_steps old new past q ts g w = timeline-done q old past.writes ∙ filter-agree (λ t. not (is_pending old q t)) (λ t. not (ts == t)) ts (timeline q past.writes) w.last (λ t le. ap not (g.before t))

pub new_steps : (old new : List Aloft) (past : Past) (q : List ℕ) (ts : ℕ) → GoesOn old new q ts → Awaits past q ts → timeline q (done_writes new past.writes) ≡ timeline q past.writes
new_steps old new past q ts g w = timeline-done q new past.writes ∙ filter-agree (λ t. not (is_pending new q t)) (λ t. not false) ts (timeline q past.writes) w.last (λ t le. ap not (g.after t)) ∙ filter_all ts (timeline q past.writes)

pub other_steps : (old new : List Aloft) (past : Past) (q k : List ℕ) (ts c : ℕ) → GoesOn old new q ts → UpTo c (timeline k past.writes) → eq_by_cmp key_cmp k q ≡ false → timeline k (done_writes old past.writes) ≡ timeline k (done_writes new past.writes)
other_steps old new past q k ts c g up ne = timeline-done k old past.writes ∙ filter-agree (λ t. not (is_pending old k t)) (λ t. not (is_pending new k t)) c (timeline k past.writes) up (λ t le. ap not (sym (g.others k t ne))) ∙ sym (timeline-done k new past.writes)

-- everything that the stores have of the key lies below the write
pub stores_under : (stores : List Store) (old new : List Aloft) (past : Past) (a : ℕ) (q : List ℕ) (ts : ℕ)
    → Same stores old past a → a < ts → GoesOn old new q ts → Awaits past q ts → AllUnder ts (hists q stores)
stores_under stores old new past a q ts same lt g w = all_under ts (hists q stores) (λ t le.
    (same q).steps t (omega arith) ∙ ap (step_at t) (old_steps old new past q ts g w) ∙ none_under ts t (without ts (timeline q past.writes)) (without-under ts (timeline q past.writes) w.last) le)

-- the row that the stores have live is the run's row just before the write
pub live_before : (stores : List Store) (old new : List Aloft) (past : Past) (a : ℕ) (q : List ℕ) (ts : ℕ)
    → Same stores old past a → a < ts → GoesOn old new q ts → Awaits past q ts → IsPast past
    → first_some (map (row_of ts) (hists q stores)) ≡ find key_cmp q (rows_at past (ts - 1))
live_before stores old new past a q ts same lt g w apart =
    (same q).rows ts (omega arith)
    ∙ ap (λ s. after_steps ts s (find key_cmp q past.base)) (old_steps old new past q ts g w)
    ∙ row-settled ts ts (ts - 1) (without ts (timeline q past.writes)) (find key_cmp q past.base) (without-under ts (timeline q past.writes) w.last) (omega arith) (omega arith)
    ∙ without-below ts (ts - 1) (timeline q past.writes) (find key_cmp q past.base) (omega arith)
    ∙ row-past (ts - 1) q past apart

-- the applying of a row without a change
pub apply_none_keeps : (stores : List Store) (old new : List Aloft) (past : Past) (a c : ℕ) (q : List ℕ) (ts : ℕ)
    → Same stores old past a → GoesOn old new q ts → Awaits past q ts → IsUpTo c past.writes
    → step_at ts (timeline q past.writes) ≡ None
    → Same stores new past a
apply_none_keeps stores old new past a c q ts same g w up none =
    shows_alike a stores (done old past) (done new past) refl each same
  where
    each : (k : List ℕ) → timeline k (done_writes old past.writes) ≡ timeline k (done_writes new past.writes)
    each k = elim (cases_Bool (eq_by_cmp key_cmp k q)) [
      | inl tied ↦ subst (λ x. timeline x (done_writes old past.writes) ≡ timeline x (done_writes new past.writes)) (sym (same_key k q tied))
          (old_steps old new past q ts g w ∙ without_none ts (timeline q past.writes) none ∙ sym (new_steps old new past q ts g w))
      | inr other ↦ other_steps old new past q k ts c g (timeline-up_to k c past.writes up) other
    ]

-- the applying of a row with a change, to a store in which alone it may be live
pub apply_some_keeps : (stores : List Store) (old new : List Aloft) (past : Past) (a c i : ℕ) (q : List ℕ) (ts : ℕ) (x : Change)
    → Same stores old past a → a < ts → GoesOn old new q ts → Awaits past q ts → IsUpTo c past.writes
    → step_at ts (timeline q past.writes) ≡ Some x → i < length stores → Alone i (map (row_of ts) (hists q stores))
    → Same (pushed i q ts x stores) new past a
apply_some_keeps stores old new past a c i q ts x same lt g w up is in_list alone k = elim (cases_Bool (eq_by_cmp key_cmp k q)) [
  | inl tied ↦ subst (λ key. ShowsKey a (hists key (pushed i q ts x stores)) (past_hist key (done new past))) (sym (same_key k q tied)) at_key
  | inr other ↦ subst (λ hs. ShowsKey a hs (past_hist k (done new past))) (sym (hists-pushed_other i k q ts x stores other))
      (subst (λ s. ShowsKey a (hists k stores) (record { first = find key_cmp k past.base; steps = s })) (other_steps old new past q k ts c g (timeline-up_to k c past.writes up) other) (same k))
]
  where
    under : AllUnder ts (hists q stores)
    under = stores_under stores old new past a q ts same lt g w

    steps : timeline q (done_writes old past.writes) ++ (ts, x) ∷ [] ≡ timeline q (done_writes new past.writes)
    steps = ap (λ s. s ++ (ts, x) ∷ []) (old_steps old new past q ts g w) ∙ without_some past.mark ts x (timeline q past.writes) w.rise w.last is ∙ sym (new_steps old new past q ts g w)

    later : (t : ℕ) → ts ≤ t → Alone i (map (row_of t) (hists q stores))
    later t le = subst (Alone i) (rows-settled ts ts t (hists q stores) under (omega arith) (omega arith)) alone

    at_key : ShowsKey a (hists q (pushed i q ts x stores)) (past_hist q (done new past))
    at_key = subst (λ hs. ShowsKey a hs (past_hist q (done new past))) (sym (hists-pushed_same i q ts x stores))
        (subst (λ s. ShowsKey a (on_nth i (push ts x) (hists q stores)) (record { first = find key_cmp q past.base; steps = s })) steps
        (shows-push a ts i x (hists q stores) (past_hist q (done old past)) (same q) lt (subst (λ n. i < n) (sym (length_map (hist_in q) stores)) in_list) later
        (ap (step_at ts) (old_steps old new past q ts g w) ∙ none_under ts ts (without ts (timeline q past.writes)) (without-under ts (timeline q past.writes) w.last) (omega arith))))

-- the end of a write whose rows are all applied, and any other step after which the same is pending
pub pending_keeps : (stores : List Store) (old new : List Aloft) (past : Past) (a c : ℕ)
    → Same stores old past a → IsUpTo c past.writes → ((q : List ℕ) (t : ℕ) → is_pending new q t ≡ is_pending old q t)
    → Same stores new past a
pending_keeps stores old new past a c same up alike =
    shows_alike a stores (done old past) (done new past) refl (λ q. timeline-done q old past.writes
    ∙ filter-agree (λ t. not (is_pending old q t)) (λ t. not (is_pending new q t)) c (timeline q past.writes) (timeline-up_to q c past.writes up) (λ t le. ap not (sym (alike q t)))
    ∙ sym (timeline-done q new past.writes)) same

-- a scan: up to a time at which nothing is pending, what is done is all
skipped : (b : Bool) (u : ℕ) (c : ℕ × Change) (rest : Steps) (row : Option Row) → u < c.0 → after_steps u (cond b (c ∷ rest) rest) row ≡ after_steps u rest row
skipped true u c rest row lt = ap (λ b. after_steps u rest (cond b (apply c.1 row) row)) (lt-leb c.0 u lt)
skipped false u c rest row lt = refl

keep_row : (f : ℕ → Bool) (u : ℕ) (steps : Steps) (row : Option Row) → ((t : ℕ) → t ≤ u → f t ≡ true) → after_steps u (filter (λ c. f c.0) steps) row ≡ after_steps u steps row
keep_row f u [] row h = refl
keep_row f u (c ∷ steps) row h = elim (cases_lt u c.0) [
  | inl above ↦ skipped (f c.0) u c (filter (λ c. f c.0) steps) row above ∙ keep_row f u steps row h ∙ sym (ap (λ b. after_steps u steps (cond b (apply c.1 row) row)) (lt-leb c.0 u above))
  | inr below ↦ ap (λ b. after_steps u (cond b (c ∷ filter (λ c. f c.0) steps) (filter (λ c. f c.0) steps)) row) (h c.0 below) ∙ keep_row f u steps (cond (nat_le c.0 u) (apply c.1 row) row) h
]

pub scan_shows : (stores : List Store) (aloft : List Aloft) (past : Past) (a t u : ℕ) (q : List ℕ)
    → Same stores aloft past a → IsPast past → a ≤ u → u ≤ t → ((q : List ℕ) (v : ℕ) → v ≤ t → is_pending aloft q v ≡ false)
    → first_some (map (row_of u) (hists q stores)) ≡ find key_cmp q (rows_at past u)
scan_shows stores aloft past a t u q same apart le lt none =
    (same q).rows u le
    ∙ ap (λ s. after_steps u s (find key_cmp q past.base)) (timeline-done q aloft past.writes)
    ∙ keep_row (λ v. not (is_pending aloft q v)) u (timeline q past.writes) (find key_cmp q past.base) (λ v low. ap not (none q v (omega arith)))
    ∙ row-past u q past apart

-- the mark rises: less is to be shown
pub same_raised : (stores : List Store) (aloft : List Aloft) (past : Past) (a b : ℕ) → Same stores aloft past a → a ≤ b → Same stores aloft past b
same_raised stores aloft past a b same le q = record {
  rows = λ t low. (same q).rows t (omega arith);
  steps = λ t low. (same q).steps t (omega arith);
  one_row = λ t low. (same q).one_row t (omega arith);
  one_step = λ t low. (same q).one_step t (omega arith);
}

-- What the stores of an engine that stands show.
use Rattle.std.proofs.Common.{◌≡◌, ◌≢◌, ℕ, zero, suc, ◌<◌, ◌≤◌, List, [], ◌∷◌, refl, true, false, Bool, ◌||◌, cond, sym, ap, ◌∙◌, subst, arith, map, drop}
use Rattle.std.specs.Prelude.{◌==◌, ◌&&◌, not, nat_lt, is_some}
use Rattle.std.specs.List.{list_all, filter}
use Rattle.std.specs.Ordering.{eq_by_cmp}
use Rattle.std.specs.FinMap.Entries.{find}
use Rattle.std.proofs.lemmas.Bool.{ne_eqb, and_parts, ltb-true, eqb-true}
use Rattle.kt_history.specs.declared.operation.RowOp.{RowOp}
use Rattle.kt_history.specs.Rows.{Row, key_cmp}
use Rattle.kt_history.specs.History.{Past, rows_at}
use Rattle.kt_histlaws.specs.Histories.{hists, timeline, AtMostOne, Alone, nth_option}
use Rattle.kt_history.specs.Stores.{Steps, row_of, step_at, Under}
use Rattle.kt_histlaws.specs.Pending.{Aloft, has_key, is_pending}
use Rattle.kt_histlaws.specs.Flights.{AllOps, AllFly, OpFlies, UpTo}
use Rattle.kt_histlaws.specs.Core.{Core, flown_by, ChangesLieInOrder, Stands, live, run_past}
use Rattle.kt_histlaws.proofs.OneKey.{alone_of_one}
use Rattle.kt_histlaws.proofs.Pending.{same_key, timeline-done}
use Rattle.kt_histlaws.proofs.Applying.{all_under, none_under, scan_shows}

-- the target: the store in which the key is live, or any where it is live nowhere
pub alone_live : (core : Core) (st : Stands core) (i ts : ℕ) (q : List ℕ) → core.a ≤ ts → is_some (nth_option i (map (row_of ts) (hists q core.stores))) ≡ true → Alone i (map (row_of ts) (hists q core.stores))
alone_live core st i ts q le some = alone_of_one i (map (row_of ts) (hists q core.stores)) ((st.stores.same q).one_row ts le) some

-- a scan: where no flying write is at or below t, each view's rows at u are the run's
none_pending : (aloft : List Aloft) (t v : ℕ) (q : List ℕ) → list_all (λ w. nat_lt t w.ts) (map flown_by aloft) ≡ true → v ≤ t → is_pending aloft q v ≡ false
none_pending [] t v q h le = refl
none_pending (w ∷ aloft) t v q h le =
    let p = and_parts (nat_lt t w.ts) (list_all (λ x. nat_lt t x.ts) (map flown_by aloft)) h in
    ap (λ b. (b && has_key q (drop w.applied w.ops)) || is_pending aloft q v) (ne_eqb w.ts v (λ e. omega (arith, ltb-true t w.ts p.0))) ∙ none_pending aloft t v q p.1 le

pub snapshot_shows : (core : Core) (st : Stands core) (t u : ℕ) (q : List ℕ) → list_all (λ w. nat_lt t w.ts) (map flown_by core.aloft) ≡ true → core.a ≤ u → u ≤ t
    → live core.stores q u ≡ find key_cmp q (rows_at st.past u)
snapshot_shows core st t u q none le lt = scan_shows core.stores core.aloft st.past core.a t u q st.stores.same st.flown.ends.is le lt (λ k v low. none_pending core.aloft t v k none low)

pub at_most_one : (core : Core) (st : Stands core) (t : ℕ) (q : List ℕ) → core.a ≤ t → AtMostOne (map (row_of t) (hists q core.stores))
at_most_one core st t q le = (st.stores.same q).one_row t le

pub snapshot_told : (core : Core) (st : Stands core) (t u : ℕ) (q : List ℕ) → list_all (λ w. nat_lt t w.ts) (map flown_by core.aloft) ≡ true → core.a ≤ u → u ≤ t
    → live core.stores q u ≡ find key_cmp q (rows_at (run_past core) u)
snapshot_told core st t u q none le lt = snapshot_shows core st t u q none le lt ∙ ap (λ x. find key_cmp q (rows_at x.past u)) (sym st.run.state)

-- a change that is still to be applied is of an operation of a flying write, and no later one of its key is in the past
some_key : (P : RowOp → Type 0) (q : List ℕ) (n : ℕ) (ops : List RowOp) → AllOps P ops → has_key q (drop n ops) ≡ true → (op : RowOp) × P op × (q ≡ op.key)
some_key P q n [] all h = nothing n h
  where
    nothing : (n : ℕ) → has_key q (drop n []) ≡ true → (op : RowOp) × P op × (q ≡ op.key)
    nothing zero h = cc
    nothing (suc n) h = cc
some_key P q (suc n) (op ∷ ops) all h = some_key P q n ops all.1 h
some_key P q zero (op ∷ ops) all h = one (eq_by_cmp key_cmp q op.key) refl (λ g. some_key P q zero ops all.1 g) h
  where
    one : (b : Bool) → eq_by_cmp key_cmp q op.key ≡ b → (has_key q ops ≡ true → (o : RowOp) × P o × (q ≡ o.key)) → (b || has_key q ops) ≡ true → (o : RowOp) × P o × (q ≡ o.key)
    one true e rest g = (op, all.0, same_key q op.key e)
    one false e rest g = rest g

waiting_last : (aloft : List Aloft) (q : List ℕ) (ts : ℕ) (fill : Row) (past : Past) (a c : ℕ) → AllFly fill past a c (map flown_by aloft) → is_pending aloft q ts ≡ true → (a < ts) × UpTo ts (timeline q past.writes)
waiting_last [] q ts fill past a c f h = cc
waiting_last (w ∷ aloft) q ts fill past a c f h = one (w.ts == ts) (has_key q (drop w.applied w.ops)) refl refl (λ g. waiting_last aloft q ts fill past a c f.4 g) h
  where
    one : (b k : Bool) → (w.ts == ts) ≡ b → has_key q (drop w.applied w.ops) ≡ k → (is_pending aloft q ts ≡ true → (a < ts) × UpTo ts (timeline q past.writes)) → ((b && k) || is_pending aloft q ts) ≡ true → (a < ts) × UpTo ts (timeline q past.writes)
    one true true e g rest x =
        let same = eqb-true w.ts ts e in
        let o = some_key (OpFlies fill past w.ts) q w.applied w.ops f.3 g in
        (omega (arith, same, f.0), subst (λ n. UpTo n (timeline q past.writes)) same (subst (λ k. UpTo w.ts (timeline k past.writes)) (sym o.2) o.1.last))
    one true false e g rest x = rest x
    one false k e g rest x = rest x

-- without it, all lies below
kept_under : (p : ℕ → Bool) (ts : ℕ) (steps : Steps) → UpTo ts steps → p ts ≡ false → Under ts (filter (λ c. p c.0) steps)
kept_under p ts [] up no_ = tt
kept_under p ts (c ∷ steps) up no_ = one (p c.0) refl (kept_under p ts steps up.1 no_)
  where
    one : (b : Bool) → p c.0 ≡ b → Under ts (filter (λ x. p x.0) steps) → Under ts (cond b (c ∷ filter (λ x. p x.0) steps) (filter (λ x. p x.0) steps))
    one true e rest = (let other : c.0 ≢ ts = λ same. (let both : true ≡ false = sym e ∙ ap p same ∙ no_ in cc) in omega (arith, up.0, other), rest)
    one false e rest = rest

pub in_order : (core : Core) (st : Stands core) → ChangesLieInOrder core
in_order core st q ts h =
    let w = waiting_last core.aloft q ts core.work.fill st.past core.a core.c st.flown.fly h in
    all_under ts (hists q core.stores) (λ t le. (st.stores.same q).steps t (omega (arith, w.0)) ∙ ap (step_at t) (timeline-done q core.aloft st.past.writes)
    ∙ none_under ts t (filter (λ c. not (is_pending core.aloft q c.0)) (timeline q st.past.writes)) (kept_under (λ n. not (is_pending core.aloft q n)) ts (timeline q st.past.writes) w.1 (ap not h)) le)

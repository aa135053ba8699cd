-- A past without what is still to be applied, key by key.
use Rattle.std.proofs.Common.{◌≡◌, ℕ, ◌<◌, ◌≤◌, List, [], ◌∷◌, ◌++◌, Some, None, Option, refl, true, false, Bool, ◌&&◌, ◌||◌, cond, sym, ap, ◌∙◌, subst, arith, drop}
use Rattle.std.specs.Prelude.{◌==◌, is_some, not, unwrap_or}
use Rattle.std.specs.List.{filter}
use Rattle.std.specs.Ordering.{is_eq, eq_by_cmp}
use Rattle.std.specs.declared.cmp.Ordering.{Ordering}
use Rattle.std.specs.declared.cmp.Ordering.TheVariants.{Less, Equal, Greater}
use Rattle.std.specs.FinMap.{nat_cmp-IsAntisymmetric, slice_cmp-IsAntisymmetric}
use Rattle.std.specs.FinMap.Entries.{find, put, find-put, find-where_key}
use Rattle.std.proofs.lemmas.Cmp.{nat_list_cmp_total, tied_itself}
use Rattle.std.proofs.lemmas.Bool.{eq-eqb, ne_eqb, leb-true}
use Rattle.std.proofs.lemmas.List.{append-nil}
use Rattle.std.proofs.lemmas.List.Elements.{filter-append}
use Rattle.std.proofs.lemmas.List.Folds.{list_any-append}
use Rattle.kt_history.specs.declared.change.Change.{Change}
use Rattle.kt_history.specs.declared.operation.RowOp.{RowOp}
use Rattle.kt_history.specs.Rows.{Changes, key_cmp}
use Rattle.kt_history.specs.History.{Past, PastWrite, IsUpTo, with_write}
use Rattle.kt_histlaws.specs.Histories.{hists, on_nth, pushed, ShowsKey, Shows, joined, timeline}
use Rattle.kt_history.specs.Stores.{Steps, Store, push, never, hist_in}
use Rattle.kt_histlaws.specs.Pending.{Aloft, has_key, is_pending, keep_write, done_writes, done, Same}
use Rattle.kt_histlaws.specs.Flights.{UpTo}
use Rattle.kt_histlaws.proofs.OneKey.{map-on_nth, map-on_nth_still}

is_equal : (o : Ordering) → is_eq o ≡ true → o ≡ Equal
is_equal Less h = cc
is_equal Equal h = refl
is_equal Greater h = cc

pub tied_keys : (k q : List ℕ) → key_cmp k q ≡ Equal → k ≡ q
tied_keys k q e = slice_cmp-IsAntisymmetric nat_cmp-IsAntisymmetric k q e

pub same_key : (k q : List ℕ) → eq_by_cmp key_cmp k q ≡ true → k ≡ q
same_key k q e = tied_keys k q (is_equal (key_cmp k q) e)

pub itself : (q : List ℕ) → eq_by_cmp key_cmp q q ≡ true
itself q = ap is_eq (tied_itself nat_list_cmp_total q)

-- a change that reaches a store, key by key

pub hists-pushed_same : (i : ℕ) (q : List ℕ) (ts : ℕ) (c : Change) (stores : List Store) → hists q (pushed i q ts c stores) ≡ on_nth i (push ts c) (hists q stores)
hists-pushed_same i q ts c stores = map-on_nth i (λ s. put key_cmp q (push ts c (hist_in q s)) s) (hist_in q) (push ts c)
    (λ s. ap (λ o. unwrap_or o never) (find-put key_cmp nat_list_cmp_total q q (push ts c (hist_in q s)) s ∙ ap (λ b. cond b (Some (push ts c (hist_in q s))) (find key_cmp q s)) (itself q)))
    stores

pub hists-pushed_other : (i : ℕ) (k q : List ℕ) (ts : ℕ) (c : Change) (stores : List Store) → eq_by_cmp key_cmp k q ≡ false → hists k (pushed i q ts c stores) ≡ hists k stores
hists-pushed_other i k q ts c stores other = map-on_nth_still i (λ s. put key_cmp q (push ts c (hist_in q s)) s) (hist_in k)
    (λ s. ap (λ o. unwrap_or o never) (find-put key_cmp nat_list_cmp_total k q (push ts c (hist_in q s)) s ∙ ap (λ b. cond b (Some (push ts c (hist_in q s))) (find key_cmp k s)) other))
    stores

-- the timeline of one key

timeline-keep : (q : List ℕ) (ts : ℕ) (changes : Changes) (rest : List PastWrite) → timeline q (keep_write ts changes rest) ≡ joined ts (find key_cmp q changes) (timeline q rest)
timeline-keep q ts [] rest = refl
timeline-keep q ts (c ∷ changes) rest = refl

filter-joined : (f : ℕ → Bool) (ts : ℕ) (o : Option Change) (steps : Steps) → joined ts (cond (f ts) o None) (filter (λ c. f c.0) steps) ≡ filter (λ c. f c.0) (joined ts o steps)
filter-joined f ts None steps = elim (f ts) as (λ b. joined ts (cond b None None) (filter (λ c. f c.0) steps) ≡ filter (λ c. f c.0) steps) [ true ↦ refl | false ↦ refl ]
filter-joined f ts (Some c) steps = elim (f ts) as (λ b. joined ts (cond b (Some c) None) (filter (λ c. f c.0) steps) ≡ cond b ((ts, c) ∷ filter (λ c. f c.0) steps) (filter (λ c. f c.0) steps)) [ true ↦ refl | false ↦ refl ]

-- what is done of one key: its timeline without what is pending
pub timeline-done : (q : List ℕ) (aloft : List Aloft) (writes : List PastWrite) → timeline q (done_writes aloft writes) ≡ filter (λ c. not (is_pending aloft q c.0)) (timeline q writes)
timeline-done q aloft [] = refl
timeline-done q aloft (w ∷ writes) =
    timeline-keep q w.ts (filter (λ c. not (is_pending aloft c.0 w.ts)) w.changes) (done_writes aloft writes)
    ∙ ap (λ o. joined w.ts o (timeline q (done_writes aloft writes))) (find-where_key key_cmp (λ k. not (is_pending aloft k w.ts)) q (λ x e. ap (λ k. not (is_pending aloft k w.ts)) (sym (tied_keys q x e))) w.changes)
    ∙ ap (joined w.ts (cond (not (is_pending aloft q w.ts)) (find key_cmp q w.changes) None)) (timeline-done q aloft writes)
    ∙ filter-joined (λ t. not (is_pending aloft q t)) w.ts (find key_cmp q w.changes) (timeline q writes)

pub timeline-append : (q : List ℕ) (ws : List PastWrite) (w : PastWrite) → timeline q (ws ++ w ∷ []) ≡ timeline q ws ++ joined w.ts (find key_cmp q w.changes) []
timeline-append q [] w = refl
timeline-append q (v ∷ ws) w = ap (joined v.ts (find key_cmp q v.changes)) (timeline-append q ws w) ∙ pass v.ts (find key_cmp q v.changes) (timeline q ws) (joined w.ts (find key_cmp q w.changes) [])
  where
    pass : (ts : ℕ) (o : Option Change) (xs ys : Steps) → joined ts o (xs ++ ys) ≡ joined ts o xs ++ ys
    pass ts None xs ys = refl
    pass ts (Some c) xs ys = refl

pub timeline-up_to : (q : List ℕ) (u : ℕ) (ws : List PastWrite) → IsUpTo u ws → UpTo u (timeline q ws)
timeline-up_to q u [] h = tt
timeline-up_to q u (w ∷ ws) h = both (find key_cmp q w.changes) (leb-true w.ts u (left _ _ h)) (timeline-up_to q u ws (right _ _ h))
  where
    left : (a b : Bool) → (a && b) ≡ true → a ≡ true
    left true b e = refl
    left false b e = e

    right : (a b : Bool) → (a && b) ≡ true → b ≡ true
    right true b e = e
    right false b e = cc

    both : (o : Option Change) → w.ts ≤ u → UpTo u (timeline q ws) → UpTo u (joined w.ts o (timeline q ws))
    both None le rest = rest
    both (Some c) le rest = (le, rest)

pub filter-agree : (f g : ℕ → Bool) (u : ℕ) (steps : Steps) → UpTo u steps → ((t : ℕ) → t ≤ u → f t ≡ g t) → filter (λ c. f c.0) steps ≡ filter (λ c. g c.0) steps
filter-agree f g u [] up e = refl
filter-agree f g u (c ∷ steps) up e =
    ap (λ b. cond b (c ∷ filter (λ c. f c.0) steps) (filter (λ c. f c.0) steps)) (e c.0 up.0)
    ∙ ap (λ rest. cond (g c.0) (c ∷ rest) rest) (filter-agree f g u steps up.1 e)

-- a past is shown if its timelines are
pub shows_alike : (a : ℕ) (stores : List Store) (old new : Past) → old.base ≡ new.base → ((q : List ℕ) → timeline q old.writes ≡ timeline q new.writes) → Shows a stores old → Shows a stores new
shows_alike a stores old new base same shows q =
    subst (ShowsKey a (hists q stores)) (ap (λ b. record { first = find key_cmp q b; steps = timeline q old.writes }) base ∙ ap (λ s. record { first = find key_cmp q new.base; steps = s }) (same q)) (shows q)

-- the begin of a write: nothing is applied yet, so that what is done is as before

pending_new : (aloft : List Aloft) (w : Aloft) (q : List ℕ) (t : ℕ) → (w.ts ≡ t → ⊥) → is_pending (aloft ++ w ∷ []) q t ≡ is_pending aloft q t
pending_new aloft w q t ne = list_any-append (λ v. (v.ts == t) && has_key q (drop v.applied v.ops)) aloft (w ∷ []) ∙ rw (ne_eqb w.ts t ne) (or_false (is_pending aloft q t))
  where
    or_false : (b : Bool) → (b || false) ≡ b
    or_false true = refl
    or_false false = refl

pending_at_new : (aloft : List Aloft) (s i ts : ℕ) (ops : List RowOp) (q : List ℕ) → has_key q ops ≡ true → is_pending (aloft ++ record { s = s; i = i; ts = ts; ops = ops; applied = 0 } ∷ []) q ts ≡ true
pending_at_new aloft s i ts ops q has = list_any-append (λ v. (v.ts == ts) && has_key q (drop v.applied v.ops)) aloft _ ∙ rw (eq-eqb ts ts refl, has) (or_true (is_pending aloft q ts))
  where
    or_true : (b : Bool) → (b || true) ≡ true
    or_true true = refl
    or_true false = refl

-- each change is of a key of the operations
abbrev pub Covers : Changes → List RowOp → Type 0
Covers changes ops = (q : List ℕ) → is_some (find key_cmp q changes) ≡ true → has_key q ops ≡ true

abbrev pub with_aloft : List Aloft → ℕ → ℕ → ℕ → List RowOp → List Aloft
with_aloft aloft s i ts ops = aloft ++ record { s = s; i = i; ts = ts; ops = ops; applied = 0 } ∷ []

older : (aloft : List Aloft) (c s i ts : ℕ) (ops : List RowOp) (writes : List PastWrite) (q : List ℕ) → IsUpTo c writes → c < ts → filter (λ c. not (is_pending aloft q c.0)) (timeline q writes) ≡ filter (λ c. not (is_pending (with_aloft aloft s i ts ops) q c.0)) (timeline q writes)
older aloft c s i ts ops writes q up lt = filter-agree (λ t. not (is_pending aloft q t)) (λ t. not (is_pending (with_aloft aloft s i ts ops) q t)) c (timeline q writes) (timeline-up_to q c writes up)
    (λ t le. ap not (sym (pending_new aloft (record { s = s; i = i; ts = ts; ops = ops; applied = 0 }) q t (λ e. omega arith))))

gone : (aloft : List Aloft) (s i ts : ℕ) (ops : List RowOp) (q : List ℕ) (o : Option Change) → (is_some o ≡ true → has_key q ops ≡ true) → filter (λ c. not (is_pending (with_aloft aloft s i ts ops) q c.0)) (joined ts o []) ≡ []
gone aloft s i ts ops q None h = refl
gone aloft s i ts ops q (Some v) h = ap (λ b. cond (not b) ((ts, v) ∷ []) []) (pending_at_new aloft s i ts ops q (h refl))

newest : (aloft : List Aloft) (s i ts : ℕ) (ops : List RowOp) (writes : List PastWrite) (q : List ℕ) (changes : Changes) → Covers changes ops
    → filter (λ c. not (is_pending (with_aloft aloft s i ts ops) q c.0)) (timeline q (writes ++ record { ts = ts; changes = changes } ∷ [])) ≡ filter (λ c. not (is_pending (with_aloft aloft s i ts ops) q c.0)) (timeline q writes)
newest aloft s i ts ops writes q changes covers = ap (filter (λ c. not (is_pending (with_aloft aloft s i ts ops) q c.0))) (timeline-append q writes _)
    ∙ filter-append (λ c. not (is_pending (with_aloft aloft s i ts ops) q c.0)) (timeline q writes) (joined ts (find key_cmp q changes) [])
    ∙ ap (λ r. filter (λ c. not (is_pending (with_aloft aloft s i ts ops) q c.0)) (timeline q writes) ++ r) (gone aloft s i ts ops q (find key_cmp q changes) (covers q))
    ∙ append-nil (filter (λ c. not (is_pending (with_aloft aloft s i ts ops) q c.0)) (timeline q writes))

pub begin_keeps : (stores : List Store) (aloft : List Aloft) (past : Past) (a c s i ts : ℕ) (ops : List RowOp) (changes : Changes)
    → Same stores aloft past a → IsUpTo c past.writes → c < ts → Covers changes ops
    → Same stores (with_aloft aloft s i ts ops) (with_write past ts changes) a
begin_keeps stores aloft past a c s i ts ops [] same up lt covers =
    shows_alike a stores (done aloft past) (done (with_aloft aloft s i ts ops) past) refl
    (λ q. timeline-done q aloft past.writes ∙ older aloft c s i ts ops past.writes q up lt ∙ sym (timeline-done q (with_aloft aloft s i ts ops) past.writes)) same
begin_keeps stores aloft past a c s i ts ops (x ∷ changes) same up lt covers =
    shows_alike a stores (done aloft past) (done (with_aloft aloft s i ts ops) (with_write past ts (x ∷ changes))) refl
    (λ q. timeline-done q aloft past.writes ∙ older aloft c s i ts ops past.writes q up lt ∙ sym (newest aloft s i ts ops past.writes q (x ∷ changes) covers) ∙ sym (timeline-done q (with_aloft aloft s i ts ops) (past.writes ++ record { ts = ts; changes = x ∷ changes } ∷ []))) same

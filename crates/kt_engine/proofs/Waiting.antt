-- The writes of a log without a COMMIT, which fly.
use Rattle.std.proofs.Common.{◌≡◌, ℕ, suc, zero, List, [], ◌∷◌, ◌++◌, map, Some, None, Option, refl, sym, true, false, Bool, ◌||◌, cond, ap, ◌∙◌, subst, not, append_assoc}
use Rattle.std.specs.Prelude.{◌==◌, slice_get}
use Rattle.std.specs.List.{All, list_any, find, filter}
use Rattle.std.specs.Ordering.{eq_by_cmp}
use Rattle.std.proofs.lemmas.Bool.{or_parts}
use Rattle.kt_history.specs.declared.operation.RowOp.{RowOp}
use Rattle.kt_history.specs.Rows.{key_cmp}
use Rattle.kt_history.specs.Operations.{share_key}
use Rattle.kt_history.specs.Machine.{least}
use Rattle.kt_records.specs.declared.entry.Entry.{Entry}
use Rattle.kt_records.specs.declared.entry.Entry.TheVariants.{Replicate, Commit}
use Rattle.kt_records.specs.declared.entry.CommitRow.{CommitRow}
use Rattle.kt_journal.specs.Log.{IsLog}
use Rattle.kt_loglaws.specs.Replay.{commit_of}
use Rattle.kt_loglaws.specs.Fronts.{ops_of}
use Rattle.kt_loglaws.proofs.LogOrder.{same, equal, Lacks, lacks_before, commit_of-append, is_found}
use Rattle.kt_histlaws.specs.Pending.{Aloft, has_key}
use Rattle.kt_histlaws.specs.Histories.{on_nth}
use Rattle.kt_histlaws.specs.Flights.{AllOps}
use Rattle.kt_histlaws.specs.Core.{flown_by}
use Rattle.kt_histlaws.specs.Events.{advance}
use Rattle.kt_content.specs.KeyOps.{KeyOp, op_on, seen}
use Rattle.kt_content.specs.Content.{AreTold}
use Rattle.kt_content.specs.Records.{KeysAreTold}
use Rattle.kt_content.proofs.Fronts.{same_ops}
use Rattle.kt_tablet.specs.Views.{place_at}
use Rattle.kt_engine.specs.Logged.{Waits, UntoldFly}
use Rattle.kt_engine.proofs.Lists.{all_none, all_head, all_tail, all_cons, all_each, all_found, found_passes}
use Rattle.kt_engine.proofs.Places.{is_session}

-- lists

true_or : (a b : Bool) → a ≡ true → (a || b) ≡ true
true_or true b h = refl
true_or false b h = cc

pub or_true : (a b : Bool) → b ≡ true → (a || b) ≡ true
or_true true b h = refl
or_true false b h = h

any_front : {A : Type 0} (p : A → Bool) (xs ys : List A) → list_any p xs ≡ true → list_any p (xs ++ ys) ≡ true
any_front p [] ys h = cc
any_front p (x ∷ xs) ys h = elim (p x) as (λ b. (b || list_any p xs) ≡ true → (b || list_any p (xs ++ ys)) ≡ true) [ true ↦ λ e. refl | false ↦ λ e. any_front p xs ys e ] h

any_end : {A : Type 0} (p : A → Bool) (xs : List A) (x : A) → p x ≡ true → list_any p (xs ++ x ∷ []) ≡ true
any_end p [] x h = true_or (p x) false h
any_end p (y ∷ xs) x h = or_true (p y) (list_any p (xs ++ x ∷ [])) (any_end p xs x h)

-- one that passes, with what holds of each
any_one : {A : Type 0} (P : A → Type 0) (p : A → Bool) (xs : List A) → list_any p xs ≡ true → All P xs → (x : A) × (p x ≡ true) × P x
any_one P p [] h all = cc
any_one P p (x ∷ xs) h all = elim (p x) as (λ b. p x ≡ b → (b || list_any p xs) ≡ true → (y : _) × (p y ≡ true) × P y) [
  | true ↦ λ is e. (x, is, all_head P x xs all)
  | false ↦ λ is e. any_one P p xs e (all_tail P x xs all)
] refl h

any_passing : {A : Type 0} (P : A → Type 0) (p t : A → Bool) (xs : List A) → ((x : A) → P x → p x ≡ true → t x ≡ true) → All P xs → list_any p xs ≡ true → list_any p (filter t xs) ≡ true
any_passing P p t [] f all h = h
any_passing P p t (x ∷ xs) f all h = elim (p x) as (λ b. p x ≡ b → (b || list_any p xs) ≡ true → list_any p (cond (t x) (x ∷ filter t xs) (filter t xs)) ≡ true) [
  | true ↦ λ is e. rw (f x (all_head P x xs all) is) (true_or (p x) (list_any p (filter t xs)) is)
  | false ↦ λ is e.
      let rest = any_passing P p t xs f (all_tail P x xs all) e in
      elim (t x) as (λ b. list_any p (cond b (x ∷ filter t xs) (filter t xs)) ≡ true) [ true ↦ or_true (p x) (list_any p (filter t xs)) rest | false ↦ rest ]
] refl h

each_op : (P Q : RowOp → Type 0) (ops : List RowOp) → ((op : RowOp) → P op → Q op) → AllOps P ops → AllOps Q ops
each_op P Q [] f h = tt
each_op P Q (op ∷ ops) f h = (f op h.0, each_op P Q ops f h.1)

-- the operations of a write in a longer log

ops_other : (ts t : ℕ) (xs : List Entry) (ops : List RowOp) → (t == ts) ≡ false → ops_of ts (xs ++ Replicate t ops ∷ []) ≡ ops_of ts xs
ops_other ts t [] ops h = rw h refl
ops_other ts t (Replicate u o ∷ xs) ops h = ap (cond (u == ts) (Some o)) (ops_other ts t xs ops h)
ops_other ts t (Commit u rows ∷ xs) ops h = ops_other ts t xs ops h

ops_at : (ts : ℕ) (xs : List Entry) (ops : List RowOp) (ys : List Entry) → Lacks ts xs → ops_of ts (xs ++ Replicate ts ops ∷ ys) ≡ Some ops
ops_at ts [] ops ys l = rw (same ts) refl
ops_at ts (Replicate t o ∷ xs) ops ys l = rw l.0 (ops_at ts xs ops ys l.1)
ops_at ts (Commit t rows ∷ xs) ops ys l = ops_at ts xs ops ys l

none_before : (ts : ℕ) (xs ys : List Entry) → commit_of ts (xs ++ ys) ≡ None → commit_of ts xs ≡ None
none_before ts [] ys h = refl
none_before ts (Replicate t o ∷ xs) ys h = none_before ts xs ys h
none_before ts (Commit t rows ∷ xs) ys h = elim (t == ts) as (λ b. cond b (Some rows) (commit_of ts (xs ++ ys)) ≡ None → cond b (Some rows) (commit_of ts xs) ≡ None) [
  | true ↦ λ e. e
  | false ↦ λ e. none_before ts xs ys e
] h

not_its : (ts t : ℕ) (xs : List Entry) (rows : List CommitRow) → commit_of ts (xs ++ Commit t rows ∷ []) ≡ None → (t == ts) ≡ false
not_its ts t xs rows h = elim (t == ts) as (λ b. (t == ts) ≡ b → b ≡ false) [
  | true ↦ λ e. absurd (is_found ts xs rows [] (subst (λ (u : ℕ). commit_of ts (xs ++ Commit u rows ∷ []) ≡ None) (equal t ts e) h))
  | false ↦ λ e. refl
] refl

-- a write that begins flies

pub untold_begun : (records : List Entry) (aloft : List Aloft) (w : Aloft) (ops : List RowOp) → UntoldFly records aloft → UntoldFly (records ++ Replicate w.ts ops ∷ []) (aloft ++ w ∷ [])
untold_begun records aloft w ops fly ts os has none = elim (w.ts == ts) as (λ b. (w.ts == ts) ≡ b → list_any (λ v. v.ts == ts) (aloft ++ w ∷ []) ≡ true) [
  | true ↦ λ e. any_end (λ v. v.ts == ts) aloft w e
  | false ↦ λ e. any_front (λ v. v.ts == ts) aloft (w ∷ []) (fly ts os (sym (ops_other ts w.ts records ops e) ∙ has) (sym (commit_of-append ts records (Replicate w.ts ops ∷ []) refl) ∙ none))
] refl

-- two that fly for one session are one write
pub one_session : (records : List Entry) (places : List (ℕ × ℕ)) (v w : Aloft) → v.s ≡ w.s → Waits records places v → Waits records places w → v.ts ≡ w.ts
one_session records places v w e a b =
    let places_are : Some (suc a.n) ≡ Some (suc b.n) = sym a.place ∙ ap (λ s. place_at s places) e ∙ b.place in
    let n : a.n ≡ b.n = cc in
    let entries : Some (Replicate v.ts v.ops) ≡ Some (Replicate w.ts w.ops) = sym a.there ∙ ap (slice_get records) n ∙ b.there in
    cc

-- the others fly on where a write ends
pub untold_ended : (records : List Entry) (places : List (ℕ × ℕ)) (aloft : List Aloft) (s : ℕ) (f : Aloft) (rows : List CommitRow) → find (λ w. w.s == s) aloft ≡ Some f → All (Waits records places) aloft → UntoldFly records aloft
    → UntoldFly (records ++ Commit f.ts rows ∷ []) (filter (λ w. not (w.s == s)) aloft)
untold_ended records places aloft s f rows flies waits fly ts os has none =
    let other = not_its ts f.ts records rows none in
    let wf = all_found (Waits records places) (λ w. w.s == s) aloft f flies waits in
    let own : f.s ≡ s = is_session f.s s (found_passes (λ w. w.s == s) aloft f flies) in
    any_passing (Waits records places) (λ v. v.ts == ts) (λ w. not (w.s == s)) aloft (λ w waits is. passes w waits is (w.s == s) refl wf own other) waits
    (fly ts os (sym (same_ops ts records f.ts rows) ∙ has) (none_before ts records (Commit f.ts rows ∷ []) none))
  where
    passes : (w : Aloft) → Waits records places w → (w.ts == ts) ≡ true → (b : Bool) → (w.s == s) ≡ b → Waits records places f → f.s ≡ s → (f.ts == ts) ≡ false → not b ≡ true
    passes w waits is true e wf own other =
        let at : w.ts ≡ f.ts = one_session records places w f (is_session w.s s e ∙ sym own) waits wf in
        absurd (let no : true ≡ false = sym is ∙ ap (λ n. n == ts) at ∙ other in cc)
    passes w waits is false e wf own other = refl

-- a row that is applied leaves the timestamps
pub untold_advanced : (records : List Entry) (j : ℕ) (aloft : List Aloft) → UntoldFly records aloft → UntoldFly records (on_nth j advance aloft)
untold_advanced records j aloft fly ts os has none = advanced_any j aloft ∙ fly ts os has none
  where
    advanced_any : (j : ℕ) (ws : List Aloft) → list_any (λ w. w.ts == ts) (on_nth j advance ws) ≡ list_any (λ w. w.ts == ts) ws
    advanced_any j [] = refl
    advanced_any zero (w ∷ ws) = refl
    advanced_any (suc j) (w ∷ ws) = ap (λ b. (w.ts == ts) || b) (advanced_any j ws)

-- keys of no write that flies have their COMMITs

told_join : (xs ys : List KeyOp) → AreTold xs → AreTold ys → AreTold (xs ++ ys)
told_join [] ys a b = b
told_join (x ∷ xs) ys a b = (a.0, told_join xs ys a.1 b)

told_on : (q : List ℕ) (ts : ℕ) (ops : List RowOp) (rows : List CommitRow) → AreTold (op_on q ts ops (Some rows))
told_on q ts [] rows = tt
told_on q ts (op ∷ ops) [] = tt
told_on q ts (op ∷ ops) (row ∷ rows) = elim (eq_by_cmp key_cmp q op.key) as (λ b. AreTold (cond b (record { ts = ts; op = op; told = Some row.targets } ∷ []) (op_on q ts ops (Some rows)))) [
  | true ↦ (refl, tt)
  | false ↦ told_on q ts ops rows
]

off_key : (q : List ℕ) (ts : ℕ) (ops : List RowOp) → has_key q ops ≡ false → op_on q ts ops None ≡ []
off_key q ts [] h = refl
off_key q ts (op ∷ ops) h = let parts = or_parts (eq_by_cmp key_cmp q op.key) (has_key q ops) h in rw parts.0 (off_key q ts ops parts.1)

-- no write without a COMMIT has the key
abbrev LetsGo : List ℕ → List Entry → Type 0
LetsGo q all = (ts : ℕ) (ops : List RowOp) → ops_of ts all ≡ Some ops → commit_of ts all ≡ None → has_key q ops ≡ false

on_told : (q : List ℕ) (ts : ℕ) (ops : List RowOp) (o : Option (List CommitRow)) → (o ≡ None → has_key q ops ≡ false) → AreTold (op_on q ts ops o)
on_told q ts ops None f = subst AreTold (sym (off_key q ts ops (f refl))) tt
on_told q ts ops (Some rows) f = told_on q ts ops rows

key_told : (q : List ℕ) (all front records : List Entry) → front ++ records ≡ all → IsLog all → LetsGo q all → AreTold (seen q all records)
key_told q all front [] is log free = tt
key_told q all front (Replicate ts ops ∷ records) is log free =
    let here : ops_of ts all ≡ Some ops = subst (λ (l : List Entry). ops_of ts l ≡ Some ops) is (ops_at ts front ops records (lacks_before [] front ts ops records (subst (λ (l : List Entry). IsLog l) (sym is) log))) in
    told_join (op_on q ts ops (commit_of ts all)) (seen q all records) (on_told q ts ops (commit_of ts all) (λ none. free ts ops here none))
    (key_told q all (front ++ Replicate ts ops ∷ []) records (append_assoc front (Replicate ts ops ∷ []) records ∙ is) log free)
key_told q all front (Commit ts rows ∷ records) is log free = key_told q all (front ++ Commit ts rows ∷ []) records (append_assoc front (Commit ts rows ∷ []) records ∙ is) log free

-- no flying write has the key
abbrev IsFree : List Aloft → List ℕ → Type 0
IsFree aloft q = All (λ (w : Aloft). has_key q w.ops ≡ false) aloft

keys_free : (ops : List RowOp) (aloft : List Aloft) → All (λ (w : Aloft). share_key ops w.ops ≡ false) aloft → AllOps (λ op. IsFree aloft op.key) ops
keys_free [] aloft h = tt
keys_free (op ∷ ops) aloft h = (
  all_each (λ (w : Aloft). share_key (op ∷ ops) w.ops ≡ false) (λ (w : Aloft). has_key op.key w.ops ≡ false) aloft (λ w e. (or_parts (has_key op.key w.ops) (share_key ops w.ops) e).0) h,
  keys_free ops aloft (all_each (λ (w : Aloft). share_key (op ∷ ops) w.ops ≡ false) (λ (w : Aloft). share_key ops w.ops ≡ false) aloft (λ w e. (or_parts (has_key op.key w.ops) (share_key ops w.ops) e).1) h),
)

free_goes : (records : List Entry) (places : List (ℕ × ℕ)) (aloft : List Aloft) (q : List ℕ) → All (Waits records places) aloft → UntoldFly records aloft → IsFree aloft q → LetsGo q records
free_goes records places aloft q waits fly free ts ops has none =
    let one = any_one (λ (w : Aloft). Waits records places w × (has_key q w.ops ≡ false)) (λ w. w.ts == ts) aloft (fly ts ops has none) (λ n d lt. (waits n d lt, free n d lt)) in
    let w = one.0 in
    let its : ops_of ts records ≡ Some w.ops = ap (λ t. ops_of t records) (sym (equal w.ts ts one.1)) ∙ one.2.0.ops in
    let ops_are : ops ≡ w.ops = cc in
    ap (has_key q) ops_are ∙ one.2.1

pub keys_told : (records : List Entry) (places : List (ℕ × ℕ)) (aloft : List Aloft) (ops : List RowOp) → IsLog records → All (Waits records places) aloft → UntoldFly records aloft
    → All (λ (w : Aloft). share_key ops w.ops ≡ false) aloft → KeysAreTold ops records
keys_told records places aloft ops log waits fly apart =
    each_op (λ op. IsFree aloft op.key) (λ op. AreTold (seen op.key records records)) ops (λ op free. key_told op.key records [] records refl log (free_goes records places aloft op.key waits fly free)) (keys_free ops aloft apart)

-- what no holder of its keys says of each that flies
pub none_holds : (ops : List RowOp) (aloft : List Aloft) → least (filter (λ w. share_key ops w.ops) (map flown_by aloft)) ≡ None → All (λ (w : Aloft). share_key ops w.ops ≡ false) aloft
none_holds ops [] none = all_none (λ (w : Aloft). share_key ops w.ops ≡ false)
none_holds ops (w ∷ aloft) none = elim (share_key ops w.ops) as (λ b. share_key ops w.ops ≡ b → least (cond b (flown_by w ∷ filter (λ v. share_key ops v.ops) (map flown_by aloft)) (filter (λ v. share_key ops v.ops) (map flown_by aloft))) ≡ None → All (λ (w : Aloft). share_key ops w.ops ≡ false) (w ∷ aloft)) [
  | true ↦ λ e h. absurd (some_none _ h)
  | false ↦ λ e h. all_cons (λ (w : Aloft). share_key ops w.ops ≡ false) w aloft e (none_holds ops aloft h)
] refl none
  where
    some_none : (n : ℕ) → Some n ≡ None → ⊥
    some_none n e = cc

-- A superblock that is lent for publishing.
use Rattle.std.proofs.Common.{◌≡◌, ◌≤◌, ◌-◌, ℕ, max, List, [], ◌∷◌, ◌++◌, refl, sym, ap, ◌∙◌, subst, arith, cond, true, false, length-append}
use Rattle.std.specs.Prelude.{nat_lt}
use Rattle.std.specs.List.{filter}
use Rattle.std.proofs.lemmas.Bool.{le-ltb, ltb-false}
use Rattle.kt_history.specs.Rows.{Row, Rows}
use Rattle.kt_history.specs.History.{Past, PastWrite, IsPast, IsPastUpTo, raise, rows_at}
use Rattle.kt_history.specs.Operations.{changes_on}
use Rattle.kt_history.proofs.RowLaws.{rows_at-raise}
use Rattle.kt_history.proofs.PastLaws.{ends_with_write, apart-changes_on}
use Rattle.kt_records.specs.declared.entry.Entry.{Entry}
use Rattle.kt_records.specs.declared.entry.Entry.TheVariants.{Replicate, Commit}
use Rattle.kt_journal.specs.Log.{IsLog}
use Rattle.kt_loglaws.specs.Replay.{last_of}
use Rattle.kt_loglaws.specs.Laws.{with_ops}
use Rattle.kt_loglaws.specs.Fronts.{with_records}
use Rattle.kt_content.specs.Places.{Super}
use Rattle.kt_content.specs.Content.{IsContent}
use Rattle.kt_content.specs.Replacing.{Follows}
use Rattle.kt_content.specs.Recovering.{AllTrue, IsRecovered, Lends, low_after, a_lent_superblock_is_recovered, a_superblock_published_at_once_is_recovered, a_superblock_that_holds_the_same_is_recovered}
use Rattle.kt_content.proofs.Replacing.{mark_kept, ops_raised, raised_is_one, publishes_once, publishes_twice}
use Rattle.kt_content.proofs.Recovering.{recovered, all_hold, runs_up}
use Rattle.kt_content.specs.Rules.{Rules}

-- from one mark to a later one, and on to the last
kept_twice : (a b : ℕ) (ws : List PastWrite) → a ≤ b → filter (λ (w : PastWrite). nat_lt b w.ts) (filter (λ (w : PastWrite). nat_lt a w.ts) ws) ≡ filter (λ (w : PastWrite). nat_lt b w.ts) ws
kept_twice a b [] le = refl
kept_twice a b (w ∷ ws) le = elim (nat_lt a w.ts) as (λ k. nat_lt a w.ts ≡ k → filter (λ (w : PastWrite). nat_lt b w.ts) (cond k (w ∷ filter (λ (w : PastWrite). nat_lt a w.ts) ws) (filter (λ (w : PastWrite). nat_lt a w.ts) ws)) ≡ cond (nat_lt b w.ts) (w ∷ filter (λ (w : PastWrite). nat_lt b w.ts) ws) (filter (λ (w : PastWrite). nat_lt b w.ts) ws)) [
  | true ↦ λ e. ap (λ l. cond (nat_lt b w.ts) (w ∷ l) l) (kept_twice a b ws le)
  | false ↦ λ e. kept_twice a b ws le ∙ sym (let low = ltb-false a w.ts e in let out : nat_lt b w.ts ≡ false = le-ltb b w.ts (omega arith) in rw out refl)
] refl

raise_twice : (past : Past) (a b : ℕ) → IsPast past → a ≤ b → raise (raise past a) b ≡ raise past b
raise_twice past a b is le =
    ap (λ (r : Rows). record { mark = b; base = r; writes = filter (λ (w : PastWrite). nat_lt b w.ts) (filter (λ (w : PastWrite). nat_lt a w.ts) past.writes) }) (rows_at-raise past a b is le)
    ∙ ap (λ (ws : List PastWrite). record { mark = b; base = rows_at past b; writes = ws }) (kept_twice a b past.writes le)

-- records that are to be true change places with a mark, as those that are told
true_raised : (fill : Row) (super : Super) (all : List Entry) (low : ℕ) (log : List Entry) (past : Past) (mark : ℕ) (run : List Entry) → AllTrue fill super all low log run → IsPastUpTo low past → past.mark ≤ mark → mark ≤ low
    → with_records fill (raise past mark) run ≡ raise (with_records fill past run) mark
true_raised fill super all low log past mark [] told ends le up = refl
true_raised fill super all low log past mark (Replicate ts ops ∷ run) told ends le up =
    let changes = changes_on fill (rows_at past (ts - 1)) ops in
    let next = ends_with_write low ts past changes ends told.0 (apart-changes_on fill (rows_at past (ts - 1)) ops told.1) in
    ap (λ p. with_records fill p run) (ops_raised fill past mark ts ops ends.is (omega (arith, told.0)))
    ∙ true_raised fill super all ts (log ++ Replicate ts ops ∷ []) (with_ops fill past ts ops) mark run told.3 next (omega (arith, mark_kept past ts changes)) (omega (arith, told.0))
true_raised fill super all low log past mark (Commit ts rows ∷ run) told ends le up = true_raised fill super all low (log ++ Commit ts rows ∷ []) past mark run told.1 ends le up

module _ (rules : Rules) (fill : Row) (old new : Super) (durable run : List Entry) (low high j : ℕ) (past : Past) (log : IsLog (durable ++ run)) (r : IsRecovered rules fill old durable run low past)
    (l : Lends old new durable high j past) where
  abbrev all : List Entry
  all = durable ++ run

  abbrev whole : Past
  whole = with_records fill past run

  -- with the old superblock
  pub was : IsContent rules fill old all (max old.c (last_of all)) (raise whole old.a)
  was = all_hold rules fill old durable run low past log r

  pub follows : Follows old new all (max old.c (last_of all)) (max new.c (last_of all)) j
  follows = record { enough = omega (arith, l.enough, length-append durable run); mark = l.mark; job = l.job; last = refl; up = let c = l.last in omega arith; marked = let m = l.marked in let u = l.up in omega arith }

  ends : IsPastUpTo (low_after low run) whole
  ends = (runs_up fill old low durable past run r.told r.ends).0

  later : past.mark ≤ new.a
  later = let m = r.marked in let n = l.mark in omega arith

  -- with the new one
  pub lent : IsContent rules fill new all (max new.c (last_of all)) (raise (raise whole old.a) new.a) → AllTrue fill new all high durable run → IsRecovered rules fill new durable run high past
  lent is t =
      let same : raise (raise whole old.a) new.a ≡ with_records fill (raise past new.a) run = raise_twice whole old.a new.a ends.is l.mark ∙ sym (true_raised fill new all high durable past new.a run t l.ends later l.marked) in
      let back = recovered rules fill new durable run (max new.c (last_of all)) high (raise past new.a) log (subst (λ (p : Past). IsContent rules fill new all (max new.c (last_of all)) p) same is)
      (raised_is_one past high new.a l.ends later l.marked) refl (let u = l.up in omega arith) t l.enough in
      record { content = back.0; told = back.1; ends = l.ends; marked = later; low_enough = l.marked; passes = r.passes }

pub lent_is_recovered : a_lent_superblock_is_recovered
lent_is_recovered rules fill keep old new durable run low high j past log r replaces l t =
    lent rules fill old new durable run low high j past log r l
    (publishes_twice rules fill keep old new (durable ++ run) (max old.c (last_of (durable ++ run))) (max new.c (last_of (durable ++ run))) j (raise (with_records fill past run) old.a)
    (was rules fill old new durable run low high j past log r l) replaces (follows rules fill old new durable run low high j past log r l) log) t

pub at_once_is_recovered : a_superblock_published_at_once_is_recovered
at_once_is_recovered rules fill keep old new durable run low high j past log r replaces l t =
    lent rules fill old new durable run low high j past log r l
    (publishes_once rules fill keep old new (durable ++ run) (max old.c (last_of (durable ++ run))) (max new.c (last_of (durable ++ run))) j (raise (with_records fill past run) old.a)
    (was rules fill old new durable run low high j past log r l) replaces (follows rules fill old new durable run low high j past log r l)) t

pub same_is_recovered : a_superblock_that_holds_the_same_is_recovered
same_is_recovered rules fill old new durable run low high j past log r l next t =
    lent rules fill old new durable run low high j past log r l (next (was rules fill old new durable run low high j past log r l)) t

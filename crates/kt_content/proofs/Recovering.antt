-- Recovering each front of a log.
use Rattle.std.proofs.Common.{◌≡◌, ◌≤◌, ℕ, max, List, [], ◌∷◌, ◌++◌, take, drop, length, Some, None, Ok, ◌-◌, refl, sym, ap, ◌∙◌, subst, arith, append_assoc, length-append}
use Rattle.std.proofs.lemmas.List.{append-nil, take-append-drop}
use Rattle.kt_history.specs.declared.operation.RowOp.{RowOp}
use Rattle.kt_history.specs.declared.target.Target.{Target}
use Rattle.kt_history.specs.Rows.{Row}
use Rattle.kt_history.specs.History.{Past, IsPastUpTo, raise, rows_at}
use Rattle.kt_history.specs.Operations.{changes_on}
use Rattle.kt_history.proofs.PastLaws.{ends_with_write, apart-changes_on}
use Rattle.kt_records.specs.declared.entry.Entry.{Entry}
use Rattle.kt_records.specs.declared.entry.Entry.TheVariants.{Replicate, Commit}
use Rattle.kt_records.specs.declared.entry.CommitRow.{CommitRow}
use Rattle.kt_journal.specs.Log.{IsLog}
use Rattle.kt_loglaws.specs.Replay.{last_of}
use Rattle.kt_loglaws.specs.Laws.{with_ops}
use Rattle.kt_loglaws.specs.Fronts.{with_records}
use Rattle.kt_loglaws.proofs.LogOrder.{AllAbove, above_behind, last_of-ends, last_of-alike}
use Rattle.kt_content.specs.Rules.{Rules}
use Rattle.kt_content.specs.Places.{Super, Held, at_first, standing, live_in, moved, OneLive}
use Rattle.kt_content.specs.KeyOps.{op_on, seen, played, decided, to_live}
use Rattle.kt_content.specs.Content.{IsContent, content_at}
use Rattle.kt_content.specs.MoreOps.{untold, TellsPlace, TellsOne}
use Rattle.kt_content.specs.Records.{RowsTell, IsTold, AllTold}
use Rattle.kt_content.specs.Recovering.{AllTrue, IsRecovered, a_content_is_recovered, each_front_is_recovered, low_after, a_replicate_more_is_recovered, a_commit_more_is_recovered, records_become_durable}
use Rattle.kt_content.proofs.Agreement.{standing-moved}
use Rattle.kt_content.proofs.MoreOps.{played-append, then_played}
use Rattle.kt_content.proofs.Records.{sees_more, KeyOf, key_of, stands_at, order_front, fronts_hold, commit_key, told_front}
use Rattle.kt_content.proofs.Replacing.{records_raised, mark_kept, raised_is_one}
use Rattle.kt_content.proofs.Fronts.{replicate_less, commit_less, commit_key_less, same_ops}
use Rattle.kt_content.proofs.Rules.{pass_join, pass_behind}
use Rattle.kt_content.proofs.Options.{two_oks}

-- what is told of an operation reads the rows before it alone
pub tells_alike : (fill : Row) (super : Super) (a b : Held) (ts : ℕ) (op : RowOp) (targets : List Target) → standing ts a ≡ standing ts b → TellsPlace fill super a ts op targets → TellsPlace fill super b ts op targets
tells_alike fill super a b ts op targets same t = ap (λ s. decided fill super s op (Some targets)) (sym same) ∙ t ∙ ap (λ s. Some (to_live fill op (live_in s))) same

pub ones_alike : (fill : Row) (super : Super) (a b : Held) (ts : ℕ) (op : RowOp) (targets : List Target) → standing ts a ≡ standing ts b → TellsOne fill super a ts op targets → TellsOne fill super b ts op targets
ones_alike fill super a b ts op targets same t = (tells_alike fill super a b ts op targets same t.0, subst OneLive same t.1)

-- a later write leaves them
module _ (fill : Row) (super : Super) (records : List Entry) (t : ℕ) (ops : List RowOp) (log : IsLog (records ++ Replicate t ops ∷ [])) where
  abbrev all : List Entry
  all = records ++ Replicate t ops ∷ []

  pub sees_all : (q : List ℕ) → seen q all all ≡ seen q records records ++ op_on q t ops None
  sees_all q = sees_more q records t ops log

  -- the content of a key, and what it becomes
  pub later : (q : List ℕ) (ts : ℕ) (held : Held) → ts ≤ t → KeyOf q t ops → content_at fill super records q ≡ Ok held → (next : Held) × (content_at fill super all q ≡ Ok next) × (standing ts next ≡ standing ts held)
  later q ts held le (KeyOf.not_there lacks none) is = (held, ap (played fill super (at_first q super)) (sees_all q ∙ ap (λ l. seen q records records ++ l) none ∙ append-nil (seen q records records)) ∙ is, refl)
  later q ts held le (KeyOf.there op key one every) is = (
    moved t (to_live fill op (live_in (standing t held))) held,
    ap (played fill super (at_first q super)) (sees_all q ∙ ap (λ l. seen q records records ++ l) one) ∙ played-append fill super (at_first q super) (seen q records records) (untold t op ∷ []) ∙ ap (then_played fill super (untold t op ∷ [])) is,
    standing-moved ts t (to_live fill op (live_in (standing t held))) held le,
  )

  pub tell_before : (ts : ℕ) (os : List RowOp) (rows : List CommitRow) → ts ≤ t → RowsTell fill super all ts os rows → RowsTell fill super records ts os rows
  tell_before ts [] [] le h = tt
  tell_before ts [] (row ∷ rows) le h = absurd h
  tell_before ts (o ∷ os) [] le h = absurd h
  tell_before ts (o ∷ os) (row ∷ rows) le h = (
    λ held is. (let next = later o.key ts held le (key_of o.key t ops) is in ones_alike fill super next.0 held ts o row.targets next.2 (h.0 next.0 next.1)),
    tell_before ts os rows le h.1,
  )

-- and a COMMIT leaves the contents
tell_same : (fill : Row) (super : Super) (a b : List Entry) (ts : ℕ) (os : List RowOp) (rows : List CommitRow) → ((q : List ℕ) (held : Held) → content_at fill super b q ≡ Ok held → content_at fill super a q ≡ Ok held)
    → RowsTell fill super a ts os rows → RowsTell fill super b ts os rows
tell_same fill super a b ts [] [] same h = tt
tell_same fill super a b ts [] (row ∷ rows) same h = absurd h
tell_same fill super a b ts (o ∷ os) [] same h = absurd h
tell_same fill super a b ts (o ∷ os) (row ∷ rows) same h = (λ held is. h.0 held (same o.key held is), tell_same fill super a b ts os rows same h.1)

pub behind_above : (ts : ℕ) (xs ys : List Entry) → AllAbove ts (xs ++ ys) → AllAbove ts ys
behind_above ts [] ys h = h
behind_above ts (Replicate t o ∷ xs) ys h = behind_above ts xs ys h.1
behind_above ts (Commit t rows ∷ xs) ys h = behind_above ts xs ys h

pub regroup : (base : List Entry) (r : Entry) (run : List Entry) → base ++ r ∷ run ≡ (base ++ r ∷ []) ++ run
regroup base r run = sym (append_assoc base (r ∷ []) run)

-- what is true in the content of all records is true in that of those before a run that is told
tell_through : (fill : Row) (super : Super) (low : ℕ) (base run : List Entry) (ts : ℕ) (os : List RowOp) (rows : List CommitRow) → IsLog (base ++ run) → AllTold fill super low base run → AllAbove ts run
    → RowsTell fill super (base ++ run) ts os rows → RowsTell fill super base ts os rows
tell_through fill super low base [] ts os rows log told above h = subst (λ (l : List Entry). RowsTell fill super l ts os rows) (append-nil base) h
tell_through fill super low base (Replicate t ops ∷ run) ts os rows log told above h =
    let log' : IsLog ((base ++ Replicate t ops ∷ []) ++ run) = subst (λ (l : List Entry). IsLog l) (regroup base (Replicate t ops) run) log in
    let next = tell_through fill super t (base ++ Replicate t ops ∷ []) run ts os rows log' told.3 above.1 (subst (λ (l : List Entry). RowsTell fill super l ts os rows) (regroup base (Replicate t ops) run) h) in
    tell_before fill super base t ops (order_front [] (base ++ Replicate t ops ∷ []) run log') ts os rows (let up = above.0 in omega arith) next
tell_through fill super low base (Commit t r ∷ run) ts os rows log told above h =
    let log' : IsLog ((base ++ Commit t r ∷ []) ++ run) = subst (λ (l : List Entry). IsLog l) (regroup base (Commit t r) run) log in
    let next = tell_through fill super low (base ++ Commit t r ∷ []) run ts os rows log' told.1 above (subst (λ (l : List Entry). RowsTell fill super l ts os rows) (regroup base (Commit t r) run) h) in
    tell_same fill super (base ++ Commit t r ∷ []) base ts os rows (λ q held is. commit_key fill super base t r q held (order_front [] (base ++ Commit t r ∷ []) run log') told.0 is) next

true_regrouped : (fill : Row) (super : Super) (a b : List Entry) (low : ℕ) (log run : List Entry) → a ≡ b → AllTrue fill super a low log run → AllTrue fill super b low log run
true_regrouped fill super a b low log run e t = subst (λ (l : List Entry). AllTrue fill super l low log run) e t

pub recovered : a_content_is_recovered
recovered rules fill super base [] c low past log is ends mark up t enough =
    (subst (λ (l : List Entry). IsContent rules fill super l (max super.c (last_of l)) past) (append-nil base) (subst (λ n. IsContent rules fill super (base ++ []) n past) is.last is), tt)
recovered rules fill super base (Replicate ts ops ∷ run) c low past log is ends mark up t enough =
    let same = regroup base (Replicate ts ops) run in
    let log' : IsLog ((base ++ Replicate ts ops ∷ []) ++ run) = subst (λ (l : List Entry). IsLog l) same log in
    let front = order_front [] (base ++ Replicate ts ops ∷ []) run log' in
    let changes = changes_on fill (rows_at past (ts - 1)) ops in
    let next = ends_with_write low ts past changes ends t.0 (apart-changes_on fill (rows_at past (ts - 1)) ops t.1) in
    let last : last_of (base ++ Replicate ts ops ∷ []) ≡ ts = last_of-ends [] base ts ops [] refl front in
    let rest = recovered rules fill super (base ++ Replicate ts ops ∷ []) run c ts (with_ops fill past ts ops) log' (subst (λ (l : List Entry). IsContent rules fill super l c (with_records fill (with_ops fill past ts ops) run)) same is) next (mark_kept past ts changes ∙ mark)
    (omega (arith, last)) (true_regrouped fill super (base ++ Replicate ts ops ∷ run) ((base ++ Replicate ts ops ∷ []) ++ run) ts (base ++ Replicate ts ops ∷ []) run same t.3)
    (omega (arith, enough, length-append base (Replicate ts ops ∷ []))) in
    (replicate_less rules fill super base (max super.c (last_of (base ++ Replicate ts ops ∷ []))) low past ts ops front rest.0 ends t.0 up mark t.1 t.2 enough, (t.0, t.1, t.2, rest.1))
recovered rules fill super base (Commit ts rows ∷ run) c low past log is ends mark up t enough =
    let same = regroup base (Commit ts rows) run in
    let log' : IsLog ((base ++ Commit ts rows ∷ []) ++ run) = subst (λ (l : List Entry). IsLog l) same log in
    let front = order_front [] (base ++ Commit ts rows ∷ []) run log' in
    let last : last_of (base ++ Commit ts rows ∷ []) ≡ last_of base = last_of-alike base (Commit ts rows ∷ []) [] refl ∙ ap last_of (append-nil base) in
    let rest = recovered rules fill super (base ++ Commit ts rows ∷ []) run c low past log' (subst (λ (l : List Entry). IsContent rules fill super l c (with_records fill past run)) same is) ends mark
    (omega (arith, last, up)) (true_regrouped fill super (base ++ Commit ts rows ∷ run) ((base ++ Commit ts rows ∷ []) ++ run) low (base ++ Commit ts rows ∷ []) run same t.1)
    (omega (arith, enough, length-append base (Commit ts rows ∷ []))) in
    let at = stands_at ts t.0.ops base t.0.stands in
    let above : AllAbove ts run =
    behind_above ts (at.1 ++ Commit ts rows ∷ []) run (above_behind [] at.0 ts t.0.ops ((at.1 ++ Commit ts rows ∷ []) ++ run)
    (subst (λ (l : List Entry). IsLog l) (ap (λ (l : List Entry). (l ++ Commit ts rows ∷ []) ++ run) at.2 ∙ ap (λ l. l ++ run) (append_assoc at.0 (Replicate ts t.0.ops ∷ at.1) (Commit ts rows ∷ [])) ∙ append_assoc at.0 (Replicate ts t.0.ops ∷ (at.1 ++ Commit ts rows ∷ [])) run) log')) in
    let tells : RowsTell fill super (base ++ Commit ts rows ∷ []) ts t.0.ops rows =
    tell_through fill super low (base ++ Commit ts rows ∷ []) run ts t.0.ops rows log' rest.1 above (subst (λ (l : List Entry). RowsTell fill super l ts t.0.ops rows) same t.0.tells) in
    let told : IsTold fill super (base ++ Commit ts rows ∷ []) ts rows = record { ops = t.0.ops; stands = same_ops ts base ts rows ∙ t.0.stands; tells = tells } in
    let less = commit_less rules fill super base (max super.c (last_of (base ++ Commit ts rows ∷ []))) past ts rows front rest.0 told enough in
    let here : RowsTell fill super base ts t.0.ops rows = tell_same fill super (base ++ Commit ts rows ∷ []) base ts t.0.ops rows
    (λ q held e. (let k = rest.0.keys q in
    let found = commit_key_less fill super base ts rows q k.held front told k.is in
    subst (λ (h : Held). content_at fill super (base ++ Commit ts rows ∷ []) q ≡ Ok h) (two_oks (content_at fill super base q) k.held held found e) k.is)) tells in
    (subst (λ n. IsContent rules fill super base n past) (ap (max super.c) last) less, (record { ops = t.0.ops; stands = t.0.stands; tells = here }, rest.1))

pub each_front : each_front_is_recovered
each_front rules fill super durable run low past n log r =
    let whole : take n run ++ drop n run ≡ run = take-append-drop n run in
    let front : AllTold fill super low durable (take n run) = told_front fill super low durable (take n run) (drop n run) (subst (λ (l : List Entry). AllTold fill super low durable l) (sym whole) r.told) in
    subst (λ (p : Past). IsContent rules fill super (durable ++ take n run) (max super.c (last_of (durable ++ take n run))) p) (records_raised fill super low durable past super.a (take n run) front r.ends r.marked r.low_enough)
    (fronts_hold rules fill super durable run (max super.c (last_of durable)) low (raise past super.a) n log r.content (raised_is_one past low super.a r.ends r.marked r.low_enough) r.told r.passes)

-- records that are queued, and that become durable

told_join : (fill : Row) (super : Super) (low : ℕ) (log xs ys : List Entry) → AllTold fill super low log xs → AllTold fill super (low_after low xs) (log ++ xs) ys → AllTold fill super low log (xs ++ ys)
told_join fill super low log [] ys told more = subst (λ (l : List Entry). AllTold fill super low l ys) (append-nil log) more
told_join fill super low log (Replicate ts ops ∷ xs) ys told more =
    (told.0, told.1, told.2, told_join fill super ts (log ++ Replicate ts ops ∷ []) xs ys told.3 (subst (λ (l : List Entry). AllTold fill super (low_after ts xs) l ys) (regroup log (Replicate ts ops) xs) more))
told_join fill super low log (Commit ts rows ∷ xs) ys told more =
    (told.0, told_join fill super low (log ++ Commit ts rows ∷ []) xs ys told.1 (subst (λ (l : List Entry). AllTold fill super (low_after low xs) l ys) (regroup log (Commit ts rows) xs) more))

told_behind : (fill : Row) (super : Super) (low : ℕ) (log xs ys : List Entry) → AllTold fill super low log (xs ++ ys) → AllTold fill super (low_after low xs) (log ++ xs) ys
told_behind fill super low log [] ys told = subst (λ (l : List Entry). AllTold fill super low l ys) (sym (append-nil log)) told
told_behind fill super low log (Replicate ts ops ∷ xs) ys told = subst (λ (l : List Entry). AllTold fill super (low_after ts xs) l ys) (sym (regroup log (Replicate ts ops) xs)) (told_behind fill super ts (log ++ Replicate ts ops ∷ []) xs ys told.3)
told_behind fill super low log (Commit ts rows ∷ xs) ys told = subst (λ (l : List Entry). AllTold fill super (low_after low xs) l ys) (sym (regroup log (Commit ts rows) xs)) (told_behind fill super low (log ++ Commit ts rows ∷ []) xs ys told.1)

-- a run goes up to its last write, and keeps the mark
pub runs_up : (fill : Row) (super : Super) (low : ℕ) (log : List Entry) (past : Past) (run : List Entry) → AllTold fill super low log run → IsPastUpTo low past → IsPastUpTo (low_after low run) (with_records fill past run) × (low ≤ low_after low run) × ((with_records fill past run).mark ≡ past.mark)
runs_up fill super low log past [] told ends = (ends, omega arith, refl)
runs_up fill super low log past (Replicate ts ops ∷ run) told ends =
    let changes = changes_on fill (rows_at past (ts - 1)) ops in
    let next = ends_with_write low ts past changes ends told.0 (apart-changes_on fill (rows_at past (ts - 1)) ops told.1) in
    let rest = runs_up fill super ts (log ++ Replicate ts ops ∷ []) (with_ops fill past ts ops) run told.3 next in
    (rest.0, omega (arith, told.0, rest.1), rest.2 ∙ mark_kept past ts changes)
runs_up fill super low log past (Commit ts rows ∷ run) told ends = runs_up fill super low (log ++ Commit ts rows ∷ []) past run told.1 ends

pub replicate_recovered : a_replicate_more_is_recovered
replicate_recovered rules fill super durable run low past ts ops r lt keys each takes = record {
  content = r.content;
  told = told_join fill super low durable run (Replicate ts ops ∷ []) r.told (lt, keys, each, tt);
  passes = pass_join rules fill run (Replicate ts ops ∷ []) r.passes (takes, tt);
  ends = r.ends;
  marked = r.marked;
  low_enough = r.low_enough;
}

pub commit_recovered : a_commit_more_is_recovered
commit_recovered rules fill super durable run low past ts rows r told = record {
  content = r.content;
  told = told_join fill super low durable run (Commit ts rows ∷ []) r.told (told, tt);
  passes = pass_join rules fill run (Commit ts rows ∷ []) r.passes tt;
  ends = r.ends;
  marked = r.marked;
  low_enough = r.low_enough;
}

pub take_all : (xs ys : List Entry) → take (length xs) (xs ++ ys) ≡ xs
take_all [] ys = refl
take_all (x ∷ xs) ys = ap (λ l. x ∷ l) (take_all xs ys)

-- so all records hold the past with the writes of the run
pub all_hold : (rules : Rules) (fill : Row) (super : Super) (durable run : List Entry) (low : ℕ) (past : Past) → IsLog (durable ++ run) → IsRecovered rules fill super durable run low past
    → IsContent rules fill super (durable ++ run) (max super.c (last_of (durable ++ run))) (raise (with_records fill past run) super.a)
all_hold rules fill super durable run low past log r =
    subst (λ (k : List Entry). IsContent rules fill super (durable ++ k) (max super.c (last_of (durable ++ k))) (raise (with_records fill past k) super.a)) (ap (λ k. take (length run) k) (sym (append-nil run)) ∙ take_all run [])
    (each_front rules fill super durable run low past (length run) log r)

pub become_durable : records_become_durable
become_durable rules fill super durable out queued low past log r =
    let front : AllTold fill super low durable out = told_front fill super low durable out queued r.told in
    let up = runs_up fill super low durable past out front r.ends in
    record {
      content = subst (λ (l : List Entry). IsContent rules fill super (durable ++ l) (max super.c (last_of (durable ++ l))) (raise (with_records fill past l) super.a)) (take_all out queued) (each_front rules fill super durable (out ++ queued) low past (length out) log r);
      told = told_behind fill super low durable out queued r.told;
      passes = pass_behind rules fill out queued r.passes;
      ends = up.0;
      marked = let m = r.marked in let e = up.2 in omega arith;
      low_enough = let a = r.low_enough in let b = up.1 in omega arith;
    }

-- The content under one superblock, with a record more.
use Rattle.std.proofs.Common.{◌≡◌, ◌≤◌, ◌<◌, ◌-◌, ℕ, max, List, [], ◌∷◌, ◌++◌, take, drop, Some, None, Option, Ok, refl, sym, ap, ◌∙◌, subst, arith, cond, true, false, append_assoc, length, length-append}
use Rattle.std.specs.Prelude.{◌==◌}
use Rattle.std.specs.Ordering.{eq_by_cmp}
use Rattle.std.specs.FinMap.Entries.{find}
use Rattle.std.proofs.lemmas.List.{append-nil, take-append-drop}
use Rattle.std.proofs.lemmas.Bool.{leb-true, le-leb, and_parts, and_from}
use Rattle.std.proofs.lemmas.Bool.Decides.{nat_tests}
use Rattle.kt_history.specs.declared.change.Change.{Change}
use Rattle.kt_history.specs.declared.operation.RowOp.{RowOp}
use Rattle.kt_history.specs.Rows.{Row, Changes, key_cmp}
use Rattle.kt_history.specs.History.{Past, PastWrite, IsPastUpTo, IsUpTo, rows_at, with_write}
use Rattle.kt_history.specs.Operations.{DifferentKeys, effect, effect_on, changes_on}
use Rattle.kt_history.proofs.PastLaws.{ends_with_write, apart-changes_on}
use Rattle.kt_records.specs.declared.entry.Entry.{Entry}
use Rattle.kt_records.specs.declared.entry.Entry.TheVariants.{Replicate, Commit}
use Rattle.kt_records.specs.declared.entry.CommitRow.{CommitRow}
use Rattle.kt_journal.specs.Order.{InOrder}
use Rattle.kt_journal.specs.Log.{IsLog}
use Rattle.kt_histlaws.specs.Histories.{past_hist, timeline, joined}
use Rattle.kt_history.specs.Stores.{Steps, Under}
use Rattle.kt_histlaws.specs.Pending.{has_key}
use Rattle.kt_histlaws.specs.Flights.{UpTo, AllOps}
use Rattle.kt_histlaws.proofs.Pending.{same_key, timeline-up_to}
use Rattle.kt_histlaws.proofs.Flown.{timeline-with_write, each_op, find-none}
use Rattle.kt_histlaws.proofs.Applying.{row-past}
use Rattle.kt_loglaws.specs.Replay.{commit_of, last_of}
use Rattle.kt_loglaws.specs.Laws.{with_ops}
use Rattle.kt_loglaws.specs.Fronts.{ops_of, with_records}
use Rattle.kt_loglaws.proofs.LogOrder.{same, equal, no_commit_yet, commit_of-append, commit_of-after, commit_of-alike, last_of-ends, last_of-alike, Lacks, AllAbove, lacks_before, above_behind, order_behind, one_commit, lacks_around}
use Rattle.kt_content.specs.Places.{Super, Held, at_first, standing}
use Rattle.kt_content.specs.KeyOps.{KeyOp, op_on, seen, played}
use Rattle.kt_content.specs.Content.{Shown, HoldsKey, IsContent, content_at, AreTold, UntoldLiveOnce, AboveFiles, changed_in}
use Rattle.kt_content.specs.Agreement.{OpsRise}
use Rattle.kt_content.specs.MoreOps.{with_op, with_change, untold, told, TellsOne}
use Rattle.kt_content.specs.Records.{RowsTell, IsTold, KeysAreTold, AllTold, a_replicate_adds_its_write, a_commit_changes_nothing, a_run_goes_on, each_front_holds_its_writes}
use Rattle.kt_content.proofs.MoreOps.{operation_more, true_names, before_is}
use Rattle.kt_content.proofs.LiveOnce.{once_more, once_told, shown_once}
use Rattle.kt_content.proofs.Seen.{first_differ, seen-alike, seen-apart, seen-append, seen_rise}
use Rattle.kt_content.proofs.AboveFiles.{told_above, more_above, later_above, above_told}
use Rattle.kt_content.specs.Rules.{Rules, RecordsPass}
use Rattle.kt_content.proofs.Rules.{pass_join, pass_front, pass_behind}

-- a REPLICATE more

-- the operation of a key, if there is one
pub data KeyOf (q : List ℕ) (ts : ℕ) (ops : List RowOp) : Type 1 where
  not_there : has_key q ops ≡ false → op_on q ts ops None ≡ [] → KeyOf q ts ops
  there : (op : RowOp) → op.key ≡ q → op_on q ts ops None ≡ untold ts op ∷ [] → ((P : RowOp → Type 0) → AllOps P ops → P op) → KeyOf q ts ops

pub key_of : (q : List ℕ) (ts : ℕ) (ops : List RowOp) → KeyOf q ts ops
key_of q ts [] = KeyOf.not_there refl refl
key_of q ts (op ∷ ops) = elim (eq_by_cmp key_cmp q op.key) as (λ b. eq_by_cmp key_cmp q op.key ≡ b → KeyOf q ts (op ∷ ops)) [
  | true ↦ λ e. KeyOf.there op (sym (same_key q op.key e)) (rw e refl) (λ P all. all.0)
  | false ↦ λ e. elim (key_of q ts ops) [
    | KeyOf.not_there lacks is ↦ KeyOf.not_there (rw e lacks) (rw e is)
    | KeyOf.there o key is each ↦ KeyOf.there o key (rw e is) (λ P all. each P all.1)
  ]
] refl

pub up_to_under : (c ts : ℕ) (steps : Steps) → UpTo c steps → c < ts → Under ts steps
up_to_under c ts [] up lt = tt
up_to_under c ts (x ∷ steps) up lt = (omega (arith, up.0), up_to_under c ts steps up.1 lt)

-- the history of a key in the past with the write
module _ (fill : Row) (past : Past) (c ts : ℕ) (ops : List RowOp) (ends : IsPastUpTo c past) (lt : c < ts) (keys : DifferentKeys ops) where
  abbrev changes : Changes
  changes = changes_on fill (rows_at past (ts - 1)) ops

  grown : (q : List ℕ) (o : Option Change) → find key_cmp q changes ≡ o → past_hist q (with_ops fill past ts ops) ≡ with_change ts o (past_hist q past)
  grown q o e = base changes ∙ ap (λ s. record { first = find key_cmp q past.base; steps = s }) (timeline-with_write q past ts changes ∙ ap (λ o. timeline q past.writes ++ joined ts o []) e) ∙ last o
    where
      base : (cs : Changes) → past_hist q (with_write past ts cs) ≡ record { first = find key_cmp q past.base; steps = timeline q (with_write past ts cs).writes }
      base [] = refl
      base (x ∷ cs) = refl

      last : (o : Option Change) → record { first = find key_cmp q past.base; steps = timeline q past.writes ++ joined ts o [] } ≡ with_change ts o (past_hist q past)
      last None = ap (λ s. record { first = find key_cmp q past.base; steps = s }) (append-nil (timeline q past.writes))
      last (Some x) = refl

  pub none_grown : (q : List ℕ) → has_key q ops ≡ false → past_hist q (with_ops fill past ts ops) ≡ past_hist q past
  none_grown q lacks = grown q None (find-none fill (rows_at past (ts - 1)) ops q lacks)

  pub op_grown : (op : RowOp) → find key_cmp op.key changes ≡ (effect_on fill (rows_at past (ts - 1)) op).0 → past_hist op.key (with_ops fill past ts ops) ≡ with_op fill ts op (past_hist op.key past)
  op_grown op e = grown op.key (effect_on fill (rows_at past (ts - 1)) op).0 e
      ∙ ap (λ r. with_change ts (effect fill op.kind op.cells r).0 (past_hist op.key past)) (sym (row-past (ts - 1) op.key past ends.is) ∙ sym (before_is ts (past_hist op.key past) (omega arith)))

  pub each_grown : AllOps (λ op. find key_cmp op.key changes ≡ (effect_on fill (rows_at past (ts - 1)) op).0) ops
  each_grown = each_op fill (rows_at past (ts - 1)) ops changes keys (λ q h. refl)

  pub ends_grown : IsPastUpTo ts (with_ops fill past ts ops)
  ends_grown = ends_with_write c ts past changes ends lt (apart-changes_on fill (rows_at past (ts - 1)) ops keys)

pub mark_stays : (fill : Row) (past : Past) (ts : ℕ) (ops : List RowOp) → (with_ops fill past ts ops).mark ≡ past.mark
mark_stays fill past ts ops = elim (changes_on fill (rows_at past (ts - 1)) ops) as (λ cs. (with_write past ts cs).mark ≡ past.mark) [
  | [] ↦ refl
  | c ∷ cs ↦ refl
]

-- what a key sees with it
pub sees_more : (q : List ℕ) (records : List Entry) (ts : ℕ) (ops : List RowOp) → IsLog (records ++ Replicate ts ops ∷ [])
    → seen q (records ++ Replicate ts ops ∷ []) (records ++ Replicate ts ops ∷ []) ≡ seen q records records ++ op_on q ts ops None
sees_more q records ts ops log =
    let all = records ++ Replicate ts ops ∷ [] in
    let none_yet : commit_of ts all ≡ None = commit_of-append ts records (Replicate ts ops ∷ []) refl ∙ no_commit_yet [] records ts ops [] refl log in
    seen-append q all records (Replicate ts ops ∷ []) ∙ ap (λ l. l ++ (op_on q ts ops (commit_of ts all) ++ [])) (seen-alike q all records records (λ t. commit_of-append t records (Replicate ts ops ∷ []) refl))
    ∙ ap (λ l. seen q records records ++ l) (append-nil (op_on q ts ops (commit_of ts all)) ∙ ap (op_on q ts ops) none_yet)

module _ (rules : Rules) (fill : Row) (super : Super) (records : List Entry) (c : ℕ) (past : Past) (ts : ℕ) (ops : List RowOp) (low : ℕ) (log : IsLog (records ++ Replicate ts ops ∷ [])) (is : IsContent rules fill super records c past) (ends : IsPastUpTo low past) (lt : low < ts) (keys : DifferentKeys ops) where
  abbrev all : List Entry
  all = records ++ Replicate ts ops ∷ []

  sees : (q : List ℕ) → seen q all all ≡ seen q records records ++ op_on q ts ops None
  sees q = sees_more q records ts ops log

  key_more : KeysAreTold ops records → (q : List ℕ) → KeyOf q ts ops → HoldsKey fill super all q (past_hist q (with_ops fill past ts ops))
  key_more each q (KeyOf.not_there lacks none) =
      let was = is.keys q in
      record {
        held = was.held;
        is = ap (played fill super (at_first q super)) (sees q ∙ ap (λ l. seen q records records ++ l) none ∙ append-nil (seen q records records)) ∙ was.is;
        shown = subst (Shown super.a was.held) (sym (none_grown fill past low ts ops ends lt keys q lacks)) was.shown;
        once = subst (UntoldLiveOnce was.held) (sym (sees q ∙ ap (λ l. seen q records records ++ l) none ∙ append-nil (seen q records records))) was.once;
        above = subst (AboveFiles fill q super was.held) (sym (sees q ∙ ap (λ l. seen q records records ++ l) none ∙ append-nil (seen q records records))) was.above;
      }
  key_more each q (KeyOf.there op key one every) = subst (λ (k : List ℕ). HoldsKey fill super all k (past_hist k (with_ops fill past ts ops))) key
      (let was = is.keys op.key in
      let above : super.a < ts = let m = ends.mark in omega (arith, is.mark) in
      let next = operation_more fill super super.a ts (at_first op.key super) was.held (past_hist op.key past) (seen op.key records records) op (first_differ op.key super is.numbers) refl was.is was.shown
      (up_to_under low ts (timeline op.key past.writes) (timeline-up_to op.key low past.writes ends.writes) lt) above in
      record {
        held = next.0;
        is = ap (played fill super (at_first op.key super)) (sees op.key ∙ ap (λ l. seen op.key records records ++ l) (subst (λ (k : List ℕ). op_on k ts ops None ≡ untold ts op ∷ []) (sym key) one)) ∙ next.1;
        shown = subst (Shown super.a next.0) (sym (op_grown fill past low ts ops ends lt keys op (every (λ o. find key_cmp o.key (changes_on fill (rows_at past (ts - 1)) ops) ≡ (effect_on fill (rows_at past (ts - 1)) o).0) (each_grown fill past low ts ops ends lt keys)))) next.2;
        once = subst (UntoldLiveOnce next.0) (sym (sees op.key ∙ ap (λ l. seen op.key records records ++ l) (subst (λ (k : List ℕ). op_on k ts ops None ≡ untold ts op ∷ []) (sym key) one)))
            (once_more next.0 (seen op.key records records) (untold ts op) (every (λ (o : RowOp). AreTold (seen o.key records records)) each)
            (shown_once super.a ts next.0 (with_op fill ts op (past_hist op.key past)) next.2 above));
        above = subst (AboveFiles fill op.key super next.0) (sym (sees op.key ∙ ap (λ l. seen op.key records records ++ l) (subst (λ (k : List ℕ). op_on k ts ops None ≡ untold ts op ∷ []) (sym key) one)))
            (more_above fill op.key super next.0 (seen op.key records records) (untold ts op)
            (told_above fill op.key super was.held next.0 (seen op.key records records) (every (λ (o : RowOp). AreTold (seen o.key records records)) each) was.above)
            (later_above fill op.key super super.a ts was.held (past_hist op.key past) (seen op.key records records) was.is was.shown
            (up_to_under low ts (timeline op.key past.writes) (timeline-up_to op.key low past.writes ends.writes) lt) above (changed_in fill super (standing ts next.0) op None)));
      })

up_to_later : (c d : ℕ) (ws : List PastWrite) → IsUpTo c ws → c ≤ d → IsUpTo d ws
up_to_later c d [] h le = refl
up_to_later c d (w ∷ ws) h le = let low : w.ts ≤ c = leb-true w.ts c (and_parts _ _ h).0 in and_from _ _ (le-leb w.ts d (omega arith)) (up_to_later c d ws (and_parts _ _ h).1 le)

pub ends_later : (c d : ℕ) (past : Past) → c ≤ d → IsPastUpTo c past → IsPastUpTo d past
ends_later c d past le e = record { is = e.is; mark = let m = e.mark in omega arith; writes = up_to_later c d past.writes e.writes le }

pub replicate_more : a_replicate_adds_its_write
replicate_more rules fill super records c low past ts ops log is ends lt keys each takes = (
  record {
    enough = omega (arith, is.enough, length-append records (Replicate ts ops ∷ []));
    numbers = is.numbers;
    mark = mark_stays fill past ts ops ∙ is.mark;
    last = let e : last_of (records ++ Replicate ts ops ∷ []) ≡ ts = last_of-ends [] records ts ops [] refl log in omega arith;
    ends = ends_later ts (max super.c ts) (with_ops fill past ts ops) (omega arith) (ends_grown fill past low ts ops ends lt keys);
    passes = pass_join rules fill records (Replicate ts ops ∷ []) is.passes (takes, tt);
    files = is.files;
    keys = λ q. key_more rules fill super records c past ts ops low log is ends lt keys each q (key_of q ts ops);
  },
  ends_grown fill past low ts ops ends lt keys,
)

-- a COMMIT more

-- where the REPLICATE of a write stands
pub stands_at : (ts : ℕ) (ops : List RowOp) (log : List Entry) → ops_of ts log ≡ Some ops → (xs : List Entry) × (ys : List Entry) × (log ≡ xs ++ Replicate ts ops ∷ ys)
stands_at ts ops [] h = absurd (let e : None ≡ Some ops = h in cc)
stands_at ts ops (Commit t rows ∷ log) h = let rest = stands_at ts ops log h in (Commit t rows ∷ rest.0, rest.1, ap (λ l. Commit t rows ∷ l) rest.2)
stands_at ts ops (Replicate t o ∷ log) h =
    elim (t == ts) as (λ b. (t == ts) ≡ b → cond b (Some o) (ops_of ts log) ≡ Some ops → (xs : List Entry) × (ys : List Entry) × (Replicate t o ∷ log ≡ xs ++ Replicate ts ops ∷ ys)) [
      | true ↦ λ e found. let here : o ≡ ops = cc in let at = equal t ts e in ([], log, rw (here, at) refl)
      | false ↦ λ e found. let rest = stands_at ts ops log found in (Replicate t o ∷ rest.0, rest.1, ap (λ l. Replicate t o ∷ l) rest.2)
    ] refl h

pub order_front : (before xs ys : List Entry) → InOrder before (xs ++ ys) → InOrder before xs
order_front before [] ys h = tt
order_front before (x ∷ xs) ys h = (h.0, h.1, order_front (x ∷ before) xs ys h.2)

-- what a COMMIT says of a key
pub data RowOf (fill : Row) (super : Super) (records : List Entry) (q : List ℕ) (ts : ℕ) (ops : List RowOp) (rows : List CommitRow) : Type 0 where
  nothing : op_on q ts ops None ≡ [] → op_on q ts ops (Some rows) ≡ [] → RowOf fill super records q ts ops rows
  one : (op : RowOp) (row : CommitRow) → op.key ≡ q → op_on q ts ops None ≡ untold ts op ∷ [] → op_on q ts ops (Some rows) ≡ told ts op row.targets ∷ []
      → ((held : Held) → content_at fill super records op.key ≡ Ok held → TellsOne fill super held ts op row.targets) → RowOf fill super records q ts ops rows

pub row_of_key : (fill : Row) (super : Super) (records : List Entry) (q : List ℕ) (ts : ℕ) (ops : List RowOp) (rows : List CommitRow) → RowsTell fill super records ts ops rows → RowOf fill super records q ts ops rows
row_of_key fill super records q ts [] [] h = RowOf.nothing refl refl
row_of_key fill super records q ts [] (row ∷ rows) h = absurd h
row_of_key fill super records q ts (op ∷ ops) [] h = absurd h
row_of_key fill super records q ts (op ∷ ops) (row ∷ rows) h = elim (eq_by_cmp key_cmp q op.key) as (λ b. eq_by_cmp key_cmp q op.key ≡ b → RowOf fill super records q ts (op ∷ ops) (row ∷ rows)) [
  | true ↦ λ e. RowOf.one op row (sym (same_key q op.key e)) (rw e refl) (rw e refl) h.0
  | false ↦ λ e. elim (row_of_key fill super records q ts ops rows h.1) [
    | RowOf.nothing none some ↦ RowOf.nothing (rw e none) (rw e some)
    | RowOf.one o r key none some tells ↦ RowOf.one o r key (rw e none) (rw e some) tells
  ]
] refl

other_commit : (t ts : ℕ) (rows : List CommitRow) (ys : List Entry) → (t == ts) ≡ false → commit_of t (Commit ts rows ∷ ys) ≡ commit_of t ys
other_commit t ts rows ys h = let e : (ts == t) ≡ false = grind (arith, nat_tests) in rw e refl

pub own_commit : (ts : ℕ) (rows : List CommitRow) (ys : List Entry) → commit_of ts (Commit ts rows ∷ ys) ≡ Some rows
own_commit ts rows ys = rw (same ts) refl

module _ (fill : Row) (super : Super) (xs : List Entry) (ts : ℕ) (ops : List RowOp) (ys : List Entry) (rows : List CommitRow)
    (log : IsLog (xs ++ Replicate ts ops ∷ (ys ++ Commit ts rows ∷ []))) where
  abbrev short : List Entry
  short = xs ++ Replicate ts ops ∷ ys

  abbrev long : List Entry
  long = xs ++ Replicate ts ops ∷ (ys ++ Commit ts rows ∷ [])

  others : (t : ℕ) → (t == ts) ≡ false → commit_of t long ≡ commit_of t short
  others t h = commit_of-alike t xs (Replicate ts ops ∷ (ys ++ Commit ts rows ∷ [])) (Replicate ts ops ∷ ys)
      (commit_of-alike t ys (Commit ts rows ∷ []) [] (other_commit t ts rows [] h) ∙ ap (commit_of t) (append-nil ys))

  above : AllAbove ts (ys ++ Commit ts rows ∷ [])
  above = above_behind [] xs ts ops (ys ++ Commit ts rows ∷ []) log

  around : Lacks ts ys
  around = subst (Lacks ts) (append-nil ys) (lacks_around ts ys rows [] above).1

  before : commit_of ts xs ≡ None
  before = no_commit_yet [] xs ts ops (ys ++ Commit ts rows ∷ []) refl log

  none_behind : commit_of ts ys ≡ None
  none_behind = let behind = order_behind [] xs ts ops (ys ++ Commit ts rows ∷ []) log in (one_commit ts (Replicate ts ops ∷ behind.0) ys rows [] (lacks_around ts ys rows [] above).2 behind.1).0

  its : commit_of ts long ≡ Some rows
  its = commit_of-after ts xs (Replicate ts ops ∷ (ys ++ Commit ts rows ∷ [])) before ∙ commit_of-after ts ys (Commit ts rows ∷ []) none_behind ∙ own_commit ts rows []

  none : commit_of ts short ≡ None
  none = commit_of-after ts xs (Replicate ts ops ∷ ys) before ∙ none_behind

  abbrev sees_with : List ℕ → Option (List CommitRow) → List KeyOp
  sees_with q o = seen q short xs ++ (op_on q ts ops o ++ seen q short ys)

  pub sees_long : (q : List ℕ) → seen q long long ≡ sees_with q (Some rows)
  sees_long q = seen-append q long xs (Replicate ts ops ∷ (ys ++ Commit ts rows ∷ []))
      ∙ ap (λ l. l ++ (op_on q ts ops (commit_of ts long) ++ seen q long (ys ++ Commit ts rows ∷ []))) (seen-apart q ts long short xs others (lacks_before [] xs ts ops (ys ++ Commit ts rows ∷ []) log))
      ∙ ap (λ o. seen q short xs ++ (op_on q ts ops o ++ seen q long (ys ++ Commit ts rows ∷ []))) its
      ∙ ap (λ l. seen q short xs ++ (op_on q ts ops (Some rows) ++ l)) (seen-append q long ys (Commit ts rows ∷ []) ∙ append-nil (seen q long ys) ∙ seen-apart q ts long short ys others around)

  pub sees_short : (q : List ℕ) → seen q short short ≡ sees_with q None
  sees_short q = seen-append q short xs (Replicate ts ops ∷ ys) ∙ ap (λ o. seen q short xs ++ (op_on q ts ops o ++ seen q short ys)) none

  short_order : InOrder [] short
  short_order = order_front [] short (Commit ts rows ∷ []) (subst (InOrder []) (sym (append_assoc xs (Replicate ts ops ∷ ys) (Commit ts rows ∷ []))) log)

  pub key_same : (q : List ℕ) (held : Held) → RowOf fill super short q ts ops rows → content_at fill super short q ≡ Ok held → content_at fill super long q ≡ Ok held
  key_same q held (RowOf.nothing is_none is_some) was = ap (played fill super (at_first q super)) (sees_long q ∙ ap (λ l. seen q short xs ++ (l ++ seen q short ys)) (is_some ∙ sym is_none) ∙ sym (sees_short q)) ∙ was
  key_same q held (RowOf.one op row key is_none is_some tell) was =
      let rise : OpsRise 0 (seen q short xs ++ untold ts op ∷ seen q short ys) = subst (OpsRise 0) (sees_short q ∙ ap (λ l. seen q short xs ++ (l ++ seen q short ys)) is_none) (seen_rise q short [] short short_order) in
      let old : played fill super (at_first q super) (seen q short xs ++ untold ts op ∷ seen q short ys) ≡ Ok held =
      ap (played fill super (at_first q super)) (sym (sees_short q ∙ ap (λ l. seen q short xs ++ (l ++ seen q short ys)) is_none)) ∙ was in
      ap (played fill super (at_first q super)) (sees_long q ∙ ap (λ l. seen q short xs ++ (l ++ seen q short ys)) is_some)
      ∙ (true_names fill super 0 (at_first q super) held (seen q short xs) ts op row.targets (seen q short ys) rise (tell held (subst (λ (k : List ℕ). content_at fill super short k ≡ Ok held) (sym key) was)).0).0 old

  once_same : (q : List ℕ) (held : Held) → RowOf fill super short q ts ops rows → UntoldLiveOnce held (seen q short short) → UntoldLiveOnce held (seen q long long)
  once_same q held (RowOf.nothing is_none is_some) once =
      subst (UntoldLiveOnce held) (sees_short q ∙ ap (λ l. seen q short xs ++ (l ++ seen q short ys)) (is_none ∙ sym is_some) ∙ sym (sees_long q)) once
  once_same q held (RowOf.one op row key is_none is_some tell) once =
      subst (UntoldLiveOnce held) (sym (sees_long q ∙ ap (λ l. seen q short xs ++ (l ++ seen q short ys)) is_some))
      (once_told held (seen q short xs) ts op row.targets (seen q short ys) (subst (UntoldLiveOnce held) (sees_short q ∙ ap (λ l. seen q short xs ++ (l ++ seen q short ys)) is_none) once))

  above_same : (q : List ℕ) (held : Held) → RowOf fill super short q ts ops rows → content_at fill super short q ≡ Ok held → AboveFiles fill q super held (seen q short short)
      → AboveFiles fill q super held (seen q long long)
  above_same q held (RowOf.nothing is_none is_some) was above =
      subst (AboveFiles fill q super held) (sees_short q ∙ ap (λ l. seen q short xs ++ (l ++ seen q short ys)) (is_none ∙ sym is_some) ∙ sym (sees_long q)) above
  above_same q held (RowOf.one op row key is_none is_some tell) was above =
      let tells = (tell held (subst (λ (k : List ℕ). content_at fill super short k ≡ Ok held) (sym key) was)).0 in
      subst (AboveFiles fill q super held) (sym (sees_long q ∙ ap (λ l. seen q short xs ++ (l ++ seen q short ys)) is_some))
      (above_told fill q super held ts op row.targets tells (seen q short xs) (seen q short ys)
      (subst (AboveFiles fill q super held) (sees_short q ∙ ap (λ l. seen q short xs ++ (l ++ seen q short ys)) is_none) above))

  longer : length short ≤ length long
  longer = omega (arith, length-append xs (Replicate ts ops ∷ ys), length-append xs (Replicate ts ops ∷ (ys ++ Commit ts rows ∷ [])), length-append ys (Commit ts rows ∷ []))

  pub all_same : (rules : Rules) (c : ℕ) (past : Past) → RowsTell fill super short ts ops rows → IsContent rules fill super short c past → IsContent rules fill super long c past
  all_same rules c past tells is = record {
    enough = omega (arith, is.enough, longer);
    numbers = is.numbers;
    mark = is.mark;
    last = is.last ∙ ap (max super.c) (sym (last_of-alike xs (Replicate ts ops ∷ (ys ++ Commit ts rows ∷ [])) (Replicate ts ops ∷ ys) (ap (λ n. max ts n) (last_of-alike ys (Commit ts rows ∷ []) [] refl ∙ ap last_of (append-nil ys)))));
    ends = is.ends;
    passes = let parts = pass_behind rules fill xs (Replicate ts ops ∷ ys) is.passes in pass_join rules fill xs (Replicate ts ops ∷ (ys ++ Commit ts rows ∷ [])) (pass_front rules fill xs (Replicate ts ops ∷ ys) is.passes) (parts.0, pass_join rules fill ys (Commit ts rows ∷ []) parts.1 tt);
    files = is.files;
    keys = λ q. let was = is.keys q in record { held = was.held; is = key_same q was.held (row_of_key fill super short q ts ops rows tells) was.is; shown = was.shown; once = once_same q was.held (row_of_key fill super short q ts ops rows tells) was.once; above = above_same q was.held (row_of_key fill super short q ts ops rows tells) was.is was.above };
  }

-- and so of each key
pub commit_key : (fill : Row) (super : Super) (records : List Entry) (ts : ℕ) (rows : List CommitRow) (q : List ℕ) (held : Held) → IsLog (records ++ Commit ts rows ∷ []) → IsTold fill super records ts rows
    → content_at fill super records q ≡ Ok held → content_at fill super (records ++ Commit ts rows ∷ []) q ≡ Ok held
commit_key fill super records ts rows q held log told is =
    let at = stands_at ts told.ops records told.stands in
    let place : records ++ Commit ts rows ∷ [] ≡ at.0 ++ Replicate ts told.ops ∷ (at.1 ++ Commit ts rows ∷ []) = ap (λ (l : List Entry). l ++ Commit ts rows ∷ []) at.2 ∙ append_assoc at.0 (Replicate ts told.ops ∷ at.1) (Commit ts rows ∷ []) in
    subst (λ (l : List Entry). content_at fill super l q ≡ Ok held) (sym place)
    (key_same fill super at.0 ts told.ops at.1 rows (subst (λ (l : List Entry). IsLog l) place log) q held
    (row_of_key fill super (at.0 ++ Replicate ts told.ops ∷ at.1) q ts told.ops rows (subst (λ (l : List Entry). RowsTell fill super l ts told.ops rows) at.2 told.tells))
    (subst (λ (l : List Entry). content_at fill super l q ≡ Ok held) at.2 is))

pub commit_more : a_commit_changes_nothing
commit_more rules fill super records c past ts rows log is told =
    let at = stands_at ts told.ops records told.stands in
    let place : records ++ Commit ts rows ∷ [] ≡ at.0 ++ Replicate ts told.ops ∷ (at.1 ++ Commit ts rows ∷ []) = ap (λ (l : List Entry). l ++ Commit ts rows ∷ []) at.2 ∙ append_assoc at.0 (Replicate ts told.ops ∷ at.1) (Commit ts rows ∷ []) in
    subst (λ (l : List Entry). IsContent rules fill super l c past) (sym place)
    (all_same fill super at.0 ts told.ops at.1 rows (subst (λ (l : List Entry). IsLog l) place log) rules c past (subst (λ (l : List Entry). RowsTell fill super l ts told.ops rows) at.2 told.tells)
    (subst (λ (l : List Entry). IsContent rules fill super l c past) at.2 is))

-- records that are told

last_is : (rules : Rules) (fill : Row) (super : Super) (records : List Entry) (c : ℕ) (past : Past) → IsContent rules fill super records c past → IsContent rules fill super records (max super.c (last_of records)) past
last_is rules fill super records c past is = subst (λ n. IsContent rules fill super records n past) is.last is

pub goes_on : a_run_goes_on
goes_on rules fill super base [] c low past log is ends told takes = subst (λ (l : List Entry). IsContent rules fill super l (max super.c (last_of l)) past) (sym (append-nil base)) (last_is rules fill super base c past is)
goes_on rules fill super base (Replicate ts ops ∷ run) c low past log is ends told takes =
    let joined : (base ++ Replicate ts ops ∷ []) ++ run ≡ base ++ Replicate ts ops ∷ run = append_assoc base (Replicate ts ops ∷ []) run in
    let log' : IsLog ((base ++ Replicate ts ops ∷ []) ++ run) = subst (λ (l : List Entry). IsLog l) (sym joined) log in
    let next = replicate_more rules fill super base c low past ts ops (order_front [] (base ++ Replicate ts ops ∷ []) run log') is ends told.0 told.1 told.2 takes.0 in
    subst (λ (l : List Entry). IsContent rules fill super l (max super.c (last_of l)) (with_records fill (with_ops fill past ts ops) run)) joined (goes_on rules fill super (base ++ Replicate ts ops ∷ []) run (max super.c ts) ts (with_ops fill past ts ops) log' next.0 next.1 told.3 takes.1)
goes_on rules fill super base (Commit ts rows ∷ run) c low past log is ends told takes =
    let joined : (base ++ Commit ts rows ∷ []) ++ run ≡ base ++ Commit ts rows ∷ run = append_assoc base (Commit ts rows ∷ []) run in
    let log' : IsLog ((base ++ Commit ts rows ∷ []) ++ run) = subst (λ (l : List Entry). IsLog l) (sym joined) log in
    let next = commit_more rules fill super base c past ts rows (order_front [] (base ++ Commit ts rows ∷ []) run log') is told.0 in
    subst (λ (l : List Entry). IsContent rules fill super l (max super.c (last_of l)) (with_records fill past run)) joined (goes_on rules fill super (base ++ Commit ts rows ∷ []) run c low past log' next ends told.1 takes)

pub told_front : (fill : Row) (super : Super) (low : ℕ) (log xs ys : List Entry) → AllTold fill super low log (xs ++ ys) → AllTold fill super low log xs
told_front fill super low log [] ys told = tt
told_front fill super low log (Replicate ts ops ∷ xs) ys told = (told.0, told.1, told.2, told_front fill super ts (log ++ Replicate ts ops ∷ []) xs ys told.3)
told_front fill super low log (Commit ts rows ∷ xs) ys told = (told.0, told_front fill super low (log ++ Commit ts rows ∷ []) xs ys told.1)

pub fronts_hold : each_front_holds_its_writes
fronts_hold rules fill super base run c low past n log is ends told takes =
    let whole : take n run ++ drop n run ≡ run = take-append-drop n run in
    goes_on rules fill super base (take n run) c low past
    (order_front [] (base ++ take n run) (drop n run) (subst (λ (l : List Entry). IsLog l) (ap (λ l. base ++ l) (sym whole) ∙ sym (append_assoc base (take n run) (drop n run))) log))
    is ends (told_front fill super low base (take n run) (drop n run) (subst (λ (l : List Entry). AllTold fill super low base l) (sym whole) told))
    (pass_front rules fill (take n run) (drop n run) (subst (λ (l : List Entry). RecordsPass rules fill l) (sym whole) takes))

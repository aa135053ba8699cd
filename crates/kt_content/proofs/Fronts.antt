-- The last record of a log taken off again, over whole contents.
use Rattle.std.proofs.Common.{◌≡◌, ◌<◌, ◌-◌, ℕ, max, List, [], ◌∷◌, ◌++◌, Some, None, Ok, refl, sym, ap, ◌∙◌, subst, arith, cond, append_assoc, ◌≤◌, length}
use Rattle.std.specs.Prelude.{◌==◌}
use Rattle.std.specs.FinMap.Entries.{find}
use Rattle.std.proofs.lemmas.List.{append-nil}
use Rattle.kt_history.specs.declared.operation.RowOp.{RowOp}
use Rattle.kt_history.specs.Rows.{Row, key_cmp}
use Rattle.kt_history.specs.History.{Past, IsPastUpTo, rows_at}
use Rattle.kt_history.specs.Operations.{DifferentKeys, effect_on, changes_on}
use Rattle.kt_records.specs.declared.entry.Entry.{Entry}
use Rattle.kt_records.specs.declared.entry.Entry.TheVariants.{Replicate, Commit}
use Rattle.kt_records.specs.declared.entry.CommitRow.{CommitRow}
use Rattle.kt_journal.specs.Order.{InOrder}
use Rattle.kt_journal.specs.Log.{IsLog}
use Rattle.kt_histlaws.specs.Histories.{past_hist, timeline}
use Rattle.kt_histlaws.proofs.Pending.{timeline-up_to}
use Rattle.kt_loglaws.specs.Replay.{last_of}
use Rattle.kt_loglaws.specs.Laws.{with_ops}
use Rattle.kt_loglaws.specs.Fronts.{ops_of}
use Rattle.kt_loglaws.proofs.LogOrder.{last_of-alike}
use Rattle.kt_content.specs.Places.{Super, Held, at_first}
use Rattle.kt_content.specs.KeyOps.{op_on, seen, played}
use Rattle.kt_content.specs.Content.{Shown, HoldsKey, IsContent, content_at, AreTold, UntoldLiveOnce, AboveFiles}
use Rattle.kt_content.specs.Agreement.{OpsRise}
use Rattle.kt_content.specs.MoreOps.{untold, told}
use Rattle.kt_content.specs.Records.{RowsTell, IsTold, KeysAreTold}
use Rattle.kt_content.specs.FewerRecords.{a_replicate_less_takes_its_write, a_commit_less_changes_nothing}
use Rattle.kt_content.proofs.MoreOps.{true_names}
use Rattle.kt_content.proofs.Seen.{seen_rise, first_differ}
use Rattle.kt_content.proofs.Records.{sees_more, KeyOf, key_of, up_to_under, none_grown, op_grown, each_grown, ends_later, stands_at, order_front, RowOf, row_of_key, sees_long, sees_short}
use Rattle.kt_content.proofs.FewerRecords.{operation_less}
use Rattle.kt_content.proofs.LiveOnce.{all_told_once, once_untold}
use Rattle.kt_content.proofs.AboveFiles.{told_above, front_above, above_untold}
use Rattle.kt_content.specs.Rules.{Rules}
use Rattle.kt_content.proofs.Rules.{pass_join, pass_front, pass_behind}

module _ (rules : Rules) (fill : Row) (super : Super) (records : List Entry) (c low : ℕ) (past : Past) (ts : ℕ) (ops : List RowOp) (log : IsLog (records ++ Replicate ts ops ∷ []))
    (is : IsContent rules fill super (records ++ Replicate ts ops ∷ []) c (with_ops fill past ts ops)) (ends : IsPastUpTo low past) (lt : low < ts) (mark : past.mark ≡ super.a) (keys : DifferentKeys ops) where
  abbrev all : List Entry
  all = records ++ Replicate ts ops ∷ []

  sees_all : (q : List ℕ) → seen q all all ≡ seen q records records ++ op_on q ts ops None
  sees_all q = sees_more q records ts ops log

  pub key_less : KeysAreTold ops records → (q : List ℕ) → KeyOf q ts ops → HoldsKey fill super records q (past_hist q past)
  key_less each q (KeyOf.not_there lacks none) =
      let was = is.keys q in
      record {
        held = was.held;
        is = ap (played fill super (at_first q super)) (sym (sees_all q ∙ ap (λ l. seen q records records ++ l) none ∙ append-nil (seen q records records))) ∙ was.is;
        shown = subst (Shown super.a was.held) (none_grown fill past low ts ops ends lt keys q lacks) was.shown;
        once = subst (UntoldLiveOnce was.held) (sees_all q ∙ ap (λ l. seen q records records ++ l) none ∙ append-nil (seen q records records)) was.once;
        above = subst (AboveFiles fill q super was.held) (sees_all q ∙ ap (λ l. seen q records records ++ l) none ∙ append-nil (seen q records records)) was.above;
      }
  key_less each q (KeyOf.there op key one every) = subst (λ (k : List ℕ). HoldsKey fill super records k (past_hist k past)) key
      (let was = is.keys op.key in
      let above : super.a < ts = let m = ends.mark in omega (arith, mark) in
      let grown = op_grown fill past low ts ops ends lt keys op (every (λ o. find key_cmp o.key (changes_on fill (rows_at past (ts - 1)) ops) ≡ (effect_on fill (rows_at past (ts - 1)) o).0) (each_grown fill past low ts ops ends lt keys)) in
      let seen_is = sees_all op.key ∙ ap (λ l. seen op.key records records ++ l) (subst (λ (k : List ℕ). op_on k ts ops None ≡ untold ts op ∷ []) (sym key) one) in
      let less = operation_less fill super super.a ts (at_first op.key super) was.held (past_hist op.key past) (seen op.key records records) op (first_differ op.key super is.numbers) refl
      (ap (played fill super (at_first op.key super)) (sym seen_is) ∙ was.is) (subst (Shown super.a was.held) grown was.shown) (up_to_under low ts (timeline op.key past.writes) (timeline-up_to op.key low past.writes ends.writes) lt) above in
      let kept_above : AboveFiles fill op.key super was.held (seen op.key records records) =
      front_above fill op.key super was.held (seen op.key records records) (untold ts op ∷ []) (subst (AboveFiles fill op.key super was.held) seen_is was.above) in
      let first = every (λ (o : RowOp). AreTold (seen o.key records records)) each in
      record { held = less.0; is = less.1; shown = less.2; once = all_told_once less.0 (seen op.key records records) first; above = told_above fill op.key super was.held less.0 (seen op.key records records) first kept_above })

pub replicate_less : a_replicate_less_takes_its_write
replicate_less rules fill super records c low past ts ops log is ends lt up mark keys each enough = record {
  enough = enough;
  numbers = is.numbers;
  mark = mark;
  last = refl;
  ends = ends_later low (max super.c (last_of records)) past up ends;
  passes = pass_front rules fill records (Replicate ts ops ∷ []) is.passes;
  files = is.files;
  keys = λ q. key_less rules fill super records c low past ts ops log is ends lt mark keys each q (key_of q ts ops);
}

module _ (fill : Row) (super : Super) (xs : List Entry) (ts : ℕ) (ops : List RowOp) (ys : List Entry) (rows : List CommitRow)
    (log : IsLog (xs ++ Replicate ts ops ∷ (ys ++ Commit ts rows ∷ []))) (tells : RowsTell fill super (xs ++ Replicate ts ops ∷ (ys ++ Commit ts rows ∷ [])) ts ops rows) where
  abbrev short : List Entry
  short = xs ++ Replicate ts ops ∷ ys

  abbrev long : List Entry
  long = xs ++ Replicate ts ops ∷ (ys ++ Commit ts rows ∷ [])

  short_log : InOrder [] short
  short_log = order_front [] short (Commit ts rows ∷ []) (subst (InOrder []) (sym (append_assoc xs (Replicate ts ops ∷ ys) (Commit ts rows ∷ []))) log)

  key_forgets : (q : List ℕ) (held : Held) → RowOf fill super long q ts ops rows → content_at fill super long q ≡ Ok held → content_at fill super short q ≡ Ok held
  key_forgets q held (RowOf.nothing is_none is_some) was =
      ap (played fill super (at_first q super)) (sees_short fill super xs ts ops ys rows log q ∙ ap (λ l. seen q short xs ++ (l ++ seen q short ys)) (is_none ∙ sym is_some) ∙ sym (sees_long fill super xs ts ops ys rows log q)) ∙ was
  key_forgets q held (RowOf.one op row key is_none is_some tell) was =
      let here = sees_short fill super xs ts ops ys rows log q ∙ ap (λ l. seen q short xs ++ (l ++ seen q short ys)) is_none in
      let there = sees_long fill super xs ts ops ys rows log q ∙ ap (λ l. seen q short xs ++ (l ++ seen q short ys)) is_some in
      let rise : OpsRise 0 (seen q short xs ++ untold ts op ∷ seen q short ys) = subst (OpsRise 0) here (seen_rise q short [] short short_log) in
      ap (played fill super (at_first q super)) here
      ∙ (true_names fill super 0 (at_first q super) held (seen q short xs) ts op row.targets (seen q short ys) rise (tell held (subst (λ (k : List ℕ). content_at fill super long k ≡ Ok held) (sym key) was)).0).1
      (ap (played fill super (at_first q super)) (sym there) ∙ was)

  once_forgets : (q : List ℕ) (held : Held) → RowOf fill super long q ts ops rows → content_at fill super long q ≡ Ok held → UntoldLiveOnce held (seen q long long) → UntoldLiveOnce held (seen q short short)
  once_forgets q held (RowOf.nothing is_none is_some) was once =
      subst (UntoldLiveOnce held) (sym (sees_short fill super xs ts ops ys rows log q ∙ ap (λ l. seen q short xs ++ (l ++ seen q short ys)) (is_none ∙ sym is_some) ∙ sym (sees_long fill super xs ts ops ys rows log q))) once
  once_forgets q held (RowOf.one op row key is_none is_some tell) was once =
      let here = sees_short fill super xs ts ops ys rows log q ∙ ap (λ l. seen q short xs ++ (l ++ seen q short ys)) is_none in
      let there = sees_long fill super xs ts ops ys rows log q ∙ ap (λ l. seen q short xs ++ (l ++ seen q short ys)) is_some in
      let live = (tell held (subst (λ (k : List ℕ). content_at fill super long k ≡ Ok held) (sym key) was)).1 in
      subst (UntoldLiveOnce held) (sym here) (once_untold held (seen q short xs) ts op row.targets (seen q short ys) (subst (UntoldLiveOnce held) there once) live)

  above_forgets : (q : List ℕ) (held : Held) → RowOf fill super long q ts ops rows → content_at fill super long q ≡ Ok held → AboveFiles fill q super held (seen q long long)
      → AboveFiles fill q super held (seen q short short)
  above_forgets q held (RowOf.nothing is_none is_some) was above =
      subst (AboveFiles fill q super held) (sym (sees_short fill super xs ts ops ys rows log q ∙ ap (λ l. seen q short xs ++ (l ++ seen q short ys)) (is_none ∙ sym is_some) ∙ sym (sees_long fill super xs ts ops ys rows log q))) above
  above_forgets q held (RowOf.one op row key is_none is_some tell) was above =
      let here = sees_short fill super xs ts ops ys rows log q ∙ ap (λ l. seen q short xs ++ (l ++ seen q short ys)) is_none in
      let there = sees_long fill super xs ts ops ys rows log q ∙ ap (λ l. seen q short xs ++ (l ++ seen q short ys)) is_some in
      let tells = (tell held (subst (λ (k : List ℕ). content_at fill super long k ≡ Ok held) (sym key) was)).0 in
      subst (AboveFiles fill q super held) (sym here)
      (above_untold fill q super held ts op row.targets tells (seen q short xs) (seen q short ys) (subst (AboveFiles fill q super held) there above))

  pub all_forget : (rules : Rules) (c : ℕ) (past : Past) → super.need ≤ length short → IsContent rules fill super long c past → IsContent rules fill super short c past
  all_forget rules c past enough is = record {
    enough = enough;
    numbers = is.numbers;
    mark = is.mark;
    last = is.last ∙ ap (max super.c) (last_of-alike xs (Replicate ts ops ∷ (ys ++ Commit ts rows ∷ [])) (Replicate ts ops ∷ ys) (ap (λ n. max ts n) (last_of-alike ys (Commit ts rows ∷ []) [] refl ∙ ap last_of (append-nil ys))));
    ends = is.ends;
    passes = let parts = pass_behind rules fill xs (Replicate ts ops ∷ (ys ++ Commit ts rows ∷ [])) is.passes in pass_join rules fill xs (Replicate ts ops ∷ ys) (pass_front rules fill xs (Replicate ts ops ∷ (ys ++ Commit ts rows ∷ [])) is.passes) (parts.0, pass_front rules fill ys (Commit ts rows ∷ []) parts.1);
    files = is.files;
    keys = λ q. let was = is.keys q in record { held = was.held; is = key_forgets q was.held (row_of_key fill super long q ts ops rows tells) was.is; shown = was.shown; once = once_forgets q was.held (row_of_key fill super long q ts ops rows tells) was.is was.once; above = above_forgets q was.held (row_of_key fill super long q ts ops rows tells) was.is was.above };
  }

pub same_ops : (ts : ℕ) (xs : List Entry) (t : ℕ) (rows : List CommitRow) → ops_of ts (xs ++ Commit t rows ∷ []) ≡ ops_of ts xs
same_ops ts [] t rows = refl
same_ops ts (Replicate u ops ∷ xs) t rows = ap (cond (u == ts) (Some ops)) (same_ops ts xs t rows)
same_ops ts (Commit u r ∷ xs) t rows = same_ops ts xs t rows

pub commit_less : a_commit_less_changes_nothing
commit_less rules fill super records c past ts rows log is told enough =
    let at = stands_at ts told.ops records (sym (same_ops ts records ts rows) ∙ told.stands) in
    let place : records ++ Commit ts rows ∷ [] ≡ at.0 ++ Replicate ts told.ops ∷ (at.1 ++ Commit ts rows ∷ []) = ap (λ (l : List Entry). l ++ Commit ts rows ∷ []) at.2 ∙ append_assoc at.0 (Replicate ts told.ops ∷ at.1) (Commit ts rows ∷ []) in
    subst (λ (l : List Entry). IsContent rules fill super l c past) (sym at.2)
    (all_forget fill super at.0 ts told.ops at.1 rows (subst (λ (l : List Entry). IsLog l) place log) (subst (λ (l : List Entry). RowsTell fill super l ts told.ops rows) place told.tells) rules c past
    (subst (λ (l : List Entry). super.need ≤ length l) at.2 enough) (subst (λ (l : List Entry). IsContent rules fill super l c past) place is))

-- and so of each key
pub commit_key_less : (fill : Row) (super : Super) (records : List Entry) (ts : ℕ) (rows : List CommitRow) (q : List ℕ) (held : Held) → IsLog (records ++ Commit ts rows ∷ []) → IsTold fill super (records ++ Commit ts rows ∷ []) ts rows
    → content_at fill super (records ++ Commit ts rows ∷ []) q ≡ Ok held → content_at fill super records q ≡ Ok held
commit_key_less fill super records ts rows q held log told is =
    let at = stands_at ts told.ops records (sym (same_ops ts records ts rows) ∙ told.stands) in
    let place : records ++ Commit ts rows ∷ [] ≡ at.0 ++ Replicate ts told.ops ∷ (at.1 ++ Commit ts rows ∷ []) = ap (λ (l : List Entry). l ++ Commit ts rows ∷ []) at.2 ∙ append_assoc at.0 (Replicate ts told.ops ∷ at.1) (Commit ts rows ∷ []) in
    let tells = subst (λ (l : List Entry). RowsTell fill super l ts told.ops rows) place told.tells in
    let log' = subst (λ (l : List Entry). IsLog l) place log in
    subst (λ (l : List Entry). content_at fill super l q ≡ Ok held) (sym at.2)
    (key_forgets fill super at.0 ts told.ops at.1 rows log' tells q held
    (row_of_key fill super (at.0 ++ Replicate ts told.ops ∷ (at.1 ++ Commit ts rows ∷ [])) q ts told.ops rows tells)
    (subst (λ (l : List Entry). content_at fill super l q ≡ Ok held) place is))

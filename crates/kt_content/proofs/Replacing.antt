-- One superblock in place of another, over whole contents.
use Rattle.std.proofs.Common.{◌≡◌, ◌≢◌, ◌≤◌, ◌<◌, ◌-◌, ℕ, List, [], ◌∷◌, ◌++◌, Some, None, Option, refl, sym, ap, ◌∙◌, subst, arith, cond, true, false, Bool, T}
use Rattle.std.specs.Prelude.{nat_le, nat_lt, ◌==◌, is_some}
use Rattle.std.specs.List.{filter}
use Rattle.std.specs.FinMap.Entries.{find}
use Rattle.std.proofs.lemmas.Bool.{lt-ltb, ltb-false, ne_eqb, and_parts, and_from}
use Rattle.std.proofs.lemmas.List.Elements.{filter-append}
use Rattle.std.proofs.lemmas.Bool.Decides.{nat_tests}
use Rattle.kt_history.specs.declared.change.Change.{Change}
use Rattle.kt_history.specs.declared.operation.RowOp.{RowOp}
use Rattle.kt_history.specs.Rows.{Row, Rows, Changes, key_cmp}
use Rattle.kt_history.specs.History.{Past, PastWrite, IsPast, IsUpTo, Rise, rows_at, raise, with_write}
use Rattle.kt_history.specs.Operations.{changes_on}
use Rattle.kt_history.proofs.RowLaws.{rows_at-raise, rows_at-with_write_below}
use Rattle.kt_history.proofs.PastLaws.{ends_with_write, apart-changes_on}
use Rattle.kt_records.specs.declared.entry.Entry.{Entry}
use Rattle.kt_records.specs.declared.entry.Entry.TheVariants.{Replicate, Commit}
use Rattle.kt_histlaws.specs.Histories.{joined, timeline, past_hist}
use Rattle.kt_history.specs.Stores.{Steps, step_at}
use Rattle.kt_histlaws.specs.Fitting.{AreSound}
use Rattle.kt_histlaws.specs.Jobs.{AreAlike}
use Rattle.kt_histlaws.proofs.Applying.{row-past}
use Rattle.kt_history.proofs.RowLaws.{sorted-replay}
use Rattle.kt_loglaws.specs.Laws.{with_ops}
use Rattle.kt_loglaws.specs.Fronts.{with_records}
use Rattle.kt_content.specs.Places.{Super, Held, held_in, at_first, Place}
use Rattle.kt_content.specs.KeyOps.{seen, KeyOp}
use Rattle.kt_content.specs.Content.{HoldsKey, SameFrom, IsContent, NumbersDiffer, AreTold}
use Rattle.kt_content.specs.Agreement.{all_moved}
use Rattle.kt_content.specs.Publishing.{gone, IsCarried, AllCarried}
use Rattle.kt_content.specs.Replacing.{a_raised_past_is_shown, a_raised_past_is_one, records_and_marks_change_places, Follows, a_job_in_one_step_publishes_the_same, a_job_in_two_phases_publishes_the_same, each_key_held_is_a_content, a_flying_operation_is_held_too}
use Rattle.kt_content.proofs.Agreement.{plays_agree}
use Rattle.kt_content.proofs.MoreOps.{operation_more}
use Rattle.kt_content.proofs.FewerRecords.{operation_less}
use Rattle.kt_content.proofs.Publishing.{carries_over, outputs_show, two_phases}
use Rattle.kt_content.proofs.Seen.{seen_rise}
use Rattle.kt_content.proofs.Records.{ends_later}
use Rattle.kt_history.specs.declared.target.Target.{Target}
use Rattle.kt_content.proofs.LiveOnce.{all_told_once}
use Rattle.kt_content.specs.Rules.{Rules, RowsetsPass}
use Rattle.kt_content.proofs.Options.{as_T}

-- a past told from a later mark on

step-other : (t ts : ℕ) (o : Option Change) (rest : Steps) → ts ≢ t → step_at t (joined ts o rest) ≡ step_at t rest
step-other t ts None rest ne = refl
step-other t ts (Some c) rest ne = rw (ne_eqb ts t ne) refl

step-same : (t ts : ℕ) (o : Option Change) (xs ys : Steps) → step_at t xs ≡ step_at t ys → step_at t (joined ts o xs) ≡ step_at t (joined ts o ys)
step-same t ts None xs ys e = e
step-same t ts (Some c) xs ys e = ap (cond (ts == t) (Some c)) e

steps_kept : (mark t : ℕ) (q : List ℕ) (ws : List PastWrite) → mark < t → step_at t (timeline q (filter (λ (w : PastWrite). nat_lt mark w.ts) ws)) ≡ step_at t (timeline q ws)
steps_kept mark t q [] lt = refl
steps_kept mark t q (w ∷ ws) lt = elim (nat_lt mark w.ts) as (λ b. nat_lt mark w.ts ≡ b → step_at t (timeline q (cond b (w ∷ filter (λ (w : PastWrite). nat_lt mark w.ts) ws) (filter (λ (w : PastWrite). nat_lt mark w.ts) ws))) ≡ step_at t (joined w.ts (find key_cmp q w.changes) (timeline q ws))) [
  | true ↦ λ e. step-same t w.ts (find key_cmp q w.changes) (timeline q (filter (λ (w : PastWrite). nat_lt mark w.ts) ws)) (timeline q ws) (steps_kept mark t q ws lt)
  | false ↦ λ e. let low = ltb-false mark w.ts e in steps_kept mark t q ws lt ∙ sym (step-other t w.ts (find key_cmp q w.changes) (timeline q ws) (λ s. omega arith))
] refl

from_T : (b : Bool) → T b → b ≡ true
from_T true h = refl
from_T false h = absurd h

rise_all : (low mark : ℕ) (ws : List PastWrite) → mark ≤ low → Rise low ws → Rise low (filter (λ (w : PastWrite). nat_lt mark w.ts) ws)
rise_all low mark [] le r = tt
rise_all low mark (w ∷ ws) le r = rw (lt-ltb mark w.ts (omega (arith, r.0))) (r.0, r.1, r.2, rise_all w.ts mark ws (omega (arith, r.0)) r.3)

rise_from : (low mark : ℕ) (ws : List PastWrite) → low ≤ mark → Rise low ws → Rise mark (filter (λ (w : PastWrite). nat_lt mark w.ts) ws)
rise_from low mark [] le r = tt
rise_from low mark (w ∷ ws) le r = elim (nat_lt mark w.ts) as (λ b. nat_lt mark w.ts ≡ b → Rise mark (cond b (w ∷ filter (λ (w : PastWrite). nat_lt mark w.ts) ws) (filter (λ (w : PastWrite). nat_lt mark w.ts) ws))) [
  | true ↦ λ e. let up : mark < w.ts = grind (arith, nat_tests) in (up, r.1, r.2, rise_all w.ts mark ws (omega arith) r.3)
  | false ↦ λ e. let down = ltb-false mark w.ts e in rise_from w.ts mark ws (omega arith) r.3
] refl

pub is_past_raised : (past : Past) (mark : ℕ) → IsPast past → past.mark ≤ mark → IsPast (raise past mark)
is_past_raised past mark is le = record { rows = from_T _ (sorted-replay mark past.writes past.base (as_T _ is.rows)); writes = rise_from past.mark mark past.writes le is.writes }

up_to_kept : (c mark : ℕ) (ws : List PastWrite) → IsUpTo c ws → IsUpTo c (filter (λ (w : PastWrite). nat_lt mark w.ts) ws)
up_to_kept c mark [] h = refl
up_to_kept c mark (w ∷ ws) h = elim (nat_lt mark w.ts) as (λ b. IsUpTo c (cond b (w ∷ filter (λ (w : PastWrite). nat_lt mark w.ts) ws) (filter (λ (w : PastWrite). nat_lt mark w.ts) ws))) [
  | true ↦ and_from _ _ (and_parts _ _ h).0 (up_to_kept c mark ws (and_parts _ _ h).1)
  | false ↦ up_to_kept c mark ws (and_parts (nat_le w.ts c) _ h).1
]

pub raised_is_one : a_raised_past_is_one
raised_is_one past c mark e le low = record { is = is_past_raised past mark e.is le; mark = low; writes = up_to_kept c mark past.writes e.writes }

-- and from there on it is the same
pub raised_same : (past : Past) (mark : ℕ) (q : List ℕ) → IsPast past → past.mark ≤ mark → SameFrom mark (past_hist q past) (past_hist q (raise past mark))
raised_same past mark q is le = record {
  rows = λ t low. row-past t q past is ∙ sym (ap (find key_cmp q) (rows_at-raise past mark t is low)) ∙ sym (row-past t q (raise past mark) (is_past_raised past mark is le));
  steps = λ t up. sym (steps_kept mark t q past.writes up);
}

pub raised_is_shown : a_raised_past_is_shown
raised_is_shown past mark q hs is le s = record {
  rows = λ t low. s.rows t low ∙ (raised_same past mark q is le).rows t low;
  steps = λ t up. s.steps t up ∙ (raised_same past mark q is le).steps t up;
  one_row = s.one_row;
  one_step = s.one_step;
}

write_raised : (past : Past) (mark ts : ℕ) (changes : Changes) → mark < ts → with_write (raise past mark) ts changes ≡ raise (with_write past ts changes) mark
write_raised past mark ts [] lt = refl
write_raised past mark ts (c ∷ changes) lt =
    let rows : rows_at past mark ≡ rows_at (with_write past ts (c ∷ changes)) mark = sym (rows_at-with_write_below past ts (c ∷ changes) mark lt) in
    let writes : filter (λ (w : PastWrite). nat_lt mark w.ts) past.writes ++ record { ts = ts; changes = c ∷ changes } ∷ [] ≡ filter (λ (w : PastWrite). nat_lt mark w.ts) (past.writes ++ record { ts = ts; changes = c ∷ changes } ∷ []) =
    sym (filter-append (λ (w : PastWrite). nat_lt mark w.ts) past.writes (record { ts = ts; changes = c ∷ changes } ∷ []) ∙ ap (λ b. filter (λ (w : PastWrite). nat_lt mark w.ts) past.writes ++ cond b (record { ts = ts; changes = c ∷ changes } ∷ []) []) (lt-ltb mark ts lt)) in
    ap (λ (b : Rows). record { mark = mark; base = b; writes = filter (λ (w : PastWrite). nat_lt mark w.ts) past.writes ++ record { ts = ts; changes = c ∷ changes } ∷ [] }) rows
    ∙ ap (λ (ws : List PastWrite). record { mark = mark; base = rows_at (with_write past ts (c ∷ changes)) mark; writes = ws }) writes

pub ops_raised : (fill : Row) (past : Past) (mark ts : ℕ) (ops : List RowOp) → IsPast past → mark < ts → with_ops fill (raise past mark) ts ops ≡ raise (with_ops fill past ts ops) mark
ops_raised fill past mark ts ops is lt = ap (λ rows. with_write (raise past mark) ts (changes_on fill rows ops)) (rows_at-raise past mark (ts - 1) is (omega arith)) ∙ write_raised past mark ts (changes_on fill (rows_at past (ts - 1)) ops) lt

pub mark_kept : (past : Past) (ts : ℕ) (changes : Changes) → (with_write past ts changes).mark ≡ past.mark
mark_kept past ts [] = refl
mark_kept past ts (c ∷ changes) = refl

pub records_raised : records_and_marks_change_places
records_raised fill super low log past mark [] told ends le up = refl
records_raised fill super low log past mark (Replicate ts ops ∷ run) told ends le up =
    let changes = changes_on fill (rows_at past (ts - 1)) ops in
    let next = ends_with_write low ts past changes ends told.0 (apart-changes_on fill (rows_at past (ts - 1)) ops told.1) in
    ap (λ p. with_records fill p run) (ops_raised fill past mark ts ops ends.is (omega (arith, told.0)))
    ∙ records_raised fill super ts (log ++ Replicate ts ops ∷ []) (with_ops fill past ts ops) mark run told.3 next (omega (arith, mark_kept past ts changes)) (omega (arith, told.0))
records_raised fill super low log past mark (Commit ts rows ∷ run) told ends le up = records_raised fill super low (log ++ Commit ts rows ∷ []) past mark run told.1 ends le up

-- publishing

module _ (rules : Rules) (fill : Row) (old new : Super) (records : List Entry) (c d j : ℕ) (past : Past) (is : IsContent rules fill old records c past) (f : Follows old new records c d j) where
  later : past.mark ≤ new.a
  later = let m = is.mark in let n = f.mark in omega arith

  pub published : NumbersDiffer new.rowsets → RowsetsPass rules new.rowsets → ((q : List ℕ) → HoldsKey fill new records q (past_hist q past)) → IsContent rules fill new records d (raise past new.a)
  published numbers files keys = record {
    enough = f.enough;
    numbers = numbers;
    mark = refl;
    last = f.last;
    ends = raised_is_one past d new.a (ends_later c d past f.up is.ends) later f.marked;
    passes = is.passes;
    files = files;
    keys = λ q. let k = keys q in record { held = k.held; is = k.is; shown = record { shows = raised_is_shown past new.a q _ is.ends.is later k.shown.shows; sound = k.shown.sound }; once = k.once; above = k.above };
  }

carried_told : (keep : Place → Bool) (old new : Super) (xs : List KeyOp) → AllCarried keep old new xs → AreTold xs
carried_told keep old new [] c = tt
carried_told keep old new (x ∷ xs) c = (one x.told c.0, carried_told keep old new xs c.1)
  where
    one : (o : Option (List Target)) → IsCarried keep old new o → is_some o ≡ true
    one None c = absurd c
    one (Some targets) c = refl

pub publishes_once : a_job_in_one_step_publishes_the_same
publishes_once rules fill keep old new records c d j past is r f = published rules fill old new records c d j past is f r.numbers r.files (λ q.
    let was = is.keys q in
    let now = carries_over fill keep old new (at_first q old) was.held (at_first q new) (seen q records records) (r.carried q) (r.rest q) was.is in
    record {
      held = now.next;
      is = now.is;
      shown = outputs_show keep old.a new.a j was.held now.next (past_hist q past) was.shown now.rest
          (subst (λ (l : Held). AreAlike j (held_in (gone keep was.held)) (held_in l)) (sym now.outputs) (r.alike q was.held was.is))
          (subst (λ (l : Held). AreSound new.a (held_in l)) (sym now.outputs) (r.sound q)) f.mark f.job;
      once = all_told_once now.next (seen q records records) (carried_told keep old new (seen q records records) (r.carried q));
      above = r.above q now.next;
    })

pub publishes_twice : a_job_in_two_phases_publishes_the_same
publishes_twice rules fill keep old new records c d j past is r f log = published rules fill old new records c d j past is f r.numbers r.files (λ q.
    let was = is.keys q in
    let k = r.keys q was.held was.is in
    let rise = seen_rise q records [] records log in
    let old_moves = plays_agree fill old 0 (at_first q old) was.held (seen q records records) rise was.is in
    record {
      held = all_moved (seen q records records) k.moves (at_first q new);
      is = two_phases fill keep old new 0 (at_first q old) was.held (at_first q new) (seen q records records) old_moves.0 k.moves rise old_moves.2 (k.carry old_moves.0 old_moves.2) k.rest;
      shown = outputs_show keep old.a new.a j was.held (all_moved (seen q records records) k.moves (at_first q new)) (past_hist q past) was.shown k.rest k.alike k.sound f.mark f.job;
      once = k.once;
      above = k.above;
    })

pub each_key_held : each_key_held_is_a_content
each_key_held rules fill old new records c d j past is f numbers files keys = published rules fill old new records c d j past is f numbers files keys

pub flying_held : a_flying_operation_is_held_too
flying_held fill old new ts was now later whole xs op dw bw dn bn h s un lt up others =
    let less = operation_less fill old old.a ts was later whole xs op dw bw h s un lt in
    let next = others less.0 less.1 less.2 in
    operation_more fill new new.a ts now next.0 whole xs op dn bn next.1 next.2 un up

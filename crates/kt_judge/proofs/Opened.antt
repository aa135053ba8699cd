-- The table of an opening.
use Rattle.std.proofs.Common.{◌≡◌, ℕ, ◌+◌, ◌<◌, ◌≤◌, List, [], ◌∷◌, ◌++◌, true, sym, ap, ◌∙◌, subst, arith, length, take, drop, map, get_or}
use Rattle.std.specs.Prelude.{nat_le}
use Rattle.std.proofs.lemmas.Bool.{and_parts}
use Rattle.std.proofs.lemmas.Bool.Decides.{nat_tests}
use Rattle.std.proofs.lemmas.List.{take_more, take_all, drop_more, map-append}
use Rattle.kt_history.specs.Rows.{Rows, Changes}
use Rattle.kt_history.specs.History.{PastWrite, IsUpTo, Rise, replay, rows_at}
use Rattle.kt_history.proofs.RowLaws.{replay-append}
use Rattle.kt_judge.specs.declared.opening.Opening.{Opening}
use Rattle.kt_judge.specs.declared.opening.OpeningWrite.{OpeningWrite}
use Rattle.kt_judge.specs.Openings.{write_of, past_of, IsOpening}
use Rattle.kt_judge.specs.Tables.{Entries, IsTable, IsTableUpTo, IsTableOf, Shows, with_changes}
use Rattle.kt_judge.proofs.Dated.{later_too}
use Rattle.kt_judge.specs.Bare.{HasRows}
use Rattle.kt_judge.proofs.Barely.{inserted}
use Rattle.kt_judge.proofs.Shown.{shows_same}

pub table_later : (ts t : ℕ) (es : Entries) → ts ≤ t → IsTableUpTo ts es → IsTableUpTo t es
table_later ts t [] le h = tt
table_later ts t (e ∷ es) le h = (later_too ts t e.1 le h.0, table_later ts t es le h.1)

-- The first writes of an opening are done, and the others rise from a time on that no row is later than.
pub record AreDone (o : Opening) (k : ℕ) (es : Entries) : Type 0 where
  pub table : IsTable es
  pub shows : Shows es (λ t. replay t (map write_of (take k o.writes.items)) o.rows.items)
  pub low : ℕ
  pub up_to : IsTableUpTo low es
  pub below : low ≤ o.c
  pub rest : Rise low (map write_of (drop k o.writes.items))
  pub ends : IsUpTo o.c (map write_of (drop k o.writes.items))

pub starts : (o : Opening) (es : Entries) (rows : Rows) → IsOpening o → rows ≡ o.rows.items → HasRows rows es → AreDone o 0 es
starts o es rows is same had =
    let has = subst (λ (rs : Rows). HasRows rs es) same had in
    record {
      table = has.table;
      shows = λ q t. has.shows q t ∙ inserted q o.rows.items t is.past.is.rows;
      low = o.a;
      up_to = table_later 0 o.a es (omega arith) has.up_to;
      below = is.past.mark;
      rest = is.past.is.writes;
      ends = is.past.writes;
    }

-- the next write lies above what is done, and not above the last timestamp
rest_at : (o : Opening) (k : ℕ) (d : OpeningWrite) → k < length o.writes.items → map write_of (drop k o.writes.items) ≡ write_of (get_or o.writes.items k d) ∷ map write_of (drop (k + 1) o.writes.items)
rest_at o k d below = ap (map write_of) (drop_more o.writes.items k d below)

pub next_later : (o : Opening) (k : ℕ) (es : Entries) (w : OpeningWrite) (ws : List OpeningWrite) → AreDone o k es → ws ≡ o.writes.items → k < length ws → w ≡ get_or ws k w → IsTableUpTo w.ts es
next_later o k es w ws done same within at =
    let below = subst (λ (us : List OpeningWrite). k < length us) same within in
    let is = subst (λ (us : List OpeningWrite). w ≡ get_or us k w) same at in
    let rise : Rise done.low (write_of (get_or o.writes.items k w) ∷ map write_of (drop (k + 1) o.writes.items)) = subst (λ (ws : List PastWrite). Rise done.low ws) (rest_at o k w below) done.rest in
    let up : done.low < (get_or o.writes.items k w).ts = rise.0 in
    let same : w.ts ≡ (get_or o.writes.items k w).ts = ap (λ (x : OpeningWrite). x.ts) is in
    table_later done.low w.ts es (omega arith) done.up_to

le_from : (a b : ℕ) → nat_le a b ≡ true → a ≤ b
le_from a b h = grind (arith, nat_tests)

done_one : (w : PastWrite) (ws : List PastWrite) (base : Rows) (t : ℕ) → with_changes w.ts w.changes (λ u. replay u ws base) t ≡ replay t (ws ++ w ∷ []) base
done_one w ws base t = sym (replay-append t ws (w ∷ []) base)

pub done_more : (o : Opening) (k : ℕ) (es new : Entries) (w : OpeningWrite) (ws : List OpeningWrite) (cs : Changes) → AreDone o k es → ws ≡ o.writes.items → k < length ws → w ≡ get_or ws k w → cs ≡ w.changes.items
    → IsTable new → IsTableUpTo w.ts new → ((rows : ℕ → Rows) → Shows es rows → Shows new (with_changes w.ts cs rows)) → AreDone o (k + 1) new
done_more o k es new w ws cs done same within here changes table up done_so =
    let below = subst (λ (us : List OpeningWrite). k < length us) same within in
    let is = subst (λ (us : List OpeningWrite). w ≡ get_or us k w) same here in
    let step = subst (λ (ds : Changes). (rows : ℕ → Rows) → Shows es rows → Shows new (with_changes w.ts ds rows)) changes done_so in
    let at = subst (λ (x : OpeningWrite). map write_of (drop k o.writes.items) ≡ write_of x ∷ map write_of (drop (k + 1) o.writes.items)) (sym is) (rest_at o k w below) in
    let rise : Rise done.low (write_of w ∷ map write_of (drop (k + 1) o.writes.items)) = subst (λ (ws : List PastWrite). Rise done.low ws) at done.rest in
    let ends = and_parts _ _ (subst (λ (ws : List PastWrite). IsUpTo o.c ws) at done.ends) in
    let upto : map write_of (take k o.writes.items) ++ write_of w ∷ [] ≡ map write_of (take (k + 1) o.writes.items) =
    sym (map-append write_of (take k o.writes.items) (w ∷ [])) ∙ ap (map write_of) (ap (λ (x : OpeningWrite). take k o.writes.items ++ x ∷ []) is ∙ sym (take_more o.writes.items k w below)) in
    record {
      table = table;
      shows = shows_same new (with_changes w.ts w.changes.items (λ t. replay t (map write_of (take k o.writes.items)) o.rows.items)) (λ t. replay t (map write_of (take (k + 1) o.writes.items)) o.rows.items)
          (λ t. done_one (write_of w) (map write_of (take k o.writes.items)) o.rows.items t ∙ ap (λ (ws : List PastWrite). replay t ws o.rows.items) upto) (step (λ t. replay t (map write_of (take k o.writes.items)) o.rows.items) done.shows);
      low = w.ts;
      up_to = up;
      below = le_from w.ts o.c ends.0;
      rest = rise.3;
      ends = ends.1;
    }

pub all_done : (o : Opening) (k : ℕ) (es : Entries) (ws : List OpeningWrite) → AreDone o k es → ws ≡ o.writes.items → length ws ≤ k → IsTableOf o.c (rows_at (past_of o)) es
all_done o k es ws done same end = record {
  table = done.table;
  up_to = table_later done.low o.c es done.below done.up_to;
  shows = subst (λ (ws : List OpeningWrite). Shows es (λ t. replay t (map write_of ws) o.rows.items)) (take_all k o.writes.items (subst (λ (us : List OpeningWrite). length us ≤ k) same end)) done.shows;
}

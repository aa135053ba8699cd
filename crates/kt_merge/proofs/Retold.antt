-- A disk rowset whose files are written anew tells the same store.
use Rattle.std.proofs.Common.{◌≡◌, ◌+◌, ◌^◌, ℕ, suc, Bool, true, false, cond, List, [], ◌∷◌, ◌++◌, append_assoc, Some, refl, sym, ap, subst, ◌∙◌, arith}
use Rattle.std.specs.Prelude.{◌==◌, nat_le, nat_lt}
use Rattle.std.specs.List.{AllByRecursion}
use Rattle.std.proofs.lemmas.Bool.{eqb-true, le-ltb, lt-ltb}
use Rattle.std.proofs.lemmas.List.{append-nil}
use Rattle.std.proofs.lemmas.List.Sorted.{IsPermutation-refl}
use Rattle.kt_history.specs.declared.change.Change.{Change}
use Rattle.kt_history.specs.declared.changes.Delta.{Delta}
use Rattle.kt_history.specs.Rows.{Row, Rows}
use Rattle.kt_history.specs.Stores.{Steps, Under}
use Rattle.kt_histlaws.specs.Disks.{before_all, led_over}
use Rattle.kt_deltafile.specs.declared.file.Way.TheVariants.{Redo}
use Rattle.kt_cells.specs.Rules.{EachAfter}
use Rattle.kt_deltafile.specs.Order.{last_ordinal}
use Rattle.kt_deltafile.specs.Rules.{FileFits, Follows}
use Rattle.kt_deltafile.proofs.Sorted.{both, both_left}
use Rattle.kt_rowfiles.specs.Files.{DiskRowset, records_for, records_in, put_rising, rising, falling}
use Rattle.kt_rowfiles.specs.Reading.{all_rising}
use Rattle.kt_rowfiles.proofs.Ordered.{rising-append}
use Rattle.kt_diskrowset.specs.declared.data.RowSetData.{RowSetData}
use Rattle.kt_diskrowset.specs.declared.files.FileHeld.{FileHeld}
use Rattle.kt_diskrowset.specs.Data.{files_in, fresh_in, store_in}
use Rattle.kt_diskrowset.specs.Files.{lists_of}
use Rattle.kt_diskrowset.specs.Rows.{Fresh, rows_of, hist_at, hists_from, UndosLeadBack}
use Rattle.kt_merge.specs.Rewriting.{AreAbove, IsRewritten}
use Rattle.kt_merge.proofs.AllInOrder.{in_order_apart, file_in_order, rows_in_order}
use Rattle.kt_merge.proofs.FoldedRowsets.{in_more}
use Rattle.kt_merge.proofs.Merged.{twice}

-- ---- the same histories

pub hists_each : (d e : DiskRowset) (f g : Fresh) (n : ℕ) (rows : Rows) → ((m : ℕ) (row : Row) → hist_at e g (m, row) ≡ hist_at d f (m, row)) → hists_from e g n rows ≡ hists_from d f n rows
hists_each d e f g n [] same = refl
hists_each d e f g n (r ∷ rows) same = ap (λ h. (r.0, h) ∷ hists_from e g (suc n) rows) (same n r.1) ∙ ap (λ hs. (r.0, hist_at d f (n, r.1)) ∷ hs) (hists_each d e f g (suc n) rows same)

-- where the REDO records of each row with its changes in memory are the same
pub same_redos : (d e : RowSetData) → rows_of e.base.set.value.rows ≡ rows_of d.base.set.value.rows → lists_of e.undo ≡ lists_of d.undo
    → ((n : ℕ) → rising (records_in n (lists_of e.redo)) ++ records_for n e.fresh ≡ rising (records_in n (lists_of d.redo)) ++ records_for n d.fresh) → store_in e ≡ store_in d
same_redos d e rows undo redos =
    ap (hists_from (files_in e) (fresh_in e) 0) rows
    ∙ hists_each (files_in d) (files_in e) (fresh_in d) (fresh_in e) 0 (rows_of d.base.set.value.rows) each
  where
    each : (m : ℕ) (row : Row) → hist_at (files_in e) (fresh_in e) (m, row) ≡ hist_at (files_in d) (fresh_in d) (m, row)
    each m row =
        ap (λ (ls : List (List Delta)). record { first = before_all (falling (records_in m ls)) (Some row); steps = (led_over (falling (records_in m ls)) (Some row) ++ rising (records_in m (lists_of e.redo))) ++ records_for m e.fresh }) undo
        ∙ ap (λ (steps : Steps). record { first = before_all (falling (records_in m (lists_of d.undo))) (Some row); steps = steps })
        (append_assoc (led_over (falling (records_in m (lists_of d.undo))) (Some row)) (rising (records_in m (lists_of e.redo))) (records_for m e.fresh)
        ∙ ap (λ (steps : Steps). led_over (falling (records_in m (lists_of d.undo))) (Some row) ++ steps) (redos m)
        ∙ sym (append_assoc (led_over (falling (records_in m (lists_of d.undo))) (Some row)) (rising (records_in m (lists_of d.redo))) (records_for m d.fresh)))

-- ---- changes behind REDO records that lie below them

abbrev StandAbove : Steps → Steps → Type 0
StandAbove xs ys = AllByRecursion (λ (y : ℕ × Change). Under y.0 xs) ys

above_rest : (c : ℕ × Change) (xs ys : Steps) → StandAbove (c ∷ xs) ys → StandAbove xs ys
above_rest c xs [] h = tt
above_rest c xs (y ∷ ys) h = (h.0.1, above_rest c xs ys h.1)

put_front : (c : ℕ × Change) (xs ys : Steps) → StandAbove (c ∷ xs) ys → put_rising c ys ≡ c ∷ ys
put_front c xs [] h = refl
put_front c xs (y ∷ ys) h = ap (λ b. cond b (y ∷ put_rising c ys) (c ∷ y ∷ ys)) (le-ltb y.0 c.0 (let lt = h.0.0 in omega (arith, lt)))

put_among : (c : ℕ × Change) (zs ys : Steps) → put_rising c ys ≡ c ∷ ys → put_rising c (zs ++ ys) ≡ put_rising c zs ++ ys
put_among c [] ys e = e
put_among c (z ∷ zs) ys e = by (nat_lt z.0 c.0) (put_among c zs ys e)
  where
    by : (b : Bool) → put_rising c (zs ++ ys) ≡ put_rising c zs ++ ys → cond b (z ∷ put_rising c (zs ++ ys)) (c ∷ z ∷ zs ++ ys) ≡ cond b (z ∷ put_rising c zs) (c ∷ z ∷ zs) ++ ys
    by true h = ap (λ l. z ∷ l) h
    by false h = refl

all_among : (xs ys : Steps) → StandAbove xs ys → all_rising xs ys ≡ rising xs ++ ys
all_among [] ys h = refl
all_among (c ∷ xs) ys h = ap (put_rising c) (all_among xs ys (above_rest c xs ys h)) ∙ put_among c (rising xs) ys (put_front c xs ys h)

rising_behind : (xs ys : Steps) → rising ys ≡ ys → StandAbove xs ys → rising (xs ++ ys) ≡ rising xs ++ ys
rising_behind xs ys e h = rising-append xs ys ∙ ap (all_rising xs) e ∙ all_among xs ys h

above_for : (n : ℕ) (files : List FileHeld) (list : List Delta) → AreAbove files list → StandAbove (records_in n (lists_of files)) (records_for n list)
above_for n files [] h = tt
above_for n files (d ∷ list) h = by (d.ordinal == n) refl (above_for n files list h.1)
  where
    by : (b : Bool) → (d.ordinal == n) ≡ b → StandAbove (records_in n (lists_of files)) (records_for n list) → StandAbove (records_in n (lists_of files)) (cond b ((d.ts, d.change) ∷ records_for n list) (records_for n list))
    by true e more = (subst (λ m. Under d.ts (records_in m (lists_of files))) (eqb-true d.ordinal n e) h.0, more)
    by false e more = more

-- a file more, whose records lie above those of the others
pub one_more : (rows n : ℕ) (files : List FileHeld) (list : List Delta) → FileFits Redo rows list → AreAbove files list → rising (records_in n (lists_of files ++ list ∷ [])) ≡ rising (records_in n (lists_of files)) ++ records_for n list
one_more rows n files list fits above =
    let order = file_in_order rows list fits.each in
    ap rising (in_more n (lists_of files) list)
    ∙ rising_behind (records_in n (lists_of files)) (records_for n list) (sym (rows_in_order list list (IsPermutation-refl list) (in_order_apart list order) order n)) (above_for n files list above)

-- a file of them all, in order
pub one_alone : (n : ℕ) (list : List Delta) (all : Steps) → records_for n list ≡ rising all → rising (records_in n (list ∷ [])) ≡ rising all
one_alone n list all e = ap rising (append-nil (records_for n list)) ∙ ap rising e ∙ twice all

-- ---- the rowset

pub deltas_rewritten : (d e : RowSetData) (rows : ℕ) → e.number ≡ d.number → rows_of e.base.set.value.rows ≡ rows_of d.base.set.value.rows → lists_of e.undo ≡ lists_of d.undo → lists_of e.redo ≡ lists_of d.redo ++ d.fresh ∷ [] → e.fresh ≡ []
    → FileFits Redo rows d.fresh → AreAbove d.redo d.fresh → (UndosLeadBack (files_in d) → UndosLeadBack (files_in e)) → IsRewritten d e
deltas_rewritten d e rows number base undo redo none fits above lead = record {
  number = number;
  store = same_redos d e base undo (λ n.
      ap (λ (ls : List (List Delta)). rising (records_in n ls) ++ records_for n e.fresh) redo
      ∙ ap (λ (l : List Delta). rising (records_in n (lists_of d.redo ++ d.fresh ∷ [])) ++ records_for n l) none
      ∙ append-nil (rising (records_in n (lists_of d.redo ++ d.fresh ∷ [])))
      ∙ one_more rows n d.redo d.fresh fits above);
  fresh = none;
  lead = lead;
}

pub redos_rewritten : (d e : RowSetData) → e.number ≡ d.number → rows_of e.base.set.value.rows ≡ rows_of d.base.set.value.rows → lists_of e.undo ≡ lists_of d.undo
    → ((n : ℕ) → rising (records_in n (lists_of e.redo)) ≡ rising (records_in n (lists_of d.redo))) → e.fresh ≡ d.fresh → d.fresh ≡ [] → (UndosLeadBack (files_in d) → UndosLeadBack (files_in e)) → IsRewritten d e
redos_rewritten d e number base undo redo fresh none lead = record {
  number = number;
  store = same_redos d e base undo (λ n. ap (λ (s : Steps). s ++ records_for n e.fresh) (redo n) ∙ ap (λ (l : List Delta). rising (records_in n (lists_of d.redo)) ++ records_for n l) fresh);
  fresh = fresh ∙ none;
  lead = lead;
}

-- ---- a file over more rows

each_anywhere : (rows : ℕ) (front list : List Delta) → EachAfter (Follows Redo rows) front list → EachAfter (Follows Redo (2 ^ 32)) front list
each_anywhere rows front [] h = tt
each_anywhere rows front (d ∷ list) h = (
  record {
    comes = both (nat_le (last_ordinal front) d.ordinal) (nat_lt d.ordinal (2 ^ 32)) (both_left (nat_le (last_ordinal front) d.ordinal) (nat_lt d.ordinal rows) h.0.comes) (lt-ltb d.ordinal (2 ^ 32) h.0.ordinal);
    ordinal = h.0.ordinal;
    order = h.0.order;
    ts = h.0.ts;
    change = h.0.change;
  },
  each_anywhere rows (front ++ d ∷ []) list h.1,
)

pub file_anywhere : (rows : ℕ) (list : List Delta) → FileFits Redo rows list → FileFits Redo (2 ^ 32) list
file_anywhere rows list h = record { count = h.count; each = each_anywhere rows [] list h.each }

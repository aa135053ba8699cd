-- A rowset whose REDO records were folded in tells the same.
use Rattle.std.proofs.Common.{◌≡◌, ◌≤◌, ℕ, suc, Bool, true, false, cond, List, [], ◌∷◌, ◌++◌, Option, Some, None, refl, sym, ap, ◌∙◌, subst, arith}
use Rattle.std.specs.Prelude.{nat_lt}
use Rattle.std.specs.Ordering.{eq_by_cmp}
use Rattle.std.proofs.lemmas.Bool.{lt-ltb, le-ltb}
use Rattle.std.proofs.lemmas.List.{append-nil}
use Rattle.kt_history.specs.declared.change.Change.{Change}
use Rattle.kt_history.specs.declared.change.Change.TheVariants.{Del}
use Rattle.kt_history.specs.declared.changes.Delta.{Delta}
use Rattle.kt_history.specs.Rows.{Row, Rows, apply, undo, key_cmp}
use Rattle.kt_history.specs.Stores.{Steps, Under}
use Rattle.kt_histlaws.specs.Disks.{DiskRow, hist_of}
use Rattle.kt_histlaws.specs.Fitting.{Rises}
use Rattle.kt_rowfiles.specs.Files.{DiskRowset, row_under, records_for, records_in, put_falling, falling, rising, row_with}
use Rattle.kt_rowfiles.specs.Flushing.{EachAbove, after_all, undone, written, written_deleted}
use Rattle.kt_rowfiles.specs.Reading.{all_falling}
use Rattle.kt_rowfiles.proofs.Ordered.{falling-append}
use Rattle.kt_merge.specs.Folding.{on_base, folded_by}
use Rattle.kt_merge.specs.Major.{Falls, AllFrom, FoldsRow, FoldsEach, with_folded, a_folded_rowset_tells_the_same}
use Rattle.kt_merge.specs.Rows.{deleted_at, but_last, before_last}
use Rattle.kt_merge.proofs.FoldedRow.{folded_whole}
use Rattle.kt_merge.proofs.Written.{came_from, ends_with}

-- ---- records of several files

pub in_more : (n : ℕ) (files : List (List Delta)) (file : List Delta) → records_in n (files ++ file ∷ []) ≡ records_in n files ++ records_for n file
in_more n [] file = append-nil (records_for n file)
in_more n (f ∷ files) file = ap (λ (l : Steps). records_for n f ++ l) (in_more n files file) ∙ sym (assoc (records_for n f) (records_in n files) (records_for n file))
  where
    assoc : (a b c : Steps) → (a ++ b) ++ c ≡ a ++ (b ++ c)
    assoc [] b c = refl
    assoc (x ∷ a) b c = ap (λ (l : Steps). x ∷ l) (assoc a b c)

-- timestamps that fall are in order already
falls_same : (top : ℕ) (undos : Steps) → Falls top undos → falling undos ≡ undos
falls_same top [] h = refl
falls_same top (u ∷ []) h = refl
falls_same top (u ∷ v ∷ undos) h =
    ap (put_falling u) (falls_same u.0 (v ∷ undos) h.1)
    ∙ ap (λ (b : Bool). cond b (v ∷ put_falling u undos) (u ∷ v ∷ undos)) (le-ltb u.0 v.0 (omega (arith, h.1.0)))

falls_later : (a b : ℕ) (undos : Steps) → a ≤ b → Falls a undos → Falls b undos
falls_later a b [] le h = tt
falls_later a b (u ∷ undos) le h = (omega (arith, h.0, le), h.1)

-- older records go behind newer ones
put_behind : (c : ℕ × Change) (news olds : Steps) → AllFrom (suc c.0) news → put_falling c (news ++ olds) ≡ news ++ put_falling c olds
put_behind c [] olds h = refl
put_behind c (u ∷ news) olds h =
    ap (λ (b : Bool). cond b (u ∷ put_falling c (news ++ olds)) (c ∷ u ∷ news ++ olds)) (lt-ltb c.0 u.0 (omega (arith, h.0)))
    ∙ ap (λ (l : Steps). u ∷ l) (put_behind c news olds h.1)

from_less : (a b : ℕ) (steps : Steps) → a ≤ b → AllFrom b steps → AllFrom a steps
from_less a b [] le h = tt
from_less a b (c ∷ steps) le h = (omega (arith, h.0, le), from_less a b steps le h.1)

all_behind : (low : ℕ) (olds news : Steps) → Under low olds → AllFrom low news → all_falling olds news ≡ news ++ falling olds
all_behind low [] news u h = sym (append-nil news)
all_behind low (c ∷ olds) news u h =
    ap (put_falling c) (all_behind low olds news u.1 h) ∙ put_behind c news (falling olds) (from_less (suc c.0) low news (omega (arith, u.0)) h)

-- ---- the UNDO records that folding makes

undone_falls : (j low : ℕ) (steps : Steps) (row : Option Row) (made : Steps) → Rises low steps → Falls (suc low) made → falling (undone j steps row made) ≡ undone j steps row made
undone_falls j low [] row made r h = falls_same (suc low) made h
undone_falls j low (c ∷ steps) row made r h = undone_falls j c.0 steps (apply c.1 row) (cond (nat_lt j c.0) ((c.0, undo c.1 row) ∷ made) made) r.1 (by (nat_lt j c.0))
  where
    by : (b : Bool) → Falls (suc c.0) (cond b ((c.0, undo c.1 row) ∷ made) made)
    by true = (omega arith, falls_later (suc low) c.0 made (omega (arith, r.0)) h)
    by false = falls_later (suc low) (suc c.0) made (omega (arith, r.0)) h

undone_from : (j low : ℕ) (steps : Steps) (row : Option Row) (made : Steps) → AllFrom low steps → AllFrom low made → AllFrom low (undone j steps row made)
undone_from j low [] row made h k = k
undone_from j low (c ∷ steps) row made h k = undone_from j low steps (apply c.1 row) (cond (nat_lt j c.0) ((c.0, undo c.1 row) ∷ made) made) h.1 (by (nat_lt j c.0))
  where
    by : (b : Bool) → AllFrom low (cond b ((c.0, undo c.1 row) ∷ made) made)
    by true = (h.0, k)
    by false = k

front_rises : (low : ℕ) (xs ys : Steps) → Rises low (xs ++ ys) → Rises low xs
front_rises low [] ys h = tt
front_rises low (c ∷ xs) ys h = (h.0, front_rises c.0 xs ys h.1)

front_from : (low : ℕ) (xs ys : Steps) → AllFrom low (xs ++ ys) → AllFrom low xs
front_from low [] ys h = tt
front_from low (c ∷ xs) ys h = (h.0, front_from low xs ys h.1)

each_above : (j low : ℕ) (steps : Steps) → j ≤ low → Rises low steps → EachAbove j steps
each_above j low [] le r = tt
each_above j low (c ∷ steps) le r = (omega (arith, r.0), each_above j c.0 steps (omega (arith, r.0)) r.1)

-- of a row that is folded they fall, no timestamp is below those of its REDO records, and one REDO record is left at most
record FoldedSo (low : ℕ) (e : DiskRow) : Type 0 where
  falls : falling e.undos ≡ e.undos
  from_ : AllFrom low e.undos
  one : rising e.redos ≡ e.redos

folded_so : (j low : ℕ) (base : Row) (redos : Steps) (e : DiskRow) (o : Option ℕ) → deleted_at redos ≡ o → folded_by j (on_base base redos) o ≡ Some e → Rises j redos → AllFrom low redos → FoldedSo low e
folded_so j low base redos e None d f r h =
    let from = came_from (written j (on_base base redos)) (after_all redos (Some base)) e f in
    subst (FoldedSo low) from.2 (record { falls = undone_falls j j redos (Some base) [] r tt; from_ = undone_from j low redos (Some base) [] h tt; one = refl })
folded_so j low base redos e (Some ts) d f r h =
    let from = came_from (written_deleted j (before_last (on_base base redos)) ts) (after_all (but_last redos) (Some base)) e f in
    let split = ends_with redos ts d in
    let rise = front_rises j (but_last redos) ((ts, Del) ∷ []) (subst (Rises j) split r) in
    let low_ = front_from low (but_last redos) ((ts, Del) ∷ []) (subst (AllFrom low) split h) in
    subst (FoldedSo low) from.2 (record { falls = undone_falls j j (but_last redos) (Some base) [] rise tt; from_ = undone_from j low (but_last redos) (Some base) [] low_ tt; one = refl })

-- ---- one row, and each

pub one_row : (mark : ℕ) (older redos : Steps) (old new : Row) (undos deletes : Steps) → FoldsRow mark older redos old new undos deletes
    → hist_of (record { base = new; undos = falling (older ++ undos); redos = rising deletes }) ≡ hist_of (record { base = old; undos = falling older; redos = redos })
one_row mark older redos old new undos deletes f =
    let e : DiskRow = record { base = new; undos = undos; redos = deletes } in
    let so = folded_so mark f.low old redos e (deleted_at redos) refl f.is f.rises f.from_ in
    ap (λ (s : Steps). hist_of (record { base = new; undos = s; redos = rising deletes })) (falling-append older undos ∙ ap (all_falling older) so.falls ∙ all_behind f.low older undos f.under so.from_)
    ∙ ap (λ (s : Steps). hist_of (record { base = new; undos = undos ++ falling older; redos = s })) so.one
    ∙ folded_whole mark (record { base = old; undos = falling older; redos = redos }) e (each_above mark mark redos (omega arith) f.rises) f.undone f.is

each_row : (mark : ℕ) (d : DiskRowset) (base : Rows) (undo redo : List Delta) (n : ℕ) (rows news : Rows) (q : List ℕ) → FoldsEach mark d undo redo n rows news
    → row_with (with_folded d base undo redo) (row_under q n news) ≡ row_with d (row_under q n rows)
each_row mark d base undo redo n [] [] q f = refl
each_row mark d base undo redo n [] (s ∷ news) q f = absurd f
each_row mark d base undo redo n (r ∷ rows) [] q f = absurd f
each_row mark d base undo redo n (r ∷ rows) (s ∷ news) q f =
    ap (λ (key : List ℕ). row_with (with_folded d base undo redo) (cond (eq_by_cmp key_cmp q key) (Some (n, s.1)) (row_under q (suc n) news))) (sym f.0)
    ∙ by (eq_by_cmp key_cmp q r.0) (each_row mark d base undo redo (suc n) rows news q f.2)
  where
    by : (b : Bool) → row_with (with_folded d base undo redo) (row_under q (suc n) news) ≡ row_with d (row_under q (suc n) rows)
        → row_with (with_folded d base undo redo) (cond b (Some (n, s.1)) (row_under q (suc n) news)) ≡ row_with d (cond b (Some (n, r.1)) (row_under q (suc n) rows))
    by true h =
        ap (λ (l : Steps). hist_of (record { base = s.1; undos = falling l; redos = rising (records_for n redo ++ []) })) (in_more n d.undos undo)
        ∙ ap (λ (l : Steps). hist_of (record { base = s.1; undos = falling (records_in n d.undos ++ records_for n undo); redos = rising l })) (append-nil (records_for n redo))
        ∙ one_row mark (records_in n d.undos) (rising (records_in n d.redos)) r.1 s.1 (records_for n undo) (records_for n redo) f.1
    by false h = h

pub folded_same : a_folded_rowset_tells_the_same
folded_same mark d base undo redo each q = each_row mark d base undo redo 0 d.base base q each

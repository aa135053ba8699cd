-- A disk rowset in the place of the one of its number.
use Rattle.std.proofs.Common.{◌≡◌, ◌≤◌, ◌<◌, ◌+◌, ◌⊎◌, ℕ, suc, Bool, true, false, List, [], ◌∷◌, ◌++◌, Some, None, inl, inr, refl, sym, ap, subst, ◌∙◌, arith, cond, append_assoc}
use Rattle.std.specs.Prelude.{◌==◌, ◌||◌, ◌&&◌, not, nat_le, nat_lt}
use Rattle.std.specs.List.{AllByRecursion}
use Rattle.std.proofs.lemmas.Bool.{leb-true, ne_eqb}
use Rattle.std.proofs.lemmas.List.{append-nil, map-append}
use Rattle.std.proofs.lemmas.List.Folds.{list_any-append}
use Rattle.kt_base.proofs.Values.{both_true, both}
use Rattle.kt_super.specs.declared.meta.FileRef.{FileRef}
use Rattle.kt_super.specs.declared.meta.MetaRowset.{MetaRowset}
use Rattle.kt_super.specs.Rowsets.{has, numbers_of, is_small, IsFile, AreFiles, taken_by, IsRowset, AreRowsets}
use Rattle.kt_files.specs.Named.{named_by, named_in}
use Rattle.kt_outputs.specs.Outputs.{CountUp}
use Rattle.kt_outputs.specs.InPlace.{in_place, entry_of, KeepsFiles, KeepsRowset, a_rewritten_rowset_comes_in_place, a_rewritten_rowset_stands_in_place}
use Rattle.kt_outputs.proofs.Named.{AreBelow, below_join, below_more, count_up, count_below, among, is_file, file_below, files_below}

-- ---- numbers that are taken

pub has_join : (xs ys : List ℕ) (n : ℕ) → has (xs ++ ys) n ≡ (has xs n || has ys n)
has_join xs ys n = list_any-append (λ (k : ℕ). k == n) xs ys

pub none_left : (a b : Bool) → (a || b) ≡ false → a ≡ false
none_left true b h = h
none_left false b h = refl

none_right : (a b : Bool) → (a || b) ≡ false → b ≡ false
none_right true b h = absurd (cc)
none_right false b h = h

none_both : (a b : Bool) → a ≡ false → b ≡ false → (a || b) ≡ false
none_both a b x y = ap (λ (c : Bool). c || b) x ∙ y

not_true : (b : Bool) → not b ≡ true → b ≡ false
not_true true h = absurd (cc)
not_true false h = refl

-- below a number no more is taken
abbrev pub TakesNoMore : ℕ → List ℕ → List ℕ → Type 0
TakesNoMore file taken later = (k : ℕ) → k < file → has taken k ≡ false → has later k ≡ false

pub no_more_join : (file : ℕ) (taken later xs : List ℕ) → TakesNoMore file taken later → TakesNoMore file (taken ++ xs) (later ++ xs)
no_more_join file taken later xs free_still k lt free =
    let own = sym (has_join taken xs k) ∙ free in
    has_join later xs k ∙ none_both (has later k) (has xs k) (free_still k lt (none_left (has taken k) (has xs k) own)) (none_right (has taken k) (has xs k) own)

-- numbers in turn from there on
none_counted : (file a b k : ℕ) (xs : List ℕ) → CountUp a b xs → file ≤ a → k < file → has xs k ≡ false
none_counted file a b k xs up le lt = by (has xs k) refl
  where
    by : (t : Bool) → has xs k ≡ t → t ≡ false
    by true e = absurd (let ends = among a b k xs up e in let low = ends.0 in omega arith)
    by false e = refl

-- ---- rowsets behind it stay

pub still_file : (file next later : ℕ) (taken more : List ℕ) (f : FileRef) → f.file < file → TakesNoMore file taken more → IsFile later taken f → IsFile later more f
still_file file next later taken more f lt free_still is =
    let parts = both_true (nat_le 3 f.file && nat_lt f.file later) (not (has taken f.file)) is.0 in
    (both (nat_le 3 f.file && nat_lt f.file later) (not (has more f.file)) parts.0 (ap not (free_still f.file lt (not_true (has taken f.file) parts.1))), is.1)

pub still_files : (file next later : ℕ) (was taken more : List ℕ) (files : List FileRef) → AreFiles next was files → next ≤ file → TakesNoMore file taken more → AreFiles later taken files → AreFiles later more files
still_files file next later was taken more [] old le free_still are = tt
still_files file next later was taken more (f ∷ files) old le free_still are = (
  still_file file next later taken more f (let lt = file_below next was f old.0 in omega arith) free_still are.0,
  still_files file next later (was ++ f.file ∷ []) (taken ++ f.file ∷ []) (more ++ f.file ∷ []) files old.1 le (no_more_join file taken more (f.file ∷ []) free_still) are.1,
)

still_rowsets : (file next_rowset next_file rowset_later file_later least : ℕ) (was taken more : List ℕ) (rowsets : List MetaRowset) → AreRowsets next_rowset next_file least was rowsets → next_file ≤ file → TakesNoMore file taken more
    → AreRowsets rowset_later file_later least taken rowsets → AreRowsets rowset_later file_later least more rowsets
still_rowsets file next_rowset next_file rowset_later file_later least was taken more [] old le free_still are = tt
still_rowsets file next_rowset next_file rowset_later file_later least was taken more (r ∷ rowsets) old le free_still are =
    let with_base = no_more_join file taken more (r.base.file ∷ []) free_still in
    let with_undo = no_more_join file (taken ++ r.base.file ∷ []) (more ++ r.base.file ∷ []) (numbers_of r.undo) with_base in
    let with_redo = no_more_join file (taken ++ r.base.file ∷ [] ++ numbers_of r.undo) (more ++ r.base.file ∷ [] ++ numbers_of r.undo) (numbers_of r.redo) with_undo in (
      record {
        rowset = are.0.rowset;
        last_dms = are.0.last_dms;
        base = still_file file next_file file_later taken more r.base (let lt = file_below next_file was r.base old.0.base in omega arith) free_still are.0.base;
        undo = still_files file next_file file_later (was ++ r.base.file ∷ []) (taken ++ r.base.file ∷ []) (more ++ r.base.file ∷ []) r.undo old.0.undo le with_base are.0.undo;
        redo = still_files file next_file file_later (was ++ r.base.file ∷ [] ++ numbers_of r.undo) (taken ++ r.base.file ∷ [] ++ numbers_of r.undo) (more ++ r.base.file ∷ [] ++ numbers_of r.undo) r.redo old.0.redo le with_undo are.0.redo;
      },
      still_rowsets file next_rowset next_file rowset_later file_later (r.rowset + 1) (taken_by was r) (taken_by taken r) (taken_by more r) rowsets old.1 le with_redo are.1,
    )

-- ---- no other has its number

pub from_least : (least next n : ℕ) → (nat_le least n && nat_lt n next) ≡ true → least ≤ n
from_least least next n h = leb-true least n (both_true (nat_le least n) (nat_lt n next) h).0

pub others_stay : (m : MetaRowset) (next_rowset next_file least : ℕ) (taken : List ℕ) (rowsets : List MetaRowset) → m.rowset < least → AreRowsets next_rowset next_file least taken rowsets → in_place m rowsets ≡ rowsets
others_stay m next_rowset next_file least taken [] lt are = refl
others_stay m next_rowset next_file least taken (r ∷ rowsets) lt are =
    let up : least ≤ r.rowset = from_least least next_rowset r.rowset are.0.rowset in
    ap (λ (b : Bool). cond b m r ∷ in_place m rowsets) (ne_eqb r.rowset m.rowset (λ e. omega arith))
    ∙ ap (λ (l : List MetaRowset). r ∷ l) (others_stay m next_rowset next_file (r.rowset + 1) (taken_by taken r) rowsets (omega arith) are.1)

-- ---- files that are kept, and others behind them

numbers_join : (xs ys : List FileRef) → numbers_of (xs ++ ys) ≡ numbers_of xs ++ numbers_of ys
numbers_join xs ys = map-append (λ (f : FileRef). f.file) xs ys

-- files under numbers in turn
are_fresh : (later a b : ℕ) (taken : List ℕ) (files : List FileRef) → AreBelow a taken → 3 ≤ a → b ≤ later → CountUp a b (numbers_of files) → AllByRecursion (λ (f : FileRef). is_small f.len ≡ true) files → AreFiles later taken files
are_fresh later a b taken [] below low le up short = tt
are_fresh later a b taken (f ∷ files) below low le up short =
    let is : f.file ≡ a = up.0 in
    let on = count_up (suc a) b (numbers_of files) up.1 in (
      is_file later a f.file f.len taken below low is (omega arith) short.0,
      are_fresh later (suc a) b (taken ++ f.file ∷ []) files (below_join (suc a) taken (f.file ∷ []) (below_more a (suc a) taken (omega arith) below) ((omega arith), tt)) (omega arith) le up.1 short.1,
    )

-- files behind others
files_join : (later : ℕ) (taken : List ℕ) (xs ys : List FileRef) → AreFiles later taken xs → AreFiles later (taken ++ numbers_of xs) ys → AreFiles later taken (xs ++ ys)
files_join later taken [] ys front back = subst (λ (l : List ℕ). AreFiles later l ys) (append-nil taken) back
files_join later taken (x ∷ xs) ys front back =
    (front.0, files_join later (taken ++ x.file ∷ []) xs ys front.1 (subst (λ (l : List ℕ). AreFiles later l ys) (sym (append_assoc taken (x.file ∷ []) (numbers_of xs))) back))

module _ (first last : ℕ) (olds news : List FileRef) (k : KeepsFiles first last olds news) where
  keeps_up : first ≤ last
  keeps_up = count_up first last (numbers_of k.more) k.count

  news_are : numbers_of news ≡ numbers_of k.kept ++ numbers_of k.more
  news_are = ap numbers_of k.are ∙ numbers_join k.kept k.more

  -- they are files of a superblock where the old ones were
  files_kept : (later : ℕ) (taken : List ℕ) → AreFiles later taken olds → AreBelow first taken → AreBelow first (numbers_of olds) → 3 ≤ first → last ≤ later → AreFiles later taken news
  files_kept later taken were below olds_below low le = subst (AreFiles later taken) (sym k.are) (elim k.all [
    | inl all ↦
        files_join later taken k.kept k.more (subst (AreFiles later taken) (sym all) were)
        (are_fresh later first last (taken ++ numbers_of k.kept) k.more (below_join first taken (numbers_of k.kept) below (subst (λ (fs : List FileRef). AreBelow first (numbers_of fs)) (sym all) olds_below)) low le k.count k.short)
    | inr none ↦
        files_join later taken k.kept k.more (subst (AreFiles later taken) (sym none) tt)
        (are_fresh later first last (taken ++ numbers_of k.kept) k.more (below_join first taken (numbers_of k.kept) below (subst (λ (fs : List FileRef). AreBelow first (numbers_of fs)) (sym none) tt)) low le k.count k.short)
  ])

  -- what is taken behind them lies below
  below_kept : (taken : List ℕ) → AreBelow first taken → AreBelow first (numbers_of olds) → AreBelow last (taken ++ numbers_of news)
  below_kept taken below olds_below =
      let kept : AreBelow first (numbers_of k.kept) = elim k.all [
        | inl all ↦ subst (λ (fs : List FileRef). AreBelow first (numbers_of fs)) (sym all) olds_below
        | inr none ↦ subst (λ (fs : List FileRef). AreBelow first (numbers_of fs)) (sym none) tt
      ] in
      below_join last taken (numbers_of news) (below_more first last taken keeps_up below)
      (subst (AreBelow last) (sym news_are) (below_join last (numbers_of k.kept) (numbers_of k.more) (below_more first last (numbers_of k.kept) keeps_up kept) (count_below first last (numbers_of k.more) k.count)))

  -- below the new numbers no more is taken
  takes_kept : (file : ℕ) (taken later : List ℕ) → file ≤ first → TakesNoMore file taken later → TakesNoMore file (taken ++ numbers_of olds) (later ++ numbers_of news)
  takes_kept file taken later le free_still n lt free =
      let own = sym (has_join taken (numbers_of olds) n) ∙ free in
      let olds_none = none_right (has taken n) (has (numbers_of olds) n) own in
      let kept_none : has (numbers_of k.kept) n ≡ false = elim k.all [
        | inl all ↦ ap (λ (fs : List FileRef). has (numbers_of fs) n) all ∙ olds_none
        | inr none ↦ ap (λ (fs : List FileRef). has (numbers_of fs) n) none
      ] in
      has_join later (numbers_of news) n
      ∙ none_both (has later n) (has (numbers_of news) n) (free_still n lt (none_left (has taken n) (has (numbers_of olds) n) own))
      (ap (λ (l : List ℕ). has l n) news_are ∙ has_join (numbers_of k.kept) (numbers_of k.more) n
      ∙ none_both (has (numbers_of k.kept) n) (has (numbers_of k.more) n) kept_none (none_counted file first last n (numbers_of k.more) k.count le lt))

  -- each is new or was there
  new_or_old : (n : ℕ) → has (numbers_of news) n ≡ true → ((first ≤ n) × (n < last)) ⊎ (has (numbers_of olds) n ≡ true)
  new_or_old n is = by (has (numbers_of k.more) n) refl
    where
      rest : (a b : Bool) → (a || b) ≡ true → b ≡ false → a ≡ true
      rest true b h e = refl
      rest false b h e = absurd (cc)

      kept_old : has (numbers_of k.kept) n ≡ true → has (numbers_of olds) n ≡ true
      kept_old h = elim k.all [
        | inl all ↦ sym (ap (λ (fs : List FileRef). has (numbers_of fs) n) all) ∙ h
        | inr none ↦ absurd (let no : false ≡ true = sym (ap (λ (fs : List FileRef). has (numbers_of fs) n) none) ∙ h in cc)
      ]

      by : (b : Bool) → has (numbers_of k.more) n ≡ b → ((first ≤ n) × (n < last)) ⊎ (has (numbers_of olds) n ≡ true)
      by true e = inl (among first last n (numbers_of k.more) k.count e)
      by false e = inr (kept_old (rest (has (numbers_of k.kept) n) (has (numbers_of k.more) n) (sym (has_join (numbers_of k.kept) (numbers_of k.more) n) ∙ ap (λ (l : List ℕ). has l n) (sym news_are) ∙ is) e))

-- ---- in its place

module _ (file file_later : ℕ) (old new : MetaRowset) (low : 3 ≤ file) (k : KeepsRowset file file_later old new) (small : is_small new.last_dms ≡ true) where
  base_up : file ≤ k.undo_at
  base_up = keeps_up file k.undo_at (old.base ∷ []) (new.base ∷ []) k.base

  undo_up : k.undo_at ≤ k.redo_at
  undo_up = keeps_up k.undo_at k.redo_at old.undo new.undo k.undo

  redo_up : k.redo_at ≤ file_later
  redo_up = keeps_up k.redo_at file_later old.redo new.redo k.redo

  module _ (next_rowset next_file rowset_later least : ℕ) (taken : List ℕ) (fl : next_file ≤ file) (was : IsRowset next_rowset next_file least taken old) (is : IsRowset rowset_later file_later least taken old) (below : AreBelow file taken) where
    olds_base : AreBelow file (old.base.file ∷ [])
    olds_base = ((let lt = file_below next_file taken old.base was.base in omega arith), tt)

    olds_undo : AreBelow file (numbers_of old.undo)
    olds_undo = below_more next_file file (numbers_of old.undo) fl (files_below next_file (taken ++ old.base.file ∷ []) old.undo was.undo)

    olds_redo : AreBelow file (numbers_of old.redo)
    olds_redo = below_more next_file file (numbers_of old.redo) fl (files_below next_file (taken ++ old.base.file ∷ [] ++ numbers_of old.undo) old.redo was.redo)

    base_below : AreBelow k.undo_at (taken ++ new.base.file ∷ [])
    base_below = below_kept file k.undo_at (old.base ∷ []) (new.base ∷ []) k.base taken below olds_base

    undo_below : AreBelow k.redo_at (taken ++ new.base.file ∷ [] ++ numbers_of new.undo)
    undo_below = below_kept k.undo_at k.redo_at old.undo new.undo k.undo (taken ++ new.base.file ∷ []) base_below (below_more file k.undo_at (numbers_of old.undo) base_up olds_undo)

    base_takes : TakesNoMore file (taken ++ old.base.file ∷ []) (taken ++ new.base.file ∷ [])
    base_takes = takes_kept file k.undo_at (old.base ∷ []) (new.base ∷ []) k.base file taken taken (omega arith) (λ n lt free. free)

    undo_takes : TakesNoMore file (taken ++ old.base.file ∷ [] ++ numbers_of old.undo) (taken ++ new.base.file ∷ [] ++ numbers_of new.undo)
    undo_takes = takes_kept k.undo_at k.redo_at old.undo new.undo k.undo file (taken ++ old.base.file ∷ []) (taken ++ new.base.file ∷ []) base_up base_takes

    redo_takes : TakesNoMore file (taken_by taken old) (taken_by taken new)
    redo_takes = takes_kept k.redo_at file_later old.redo new.redo k.redo file (taken ++ old.base.file ∷ [] ++ numbers_of old.undo) (taken ++ new.base.file ∷ [] ++ numbers_of new.undo) (let a = base_up in let b = undo_up in omega arith) undo_takes

    own_rowset : IsRowset rowset_later file_later least taken new
    own_rowset = record {
      rowset = subst (λ (n : ℕ). (nat_le least n && nat_lt n rowset_later) ≡ true) (sym k.number) is.rowset;
      last_dms = small;
      base = (files_kept file k.undo_at (old.base ∷ []) (new.base ∷ []) k.base file_later taken (is.base, tt) below olds_base low (let a = undo_up in let b = redo_up in omega arith)).0;
      undo = files_kept k.undo_at k.redo_at old.undo new.undo k.undo file_later (taken ++ new.base.file ∷ [])
          (still_files file next_file file_later (taken ++ old.base.file ∷ []) (taken ++ old.base.file ∷ []) (taken ++ new.base.file ∷ []) old.undo was.undo fl base_takes is.undo)
          base_below (below_more file k.undo_at (numbers_of old.undo) base_up olds_undo) (let a = base_up in omega arith) redo_up;
      redo = files_kept k.redo_at file_later old.redo new.redo k.redo file_later (taken ++ new.base.file ∷ [] ++ numbers_of new.undo)
          (still_files file next_file file_later (taken ++ old.base.file ∷ [] ++ numbers_of old.undo) (taken ++ old.base.file ∷ [] ++ numbers_of old.undo) (taken ++ new.base.file ∷ [] ++ numbers_of new.undo) old.redo was.redo fl undo_takes is.redo)
          undo_below (below_more file k.redo_at (numbers_of old.redo) (let a = base_up in let b = undo_up in omega arith) olds_redo) (let a = base_up in let b = undo_up in omega arith) (omega arith);
    }

  all_below : (next_rowset next_file least : ℕ) (taken : List ℕ) (r : MetaRowset) → next_file ≤ file → IsRowset next_rowset next_file least taken r → AreBelow file taken → AreBelow file (taken_by taken r)
  all_below next_rowset next_file least taken r fl own below =
      let base : r.base.file < next_file = file_below next_file taken r.base own.base in
      let base_too : AreBelow file (taken ++ r.base.file ∷ []) = below_join file taken (r.base.file ∷ []) below ((omega arith), tt) in
      let undo_too : AreBelow file (taken ++ r.base.file ∷ [] ++ numbers_of r.undo) =
      below_join file (taken ++ r.base.file ∷ []) (numbers_of r.undo) base_too (below_more next_file file (numbers_of r.undo) fl (files_below next_file (taken ++ r.base.file ∷ []) r.undo own.undo)) in
      below_join file (taken ++ r.base.file ∷ [] ++ numbers_of r.undo) (numbers_of r.redo) undo_too (below_more next_file file (numbers_of r.redo) fl (files_below next_file (taken ++ r.base.file ∷ [] ++ numbers_of r.undo) r.redo own.redo))

  some_is : (x y : MetaRowset) → Some x ≡ Some y → x ≡ y
  some_is x y e = cc

  none_is : (y : MetaRowset) → None ≡ Some y → ⊥
  none_is y e = cc

  come : (rowsets : List MetaRowset) (next_rowset next_file rowset_later least : ℕ) (taken : List ℕ) → entry_of new.rowset rowsets ≡ Some old → AreRowsets next_rowset next_file least taken rowsets → AreRowsets rowset_later file_later least taken rowsets
      → next_file ≤ file → AreBelow file taken → AreRowsets rowset_later file_later least taken (in_place new rowsets)
  come [] next_rowset next_file rowset_later least taken entry was later fl below = absurd (none_is old entry)
  come (r ∷ rowsets) next_rowset next_file rowset_later least taken entry was later fl below =
      by (λ rest. come rowsets next_rowset next_file rowset_later (r.rowset + 1) (taken_by taken r) rest was.1 later.1 fl (all_below next_rowset next_file least taken r fl was.0 below)) (r.rowset == new.rowset) refl entry
    where
      by : (entry_of new.rowset rowsets ≡ Some old → AreRowsets rowset_later file_later (r.rowset + 1) (taken_by taken r) (in_place new rowsets)) → (b : Bool) → (r.rowset == new.rowset) ≡ b → cond b (Some r) (entry_of new.rowset rowsets) ≡ Some old
          → IsRowset rowset_later file_later least taken (cond b new r) × AreRowsets rowset_later file_later ((cond b new r).rowset + 1) (taken_by taken (cond b new r)) (in_place new rowsets)
      by behind false e rest = (later.0, behind rest)
      by behind true e first =
          let same : r ≡ old = some_is r old first in
          let number : new.rowset ≡ r.rowset = k.number ∙ ap (λ (x : MetaRowset). x.rowset) (sym same) in
          let own_was : IsRowset next_rowset next_file least taken old = subst (IsRowset next_rowset next_file least taken) same was.0 in
          let own_is : IsRowset rowset_later file_later least taken old = subst (IsRowset rowset_later file_later least taken) same later.0 in
          let stay : in_place new rowsets ≡ rowsets = others_stay new next_rowset next_file (r.rowset + 1) (taken_by taken r) rowsets (omega arith) was.1 in
          let takes : TakesNoMore file (taken_by taken r) (taken_by taken new) = subst (λ (x : MetaRowset). TakesNoMore file (taken_by taken x) (taken_by taken new)) (sym same) (redo_takes next_rowset next_file rowset_later least taken fl own_was own_is below) in
          let kept : AreRowsets rowset_later file_later (r.rowset + 1) (taken_by taken new) rowsets =
          still_rowsets file next_rowset next_file rowset_later file_later (r.rowset + 1) (taken_by taken r) (taken_by taken r) (taken_by taken new) rowsets was.1 fl takes later.1 in (
            own_rowset next_rowset next_file rowset_later least taken fl own_was own_is below,
            subst (λ (l : List MetaRowset). AreRowsets rowset_later file_later (new.rowset + 1) (taken_by taken new) l) (sym stay)
                (subst (λ (n : ℕ). AreRowsets rowset_later file_later (n + 1) (taken_by taken new) rowsets) (sym number) kept),
          )

pub comes : a_rewritten_rowset_comes_in_place
comes rowsets next_rowset next_file file rowset_later file_later old new was later fl low entry k small =
    come file file_later old new low k small rowsets next_rowset next_file rowset_later 0 [] entry was later fl tt

-- ---- its files

-- a file that is named is its own or one that was named before
named_place : (m : MetaRowset) (n : ℕ) (rowsets : List MetaRowset) → has (named_by m) n ≡ false → has (named_in (in_place m rowsets)) n ≡ true → has (named_in rowsets) n ≡ true
named_place m n [] none is = is
named_place m n (r ∷ rowsets) none is =
    has_join (named_by r) (named_in rowsets) n ∙ by (r.rowset == m.rowset) (named_place m n rowsets none) (sym (has_join (named_by (cond (r.rowset == m.rowset) m r)) (named_in (in_place m rowsets)) n) ∙ is)
  where
    either : (a b c : Bool) → (b ≡ true → c ≡ true) → (a || b) ≡ true → (a || c) ≡ true
    either true b c rest h = refl
    either false b c rest h = rest h

    on_left : (a b : Bool) → b ≡ true → (a || b) ≡ true
    on_left true b h = refl
    on_left false b h = h

    by : (t : Bool) → (has (named_in (in_place m rowsets)) n ≡ true → has (named_in rowsets) n ≡ true) → (has (named_by (cond t m r)) n || has (named_in (in_place m rowsets)) n) ≡ true → (has (named_by r) n || has (named_in rowsets) n) ≡ true
    by false rest h = either (has (named_by r) n) (has (named_in (in_place m rowsets)) n) (has (named_in rowsets) n) rest h
    by true rest h = on_left (has (named_by r) n) (has (named_in rowsets) n) (rest (ap (λ (b : Bool). b || has (named_in (in_place m rowsets)) n) (sym none) ∙ h))

-- the files of a rowset, in three parts
pub or_left : (a b : Bool) → a ≡ true → (a || b) ≡ true
or_left true b h = refl
or_left false b h = absurd (cc)

pub or_right : (a b : Bool) → b ≡ true → (a || b) ≡ true
or_right true b h = refl
or_right false b h = h

pub or_cases : (a b : Bool) → (a || b) ≡ true → (a ≡ true) ⊎ (b ≡ true)
or_cases true b h = inl refl
or_cases false b h = inr h

pub named_parts : (r : MetaRowset) (n : ℕ) → has (named_by r) n ≡ (has (numbers_of (r.base ∷ [])) n || (has (numbers_of r.undo) n || has (numbers_of r.redo) n))
named_parts r n = has_join (r.base.file ∷ []) (numbers_of r.undo ++ numbers_of r.redo) n ∙ ap (λ (b : Bool). has (r.base.file ∷ []) n || b) (has_join (numbers_of r.undo) (numbers_of r.redo) n)

named_new : (file file_later : ℕ) (old new : MetaRowset) → KeepsRowset file file_later old new → (n : ℕ) → has (named_by new) n ≡ true → ((file ≤ n) × (n < file_later)) ⊎ (has (named_by old) n ≡ true)
named_new file file_later old new k n is =
    let a = keeps_up file k.undo_at (old.base ∷ []) (new.base ∷ []) k.base in
    let b = keeps_up k.undo_at k.redo_at old.undo new.undo k.undo in
    let c = keeps_up k.redo_at file_later old.redo new.redo k.redo in
    let base_old : has (numbers_of (old.base ∷ [])) n ≡ true → has (named_by old) n ≡ true = λ h. named_parts old n ∙ or_left (has (numbers_of (old.base ∷ [])) n) (has (numbers_of old.undo) n || has (numbers_of old.redo) n) h in
    let rest_old : (has (numbers_of old.undo) n || has (numbers_of old.redo) n) ≡ true → has (named_by old) n ≡ true = λ h. named_parts old n ∙ or_right (has (numbers_of (old.base ∷ [])) n) (has (numbers_of old.undo) n || has (numbers_of old.redo) n) h in
    elim (or_cases (has (numbers_of (new.base ∷ [])) n) (has (numbers_of new.undo) n || has (numbers_of new.redo) n) (sym (named_parts new n) ∙ is)) [
      | inl base ↦ elim (new_or_old file k.undo_at (old.base ∷ []) (new.base ∷ []) k.base n base) [
        | inl fresh ↦ inl ((let x = fresh.0 in omega arith), (let y = fresh.1 in omega arith))
        | inr was ↦ inr (base_old was)
      ]
      | inr rest ↦ elim (or_cases (has (numbers_of new.undo) n) (has (numbers_of new.redo) n) rest) [
        | inl undo ↦ elim (new_or_old k.undo_at k.redo_at old.undo new.undo k.undo n undo) [
          | inl fresh ↦ inl ((let x = fresh.0 in omega arith), (let y = fresh.1 in omega arith))
          | inr was ↦ inr (rest_old (or_left (has (numbers_of old.undo) n) (has (numbers_of old.redo) n) was))
        ]
        | inr redo ↦ elim (new_or_old k.redo_at file_later old.redo new.redo k.redo n redo) [
          | inl fresh ↦ inl ((let x = fresh.0 in omega arith), (let y = fresh.1 in omega arith))
          | inr was ↦ inr (rest_old (or_right (has (numbers_of old.undo) n) (has (numbers_of old.redo) n) was))
        ]
      ]
    ]

entry_named : (number : ℕ) (old : MetaRowset) (n : ℕ) (rowsets : List MetaRowset) → entry_of number rowsets ≡ Some old → has (named_by old) n ≡ true → has (named_in rowsets) n ≡ true
entry_named number old n [] entry is = absurd (let no : None ≡ Some old = entry in cc)
entry_named number old n (r ∷ rowsets) entry is = has_join (named_by r) (named_in rowsets) n ∙ by (λ rest. entry_named number old n rowsets rest is) (r.rowset == number) entry
  where
    by : (entry_of number rowsets ≡ Some old → has (named_in rowsets) n ≡ true) → (b : Bool) → cond b (Some r) (entry_of number rowsets) ≡ Some old → (has (named_by r) n || has (named_in rowsets) n) ≡ true
    by behind true e = let same : r ≡ old = cc in or_left (has (named_by r) n) (has (named_in rowsets) n) (ap (λ (x : MetaRowset). has (named_by x) n) same ∙ is)
    by behind false e = or_right (has (named_by r) n) (has (named_in rowsets) n) (behind e)

pub stands : a_rewritten_rowset_stands_in_place
stands rowsets file file_later old new files c entry k there named n is = by (has (named_by new) n) refl
  where
    by : (b : Bool) → has (named_by new) n ≡ b → c n ≡ files n
    by true e = elim (named_new file file_later old new k n e) [
      | inl fresh ↦ there n fresh.0 fresh.1
      | inr was ↦ named n (entry_named new.rowset old n rowsets entry was)
    ]
    by false e = named n (named_place new n rowsets e is)

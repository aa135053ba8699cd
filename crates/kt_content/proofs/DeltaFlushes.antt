-- The superblock that a delta flush publishes.
use Rattle.std.proofs.Common.{◌≡◌, ◌≤◌, ℕ, List, [], ◌∷◌, map, Some, None, Option, refl, sym, ap, ◌∙◌, subst, arith, cond, true, false, Bool, inl, inr}
use Rattle.std.specs.Prelude.{◌==◌, is_some, not}
use Rattle.std.specs.List.{filter}
use Rattle.std.proofs.lemmas.Bool.{le-ltb}
use Rattle.std.proofs.lemmas.Bool.Decides.{nat_tests}
use Rattle.std.proofs.lemmas.List.{append-nil}
use Rattle.kt_history.specs.declared.target.Target.{Target}
use Rattle.kt_history.specs.declared.target.Target.TheVariants.{Mem, Delta}
use Rattle.kt_history.specs.Stores.{Hist, never}
use Rattle.kt_records.specs.declared.entry.Entry.{Entry}
use Rattle.kt_records.specs.declared.entry.Entry.TheVariants.{Replicate, Commit}
use Rattle.kt_records.specs.declared.entry.CommitRow.{CommitRow}
use Rattle.kt_loglaws.specs.Replay.{commit_of}
use Rattle.kt_histlaws.specs.Fitting.{AreSound}
use Rattle.kt_histlaws.specs.Jobs.{AreAlike}
use Rattle.kt_rowfiles.specs.Files.{DiskRowset, hist_in_files}
use Rattle.kt_content.specs.Places.{Super, Place, memory, disk, Held, held_in, in_files, at_first, last_dms_of, newer, needs}
use Rattle.kt_content.specs.Content.{NumbersDiffer, LacksNumber}
use Rattle.kt_content.specs.InMemory.{group, groups, hist_at}
use Rattle.kt_content.specs.Publishing.{gone}
use Rattle.kt_content.specs.Successors.{kept_rowsets}
use Rattle.kt_content.specs.OneVisit.{AllLeftOrDone, RowsAre, IfTold, CommitsHandOver}
use Rattle.kt_content.specs.Flushes.{EachTold}
use Rattle.kt_content.specs.DeltaFlushes.{all_but, replaced, with_deltas, TargetsUpTo, RowsUpTo, DeltasUpTo, a_delta_flush_publishes_at_rest}
use Rattle.kt_content.proofs.MoreOps.{place_itself}
use Rattle.kt_content.proofs.Lending.{alike_later}
use Rattle.kt_content.proofs.TwoPhases.{hist-gone}

itself : (r : ℕ) → (r == r) ≡ true
itself r = place_itself (disk r)

module _ (d : DiskRowset) where
  -- ---- which rowsets are left

  left_same : (rowsets : List DiskRowset) → kept_rowsets (all_but d.rowset) (replaced d.rowset d rowsets) ≡ kept_rowsets (all_but d.rowset) rowsets
  left_same [] = refl
  left_same (x ∷ rowsets) = elim (x.rowset == d.rowset) as (λ b. (x.rowset == d.rowset) ≡ b
      → kept_rowsets (all_but d.rowset) (cond b d x ∷ replaced d.rowset d rowsets) ≡ cond (not b) (x ∷ kept_rowsets (all_but d.rowset) rowsets) (kept_rowsets (all_but d.rowset) rowsets)) [
        | true ↦ λ e. ap (λ b. cond (not b) (d ∷ kept_rowsets (all_but d.rowset) (replaced d.rowset d rowsets)) (kept_rowsets (all_but d.rowset) (replaced d.rowset d rowsets))) (itself d.rowset) ∙ left_same rowsets
        | false ↦ λ e. ap (λ b. cond (not b) (x ∷ kept_rowsets (all_but d.rowset) (replaced d.rowset d rowsets)) (kept_rowsets (all_but d.rowset) (replaced d.rowset d rowsets))) e ∙ ap (λ l. x ∷ l) (left_same rowsets)
      ] refl

  -- what the job does not leave of a key is what the files of that rowset have
  gone_are : (q : List ℕ) (rowsets : List DiskRowset) → gone (all_but d.rowset) (in_files q rowsets) ≡ in_files q (filter (λ (x : DiskRowset). x.rowset == d.rowset) rowsets)
  gone_are q [] = refl
  gone_are q (x ∷ rowsets) = elim (x.rowset == d.rowset) as (λ b. (x.rowset == d.rowset) ≡ b
      → cond (not (not b)) ((disk x.rowset, hist_in_files q x) ∷ gone (all_but d.rowset) (in_files q rowsets)) (gone (all_but d.rowset) (in_files q rowsets)) ≡ in_files q (cond b (x ∷ filter (λ (x : DiskRowset). x.rowset == d.rowset) rowsets) (filter (λ (x : DiskRowset). x.rowset == d.rowset) rowsets))) [
        | true ↦ λ e. ap (λ l. (disk x.rowset, hist_in_files q x) ∷ l) (gone_are q rowsets)
        | false ↦ λ e. gone_are q rowsets
      ] refl

  among_replaced : (rowsets : List DiskRowset) → filter (λ (x : DiskRowset). x.rowset == d.rowset) (replaced d.rowset d rowsets) ≡ map (λ x. d) (filter (λ (x : DiskRowset). x.rowset == d.rowset) rowsets)
  among_replaced [] = refl
  among_replaced (x ∷ rowsets) = elim (x.rowset == d.rowset) as (λ b. (x.rowset == d.rowset) ≡ b
      → filter (λ (x : DiskRowset). x.rowset == d.rowset) (cond b d x ∷ replaced d.rowset d rowsets) ≡ map (λ x. d) (cond b (x ∷ filter (λ (x : DiskRowset). x.rowset == d.rowset) rowsets) (filter (λ (x : DiskRowset). x.rowset == d.rowset) rowsets))) [
        | true ↦ λ e. ap (λ b. cond b (d ∷ filter (λ (x : DiskRowset). x.rowset == d.rowset) (replaced d.rowset d rowsets)) (filter (λ (x : DiskRowset). x.rowset == d.rowset) (replaced d.rowset d rowsets))) (itself d.rowset) ∙ ap (λ l. d ∷ l) (among_replaced rowsets)
        | false ↦ λ e. ap (λ b. cond b (x ∷ filter (λ (x : DiskRowset). x.rowset == d.rowset) (replaced d.rowset d rowsets)) (filter (λ (x : DiskRowset). x.rowset == d.rowset) (replaced d.rowset d rowsets))) e ∙ among_replaced rowsets
      ] refl

  -- ---- numbers

  lacks_same : (n : ℕ) (rowsets : List DiskRowset) → LacksNumber n rowsets → LacksNumber n (replaced d.rowset d rowsets)
  lacks_same n [] l = tt
  lacks_same n (x ∷ rowsets) l = (
    elim (x.rowset == d.rowset) as (λ b. (x.rowset == d.rowset) ≡ b → (n == (cond b d x).rowset) ≡ false) [
      | true ↦ λ e. (let same : x.rowset ≡ d.rowset = grind (arith, nat_tests) in ap (λ k. n == k) (sym same) ∙ l.0)
      | false ↦ λ e. l.0
    ] refl,
    lacks_same n rowsets l.1,
  )

  differ_same : (rowsets : List DiskRowset) → NumbersDiffer rowsets → NumbersDiffer (replaced d.rowset d rowsets)
  differ_same [] n = tt
  differ_same (x ∷ rowsets) n = (
    elim (x.rowset == d.rowset) as (λ b. (x.rowset == d.rowset) ≡ b → LacksNumber (cond b d x).rowset (replaced d.rowset d rowsets)) [
      | true ↦ λ e. (let same : x.rowset ≡ d.rowset = grind (arith, nat_tests) in subst (λ k. LacksNumber k (replaced d.rowset d rowsets)) same (lacks_same x.rowset rowsets n.0))
      | false ↦ λ e. lacks_same x.rowset rowsets n.0
    ] refl,
    differ_same rowsets n.1,
  )

  last_is : (was : DiskRowset) (rowsets : List DiskRowset) → filter (λ (x : DiskRowset). x.rowset == d.rowset) rowsets ≡ was ∷ [] → last_dms_of d.rowset (replaced d.rowset d rowsets) ≡ Some d.last_dms
  last_is was [] e = absurd (cc)
  last_is was (x ∷ rowsets) e = elim (x.rowset == d.rowset) as (λ b. (x.rowset == d.rowset) ≡ b → cond b (x ∷ filter (λ (x : DiskRowset). x.rowset == d.rowset) rowsets) (filter (λ (x : DiskRowset). x.rowset == d.rowset) rowsets) ≡ was ∷ []
      → last_dms_of d.rowset (cond b d x ∷ replaced d.rowset d rowsets) ≡ Some d.last_dms) [
        | true ↦ λ is e. ap (λ b. cond b (Some d.last_dms) (last_dms_of d.rowset (replaced d.rowset d rowsets))) (itself d.rowset)
        | false ↦ λ is e. ap (λ b. cond b (Some x.last_dms) (last_dms_of d.rowset (replaced d.rowset d rowsets))) is ∙ last_is was rowsets e
      ] refl e

  number_there : (was : DiskRowset) (rowsets : List DiskRowset) → filter (λ (x : DiskRowset). x.rowset == d.rowset) rowsets ≡ was ∷ [] → was.rowset ≡ d.rowset
  number_there was [] e = absurd (cc)
  number_there was (x ∷ rowsets) e = elim (x.rowset == d.rowset) as (λ b. (x.rowset == d.rowset) ≡ b → cond b (x ∷ filter (λ (x : DiskRowset). x.rowset == d.rowset) rowsets) (filter (λ (x : DiskRowset). x.rowset == d.rowset) rowsets) ≡ was ∷ [] → was.rowset ≡ d.rowset) [
    | true ↦ λ is e. (let same : x ≡ was = cc in let at : x.rowset ≡ d.rowset = grind (arith, nat_tests) in ap (λ (y : DiskRowset). y.rowset) (sym same) ∙ at)
    | false ↦ λ is e. number_there was rowsets e
  ] refl e

not_false : (b : Bool) → not b ≡ false → b ≡ true
not_false true k = refl
not_false false k = absurd (cc)

-- ---- names

module _ (old : Super) (a c need : ℕ) (was d : DiskRowset) (there : filter (λ (x : DiskRowset). x.rowset == d.rowset) old.rowsets ≡ was ∷ []) where
  needs_none : (s n : ℕ) → (s == d.rowset) ≡ true → n ≤ d.last_dms → needs (with_deltas old a c need d) (Delta s n) ≡ None
  needs_none s n e le =
      let same : s ≡ d.rowset = grind (arith, nat_tests) in
      ap (λ k. newer (disk s) n (last_dms_of k (replaced d.rowset d old.rowsets))) same ∙ ap (newer (disk s) n) (last_is d was old.rowsets there)
      ∙ ap (λ b. cond b (Some (disk s)) None) (le-ltb d.last_dms n le)

  targets_are : (targets : List Target) → TargetsUpTo d.rowset d.last_dms targets → AllLeftOrDone (all_but d.rowset) (with_deltas old a c need d) targets
  targets_are [] u = tt
  targets_are (Mem n ∷ targets) u = (inl refl, targets_are targets u.1)
  targets_are (Delta s n ∷ targets) u = (elim u.0 [ inl e ↦ inl (ap not e) | inr f ↦ inr (ap not f.0, needs_none s n f.0 f.1) ], targets_are targets u.1)

  rows_are : (rows : List CommitRow) → RowsUpTo d.rowset d.last_dms rows → RowsAre (all_but d.rowset) (with_deltas old a c need d) rows
  rows_are [] u = tt
  rows_are (row ∷ rows) u = (targets_are row.targets u.0, rows_are rows u.1)

  commit_is : (ts : ℕ) (all : List Entry) (rows : List CommitRow) → DeltasUpTo d.rowset d.last_dms all → commit_of ts all ≡ Some rows → RowsAre (all_but d.rowset) (with_deltas old a c need d) rows
  commit_is ts [] rows u e = absurd (cc)
  commit_is ts (Replicate t ops ∷ all) rows u e = commit_is ts all rows u e
  commit_is ts (Commit t others ∷ all) rows u e = elim (t == ts) as (λ k. cond k (Some others) (commit_of ts all) ≡ Some rows → RowsAre (all_but d.rowset) (with_deltas old a c need d) rows) [
    | true ↦ λ e. (let same : others ≡ rows = cc in subst (RowsAre (all_but d.rowset) (with_deltas old a c need d)) same (rows_are others u.0))
    | false ↦ λ e. commit_is ts all rows u.1 e
  ] e

  told_is : (ts : ℕ) (all : List Entry) (o : Option (List CommitRow)) → DeltasUpTo d.rowset d.last_dms all → commit_of ts all ≡ o → is_some o ≡ true → IfTold (all_but d.rowset) (with_deltas old a c need d) o
  told_is ts all None u e t = absurd (cc)
  told_is ts all (Some rows) u e t = commit_is ts all rows u e

  hand_over : (all records : List Entry) → DeltasUpTo d.rowset d.last_dms all → EachTold all records → CommitsHandOver (all_but d.rowset) (with_deltas old a c need d) all records
  hand_over all [] u t = tt
  hand_over all (Replicate ts ops ∷ records) u t = (told_is ts all (commit_of ts all) u refl t.0, hand_over all records u t.1)
  hand_over all (Commit ts rows ∷ records) u t = hand_over all records u t

-- ---- the whole

pub publishes_deltas : a_delta_flush_publishes_at_rest
publishes_deltas rules old a c need was d records stores j f = record {
  numbers = differ_same d old.rowsets f.differ;
  files = f.pass;
  succeeds = record { rowsets = left_same d old.rowsets; mem = λ k. refl };
  names = hand_over old a c need was d f.there records records f.names f.told;
  alike = λ q. subst (λ (l : List Hist). AreAlike j (groups old (stores q) (gone (all_but d.rowset) (at_first q old))) l) (sym (held_new q))
      (subst (λ (l : Held). AreAlike j (groups old (stores q) l) (hist_in_files q d ∷ [])) (sym (gone_old q)) (subst (λ (l : List Hist). AreAlike j l (hist_in_files q d ∷ [])) (sym (append-nil _)) (place_same q)));
  sound = λ q. subst (λ (l : List Hist). AreSound a l) (sym (held_new q)) (f.sound q);
  outs = λ q p k. at_place q p k;
  others = λ q p k. f.same q p;
}
  where
    gone_old : (q : List ℕ) → gone (all_but d.rowset) (at_first q old) ≡ (disk was.rowset, hist_in_files q was) ∷ []
    gone_old q = gone_are d q old.rowsets ∙ ap (in_files q) f.there

    gone_new : (q : List ℕ) → gone (all_but d.rowset) (at_first q (with_deltas old a c need d)) ≡ (disk d.rowset, hist_in_files q d) ∷ []
    gone_new q = gone_are d q (replaced d.rowset d old.rowsets) ∙ ap (in_files q) (among_replaced d old.rowsets ∙ ap (map (λ x. d)) f.there)

    held_new : (q : List ℕ) → held_in (gone (all_but d.rowset) (at_first q (with_deltas old a c need d))) ≡ hist_in_files q d ∷ []
    held_new q = ap held_in (gone_new q)

    was_is : was.rowset ≡ d.rowset
    was_is = number_there d was old.rowsets f.there

    place_same : (q : List ℕ) → AreAlike j (group old (disk was.rowset) (stores q)) (hist_in_files q d ∷ [])
    place_same q = subst (λ (n : ℕ). AreAlike j (group old (disk n) (stores q)) (hist_in_files q d ∷ [])) (sym was_is) (f.alike q)

    at_place : (q : List ℕ) (p : Place) → all_but d.rowset p ≡ false → AreAlike a (group (with_deltas old a c need d) p (stores q)) (hist_at p (at_first q (with_deltas old a c need d)) ∷ [])
    at_place q memory k = absurd (cc)
    at_place q (disk s) k =
        let here : (s == d.rowset) ≡ true = not_false (s == d.rowset) k in
        let same : s ≡ d.rowset = grind (arith, nat_tests) in
        let hist : hist_at (disk s) (at_first q (with_deltas old a c need d)) ≡ hist_in_files q d =
        sym (hist-gone (all_but d.rowset) (disk s) (at_first q (with_deltas old a c need d)) k) ∙ ap (hist_at (disk s)) (gone_new q) ∙ ap (λ b. cond b (hist_in_files q d) never) here in
        subst (λ (l : List Hist). AreAlike a l (hist_at (disk s) (at_first q (with_deltas old a c need d)) ∷ [])) (sym (f.same q (disk s)))
        (subst (λ (h : Hist). AreAlike a (group old (disk s) (stores q)) (h ∷ [])) (sym hist)
        (subst (λ (n : ℕ). AreAlike a (group old (disk n) (stores q)) (hist_in_files q d ∷ [])) (sym same)
        (alike_later j a (group old (disk d.rowset) (stores q)) (hist_in_files q d ∷ []) f.later (f.alike q))))

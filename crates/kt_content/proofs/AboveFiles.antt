-- Each change of a DeltaMemStore lies above the row's records in the REDO files of the rowset.
use Rattle.std.proofs.Common.{◌≡◌, ◌<◌, ℕ, List, [], ◌∷◌, ◌++◌, Some, None, Option, Ok, true, false, Bool, cond, refl, sym, ap, ◌∙◌, subst, arith, inl, inr}
use Rattle.std.specs.Prelude.{is_some, ◌==◌}
use Rattle.std.proofs.lemmas.Bool.Decides.{nat_tests}
use Rattle.kt_history.specs.declared.change.Change.{Change}
use Rattle.kt_history.specs.declared.operation.RowOp.{RowOp}
use Rattle.kt_history.specs.declared.target.Target.{Target}
use Rattle.kt_history.specs.Rows.{Row}
use Rattle.kt_history.specs.Operations.{effect}
use Rattle.kt_history.specs.Stores.{Steps, Hist, push, Under}
use Rattle.kt_histlaws.specs.Disks.{led_over}
use Rattle.kt_histlaws.specs.Flights.{AllUnder}
use Rattle.kt_histlaws.proofs.Applying.{all_under, none_under}
use Rattle.kt_rowfiles.specs.Files.{DiskRowset, row_under, row_with, redos_with, records_in, rising, falling}
use Rattle.kt_content.specs.Places.{Super, Place, memory, disk, same_place, Held, Moves, Standing, held_in, at_first, in_files, standing, row_there, joined_in, moved, places_of, needed_in, redos_in, AboveRedos}
use Rattle.kt_content.specs.KeyOps.{KeyOp, may_join, with_move, to_each, played, decided, if_fits}
use Rattle.kt_content.specs.Content.{Shown, AreTold, changed_in, AboveFiles}
use Rattle.kt_content.specs.MoreOps.{untold, told, TellsPlace}
use Rattle.kt_content.specs.Publishing.{AllKept, IsCarried}
use Rattle.kt_content.specs.Successors.{kept_rowsets, changes_stay_above_the_files}
use Rattle.kt_content.specs.Lending.{Fate, a_job_keeps_changes_above_the_files}
use Rattle.kt_content.specs.Lending.Fate.{apart, covered, doubled, stays}

-- a list of operations

told_places : (fill : Row) (q : List ℕ) (super : Super) (ts : ℕ) (r s : Standing) (op : RowOp) (o : Option (List Target)) → is_some o ≡ true
    → AboveRedos q super ts (changed_in fill super r op o) → AboveRedos q super ts (changed_in fill super s op o)
told_places fill q super ts r s op None h a = absurd (cc)
told_places fill q super ts r s op (Some targets) h a = a

pub told_above : (fill : Row) (q : List ℕ) (super : Super) (held next : Held) (xs : List KeyOp) → AreTold xs → AboveFiles fill q super held xs → AboveFiles fill q super next xs
told_above fill q super held next [] t a = tt
told_above fill q super held next (x ∷ xs) t a = (told_places fill q super x.ts (standing x.ts held) (standing x.ts next) x.op x.told t.0 a.0, told_above fill q super held next xs t.1 a.1)

pub front_above : (fill : Row) (q : List ℕ) (super : Super) (held : Held) (xs ys : List KeyOp) → AboveFiles fill q super held (xs ++ ys) → AboveFiles fill q super held xs
front_above fill q super held [] ys a = tt
front_above fill q super held (x ∷ xs) ys a = (a.0, front_above fill q super held xs ys a.1)

pub more_above : (fill : Row) (q : List ℕ) (super : Super) (held : Held) (xs : List KeyOp) (x : KeyOp) → AboveFiles fill q super held xs → AboveRedos q super x.ts (changed_in fill super (standing x.ts held) x.op x.told)
    → AboveFiles fill q super held (xs ++ x ∷ [])
more_above fill q super held [] x a h = (h, tt)
more_above fill q super held (y ∷ xs) x a h = (a.0, more_above fill q super held xs x a.1 h)

-- names that tell what became of an operation are of the stores that it changes
each_place : (fill : Row) (op : RowOp) (rows : Standing) (places : List Place) (ms : Moves) → to_each fill op rows places ≡ Some ms → places_of ms ≡ places
each_place fill op rows [] ms h = let same : [] ≡ ms = cc in ap places_of (sym same)
each_place fill op rows (p ∷ places) ms h = first (may_join p (effect fill op.kind op.cells (row_there p rows)).0) (to_each fill op rows places) (λ rest e. each_place fill op rows places rest e) h
  where
    first : (o : Option Change) (more : Option Moves) → ((rest : Moves) → more ≡ Some rest → places_of rest ≡ places) → with_move p o more ≡ Some ms → places_of ms ≡ p ∷ places
    first None more f e = absurd (cc)
    first (Some c) None f e = absurd (cc)
    first (Some c) (Some rest) f e = let same : (p, c) ∷ rest ≡ ms = cc in ap places_of (sym same) ∙ ap (λ l. p ∷ l) (f rest refl)

module _ (fill : Row) (q : List ℕ) (super : Super) (held : Held) (ts : ℕ) (op : RowOp) (targets : List Target) (tells : TellsPlace fill super held ts op targets) where
  same_places : changed_in fill super (standing ts held) op None ≡ needed_in super targets
  same_places = each_place fill op (standing ts held) (needed_in super targets) _ tells

  pub above_told : (xs ys : List KeyOp) → AboveFiles fill q super held (xs ++ untold ts op ∷ ys) → AboveFiles fill q super held (xs ++ told ts op targets ∷ ys)
  above_told [] ys a = (subst (AboveRedos q super ts) same_places a.0, a.1)
  above_told (x ∷ xs) ys a = (a.0, above_told xs ys a.1)

  pub above_untold : (xs ys : List KeyOp) → AboveFiles fill q super held (xs ++ told ts op targets ∷ ys) → AboveFiles fill q super held (xs ++ untold ts op ∷ ys)
  above_untold [] ys a = (subst (AboveRedos q super ts) (sym same_places) a.0, a.1)
  above_untold (x ∷ xs) ys a = (a.0, above_untold xs ys a.1)

-- what lies above all changes of the stores lies above the files

under_first : (ts : ℕ) (xs ys : Steps) → Under ts (xs ++ ys) → Under ts xs
under_first ts [] ys u = tt
under_first ts (x ∷ xs) ys u = (u.0, under_first ts xs ys u.1)

under_last : (ts : ℕ) (xs ys : Steps) → Under ts (xs ++ ys) → Under ts ys
under_last ts [] ys u = u
under_last ts (x ∷ xs) ys u = under_last ts xs ys u.1

under_joined : (ts t : ℕ) (p : Place) (c : Change) (held : Held) → AllUnder ts (held_in (joined_in p t c held)) → AllUnder ts (held_in held)
under_joined ts t p c [] u = tt
under_joined ts t p c (h ∷ held) u = elim (same_place p h.0) as (λ b. AllUnder ts (held_in (cond b ((h.0, push t c h.1) ∷ held) (h ∷ joined_in p t c held))) → AllUnder ts (held_in (h ∷ held))) [
  | true ↦ λ u. (under_first ts h.1.steps ((t, c) ∷ []) u.0, u.1)
  | false ↦ λ u. (u.0, under_joined ts t p c held u.1)
] u

under_moved : (ts t : ℕ) (ms : Moves) (held : Held) → AllUnder ts (held_in (moved t ms held)) → AllUnder ts (held_in held)
under_moved ts t [] held u = u
under_moved ts t (m ∷ ms) held u = under_joined ts t m.0 m.1 held (under_moved ts t ms (joined_in m.0 t m.1 held) u)

under_played : (fill : Row) (super : Super) (ts : ℕ) (held final : Held) (xs : List KeyOp) → played fill super held xs ≡ Ok final → AllUnder ts (held_in final) → AllUnder ts (held_in held)
under_played fill super ts held final [] h u = let same : held ≡ final = cc in subst (λ (l : Held). AllUnder ts (held_in l)) (sym same) u
under_played fill super ts held final (x ∷ xs) h u = elim (decided fill super (standing x.ts held) x.op x.told) as (λ o. if_fits x.ts (λ moves. played fill super (moved x.ts moves held) xs) o ≡ Ok final → AllUnder ts (held_in held)) [
  | None ↦ λ h. absurd (cc)
  | Some m ↦ λ h. under_moved ts x.ts m held (under_played fill super ts (moved x.ts m held) final xs h u)
] h

under_redos : (ts : ℕ) (q : List ℕ) (r : ℕ) (rowsets : List DiskRowset) → AllUnder ts (held_in (in_files q rowsets)) → Under ts (redos_in q r rowsets)
under_redos ts q r [] u = tt
under_redos ts q r (d ∷ rowsets) u = elim (d.rowset == r) as (λ b. Under ts (cond b (redos_with d (row_under q 0 d.base)) (redos_in q r rowsets))) [
  | true ↦ here (row_under q 0 d.base) u.0
  | false ↦ under_redos ts q r rowsets u.1
]
  where
    here : (o : Option (ℕ × Row)) → Under ts (row_with d o).steps → Under ts (redos_with d o)
    here None v = tt
    here (Some found) v = under_last ts (led_over (falling (records_in found.0 d.undos)) (Some found.1)) (rising (records_in found.0 d.redos)) v

pub all_above : (q : List ℕ) (super : Super) (ts : ℕ) → ((r : ℕ) → Under ts (redos_in q r super.rowsets)) → (places : List Place) → AboveRedos q super ts places
all_above q super ts each [] = tt
all_above q super ts each (memory ∷ places) = all_above q super ts each places
all_above q super ts each (disk r ∷ places) = (each r, all_above q super ts each places)

pub later_above : (fill : Row) (q : List ℕ) (super : Super) (a ts : ℕ) (final : Held) (whole : Hist) (xs : List KeyOp) → played fill super (at_first q super) xs ≡ Ok final → Shown a final whole → Under ts whole.steps → a < ts
    → (places : List Place) → AboveRedos q super ts places
later_above fill q super a ts final whole xs is s un lt places =
    let under : AllUnder ts (held_in final) = all_under ts (held_in final) (λ t le. s.shows.steps t (omega arith) ∙ none_under ts t whole.steps un le) in
    let first = under_played fill super ts (at_first q super) final xs is under in
    all_above q super ts (λ r. under_redos ts q r super.rowsets first.1) places

-- another superblock that leaves the rowsets whose DeltaMemStores are needed

pub kept_redos : (keep : Place → Bool) (q : List ℕ) (r : ℕ) (rowsets : List DiskRowset) → keep (disk r) ≡ true → redos_in q r (kept_rowsets keep rowsets) ≡ redos_in q r rowsets
kept_redos keep q r [] k = refl
kept_redos keep q r (d ∷ rowsets) k = elim (d.rowset == r) as (λ b. (d.rowset == r) ≡ b → redos_in q r (kept_rowsets keep (d ∷ rowsets)) ≡ cond b (redos_with d (row_under q 0 d.base)) (redos_in q r rowsets)) [
  | true ↦ λ e. let same : d.rowset ≡ r = grind (arith, nat_tests) in let here : keep (disk d.rowset) ≡ true = ap (λ n. keep (disk n)) same ∙ k in rw here (rw e refl)
  | false ↦ λ e. other (keep (disk d.rowset)) refl e (kept_redos keep q r rowsets k)
] refl
  where
    other : (b : Bool) → keep (disk d.rowset) ≡ b → (d.rowset == r) ≡ false → redos_in q r (kept_rowsets keep rowsets) ≡ redos_in q r rowsets
        → redos_in q r (kept_rowsets keep (d ∷ rowsets)) ≡ redos_in q r rowsets
    other true h e rest = rw h (rw e rest)
    other false h e rest = rw h rest

same_redos : (keep : Place → Bool) (old new : Super) (q : List ℕ) (ts : ℕ) (places : List Place) → kept_rowsets keep new.rowsets ≡ kept_rowsets keep old.rowsets → AllKept keep places → AboveRedos q old ts places → AboveRedos q new ts places
same_redos keep old new q ts [] e k a = tt
same_redos keep old new q ts (memory ∷ places) e k a = same_redos keep old new q ts places e k.1 a
same_redos keep old new q ts (disk r ∷ places) e k a =
    (subst (Under ts) (sym (kept_redos keep q r old.rowsets k.0) ∙ ap (redos_in q r) (sym e) ∙ kept_redos keep q r new.rowsets k.0) a.0, same_redos keep old new q ts places e k.1 a.1)

pub stay_above : changes_stay_above_the_files
stay_above fill keep old new q held next [] s c a = tt
stay_above fill keep old new q held next (x ∷ xs) s c a = (one x.told c.0 a.0, stay_above fill keep old new q held next xs s c.1 a.1)
  where
    one : (o : Option (List Target)) → IsCarried keep old new o → AboveRedos q old x.ts (changed_in fill old (standing x.ts held) x.op o) → AboveRedos q new x.ts (changed_in fill new (standing x.ts next) x.op o)
    one None c a = absurd c
    one (Some targets) (inl k) a = subst (AboveRedos q new x.ts) (sym k.1) (same_redos keep old new q x.ts (needed_in old targets) s.rowsets k.0 a)
    one (Some targets) (inr g) a = subst (AboveRedos q new x.ts) (sym g.1) tt

-- and a job in two phases
pub job_above : a_job_keeps_changes_above_the_files
job_above fill keep old new j outs q held next [] ms ns s f a o = tt
job_above fill keep old new j outs q held next (x ∷ xs) [] ns s f a o = absurd f
job_above fill keep old new j outs q held next (x ∷ xs) (m ∷ ms) [] s f a o = absurd f
job_above fill keep old new j outs q held next (x ∷ xs) (m ∷ ms) (n ∷ ns) s f a o = (one f.0 a.0 o.0, job_above fill keep old new j outs q held next xs ms ns s f.1 a.1 o.1)
  where
    as_told : (targets : List Target) → x.told ≡ Some targets → AboveRedos q new x.ts (needed_in new targets) → AboveRedos q new x.ts (changed_in fill new (standing x.ts next) x.op x.told)
    as_told targets told h = subst (λ (t : Option (List Target)). AboveRedos q new x.ts (changed_in fill new (standing x.ts next) x.op t)) (sym told) h

    to_one : (targets : List Target) (p : Place) (c : Change) → needed_in new targets ≡ p ∷ [] → n ≡ (p, c) ∷ [] → AboveRedos q new x.ts (places_of n) → AboveRedos q new x.ts (needed_in new targets)
    to_one targets p c e now h = subst (AboveRedos q new x.ts) (ap places_of now ∙ sym e) h

    one : Fate fill keep old new j outs x m n → AboveRedos q old x.ts (changed_in fill old (standing x.ts held) x.op x.told) → AboveRedos q new x.ts (places_of n)
        → AboveRedos q new x.ts (changed_in fill new (standing x.ts next) x.op x.told)
    one (apart targets told k e now) a o =
        let was : AboveRedos q old x.ts (needed_in old targets) = subst (λ (t : Option (List Target)). AboveRedos q old x.ts (changed_in fill old (standing x.ts held) x.op t)) told a in
        as_told targets told (subst (AboveRedos q new x.ts) (sym e) (same_redos keep old new q x.ts (needed_in old targets) s.rowsets k was))
    one (covered targets told g e now) a o = as_told targets told (subst (AboveRedos q new x.ts) (sym e) tt)
    one (doubled targets p c row told g e k lt made now) a o = as_told targets told (to_one targets p c e now o)
    one (stays targets p c told g e k made now) a o = as_told targets told (to_one targets p c e now o)

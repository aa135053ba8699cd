-- A compaction changes over.
use Rattle.std.proofs.Common.{◌≡◌, ◌≢◌, ◌≤◌, ◌<◌, ◌⊎◌, ℕ, Bool, true, false, List, [], ◌∷◌, ◌++◌, map, Option, Some, None, refl, sym, ap, ◌∙◌, subst, arith, cond, inl, inr}
use Rattle.std.specs.Prelude.{◌==◌, is_some, nat_lt, not}
use Rattle.std.proofs.lemmas.Bool.{lt-ltb, le-ltb, ltb-true, ltb-false, ne_eqb, eq-eqb, eqb-true}
use Rattle.std.proofs.lemmas.List.Elements.{filter-append}
use Rattle.std.proofs.lemmas.List.{map-append, append-nil}
use Rattle.kt_history.specs.declared.target.Target.{Target}
use Rattle.kt_history.specs.declared.target.Target.TheVariants.{Mem, Delta}
use Rattle.kt_history.specs.Stores.{Hist, row_of, step_of, never}
use Rattle.kt_records.specs.declared.entry.Entry.{Entry}
use Rattle.kt_histlaws.specs.Fitting.{AreSound}
use Rattle.kt_histlaws.specs.Histories.{first_some, AtMostOne}
use Rattle.kt_histlaws.specs.Jobs.{AreAlike}
use Rattle.kt_rowfiles.specs.Files.{DiskRowset, hist_in_files}
use Rattle.kt_content.specs.Rules.{Rules, RowsetsPass}
use Rattle.kt_content.specs.Places.{Super, Place, memory, disk, Held, held_in, in_files, at_first, last_dms_of, newer}
use Rattle.kt_content.specs.Content.{NumbersDiffer, LacksNumber}
use Rattle.kt_content.specs.InMemory.{Name, mem_rows, rowset, Stores, if_there, stands_for, is_at, group, groups, hist_at}
use Rattle.kt_content.specs.Publishing.{gone}
use Rattle.kt_content.specs.RunEvents.{RowsetsBelow, IsBelow}
use Rattle.kt_content.specs.Recoverable.{Resident, SuperStands}
use Rattle.kt_content.specs.Keeping.{with_stores}
use Rattle.kt_content.specs.Successors.{kept_rowsets, Succeeds}
use Rattle.kt_content.specs.OneVisit.{IsLeftOrDone, PublishesAtRest}
use Rattle.kt_content.specs.Flushes.{AreFrom, before}
use Rattle.kt_content.proofs.Flushes.{differ_both, pass_both, hists_of_files, at_output, hand_over}
use Rattle.kt_content.proofs.OneVisit.{at_rest_stands}
use Rattle.kt_content.proofs.Lending.{alike_to_never}
use Rattle.kt_content.proofs.StoresCome.{others_keep}
use Rattle.kt_joblaws.specs.ChangesOver.{hists_of, in_memory}
use Rattle.kt_joblaws.specs.Compacts.{taken_in, left_in, left_rowsets, compacted, after_compaction, AreOf, CompactsOver, a_compaction_changes_over}
use Rattle.kt_joblaws.proofs.Among.{HasSome, same_first, has_front, has_behind, has_either}
use Rattle.kt_joblaws.proofs.Groups.{group-append, skip, last_more, none_from, mem_at, rowset_at, other_at, outputs_none, outputs_memory, outputs_below, outputs_stand, all_named}

-- A compaction leaves the MemRowSets, and the rowsets from before that it does not take
abbrev pub leaves : ℕ → (ℕ → Bool) → Place → Bool
leaves next take memory = true
leaves next take (disk r) = cond (nat_lt r next) (not (take r)) false

leaves_below : (next : ℕ) (take : ℕ → Bool) (r : ℕ) → r < next → leaves next take (disk r) ≡ not (take r)
leaves_below next take r lt = ap (λ (b : Bool). cond b (not (take r)) false) (lt-ltb r next lt)

leaves_above : (next : ℕ) (take : ℕ → Bool) (r : ℕ) → next ≤ r → leaves next take (disk r) ≡ false
leaves_above next take r le = ap (λ (b : Bool). cond b (not (take r)) false) (le-ltb r next le)

-- one that it leaves is from before, and not taken; of the others one from before is taken
left_is : (next : ℕ) (take : ℕ → Bool) (r : ℕ) → leaves next take (disk r) ≡ true → (r < next) × (take r ≡ false)
left_is next take r e = by (nat_lt r next) refl (take r) refl e
  where
    by : (b : Bool) → nat_lt r next ≡ b → (c : Bool) → take r ≡ c → cond b (not c) false ≡ true → (r < next) × (take r ≡ false)
    by true l false t e = (ltb-true r next l, t)
    by true l true t e = absurd (cc)
    by false l c t e = absurd (cc)

gone_is : (next : ℕ) (take : ℕ → Bool) (r : ℕ) → r < next → leaves next take (disk r) ≡ false → take r ≡ true
gone_is next take r lt e = by (take r) (sym (leaves_below next take r lt) ∙ e)
  where
    by : (b : Bool) → not b ≡ false → b ≡ true
    by true e = refl
    by false e = absurd (cc)

-- ---- the rowsets that are left

module _ (take : ℕ → Bool) where
  -- each list of rowsets without those that are taken
  abbrev but : DiskRowset → List DiskRowset → Bool → List DiskRowset
  but d rest b = cond (not b) (d ∷ rest) rest

  lacks_some : (r : ℕ) (ds : List DiskRowset) → LacksNumber r ds → LacksNumber r (left_rowsets take ds)
  lacks_some r [] l = tt
  lacks_some r (d ∷ ds) l = by (take d.rowset) (lacks_some r ds l.1)
    where
      by : (b : Bool) → LacksNumber r (left_rowsets take ds) → LacksNumber r (but d (left_rowsets take ds) b)
      by true rest = rest
      by false rest = (l.0, rest)

  differ_some : (ds : List DiskRowset) → NumbersDiffer ds → NumbersDiffer (left_rowsets take ds)
  differ_some [] n = tt
  differ_some (d ∷ ds) n = by (take d.rowset) (differ_some ds n.1)
    where
      by : (b : Bool) → NumbersDiffer (left_rowsets take ds) → NumbersDiffer (but d (left_rowsets take ds) b)
      by true rest = rest
      by false rest = (lacks_some d.rowset ds n.0, rest)

  pass_some : (rules : Rules) (ds : List DiskRowset) → RowsetsPass rules ds → RowsetsPass rules (left_rowsets take ds)
  pass_some rules [] p = tt
  pass_some rules (d ∷ ds) p = by (take d.rowset) (pass_some rules ds p.1)
    where
      by : (b : Bool) → RowsetsPass rules (left_rowsets take ds) → RowsetsPass rules (but d (left_rowsets take ds) b)
      by true rest = rest
      by false rest = (p.0, rest)

  pub below_some : (next last_mem : ℕ) (ds : List DiskRowset) → RowsetsBelow (before next last_mem) ds → RowsetsBelow (before next last_mem) (left_rowsets take ds)
  below_some next last_mem [] b = tt
  below_some next last_mem (d ∷ ds) b = by (take d.rowset) (below_some next last_mem ds b.1)
    where
      by : (k : Bool) → RowsetsBelow (before next last_mem) (left_rowsets take ds) → RowsetsBelow (before next last_mem) (but d (left_rowsets take ds) k)
      by true rest = rest
      by false rest = (b.0, rest)

  -- the last DeltaMemStore of one that is left is as before, and of one that is taken there is none
  last_left : (r : ℕ) (ds : List DiskRowset) → take r ≡ false → last_dms_of r (left_rowsets take ds) ≡ last_dms_of r ds
  last_left r [] e = refl
  last_left r (d ∷ ds) e = by (take d.rowset) refl (last_left r ds e)
    where
      by : (b : Bool) → take d.rowset ≡ b → last_dms_of r (left_rowsets take ds) ≡ last_dms_of r ds → last_dms_of r (but d (left_rowsets take ds) b) ≡ cond (d.rowset == r) (Some d.last_dms) (last_dms_of r ds)
      by true t rest = rest ∙ sym (ap (λ (k : Bool). cond k (Some d.last_dms) (last_dms_of r ds)) (ne_eqb d.rowset r (λ same. let f : take r ≡ true = subst (λ (n : ℕ). take n ≡ true) same t in absurd (cc))))
      by false t rest = ap (λ (o : Option ℕ). cond (d.rowset == r) (Some d.last_dms) o) rest

  last_taken : (r : ℕ) (ds : List DiskRowset) → take r ≡ true → last_dms_of r (left_rowsets take ds) ≡ None
  last_taken r [] e = refl
  last_taken r (d ∷ ds) e = by (take d.rowset) refl (last_taken r ds e)
    where
      by : (b : Bool) → take d.rowset ≡ b → last_dms_of r (left_rowsets take ds) ≡ None → last_dms_of r (but d (left_rowsets take ds) b) ≡ None
      by true t rest = rest
      by false t rest = ap (λ (k : Bool). cond k (Some d.last_dms) (last_dms_of r (left_rowsets take ds))) (ne_eqb d.rowset r (λ same. let f : take r ≡ false = subst (λ (n : ℕ). take n ≡ false) same t in absurd (cc))) ∙ rest

  module _ (next last_mem : ℕ) where
    left_kept : (ds : List DiskRowset) → RowsetsBelow (before next last_mem) ds → kept_rowsets (leaves next take) ds ≡ left_rowsets take ds
    left_kept [] b = refl
    left_kept (d ∷ ds) b =
        ap (λ (k : Bool). cond k (d ∷ kept_rowsets (leaves next take) ds) (kept_rowsets (leaves next take) ds)) (leaves_below next take d.rowset b.0)
        ∙ ap (λ (l : List DiskRowset). cond (not (take d.rowset)) (d ∷ l) l) (left_kept ds b.1)

    left_again : (ds : List DiskRowset) → RowsetsBelow (before next last_mem) ds → kept_rowsets (leaves next take) (left_rowsets take ds) ≡ left_rowsets take ds
    left_again [] b = refl
    left_again (d ∷ ds) b = by (take d.rowset) refl (left_again ds b.1)
      where
        by : (k : Bool) → take d.rowset ≡ k → kept_rowsets (leaves next take) (left_rowsets take ds) ≡ left_rowsets take ds → kept_rowsets (leaves next take) (but d (left_rowsets take ds) k) ≡ but d (left_rowsets take ds) k
        by true t rest = rest
        by false t rest =
            ap (λ (k : Bool). cond k (d ∷ kept_rowsets (leaves next take) (left_rowsets take ds)) (kept_rowsets (leaves next take) (left_rowsets take ds))) (leaves_below next take d.rowset b.0 ∙ ap not t)
            ∙ ap (λ (l : List DiskRowset). d ∷ l) rest

    none_kept : (outputs : List DiskRowset) → AreFrom next outputs → kept_rowsets (leaves next take) outputs ≡ []
    none_kept [] f = refl
    none_kept (d ∷ outputs) f = ap (λ (k : Bool). cond k (d ∷ kept_rowsets (leaves next take) outputs) (kept_rowsets (leaves next take) outputs)) (leaves_above next take d.rowset f.0) ∙ none_kept outputs f.1

    -- what files have for the places that are not left: of the rowsets that are left nothing, and of the outputs all
    none_gone : (q : List ℕ) (ds : List DiskRowset) → RowsetsBelow (before next last_mem) ds → gone (leaves next take) (in_files q (left_rowsets take ds)) ≡ []
    none_gone q [] b = refl
    none_gone q (d ∷ ds) b = by (take d.rowset) refl (none_gone q ds b.1)
      where
        by : (k : Bool) → take d.rowset ≡ k → gone (leaves next take) (in_files q (left_rowsets take ds)) ≡ [] → gone (leaves next take) (in_files q (but d (left_rowsets take ds) k)) ≡ []
        by true t rest = rest
        by false t rest =
            ap (λ (k : Bool). cond (not k) ((disk d.rowset, hist_in_files q d) ∷ gone (leaves next take) (in_files q (left_rowsets take ds))) (gone (leaves next take) (in_files q (left_rowsets take ds)))) (leaves_below next take d.rowset b.0 ∙ ap not t)
            ∙ rest

    all_gone : (q : List ℕ) (outputs : List DiskRowset) → AreFrom next outputs → gone (leaves next take) (in_files q outputs) ≡ in_files q outputs
    all_gone q [] f = refl
    all_gone q (d ∷ outputs) f =
        ap (λ (k : Bool). cond (not k) ((disk d.rowset, hist_in_files q d) ∷ gone (leaves next take) (in_files q outputs)) (gone (leaves next take) (in_files q outputs))) (leaves_above next take d.rowset f.0)
        ∙ ap (λ (l : Held). (disk d.rowset, hist_in_files q d) ∷ l) (all_gone q outputs f.1)

-- a rowset that is named has a number below the next one
named_below : (next last_mem r : ℕ) (ds : List DiskRowset) → RowsetsBelow (before next last_mem) ds → is_some (last_dms_of r ds) ≡ true → r < next
named_below next last_mem r [] b e = absurd (cc)
named_below next last_mem r (d ∷ ds) b e = by (d.rowset == r) refl e (named_below next last_mem r ds b.1)
  where
    by : (k : Bool) → (d.rowset == r) ≡ k → is_some (cond k (Some d.last_dms) (last_dms_of r ds)) ≡ true → (is_some (last_dms_of r ds) ≡ true → r < next) → r < next
    by true is e rest = subst (λ (n : ℕ). n < next) (eqb-true d.rowset r is) b.0
    by false is e rest = rest e

-- where none is named files have nothing
never_at : (r : ℕ) (q : List ℕ) (ds : List DiskRowset) → last_dms_of r ds ≡ None → hist_at (disk r) (in_files q ds) ≡ never
never_at r q [] e = refl
never_at r q (d ∷ ds) e = by (d.rowset == r) refl e (never_at r q ds)
  where
    by : (k : Bool) → (d.rowset == r) ≡ k → cond k (Some d.last_dms) (last_dms_of r ds) ≡ None → (last_dms_of r ds ≡ None → hist_at (disk r) (in_files q ds) ≡ never) → cond (r == d.rowset) (hist_in_files q d) (hist_at (disk r) (in_files q ds)) ≡ never
    by true is e rest = absurd (cc)
    by false is e rest =
        ap (λ (b : Bool). cond b (hist_in_files q d) (hist_at (disk r) (in_files q ds))) (ne_eqb r d.rowset (λ same. let f : (d.rowset == r) ≡ true = eq-eqb d.rowset r (sym same) in absurd (cc)))
        ∙ rest e

-- ---- the stores that are taken are those that stand for the places that are gone

module _ {B : Type 0} (f : Hist → Option B) (take : ℕ → Bool) (next last_mem : ℕ) (old : Super) (v : B) where
  abbrev pub Has : List Hist → Type 0
  Has hs = HasSome v (map f hs)

  front : (xs ys : List Hist) → Has xs → Has (xs ++ ys)
  front xs ys h = subst (HasSome v) (sym (map-append f xs ys)) (has_front v (map f xs) (map f ys) h)

  behind : (xs ys : List Hist) → Has ys → Has (xs ++ ys)
  behind xs ys h = subst (HasSome v) (sym (map-append f xs ys)) (has_behind v (map f xs) (map f ys) h)

  either : (xs ys : List Hist) → Has (xs ++ ys) → Has xs ⊎ Has ys
  either xs ys h = has_either v (map f xs) (map f ys) (subst (HasSome v) (map-append f xs ys) h)

  -- one store more changes nothing for the others
  more : (b : Bool) (h : Hist) (hs : List Hist) → Has hs → Has (cond b (h ∷ hs) hs)
  more true h hs has = inr has
  more false h hs has = has

  group_more : (p : Place) (x : Name × Hist) (stores : Stores) → Has (group old p stores) → Has (group old p (x ∷ stores))
  group_more p x stores has = more (is_at p (stands_for old x.0)) x.1 (group old p stores) has

  groups_more : (x : Name × Hist) (stores : Stores) (held : Held) → Has (groups old stores held) → Has (groups old (x ∷ stores) held)
  groups_more x stores [] has = absurd has
  groups_more x stores (p ∷ held) has = by (either (group old p.0 stores) (groups old stores held) has) (groups_more x stores held)
    where
      by : Has (group old p.0 stores) ⊎ Has (groups old stores held) → (Has (groups old stores held) → Has (groups old (x ∷ stores) held)) → Has (group old p.0 (x ∷ stores) ++ groups old (x ∷ stores) held)
      by (inl h) rest = front (group old p.0 (x ∷ stores)) (groups old (x ∷ stores) held) (group_more p.0 x stores h)
      by (inr h) rest = behind (group old p.0 (x ∷ stores)) (groups old (x ∷ stores) held) (rest h)

  -- a store that is taken and named is among those of its place
  here : (q : List ℕ) (s : ℕ) (h : Hist) (stores : Stores) (ds : List DiskRowset) → RowsetsBelow (before next last_mem) ds → take s ≡ true → is_some (last_dms_of s old.rowsets) ≡ true → is_some (last_dms_of s ds) ≡ true → f h ≡ Some v
      → Has (groups old ((rowset s, h) ∷ stores) (gone (leaves next take) (in_files q ds)))
  here q s h stores [] below t named there is = absurd (cc)
  here q s h stores (d ∷ ds) below t named there is = by (d.rowset == s) refl there (λ e. here q s h stores ds below.1 t named e is)
    where
      rest : Held
      rest = gone (leaves next take) (in_files q ds)

      at : (o : Option ℕ) → is_some o ≡ true → is_at (disk d.rowset) (if_there (disk s) o) ≡ (d.rowset == s)
      at None e = absurd (cc)
      at (Some n) e = refl

      add : (k : Bool) → Has (groups old ((rowset s, h) ∷ stores) rest) → Has (groups old ((rowset s, h) ∷ stores) (cond k ((disk d.rowset, hist_in_files q d) ∷ rest) rest))
      add true has = behind (group old (disk d.rowset) ((rowset s, h) ∷ stores)) (groups old ((rowset s, h) ∷ stores) rest) has
      add false has = has

      by : (k : Bool) → (d.rowset == s) ≡ k → is_some (cond k (Some d.last_dms) (last_dms_of s ds)) ≡ true → (is_some (last_dms_of s ds) ≡ true → Has (groups old ((rowset s, h) ∷ stores) rest)) → Has (groups old ((rowset s, h) ∷ stores) (cond (not (leaves next take (disk d.rowset))) ((disk d.rowset, hist_in_files q d) ∷ rest) rest))
      by true same e later =
          let taken : leaves next take (disk d.rowset) ≡ false = leaves_below next take d.rowset below.0 ∙ ap not (subst (λ (n : ℕ). take n ≡ true) (sym (eqb-true d.rowset s same)) t) in
          subst (λ (k : Bool). Has (groups old ((rowset s, h) ∷ stores) (cond (not k) ((disk d.rowset, hist_in_files q d) ∷ rest) rest))) (sym taken)
          (front (group old (disk d.rowset) ((rowset s, h) ∷ stores)) (groups old ((rowset s, h) ∷ stores) rest)
          (subst (λ (k : Bool). Has (cond k (h ∷ group old (disk d.rowset) stores) (group old (disk d.rowset) stores))) (sym (at (last_dms_of s old.rowsets) named ∙ same)) (inl is)))
      by false other e later = add (not (leaves next take (disk d.rowset))) (later e)

  pub taken_are_gone : (q : List ℕ) (stores : Stores) → RowsetsBelow (before next last_mem) old.rowsets → AreOf old stores → Has (hists_of (taken_in take stores)) → Has (groups old stores (gone (leaves next take) (in_files q old.rowsets)))
  taken_are_gone q [] below named has = absurd has
  taken_are_gone q ((mem_rows n, h) ∷ stores) below named has = groups_more (mem_rows n, h) stores (gone (leaves next take) (in_files q old.rowsets)) (taken_are_gone q stores below named.1 has)
  taken_are_gone q ((rowset s, h) ∷ stores) below named has = by (take s) refl has (λ has. groups_more (rowset s, h) stores (gone (leaves next take) (in_files q old.rowsets)) (taken_are_gone q stores below named.1 has))
    where
      by : (k : Bool) → take s ≡ k → Has (hists_of (cond k ((rowset s, h) ∷ taken_in take stores) (taken_in take stores)))
          → (Has (hists_of (taken_in take stores)) → Has (groups old ((rowset s, h) ∷ stores) (gone (leaves next take) (in_files q old.rowsets)))) → Has (groups old ((rowset s, h) ∷ stores) (gone (leaves next take) (in_files q old.rowsets)))
      by true t (inl e) later = here q s h stores old.rowsets below t named.0 named.0 e
      by true t (inr has) later = later has
      by false t has later = later has

  -- and the other way round
  pub of_group : (r : ℕ) (stores : Stores) → take r ≡ true → Has (group old (disk r) stores) → Has (hists_of (taken_in take stores))
  of_group r [] t has = absurd has
  of_group r ((mem_rows n, h) ∷ stores) t has = of_group r stores t (subst (λ (k : Bool). Has (cond k (h ∷ group old (disk r) stores) (group old (disk r) stores))) (mem_at r n old.last_mem) has)
  of_group r ((rowset s, h) ∷ stores) t has = by (is_at (disk r) (if_there (disk s) (last_dms_of s old.rowsets))) refl has (of_group r stores t)
    where
      is : (o : Option ℕ) → is_at (disk r) (if_there (disk s) o) ≡ true → r ≡ s
      is None e = absurd (cc)
      is (Some n) e = eqb-true r s e

      add : (k : Bool) → Has (hists_of (taken_in take stores)) → Has (hists_of (cond k ((rowset s, h) ∷ taken_in take stores) (taken_in take stores)))
      add true has = inr has
      add false has = has

      by : (k : Bool) → is_at (disk r) (if_there (disk s) (last_dms_of s old.rowsets)) ≡ k → Has (cond k (h ∷ group old (disk r) stores) (group old (disk r) stores)) → (Has (group old (disk r) stores) → Has (hists_of (taken_in take stores))) → Has (hists_of (taken_in take ((rowset s, h) ∷ stores)))
      by true e (inl is_v) later =
          subst (λ (k : Bool). Has (hists_of (cond k ((rowset s, h) ∷ taken_in take stores) (taken_in take stores)))) (sym (subst (λ (n : ℕ). take n ≡ true) (is (last_dms_of s old.rowsets) e) t)) (inl is_v)
      by true e (inr has) later = add (take s) (later has)
      by false e has later = add (take s) (later has)

  -- what is taken stands for a place
  pub group_of : (stores : Stores) → AreOf old stores → Has (hists_of (taken_in take stores)) → (r : ℕ) × (take r ≡ true) × Has (group old (disk r) stores)
  group_of [] named has = absurd has
  group_of ((mem_rows n, h) ∷ stores) named has = let more = group_of stores named.1 has in (more.0, more.1, group_more (disk more.0) (mem_rows n, h) stores more.2)
  group_of ((rowset s, h) ∷ stores) named has = by (take s) refl has (λ has. let more = group_of stores named.1 has in (more.0, more.1, group_more (disk more.0) (rowset s, h) stores more.2))
    where
      at : (o : Option ℕ) → is_some o ≡ true → is_at (disk s) (if_there (disk s) o) ≡ true
      at None e = absurd (cc)
      at (Some n) e = eq-eqb s s refl

      by : (k : Bool) → take s ≡ k → Has (hists_of (cond k ((rowset s, h) ∷ taken_in take stores) (taken_in take stores))) → (Has (hists_of (taken_in take stores)) → (r : ℕ) × (take r ≡ true) × Has (group old (disk r) ((rowset s, h) ∷ stores)))
          → (r : ℕ) × (take r ≡ true) × Has (group old (disk r) ((rowset s, h) ∷ stores))
      by true t (inl is) later = (s, t, subst (λ (k : Bool). Has (cond k (h ∷ group old (disk s) stores) (group old (disk s) stores))) (sym (at (last_dms_of s old.rowsets) named.0)) (inl is))
      by true t (inr has) later = later has
      by false t has later = later has

  pub gone_are_taken : (q : List ℕ) (stores : Stores) (ds : List DiskRowset) → RowsetsBelow (before next last_mem) ds → Has (groups old stores (gone (leaves next take) (in_files q ds))) → Has (hists_of (taken_in take stores))
  gone_are_taken q stores [] below has = absurd has
  gone_are_taken q stores (d ∷ ds) below has = by (leaves next take (disk d.rowset)) refl has (gone_are_taken q stores ds below.1)
    where
      rest : Held
      rest = gone (leaves next take) (in_files q ds)

      one : take d.rowset ≡ true → Has (group old (disk d.rowset) stores) ⊎ Has (groups old stores rest) → (Has (groups old stores rest) → Has (hists_of (taken_in take stores))) → Has (hists_of (taken_in take stores))
      one t (inl h) later = of_group d.rowset stores t h
      one t (inr h) later = later h

      by : (k : Bool) → leaves next take (disk d.rowset) ≡ k → Has (groups old stores (cond (not k) ((disk d.rowset, hist_in_files q d) ∷ rest) rest)) → (Has (groups old stores rest) → Has (hists_of (taken_in take stores))) → Has (hists_of (taken_in take stores))
      by true e has later = later has
      by false e has later = one (gone_is next take d.rowset below.0 e) (either (group old (disk d.rowset) stores) (groups old stores rest) has) later

-- ---- the whole

module _ (rules : Rules) (take : ℕ → Bool) (old : Super) (a c need next last_mem j : ℕ) (outputs : List DiskRowset) (records : List Entry) (stores : List ℕ → Stores) (f : CompactsOver rules take old a next last_mem outputs records stores j) where
  abbrev new : Super
  new = compacted take old a c need outputs

  abbrev keep : Place → Bool
  keep = leaves next take

  -- both sides at once: the stores from before, and behind them the outputs
  abbrev beside : List ℕ → Stores
  beside q = stores q ++ in_memory q outputs

  -- ---- which rowsets the superblocks name

  last_kept : (r : ℕ) → r < next → take r ≡ false → last_dms_of r new.rowsets ≡ last_dms_of r old.rowsets
  last_kept r lt t = last_more r (left_rowsets take old.rowsets) outputs (none_from next r outputs f.outputs_from lt) ∙ last_left take r old.rowsets t

  last_gone : (r : ℕ) → r < next → take r ≡ true → last_dms_of r new.rowsets ≡ None
  last_gone r lt t = last_more r (left_rowsets take old.rowsets) outputs (none_from next r outputs f.outputs_from lt) ∙ last_taken take r old.rowsets t

  succeeds : Succeeds keep old new
  succeeds = record {
    rowsets = filter-append (λ (d : DiskRowset). keep (disk d.rowset)) (left_rowsets take old.rowsets) outputs
        ∙ ap (λ (l : List DiskRowset). l ++ kept_rowsets keep outputs) (left_again take next last_mem old.rowsets f.rowsets)
        ∙ ap (λ (l : List DiskRowset). left_rowsets take old.rowsets ++ l) (none_kept take next last_mem outputs f.outputs_from)
        ∙ append-nil (left_rowsets take old.rowsets) ∙ sym (left_kept take next last_mem old.rowsets f.rowsets);
    mem = λ k. refl;
  }

  -- ---- names

  left_or_done : (t : Target) → IsBelow (before next last_mem) t → IsLeftOrDone keep new t
  left_or_done (Mem n) b = inl refl
  left_or_done (Delta r n) b = by (take r) refl
    where
      by : (k : Bool) → take r ≡ k → IsLeftOrDone keep new (Delta r n)
      by true t = inr (leaves_below next take r b ∙ ap not t, ap (newer (disk r) n) (last_gone r b t))
      by false t = inl (leaves_below next take r b ∙ ap not t)

  -- ---- what the old superblock sees of both sides

  old_same : (q : List ℕ) (p : Place) → group old p (beside q) ≡ group old p (stores q)
  old_same q p =
      group-append old p (stores q) (in_memory q outputs) ∙ ap (λ (l : List Hist). group old p (stores q) ++ l) (outputs_none old next last_mem p q outputs f.rowsets f.outputs_from) ∙ append-nil (group old p (stores q))

  groups_same : (q : List ℕ) (held : Held) → groups old (beside q) held ≡ groups old (stores q) held
  groups_same q [] = refl
  groups_same q (h ∷ held) = ap (λ (l : List Hist). l ++ groups old (beside q) held) (old_same q h.0) ∙ ap (λ (l : List Hist). group old h.0 (stores q) ++ l) (groups_same q held)

  -- ---- what the new one sees of them

  -- the stores that are taken stand for none
  left_same : (p : Place) (ss : Stores) → AreOf old ss → group new p (left_in take ss) ≡ group new p ss
  left_same p [] of = refl
  left_same p ((mem_rows n, h) ∷ ss) of = ap (λ (l : List Hist). cond (is_at p (newer memory n (Some old.last_mem))) (h ∷ l) l) (left_same p ss of.1)
  left_same p ((rowset s, h) ∷ ss) of = by (take s) refl (left_same p ss of.1)
    where
      by : (k : Bool) → take s ≡ k → group new p (left_in take ss) ≡ group new p ss → group new p (cond (not k) ((rowset s, h) ∷ left_in take ss) (left_in take ss)) ≡ group new p ((rowset s, h) ∷ ss)
      by true t rest = rest ∙ sym (skip new p (rowset s, h) ss (ap (λ (o : Option ℕ). is_at p (if_there (disk s) o)) (last_gone s (named_below next last_mem s old.rowsets f.rowsets of.0) t)))
      by false t rest = ap (λ (l : List Hist). cond (is_at p (if_there (disk s) (last_dms_of s new.rowsets))) (h ∷ l) l) rest

  new_same : (q : List ℕ) (p : Place) → group new p (after_compaction take q outputs (stores q)) ≡ group new p (beside q)
  new_same q p =
      group-append new p (left_in take (stores q)) (in_memory q outputs) ∙ ap (λ (l : List Hist). l ++ group new p (in_memory q outputs)) (left_same p (stores q) (f.named q))
      ∙ sym (group-append new p (stores q) (in_memory q outputs))

  memory_same : (ss : Stores) → group new memory ss ≡ group old memory ss
  memory_same [] = refl
  memory_same ((mem_rows n, h) ∷ ss) = ap (λ (l : List Hist). cond (is_at memory (newer memory n (Some old.last_mem))) (h ∷ l) l) (memory_same ss)
  memory_same ((rowset s, h) ∷ ss) =
      skip new memory (rowset s, h) ss (rowset_at s (last_dms_of s new.rowsets)) ∙ memory_same ss ∙ sym (skip old memory (rowset s, h) ss (rowset_at s (last_dms_of s old.rowsets)))

  disk_same : (r : ℕ) → last_dms_of r new.rowsets ≡ last_dms_of r old.rowsets → (ss : Stores) → group new (disk r) ss ≡ group old (disk r) ss
  disk_same r same [] = refl
  disk_same r same ((mem_rows n, h) ∷ ss) = skip new (disk r) (mem_rows n, h) ss (mem_at r n old.last_mem) ∙ disk_same r same ss ∙ sym (skip old (disk r) (mem_rows n, h) ss (mem_at r n old.last_mem))
  disk_same r same ((rowset s, h) ∷ ss) =
      ap (λ (k : Bool). cond k (h ∷ group new (disk r) ss) (group new (disk r) ss)) (at (r == s) refl)
      ∙ ap (λ (l : List Hist). cond (is_at (disk r) (if_there (disk s) (last_dms_of s old.rowsets))) (h ∷ l) l) (disk_same r same ss)
    where
      at : (k : Bool) → (r == s) ≡ k → is_at (disk r) (if_there (disk s) (last_dms_of s new.rowsets)) ≡ is_at (disk r) (if_there (disk s) (last_dms_of s old.rowsets))
      at true e = subst (λ (n : ℕ). is_at (disk r) (if_there (disk n) (last_dms_of n new.rowsets)) ≡ is_at (disk r) (if_there (disk n) (last_dms_of n old.rowsets))) (eqb-true r s e)
          (ap (λ (o : Option ℕ). is_at (disk r) (if_there (disk r) o)) same)
      at false e =
          let ne : r ≢ s = λ is. let t : (r == s) ≡ true = eq-eqb r s is in absurd (cc) in
          other_at r s (last_dms_of s new.rowsets) ne ∙ sym (other_at r s (last_dms_of s old.rowsets) ne)

  -- one that is named no more has no store
  none_stand : (r : ℕ) → last_dms_of r new.rowsets ≡ None → (ss : Stores) → group new (disk r) ss ≡ []
  none_stand r none [] = refl
  none_stand r none ((mem_rows n, h) ∷ ss) = skip new (disk r) (mem_rows n, h) ss (mem_at r n old.last_mem) ∙ none_stand r none ss
  none_stand r none ((rowset s, h) ∷ ss) = skip new (disk r) (rowset s, h) ss (at (r == s) refl) ∙ none_stand r none ss
    where
      at : (k : Bool) → (r == s) ≡ k → is_at (disk r) (if_there (disk s) (last_dms_of s new.rowsets)) ≡ false
      at true e = subst (λ (n : ℕ). is_at (disk r) (if_there (disk n) (last_dms_of n new.rowsets)) ≡ false) (eqb-true r s e) (ap (λ (o : Option ℕ). is_at (disk r) (if_there (disk r) o)) none)
      at false e = other_at r s (last_dms_of s new.rowsets) (λ is. let t : (r == s) ≡ true = eq-eqb r s is in absurd (cc))

  -- nor has one from the next number on, among the stores from before
  none_above : (r : ℕ) → next ≤ r → (ss : Stores) → AreOf old ss → group new (disk r) ss ≡ []
  none_above r up [] of = refl
  none_above r up ((mem_rows n, h) ∷ ss) of = skip new (disk r) (mem_rows n, h) ss (mem_at r n old.last_mem) ∙ none_above r up ss of.1
  none_above r up ((rowset s, h) ∷ ss) of =
      skip new (disk r) (rowset s, h) ss (other_at r s (last_dms_of s new.rowsets) (λ is. let lt = named_below next last_mem s old.rowsets f.rowsets of.0 in omega arith)) ∙ none_above r up ss of.1

  others : (q : List ℕ) (p : Place) → keep p ≡ true → group new p (beside q) ≡ group old p (beside q)
  others q memory k =
      group-append new memory (stores q) (in_memory q outputs) ∙ ap (λ (l : List Hist). l ++ group new memory (in_memory q outputs)) (memory_same (stores q))
      ∙ ap (λ (l : List Hist). group old memory (stores q) ++ l) (outputs_memory new q outputs ∙ sym (outputs_memory old q outputs)) ∙ sym (group-append old memory (stores q) (in_memory q outputs))
  others q (disk r) k =
      let is = left_is next take r k in
      group-append new (disk r) (stores q) (in_memory q outputs) ∙ ap (λ (l : List Hist). l ++ group new (disk r) (in_memory q outputs)) (disk_same r (last_kept r is.0 is.1) (stores q))
      ∙ ap (λ (l : List Hist). group old (disk r) (stores q) ++ l) (outputs_below new next r q outputs f.outputs_from is.0 ∙ sym (outputs_below old next r q outputs f.outputs_from is.0))
      ∙ sym (group-append old (disk r) (stores q) (in_memory q outputs))

  outs : (q : List ℕ) (p : Place) → keep p ≡ false → AreAlike a (group new p (beside q)) (hist_at p (at_first q new) ∷ [])
  outs q memory k = absurd (cc)
  outs q (disk r) k = by (nat_lt r next) refl
    where
      both : group new (disk r) (stores q) ≡ [] → group new (disk r) (beside q) ≡ group new (disk r) (in_memory q outputs)
      both none = group-append new (disk r) (stores q) (in_memory q outputs) ∙ ap (λ (l : List Hist). l ++ group new (disk r) (in_memory q outputs)) none

      by : (b : Bool) → nat_lt r next ≡ b → AreAlike a (group new (disk r) (beside q)) (hist_at (disk r) (at_first q new) ∷ [])
      by true lt =
          let low : r < next = ltb-true r next lt in
          let none : last_dms_of r new.rowsets ≡ None = last_gone r low (gone_is next take r low k) in
          subst (λ (l : List Hist). AreAlike a l (hist_at (disk r) (at_first q new) ∷ [])) (sym (both (none_stand r none (stores q)) ∙ outputs_below new next r q outputs f.outputs_from low))
          (subst (λ (h : Hist). AreAlike a [] (h ∷ [])) (sym (never_at r q new.rowsets none)) (alike_to_never a))
      by false up =
          subst (λ (l : List Hist). AreAlike a l (hist_at (disk r) (at_first q new) ∷ [])) (sym (both (none_above r (ltb-false r next up) (stores q) (f.named q))))
          (subst (λ (h : Hist). AreAlike a (group new (disk r) (in_memory q outputs)) (h ∷ [])) (sym (at_output next last_mem q r (left_rowsets take old.rowsets) outputs up (below_some take next last_mem old.rowsets f.rowsets)))
          (outputs_stand new a r q outputs (all_named (left_rowsets take old.rowsets) outputs) f.new_differ))

  -- ---- what is taken, and the outputs

  gone_new : (q : List ℕ) → held_in (gone keep (at_first q new)) ≡ map (hist_in_files q) outputs
  gone_new q =
      ap held_in
      (ap (gone keep) (map-append (λ (d : DiskRowset). (disk d.rowset, hist_in_files q d)) (left_rowsets take old.rowsets) outputs)
      ∙ filter-append (λ (h : Place × Hist). not (keep h.0)) (in_files q (left_rowsets take old.rowsets)) (in_files q outputs)
      ∙ ap (λ (l : Held). l ++ gone keep (in_files q outputs)) (none_gone take next last_mem q old.rowsets f.rowsets)
      ∙ all_gone take next last_mem q outputs f.outputs_from)
      ∙ hists_of_files q outputs

  same_taken : {B : Type 0} (q : List ℕ) (g : Hist → Option B) → AtMostOne (map g (hists_of (taken_in take (stores q))))
      → first_some (map g (groups old (beside q) (gone keep (at_first q old)))) ≡ first_some (map g (hists_of (taken_in take (stores q))))
  same_taken q g one =
      ap (λ (l : List Hist). first_some (map g l)) (groups_same q (gone keep (in_files q old.rowsets)))
      ∙ same_first (map g (groups old (stores q) (gone keep (in_files q old.rowsets)))) (map g (hists_of (taken_in take (stores q))))
      (λ v has. gone_are_taken g take next last_mem old v q (stores q) old.rowsets f.rowsets has)
      (λ v has. taken_are_gone g take next last_mem old v q (stores q) f.rowsets (f.named q) has) one

  alike : (q : List ℕ) → AreAlike j (groups old (beside q) (gone keep (at_first q old))) (map (hist_in_files q) outputs)
  alike q = record {
    rows = λ t le. same_taken q (row_of t) ((f.apart q).one_row t le) ∙ (f.alike q).rows t le;
    steps = λ t lt. same_taken q (step_of t) ((f.apart q).one_step t lt) ∙ (f.alike q).steps t lt;
    one_row = (f.alike q).one_row;
    one_step = (f.alike q).one_step;
  }

  publishes : PublishesAtRest rules keep old new records beside j
  publishes = record {
    numbers = differ_both next last_mem (left_rowsets take old.rowsets) outputs (differ_some take old.rowsets f.old_differ) f.new_differ (below_some take next last_mem old.rowsets f.rowsets) f.outputs_from;
    files = pass_both rules (left_rowsets take old.rowsets) outputs (pass_some take rules old.rowsets f.old_pass) f.new_pass;
    succeeds = succeeds;
    names = hand_over keep new (before next last_mem) left_or_done records records f.names f.told;
    alike = λ q. subst (λ (l : List Hist). AreAlike j (groups old (beside q) (gone keep (at_first q old))) l) (sym (gone_new q)) (alike q);
    sound = λ q. subst (λ (l : List Hist). AreSound a l) (sym (gone_new q)) (f.sound q);
    outs = outs;
    others = others;
  }

pub compacts_over : a_compaction_changes_over
compacts_over rules fill take old a c need next last_mem outputs durable high j past live names numbers log stands calm f lends up old_fresh new_fresh =
    let records = durable ++ [] in
    let both : List ℕ → Stores = beside rules take old a c need next last_mem j outputs records live.stores f in
    let there : Resident = with_stores both names numbers live in
    let one : SuperStands rules fill old durable [] past there = others_keep rules fill old durable [] past live both names numbers stands
    (λ q p. old_same rules take old a c need next last_mem j outputs records live.stores f q p) old_fresh in
    let two = at_rest_stands rules fill (leaves next take) old (compacted take old a c need outputs) durable high j past there log one calm
    (publishes rules take old a c need next last_mem j outputs records live.stores f) lends up new_fresh in
    others_keep rules fill (compacted take old a c need outputs) durable [] past there (λ q. after_compaction take q outputs (live.stores q)) names numbers two
    (λ q p. new_same rules take old a c need next last_mem j outputs records live.stores f q p) new_fresh

-- What keeps the store of an engine standing: it goes out, it comes home, and it comes home after a fault.
use Rattle.std.proofs.Common.{◌≡◌, ℕ, ◌≤◌, ◌+◌, ◌^◌, List, [], ◌∷◌, Bool, IsTrue, true, false, Option, Some, None, refl, sym, subst, ◌∙◌, arith, inl, inr}
use Rattle.std.specs.Prelude.{◌⊎◌, Ok}
use Rattle.kt_files.specs.Named.{HasNamed}
use Rattle.std.specs.List.{AllByRecursion}
use Rattle.kt_base.specs.Causes.{Rose}
use Rattle.kt_disk.specs.Disk.{Files, LeavesOnly}
use Rattle.kt_super.specs.declared.meta.Meta.{Meta}
use Rattle.kt_super.specs.declared.meta.MetaRowset.{MetaRowset}
use Rattle.kt_super.specs.Body.{IsMeta}
use Rattle.kt_super.specs.Slots.{super_of, AreStable}
use Rattle.kt_storeside.specs.Supers.{FilesStand, Publishes, HasSuper, NamedStand}
use Rattle.kt_storeside.specs.Turns.{IsTurn, HasOneOf}
use Rattle.kt_storeside.specs.Sides.{StoreView, known_in, lent_in, holder_in, published_in, side_of, HasEither, SpellLent, LeavesSpelled, SpellMade, IsMade, Most, IsWithin, Beginning, most_from, greatest_dms, MayBeLent, IsSide}
use Rattle.kt_storeside.proofs.Gates.{same_slot}
use Rattle.kt_storeside.proofs.Named.{first_file}
use Rattle.kt_storeside.specs.Published.{Version, WasPublished, published_last}
use Rattle.kt_storeside.proofs.Published.{turned, only_so, none_yet}
use Rattle.kt_storeside.proofs.Standing.{left_above, left, image_has, still_stand}

-- a superblock lies within the bounds that it begins with
dms_within : (least : ℕ) (rowsets : List MetaRowset) (most : ℕ) → greatest_dms least rowsets ≤ most → AllByRecursion (λ (r : MetaRowset). r.last_dms ≤ most) rowsets
dms_within least [] most le = tt
dms_within least (r ∷ rowsets) most le = (omega (arith, le), dms_within least rowsets most (omega (arith, le)))

begins_within : (meta : Meta) (mem rowset : ℕ) → IsWithin (most_from meta mem rowset) meta
begins_within meta mem rowset = record { number = omega arith; last_mem = omega arith; last_dms = dms_within (rowset + 2 ^ 44) meta.rowsets (greatest_dms (rowset + 2 ^ 44) meta.rowsets) (omega arith) }

module _ {D : Type 0} (tells : Bool) (seen : D → Files) (now : D → ℕ) (leaves : D → ℕ → Files → Type 0) (faults : D → ℕ) where
  abbrev Stands : StoreView D → Type 0
  Stands v = IsSide tells seen now leaves faults v

  -- a device at home is the known one, and its images have its superblock
  pub home_is_known : (v : StoreView D) (home : Option D) (whole : Bool) (went : D) (by : ℕ) (meta : Meta) (lent : Option Meta) (nr nf : ℕ) (first : Beginning D) → side_of home whole went by meta lent nr nf first ≡ v
      → IsTrue v.whole → (disk : D) → v.home ≡ Some disk → disk ≡ v.known
  home_is_known v home whole went by meta lent nr nf first e is disk at =
      subst (λ (w : StoreView D). IsTrue w.whole → w.home ≡ Some disk → disk ≡ w.known) e (known home whole) is at
    where
      known : (h : Option D) (w : Bool) → IsTrue w → h ≡ Some disk → disk ≡ known_in h w went
      known None w is at = absurd cc
      known (Some d) true is at = cc
      known (Some d) false is at = absurd cc

  -- the superblock of each image of a device that publishes one
  published_super : (m : Meta) (disk : D) → Publishes seen now leaves m disk → (c : Files) → leaves disk (now disk) c → super_of c ≡ Ok (Some m)
  published_super m disk p c left = same_slots (seen disk) c (p.slots 1 (inl refl) c left) (p.slots 2 (inr refl) c left) ∙ p.superblock
    where
      same_slots : (f g : Files) → g 1 ≡ f 1 → g 2 ≡ f 2 → super_of g ≡ super_of f
      same_slots f g one two = cc

  pub home_has_super : (v : StoreView D) → Stands v → (disk : D) → disk ≡ v.known → IsTrue tells → (c : Files) → leaves disk (now disk) c → HasSuper (seen disk) v.meta c
  home_has_super v s disk e t c left = subst (λ (d : D). leaves d (now d) c → HasSuper (seen d) v.meta c) (sym e) (λ l. record {
    superblock = published_super v.meta v.known (s.publishes t) c l;
    named_are = λ n is. (s.publishes t).files c l n is;
  }) left

  one_super : (c : Files) (m k : Meta) → super_of c ≡ Ok (Some m) → super_of c ≡ Ok (Some k) → m ≡ k
  one_super c m k e f = cc

  -- nothing is pending of the files that it names
  pub named_stand : (m : Meta) (disk : D) → Publishes seen now leaves m disk → NamedStand seen now leaves disk
  named_stand m disk p c left k is = subst (λ (x : Meta). FilesStand seen now leaves x disk) (one_super c m k (published_super m disk p c left) is) p.files

  -- slots of which nothing is pending spell what they read
  pub stable_spell : (disk : D) (lent : Option Meta) → AreStable seen now leaves disk → LeavesSpelled now leaves (seen disk) lent disk
  stable_spell disk lent stable c left slot is m told = inl (sym (same_slot slot c (seen disk) (stable slot is c left)) ∙ told)

  -- a superblock that may be lent is one that was made
  lent_made : (v : StoreView D) (m : Meta) → MayBeLent tells seen now leaves v m → IsMade v.first.most v.meta.number v.next_rowset v.next_file m
  lent_made v m may = record { rules = may.next.rules; within = may.within; number = omega (arith, may.next.number); rowsets = may.next.rowsets; files = may.next.files }

  -- each image of a device at home spells what was spelled when the side began, or was made since
  pub images_made : (v : StoreView D) → Stands v → IsTrue tells → (disk : D) → v.home ≡ Some disk → (c : Files) → leaves disk (now disk) c → SpellMade seen v c
  images_made v s t disk at c left slot is m told = elim (s.spells disk at t c left slot is m told) [ inl old ↦ s.slots t slot is m old | inr new ↦ inr (lent_made v m (s.lent_is m new)) ]

  -- it begins
  pub first_stands : (meta : Meta) (nr nf : ℕ) (device : D) (mem : ℕ) → IsMeta meta → meta.next_rowset ≤ nr → meta.next_file ≤ nf → (IsTrue tells → Publishes seen now leaves meta device) → (IsTrue tells → (n : ℕ) → nf ≤ n → seen device n ≡ None)
      → Stands (side_of (Some device) true device 0 meta None nr nf (record { device = device; most = most_from meta mem nr }))
  first_stands meta nr nf device mem rules rowsets files publishes vacant = record {
    rules = rules;
    within = begins_within meta mem nr;
    rowsets = rowsets;
    files = files;
    publishes = publishes;
    vacant = vacant;
    lent_is = λ m e. absurd cc;
    broken = λ un d at. absurd cc;
    rose = λ un d at. absurd cc;
    stand = λ d at t. subst (λ (x : D). NamedStand seen now leaves x) (same d at) (named_stand meta device (publishes t));
    slots = λ t slot is m told. inl told;
    spells = λ d at t. subst (λ (x : D). LeavesSpelled now leaves (seen device) None x) (same d at) (stable_spell device None (publishes t).slots);
    was = λ t. none_yet seen now leaves device meta (publishes t).superblock;
    last = λ un d at. absurd cc;
  }
    where
      same : (d : D) → Some device ≡ Some d → device ≡ d
      same d at = cc

  -- it goes out
  pub out_stands : (home : Option D) (whole : Bool) (went : D) (by : ℕ) (meta : Meta) (lent : Option Meta) (nr nf : ℕ) (first : Beginning D) (disk : D) (number : ℕ) (later : Option Meta)
      → Stands (side_of home whole went by meta lent nr nf first) → home ≡ Some disk → IsTrue whole
      → ((m : Meta) → later ≡ Some m → MayBeLent tells seen now leaves (side_of home whole went by meta lent nr nf first) m) → Stands (side_of None whole disk number meta later nr nf first)
  out_stands None whole went by meta lent nr nf first disk number later s at is may = absurd cc
  out_stands (Some d) false went by meta lent nr nf first disk number later s at is may = absurd cc
  out_stands (Some d) true went by meta lent nr nf first disk number later s at is may = subst (λ (k : D). Stands (side_of None true k number meta later nr nf first)) same (record {
    rules = s.rules;
    within = s.within;
    rowsets = s.rowsets;
    files = s.files;
    publishes = s.publishes;
    vacant = s.vacant;
    lent_is = λ m e. record { next = (may m e).next; within = (may m e).within; files = (may m e).files };
    broken = λ un other out. absurd cc;
    rose = λ un other out. absurd cc;
    stand = λ other out. absurd cc;
    slots = s.slots;
    spells = λ other out. absurd cc;
    was = s.was;
    last = λ un other out. absurd cc;
  })
    where
      same : d ≡ disk
      same = cc

  -- which superblock is published once it is home, and what holds of it
  record IsKept (m : Meta) (most : Most) (nr nf old : ℕ) (went : D) : Type 0 where
    rules : IsMeta m
    within : IsWithin most m
    rowsets : m.next_rowset ≤ nr
    files : m.next_file ≤ nf
    number : old ≤ m.number
    stand : IsTrue tells → FilesStand seen now leaves m went

  kept : (published : Bool) (went : D) (by : ℕ) (meta : Meta) (lent : Option Meta) (nr nf : ℕ) (first : Beginning D) → Stands (side_of None true went by meta lent nr nf first) → IsKept (published_in published lent meta) first.most nr nf meta.number went
  kept true went by meta None nr nf first s = record { rules = s.rules; within = s.within; rowsets = s.rowsets; files = s.files; number = omega arith; stand = λ t. (s.publishes t).files }
  kept true went by meta (Some m) nr nf first s = let may = s.lent_is m refl in record { rules = may.next.rules; within = may.within; rowsets = may.next.rowsets; files = may.next.files; number = omega (arith, may.next.number); stand = may.files }
  kept false went by meta lent nr nf first s = record { rules = s.rules; within = s.within; rowsets = s.rowsets; files = s.files; number = omega arith; stand = λ t. (s.publishes t).files }

  -- what was made once stays so
  made_more : (most : Most) (number more nr nr' nf nf' : ℕ) (m : Meta) → number ≤ more → nr ≤ nr' → nf ≤ nf' → IsMade most number nr nf m → IsMade most more nr' nf' m
  made_more most number more nr nr' nf nf' m le one two made = record { rules = made.rules; within = made.within; number = omega (arith, made.number, le); rowsets = omega (arith, made.rowsets, one); files = omega (arith, made.files, two) }

  -- it comes home
  pub home_stands : (home : Option D) (whole : Bool) (went : D) (by : ℕ) (meta : Meta) (lent : Option Meta) (nr nf : ℕ) (first : Beginning D) (disk : D) (number : ℕ) (published : Bool) (given : Option Meta) (nr' nf' : ℕ)
      → Stands (side_of home whole went by meta lent nr nf first) → holder_in home by ≡ Some number → IsTrue whole → given ≡ lent_in home whole lent → nr ≤ nr' → nf ≤ nf' → (IsTrue tells → IsTurn seen now leaves nf nf' (known_in home whole went) disk)
      → (IsTrue tells → super_of (seen disk) ≡ Ok (Some (published_in published given meta))) → (IsTrue tells → AreStable seen now leaves disk)
      → (IsTrue tells → SpellLent (seen (known_in home whole went)) given (seen disk)) → (IsTrue tells → LeavesOnly now leaves (HasEither seen (side_of home whole went by meta lent nr nf first)) (known_in home whole went) disk)
      → Stands (side_of (Some disk) whole went by (published_in published given meta) lent nr' nf' first)
  home_stands (Some d) whole went by meta lent nr nf first disk number published given nr' nf' s out is same le le' turn superblock stable spell only = absurd cc
  home_stands None false went by meta lent nr nf first disk number published given nr' nf' s out is same le le' turn superblock stable spell only = absurd cc
  home_stands None true went by meta lent nr nf first disk number published given nr' nf' s out is same le le' turn superblock stable spell only = record {
    rules = k.rules;
    within = k.within;
    rowsets = omega (arith, k.rowsets, le);
    files = omega (arith, k.files, le');
    publishes = publishes;
    vacant = λ t n above. (turn t).reads n (left_above nf nf' n (omega (arith, first_file meta s.rules, s.files)) le' above) ∙ s.vacant t n (omega (arith, le', above));
    lent_is = λ m e. absurd cc;
    broken = λ un d at. absurd cc;
    rose = λ un d at. absurd cc;
    stand = λ d at t. subst (λ (x : D). NamedStand seen now leaves x) (at_home d at) (named_stand (published_in published given meta) disk (publishes t));
    spells = λ d at t. subst (λ (x : D). LeavesSpelled now leaves (seen disk) None x) (at_home d at) (stable_spell disk None (stable t));
    slots = slots;
    was = was;
    last = λ un d at. absurd cc;
  }
    where
      k : IsKept (published_in published given meta) first.most nr nf meta.number went
      k = subst (λ (o : Option Meta). IsKept (published_in published o meta) first.most nr nf meta.number went) (sym same) (kept published went by meta lent nr nf first s)

      -- what a slot spells it spelled before, or it was lent
      slots : IsTrue tells → SpellMade seen (side_of (Some disk) true went by (published_in published given meta) lent nr' nf' first) (seen disk)
      slots t slot at m told = elim (spell t slot at m told) [
        | inl old ↦ elim (s.slots t slot at m old) [
          | inl began ↦ inl began
          | inr made ↦ inr (made_more first.most meta.number (published_in published given meta).number nr nr' nf nf' m k.number le le' made)
        ]
        | inr new ↦
            inr (made_more first.most meta.number (published_in published given meta).number nr nr' nf nf' m k.number le le' (lent_made (side_of None true went by meta lent nr nf first) m (s.lent_is m (sym same ∙ new))))
      ]

      publishes : IsTrue tells → Publishes seen now leaves (published_in published given meta) disk
      publishes t = record { superblock = superblock t; slots = stable t; files = still_stand seen now leaves nf nf' went disk (turn t) (published_in published given meta) k.rules k.files (k.stand t) }

      at_home : (d : D) → Some disk ≡ Some d → disk ≡ d
      at_home d at = cc

      -- the one that went out reads the same files as it comes home
      as_read : (t : IsTrue tells) (m : Meta) → IsMeta m → m.next_file ≤ nf → HasNamed m.rowsets (seen went) (seen disk)
      as_read t m rules given n is = (turn t).reads n (left seen now leaves nf nf' went disk (turn t) m rules given n is)

      more : (t : IsTrue tells) (c : Files) → HasEither seen (side_of None true went by meta lent nr nf first) c → HasSuper (seen went) meta c ⊎ ((m : Meta) × (lent ≡ Some m) × HasSuper (seen disk) m c)
      more t c (inl has) = inl has
      more t c (inr new) = let may = s.lent_is new.0 new.1 in inr (new.0, new.1, record { superblock = new.2.superblock; named_are = λ n is. new.2.named_are n is ∙ sym (as_read t new.0 may.next.rules may.next.files n is) })

      is_one : (b : Bool) (o : Option Meta) → (published_in b o meta ≡ meta) ⊎ (o ≡ Some (published_in b o meta))
      is_one true None = inl refl
      is_one true (Some m) = inr refl
      is_one false o = inl refl

      was : (t : IsTrue tells) → (w : WasPublished seen now leaves first.device disk) × (published_last w ≡ record { meta = published_in published given meta; files = seen disk })
      was t = turned seen now leaves first.device went disk (record { meta = meta; files = seen went }) (record { meta = published_in published given meta; files = seen disk }) lent (s.was t).0 (s.was t).1
          (λ m e. ((s.lent_is m e).next.rules, (s.lent_is m e).next.number)) (subst (λ (o : Option Meta). (published_in published given meta ≡ meta) ⊎ (o ≡ Some (published_in published given meta))) same (is_one published given)) (as_read t meta s.rules s.files)
          (only_so seen now leaves (HasEither seen (side_of None true went by meta lent nr nf first)) (λ c. HasSuper (seen went) meta c ⊎ ((m : Meta) × (lent ≡ Some m) × HasSuper (seen disk) m c)) went disk (more t) (only t))

  -- it comes home after a fault
  pub broken_stands : (home : Option D) (whole : Bool) (went : D) (by : ℕ) (meta : Meta) (lent : Option Meta) (nr nf : ℕ) (first : Beginning D) (disk : D) (number nf' : ℕ)
      → Stands (side_of home whole went by meta lent nr nf first) → holder_in home by ≡ Some number → nf ≤ nf' → (IsTrue tells → IsTurn seen now leaves nf nf' (known_in home whole went) disk)
      → (IsTrue tells → HasOneOf now leaves meta (published_in true (lent_in home whole lent) meta) disk) → (IsTrue tells → LeavesSpelled now leaves (seen (known_in home whole went)) (lent_in home whole lent) disk)
      → Rose (faults (known_in home whole went)) (faults disk) → (IsTrue tells → LeavesOnly now leaves (HasEither seen (side_of home whole went by meta lent nr nf first)) (known_in home whole went) disk) → Stands (side_of (Some disk) false went by meta lent nr nf first)
  broken_stands (Some d) whole went by meta lent nr nf first disk number nf' s out le turn one spell rose only = absurd cc
  broken_stands None whole went by meta lent nr nf first disk number nf' s out le turn one spell rose only = record {
    rules = s.rules;
    within = s.within;
    rowsets = s.rowsets;
    files = s.files;
    publishes = s.publishes;
    vacant = s.vacant;
    lent_is = λ m e. record { next = (s.lent_is m e).next; within = (s.lent_is m e).within; files = (s.lent_is m e).files };
    broken = λ no d at t c is. subst (λ (k : D). leaves k (now k) c → HasEither seen (side_of (Some disk) false went by meta lent nr nf first) c) (same d at) (either t c) is;
    rose = λ un d at. subst (λ (k : D). Rose (faults went) (faults k)) (same d at) rose;
    stand = λ d at t. subst (λ (k : D). NamedStand seen now leaves k) (same d at) (named t);
    slots = s.slots;
    spells = λ d at t. subst (λ (k : D). LeavesSpelled now leaves (seen went) lent k) (same d at) (spell t);
    was = s.was;
    last = λ no d at t. subst (λ (k : D). LeavesOnly now leaves (HasEither seen (side_of (Some disk) false went by meta lent nr nf first)) went k) (same d at) (only t);
  }
    where
      same : (d : D) → Some disk ≡ Some d → disk ≡ d
      same d at = cc

      has : IsTrue tells → (m : Meta) → IsMeta m → m.next_file ≤ nf → FilesStand seen now leaves m went → (c : Files) → leaves disk (now disk) c → super_of c ≡ Ok (Some m) → HasSuper (seen went) m c
      has t m rules given stand c is e = record { superblock = e; named_are = image_has seen now leaves nf nf' went disk (turn t) m rules given stand c is }

      -- nothing is pending of the files of either
      of_meta : IsTrue tells → FilesStand seen now leaves meta disk
      of_meta t = still_stand seen now leaves nf nf' went disk (turn t) meta s.rules s.files ((s.publishes t).files)

      of_new : (o : Option Meta) → lent ≡ o → IsTrue tells → FilesStand seen now leaves (published_in true o meta) disk
      of_new None e t = of_meta t
      of_new (Some m) e t = let may = s.lent_is m e in still_stand seen now leaves nf nf' went disk (turn t) m may.next.rules may.next.files (may.files t)

      named : IsTrue tells → NamedStand seen now leaves disk
      named t c left k is = elim (one t c left) [
        | inl old ↦ subst (λ (x : Meta). FilesStand seen now leaves x disk) (one_super c meta k old is) (of_meta t)
        | inr new ↦ subst (λ (x : Meta). FilesStand seen now leaves x disk) (one_super c (published_in true lent meta) k new is) (of_new lent refl t)
      ]

      of_lent : (o : Option Meta) → lent ≡ o → IsTrue tells → (c : Files) → leaves disk (now disk) c → super_of c ≡ Ok (Some (published_in true o meta)) → HasEither seen (side_of (Some disk) false went by meta lent nr nf first) c
      of_lent None e t c is told = inl (has t meta s.rules s.files ((s.publishes t).files) c is told)
      of_lent (Some m) e t c is told = let may = s.lent_is m e in inr (m, e, has t m may.next.rules may.next.files (may.files t) c is told)

      either : IsTrue tells → (c : Files) → leaves disk (now disk) c → HasEither seen (side_of (Some disk) false went by meta lent nr nf first) c
      either t c is = elim (one t c is) [
        | inl old ↦ inl (has t meta s.rules s.files ((s.publishes t).files) c is old)
        | inr new ↦ of_lent lent refl t c is new
      ]

  -- what was left at each moment since the side began, up to a device at home
  pub left_since : (v : StoreView D) → Stands v → (IsTrue v.whole → (disk : D) → v.home ≡ Some disk → disk ≡ v.known) → IsTrue tells → (disk : D) → v.home ≡ Some disk → WasPublished seen now leaves v.first.device disk
  left_since v s known t disk at = by v.whole refl
    where
      by : (b : Bool) → v.whole ≡ b → WasPublished seen now leaves v.first.device disk
      by true is = subst (λ (d : D). WasPublished seen now leaves v.first.device d) (sym (known is disk at)) (s.was t).0
      by false is = (turned seen now leaves v.first.device v.known disk (record { meta = v.meta; files = seen v.known }) (record { meta = v.meta; files = seen v.known }) v.lent (s.was t).0 (s.was t).1
          (λ m e. ((s.lent_is m e).next.rules, (s.lent_is m e).next.number)) (inl refl) (λ n is. refl) (s.last is disk at t)).0

-- What removing the files that no superblock names leaves of a store.
use Rattle.std.proofs.Common.{◌≡◌, ℕ, List, [], Bool, true, false, inl, inr, Some, None, Ok, refl, sym, ap, subst, ◌∙◌, arith}
use Rattle.std.specs.Prelude.{◌||◌, ◌==◌}
use Rattle.std.proofs.lemmas.Bool.{false≢true}
use Rattle.kt_disk.specs.Disk.{Files, LeavesOnly, Same, Turns, bytes_of}
use Rattle.kt_disk.proofs.Moments.{started, goes_on_same, weaker, joined}
use Rattle.kt_super.specs.declared.meta.Meta.{Meta}
use Rattle.kt_super.specs.declared.meta.MetaRowset.{MetaRowset}
use Rattle.kt_super.specs.Rowsets.{has}
use Rattle.kt_super.specs.Slots.{super_of, of_both, slot_at, AreStable, IsSlot}
use Rattle.kt_files.specs.Named.{named_in, is_kept, Spares}
use Rattle.kt_storeside.specs.Supers.{NamedStand}
use Rattle.kt_storeside.proofs.Gates.{same_slot}
use Rattle.kt_reopen.specs.Holding.{HasFilesOf, IsOfStore}
use Rattle.kt_reopen.proofs.Publishing.{super_left}

some_is : {X : Type 0} (x y : X) → Some x ≡ Some y → x ≡ y
some_is x y e = cc

-- the slots are kept, and each file that is named
pub kept_named : (named : List ℕ) (n : ℕ) → has named n ≡ true → is_kept named n ≡ true
kept_named named n h = elim (n == 1) as (λ (b : Bool). (b || ((n == 2) || has named n)) ≡ true) [
  | true ↦ refl
  | false ↦ elim (n == 2) as (λ (b : Bool). (b || has named n) ≡ true) [ true ↦ refl | false ↦ h ]
]

-- a slot is kept
slot_kept : (named : List ℕ) (slot : ℕ) → IsSlot slot → is_kept named slot ≡ true
slot_kept named slot is = elim is [
  | inl one ↦ subst (λ (n : ℕ). is_kept named n ≡ true) (sym one) refl
  | inr two ↦ subst (λ (n : ℕ). is_kept named n ≡ true) (sym two) refl
]

pub super_kept : (named : List ℕ) (c image : Files) → ((n : ℕ) → is_kept named n ≡ true → c n ≡ image n) → super_of c ≡ super_of image
super_kept named c image kept =
    let one = kept 1 refl in
    let two = kept 2 refl in
    λ k. of_both (slot_at 1 (bytes_of (one k))) (slot_at 2 (bytes_of (two k)))

module _ {D : Type 0} (seen : D → Files) (now : D → ℕ) (leaves : D → ℕ → Files → Type 0) where
  -- calls that only read leave each image as it was
  pub same_files : (old mid : D) → Turns now leaves Same old mid → LeavesOnly now leaves (HasFilesOf now leaves old) old mid
  same_files old mid turn =
      goes_on_same seen now leaves (HasFilesOf now leaves old) old old mid (started seen now leaves (HasFilesOf now leaves old) old (λ c left. record { image = c; was_left = left; super = refl; named = λ m e n h. refl; slots = λ k is. refl })) turn

  -- an image behind them has the superblock that was read, where the slots were stable
  pub left_named : (old mid : D) (m : Meta) → AreStable seen now leaves old → super_of (seen old) ≡ Ok (Some m) → Turns now leaves Same old mid → (c : Files) → leaves mid (now mid) c → super_of c ≡ Ok (Some m)
  left_named old mid m stable named turn c left =
      let run = same_files old mid turn in
      let was = run.each (now mid) c run.later (omega arith) left in
      was.super ∙ super_left seen now leaves old stable was.image was.was_left ∙ named

  -- other files are removed under the superblock that each image has
  pub spared_later : (old mid new : D) (m : Meta) → Turns now leaves Same old mid → ((c : Files) → leaves mid (now mid) c → super_of c ≡ Ok (Some m))
      → LeavesOnly now leaves (Spares now leaves mid (named_in m.rowsets)) mid new → LeavesOnly now leaves (HasFilesOf now leaves old) old new
  spared_later old mid new m turn its run =
      let before = same_files old mid turn in
      joined now leaves (HasFilesOf now leaves old) old mid new before
      (weaker now leaves (Spares now leaves mid (named_in m.rowsets)) (HasFilesOf now leaves old) mid new
      (λ c w.
      let was = before.each (now mid) w.image before.later (omega arith) w.was_left in
      let slots = super_kept (named_in m.rowsets) c w.image w.kept in
      record {
        image = was.image;
        was_left = was.was_left;
        super = slots ∙ was.super;
        named = λ x e n h.
            let both : Ok (Some x) ≡ Ok (Some m) = sym e ∙ sym was.super ∙ its w.image w.was_left in
            let one : x ≡ m = cc in
            w.kept n (kept_named (named_in m.rowsets) n (subst (λ (y : Meta). has (named_in y.rowsets) n ≡ true) one h)) ∙ was.named x e n h;
        slots = λ k is. same_slot k c w.image (w.kept k (slot_kept (named_in m.rowsets) k is)) ∙ was.slots k is;
      })
      run)

  -- or behind the first superblock, in a store that had none
  pub spared_first : (old mid new : D) (first : Meta) (named : List ℕ) → ((c : Files) → leaves old (now old) c → super_of c ≡ Ok None) → LeavesOnly now leaves (IsOfStore now leaves first old) old mid
      → LeavesOnly now leaves (Spares now leaves mid named) mid new → LeavesOnly now leaves (IsOfStore now leaves first old) old new
  spared_first old mid new first named none before run =
      joined now leaves (IsOfStore now leaves first old) old mid new before
      (weaker now leaves (Spares now leaves mid named) (IsOfStore now leaves first old) mid new
      (λ c w.
      let was = before.each (now mid) w.image before.later (omega arith) w.was_left in
      let slots = super_kept named c w.image w.kept in
      record {
        image = was.image;
        was_left = was.was_left;
        super = elim was.super [ inl same ↦ inl (slots ∙ same) | inr both ↦ inr (both.0, slots ∙ both.1) ];
        named = λ m e. absurd (let clash : Ok (Some m) ≡ Ok None = sym e ∙ none was.image was.was_left in cc);
        slots = λ k is x spells. was.slots k is x (sym (same_slot k c w.image (w.kept k (slot_kept named k is))) ∙ spells);
      })
      run)

  -- what has the files of an image needs no first superblock
  pub of_store : (old new : D) (first : Meta) → LeavesOnly now leaves (HasFilesOf now leaves old) old new → LeavesOnly now leaves (IsOfStore now leaves first old) old new
  of_store old new first run = weaker now leaves (HasFilesOf now leaves old) (IsOfStore now leaves first old) old new (λ c w. record { image = w.image; was_left = w.was_left; super = inl w.super; named = w.named; slots = λ k is x spells. inl (sym (w.slots k is) ∙ spells) }) run

  -- what is left behind calls that only read is left behind those before them
  pub files_from : (old mid new : D) → Turns now leaves Same old mid → LeavesOnly now leaves (HasFilesOf now leaves mid) mid new → LeavesOnly now leaves (HasFilesOf now leaves old) old new
  files_from old mid new turn run =
      let before = same_files old mid turn in
      joined now leaves (HasFilesOf now leaves old) old mid new before
      (weaker now leaves (HasFilesOf now leaves mid) (HasFilesOf now leaves old) mid new
      (λ c w.
      let was = before.each (now mid) w.image before.later (omega arith) w.was_left in
      record { image = was.image; was_left = was.was_left; super = w.super ∙ was.super; named = λ m e n h. w.named m (was.super ∙ e) n h ∙ was.named m e n h; slots = λ k is. w.slots k is ∙ was.slots k is })
      run)

  pub store_from : (old mid new : D) (first : Meta) → Turns now leaves Same old mid → LeavesOnly now leaves (IsOfStore now leaves first mid) mid new → LeavesOnly now leaves (IsOfStore now leaves first old) old new
  store_from old mid new first turn run =
      let before = same_files old mid turn in
      joined now leaves (IsOfStore now leaves first old) old mid new (of_store old mid first before)
      (weaker now leaves (IsOfStore now leaves first mid) (IsOfStore now leaves first old) mid new
      (λ c w.
      let was = before.each (now mid) w.image before.later (omega arith) w.was_left in
      record {
        image = was.image;
        was_left = was.was_left;
        super = elim w.super [ inl same ↦ inl (same ∙ was.super) | inr both ↦ inr (sym was.super ∙ both.0, both.1) ];
        named = λ m e n h. w.named m (was.super ∙ e) n h ∙ was.named m e n h;
        slots = λ k is x spells. elim (w.slots k is x spells) [ inl there ↦ inl (sym (was.slots k is) ∙ there) | inr new_one ↦ inr new_one ];
      })
      run)

  -- ---- where nothing is pending of the files that the superblock of an image names, that stays so; a disk as it reads is one of its images

  -- behind calls that only read
  left_old : (old new : D) → Turns now leaves Same old new → (c : Files) → leaves new (now new) c → leaves old (now old) c
  left_old old new turn c left =
      let run = goes_on_same seen now leaves (λ (c : Files). leaves old (now old) c) old old new (started seen now leaves (λ (c : Files). leaves old (now old) c) old (λ c left. left)) turn in
      run.each (now new) c run.later (omega arith) left

  pub stand_same : (old new : D) → leaves new (now new) (seen new) → Turns now leaves Same old new → NamedStand seen now leaves old → NamedStand seen now leaves new
  stand_same old new reads turn stand image left m is c left' n h =
      let each = stand image (left_old old new turn image left) m is in
      each c (left_old old new turn c left') n h ∙ sym (each (seen new) (left_old old new turn (seen new) reads) n h)

  -- behind those that leave each image with the superblock and the files of one from before
  pub stand_some : (old mid new : D) (m : Meta) → leaves new (now new) (seen new) → Turns now leaves Same old mid → AreStable seen now leaves mid → super_of (seen mid) ≡ Ok (Some m) → LeavesOnly now leaves (HasFilesOf now leaves mid) mid new
      → NamedStand seen now leaves old → NamedStand seen now leaves new
  stand_some old mid new m reads turn stable its run stand image left x is c left' n h =
      let was = λ (d : Files) (there : leaves new (now new) d). run.each (now new) d run.later (omega arith) there in
      let super = λ (d : Files) (there : leaves new (now new) d). super_left seen now leaves mid stable (was d there).image (was d there).was_left ∙ its in
      let one : x ≡ m = (let both : Ok (Some x) ≡ Ok (Some m) = sym is ∙ (was image left).super ∙ super image left in cc) in
      let files = λ (d : Files) (there : leaves new (now new) d).
      let w = was d there in
      let old_left = left_old old mid turn w.image w.was_left in
      let named : super_of w.image ≡ Ok (Some x) = super d there ∙ ap (λ (y : Meta). Ok (Some y)) (sym one) in
      w.named x named n h ∙ stand w.image old_left x named w.image old_left n h
      in
      files c left' ∙ sym (files (seen new) reads)

  -- and behind those that leave none, or one that names no file
  pub stand_none : (mid new : D) (first : Meta) → first.rowsets ≡ [] → AreStable seen now leaves mid → super_of (seen mid) ≡ Ok None → LeavesOnly now leaves (IsOfStore now leaves first mid) mid new → NamedStand seen now leaves new
  stand_none mid new first bare stable none run image left m is c left' n h =
      let w = run.each (now new) image run.later (omega arith) left in
      elim w.super [
        | inl same ↦ absurd (let clash : Ok (Some m) ≡ Ok None = sym is ∙ same ∙ super_left seen now leaves mid stable w.image w.was_left ∙ none in cc)
        | inr both ↦
            let one : m ≡ first = (let same : Ok (Some m) ≡ Ok (Some first) = sym is ∙ both.1 in cc) in
            let none_has : false ≡ true = subst (λ (rs : List MetaRowset). has (named_in rs) n ≡ true) (ap (λ (y : Meta). y.rowsets) one ∙ bare) h in
            absurd (false≢true none_has)
      ]

  -- ---- the slots

  -- stay stable behind calls that only read
  pub stable_read : (old mid : D) → AreStable seen now leaves old → Turns now leaves Same old mid → seen mid ≡ seen old → AreStable seen now leaves mid
  stable_read old mid stable turn same slot is c left = stable slot is c (left_old old mid turn c left) ∙ ap (λ (files : Files). files slot) (sym same)

  -- and where other files are removed
  pub stable_kept : (mid new : D) (named : List ℕ) → AreStable seen now leaves mid → LeavesOnly now leaves (Spares now leaves mid named) mid new → ((n : ℕ) → is_kept named n ≡ true → seen new n ≡ seen mid n) → AreStable seen now leaves new
  stable_kept mid new named stable run kept slot is c left =
      let w = run.each (now new) c run.later (omega arith) left in
      let stays = slot_kept named slot is in
      w.kept slot stays ∙ stable slot is w.image w.was_left ∙ sym (kept slot stays)

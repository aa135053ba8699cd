-- Between two superblocks: what a crash leaves while one is prepared and its gate is opened.
use Rattle.std.proofs.Common.{◌≡◌, ℕ, Bool, true, false, eqb, cond, ◌%◌, refl, sym, ap, ◌∙◌, subst, arith, inl, inr, Option, Some, None, List, ◌∷◌, []}
use Rattle.std.specs.Prelude.{◌⊎◌, ◌≢◌, Ok, Result}
use Rattle.std.proofs.lemmas.Bool.{cases_eq}
use Rattle.kt_disk.specs.Disk.{Files, LeavesOnly, ButFiles, bytes_of, held}
use Rattle.kt_disk.proofs.Moments.{joined}
use Rattle.kt_super.specs.declared.meta.Meta.{Meta}
use Rattle.kt_super.specs.Body.{slot_for}
use Rattle.kt_super.specs.Slots.{super_of, slot_at, IsSlot, AreStable, IsWith, IsOldOrNone, IsNoneOrNew}
use Rattle.kt_storeside.specs.Supers.{BetweenBoth, SpellNoOther}

slot_is : (n : ℕ) → IsSlot (slot_for n)
slot_is n = step (eqb (n % 2) 1)
  where
    step : (b : Bool) → IsSlot (cond b 1 2)
    step true = inl refl
    step false = inr refl

-- a file that is neither slot is not that of the number
pub no_slot : (n file : ℕ) → file ≢ 1 → file ≢ 2 → file ≢ slot_for n
no_slot n file one two e = elim (slot_is n) [ inl first ↦ one (e ∙ first) | inr second ↦ two (e ∙ second) ]

-- a slot has the same bytes, so it tells the same
pub same_slot : (slot : ℕ) (c files : Files) → c slot ≡ files slot → slot_at slot (held c slot) ≡ slot_at slot (held files slot)
same_slot slot c files e = ap (λ (x : Option (List ℕ)). slot_at slot (bytes_of x)) e

none_spells : {G : Type 0} (told : Result (Option Meta) ℕ) (k : Meta) → told ≡ Ok None → told ≡ Ok (Some k) → G
none_spells told k e f = let clash : Ok None ≡ Ok (Some k) = sym e ∙ f in absurd cc

this_spells : (told : Result (Option Meta) ℕ) (m k : Meta) → told ≡ Ok (Some m) → told ≡ Ok (Some k) → k ≡ m
this_spells told m k e f = let both : Ok (Some m) ≡ Ok (Some k) = sym e ∙ f in cc

module _ {D : Type 0} (seen : D → Files) (now : D → ℕ) (leaves : D → ℕ → Files → Type 0) (m : Meta) where
  abbrev While : D → ℕ → Files → Type 0
  While old slot = IsWith now leaves old slot (λ s. s ≡ super_of (seen old)) (IsOldOrNone (slot_at slot (held (seen old) slot)))

  -- a slot that is not written is as the disk reads
  left_alone : (disk : D) → AreStable seen now leaves disk → (slot k : ℕ) (c : Files) → IsSlot k → (k ≡ slot → ⊥) → ButFiles now leaves disk (slot ∷ []) c → slot_at k (held c k) ≡ slot_at k (held (seen disk) k)
  left_alone disk stable slot k c is other others = same_slot k c (seen disk) (others.others k (other, tt) ∙ stable k is others.image others.was_left)

  -- while it is prepared, no slot spells another
  closed_spell : (old : D) → AreStable seen now leaves old → (c : Files) → While old (slot_for m.number) c → SpellNoOther (seen old) m c
  closed_spell old stable c w k is x spells = elim (cases_eq k (slot_for m.number)) [
    | inl this ↦
        let at : slot_at (slot_for m.number) (held c (slot_for m.number)) ≡ Ok (Some x) = subst (λ (n : ℕ). slot_at n (held c n) ≡ Ok (Some x)) this spells in
        elim w.here [
          | inl old_one ↦ inl (subst (λ (n : ℕ). slot_at n (held (seen old) n) ≡ Ok (Some x)) (sym this) (sym old_one ∙ at))
          | inr none ↦ none_spells (slot_at (slot_for m.number) (held c (slot_for m.number))) x none at
        ]
    | inr other ↦ inl (sym (left_alone old stable (slot_for m.number) k c is other w.others) ∙ spells)
  ]

  -- while it is prepared, the old one stands
  pub prepared : (old new : D) → AreStable seen now leaves old → LeavesOnly now leaves (While old (slot_for m.number)) old new → LeavesOnly now leaves (BetweenBoth seen now leaves m old) old new
  prepared old new stable run = record {
    later = run.later;
    each = λ k c lo hi left. let w = run.each k c lo hi left in record {
      superblock = inl w.superblock;
      slots = closed_spell old stable c w;
      others = record { image = w.others.image; was_left = w.others.was_left; others = λ n apart. w.others.others n (no_slot m.number n apart.0 apart.1.0, tt) };
    };
    past = run.past;
    keeps = run.keeps;
  }

  -- and while its gate is opened, the old one or the new one
  pub opened : (old mid new : D) (slot : ℕ) → AreStable seen now leaves old → slot ≡ slot_for m.number → leaves mid (now mid) (seen mid) → LeavesOnly now leaves (While old (slot_for m.number)) old mid
      → LeavesOnly now leaves (IsWith now leaves mid slot (λ s. (s ≡ super_of (seen mid)) ⊎ (s ≡ Ok (Some m))) (IsNoneOrNew m)) mid new → LeavesOnly now leaves (BetweenBoth seen now leaves m old) old new
  opened old mid new slot stable same reads first second = joined now leaves (BetweenBoth seen now leaves m old) old mid new (prepared old mid stable first) (record {
    later = second.later;
    each = λ k c lo hi left.
        let w = second.each k c lo hi left in
        let v = first.each (now mid) w.others.image first.later (omega arith) w.others.was_left in record {
          superblock = elim w.superblock [ inl was ↦ inl (was ∙ (first.each (now mid) (seen mid) first.later (omega arith) reads).superblock) | inr is ↦ inr is ];
          slots = λ n is x spells. elim (cases_eq n slot) [
            | inl this ↦
                let at : slot_at slot (held c slot) ≡ Ok (Some x) = subst (λ (j : ℕ). slot_at j (held c j) ≡ Ok (Some x)) this spells in
                elim w.here [
                  | inl none ↦ none_spells (slot_at slot (held c slot)) x none at
                  | inr new_one ↦ inr (this_spells (slot_at slot (held c slot)) m x new_one at)
                ]
            | inr other ↦ closed_spell old stable w.others.image v n is x (sym (same_slot n c w.others.image (w.others.others n (other, tt))) ∙ spells)
          ];
          others = record {
            image = v.others.image;
            was_left = v.others.was_left;
            others = λ n apart. w.others.others n (λ e. no_slot m.number n apart.0 apart.1.0 (e ∙ same), tt) ∙ v.others.others n (no_slot m.number n apart.0 apart.1.0, tt);
          };
        };
    past = second.past;
    keeps = second.keeps;
  })

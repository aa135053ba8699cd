-- What a crash at a moment inside a call on a device leaves.
use Rattle.std.proofs.Common.{◌≡◌, ℕ, ◌<◌, Bool, true, false, cond, List, ◌++◌, length, Option, Some, None, Ok, refl, sym, ap, subst, ◌∙◌, arith, inl, inr}
use Rattle.std.specs.Prelude.{IsTrue, ◌==◌}
use Rattle.std.proofs.lemmas.List.{append-nil}
use Rattle.std.proofs.Math.Seq.{take-append_seam}
use Rattle.kt_disk.specs.Disk.{Files, LeavesOnly}
use Rattle.kt_history.specs.History.{Past}
use Rattle.kt_records.specs.declared.entry.Entry.{Entry}
use Rattle.kt_journal.specs.Log.{records_of}
use Rattle.kt_journal.specs.Open.{JournalView}
use Rattle.kt_super.specs.declared.meta.Meta.{Meta}
use Rattle.kt_super.specs.Body.{IsMeta}
use Rattle.kt_super.specs.Slots.{super_of}
use Rattle.kt_super.specs.Rowsets.{has}
use Rattle.kt_content.specs.Rules.{Rules}
use Rattle.kt_storeside.specs.Supers.{FilesStand, BetweenBoth, HasSuper}
use Rattle.kt_storeside.specs.Sides.{StoreView, LeavesSpelled, IsSide}
use Rattle.kt_storeside.proofs.Gates.{same_slot}
use Rattle.kt_storeside.proofs.Named.{named_between, first_file}
use Rattle.kt_storeside.proofs.Standing.{left_below}
use Rattle.kt_engine.specs.Logged.{PlanPasses}
use Rattle.kt_engine.specs.Engines.{EngineView, IsContent}
use Rattle.kt_engine.specs.Visits.{lent_of, out_of}
use Rattle.kt_engine.specs.Stored.{RecoversPair}
use Rattle.kt_engine.specs.Moments.{HoldsWithStore, IsAppendedTo, AppendsRecover, PublishesLeaveEither, WritesLeaveEither, EitherRecovers, LeavesInTurn, HasEitherSince}

-- ---- calls on the log

-- what its part says of the log is so
is_out : {J : Type 0} (holder : Option ℕ) (known journal : J) (out batch : List Entry) (n : ℕ) → lent_of holder known n ≡ Some journal → out_of holder out n ≡ Some batch → (known ≡ journal) × (out ≡ batch)
is_out None known journal out batch n lent is = absurd (cc)
is_out (Some by) known journal out batch n lent is = by_holder (by == n) lent is
  where
    by_holder : (b : Bool) → cond b (Some known) None ≡ Some journal → cond b (Some out) None ≡ Some batch → (known ≡ journal) × (out ≡ batch)
    by_holder true one two = (cc, cc)
    by_holder false one two = absurd (cc)

-- while a log as the engine knows it is appended to
module _ {L D C : Type 0} (log_tells : Bool) (log_seen : L → Files) (log_now : L → ℕ) (log_leaves : L → ℕ → Files → Type 0) (tells : Bool) (seen : D → Files) where
  known_recovers : (view : EngineView L D C) (later : L) → IsAppendedTo log_seen log_now log_leaves view.log.known view.log.out later → RecoversPair log_tells log_seen tells seen view
      → (rules : Rules) (first : Past) → IsContent rules view first → PlanPasses rules view.tablet.core.work → IsTrue log_tells → IsTrue tells → LeavesOnly log_now log_leaves (HoldsWithStore seen rules first view) view.log.known.disk later
  known_recovers view later run pair rules first content plan lt t =
      let known = records_of (log_seen view.log.known.disk) in
      record {
        later = run.later;
        each = λ m c lo hi left image has. elim (run.each m c lo hi left).1 [
          | inl old ↦ pair rules first content plan lt t 0 c image (old ∙ ap Ok (sym (append-nil known))) has
          | inr both ↦ pair rules first content plan lt t (length view.log.out) c image (both ∙ ap (λ (l : List Entry). Ok (known ++ l)) (sym (take-append_seam view.log.out view.log.queued))) has
        ];
        past = run.past;
        keeps = run.keeps;
      }

  pub appends_recover : AppendsRecover L D C log_tells log_seen log_now log_leaves tells seen
  appends_recover pass journal batch later run view has pair rules first content plan lt t =
      let out = is_out view.log.holder view.log.known journal view.log.out batch pass has.lent has.out in
      subst (λ (j : JournalView L). LeavesOnly log_now log_leaves (HoldsWithStore seen rules first view) j.disk later) out.0
      (known_recovers view later
      (subst (λ (j : JournalView L). IsAppendedTo log_seen log_now log_leaves j view.log.out later) (sym out.0) (subst (λ (l : List Entry). IsAppendedTo log_seen log_now log_leaves journal l later) (sym out.1) run))
      pair rules first content plan lt t)

-- ---- calls on the store

pub either_recovers : {L D C : Type 0} (log_tells : Bool) (log_seen : L → Files) (tells : Bool) (seen : D → Files) (now : D → ℕ) (leaves : D → ℕ → Files → Type 0) → EitherRecovers L D C log_tells log_seen tells seen now leaves
either_recovers log_tells log_seen tells seen now leaves view pair rules first content plan lt t later run = record {
  later = run.later;
  each = λ m c lo hi left log_image some. pair rules first content plan lt t some.0 log_image c some.1 (run.each m c lo hi left);
  past = run.past;
  keeps = run.keeps;
}

module _ {D : Type 0} (tells : Bool) (seen : D → Files) (now : D → ℕ) (leaves : D → ℕ → Files → Type 0) (faults : D → ℕ) where
  -- an image with this superblock, which has all files but the slots as one of the disk, has the files that it names
  with_files : (store : StoreView D) (later m : Meta) (c : Files) → IsMeta m → FilesStand seen now leaves m store.known → BetweenBoth seen now leaves later store.known c → super_of c ≡ Ok (Some m) → HasSuper (seen store.known) m c
  with_files store later m c rules stand between superblock = record {
    superblock = superblock;
    named_are = λ n is. let at = named_between m n rules is in
        between.others.others n (left_below m.next_file m.next_file n at.least at.below).no_slot ∙ stand between.others.image between.others.was_left n is;
  }

  pub publishes_leave_either : PublishesLeaveEither D tells seen now leaves faults
  publishes_leave_either store side t meta lent later run =
      let p = side.publishes t in
      let may = side.lent_is meta lent in
      record {
        later = run.later;
        each = λ m c lo hi left. let between = run.each m c lo hi left in elim between.superblock [
          | inl was ↦ inl (with_files store meta store.meta c side.rules p.files between (was ∙ p.superblock))
          | inr new ↦ inr (meta, lent, with_files store meta meta c may.next.rules (may.files t) between new)
        ];
        past = run.past;
        keeps = run.keeps;
      }

  -- an image that has the slots as others have them has their superblock
  same_slots : (f g : Files) → g 1 ≡ f 1 → g 2 ≡ f 2 → super_of g ≡ super_of f
  same_slots f g one two = cc

  pub writes_leave_either : WritesLeaveEither D tells seen now leaves faults
  writes_leave_either store side t next later run =
      let p = side.publishes t in
      let least = first_file store.meta side.rules in
      let given = side.files in
      record {
        later = run.later;
        each = λ m c lo hi left.
            let from = run.each m c lo hi left in
            inl (record {
              superblock = same_slots (seen store.known) c (from.others 1 (inl (omega arith)) ∙ p.slots 1 (inl refl) from.image from.was_left) (from.others 2 (inl (omega arith)) ∙ p.slots 2 (inr refl) from.image from.was_left) ∙ p.superblock;
              named_are = λ n is. let at = (named_between store.meta n side.rules is).below in from.others n (inl (omega arith)) ∙ p.files from.image from.was_left n is;
            });
        past = run.past;
        keeps = run.keeps;
      }

  -- At its end a turn has spelled no other superblock in a slot than the lent one
  pub turn_spells : (store : StoreView D) → IsSide tells seen now leaves faults store → IsTrue tells → (next : ℕ) (later : D) → LeavesInTurn seen now leaves store.lent store.next_file next store.known later
      → LeavesSpelled now leaves (seen store.known) store.lent later
  turn_spells store side t next later run = by store.lent run
    where
      by : (lent : Option Meta) → LeavesInTurn seen now leaves lent store.next_file next store.known later → LeavesSpelled now leaves (seen store.known) lent later
      by (Some meta) run c left slot is m told = elim ((run.each (now later) c run.later (omega arith) left).slots slot is m told) [ inl was ↦ inl was | inr new ↦ inr (ap Some (sym new)) ]
      by None run c left slot is m told =
          let from = run.each (now later) c run.later (omega arith) left in
          let least = first_file store.meta side.rules in
          let given = side.files in
          let low : slot < store.next_file = elim is [ inl one ↦ omega arith | inr two ↦ omega arith ] in
          let here = from.others slot (inl low) ∙ (side.publishes t).slots slot is from.image from.was_left in
          inl (sym (same_slot slot c (seen store.known) here) ∙ told)

  -- At each moment of it a crash left one of both, and the files that it names
  pub turn_leaves : (store : StoreView D) → IsSide tells seen now leaves faults store → IsTrue tells → (next : ℕ) (later : D) → LeavesInTurn seen now leaves store.lent store.next_file next store.known later → HasEitherSince seen now leaves store later
  turn_leaves store side t next later run = by store.lent refl run
    where
      by : (lent : Option Meta) → store.lent ≡ lent → LeavesInTurn seen now leaves lent store.next_file next store.known later → HasEitherSince seen now leaves store later
      by (Some meta) is r = publishes_leave_either store side t meta is later r
      by None is r = writes_leave_either store side t next later r

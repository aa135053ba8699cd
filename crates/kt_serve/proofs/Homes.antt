-- A log that comes home, as its engine tells how it went out.
use Rattle.std.proofs.Common.{◌≡◌, ℕ, Bool, false, cond, eqb, arith, List, Option, Some, None, sym, ap, ◌∙◌, subst, inl, inr}
use Rattle.std.proofs.lemmas.Bool.{cases_eq}
use Rattle.std.proofs.lemmas.Bool.Decides.{nat_tests}
use Rattle.kt_disk.specs.Disk.{Files}
use Rattle.kt_records.specs.declared.entry.Entry.{Entry}
use Rattle.kt_journal.specs.Open.{JournalView}
use Rattle.kt_engine.specs.Engines.{EngineView}
use Rattle.kt_engine.specs.Visits.{PartView, part_in, lent_of}
use Rattle.kt_serve.specs.Sessions.{HasLog}
use Rattle.kt_serve.specs.Homes.{IsAppended, IsBroken}
use Rattle.kt_serve.proofs.Begins.{some_is}
use Rattle.kt_serve.proofs.Stills.{went_out}

-- what a pass has out is out to it
held_by : {J : Type 0} (h : Option ℕ) (known journal : J) (n : ℕ) → lent_of h known n ≡ Some journal → h ≡ Some n
held_by None known journal n e = absurd (cc)
held_by {J} (Some by) known journal n e = elim (cases_eq by n) [
  | inl same ↦ ap Some same
  | inr apart ↦ let none : None ≡ Some journal = sym (ap (λ (b : Bool). cond b (Some known) None) (let no : eqb by n ≡ false = grind (arith, nat_tests) in no)) ∙ e in absurd (cc)
]

module _ {L D C : Type 0} (x : EngineView L D C) (told : Option (PartView L D C)) (n : ℕ) (old : JournalView L) (records : List Entry) (is : told ≡ Some (part_in x n)) (has : HasLog told old records) where
  pub its_holder : x.log.holder ≡ Some n
  its_holder = held_by x.log.holder x.log.known old n (ap (λ (p : PartView L D C). p.lent) (some_is (part_in x n) has.part (sym is ∙ has.is)) ∙ has.lent)

  module _ (tells : Bool) (seen : L → Files) (now : L → ℕ) (leaves : L → ℕ → Files → Type 0) (faults : L → ℕ) (new : JournalView L) where
    pub appended_to : IsAppended tells seen now leaves faults old records new → IsAppended tells seen now leaves faults x.log.known x.log.out new
    appended_to a =
        let went = went_out told x n old records is has in
        subst (λ (j : JournalView L). IsAppended tells seen now leaves faults j x.log.out new) (sym went.0)
        (subst (λ (es : List Entry). IsAppended tells seen now leaves faults old es new) (sym went.1) a)

    pub broken_from : IsBroken tells seen now leaves faults old records new → IsBroken tells seen now leaves faults x.log.known x.log.out new
    broken_from b =
        let went = went_out told x n old records is has in
        subst (λ (j : JournalView L). IsBroken tells seen now leaves faults j x.log.out new) (sym went.0)
        (subst (λ (es : List Entry). IsBroken tells seen now leaves faults old es new) (sym went.1) b)

-- A round of a maintenance command, want by want.
use Rattle.std.proofs.Common.{◌≡◌, ◌⊎◌, ℕ, ◌<◌, ◌≤◌, ◌+◌, Bool, true, false, cond, List, [], ◌∷◌, ◌++◌, take, length, get_or, Option, Some, Ok, refl, sym, ap, subst, ◌∙◌, inl, inr}
use Rattle.std.specs.Prelude.{◌^◌, ◌-◌, ◌&&◌, nat_eq, not}
use Rattle.std.specs.Cmp.Lexicographic.{pointwise}
use Rattle.std.specs.List.{AllByRecursion}
use Rattle.std.proofs.lemmas.Bool.{eq-eqb}
use Rattle.std.proofs.lemmas.List.{take_all, take_more}
use Rattle.kt_base.specs.declared.chore.Chore.{Chore}
use Rattle.kt_history.specs.declared.event.Event.{Event}
use Rattle.kt_pick.specs.declared.rules.Want.{Want}
use Rattle.kt_pick.specs.declared.rules.Want.TheVariants as want
use Rattle.kt_engine.specs.Visits.{PartView}
use Rattle.kt_engine.specs.Calls.{HasDone}
use Rattle.kt_engine.specs.Jobs.{UpkeepView, Last, finished, nothing, more, same_want, without_want}
use Rattle.kt_maint.specs.declared.run.Ran.{Ran}
use Rattle.kt_maint.specs.declared.run.Ran.TheVariants as ran
use Rattle.kt_maint.specs.Calls.{want_of, HasAsked, AfterCall, HasBegunRound}
use Rattle.kt_maint.proofs.Stages.{some_is}

-- ---- wants that are left

abbrev pub Among : List Want → Want → Type 0
Among [] x = ⊥
Among (w ∷ wants) x = (same_want w x ≡ true) ⊎ Among wants x

abbrev pub NotAmong : List Want → Want → Type 0
NotAmong [] x = Unit {0}
NotAmong (w ∷ wants) x = (same_want w x ≡ false) × NotAmong wants x

not_both : (wants : List Want) (x : Want) → Among wants x → NotAmong wants x → ⊥
not_both [] x a n = a
not_both (w ∷ wants) x (inl e) n = (let both : true ≡ false = sym e ∙ n.0 in cc)
not_both (w ∷ wants) x (inr a) n = not_both wants x a n.1

not_more : (wants : List Want) (w x : Want) → NotAmong wants x → same_want w x ≡ false → NotAmong (wants ++ w ∷ []) x
not_more [] w x n e = (e, tt)
not_more (v ∷ wants) w x n e = (n.0, not_more wants w x n.1 e)

none_left : (wants todo : List Want) → AllByRecursion (Among wants) todo → AllByRecursion (NotAmong wants) todo → todo ≡ []
none_left wants [] a n = refl
none_left wants (x ∷ todo) a n = absurd (not_both wants x a.0 n.0)

kept_among : (wants : List Want) (w : Want) (todo : List Want) → AllByRecursion (Among wants) todo → AllByRecursion (Among wants) (without_want w todo)
kept_among wants w [] a = tt
kept_among wants w (x ∷ todo) a = elim (same_want w x) as (λ (b : Bool). AllByRecursion (Among wants) (cond (not b) (x ∷ without_want w todo) (without_want w todo))) [
  | true ↦ kept_among wants w todo a.1
  | false ↦ (a.0, kept_among wants w todo a.1)
]

kept_left : (done : List Want) (w : Want) (todo : List Want) → AllByRecursion (NotAmong done) todo → AllByRecursion (NotAmong (done ++ w ∷ [])) (without_want w todo)
kept_left done w [] n = tt
kept_left done w (x ∷ todo) n = elim (same_want w x) as (λ (b : Bool). same_want w x ≡ b → AllByRecursion (NotAmong (done ++ w ∷ [])) (cond (not b) (x ∷ without_want w todo) (without_want w todo))) [
  | true ↦ λ e. kept_left done w todo n.1
  | false ↦ λ e. (not_more done w x n.0 e, kept_left done w todo n.1)
] refl

same_numbers : (ns : List ℕ) → pointwise nat_eq ns ns ≡ true
same_numbers [] = refl
same_numbers (n ∷ ns) = ap (λ (b : Bool). b && pointwise nat_eq ns ns) (eq-eqb n n refl) ∙ same_numbers ns

same_itself : (w : Want) → same_want w w ≡ true
same_itself want.Flush = refl
same_itself (want.FlushDeltas n) = eq-eqb n n refl
same_itself (want.Minor n) = eq-eqb n n refl
same_itself (want.Major n) = eq-eqb n n refl
same_itself (want.Compact ns) = same_numbers ns

more_among : (v : Want) (wants todo : List Want) → AllByRecursion (Among wants) todo → AllByRecursion (Among (v ∷ wants)) todo
more_among v wants [] a = tt
more_among v wants (x ∷ todo) a = (inr a.0, more_among v wants todo a.1)

all_among : (wants : List Want) → AllByRecursion (Among wants) wants
all_among [] = tt
all_among (w ∷ wants) = (inl (same_itself w), more_among w wants wants (all_among wants))

none_done : (todo : List Want) → AllByRecursion (NotAmong []) todo
none_done [] = tt
none_done (x ∷ todo) = (tt, none_done todo)

-- ---- a round on the way: so many of its wants are done, and what is left to do is of the others
pub record IsRound {L D C : Type 0} (k : Chore) (wants done : List Want) (before after : Option (PartView L D C)) : Type 0 where
  pub was : PartView L D C
  pub was_is : before ≡ Some was
  pub part : PartView L D C
  pub is : after ≡ Some part
  pub rounds : part.pass.upkeep.rounds ≡ more (2 ^ 64 - 1) was.pass.upkeep.rounds
  pub round : part.pass.upkeep.round ≡ Some k
  pub among : AllByRecursion (Among wants) part.pass.upkeep.todo
  pub left : AllByRecursion (NotAmong done) part.pass.upkeep.todo

module _ {L D C : Type 0} (k : Chore) (wants : List Want) (a : Option (PartView L D C)) where
  pub round_begins : (b : Option (PartView L D C)) → HasBegunRound k wants a b → IsRound k wants [] a b
  round_begins b h = record {
    was = h.was;
    was_is = h.was_is;
    part = h.part;
    is = h.is;
    rounds = h.rounds;
    round = h.round;
    among = subst (AllByRecursion (Among wants)) (sym h.todo) (all_among wants);
    left = none_done h.part.pass.upkeep.todo;
  }

  module _ (b c : Option (PartView L D C)) (done : List Want) (w : Want) where
    one_more : (last : Last) → want_of last ≡ w → IsRound k wants done a b → HasAsked last b c → IsRound k wants (done ++ w ∷ []) a c
    one_more last of first second =
        let mid : second.was.pass.upkeep ≡ first.part.pass.upkeep = ap (λ (p : PartView L D C). p.pass.upkeep) (some_is second.was first.part (sym second.was_is ∙ first.is)) in
        let todo : second.part.pass.upkeep.todo ≡ without_want w first.part.pass.upkeep.todo =
        second.todo ∙ ap (λ (x : Want). without_want x second.was.pass.upkeep.todo) of ∙ ap (λ (u : UpkeepView). without_want w u.todo) mid in
        record {
          was = first.was;
          was_is = first.was_is;
          part = second.part;
          is = second.is;
          rounds = second.round.1 ∙ ap (λ (u : UpkeepView). u.rounds) mid ∙ first.rounds;
          round = second.round.0 ∙ ap (λ (u : UpkeepView). u.round) mid ∙ first.round;
          among = subst (AllByRecursion (Among wants)) (sym todo) (kept_among wants w first.part.pass.upkeep.todo first.among);
          left = subst (AllByRecursion (NotAmong (done ++ w ∷ []))) (sym todo) (kept_left done w first.part.pass.upkeep.todo first.left);
        }

    pub want_ran : (seen : List Event) (r : Ran) → IsRound k wants done a b → AfterCall w b c seen (Ok r) → IsRound k wants (done ++ w ∷ []) a c
    want_ran seen ran.Done first call = one_more (finished w) refl first call.0
    want_ran seen ran.Nothing first call = one_more (nothing w) refl first call.0

  pub next_round : (b c : Option (PartView L D C)) (n : ℕ) (w : Want) (seen : List Event) (r : Ran) → n < length wants → w ≡ get_or wants n w → IsRound k wants (take n wants) a b → AfterCall w b c seen (Ok r)
      → IsRound k wants (take (n + 1) wants) a c
  next_round b c n w seen r lt is first call =
      subst (λ (l : List Want). IsRound k wants l a c) (ap (λ (x : Want). take n wants ++ x ∷ []) is ∙ sym (take_more wants n w lt)) (want_ran b c (take n wants) w seen r first call)

  pub round_ends : (c : Option (PartView L D C)) (n : ℕ) → length wants ≤ n → IsRound k wants (take n wants) a c → HasDone k a c
  round_ends c n all h = record {
    was = h.was;
    was_is = h.was_is;
    part = h.part;
    is = h.is;
    rounds = h.rounds;
    through = record { round = h.round; todo = none_left wants h.part.pass.upkeep.todo h.among (subst (λ (l : List Want). AllByRecursion (NotAmong l) h.part.pass.upkeep.todo) (take_all n wants all) h.left) };
  }

-- ---- of whatever chore the round is

abbrev pub RoundsOn : {L D C : Type 0} → List Want → List Want → Option (PartView L D C) → Option (PartView L D C) → Type 0
RoundsOn {L} {D} {C} wants done b c = (k : Chore) (a : Option (PartView L D C)) → HasBegunRound k wants a b → IsRound k wants done a c

module _ {L D C : Type 0} (wants : List Want) (b : Option (PartView L D C)) where
  pub rounds_begin : RoundsOn wants [] b b
  rounds_begin k a h = round_begins k wants a b h

  pub rounds_on : (c d : Option (PartView L D C)) (n : ℕ) (w : Want) (seen : List Event) (r : Ran) → n < length wants → w ≡ get_or wants n w → RoundsOn wants (take n wants) b c → AfterCall w c d seen (Ok r) → RoundsOn wants (take (n + 1) wants) b d
  rounds_on c d n w seen r lt is on call k a h = next_round k wants a c d n w seen r lt is (on k a h) call

  pub rounds_end : (c : Option (PartView L D C)) (n : ℕ) → length wants ≤ n → RoundsOn wants (take n wants) b c → (k : Chore) (a : Option (PartView L D C)) → HasBegunRound k wants a b → HasDone k a c
  rounds_end c n all on k a h = round_ends k wants a c n all (on k a h)

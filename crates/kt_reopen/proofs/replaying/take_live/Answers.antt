use Rattle.std.proofs.Common.{◌≡◌, ◌<◌, ◌+◌, List, [], ℕ, Some, None, is_some, sym, subst, ◌∙◌, length}
use Rattle.std.specs.Prelude.{slice_get}
use Rattle.kt_history.specs.Operations.{outcome_of}
use Rattle.kt_history.specs.Rows.{Row}
use Rattle.kt_history.specs.Stores.{kind_made, share}
use Rattle.kt_reopen.specs.declared.stores.Opening.{Opening}
use Rattle.kt_reopen.specs.Standing.{placed, names_in, JoinsAt}
use Rattle.kt_reopen.specs.Steps.{MayJoin, Does}
use Rattle.kt_reopen.specs.Walks.{IsFirst}
use Rattle.kt_reopen.proofs.Taking.{first_within, live_may, live_done, live_not, live_told, live_untold}
use Rattle.kt_reopen.proofs.replaying.take_live.Goals as goal
use Rattle.kt_reopen.proofs.replaying.take_live.Goals.{in-Some, in-None}

pub join-requires-clause-there : goal.join-requires-clause-there
join-requires-clause-there c =
    let o = c.args.stores.now in
    let place = c.in_ok-place.place in
    subst (λ (n : ℕ). n < 1 + length o.rowsets.items) (sym c.unwrap_or.ensures) (first_within o c.args.ts c.key.result.now place (c.in_ok-place.ensures []))

pub join-requires-clause-may : goal.join-requires-clause-may
join-requires-clause-may c = λ fill.
    let o = c.args.stores.now in
    let op = c.args.op.now in
    let place = c.in_ok-place.place in
    let first : (fill : Row) → IsFirst c.args.ts op.key place (placed fill o) = λ fill. subst (λ (q : List ℕ). IsFirst c.args.ts q place (placed fill o)) c.key.ensures (c.in_ok-place.ensures fill) in
    let is : kind_made op.kind (is_some place) ≡ Some c.in-Some.kind = sym (c.kind_made.ensures ∙ (λ i. kind_made (c.kind.ensures i) (c.is_some.ensures i))) ∙ c.in-Some.is in
    subst (λ (n : ℕ). MayJoin c.args.ts op.key n c.in-Some.kind (placed fill o)) (sym c.unwrap_or.ensures) (live_may o c.args.ts op place c.in-Some.kind first is fill)

pub returns-clause-does : goal.returns-clause-does
returns-clause-does c =
    let o = c.args.stores.now in
    let op = c.args.op.now in
    let place = c.in_ok-place.place in
    let first : (fill : Row) → IsFirst c.args.ts op.key place (placed fill o) = λ fill. subst (λ (q : List ℕ). IsFirst c.args.ts q place (placed fill o)) c.key.ensures (c.in_ok-place.ensures fill) in
    let made = sym (c.kind_made.ensures ∙ (λ i. kind_made (c.kind.ensures i) (c.is_some.ensures i))) in
    elim c.match-kind_made.branch [
      | in-Some w ↦
          subst (λ (n : Opening). Does o n c.args.meta.now c.args.ts op None) (sym w.stores-is)
          (live_done o c.args.ts op w.join.new.self c.args.meta.now place w.in-Some.kind c.requires.may first (made ∙ w.in-Some.is)
          (subst (λ (n : ℕ). JoinsAt o w.join.new.self n c.args.ts op w.in-Some.kind (share op)) w.unwrap_or.ensures w.join.ensures.joins))
      | in-None w ↦ subst (λ (n : Opening). Does o n c.args.meta.now c.args.ts op None) (sym w.stores-is) (live_not o c.args.ts op c.args.meta.now place c.requires.may first (made ∙ w.in-None.is))
    ]

pub returns-clause-told : goal.returns-clause-told
returns-clause-told c = λ fill name named.
    let o = c.args.stores.now in
    let op = c.args.op.now in
    let place = c.in_ok-place.place in
    let first : IsFirst c.args.ts op.key place (placed fill o) = subst (λ (q : List ℕ). IsFirst c.args.ts q place (placed fill o)) c.key.ensures (c.in_ok-place.ensures fill) in
    let made = sym (c.kind_made.ensures ∙ (λ i. kind_made (c.kind.ensures i) (c.is_some.ensures i))) in
    let out : c.outcome.result ≡ outcome_of op.kind (is_some place) = c.outcome.ensures ∙ (λ i. outcome_of (c.kind-2.ensures i) (c.is_some-2.ensures i)) in
    elim c.match-kind_made.branch [
      | in-Some w ↦
          live_told o c.args.ts op fill name named place w.in-Some.kind w.join.result c.outcome.result c.match-kind_made.targets first (made ∙ w.in-Some.is)
          (subst (λ (n : ℕ). slice_get (names_in o) n ≡ Some w.join.result) w.unwrap_or.ensures w.join.ensures.named) out (w.targets-is ∙ w.one-targets.ensures)
      | in-None w ↦ live_untold o c.args.ts op fill name named place c.outcome.result c.match-kind_made.targets first (made ∙ w.in-None.is) out (w.targets-is ∙ w.none-targets.ensures)
    ]

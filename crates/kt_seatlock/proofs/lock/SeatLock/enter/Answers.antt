use Rattle.std.proofs.Common.{rules, ◌∷◌, ap, ◌∙◌, Some, sym, refl}
use Rattle.atomic_table.specs.Table.{rest}
use Rattle.kt_seatlock.proofs.Trails.{own_follows}
use Rattle.kt_seatlock.proofs.Keeps.{takes_turn}
use Rattle.kt_seatlock.proofs.lock.SeatLock.enter.Goals as goal

pub compare_exchange-found-requires : goal.compare_exchange-found-requires
compare_exchange-found-requires g c = (search rules, search rules, takes_turn _ _ _ _ _ _ _ _ (search rules) refl (ap (λ m. m.0.stage) c.loop.invariant.2 ∙ c.requires.outside))

pub exchange-requires : goal.exchange-requires
exchange-requires g c = let t = c.compare_exchange-found.ensures.2.0 c.if-found-turn.true in let e = ap (λ m. m.1) t.1 in
    (search rules, (Some t.0, e ∙ ap (λ l. (0, Some t.0) ∷ l) (sym (ap rest e))))

pub returns-then-found-turn-clause-visits : goal.returns-then-found-turn-clause-visits
returns-then-found-turn-clause-visits g c = search (rules, own_follows)

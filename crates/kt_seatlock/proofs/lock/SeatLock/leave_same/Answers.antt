use Rattle.std.proofs.Common.{rules, ◌∷◌, ap, ◌∙◌, Some, None, sym}
use Rattle.atomic_table.specs.Table.{rest}
use Rattle.kt_seatlock.specs.Views.{carried_in}
use Rattle.kt_seatlock.proofs.Keeps.{got_inside, leaves_same}
use Rattle.kt_seatlock.proofs.lock.SeatLock.leave_same.Goals as goal

pub exchange-requires : goal.exchange-requires
exchange-requires g c = let is = got_inside g.T.Shared.trail g.T.Shared.part g.T.Shared.owner c.args.pass.now.seat.me.0.stage c.args.value c.requires.same in let e = c.args.pass.now.carries ∙ ap carried_in is in
    (search rules, (None, e ∙ ap (λ l. (0, None) ∷ l) (sym (ap rest e))))

pub fetch_sub-turn-requires : goal.fetch_sub-turn-requires
fetch_sub-turn-requires g c = let put = c.exchange.ensures.3 in let is = got_inside g.T.Shared.trail g.T.Shared.part g.T.Shared.owner c.args.pass.now.seat.me.0.stage c.args.value c.requires.same in
    let out = c.args.pass.now.carries ∙ ap carried_in is in (
      search rules,
      search rules,
      leaves_same _ _ _ _ _ _ c.args.value (ap (λ m. m.1) put ∙ ap (λ l. (0, Some c.args.value) ∷ rest l) out) (ap (λ m. m.0.stage) put ∙ is) (ap (λ m. m.0.ahead) put ∙ c.args.pass.now.level),
    )

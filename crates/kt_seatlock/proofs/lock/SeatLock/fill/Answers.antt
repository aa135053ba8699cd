use Rattle.std.proofs.Common.{rules, ◌≡◌, [], ◌∷◌, ap, ◌∙◌, Some}
use Rattle.atomic_table.specs.Table.{rest}
use Rattle.kt_seatlock.specs.Views.{carried_in}
use Rattle.kt_seatlock.proofs.Keeps.{begins, fills}
use Rattle.kt_seatlock.proofs.lock.SeatLock.fill.Goals as goal

pub load-pass-requires : goal.load-pass-requires
load-pass-requires g c = (search rules, search rules, begins _ _ _ _ _ _ c.requires.vacant.0)

pub fetch_add-turn-requires : goal.fetch_add-turn-requires
fetch_add-turn-requires g c = let began = c.load-pass.ensures.2 in let put = c.exchange.ensures.3 in let none_out : c.args.pass.now.seat.me.1 ≡ [] = c.args.pass.now.carries ∙ ap carried_in c.requires.vacant.0 in (
  search rules,
  search rules,
  fills _ _ _ _ _ _ c.args.value (ap (λ m. m.0.stage) put ∙ ap (λ m. m.0.stage) began) (ap (λ m. m.0.joined) put ∙ (ap (λ m. m.0.joined) began ∙ c.requires.vacant.1)) c.requires.empty
      (ap (λ m. m.1) put ∙ (ap (λ m. (0, Some c.args.value) ∷ rest m.1) began ∙ ap (λ l. (0, Some c.args.value) ∷ l) none_out)),
)

use Rattle.std.proofs.Common.{rules, arith, ◌≡◌, ◌+◌, ◌∷◌, ap, ◌∙◌, Some, None, IfSome, sym, subst, length}
use Rattle.atomic_table.specs.Table.{rest}
use Rattle.kt_seatlock.specs.Trails.{KeepsParts}
use Rattle.kt_seatlock.specs.Views.{carried_in, got_in, ahead_view}
use Rattle.kt_seatlock.proofs.Trails.{adds_length}
use Rattle.kt_seatlock.proofs.Keeps.{inside_of, leaves}
use Rattle.kt_seatlock.proofs.lock.SeatLock.leave.Goals as goal

pub exchange-requires : goal.exchange-requires
exchange-requires g c = let x = inside_of g.T.Shared.trail g.T.Shared.part g.T.Shared.owner c.args.pass.now.seat.me.0.stage c.requires.inside in let e = c.args.pass.now.carries ∙ ap carried_in x.1 in
    (search rules, (None, e ∙ ap (λ l. (0, None) ∷ l) (sym (ap rest e))))

pub count-requires-clause-inside : goal.count-requires-clause-inside
count-requires-clause-inside g c = let put = c.exchange.ensures.3 in (λ e. c.requires.inside (ap (λ m. got_in m.0.stage) (sym put) ∙ e), sym c.args.pass.now.tallied ∙ ap (λ m. length m.0.seen) (sym put))

pub count-requires-clause-one : goal.count-requires-clause-one
count-requires-clause-one g c = let now : c.entries-entries.result ≡ length (g.T.Shared.trail c.args.value) = c.entries-entries.ensures in
    let before : length c.args.pass.now.seat.me.0.seen ≡ c.args.pass.now.entries = c.args.pass.now.tallied in
    let more = adds_length _ _ _ _ c.requires.trail in (omega arith, omega arith)

pub fetch_add-turn-requires : goal.fetch_add-turn-requires
fetch_add-turn-requires g c = let put = c.exchange.ensures.3 in let v = c.args.pass.now.seat.me.0 in let x = inside_of g.T.Shared.trail g.T.Shared.part g.T.Shared.owner v.stage c.requires.inside in let kept = c.count.ensures.counted in
    let out = c.args.pass.now.carries ∙ ap carried_in x.1 in
    let now : c.entries-entries.result ≡ length (g.T.Shared.trail c.args.value) = c.entries-entries.ensures in
    let before : length v.seen ≡ c.args.pass.now.entries = c.args.pass.now.tallied in
    let more : c.args.pass.now.entries + kept.0 ≡ c.entries-entries.result = kept.1 in
    let long : length v.seen + kept.0 ≡ length (g.T.Shared.trail c.args.value) = omega arith in (
      search rules,
      search rules,
      leaves _ _ _ _ _ _ v x.0 c.args.value kept.0 (kept.2 ∙ (ap (λ m. (ahead_view m.0 kept.0, m.1)) put ∙ ap (λ l. (ahead_view v kept.0, (0, Some c.args.value) ∷ rest l)) out)) x.1 long c.requires.trail
          (subst (λ st. IfSome (got_in st) (λ x. KeepsParts g.T.Shared.part v.number x c.args.value)) x.1 c.requires.parts),
    )

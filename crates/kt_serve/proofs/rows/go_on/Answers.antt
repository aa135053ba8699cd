use Rattle.std.proofs.Common.{◌≡◌, ◌+◌, ◌∙◌, ap, subst, sym, [], arith, length}
use Rattle.kt_history.specs.Machine.{nth}
use Rattle.kt_serve.specs.Sessions.{Applies}
use Rattle.kt_serve.proofs.Flights.{place_there}
use Rattle.kt_serve.proofs.Ends.{may_end}
use Rattle.kt_serve.proofs.rows.go_on.Goals as goal

pub place-requires : goal.place-requires
place-requires g c = let a = c.requires.flies in place_there c.args.by c.args.engine.now.tablet.places c.args.engine.now.tablet.core.aloft _ [] c.standing.ensures.placed a.3

pub end-requires : goal.end-requires
end-requires g c =
    let a = c.requires.flies in
    let f = c.apply_part.ensures.applied in
    let all : length a.2 ≡ c.args.at + c.min.result = omega (arith, a.5) in
    λ _. may_end c.apply_part.new.engine c.args.by a.0 a.1 a.2 (rw all (f.flight a.0 a.1 a.2 a.3)) (ap (λ l. nth l c.args.by) f.turns ∙ a.4)

pub returns-clause-visit : goal.returns-clause-visit
returns-clause-visit g c = c.visit_law.ensures c.args.by c.args.engine.now c.apply_part.new.engine c.end.new.self c.apply_part.ensures.applied.visit c.apply_part.ensures.applied.trail c.end.ensures.visit

pub returns-clause-applied : goal.returns-clause-applied
returns-clause-applied g c =
    let all : c.args.count ≡ c.args.at + c.min.result = omega arith in (
      c.apply_part.new.engine,
      subst (λ k. Applies c.args.engine.now c.apply_part.new.engine c.args.by c.args.at k) (sym all) c.apply_part.ensures.applied,
      record {
        visit = c.end.ensures.visit;
        ended = c.in-Ok.ensures.ended;
        told = c.in-Ok.ensures.told;
        holder = ap (λ l. l.holder) c.in-Ok.ensures.queued.3;
        out = ap (λ l. l.out) c.in-Ok.ensures.queued.3;
      },
    )

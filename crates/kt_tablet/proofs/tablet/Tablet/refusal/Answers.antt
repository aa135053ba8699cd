use Rattle.std.proofs.Common.{◌≤◌, ◌-◌, Some, None, ap, ◌∙◌, subst}
use Rattle.kt_history.specs.Operations.{need}
use Rattle.kt_tablet.specs.Views.{unpromised}
use Rattle.kt_tablet.proofs.Begins.{in_the_way, way_old}
use Rattle.kt_tablet.proofs.tablet.Tablet.refusal.Goals as goal

pub returns-in-Err-clause-refused : goal.returns-in-Err-clause-refused
returns-in-Err-clause-refused g c = (
  subst (λ n. n ≤ c.args.self.now.core.work.cells) c.requires.fits.0 c.requires.fits.1,
  way_old _ _ c.args.write.now.ops _ c.self.view_is
      (in_the_way c.args.write.now.ops c.args.write.now.keys c.self.inside.flights.items c.self.inside.flight.flying (Some c.in-Err.ts) c.args.write.now.keyed c.self.invariant.1.held c.in-Err.ensures),
)

pub returns-then-needs-free-clause-refused : goal.returns-then-needs-free-clause-refused
returns-then-needs-free-clause-refused g c = record {
  fits = subst (λ n. n ≤ c.args.self.now.core.work.cells) c.requires.fits.0 c.requires.fits.1;
  apart = way_old _ _ c.args.write.now.ops _ c.self.view_is
      (in_the_way c.args.write.now.ops c.args.write.now.keys c.self.inside.flights.items c.self.inside.flight.flying None c.args.write.now.keyed c.self.invariant.1.held c.in_default.ensures);
  needs = c.requires.fits.0;
  left_is = (λ k. c.free.ensures.free k - c.reserved.ensures.reserved k) ∙ ap (λ v. unpromised v.pool) c.self.view_is;
  short = c.if-needs-free.true;
}

pub returns-clause-free : goal.returns-clause-free
returns-clause-free g c = record {
  goes = c.requires.goes;
  fits = subst (λ n. n ≤ c.args.self.now.core.work.cells) c.requires.fits.0 c.requires.fits.1;
  apart = way_old _ _ c.args.write.now.ops _ c.self.view_is
      (in_the_way c.args.write.now.ops c.args.write.now.keys c.self.inside.flights.items c.self.inside.flight.flying None c.args.write.now.keyed c.self.invariant.1.held c.in_default.ensures);
  room =
      let room : c.args.needs ≤ unpromised c.self.inside.stores.pool = subst (λ n. c.args.needs ≤ n) (λ k. c.free.ensures.free k - c.reserved.ensures.reserved k) c.if-needs-free.false in
      subst (λ v. need c.args.write.now.ops ≤ unpromised v.pool) c.self.view_is (subst (λ n. n ≤ unpromised c.self.inside.stores.pool) c.requires.fits.0 room);
}

use Rattle.std.proofs.Common.{rules, arith, ◌≡◌, ◌+◌, ◌∙◌, ap, subst, length}
use Rattle.std.specs.Vec.Iter.{into_iter_items}
use Rattle.kt_seatlock.specs.Passes.{joined}
use Rattle.kt_serve.specs.Places.{AreBack}
use Rattle.kt_serve.proofs.Lists.{moves_one}
use Rattle.kt_serve.proofs.Joining.{takes_one, gives_on}
use Rattle.kt_serve.proofs.places.join_all.Goals as goal

pub loop-place-preserved : goal.loop-place-preserved
loop-place-preserved g c =
    let e = (c.in-Some.ensures).steps.0 in
    let back = subst (AreBack c.args.lock.now) e c.loop-place.invariant.back in
    let fewer : length (into_iter_items c.loop-place.place-iterator) ≡ length (into_iter_items c.next.new.self) + 1 = ap length e ∙ omega arith in
    record {
      can_next = tt;
      is_finite = tt;
      same = search rules;
      outside = search rules;
      part_is = search rules;
      gives = gives_on _ _ _ _ _ _ _ _ back.0.2 c.join.ensures.gives (omega (arith, c.requires.gives, c.loop-place.invariant.gives.0)) c.loop-place.invariant.gives;
      back = back.1;
      joined_are = takes_one _ _ c.in-Some.place _ _ _ e c.loop-place.invariant.joined_are back.0.1 c.join.ensures.joined;
      count = (let alone : length (joined c.in-Some.place.pass) ≡ 0 = ap length back.0.1 in omega arith);
      room = omega arith;
      ends = moves_one _ _ _ c.in-Some.place _ _ _ e c.loop-place.invariant.ends c.push_reserved.ensures.items;
    }

use Rattle.std.proofs.Common.{rules, ◌+◌, ◌∙◌, ℕ}
use Rattle.kt_seatlock.specs.Passes.{seen, given, filled}
use Rattle.kt_seatlock.specs.Views.{told}
use Rattle.kt_serve.specs.declared.places.Place.{Place}
use Rattle.kt_serve.specs.Places.{IsNew}
use Rattle.kt_serve.proofs.Lists.{each_snoc}
use Rattle.kt_serve.proofs.places.split_all.Goals as goal

pub loop-preserved : goal.loop-preserved
loop-preserved g c =
    let P : ℕ → Place _ _ _ g.T.Shared → Type 0 = λ j p. IsNew c.args.lock.now (given c.args.pass.now + j) (seen c.args.pass.now) (filled c.args.pass.now) p.pass in
    record {
      same = search rules;
      outside = search rules;
      given_is = search rules;
      told = search rules;
      count = search rules;
      room = search rules;
      each = each_snoc P c.loop.places.items _ _ c.loop.counter c.push_reserved.ensures.items (search rules) c.loop.invariant.each record {
        enters = search rules;
        number_is = search rules;
        saw = search rules;
        part_is = c.split.ensures.part ∙ (λ t. told g.T.Shared.part (c.loop.invariant.told.3 t) ((c.split.ensures.new.2 ∙ c.loop.invariant.given_is) t));
        alone = search rules;
        gives = search rules;
      };
    }

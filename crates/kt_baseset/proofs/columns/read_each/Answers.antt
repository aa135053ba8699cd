use Rattle.std.proofs.Common.{◌≡◌, ℕ, ◌+◌, ◌-◌, arith, refl, ap, ◌∙◌, subst}
use Rattle.kt_baseset.specs.Reading.{ReadsOne, ReadsEach}
use Rattle.kt_baseset.proofs.Each.{each_none, each_more, each_done, each_stop, next_more, room_more, no_next, remains_all, remains_more}
use Rattle.kt_baseset.proofs.columns.read_each.Goals as goal

pub columns-init : goal.columns-init
columns-init c = rw c.new-columns.ensures.items (record { least = refl; read = each_none c.args.rows c.args.bytes.now; room = omega arith; only = remains_all c.args.rows c.args.n c.args.bytes.now })

pub columns-preserved : goal.columns-preserved
columns-preserved c =
    let inv = c.columns.invariant in
    let one = subst (λ (k : ℕ). ReadsOne c.args.rows k c.columns.rest.now c.in-Ok.read.0 c.in-Ok.read.1.now) inv.least c.in-Ok.ensures.found in
    rw c.in_ok-push.ensures.items (record {
      least = ap (λ (k : ℕ). k + 1) c.from-least.ensures ∙ next_more c.columns.columns.items c.in-Ok.read.0;
      read = each_more c.args.rows c.columns.i c.args.bytes.now c.columns.columns.items c.columns.rest.now c.in-Ok.read.0 c.in-Ok.read.1.now (omega arith) inv.read one;
      room = room_more c.args.n c.columns.i c.columns.columns.items c.in-Ok.read.0 (c.args.n - c.columns.i - 1) c.columns-test.true refl c.in-Ok.ensures.room;
      only = λ all last q. remains_more c.args.rows c.args.n c.columns.i c.args.bytes.now c.columns.columns.items c.columns.rest.now c.columns.least (c.args.n - c.columns.i - 1) c.in-Ok.read.0 c.in-Ok.read.1.now c.columns-test.true inv.read inv.least refl c.in-Ok.ensures.only all last q (inv.only all last q);
    })

pub returns-in-Err-clause-only : goal.returns-in-Err-clause-only
returns-in-Err-clause-only c =
    let inv = c.columns.invariant in
    λ all last q. no_next c.in-Err.stop c.args.rows c.args.n c.columns.i c.args.bytes.now c.columns.columns.items c.columns.rest.now c.columns.least (c.args.n - c.columns.i - 1) c.columns-test.true inv.read inv.least refl c.in-Err.ensures.only all last q (inv.only all last q)

pub returns-in-Err-clause-stop : goal.returns-in-Err-clause-stop
returns-in-Err-clause-stop c =
    let inv = c.columns.invariant in
    each_stop c.in-Err.stop c.args.rows c.args.n c.columns.i c.args.bytes.now c.columns.columns.items c.columns.rest.now c.columns.least (c.args.n - c.columns.i - 1) c.columns-test.true inv.read inv.room inv.least refl c.in-Err.ensures.stop

pub returns-clause-found : goal.returns-clause-found
returns-clause-found c =
    let e : c.columns.i ≡ c.args.n = omega arith in
    subst (λ (k : ℕ). ReadsEach c.args.rows k c.args.bytes.now c.columns.columns.items c.columns.rest.now) e c.columns.invariant.read

pub returns-clause-only : goal.returns-clause-only
returns-clause-only c =
    let inv = c.columns.invariant in
    λ all last q. each_done c.args.rows c.args.n c.args.bytes.now c.columns.columns.items c.columns.rest.now all last (omega (arith, inv.read.count)) q (inv.only all last q)

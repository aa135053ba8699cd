use Rattle.std.proofs.Common.{arith}
use Rattle.kt_reopen.specs.Bare.{bare}
use Rattle.kt_reopen.proofs.Needing.{pair_is, in_two, within_all}
use Rattle.kt_reopen.proofs.needed.needed_of.Goals as goal

pub returns-in-len2-clause-places : goal.returns-in-len2-clause-places
returns-in-len2-clause-places c =
    let super = bare c.args.meta.now in
    let a = c.place_of-in-len2.result in
    let b = c.place_of-in-len2-2.result in
    let n = c.each_once-in-len2.result in
    in_two super c.requires.apart _ _ a b n c.place_of-in-len2.ensures.place c.place_of-in-len2-2.ensures.place
    (within_all c.args.meta.now a c.place_of-in-len2.ensures.within) (within_all c.args.meta.now b c.place_of-in-len2-2.ensures.within)
    c.each_once-in-len2.ensures.second c.each_once-in-len2.ensures.same c.each_once-in-len2.ensures.other c.args.targets.now (pair_is c.args.targets.now _ _ (omega arith))

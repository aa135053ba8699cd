use Rattle.kt_history.proofs.AsBytes.{next_is_same, none_is_next}
use Rattle.kt_history.proofs.change_list.ChangeList.goes_on.Goals as goal

pub returns-in-Some : goal.returns-in-Some
returns-in-Some c =
    let found = rw c.deref.ensures.value at c.in-Some.ensures.lookup in
    next_is_same c.self.inside.bytes.items c.self.inside.heads.items c.args.self.now c.self.view_is c.args.at c.requires c.index.result.now c.in-Some.behind.now c.is_same.result c.self.invariant.1 c.index.ensures found.3.0 found.1 c.is_same.ensures.same c.is_same.ensures.equal

pub returns-in-None : goal.returns-in-None
returns-in-None c =
    let missed = rw c.deref.ensures.value at c.in-None.ensures.lookup in
    none_is_next c.self.inside.bytes.items c.self.inside.heads.items c.args.self.now c.self.view_is c.args.at c.requires missed.3

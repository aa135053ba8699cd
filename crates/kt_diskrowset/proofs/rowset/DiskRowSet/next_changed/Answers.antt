use Rattle.std.proofs.Common.{◌∙◌, ◌++◌, ◌∷◌, [], List, sym, ap, subst}
use Rattle.kt_dms.specs.Stores.{deltas_of, steps_for}
use Rattle.kt_dms.specs.declared.store.DeltaMem.{DeltaMem}
use Rattle.kt_diskrowset.specs.Mems.{AllStand, steps_in_mems}
use Rattle.kt_diskrowset.proofs.Beside.{stand_front, last_stands}
use Rattle.kt_diskrowset.proofs.Rowsets.{behind_frozen}
use Rattle.kt_diskrowset.proofs.rowset.DiskRowSet.next_changed.Goals as goal

pub next_in_mems-in_frozen-requires : goal.next_in_mems-in_frozen-requires
next_in_mems-in_frozen-requires c = subst (AllStand c.args.pool.now) (sym c.deref.ensures.value) (stand_front c.args.pool.now c.args.self.now.frozen.items (c.args.self.now.active ∷ []) c.requires.stand)

pub next_in-requires : goal.next_in-requires
next_in-requires c = last_stands c.args.pool.now c.args.self.now.frozen.items c.args.self.now.active c.requires.stand

pub returns-clause-behind : goal.returns-clause-behind
returns-clause-behind c = λ n low. (c.first_of.ensures n).1 (c.next_in_mems-in_frozen.ensures.behind n low, c.next_in.ensures.behind n low)

pub returns-clause-none : goal.returns-clause-none
returns-clause-none c = λ n low before.
    let both = (c.first_of.ensures n).0 before in
    let s = c.args.self.now in
    let mine = steps_for n (deltas_of s.active c.args.pool.now) in
    behind_frozen c.args.pool.now n s.frozen.items s.active
    ∙ ap (λ (ms : List DeltaMem). steps_in_mems c.args.pool.now n ms ++ mine) (sym c.deref.ensures.value)
    ∙ ap (λ steps. steps ++ mine) (c.next_in_mems-in_frozen.ensures.none n low both.0) ∙ c.next_in.ensures.none n low both.1

use Rattle.std.proofs.Common.{Option, ℕ, List, [], ◌∷◌, sym, ap, subst, ◌∙◌}
use Rattle.std.specs.Option.{option_or}
use Rattle.kt_dms.specs.Stores.{deltas_of, steps_for}
use Rattle.kt_dms.specs.declared.store.DeltaMem.{DeltaMem}
use Rattle.kt_diskrowset.specs.First.{first_above}
use Rattle.kt_diskrowset.specs.Mems.{AllStand, steps_in_mems}
use Rattle.kt_diskrowset.proofs.Beside.{stand_front, last_stands}
use Rattle.kt_diskrowset.proofs.Firsts.{first_more}
use Rattle.kt_diskrowset.proofs.rowset.DiskRowSet.first_fresh.Goals as goal

pub first_in_mems-found-requires : goal.first_in_mems-found-requires
first_in_mems-found-requires c = subst (AllStand c.args.pool.now) (sym c.deref.ensures.value) (stand_front c.args.pool.now c.args.self.now.frozen.items (c.args.self.now.active ∷ []) c.requires.stand)

pub or_first-requires : goal.or_first-requires
or_first-requires c = last_stands c.args.pool.now c.args.self.now.frozen.items c.args.self.now.active c.requires.stand

pub returns : goal.returns
returns c =
    let s = c.args.self.now in
    let pool = c.args.pool.now in
    let n = c.args.ordinal in
    c.or_first.ensures
    ∙ ap (λ (found : Option ℕ). option_or found (first_above c.args.above (steps_for n (deltas_of s.active pool))))
    (c.first_in_mems-found.ensures ∙ ap (λ (ms : List DeltaMem). first_above c.args.above (steps_in_mems pool n ms)) c.deref.ensures.value)
    ∙ sym (first_more pool n c.args.above s.frozen.items s.active)

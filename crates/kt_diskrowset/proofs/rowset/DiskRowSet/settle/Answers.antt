use Rattle.std.proofs.Common.{[], ◌∷◌, ◌++◌, ℕ, List, refl, ap, sym, ◌∙◌}
use Rattle.kt_dms.specs.declared.store.DeltaMem.{DeltaMem}
use Rattle.kt_dms.specs.Stores.{number_of}
use Rattle.kt_history.specs.declared.target.Target.TheVariants.{Delta}
use Rattle.kt_diskrowset.specs.declared.rowset.DiskRowSet.{DiskRowSet}
use Rattle.kt_diskrowset.proofs.Beside.{stand_front, apart_front}
use Rattle.kt_diskrowset.proofs.Settled.{emptied_all, settled, one_name}
use Rattle.kt_diskrowset.proofs.rowset.DiskRowSet.settle.Goals as goal

pub empty_all-requires-clause-stand : goal.empty_all-requires-clause-stand
empty_all-requires-clause-stand c = stand_front c.args.pool.now c.args.self.now.frozen.items (c.args.self.now.active ∷ []) c.requires.stands.stand

pub empty_all-requires-clause-apart : goal.empty_all-requires-clause-apart
empty_all-requires-clause-apart c = apart_front c.args.pool.now c.args.self.now.frozen.items (c.args.self.now.active ∷ []) c.requires.stands.apart

pub empty_into-requires : goal.empty_into-requires
empty_into-requires c = (emptied_all c.args.self.now c.args.pool.now c.empty_all.new.pool c.requires.stands c.empty_all.ensures.emptied).stand.0

pub returns-clause-settled : goal.returns-clause-settled
returns-clause-settled c =
    let s = c.args.self.now in
    let t : DiskRowSet = record { number = c.args.rowset.number; base = c.args.rowset.base; undo = c.args.rowset.undo; redo = c.args.rowset.redo; frozen = c.empty_all.new.mems; active = c.empty_into.new.self } in
    settled s t c.args.pool.now c.empty_all.new.pool c.empty_into.new.pool c.args.rowset c.requires.stands c.empty_all.ensures.emptied c.requires.lead c.requires.none c.requires.store refl
    (ap (λ (ms : List DeltaMem). ms ++ c.empty_into.new.self ∷ []) c.empty_all.ensures.none)
    (ap (λ (n : ℕ). Delta c.args.rowset.number n) c.empty_into.ensures.number ∙ ap (λ (n : ℕ). Delta n (number_of s.active)) (sym (one_name s.number (number_of s.active) c.args.rowset.number c.requires.number.0 c.requires.number.1)))
    c.empty_into.ensures.store c.empty_into.ensures.empty c.empty_into.ensures.bare c.empty_into.ensures.none c.empty_into.ensures.frame c.empty_into.ensures.fewer c.empty_into.ensures.reserved c.empty_into.ensures.size

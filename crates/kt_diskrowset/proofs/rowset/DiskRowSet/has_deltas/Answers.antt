use Rattle.std.proofs.Common.{◌≡◌, [], ◌∷◌, ◌∙◌, Bool, true, false, not, List, refl, ap, sym, subst}
use Rattle.std.proofs.lemmas.Bool.{OnTrue_at}
use Rattle.kt_dms.specs.declared.store.DeltaMem.{DeltaMem}
use Rattle.kt_dms.specs.Stores.{deltas_of}
use Rattle.kt_diskrowset.specs.Mems.{AllStand, steps_in_mems}
use Rattle.kt_diskrowset.proofs.Beside.{stand_front, last_stands}
use Rattle.kt_diskrowset.proofs.Told.{told_bare}
use Rattle.kt_diskrowset.proofs.Wholes.{none_more, none_here}
use Rattle.kt_diskrowset.proofs.rowset.DiskRowSet.has_deltas.Goals as goal

is_true : (b : Bool) → not b ≡ false → b ≡ true
is_true true e = refl
is_true false e = cc

pub are_vacant-requires : goal.are_vacant-requires
are_vacant-requires c = subst (AllStand c.args.pool.now) (sym c.deref.ensures.value) (stand_front c.args.pool.now c.args.self.now.frozen.items (c.args.self.now.active ∷ []) c.requires.stand)

pub returns-clause-none : goal.returns-clause-none
returns-clause-none c = λ e n.
    let s = c.args.self.now in
    let pool = c.args.pool.now in
    let vacant = OnTrue_at (is_true c.are_vacant.result e) c.are_vacant.ensures in
    let count = c.len.ensures pool (last_stands pool s.frozen.items s.active c.requires.stand) in
    none_more pool n s.frozen.items s.active (ap (λ (ms : List DeltaMem). steps_in_mems pool n ms) (sym c.deref.ensures.value) ∙ vacant n) (none_here (deltas_of s.active pool) (sym count ∙ c.if-len-ne0.false))

pub returns-clause-told : goal.returns-clause-told
returns-clause-told c = λ e.
    let s = c.args.self.now in
    let pool = c.args.pool.now in
    let vacant = OnTrue_at (is_true c.are_vacant.result e) c.are_vacant.ensures in
    let count = c.len.ensures pool (last_stands pool s.frozen.items s.active c.requires.stand) in
    told_bare s pool (λ n. none_more pool n s.frozen.items s.active (ap (λ (ms : List DeltaMem). steps_in_mems pool n ms) (sym c.deref.ensures.value) ∙ vacant n) (none_here (deltas_of s.active pool) (sym count ∙ c.if-len-ne0.false)))

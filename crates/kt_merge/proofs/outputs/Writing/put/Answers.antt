use Rattle.std.proofs.Common.{◌∙◌, ◌∷◌, [], ℕ, List, length, length-append, inl, inr, sym, ap, subst, refl, arith}
use Rattle.std.proofs.lemmas.Bool.{OnTrue_at, OnFalse_at}
use Rattle.kt_merge.specs.Fitting.{FitsFiles}
use Rattle.kt_merge.specs.Rows.{disk_row_of}
use Rattle.kt_merge.specs.Merge.{told_of}
use Rattle.kt_merge.specs.declared.outputs.Writing.{Writing}
use Rattle.kt_merge.proofs.WrittenRowsets.{open_few, rows_above, told_put, rise_put, taken_put}
use Rattle.kt_merge.proofs.outputs.Writing.put.Goals as goal

pub returns-then-not-can_hold-clause-put : goal.returns-then-not-can_hold-clause-put
returns-then-not-can_hold-clause-put c = λ fits room.
    absurd (OnFalse_at c.if-not-can_hold.true c.can_hold.ensures.no (subst (λ (k : List ℕ). FitsFiles c.args.columns.now k c.args.row) (sym c.as_slice.ensures) fits, room))

pub returns-then-not-can_hold-clause-either : goal.returns-then-not-can_hold-clause-either
returns-then-not-can_hold-clause-either c = inl refl

pub push-requires-clause-few : goal.push-requires-clause-few
push-requires-clause-few c = let few = open_few c.args.self.now.growing.rows.items c.requires.writes.grows.opened in omega (arith, few)

pub push-requires-clause-fits : goal.push-requires-clause-fits
push-requires-clause-fits c = subst (λ (k : List ℕ). FitsFiles c.args.columns.now k c.args.row) c.as_slice.ensures (OnTrue_at c.if-not-can_hold.false c.can_hold.ensures.yes).0

pub push-requires-clause-above : goal.push-requires-clause-above
push-requires-clause-above c = rows_above c.args.key c.args.self.now c.requires.above

pub push-requires-clause-room : goal.push-requires-clause-room
push-requires-clause-room c = (OnTrue_at c.if-not-can_hold.false c.can_hold.ensures.yes).1

pub cut_full-requires-clause-rise : goal.cut_full-requires-clause-rise
cut_full-requires-clause-rise c =
    let old = c.args.self.now in
    let new : Writing = record { done = old.done; growing = c.push.new.self } in
    let told = told_put old new ((c.args.key, disk_row_of c.args.row) ∷ []) refl c.in_ok-push.ensures.told in
    rise_put c.args.key (disk_row_of c.args.row) (told_of old) (told_of new) told c.requires.writes.rise c.requires.above

pub cut_full-requires-clause-taken : goal.cut_full-requires-clause-taken
cut_full-requires-clause-taken c = taken_put c.args.self.now.growing.rows.items c.push.new.self.rows.items _ c.in_ok-push.ensures.rows c.requires.writes.grows.opened

pub returns-clause-put : goal.returns-clause-put
returns-clause-put c = λ fits room.
    c.in_ok-cut_full.ensures.told ∙ told_put c.args.self.now (record { done = c.args.self.now.done; growing = c.push.new.self }) ((c.args.key, disk_row_of c.args.row) ∷ []) refl c.in_ok-push.ensures.told

pub returns-clause-either : goal.returns-clause-either
returns-clause-either c =
    inr (c.in_ok-cut_full.ensures.told ∙ told_put c.args.self.now (record { done = c.args.self.now.done; growing = c.push.new.self }) ((c.args.key, disk_row_of c.args.row) ∷ []) refl c.in_ok-push.ensures.told)

pub returns-clause-few : goal.returns-clause-few
returns-clause-few c =
    let all = ap length c.in_ok-push.ensures.undos ∙ length-append c.args.self.now.growing.undos.items c.args.row.undos.items in
    omega (arith, all, c.in_ok-cut_full.ensures.few)

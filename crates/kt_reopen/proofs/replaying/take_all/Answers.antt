use Rattle.std.proofs.Common.{◌≡◌, ◌+◌, ◌∷◌, ◌++◌, List, drop, None, refl, sym, ap, ◌∙◌, subst, arith}
use Rattle.std.proofs.lemmas.List.{drop_all}
use Rattle.kt_history.specs.declared.operation.RowOp.{RowOp}
use Rattle.kt_reopen.specs.Owed.{rows_told}
use Rattle.kt_reopen.specs.Standing.{placed}
use Rattle.kt_reopen.proofs.Replayed.{first_left}
use Rattle.kt_reopen.proofs.WritesDone.{AlongOps, along_next, names_on, told_more, all_done}
use Rattle.kt_reopen.proofs.replaying.take_all.Goals as goal

pub ops-preserved : goal.ops-preserved
ops-preserved c =
    let ops = c.args.ops.now in
    let i = c.ops.at in
    let op = c.at-op.result in
    let m = c.args.meta.now in
    let ts = c.args.ts in
    let o = c.args.stores.now in
    let left : drop i ops ≡ op ∷ drop (i + 1) ops = first_left ops i (i + 1) op (omega arith) c.at-op.ensures refl in
    let along = subst (λ rest. AlongOps m ts o ops None c.ops.stores rest None) left c.ops.invariant.along in
    let does = c.in_ok-row.ensures.does in
    record {
      along = along_next m ts o ops None c.ops.stores op (drop (i + 1) ops) None along c.take_live.new.stores does;
      told = λ fill name named.
          told_more m ts c.ops.stores c.take_live.new.stores op (drop (i + 1) ops) fill name c.ops.rows.items c.push.new.self.items (rows_told fill name ts ops (placed fill o)) c.in_ok-row.row does
          (c.in_ok-row.ensures.told fill name (names_on name o c.ops.stores along.ends named)) c.in_ok-push.ensures.items
          (ap (λ rest. c.ops.rows.items ++ rows_told fill name ts rest (placed fill c.ops.stores)) (sym left) ∙ c.ops.invariant.told fill name named);
    }

pub returns-clause-does : goal.returns-clause-does
returns-clause-does c =
    let ops = c.args.ops.now in
    all_done c.args.meta.now c.args.ts c.args.stores.now ops None c.ops.stores None
    (subst (λ (rest : List RowOp). AlongOps c.args.meta.now c.args.ts c.args.stores.now ops None c.ops.stores rest None) (drop_all c.ops.at ops (omega arith)) c.ops.invariant.along)

use Rattle.std.proofs.Common.{◌++◌, ◌∷◌, [], length, map, sym, ap, ◌∙◌, subst, arith, length-append}
use Rattle.std.specs.List.{AllByRecursion}
use Rattle.std.specs.Vec.Iter.{into_iter_items}
use Rattle.kt_diskrowset.specs.Data.{store_in}
use Rattle.kt_joblaws.specs.Compacts.{TellsTable}
use Rattle.kt_merge.specs.Merge.{IsReadable}
use Rattle.kt_engine.proofs.Entries.{all_push, stores_more}
use Rattle.kt_engine.proofs.telling.all_told.Goals as goal

pub rest-preserved : goal.rest-preserved
rest-preserved c =
    let after = into_iter_items c.next.new.self in
    let items = c.in-Some.ensures.items in
    let left = subst (AllByRecursion IsReadable) items c.rest.invariant.left in
    let d = c.in_ok-one.one in
    let push = c.push_reserved.ensures.items in
    record {
      left = left.1;
      room = (let a = ap length push in let n = length-append c.rest.list.items (d ∷ []) in let b = ap length items in let r = c.rest.invariant.room in let k = c.push_reserved.ensures.capacity in omega arith);
      stores = ap (λ l. map store_in l ++ map store_in after) push ∙ stores_more c.rest.list.items after d c.in-Some.rowset _ c.in_ok-one.ensures.store items ∙ c.rest.invariant.stores;
      table = subst (AllByRecursion (TellsTable c.args.columns.now)) (sym push) (all_push (TellsTable c.args.columns.now) c.rest.list.items d c.rest.invariant.table c.in_ok-one.ensures.table);
      readable = subst (AllByRecursion IsReadable) (sym push) (all_push IsReadable c.rest.list.items d c.rest.invariant.readable (c.in_ok-one.ensures.readable left.0));
    }

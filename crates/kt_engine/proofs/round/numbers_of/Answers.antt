use Rattle.std.proofs.Common.{ℕ, ◌<◌, ◌∙◌, ◌++◌, ◌∷◌, [], List, length, take, get_or, sym, ap, arith}
use Rattle.std.proofs.lemmas.List.{take_all, take_more, map_push}
use Rattle.kt_super.specs.declared.meta.MetaRowset.{MetaRowset}
use Rattle.kt_files.specs.Held.{numbers_named}
use Rattle.kt_engine.proofs.round.numbers_of.Goals as goal

number : MetaRowset → ℕ
number r = r.rowset

pub rowsets-preserved : goal.rowsets-preserved
rowsets-preserved c =
    let xs : List MetaRowset = c.args.rowsets.now in
    let k = c.rowsets.rowset-index in
    let x = c.rowset-item.result in
    let lt : k < length xs = c.rowsets-test.true in
    record {
      long = (let a = c.push_reserved.ensures.len in let b = c.rowsets.invariant.long in omega arith);
      room = (let a = c.push_reserved.ensures.capacity in let b = c.rowsets.invariant.room in omega arith);
      made = c.push_reserved.ensures.items ∙ ap (λ (l : List ℕ). l ++ x.rowset ∷ []) c.rowsets.invariant.made ∙ ap (λ (e : MetaRowset). numbers_named (take k xs) ++ e.rowset ∷ []) c.rowset-item.is
          ∙ sym (ap numbers_named (take_more xs k x lt) ∙ map_push (λ (r : MetaRowset). r.rowset) (take k xs) (get_or xs k x));
    }

pub returns : goal.returns
returns c = c.of.ensures ∙ c.rowsets.invariant.made ∙ ap numbers_named (take_all c.rowsets.rowset-index c.args.rowsets.now (omega arith))

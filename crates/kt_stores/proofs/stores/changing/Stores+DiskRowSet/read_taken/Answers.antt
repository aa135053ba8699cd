use Rattle.std.proofs.Common.{◌≡◌, ◌∙◌, ◌<◌, ℕ, suc, List, map, drop, length, get_or, sym, ap, true, subst}
use Rattle.std.specs.List.{AllByRecursion, filter, list_any}
use Rattle.std.specs.List.Sorted.{IsNonDecreasingBy}
use Rattle.std.specs.Prelude.{◌==◌}
use Rattle.std.proofs.lemmas.List.{take_all}
use Rattle.kt_diskrowset.specs.declared.data.RowSetData.{RowSetData}
use Rattle.kt_diskrowset.specs.declared.rowset.DiskRowSet.{DiskRowSet}
use Rattle.kt_diskrowset.specs.Data.{files_in, held_in, store_in}
use Rattle.kt_diskrowset.specs.Rows.{UndosLeadBack}
use Rattle.kt_diskrowset.specs.Rowset.{IsStore, held_of, name_of, store_of}
use Rattle.kt_stores.specs.Shelf.{StoresView, stores_of, names_of}
use Rattle.kt_stores.specs.Takes.{rowsets, takes, of_taken, files_taken}
use Rattle.kt_stores.proofs.Changing.{rowsets_stand, taken_rows}
use Rattle.kt_stores.proofs.Departing.{stand_at}
use Rattle.kt_stores.proofs.ReadsTaken.{taken_of, one_read, one_passed, told_more, told_still, files_picked, number_read, and_one}
use Rattle.kt_stores.proofs.stores.changing.Stores+DiskRowSet.read_taken.Goals as goal
use Rattle.kt_stores.proofs.stores.changing.Stores+DiskRowSet.read_taken.Goals.{then-is_among+in_ok-whole+in_ok-push, else-is_among}

pub whole-requires : goal.whole-requires
whole-requires c =
    let i = c.self.inside in
    stand_at IsStore i.pool i.rowsets.items c.rowsets.rowset-index c.rowset-item.result (rowsets_stand i.active i.frozen.items i.rowsets.items i.pool c.self.invariant.0.stand)
    (subst (λ (rs : List DiskRowSet). c.rowsets.rowset-index < length rs) c.deref-rowset-items.ensures.value c.rowsets-test.true)
    (subst (λ (rs : List DiskRowSet). c.rowset-item.result ≡ get_or rs c.rowsets.rowset-index c.rowset-item.result) c.deref-rowset-items.ensures.value c.rowset-item.is)

pub rowsets-preserved : goal.rowsets-preserved
rowsets-preserved c =
    let pool = c.args.self.now.pool in
    let was = c.rowsets.invariant in
    elim c.if-is_among.branch [
      | then-is_among+in_ok-whole+in_ok-push w ↦
          let items = ap (λ l. l.items) w.list-is ∙ w.in_ok-push.ensures.items in
          let picked = sym c.is_among.ensures ∙ w.if-is_among.true in
          let d = w.in_ok-whole.field-0 in
          record {
            stores = ap (map store_in) items
                ∙ one_read c.args.numbers.now pool c.deref-rowset-items.result.now c.rowsets.rowset-index c.rowset-item.result c.rowsets-test.true c.rowset-item.is c.rowsets.list.items d picked was.stores (w.in_ok-whole.ensures.store ∙ ap (λ (v : StoresView). store_of c.rowset-item.result v.pool) c.self.view_is);
            files = ap (map held_in) items
                ∙ told_more c.args.numbers.now pool c.deref-rowset-items.result.now c.rowsets.rowset-index c.rowset-item.result c.rowsets-test.true c.rowset-item.is held_in held_of c.rowsets.list.items d picked was.files w.in_ok-whole.ensures.held;
            numbers = subst (AllByRecursion (λ (d : RowSetData). list_any (λ (s : ℕ). s == d.number) c.args.numbers.now ≡ true)) (sym items)
                (and_one (λ (d : RowSetData). list_any (λ (s : ℕ). s == d.number) c.args.numbers.now ≡ true) c.rowsets.list.items d was.numbers (number_read c.args.numbers.now c.rowset-item.result d picked w.in_ok-whole.ensures.held));
            lead = subst (AllByRecursion (λ (d : RowSetData). UndosLeadBack (files_in d))) (sym items) (and_one (λ (d : RowSetData). UndosLeadBack (files_in d)) c.rowsets.list.items d was.lead w.in_ok-whole.ensures.lead);
            order = subst (AllByRecursion (λ (d : RowSetData). IsNonDecreasingBy (λ e. e.ordinal) d.fresh)) (sym items) (and_one (λ (d : RowSetData). IsNonDecreasingBy (λ e. e.ordinal) d.fresh) c.rowsets.list.items d was.order w.in_ok-whole.ensures.order);
          }
      | else-is_among w ↦
          let items = ap (λ l. l.items) w.list-is in
          record {
            stores = ap (map store_in) items
                ∙ one_passed c.args.numbers.now pool c.deref-rowset-items.result.now c.rowsets.rowset-index c.rowset-item.result c.rowsets-test.true c.rowset-item.is c.rowsets.list.items (sym c.is_among.ensures ∙ w.if-is_among.false) was.stores;
            files = ap (map held_in) items
                ∙ told_still c.args.numbers.now pool c.deref-rowset-items.result.now c.rowsets.rowset-index c.rowset-item.result c.rowsets-test.true c.rowset-item.is held_in held_of c.rowsets.list.items (sym c.is_among.ensures ∙ w.if-is_among.false) was.files;
            numbers = subst (AllByRecursion (λ (d : RowSetData). list_any (λ (s : ℕ). s == d.number) c.args.numbers.now ≡ true)) (sym items) was.numbers;
            lead = subst (AllByRecursion (λ (d : RowSetData). UndosLeadBack (files_in d))) (sym items) was.lead;
            order = subst (AllByRecursion (λ (d : RowSetData). IsNonDecreasingBy (λ e. e.ordinal) d.fresh)) (sym items) was.order;
          }
    ]

pub returns-clause-stores : goal.returns-clause-stores
returns-clause-stores c =
    let i = c.self.inside in
    c.rowsets.invariant.stores ∙ ap (taken_of c.args.numbers.now c.args.self.now.pool) (take_all c.rowsets.rowset-index c.deref-rowset-items.result.now c.rowsets-test.false ∙ c.deref-rowset-items.ensures.value)
    ∙ ap (λ (v : StoresView). taken_of c.args.numbers.now v.pool i.rowsets.items) (sym c.self.view_is)
    ∙ sym (taken_rows c.args.numbers.now i.active i.frozen.items i.rowsets.items i.pool)
    ∙ ap (λ (v : StoresView). of_taken (rowsets c.args.numbers.now) (drop (suc v.frozen) (names_of v.shelf)) (drop (suc v.frozen) (stores_of v))) c.self.view_is

pub returns-clause-files : goal.returns-clause-files
returns-clause-files c =
    let i = c.self.inside in
    c.rowsets.invariant.files
    ∙ ap (λ (rs : List DiskRowSet). map held_of (filter (λ (r : DiskRowSet). takes (rowsets c.args.numbers.now) (name_of r)) rs)) (take_all c.rowsets.rowset-index c.deref-rowset-items.result.now c.rowsets-test.false ∙ c.deref-rowset-items.ensures.value)
    ∙ sym (files_picked c.args.numbers.now i.rowsets.items)
    ∙ ap (λ (v : StoresView). files_taken c.args.numbers.now v.files) c.self.view_is

pub returns-clause-numbers : goal.returns-clause-numbers
returns-clause-numbers c = c.rowsets.invariant.numbers

pub returns-clause-lead : goal.returns-clause-lead
returns-clause-lead c = c.rowsets.invariant.lead

pub returns-clause-order : goal.returns-clause-order
returns-clause-order c = c.rowsets.invariant.order

use Rattle.std.proofs.Common.{◌≡◌, ◌<◌, ◌+◌, ◌∷◌, [], List, length, get_or, drop, refl, sym, ap, subst, ◌∙◌, arith}
use Rattle.std.proofs.lemmas.List.{drop_all, length-append}
use Rattle.kt_diskrowset.specs.declared.rowset.DiskRowSet.{DiskRowSet}
use Rattle.kt_files.specs.Held.{AreFresh}
use Rattle.kt_super.specs.declared.meta.MetaRowset.{MetaRowset}
use Rattle.kt_reopen.proofs.Begun.{last_small}
use Rattle.kt_reopen.proofs.Making.{rowset_new, rowsets_next, numbers_next, rowsets_end, none_left}
use Rattle.kt_reopen.proofs.Replayed.{first_left}
use Rattle.kt_reopen.proofs.opened.rowsets_of.Goals as goal

-- there is one more to each that is named
pub unreachable-requires : goal.unreachable-requires
unreachable-requires c =
    let rs : List MetaRowset = c.args.meta.now.rowsets in
    let i = c.rowsets.rowset-index in
    let r = c.rowset-item.result in
    let listed : c.as_slice-rowset-items.result.now ≡ rs = c.as_slice-rowset-items.ensures in
    let lt : i < length rs = omega (arith, ap length listed) in
    let is : r ≡ get_or rs i r = c.rowset-item.is ∙ ap (λ (l : List MetaRowset). get_or l i r) listed in
    let left : drop i rs ≡ r ∷ drop (i + 1) rs = first_left rs i (i + 1) r lt is refl in
    let none = rw c.in_default.is at c.next.ensures.cases in
    none_left i rs r c.rowsets.rest.rest.items left (sym c.rowsets.rest.rest.ok.0 ∙ none.0) c.rowsets.invariant.numbers

pub dms-dms-requires : goal.dms-dms-requires
dms-dms-requires c =
    let m = c.args.meta.now in
    let rs : List MetaRowset = m.rowsets in
    let i = c.rowsets.rowset-index in
    let r = c.rowset-item.result in
    let listed : c.as_slice-rowset-items.result.now ≡ rs = c.as_slice-rowset-items.ensures in
    let lt : i < length rs = omega (arith, ap length listed) in
    let is : r ≡ get_or rs i r = c.rowset-item.is ∙ ap (λ (l : List MetaRowset). get_or l i r) listed in
    let small = last_small m.next_rowset m.next_file 0 [] rs c.requires.rules.rowsets i r lt is in
    omega arith

pub of-requires-clause-none : goal.of-requires-clause-none
of-requires-clause-none c =
    let some = rw c.in-Some.is at c.next.ensures.cases in
    c.in_ok-readable.ensures.fresh ∙ (subst AreFresh some.0 c.rowsets.invariant.fresh).0

pub rowsets-preserved : goal.rowsets-preserved
rowsets-preserved c =
    let rs : List MetaRowset = c.args.meta.now.rowsets in
    let i = c.rowsets.rowset-index in
    let r = c.rowset-item.result in
    let listed : c.as_slice-rowset-items.result.now ≡ rs = c.as_slice-rowset-items.ensures in
    let lt : i < length rs = omega (arith, ap length listed) in
    let is : r ≡ get_or rs i r = c.rowset-item.is ∙ ap (λ (l : List MetaRowset). get_or l i r) listed in
    let d = c.in-Some.data in
    let old = c.rowsets.rest.rest.items in
    let new = c.next.new.self.rest.items in
    let left : drop i rs ≡ r ∷ drop (i + 1) rs = first_left rs i (i + 1) r lt is refl in
    let some = rw c.in-Some.is at c.next.ensures.cases in
    let here : old ≡ d ∷ new = some.0 in
    let numbers = numbers_next i rs r old new d left here c.rowsets.invariant.numbers in
    let fresh = subst AreFresh here c.rowsets.invariant.fresh in
    record {
      long =
          (let so_far = c.rowsets.invariant.long in
          let added = ap (λ (l : List DiskRowSet). length l) c.in_ok-push.ensures.items in
          omega (arith, length-append c.rowsets.opened.items (c.of.result ∷ [])));
      numbers = numbers.1;
      fresh = fresh.1;
      more = λ targets named ss are.
          rowsets_next targets i rs r c.args.rowsets.items old new d c.rowsets.opened.items c.push.new.self.items c.of.result left here
          (rowset_new targets r d c.in_ok-readable.readable c.of.result c.dms-dms.result numbers.0 (c.dms-dms.ensures targets named) c.in_ok-readable.ensures.files c.in_ok-readable.ensures.read (c.in_ok-readable.ensures.fresh ∙ fresh.0) c.in_ok-readable.ensures.number
          c.of.ensures.held c.of.ensures.name c.of.ensures.store c.of.ensures.stands c.of.ensures.bare c.of.ensures.none c.of.ensures.told)
          c.in_ok-push.ensures.items (c.rowsets.invariant.more targets named) ss are;
    }

pub returns-clause-are : goal.returns-clause-are
returns-clause-are c = λ targets named.
    let rs : List MetaRowset = c.args.meta.now.rowsets in
    let listed : c.as_slice-rowset-items.result.now ≡ rs = c.as_slice-rowset-items.ensures in
    rowsets_end targets c.rowsets.rowset-index rs c.args.rowsets.items c.rowsets.rest.rest.items c.rowsets.opened.items (drop_all c.rowsets.rowset-index rs (omega (arith, ap length listed))) c.rowsets.invariant.numbers (c.rowsets.invariant.more targets named)

pub returns-clause-few : goal.returns-clause-few
returns-clause-few c =
    let rs : List MetaRowset = c.args.meta.now.rowsets in
    let listed : c.as_slice-rowset-items.result.now ≡ rs = c.as_slice-rowset-items.ensures in
    let same : c.as_slice.result.now ≡ rs = c.as_slice.ensures in
    let long = c.rowsets.invariant.long in
    omega (arith, ap length listed, ap length same)

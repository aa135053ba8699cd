use Rattle.std.proofs.Common.{◌≡◌, ◌+◌, ◌++◌, ◌∙◌, [], List, map, length, sym, ap, subst, arith}
use Rattle.std.specs.List.Sorted.{IsPermutation}
use Rattle.std.proofs.lemmas.List.{length-map, map-append}
use Rattle.kt_rowtree.specs.Ranges.{Tree, raised}
use Rattle.kt_stores.specs.Ranges.{AreRanged}
use Rattle.kt_stores.proofs.Ranged.{length-ranged, ranged_low, ranged_more, ranged_orderly}
use Rattle.kt_stores.proofs.stores.changing.come_behind.Goals as goal

pub take_over-requires-clause-orderly : goal.take_over-requires-clause-orderly
take_over-requires-clause-orderly g c =
    let file = g.R.FileStore.files in
    let files = map file c.args.rowsets.now.items in
    let own = subst (AreRanged files) (sym c.replace-own.ensures.value) c.requires.ranged in
    ranged_orderly files c.replace-own.result own

pub take_over-requires-clause-low : goal.take_over-requires-clause-low
take_over-requires-clause-low g c = λ k d low.
    let file = g.R.FileStore.files in
    let files = map file c.args.rowsets.now.items in
    let own = subst (AreRanged files) (sym c.replace-own.ensures.value) c.requires.ranged in
    let here = ranged_low files c.replace-own.result own k d low in
    let long = length-map c.args.rowsets.now.items file in
    omega (arith, c.args.rowsets.now.ok)

pub take_over-requires-clause-room : goal.take_over-requires-clause-room
take_over-requires-clause-room g c =
    let file = g.R.FileStore.files in
    let files = map file c.args.rowsets.now.items in
    let own = subst (AreRanged files) (sym c.replace-own.ensures.value) c.requires.ranged in
    let none = subst (λ (rs : List g.row.R.Denot). AreRanged (map g.R.FileStore.files rs) c.into_parts-room.result.1) c.requires.vacant c.into_parts-room.ensures.ranged in
    let vacant = subst (AreRanged []) (sym c.replace-own.ensures.after) none in
    let room = ap (λ (t : Tree). t.room) c.replace-own.ensures.after ∙ c.into_parts-room.ensures.room in
    let fits = c.requires.room in
    let long = length-map c.args.rowsets.now.items file in
    let more_long = length-map c.args.outputs.items file in
    let vacant_long = length-ranged [] c.replace-own.new.dest vacant in
    let own_long = length-ranged files c.replace-own.result own in
    omega arith

pub take_over-requires-2-clause-orderly : goal.take_over-requires-2-clause-orderly
take_over-requires-2-clause-orderly g c = ranged_orderly (map g.R.FileStore.files c.args.outputs.items) c.into_parts-outputs.result.1 c.into_parts-outputs.ensures.ranged

pub take_over-requires-2-clause-low : goal.take_over-requires-2-clause-low
take_over-requires-2-clause-low g c = λ k d low.
    let here = ranged_low (map g.R.FileStore.files c.args.outputs.items) c.into_parts-outputs.result.1 c.into_parts-outputs.ensures.ranged k d low in
    let long = length-map c.args.outputs.items g.R.FileStore.files in
    let listed = ap length c.into_parts-outputs.ensures.rowsets in
    omega (arith, c.args.rowsets.now.ok, c.into_parts-outputs.result.0.ok, c.len-first.ensures)

pub take_over-requires-2-clause-room : goal.take_over-requires-2-clause-room
take_over-requires-2-clause-room g c =
    let file = g.R.FileStore.files in
    let files = map file c.args.rowsets.now.items in
    let own = subst (AreRanged files) (sym c.replace-own.ensures.value) c.requires.ranged in
    let none = subst (λ (rs : List g.row.R.Denot). AreRanged (map g.R.FileStore.files rs) c.into_parts-room.result.1) c.requires.vacant c.into_parts-room.ensures.ranged in
    let vacant = subst (AreRanged []) (sym c.replace-own.ensures.after) none in
    let room = ap (λ (t : Tree). t.room) c.replace-own.ensures.after ∙ c.into_parts-room.ensures.room in
    let fits = c.requires.room in
    let long = length-map c.args.rowsets.now.items file in
    let more_long = length-map c.args.outputs.items file in
    let vacant_long = length-ranged [] c.replace-own.new.dest vacant in
    let own_long = length-ranged files c.replace-own.result own in
    let others = c.into_parts-outputs.result.1 in
    let come = c.into_parts-outputs.ensures.ranged in
    let come_long = length-ranged (map file c.args.outputs.items) others come in
    let first = ranged_more [] files c.replace-own.new.dest c.replace-own.result c.take_over.new.self vacant own c.take_over.ensures.ranges (omega (arith, c.take_over.ensures.room)) in
    let first_long = length-ranged files c.take_over.new.self first in
    omega (arith, c.take_over.ensures.room)

pub returns-clause-ranged : goal.returns-clause-ranged
returns-clause-ranged g c =
    let file = g.R.FileStore.files in
    let files = map file c.args.rowsets.now.items in
    let own = subst (AreRanged files) (sym c.replace-own.ensures.value) c.requires.ranged in
    let none = subst (λ (rs : List g.row.R.Denot). AreRanged (map g.R.FileStore.files rs) c.into_parts-room.result.1) c.requires.vacant c.into_parts-room.ensures.ranged in
    let vacant = subst (AreRanged []) (sym c.replace-own.ensures.after) none in
    let room = ap (λ (t : Tree). t.room) c.replace-own.ensures.after ∙ c.into_parts-room.ensures.room in
    let fits = c.requires.room in
    let long = length-map c.args.rowsets.now.items file in
    let more_long = length-map c.args.outputs.items file in
    let vacant_long = length-ranged [] c.replace-own.new.dest vacant in
    let own_long = length-ranged files c.replace-own.result own in
    let others = c.into_parts-outputs.result.1 in
    let come = c.into_parts-outputs.ensures.ranged in
    let come_long = length-ranged (map file c.args.outputs.items) others come in
    let first = ranged_more [] files c.replace-own.new.dest c.replace-own.result c.take_over.new.self vacant own c.take_over.ensures.ranges (omega (arith, c.take_over.ensures.room)) in
    let first_long = length-ranged files c.take_over.new.self first in
    let count : c.len-first.result ≡ length (map g.R.FileStore.files c.args.rowsets.now.items) = omega (arith, c.len-first.ensures, c.args.rowsets.now.ok) in
    let all = subst (λ n. IsPermutation (c.take_over.new.self.ranges ++ map (raised n) c.into_parts-outputs.result.1.ranges) c.take_over-2.new.self.ranges) count c.take_over-2.ensures.ranges in
    let items = c.put_behind.ensures ∙ ap (λ rs. c.args.rowsets.now.items ++ rs) c.into_parts-outputs.ensures.rowsets in
    let is = ap (map file) items ∙ map-append file c.args.rowsets.now.items c.args.outputs.items in
    subst (λ fs. AreRanged fs c.take_over-2.new.self) (sym is)
    (ranged_more files (map file c.args.outputs.items) c.take_over.new.self others c.take_over-2.new.self first come all (omega (arith, c.take_over.ensures.room, c.take_over-2.ensures.room)))

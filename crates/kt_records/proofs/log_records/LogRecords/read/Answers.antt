use Rattle.std.proofs.Common.{◌++◌, [], ◌∷◌, List, length, sym, ap, subst, ◌∙◌, arith, map}
use Rattle.std.specs.List.{All}
use Rattle.kt_records.specs.declared.entry.Entry.{Entry}
use Rattle.kt_records.specs.declared.log_records.Kept.{Kept}
use Rattle.kt_records.specs.Shared.{entry_kept, entry_in, IsKept}
use Rattle.kt_records.proofs.Records.{record_takes}
use Rattle.kt_records.proofs.Shared.{still_kept, still_there, one_kept, one_there, not_added}
use Rattle.kt_records.proofs.log_records.LogRecords.read.Goals as goal

pub invariant_of-self-in-Ok : goal.invariant_of-self-in-Ok
invariant_of-self-in-Ok c =
    let entry : Entry = entry_in c.record_into.new.ops c.record_into.new.rows.items c.in-Ok.head in
    let takes = record_takes c.args.bytes.now entry (λ i. omega (arith, c.type_inv.bytes i)) c.in-Ok.ensures.read in
    one_kept c.self.inside.ops c.record_into.new.ops c.self.inside.rows.items c.record_into.new.rows.items c.self.inside.kept.items c.self.invariant c.record_into.ensures.ops c.record_into.ensures.rows
    (length c.self.inside.ops) (length c.self.inside.rows.items) (record { head = c.in-Ok.head; len = length c.args.bytes.now }) c.push_reserved.new.self.items c.in-Ok.ensures.newest (ap length takes.1)
    (c.push_reserved.ensures.items ∙ ap (λ (l : List Kept). l ++ record { head = c.in-Ok.head; len = length c.args.bytes.now } ∷ []) c.reserve.ensures.items)

pub invariant_of-self-in-Err : goal.invariant_of-self-in-Err
invariant_of-self-in-Err c =
    subst (λ (l : List Kept). All (IsKept c.record_into.new.ops c.record_into.new.rows.items) l) (sym c.reserve.ensures.items)
    (still_kept c.self.inside.ops c.record_into.new.ops c.self.inside.rows.items c.record_into.new.rows.items c.self.inside.kept.items c.self.invariant c.record_into.ensures.ops c.record_into.ensures.rows)

pub returns-in-Ok : goal.returns-in-Ok
returns-in-Ok c =
    let entry : Entry = entry_in c.record_into.new.ops c.record_into.new.rows.items c.in-Ok.head in
    let takes = record_takes c.args.bytes.now entry (λ i. omega (arith, c.type_inv.bytes i)) c.in-Ok.ensures.read in
    record {
      entry = entry;
      keeps = takes.0;
      spelled = takes.1;
      read = c.in-Ok.ensures.read;
      added = one_there c.self.inside.ops c.record_into.new.ops c.self.inside.rows.items c.record_into.new.rows.items c.self.inside.kept.items c.self.invariant c.record_into.ensures.ops c.record_into.ensures.rows
          (length c.self.inside.ops) (length c.self.inside.rows.items) (record { head = c.in-Ok.head; len = length c.args.bytes.now }) c.push_reserved.new.self.items c.in-Ok.ensures.newest (ap length takes.1)
          (c.push_reserved.ensures.items ∙ ap (λ (l : List Kept). l ++ record { head = c.in-Ok.head; len = length c.args.bytes.now } ∷ []) c.reserve.ensures.items)
          ∙ ap (λ (l : List Entry). l ++ entry ∷ []) c.self.view_is;
    }

pub returns-in-Err : goal.returns-in-Err
returns-in-Err c =
    not_added (Unit {0}) c.args.bytes.now c.args.self.now _ (entry_in c.record_into.new.ops c.record_into.new.rows.items) c.in-Err.no c.in-Err.ensures.read
    (ap (λ (l : List Kept). map (entry_kept c.record_into.new.ops c.record_into.new.rows.items) l) c.reserve.ensures.items
    ∙ still_there c.self.inside.ops c.record_into.new.ops c.self.inside.rows.items c.record_into.new.rows.items c.self.inside.kept.items c.self.invariant c.record_into.ensures.ops c.record_into.ensures.rows ∙ c.self.view_is)

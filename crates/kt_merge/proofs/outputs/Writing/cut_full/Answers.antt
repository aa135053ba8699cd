use Rattle.std.proofs.Common.{◌≡◌, ◌∙◌, ℕ, List, true, length, map, sym, ap, subst, arith}
use Rattle.std.specs.List.{AllByRecursion}
use Rattle.kt_history.specs.Views.{AreRising}
use Rattle.kt_histlaws.specs.Disks.{DiskRow}
use Rattle.kt_diskrowset.specs.declared.data.RowSetData.{RowSetData}
use Rattle.kt_merge.specs.Told.{is_full, rows_in, AreOutputs}
use Rattle.kt_merge.proofs.WrittenRowsets.{full_some, taken_few, outputs_cut, full_cut, written_told}
use Rattle.kt_merge.proofs.outputs.Writing.cut_full.Goals as goal

pub returns-then-not-is_full-clause-writes : goal.returns-then-not-is_full-clause-writes
returns-then-not-is_full-clause-writes c = record {
  done = c.requires.done;
  full = c.requires.full;
  rise = c.requires.rise;
  grows = record { grown = c.requires.grown; opened = sym c.is_full.ensures ∙ c.if-not-is_full.true };
}

pub cut-requires-clause-some : goal.cut-requires-clause-some
cut-requires-clause-some c = full_some c.args.self.now.growing.rows.items (sym c.is_full.ensures ∙ c.if-not-is_full.false)

pub cut-requires-clause-most : goal.cut-requires-clause-most
cut-requires-clause-most c =
    let few = taken_few c.args.self.now.growing.rows.items (full_some c.args.self.now.growing.rows.items (sym c.is_full.ensures ∙ c.if-not-is_full.false)) c.requires.taken in
    omega (arith, few)

pub returns-clause-writes : goal.returns-clause-writes
returns-clause-writes c =
    let old = c.args.self.now in
    let d = c.in_ok-full.full in
    let so_ = sym c.is_full.ensures ∙ c.if-not-is_full.false in
    let some = full_some old.growing.rows.items so_ in
    let put = c.in_ok-push.ensures.items in
    record {
      done = subst (AreOutputs c.args.columns.now) (sym put) (outputs_cut c.args.columns.now old.done.items old.growing d c.requires.done c.requires.full c.requires.rise c.in_ok-full.ensures.output c.in_ok-full.ensures.rows c.in_ok-full.ensures.told c.requires.taken some);
      full = subst (AllByRecursion (λ (x : RowSetData). is_full (rows_in x) ≡ true)) (sym put) (full_cut c.args.columns.now old.done.items old.growing d c.requires.done c.requires.full c.requires.rise c.in_ok-full.ensures.output c.in_ok-full.ensures.rows c.in_ok-full.ensures.told c.requires.taken some so_);
      rise = subst AreRising (sym (ap (map (λ (r : List ℕ × DiskRow). r.0)) (written_told old (record { done = c.push.new.self; growing = c.cut.new.self }) d put c.in_ok-full.ensures.told c.in_ok-full.ensures.left.1))) c.requires.rise;
      grows = c.in_ok-full.ensures.left.0;
    }

pub returns-clause-told : goal.returns-clause-told
returns-clause-told c = written_told c.args.self.now (record { done = c.push.new.self; growing = c.cut.new.self }) c.in_ok-full.full c.in_ok-push.ensures.items c.in_ok-full.ensures.told c.in_ok-full.ensures.left.1

pub returns-clause-few : goal.returns-clause-few
returns-clause-few c = let none = ap length c.in_ok-full.ensures.left.2 in omega (arith, none)

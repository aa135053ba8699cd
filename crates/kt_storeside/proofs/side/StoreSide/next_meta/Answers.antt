use Rattle.std.proofs.Common.{◌≡◌, ◌<◌, ◌+◌, ◌^◌, ◌∙◌, ℕ, ap, arith}
use Rattle.kt_super.specs.declared.meta.Meta.{Meta}
use Rattle.kt_storeside.proofs.NextMeta.{may_be_lent}
use Rattle.kt_storeside.proofs.side.StoreSide.next_meta.Goals as goal

pub returns-clause-lent : goal.returns-clause-lent
returns-clause-lent g c =
    let was : c.meta-was.result.now ≡ c.args.self.now.meta = c.meta-was.ensures in
    let number : c.meta-was.result.now.number ≡ c.args.self.now.meta.number = ap (λ (m : Meta). m.number) was in
    let rowset : c.next_numbers-next_rowset.result.0 ≡ c.args.self.now.next_rowset = ap (λ (p : ℕ × ℕ). p.0) c.next_numbers-next_rowset.ensures in
    let file : c.next_numbers-next_rowset.result.1 ≡ c.args.self.now.next_file = ap (λ (p : ℕ × ℕ). p.1) c.next_numbers-next_rowset.ensures in
    may_be_lent g.D.Disk.tells g.D.Disk.seen g.D.Disk.now g.D.Disk.leaves g.D.Disk.faults c.args.self.now c.standing.ensures.side c.args.a c.args.c c.args.need (omega arith) (omega arith)
    (let low : c.args.self.now.meta.number + 1 < 2 ^ 62 = omega (arith, number, c.if-number.false) in low) (c.has_number.ensures c.if-not-has_number.false) (omega arith)
    (let low : c.args.self.now.next_rowset < 2 ^ 62 = omega (arith, rowset, c.if-next_rowset-ge-SMALL.false) in low)
    (let low : c.args.self.now.next_file < 2 ^ 62 = omega (arith, file, c.if-next_file-ge-SMALL.false) in low) _
    (λ i. record {
      number = (was i).number + 1;
      a = c.args.a;
      c = c.args.c;
      need = c.args.need;
      last_mem = (was i).last_mem;
      next_rowset = rowset i;
      next_file = file i;
      next_column = (was i).next_column;
      schema = (c.in_ok-schema_of.ensures ∙ ap (λ (m : Meta). m.schema) was) i;
      rowsets = (c.in_ok-rowsets_of.ensures ∙ ap (λ (m : Meta). m.rowsets) was) i;
    })

use Rattle.std.proofs.Common.{ap, length, arith}
use Rattle.kt_dict.specs.Spelling.{spelling}
use Rattle.kt_dict.proofs.Held.{held_len, concat_most}
use Rattle.kt_dict.proofs.items.Items.spelled_len.Goals as goal

pub overflow_add-result : goal.overflow_add-result
overflow_add-result c = omega (arith, c.len.ensures, c.byte_len.ensures, c.self.invariant.most, concat_most c.self.inside.entries c.self.invariant.short)

pub overflow_add-result-2 : goal.overflow_add-result-2
overflow_add-result-2 c = omega (arith, c.len.ensures, c.byte_len.ensures, c.self.invariant.most, concat_most c.self.inside.entries c.self.invariant.short)

pub overflow_add-result-3 : goal.overflow_add-result-3
overflow_add-result-3 c = omega (arith, c.len.ensures, c.byte_len.ensures, c.len-2.ensures, c.self.invariant.few, c.self.invariant.most, concat_most c.self.inside.entries c.self.invariant.short)

pub returns : goal.returns
returns c = omega (arith, c.len.ensures, c.byte_len.ensures, c.len-2.ensures, held_len c.self.inside.entries c.self.inside.codes.items c.self.invariant, ap (λ xs. length (spelling xs)) c.self.view_is)

use Rattle.std.proofs.Common.{ap, ◌∙◌}
use Rattle.std.specs.List.{flat_map}
use Rattle.kt_history.specs.Spelled.{operation}
use Rattle.kt_history.proofs.Spelled.{bytes_are}
use Rattle.kt_history.proofs.op_list.OpList.as_bytes.Goals as goal

pub returns : goal.returns
returns c = c.as_bytes.ensures ∙ (bytes_are c.self.inside.texts c.self.invariant ∙ ap (flat_map operation) c.self.view_is)

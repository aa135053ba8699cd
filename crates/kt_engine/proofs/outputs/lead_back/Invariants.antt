use Rattle.std.proofs.Common.{take}
use Rattle.kt_engine.proofs.NewRowsets.{LeadBack}
use Rattle.kt_engine.proofs.outputs.lead_back.Given as goal

abbrev pub invariant-rowsets : goal.invariant-rowsets
invariant-rowsets l = LeadBack (take l.rowset-index l.rowsets)

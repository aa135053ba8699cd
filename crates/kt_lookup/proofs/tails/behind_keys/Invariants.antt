use Rattle.std.proofs.Common.{◌≡◌, drop}
use Rattle.std.specs.List.{flat_map}
use Rattle.kt_lookup.specs.Tail.{key_fields, fields_at}
use Rattle.kt_lookup.proofs.tails.behind_keys.Given as goal

abbrev pub invariant-loop-i : goal.invariant-loop-i
invariant-loop-i l = fields_at (flat_map key_fields (drop l.i l.index)) l.rest ≡ fields_at (flat_map key_fields l.index) l.bytes

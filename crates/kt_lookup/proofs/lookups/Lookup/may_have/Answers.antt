use Rattle.std.proofs.Common.{◌≡◌, ap, ◌∙◌}
use Rattle.kt_lookup.specs.Hash.{hash_of}
use Rattle.kt_lookup.specs.Filter.{HasAll}
use Rattle.kt_lookup.specs.Tables.{Tables}
use Rattle.kt_lookup.proofs.OneFilter.{added}
use Rattle.kt_lookup.proofs.lookups.Lookup.may_have.Goals as goal

pub returns-clause-added : goal.returns-clause-added
returns-clause-added c = λ keys j made lt same.
    let all : HasAll c.args.self.now.filter (hash_of c.args.key.now) = added keys c.args.self.now.filter c.args.key.now j made lt same in
    let here : c.deref.result.now ≡ c.args.self.now.filter = c.deref.ensures.value ∙ ap (λ (t : Tables). t.filter) c.self.view_is in
    c.has_hash.ensures.1 (rw (here, c.fnv.ensures) all)

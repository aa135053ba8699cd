use Rattle.std.proofs.Common.{◌≡◌, ap, ◌∙◌}
use Rattle.kt_lookup.specs.Tables.{Tables}
use Rattle.kt_lookup.proofs.FieldsAt.{told_of, found_by, only_by}
use Rattle.kt_lookup.proofs.lookups.Lookup.check.Goals as goal

pub returns-clause-found : goal.returns-clause-found
returns-clause-found c =
    let filter : c.deref.result.now ≡ c.args.self.now.filter = c.deref.ensures.value ∙ ap (λ (t : Tables). t.filter) c.self.view_is in
    let index : c.self.inside.index ≡ c.args.self.now.index = ap (λ (t : Tables). t.index) c.self.view_is in
    found_by c.args.self.now.filter c.args.self.now.index c.args.bytes.now c.check.result (told_of c.deref.result.now c.args.self.now.filter c.self.inside.index c.args.self.now.index c.args.bytes.now c.check.result filter index c.check.ensures)

pub returns-clause-only : goal.returns-clause-only
returns-clause-only c = λ rest is.
    let filter : c.deref.result.now ≡ c.args.self.now.filter = c.deref.ensures.value ∙ ap (λ (t : Tables). t.filter) c.self.view_is in
    let index : c.self.inside.index ≡ c.args.self.now.index = ap (λ (t : Tables). t.index) c.self.view_is in
    only_by c.args.self.now.filter c.args.self.now.index c.args.bytes.now rest c.check.result (told_of c.deref.result.now c.args.self.now.filter c.self.inside.index c.args.self.now.index c.args.bytes.now c.check.result filter index c.check.ensures) is

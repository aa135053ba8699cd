use Rattle.std.proofs.Common.{◌≡◌, ◌-◌, ◌+◌, ℕ, arith, sym, ap, ◌∙◌, take, None}
use Rattle.std.specs.Prelude.{is_some}
use Rattle.kt_judge.specs.Tables.{row_after_all}
use Rattle.kt_judge.proofs.Dated.{after_whole, after_update}
use Rattle.kt_judge.proofs.versions.base_of.Goals as goal

pub returns-in-Whole-clause-row : goal.returns-in-Whole-clause-row
returns-in-Whole-clause-row c =
    c.as_ref.ensures.value ∙ sym (after_whole c.args.list.now (c.versions.at - 1) c.index-list-at.result _ (omega arith) c.in-Whole.is)

pub returns-in-Whole-clause-there : goal.returns-in-Whole-clause-there
returns-in-Whole-clause-there c =
    let back : c.versions.at - 1 + 1 ≡ c.versions.at = omega arith in
    let there = ap is_some (after_whole c.args.list.now (c.versions.at - 1) c.index-list-at.result _ (omega arith) c.in-Whole.is) in
    let variant = c.as_ref.ensures in
    c.as_ref.ensures.variant ∙ sym there ∙ ap (λ (n : ℕ). is_some (row_after_all None (take n c.args.list.now))) back ∙ c.versions.invariant.there

pub versions-preserved : goal.versions-preserved
versions-preserved c =
    let back : c.versions.at - 1 + 1 ≡ c.versions.at = omega arith in
    let there = after_update c.args.list.now (c.versions.at - 1) c.index-list-at.result _ (omega arith) c.in-Update.is in
    record {
      within = omega arith;
      there = sym there ∙ ap (λ (n : ℕ). is_some (row_after_all None (take n c.args.list.now))) back ∙ c.versions.invariant.there;
    }

use Rattle.std.proofs.Common.{List, ℕ, [], ◌∷◌, ◌++◌, ap, ◌∙◌}
use Rattle.std.proofs.lemmas.List.{append-nil}
use Rattle.kt_records.proofs.Items.{entry_put}
use Rattle.kt_records.proofs.writing.put_entry_behind.Goals as goal

pub returns-clause-ok : goal.returns-clause-ok
returns-clause-ok c =
    entry_put c.put_listed.result c.args.out.now.added (c.args.gate ∷ 0 ∷ 0 ∷ 0 ∷ 0 ∷ []) c.extend.new.self.added c.put_listed.new.out.added c.copy_from_slice.new.self c.args.entry.now (c.copy_from_slice.ensures.after ∙ c.head_of.ensures)
    (c.in_ok-extend.ensures.ok ∙ ap (λ (l : List ℕ). c.args.out.now.added ++ c.args.gate ∷ 0 ∷ 0 ∷ 0 ∷ 0 ∷ l) (append-nil c.copy_from_slice.new.self)) c.put_listed.ensures.ok

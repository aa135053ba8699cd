use Rattle.std.proofs.Common.{ℕ, List, sym, subst}
use Rattle.kt_streams.specs.Outside.{Reads}
use Rattle.kt_app.proofs.Counted.{said_counted}
use Rattle.kt_app.proofs.SourceLaws.{load_by}
use Rattle.kt_app.proofs.top.take_script.Goals as goal

pub returns-in-Ok-read_script-clause-table : goal.returns-in-Ok-read_script-clause-table
returns-in-Ok-read_script-clause-table g c = said_counted c.deref.result.now _ c.in-Ok-read_script.ensures.script

pub returns-in-Ok-read_script-clause-load : goal.returns-in-Ok-read_script-clause-load
returns-in-Ok-read_script-clause-load g c =
    let left = g.S.Source.left c.args.source.now in
    load_by left (g.S.Source.left c.read_all.new.source) c.deref.result.now _ _ (subst (λ (bytes : List ℕ). Reads left (g.S.Source.left c.read_all.new.source) bytes 67108865) (sym c.deref.ensures.value) c.in-Ok.ensures.read) c.in-Ok-read_script.ensures.script c.in-Ok-read_script.ensures.load

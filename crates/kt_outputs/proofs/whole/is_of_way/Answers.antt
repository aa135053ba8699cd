use Rattle.std.proofs.Common.{◌∙◌, ap, sym, subst}
use Rattle.std.proofs.lemmas.Bool.{OnTrue_at, OnTrue_from}
use Rattle.kt_deltafile.specs.File.{FileView}
use Rattle.kt_deltafile.specs.Rules.{FileFits}
use Rattle.kt_outputs.specs.Outputs.{IsOfWay}
use Rattle.kt_outputs.proofs.whole.is_of_way.Goals as goal

pub returns : goal.returns
returns c =
    let way = ap (λ (f : FileView). f.way) (sym c.deref.ensures) in
    OnTrue_from c.fits.result (IsOfWay c.args.way c.args.rows c.args.file.now)
    (λ yes. record {
      way_is = way ∙ OnTrue_at yes c.fits.ensures.way;
      fits = subst (λ (f : FileView). FileFits c.args.way c.args.rows f.list) c.deref.ensures (OnTrue_at yes c.fits.ensures.rows);
    })

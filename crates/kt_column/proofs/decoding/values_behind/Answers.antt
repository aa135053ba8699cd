use Rattle.std.proofs.Common.{◌≡◌, arith, length, drop, sym, subst, ap, ◌∙◌}
use Rattle.std.proofs.lemmas.List.{length-drop}
use Rattle.kt_column.specs.Nulls.{byte_len}
use Rattle.kt_column.specs.Faults.{shifted, value_count}
use Rattle.kt_column.specs.Forms.{is_nullable}
use Rattle.kt_column.specs.Reading.{Reads, IsStop}
use Rattle.kt_column.proofs.Faulty.{shiftable}
use Rattle.kt_column.proofs.decoding.values_behind.Goals as goal

pub behind-requires : goal.behind-requires
behind-requires c =
    let rest : length c.behind_nulls.result.now ≡ length (drop (byte_len (length c.args.nulls.now)) c.args.part.now) = ap length c.behind_nulls.ensures in
    shiftable c.args.form c.args.encoding c.value_count-count.result c.byte_len.result c.behind_nulls.result.now c.in-Err.stop
    (omega (arith, rest, length-drop (byte_len (length c.args.nulls.now)) c.args.part.now, c.byte_len.ensures.value, c.requires.front.within)) c.in-Err.ensures.stop

pub returns-in-Err-clause-only : goal.returns-in-Err-clause-only
returns-in-Err-clause-only c items r =
    let here : Reads c.args.form c.args.encoding c.value_count-count.result c.behind_nulls.result.now items =
    subst (λ n. Reads c.args.form c.args.encoding n c.behind_nulls.result.now items) (sym c.value_count-count.ensures.value)
    (subst (λ p. Reads c.args.form c.args.encoding (value_count (is_nullable c.args.form) c.args.n c.args.nulls.now) p items) (sym c.behind_nulls.ensures) r) in
    c.behind.ensures ∙ ap (shifted c.byte_len.result) (c.in-Err.ensures.only items here)

pub returns-in-Err-clause-stop : goal.returns-in-Err-clause-stop
returns-in-Err-clause-stop c =
    record {
      nulls = c.args.nulls.now;
      front = c.requires.front;
      behind = c.in-Err.stop;
      why = subst (λ n. IsStop c.args.form c.args.encoding n (drop (byte_len (length c.args.nulls.now)) c.args.part.now) c.in-Err.stop) c.value_count-count.ensures.value
          (subst (λ p. IsStop c.args.form c.args.encoding c.value_count-count.result p c.in-Err.stop) c.behind_nulls.ensures c.in-Err.ensures.stop);
      place = c.behind.ensures ∙ ap (λ k. shifted k c.in-Err.stop) c.byte_len.ensures.value;
    }

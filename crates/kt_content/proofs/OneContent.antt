-- A superblock and records hold one past at most, as far as a run can tell.
use Rattle.std.proofs.Common.{◌≡◌, ℕ, ◌≤◌, List, map, Result, Ok, sym, ◌∙◌, subst}
use Rattle.kt_history.specs.Rows.{Row}
use Rattle.kt_history.specs.History.{Past}
use Rattle.kt_history.specs.Stores.{row_of}
use Rattle.kt_histlaws.specs.Histories.{past_hist, first_some}
use Rattle.kt_histlaws.proofs.Content.{rows_alike}
use Rattle.kt_records.specs.declared.entry.Entry.{Entry}
use Rattle.kt_content.specs.Places.{Super, Held, held_in}
use Rattle.kt_content.specs.Content.{HoldsKey, content_at, same_histories_show_the_same, contents_show_the_same}

pub same_show : same_histories_show_the_same
same_show p q ip iq mark same = record { mark = mark; rows = λ t le. rows_alike t q p iq ip (λ k. sym ((same k).rows t le)) }

held_once : {held other : Held} (r : Result Held ℕ) → r ≡ Ok held → r ≡ Ok other → held ≡ other
held_once {held} {other} r e f = let g : Ok held ≡ Ok other = sym e ∙ f in cc

one_row : (fill : Row) (super : Super) (records : List Entry) (k : List ℕ) (p q : Past) (t : ℕ) → super.a ≤ t → HoldsKey fill super records k (past_hist k p) → HoldsKey fill super records k (past_hist k q)
    → row_of t (past_hist k p) ≡ row_of t (past_hist k q)
one_row fill super records k p q t le h g =
    let same = held_once (content_at fill super records k) h.is g.is in
    sym (h.shown.shows.rows t le) ∙ subst (λ held. first_some (map (row_of t) (held_in held)) ≡ row_of t (past_hist k q)) (sym same) (g.shown.shows.rows t le)

pub one_content : contents_show_the_same
one_content rules fill super records c d p q hp hq = (
  hp.last ∙ sym hq.last,
  record {
    mark = hq.mark ∙ sym hp.mark;
    rows = λ t le. rows_alike t q p hq.ends.is hp.ends.is (λ k. sym (one_row fill super records k p q t (subst (λ m. m ≤ t) hp.mark le) (hp.keys k) (hq.keys k)));
  },
)

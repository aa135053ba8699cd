-- The stores show one past at most.
use Rattle.std.proofs.Common.{◌≡◌, ℕ, ◌≤◌, List, true, Bool, sym, ◌∙◌, subst, T}
use Rattle.std.specs.FinMap.{nat_cmp-IsAntisymmetric, slice_cmp-IsAntisymmetric}
use Rattle.std.specs.FinMap.Entries.{same_entries}
use Rattle.std.proofs.lemmas.Cmp.{nat_list_cmp_total}
use Rattle.kt_history.specs.Rows.{key_cmp}
use Rattle.kt_history.specs.History.{Past, IsPast, rows_at}
use Rattle.kt_history.proofs.RowLaws.{sorted-replay}
use Rattle.kt_histlaws.specs.Histories.{Shows, past_hist}
use Rattle.kt_history.specs.Stores.{Store, row_of}
use Rattle.kt_histlaws.specs.Laws.{stores_show_one_change}
use Rattle.kt_histlaws.proofs.Applying.{row-past}

as_T : (b : Bool) → b ≡ true → T b
as_T b h = subst T (sym h) tt

-- pasts that have the same row of each key at a time have the same rows then
pub rows_alike : (t : ℕ) (p q : Past) → IsPast p → IsPast q → ((k : List ℕ) → row_of t (past_hist k p) ≡ row_of t (past_hist k q)) → rows_at p t ≡ rows_at q t
rows_alike t p q ip iq same = same_entries key_cmp nat_list_cmp_total (slice_cmp-IsAntisymmetric nat_cmp-IsAntisymmetric) (rows_at p t) (rows_at q t) (sorted-replay t p.writes p.base (as_T _ ip.rows)) (sorted-replay t q.writes q.base (as_T _ iq.rows))
    (λ k. sym (row-past t k p ip) ∙ same k ∙ row-past t k q iq)

pub shown_once : (a t : ℕ) (stores : List Store) (p q : Past) → Shows a stores p → Shows a stores q → IsPast p → IsPast q → a ≤ t
    → rows_at p t ≡ rows_at q t
shown_once a t stores p q sp sq ip iq le = rows_alike t p q ip iq (λ k. sym ((sp k).rows t le) ∙ (sq k).rows t le)

pub shown_change : stores_show_one_change
shown_change a t q stores p r sp sr up = sym ((sp q).steps t up) ∙ (sr q).steps t up

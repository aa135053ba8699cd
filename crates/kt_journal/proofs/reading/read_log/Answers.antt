use Rattle.std.proofs.Common.{◌≡◌, ◌+◌, ◌++◌, [], ◌∷◌, ℕ, List, drop, map, true, Err, sym, ◌∙◌, ap, subst}
use Rattle.std.proofs.lemmas.List.{take_rest, map-append}
use Rattle.kt_records.specs.declared.entry.Entry.{Entry}
use Rattle.kt_records.specs.Spelling.{spelling}
use Rattle.kt_journal.specs.Frames.{body, is_open}
use Rattle.kt_journal.specs.Order.{InOrder, newest_first}
use Rattle.kt_journal.specs.Log.{log_in}
use Rattle.kt_journal.specs.Tracks.{Tracks}
use Rattle.kt_journal.specs.Reads.{IsFaulty}
use Rattle.kt_journal.proofs.Loop.{More, one_more}
use Rattle.kt_journal.proofs.Framed.{order_fit, order_push, newest_push}
use Rattle.kt_journal.proofs.Faults.{faulty_log}
use Rattle.kt_journal.proofs.Matched.{none_found, some_found}
use Rattle.kt_journal.proofs.reading.read_log.Goals as goal

pub returns-in-None-clause-place : goal.returns-in-None-clause-place
returns-in-None-clause-place c offset is =
    let bytes = c.args.bytes.now in
    let end = c.frames.end in
    let before = newest_first [] c.frames.records in
    let opened : is_open (drop end bytes) ≡ true = ap is_open (sym (take_rest bytes end)) ∙ sym c.gate_is_open.ensures ∙ c.frames-test.true in
    let faulty = none_found _ _ _ (c.in_ok-len.ensures before c.frames.invariant.tracks) c.in-None.is in
    let here : IsFaulty before (drop (end + 1) bytes) = subst (λ (l : List ℕ). IsFaulty before l) (take_rest bytes (end + 1)) faulty in
    let same : end ≡ offset = cc in
    subst (λ (n : ℕ). log_in bytes ≡ Err n) same (faulty_log bytes c.frames.records end c.frames.invariant.whole c.frames.invariant.place_is c.frames.invariant.ordered opened here)

pub frames-preserved : goal.frames-preserved
frames-preserved c =
    let bytes = c.args.bytes.now in
    let end = c.frames.end in
    let records = c.frames.records in
    let before = newest_first [] records in
    let len : ℕ = c.in-Some.len in
    let found = some_found _ _ _ len (c.in_ok-len.ensures before c.frames.invariant.tracks) c.in-Some.is in
    let entry : Entry = found.entry in
    let next = found.next in
    let opened : is_open (drop end bytes) ≡ true = ap is_open (sym (take_rest bytes end)) ∙ sym c.gate_is_open.ensures ∙ c.frames-test.true in
    let behind : drop (end + 1) bytes ≡ body (spelling entry) ++ next.rest = sym (take_rest bytes (end + 1)) ∙ next.parts in
    let more = one_more bytes (map spelling records) end (spelling entry) next.rest c.frames.invariant.whole c.frames.invariant.place_is opened behind in
    let pushed : c.next_record.new.records ≡ records ++ entry ∷ [] = found.added in
    let spelled : map spelling c.next_record.new.records ≡ map spelling records ++ spelling entry ∷ [] = ap (map spelling) pushed ∙ map-append spelling records (entry ∷ []) in
    let wide : More bytes (map spelling records ++ spelling entry ∷ []) (end + (5 + len)) = subst (λ (k : ℕ). More bytes (map spelling records ++ spelling entry ∷ []) (end + (5 + k))) (sym next.len_is) more in
    let kept : More bytes (map spelling c.next_record.new.records) (end + (5 + len)) = subst (λ (l : List (List ℕ)). More bytes l (end + (5 + len))) (sym spelled) wide in
    record {
      whole = kept.whole;
      within = kept.within;
      place_is = kept.place_is;
      ordered = subst (λ (rs : List Entry). InOrder [] rs) (sym pushed) (order_push [] records entry c.frames.invariant.ordered next.framed next.may);
      tracks = subst (λ (rs : List Entry). Tracks c.next_record.new.order (newest_first [] rs)) (sym pushed) (subst (λ (b : List Entry). Tracks c.next_record.new.order b) (sym (newest_push [] records entry)) found.tracks);
    }

pub returns-clause-found : goal.returns-clause-found
returns-clause-found c = record {
  whole = c.frames.invariant.whole;
  within = c.frames.invariant.within;
  place_is = c.frames.invariant.place_is;
  fit = order_fit [] c.frames.records c.frames.invariant.ordered;
  shut = ap is_open (sym (take_rest c.args.bytes.now c.frames.end)) ∙ sym c.gate_is_open.ensures ∙ c.frames-test.false;
}

-- Batches are appended to a log one behind another, also beyond where they were.
use Rattle.std.proofs.Common.{◌≡◌, ◌≤◌, ℕ, Bool, IsTrue, true, false, List, [], ◌∷◌, ◌++◌, Option, Some, None, refl, sym, ap, subst, ◌∙◌, arith, append_assoc, inl, inr}
use Rattle.std.specs.List.{Contains}
use Rattle.std.proofs.lemmas.List.{append-nil}
use Rattle.std.proofs.lemmas.List.Elements.{Contains-append_left, Contains-append_right, Contains-append_cases}
use Rattle.kt_disk.specs.Disk.{Files, LeavesOnly}
use Rattle.kt_records.specs.declared.entry.Entry.{Entry}
use Rattle.kt_records.specs.declared.entry.Entry.TheVariants.{Commit}
use Rattle.kt_journal.specs.Log.{records_of, Holds, IsOldOrBoth}
use Rattle.kt_journal.specs.Open.{JournalView}
use Rattle.kt_loglaws.specs.Appended.{AreOfLogged, Append, AreAppends, WasAppended, records_after, moment_after}
use Rattle.kt_loglaws.specs.Side.{IsGrown, known_in, out_in, holder_in}

-- ---- of which writes COMMITs are

front_logged : (log xs ys : List Entry) → AreOfLogged log (xs ++ ys) → AreOfLogged log xs
front_logged log xs ys all ts rows has = all ts rows (Contains-append_left xs ys (Commit ts rows) has)

rest_logged : (log xs ys : List Entry) → AreOfLogged log (xs ++ ys) → AreOfLogged log ys
rest_logged log xs ys all ts rows has = all ts rows (Contains-append_right xs ys (Commit ts rows) has)

both_logged : (log xs ys : List Entry) → AreOfLogged log xs → AreOfLogged log ys → AreOfLogged log (xs ++ ys)
both_logged log xs ys one other ts rows has = elim (Contains-append_cases xs ys (Commit ts rows) has) [ inl first ↦ one ts rows first | inr rest ↦ other ts rows rest ]

-- a log with more records has these writes too
longer_logged : (log more xs : List Entry) → AreOfLogged log xs → AreOfLogged (log ++ more) xs
longer_logged log more xs all ts rows has = let it = all ts rows has in (it.0, Contains-append_left log more _ it.1)

-- ---- appends

-- they end no earlier than they begin
from_low : (left : ℕ → Files → Type 0) (from : ℕ) (first : List Entry) (appends : List Append) → AreAppends left from first appends → from ≤ moment_after from appends
from_low left from first [] are = omega arith
from_low left from first (a ∷ appends) are = let low = from_low left from first appends are.0 in omega (arith, low, are.1.later)

-- a disk that leaves no more at these moments keeps them
appends_stay : (left later : ℕ → Files → Type 0) (bound from : ℕ) (first : List Entry) (appends : List Append) → moment_after from appends ≤ bound → ((m : ℕ) (c : Files) → m ≤ bound → later m c → left m c) → AreAppends left from first appends → AreAppends later from first appends
appends_stay left later bound from first [] le no_more are = tt
appends_stay left later bound from first (a ∷ appends) le no_more are = (
  appends_stay left later bound from first appends (omega (arith, are.1.later, le)) no_more are.0,
  record { later = are.1.later; of_logged = are.1.of_logged; each = λ m c low high is. are.1.each m c low high (no_more m c (omega (arith, high, le)) is) },
)

module _ {L : Type 0} (tells : Bool) (seen : L → Files) (now : L → ℕ) (leaves : L → ℕ → Files → Type 0) where
  -- one more
  pub appended : (whole : Bool) (old mid new : L) (known out : List Entry) → (grown : WasAppended seen now leaves true old mid) → records_after (records_of (seen old)) grown.appends ≡ known → AreOfLogged known out
      → LeavesOnly now leaves (λ c. IsOldOrBoth known out (c 1)) mid new → (IsTrue whole → Holds now leaves new (known ++ out)) → (was : WasAppended seen now leaves whole old new) × (records_after (records_of (seen old)) was.appends ≡ known ++ out)
  appended whole old mid new known out grown has of_logged only durable =
      let low = from_low (leaves mid) (now old) (records_of (seen old)) grown.appends grown.are in
      let up : now old ≤ now mid = omega (arith, low, grown.last) in (
        record {
          appends = record { batch = out; over = now new } ∷ grown.appends;
          are = (
            appends_stay (leaves mid) (leaves new) (now mid) (now old) (records_of (seen old)) grown.appends (omega (arith, grown.last)) only.past grown.are,
            record {
              later = omega (arith, grown.last, only.later);
              of_logged = subst (λ (r : List Entry). AreOfLogged r out) (sym has) of_logged;
              each = λ m c from to is. subst (λ (r : List Entry). IsOldOrBoth r out (c 1)) (sym has) (only.each m c (omega (arith, grown.last, from)) to is);
            },
          );
          last = refl;
          past = λ m c le is. grown.past m c le (only.past m c (omega (arith, le, up)) is);
          keeps = λ m c le is. only.keeps m c (omega (arith, le, up)) (grown.keeps m c le is);
          durable = λ is. subst (λ (r : List Entry). Holds now leaves new (r ++ out)) (sym has) (durable is);
        },
        ap (λ (r : List Entry). r ++ out) has,
      )

  -- ---- the log of an engine

  abbrev Grown : L → Option (JournalView L) → Bool → JournalView L → List Entry → List Entry → Type 0
  Grown first home whole known out queued = IsGrown tells seen now leaves first home whole known out queued

  pub begins : (journal first : JournalView L) (queued items : List Entry) → first ≡ journal → items ≡ queued → (IsTrue tells → Holds now leaves journal.disk (records_of (seen journal.disk))) → (IsTrue tells → AreOfLogged (records_of (seen journal.disk)) queued)
      → Grown first.disk (Some journal) true journal [] items
  begins journal first queued items same are durable of_logged = subst (λ (j : JournalView L). Grown j.disk (Some journal) true journal [] items) (sym same) (subst (λ (l : List Entry). Grown journal.disk (Some journal) true journal [] l) (sym are) (record {
    was = λ t. (record { appends = []; are = tt; last = refl; past = λ m c le is. is; keeps = λ m c le is. is; durable = λ is. durable t }, refl);
    broken = λ t un j at. absurd (let no : true ≡ false = un in cc);
    of_logged = of_logged;
  }))

  -- one more record is queued
  pub queues : (first : L) (home : Option (JournalView L)) (whole : Bool) (known : JournalView L) (out queued items : List Entry) (entry : Entry) → items ≡ queued ++ entry ∷ [] → (IsTrue tells → AreOfLogged (records_of (seen known.disk)) (entry ∷ []))
      → Grown first home whole known out queued → Grown first home whole known out items
  queues first home whole known out queued items entry are of_logged g = subst (λ (l : List Entry). Grown first home whole known out l) (sym are) (record {
    was = g.was;
    broken = g.broken;
    of_logged = λ t. subst (λ (l : List Entry). AreOfLogged (records_of (seen known.disk)) l) (append_assoc out queued (entry ∷ [])) (both_logged (records_of (seen known.disk)) (out ++ queued) (entry ∷ []) (g.of_logged t) (of_logged t));
  })

  -- it goes out with all that is queued
  pub goes_out : (first : L) (home : Option (JournalView L)) (whole : Bool) (lent : JournalView L) (sent queued : List Entry) (journal went : JournalView L) (batch rest : List Entry) → home ≡ Some journal → IsTrue whole → went ≡ journal → batch ≡ queued → rest ≡ []
      → Grown first home whole (known_in home whole lent) (out_in home whole sent) queued → Grown first None whole (known_in None whole went) (out_in {J = JournalView L} None whole batch) rest
  goes_out first None whole lent sent queued journal went batch rest at is same are none g = absurd cc
  goes_out first (Some j) false lent sent queued journal went batch rest at is same are none g = absurd cc
  goes_out first (Some j) true lent sent queued journal went batch rest at is same are none g =
      let here : j ≡ went = cc in
      subst (λ (k : JournalView L). Grown first None true k batch rest) here (subst (λ (l : List Entry). Grown first None true j l rest) (sym are) (subst (λ (l : List Entry). Grown first None true j queued l) (sym none) (record {
        was = g.was;
        broken = λ t un k out. absurd (let no : true ≡ false = un in cc);
        of_logged = λ t. subst (λ (l : List Entry). AreOfLogged (records_of (seen j.disk)) l) (sym (append-nil queued)) (g.of_logged t);
      })))

  -- it comes home with what was out durable
  pub comes_home : (first : L) (home : Option (JournalView L)) (whole : Bool) (lent : JournalView L) (sent queued : List Entry) (by number : ℕ) (journal : JournalView L) → holder_in home by ≡ Some number → IsTrue whole
      → (IsTrue tells → records_of (seen journal.disk) ≡ records_of (seen (known_in home whole lent).disk) ++ out_in home whole sent) → (IsTrue tells → Holds now leaves journal.disk (records_of (seen journal.disk)))
      → (IsTrue tells → LeavesOnly now leaves (λ c. IsOldOrBoth (records_of (seen (known_in home whole lent).disk)) (out_in home whole sent) (c 1)) (known_in home whole lent).disk journal.disk)
      → Grown first home whole (known_in home whole lent) (out_in home whole sent) queued → Grown first (Some journal) whole (known_in (Some journal) whole lent) (out_in (Some journal) whole sent) queued
  comes_home first (Some j) whole lent sent queued by number journal held is reads durable only g = absurd cc
  comes_home first None false lent sent queued by number journal held is reads durable only g = absurd cc
  comes_home first None true lent sent queued by number journal held is reads durable only g = record {
    was = λ t.
        let it = appended true first lent.disk journal.disk (records_of (seen lent.disk)) sent (g.was t).0 (g.was t).1 (front_logged (records_of (seen lent.disk)) sent queued (g.of_logged t)) (only t)
        (λ w. subst (λ (r : List Entry). Holds now leaves journal.disk r) (reads t) (durable t)) in
        (it.0, it.1 ∙ sym (reads t));
    broken = λ t un k at. absurd (let no : true ≡ false = un in cc);
    of_logged = λ t. subst (λ (r : List Entry). AreOfLogged r queued) (sym (reads t)) (longer_logged (records_of (seen lent.disk)) sent queued (rest_logged (records_of (seen lent.disk)) sent queued (g.of_logged t)));
  }

  -- it comes home as it went out
  pub comes_back : (first : L) (home : Option (JournalView L)) (whole : Bool) (lent : JournalView L) (sent queued : List Entry) (by number : ℕ) (journal : JournalView L) (items : List Entry) → holder_in home by ≡ Some number → IsTrue whole
      → journal ≡ known_in home whole lent → items ≡ out_in home whole sent ++ queued
      → Grown first home whole (known_in home whole lent) (out_in home whole sent) queued → Grown first (Some journal) whole (known_in (Some journal) whole lent) (out_in (Some journal) whole sent) items
  comes_back first (Some j) whole lent sent queued by number journal items held is same are g = absurd cc
  comes_back first None false lent sent queued by number journal items held is same are g = absurd cc
  comes_back first None true lent sent queued by number journal items held is same are g = subst (λ (j : JournalView L). Grown first (Some j) true j [] items) (sym same) (subst (λ (l : List Entry). Grown first (Some lent) true lent [] l) (sym are) (record {
    was = g.was;
    broken = λ t un k at. absurd (let no : true ≡ false = un in cc);
    of_logged = g.of_logged;
  }))

  -- it comes home after a fault
  pub comes_broken : (first : L) (home : Option (JournalView L)) (whole : Bool) (lent : JournalView L) (sent queued : List Entry) (by number : ℕ) (journal : JournalView L) → holder_in home by ≡ Some number
      → (IsTrue tells → LeavesOnly now leaves (λ c. IsOldOrBoth (records_of (seen (known_in home whole lent).disk)) (out_in home whole sent) (c 1)) (known_in home whole lent).disk journal.disk)
      → Grown first home whole (known_in home whole lent) (out_in home whole sent) queued → Grown first (Some journal) false (known_in (Some journal) false lent) (out_in (Some journal) false sent) queued
  comes_broken first (Some j) whole lent sent queued by number journal held only g = absurd cc
  comes_broken first None whole lent sent queued by number journal held only g = record {
    was = g.was;
    broken = λ t un k at. let here : journal ≡ k = cc in subst (λ (j : JournalView L). LeavesOnly now leaves (λ c. IsOldOrBoth (records_of (seen lent.disk)) sent (c 1)) lent.disk j.disk) here (only t);
    of_logged = g.of_logged;
  }

  -- what stands of a log at home
  pub stands : (first : L) (home : Option (JournalView L)) (whole : Bool) (lent : JournalView L) (sent queued : List Entry) → Grown first home whole (known_in home whole lent) (out_in home whole sent) queued
      → IsTrue tells → (journal : JournalView L) → home ≡ Some journal → WasAppended seen now leaves whole first journal.disk
  stands first None whole lent sent queued g t journal at = absurd cc
  stands first (Some j) true lent sent queued g t journal at = let here : j ≡ journal = cc in subst (λ (k : JournalView L). WasAppended seen now leaves true first k.disk) here (g.was t).0
  stands first (Some j) false lent sent queued g t journal at =
      (appended false first lent.disk journal.disk (records_of (seen lent.disk)) sent (g.was t).0 (g.was t).1 (front_logged (records_of (seen lent.disk)) sent queued (g.of_logged t)) (g.broken t refl journal at) (λ w. absurd (let no : false ≡ true = w in cc))).0

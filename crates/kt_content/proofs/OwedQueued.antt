-- A tablet that is opened, and has queued the COMMITs that it owed: each write of its log has its COMMIT, and none flies.
use Rattle.std.proofs.Common.{◌≡◌, ◌≤◌, ℕ, List, [], ◌++◌, refl, sym, ap, ◌∙◌, subst, arith}
use Rattle.kt_history.specs.Rows.{Row}
use Rattle.kt_history.specs.History.{Past, raise}
use Rattle.kt_records.specs.declared.entry.Entry.{Entry}
use Rattle.kt_histlaws.specs.Histories.{past_hist}
use Rattle.kt_histlaws.proofs.Pending.{timeline-up_to}
use Rattle.kt_loglaws.specs.Fronts.{with_records}
use Rattle.kt_content.specs.Places.{Super}
use Rattle.kt_content.specs.KeyOps.{seen}
use Rattle.kt_content.specs.Content.{AreTold, SameFrom, IsContent}
use Rattle.kt_content.specs.Rules.{Rules}
use Rattle.kt_content.specs.InMemory.{Mirrors}
use Rattle.kt_content.specs.Recovering.{IsRecovered, low_after}
use Rattle.kt_content.specs.RunEvents.{Named, NamesAreTrue, NumbersAreFresh, AllBelow}
use Rattle.kt_content.specs.Recoverable.{Resident, KeyStands, SuperStands}
use Rattle.kt_content.specs.Recoverable.Stage.{rests}
use Rattle.kt_content.proofs.Opened.{raise_itself}
use Rattle.kt_content.proofs.Stages.{up_to_more}

module _ (rules : Rules) (fill : Row) (super : Super) (records run : List Entry) (c low : ℕ) (past : Past) (live : Resident) (is : IsContent rules fill super (records ++ run) c past) where
  key_rests : (q : List ℕ) → c ≤ live.last → Mirrors super.a super (live.stores q) ((is.keys q).held) → AreTold (seen q (records ++ run) (records ++ run)) → KeyStands fill super live (records ++ run) q (past_hist q past)
  key_rests q le mirrors told =
      let k = is.keys q in
      let itself : SameFrom super.a (past_hist q past) (past_hist q past) = record { rows = λ t up. refl; steps = λ t up. refl } in
      record {
        mark = super.a;
        low = omega arith;
        known = seen q (records ++ run) (records ++ run);
        held = k.held;
        shows = past_hist q past;
        is = k.is;
        shown = k.shown;
        mirrors = mirrors;
        up = up_to_more c live.last (past_hist q past).steps le (timeline-up_to q c past.writes is.ends.writes);
        stage = rests refl told itself;
      }

  -- it stands
  pub queued_stands : IsRecovered rules fill super records run low past → with_records fill past run ≡ past → c ≤ live.last → low_after low run ≤ live.last → live.named ≡ []
      → ((q : List ℕ) → Mirrors super.a super (live.stores q) ((is.keys q).held)) → ((q : List ℕ) → AreTold (seen q (records ++ run) (records ++ run)))
      → NumbersAreFresh super (records ++ run) live.names live.numbers → SuperStands rules fill super records run past live
  queued_stands recovered none_written le up none mirrors told fresh =
      let same : raise (with_records fill past run) super.a ≡ past = ap (λ (p : Past). raise p super.a) none_written ∙ ap (raise past) (sym is.mark) ∙ raise_itself past is.ends.is in
      record {
        low = low;
        recovered = recovered;
        up = up;
        below = subst (λ (ns : List Named). AllBelow live.last ns) (sym none) tt;
        keys = λ q. subst (λ (p : Past). KeyStands fill super live (records ++ run) q (past_hist q p)) (sym same) (key_rests q le (mirrors q) (told q));
        names = subst (λ (ns : List Named). NamesAreTrue fill super (records ++ run) ns) (sym none) tt;
        numbers = fresh;
      }

-- A tablet that is opened can be recovered.
use Rattle.std.proofs.Common.{◌≡◌, ◌≤◌, ℕ, max, List, [], ◌∷◌, ◌++◌, refl, sym, ap, ◌∙◌, subst, arith, cond, true, false, Bool}
use Rattle.std.specs.Prelude.{nat_lt}
use Rattle.std.specs.List.{filter}
use Rattle.std.proofs.lemmas.List.{append-nil}
use Rattle.std.proofs.lemmas.Bool.{lt-ltb, lt-leb}
use Rattle.kt_history.specs.Rows.{Row, Rows}
use Rattle.kt_history.specs.History.{Past, PastWrite, IsPast, Rise, replay, raise}
use Rattle.kt_records.specs.declared.entry.Entry.{Entry}
use Rattle.kt_histlaws.specs.Histories.{past_hist}
use Rattle.kt_history.specs.Stores.{Hist}
use Rattle.kt_histlaws.specs.Jobs.{AreAlike}
use Rattle.kt_histlaws.proofs.Pending.{timeline-up_to}
use Rattle.kt_journal.specs.Log.{IsLog}
use Rattle.kt_loglaws.specs.Replay.{last_of}
use Rattle.kt_content.specs.Places.{Super, Place, same_place, Held, at_first}
use Rattle.kt_content.specs.KeyOps.{seen, played}
use Rattle.kt_content.specs.Content.{SameFrom, IsContent}
use Rattle.kt_content.specs.Rules.{Rules}
use Rattle.kt_content.specs.RunEvents.{NamesAreTrue, NumbersAreFresh}
use Rattle.kt_content.specs.Agreement.{OpsRise}
use Rattle.kt_content.specs.MoreOps.{LacksPlace, PlacesDiffer, untold, told}
use Rattle.kt_content.specs.InMemory.{stands_for, is_at, group, hist_at, Mirrors}
use Rattle.kt_content.specs.Recoverable.{Resident, KeyStands}
use Rattle.kt_content.specs.Recoverable.Stage.{rests, applied}
use Rattle.kt_content.specs.Keeping.{opened_name, opened_stores, EachStands, opened_stores_mirror, IsOwed, an_opened_tablet_stands}
use Rattle.kt_content.specs.Keeping.IsOwed.{not_owed, owed}
use Rattle.kt_content.proofs.MoreOps.{is_same, true_names}
use Rattle.kt_content.proofs.Seen.{seen_rise}
use Rattle.kt_content.proofs.Lending.{alike_itself, alike_to_never}

-- stores that are opened

none_grouped : (super : Super) (p : Place) (active : ℕ) (held : Held) → LacksPlace p held → EachStands super active held → group super p (opened_stores active held) ≡ []
none_grouped super p active [] l e = refl
none_grouped super p active (h ∷ held) l e =
    ap (λ b. cond b (h.1 ∷ group super p (opened_stores active held)) (group super p (opened_stores active held))) (ap (is_at p) e.0 ∙ l.0) ∙ none_grouped super p active held l.1 e.1

grouped : (super : Super) (p : Place) (active : ℕ) (held : Held) (a : ℕ) → PlacesDiffer held → EachStands super active held → AreAlike a (group super p (opened_stores active held)) (hist_at p held ∷ [])
grouped super p active [] a d e = alike_to_never a
grouped super p active (h ∷ held) a d e = either (same_place p h.0) refl (grouped super p active held a d.1 e.1)
  where
    either : (b : Bool) → same_place p h.0 ≡ b → AreAlike a (group super p (opened_stores active held)) (hist_at p held ∷ []) → AreAlike a (group super p (opened_stores active (h ∷ held))) (cond (same_place p h.0) h.1 (hist_at p held) ∷ [])
    either true s rest =
        let here : is_at p (stands_for super (opened_name active h.0)) ≡ true = ap (is_at p) e.0 ∙ s in
        let none : group super p (opened_stores active held) ≡ [] = none_grouped super p active held (subst (λ (r : Place). LacksPlace r held) (sym (is_same p h.0 s)) d.0) e.1 in
        rw (here, s) (subst (λ (l : List Hist). AreAlike a (h.1 ∷ l) (h.1 ∷ [])) (sym none) (alike_itself a h.1))
    either false s rest =
        let other : is_at p (stands_for super (opened_name active h.0)) ≡ false = ap (is_at p) e.0 ∙ s in
        rw (other, s) rest

pub opened_mirror : opened_stores_mirror
opened_mirror a super active held d e p = grouped super p active held a d e

-- a past told from its own mark on is the same

pub none_replayed : (mark low : ℕ) (ws : List PastWrite) (rows : Rows) → mark ≤ low → Rise low ws → replay mark ws rows ≡ rows
none_replayed mark low [] rows le r = refl
none_replayed mark low (w ∷ ws) rows le r = rw (lt-leb w.ts mark (omega (arith, r.0))) (none_replayed mark w.ts ws rows (omega (arith, r.0)) r.3)

pub all_kept : (mark low : ℕ) (ws : List PastWrite) → mark ≤ low → Rise low ws → filter (λ (w : PastWrite). nat_lt mark w.ts) ws ≡ ws
all_kept mark low [] le r = refl
all_kept mark low (w ∷ ws) le r = rw (lt-ltb mark w.ts (omega (arith, r.0))) (ap (λ l. w ∷ l) (all_kept mark w.ts ws (omega (arith, r.0)) r.3))

pub raise_itself : (past : Past) → IsPast past → raise past past.mark ≡ past
raise_itself past is =
    ap (λ (b : Rows). record { mark = past.mark; base = b; writes = filter (λ (w : PastWrite). nat_lt past.mark w.ts) past.writes }) (none_replayed past.mark past.mark past.writes past.base (omega arith) is.writes)
    ∙ ap (λ (ws : List PastWrite). record { mark = past.mark; base = past.base; writes = ws }) (all_kept past.mark past.mark past.writes (omega arith) is.writes)

module _ (rules : Rules) (fill : Row) (super : Super) (records : List Entry) (past : Past) (live : Resident) (log : IsLog records) (is : IsContent rules fill super records live.last past) where
  same_past : raise past super.a ≡ past
  same_past = ap (raise past) (sym is.mark) ∙ raise_itself past is.ends.is

  same_hist : (q : List ℕ) → SameFrom super.a (past_hist q past) (past_hist q (raise past super.a))
  same_hist q = subst (λ (p : Past). SameFrom super.a (past_hist q past) (past_hist q p)) (sym same_past) (record { rows = λ t le. refl; steps = λ t up. refl })

  key_opened : (q : List ℕ) → Mirrors super.a super (live.stores q) ((is.keys q).held) → IsOwed fill super live q ((is.keys q).held) (seen q records records) → KeyStands fill super live records q (past_hist q (raise past super.a))
  key_opened q mirrors (not_owed told) =
      let k = is.keys q in
      record {
        mark = super.a;
        low = omega arith;
        known = seen q records records;
        held = k.held;
        shows = past_hist q past;
        is = k.is;
        shown = k.shown;
        mirrors = mirrors;
        up = timeline-up_to q live.last past.writes is.ends.writes;
        stage = rests refl told (same_hist q);
      }
  key_opened q mirrors (owed front ts op targets last before up at some tells) =
      let k = is.keys q in
      let rise : OpsRise 0 (front ++ untold ts op ∷ []) = subst (OpsRise 0) last (seen_rise q records [] records log) in
      record {
        mark = super.a;
        low = omega arith;
        known = front ++ told ts op targets ∷ [];
        held = k.held;
        shows = past_hist q past;
        is = (true_names fill super 0 (at_first q super) k.held front ts op targets [] rise tells).0 (ap (played fill super (at_first q super)) (sym last) ∙ k.is);
        shown = k.shown;
        mirrors = mirrors;
        up = timeline-up_to q live.last past.writes is.ends.writes;
        stage = applied front ts op targets last refl before up up at some tells (same_hist q);
      }

pub opened_stands : an_opened_tablet_stands
opened_stands rules fill super records past live log is mirrors owes below names fresh =
    let all : records ++ [] ≡ records = append-nil records in
    let content : IsContent rules fill super records (max super.c (last_of records)) past = subst (λ n. IsContent rules fill super records n past) is.last is in
    record {
      low = live.last;
      recovered = record {
        content = subst (λ (p : Past). IsContent rules fill super records (max super.c (last_of records)) p) (sym (same_past rules fill super records past live log is)) content;
        told = tt;
        ends = is.ends;
        marked = omega (arith, is.mark);
        low_enough = let m = is.ends.mark in omega (arith, is.mark);
        passes = tt;
      };
      up = omega arith;
      below = below;
      keys = λ q. subst (λ (l : List Entry). KeyStands fill super live l q (past_hist q (raise past super.a))) (sym all) (key_opened rules fill super records past live log is q (mirrors q) (owes q));
      names = subst (λ (l : List Entry). NamesAreTrue fill super l live.named) (sym all) names;
      numbers = subst (λ (l : List Entry). NumbersAreFresh super l live.names live.numbers) (sym all) fresh;
    }

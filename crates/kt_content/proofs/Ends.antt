-- A write that ends keeps what can be recovered.
use Rattle.std.proofs.Common.{◌≡◌, ℕ, max, List, [], ◌∷◌, ◌++◌, Some, None, Option, refl, sym, ap, ◌∙◌, subst, arith, cond, true, false, Bool, append_assoc}
use Rattle.std.specs.Prelude.{◌==◌, is_some}
use Rattle.std.specs.Ordering.{eq_by_cmp}
use Rattle.std.proofs.lemmas.Bool.Decides.{nat_tests}
use Rattle.std.proofs.lemmas.List.{append-nil}
use Rattle.kt_history.specs.declared.operation.RowOp.{RowOp}
use Rattle.kt_history.specs.declared.target.Target.{Target}
use Rattle.kt_history.specs.Rows.{Row, key_cmp}
use Rattle.kt_history.specs.History.{Past, raise}
use Rattle.kt_records.specs.declared.entry.Entry.{Entry}
use Rattle.kt_records.specs.declared.entry.Entry.TheVariants.{Replicate, Commit}
use Rattle.kt_records.specs.declared.entry.CommitRow.{CommitRow}
use Rattle.kt_journal.specs.Log.{IsLog}
use Rattle.kt_histlaws.specs.Histories.{past_hist}
use Rattle.kt_history.specs.Stores.{Hist}
use Rattle.kt_loglaws.specs.Replay.{commit_of, last_of}
use Rattle.kt_loglaws.specs.Fronts.{with_records}
use Rattle.kt_loglaws.proofs.LogOrder.{Lacks, lacks_before, lacks_around, above_behind}
use Rattle.kt_content.specs.Places.{Super, Held}
use Rattle.kt_content.specs.KeyOps.{KeyOp, op_on, seen}
use Rattle.kt_content.specs.Content.{AreTold}
use Rattle.kt_content.specs.MoreOps.{untold, told}
use Rattle.kt_content.specs.Records.{RowsTell, IsTold}
use Rattle.kt_content.specs.RunEvents.{NamesAreTrue, NumbersAreFresh}
use Rattle.kt_content.specs.Recoverable.{Resident, row_names, names_of, names_in, Stage, KeyStands}
use Rattle.kt_content.specs.Recoverable.Stage.{rests, waits, applied}
use Rattle.kt_content.specs.Keeping.{ended, an_end_keeps_a_superblock}
use Rattle.kt_content.proofs.Records.{order_front, RowOf, row_of_key, sees_short, sees_long, stands_at}
use Rattle.kt_content.proofs.Recovering.{commit_recovered, all_hold}
use Rattle.kt_content.proofs.RunEvents.{names_end}
use Rattle.kt_content.proofs.FreshNumbers.{fresh_with_records}
use Rattle.kt_content.proofs.Stages.{not_told, named-without, without_true, without_below, found_true, stage_stays, key_stands_as}
use Rattle.kt_content.proofs.Keeping.{with_records-append, low_after-append}

-- the names of a key's row are those that its COMMIT has
names_on : (q : List ℕ) (ts : ℕ) (op : RowOp) (targets : List Target) (ops : List RowOp) (rows : List CommitRow) → op_on q ts ops (Some rows) ≡ told ts op targets ∷ [] → row_names q ops rows ≡ Some targets
names_on q ts op targets [] rows e = absurd (cc)
names_on q ts op targets (o ∷ ops) [] e = absurd (cc)
names_on q ts op targets (o ∷ ops) (r ∷ rows) e = either (eq_by_cmp key_cmp q o.key) e (λ f. names_on q ts op targets ops rows f)
  where
    named : List KeyOp → Option (List Target)
    named [] = None
    named (x ∷ xs) = x.told

    either : (b : Bool) → cond b (told ts o r.targets ∷ []) (op_on q ts ops (Some rows)) ≡ told ts op targets ∷ [] → (op_on q ts ops (Some rows) ≡ told ts op targets ∷ [] → row_names q ops rows ≡ Some targets)
        → cond b (Some r.targets) (row_names q ops rows) ≡ Some targets
    either true f more = ap named f
    either false f more = more f

-- what a key sees of records that lack a write is not of it
abbrev NoneAt : ℕ → List KeyOp → Type 0
NoneAt ts [] = Unit {0}
NoneAt ts (x ∷ xs) = ((x.ts == ts) ≡ false) × NoneAt ts xs

none_join : (ts : ℕ) (xs ys : List KeyOp) → NoneAt ts xs → NoneAt ts ys → NoneAt ts (xs ++ ys)
none_join ts [] ys h k = k
none_join ts (x ∷ xs) ys h k = (h.0, none_join ts xs ys h.1 k)

none_on : (q : List ℕ) (t ts : ℕ) (ops : List RowOp) (o : Option (List CommitRow)) → (t == ts) ≡ false → NoneAt ts (op_on q t ops o)
none_on q t ts [] o ne = tt
none_on q t ts (op ∷ ops) None ne = either (eq_by_cmp key_cmp q op.key) (none_on q t ts ops None ne)
  where
    either : (b : Bool) → NoneAt ts (op_on q t ops None) → NoneAt ts (cond b (untold t op ∷ []) (op_on q t ops None))
    either true rest = (ne, tt)
    either false rest = rest
none_on q t ts (op ∷ ops) (Some []) ne = tt
none_on q t ts (op ∷ ops) (Some (row ∷ rows)) ne = either (eq_by_cmp key_cmp q op.key) (none_on q t ts ops (Some rows) ne)
  where
    either : (b : Bool) → NoneAt ts (op_on q t ops (Some rows)) → NoneAt ts (cond b (told t op row.targets ∷ []) (op_on q t ops (Some rows)))
    either true rest = (ne, tt)
    either false rest = rest

none_seen : (q : List ℕ) (ts : ℕ) (all xs : List Entry) → Lacks ts xs → NoneAt ts (seen q all xs)
none_seen q ts all [] l = tt
none_seen q ts all (Replicate t ops ∷ xs) l = none_join ts (op_on q t ops (commit_of t all)) (seen q all xs) (none_on q t ts ops (commit_of t all) l.0) (none_seen q ts all xs l.1)
none_seen q ts all (Commit t rows ∷ xs) l = none_seen q ts all xs l

last_none : (ts : ℕ) (front : List KeyOp) (x : KeyOp) → NoneAt ts (front ++ x ∷ []) → (x.ts == ts) ≡ false
last_none ts [] x h = h.0
last_none ts (y ∷ front) x h = last_none ts front x h.1

-- an operation without a COMMIT is the last, where those before the last have theirs
pub record IsLast (xs : List KeyOp) (x : KeyOp) (ys front : List KeyOp) (y : KeyOp) : Type 0 where
  pub front_is : xs ≡ front
  pub none_behind : ys ≡ []
  pub same : x ≡ y

pub only_last : (xs : List KeyOp) (ts : ℕ) (op : RowOp) (ys front : List KeyOp) (y : KeyOp) → xs ++ untold ts op ∷ ys ≡ front ++ y ∷ [] → AreTold front → IsLast xs (untold ts op) ys front y
only_last [] ts op ys [] y e t = record { front_is = refl; none_behind = cc; same = cc }
only_last [] ts op ys (z ∷ front) y e t = absurd (let head : untold ts op ≡ z = cc in let f : true ≡ false = sym t.0 ∙ ap (λ (x : KeyOp). is_some x.told) (sym head) in cc)
only_last (x ∷ []) ts op ys [] y e t = absurd (cc)
only_last (x ∷ w ∷ xs) ts op ys [] y e t = absurd (cc)
only_last (x ∷ xs) ts op ys (z ∷ front) y e t =
    let rest : xs ++ untold ts op ∷ ys ≡ front ++ y ∷ [] = cc in
    let head : x ≡ z = cc in
    let more = only_last xs ts op ys front y rest t.1 in
    record { front_is = let f = more.front_is in cc; none_behind = more.none_behind; same = more.same }

all_told_more : (xs : List KeyOp) (ts : ℕ) (op : RowOp) (targets : List Target) → AreTold xs → AreTold (xs ++ told ts op targets ∷ [])
all_told_more [] ts op targets t = (refl, tt)
all_told_more (x ∷ xs) ts op targets t = (t.0, all_told_more xs ts op targets t.1)

ended_other : (live : Resident) (ts t : ℕ) (q : List ℕ) → (t == ts) ≡ false → names_of (ended ts live).named q t ≡ names_of live.named q t
ended_other live ts t q ne = ap (names_in q) (named-without ts t live.named (λ e. let f : (t == ts) ≡ true = grind (arith, nat_tests) in let g : true ≡ false = sym f ∙ ne in cc))

module _ (fill : Row) (super : Super) (live : Resident) (xs : List Entry) (ts : ℕ) (ops : List RowOp) (ys : List Entry) (rows : List CommitRow)
    (log : IsLog (xs ++ Replicate ts ops ∷ (ys ++ Commit ts rows ∷ []))) (names : (q : List ℕ) → names_of live.named q ts ≡ row_names q ops rows) where
  abbrev short : List Entry
  short = xs ++ Replicate ts ops ∷ ys

  abbrev long : List Entry
  long = xs ++ Replicate ts ops ∷ (ys ++ Commit ts rows ∷ [])

  none_there : (q : List ℕ) → op_on q ts ops None ≡ [] → NoneAt ts (seen q short short)
  none_there q none = subst (NoneAt ts) (sym (sees_short fill super xs ts ops ys rows log q ∙ ap (λ l. seen q short xs ++ (l ++ seen q short ys)) none))
      (none_join ts (seen q short xs) (seen q short ys) (none_seen q ts short xs (lacks_before [] xs ts ops (ys ++ Commit ts rows ∷ []) log))
      (none_seen q ts short ys (subst (Lacks ts) (append-nil ys) (lacks_around ts ys rows [] (above_behind [] xs ts ops (ys ++ Commit ts rows ∷ []) log)).1)))

  stage_ends : (q : List ℕ) (mark : ℕ) (held : Held) (shows whole : Hist) (known : List KeyOp) → RowOf fill super short q ts ops rows → Stage fill super mark live q held shows whole (seen q short short) known
      → Stage fill super mark (ended ts live) q held shows whole (seen q long long) known
  stage_ends q mark held shows whole known (RowOf.nothing is_none is_some) stage =
      subst (λ (l : List KeyOp). Stage fill super mark (ended ts live) q held shows whole l known)
      (sees_short fill super xs ts ops ys rows log q ∙ ap (λ l. seen q short xs ++ (l ++ seen q short ys)) (is_none ∙ sym is_some) ∙ sym (sees_long fill super xs ts ops ys rows log q))
      (stage_stays fill super mark live (ended ts live) q held shows whole (seen q short short) known (omega arith)
      (λ front t o is le. ended_other live ts t q (last_none ts front (untold t o) (subst (NoneAt ts) is (none_there q is_none)))) stage)
  stage_ends q mark held shows whole known (RowOf.one op row key is_none is_some tell) stage =
      let here : seen q short short ≡ seen q short xs ++ untold ts op ∷ seen q short ys = sees_short fill super xs ts ops ys rows log q ∙ ap (λ l. seen q short xs ++ (l ++ seen q short ys)) is_none in
      let there : seen q long long ≡ seen q short xs ++ told ts op row.targets ∷ seen q short ys = sees_long fill super xs ts ops ys rows log q ∙ ap (λ l. seen q short xs ++ (l ++ seen q short ys)) is_some in
      let name : names_of live.named q ts ≡ Some row.targets = names q ∙ names_on q ts op row.targets ops rows is_some in
      ends op row here there name stage
    where
      ends : (op : RowOp) (row : CommitRow) → seen q short short ≡ seen q short xs ++ untold ts op ∷ seen q short ys → seen q long long ≡ seen q short xs ++ told ts op row.targets ∷ seen q short ys
          → names_of live.named q ts ≡ Some row.targets → Stage fill super mark live q held shows whole (seen q short short) known → Stage fill super mark (ended ts live) q held shows whole (seen q long long) known
      ends op row here there name (rests is told e) = absurd (not_told (seen q short xs) ts op (seen q short ys) (subst AreTold here told))
      ends op row here there name (waits t o is told lt up at none under e) =
          let l = only_last (seen q short xs) ts op (seen q short ys) known (untold t o) (sym here ∙ is) told in
          absurd (let f : Some row.targets ≡ None = sym name ∙ subst (λ (x : KeyOp). names_of live.named q x.ts ≡ None) (sym l.same) none in cc)
      ends op row here there name (applied front t o targets is knows told_before lt up at some tells e) =
          let l = only_last (seen q short xs) ts op (seen q short ys) front (untold t o) (sym here ∙ is) told_before in
          let named : targets ≡ row.targets = let f : Some targets ≡ Some row.targets = sym (subst (λ (x : KeyOp). names_of live.named q x.ts ≡ Some targets) (sym l.same) some) ∙ name in cc in
          let last : told ts op row.targets ≡ told t o targets = ap (λ (x : KeyOp). told x.ts x.op row.targets) l.same ∙ ap (told t o) (sym named) in
          let long_is : seen q long long ≡ front ++ told t o targets ∷ [] =
          there ∙ ap (λ (k : List KeyOp). seen q short xs ++ told ts op row.targets ∷ k) l.none_behind ∙ ap (λ (k : List KeyOp). k ++ told ts op row.targets ∷ []) l.front_is ∙ ap (λ (x : KeyOp). front ++ x ∷ []) last in
          rests (long_is ∙ sym knows) (subst AreTold (sym long_is) (all_told_more front t o targets told_before)) e

  end_key : (q : List ℕ) (whole : Hist) → RowsTell fill super short ts ops rows → KeyStands fill super live short q whole → KeyStands fill super (ended ts live) long q whole
  end_key q whole tells k =
      key_stands_as fill super live (ended ts live) short long q whole whole k k.mirrors k.up (stage_ends q k.mark k.held k.shows whole k.known (row_of_key fill super short q ts ops rows tells) k.stage)

pub end_keeps : an_end_keeps_a_superblock
end_keeps rules fill super durable run past live ts flying log s flies stands below =
    let records = durable ++ run in
    let place : records ++ Commit ts flying.rows ∷ [] ≡ durable ++ (run ++ Commit ts flying.rows ∷ []) = append_assoc durable run (Commit ts flying.rows ∷ []) in
    let log_behind : IsLog (records ++ Commit ts flying.rows ∷ []) = subst (λ (l : List Entry). IsLog l) (sym place) log in
    let content = all_hold rules fill super durable run s.low past (order_front [] records (Commit ts flying.rows ∷ []) log_behind) s.recovered in
    let tells : RowsTell fill super records ts flying.ops flying.rows = found_true fill super records live.named ts flying s.names flies in
    let told : IsTold fill super records ts flying.rows = record { ops = flying.ops; stands = stands; tells = tells } in
    let at = stands_at ts flying.ops records stands in
    let long_is : records ++ Commit ts flying.rows ∷ [] ≡ at.0 ++ Replicate ts flying.ops ∷ (at.1 ++ Commit ts flying.rows ∷ []) = ap (λ (l : List Entry). l ++ Commit ts flying.rows ∷ []) at.2 ∙ append_assoc at.0 (Replicate ts flying.ops ∷ at.1) (Commit ts flying.rows ∷ []) in
    let before = raise (with_records fill past run) super.a in
    let same : with_records fill past (run ++ Commit ts flying.rows ∷ []) ≡ with_records fill past run = with_records-append fill past run (Commit ts flying.rows ∷ []) in
    record {
      low = s.low;
      recovered = commit_recovered rules fill super durable run s.low past ts flying.rows s.recovered told;
      up = let e = low_after-append s.low run (Commit ts flying.rows ∷ []) in let u = s.up in omega arith;
      below = without_below live.last ts live.named s.below;
      keys = λ q. subst (λ (p : Past). KeyStands fill super (ended ts live) (durable ++ (run ++ Commit ts flying.rows ∷ [])) q (past_hist q (raise p super.a))) (sym same)
          (subst (λ (l : List Entry). KeyStands fill super (ended ts live) l q (past_hist q before)) (sym long_is ∙ place)
          (end_key fill super live at.0 ts flying.ops at.1 flying.rows (subst (λ (l : List Entry). IsLog l) long_is log_behind) (λ k. ap (names_in k) flies) q (past_hist q before)
          (subst (λ (l : List Entry). RowsTell fill super l ts flying.ops flying.rows) at.2 tells) (subst (λ (l : List Entry). KeyStands fill super live l q (past_hist q before)) at.2 (s.keys q))));
      names = subst (λ (l : List Entry). NamesAreTrue fill super l (ended ts live).named) place
          (without_true fill super (records ++ Commit ts flying.rows ∷ []) live.named ts (names_end rules fill super records (max super.c (last_of records)) before ts flying.rows live.named log_behind content told s.names));
      numbers = subst (λ (l : List Entry). NumbersAreFresh super l live.names live.numbers) place (fresh_with_records super records (Commit ts flying.rows ∷ []) live.names live.numbers (below, tt) s.numbers);
    }

-- What stores have of each key passes the rules of a table.
use Rattle.std.proofs.Common.{◌≡◌, ℕ, suc, zero, Bool, true, false, cond, List, [], ◌∷◌, ◌++◌, Option, Some, None, refl, sym, subst, inl, inr}
use Rattle.std.specs.Prelude.{slice_get, ◌==◌}
use Rattle.std.specs.List.{AllByRecursion}
use Rattle.std.specs.Ordering.{eq_by_cmp}
use Rattle.kt_history.specs.declared.change.Change.{Change}
use Rattle.kt_history.specs.declared.operation.RowOp.{RowOp}
use Rattle.kt_history.specs.Operations.{effect}
use Rattle.kt_history.specs.Rows.{Row, key_cmp}
use Rattle.kt_history.specs.Stores.{Hist, Steps, Store, hist_in, push, never}
use Rattle.kt_histlaws.specs.Histories.{hists, on_nth, pushed}
use Rattle.kt_histlaws.specs.Events.{pushed_if}
use Rattle.kt_histlaws.proofs.Pending.{same_key, hists-pushed_same, hists-pushed_other}
use Rattle.kt_loglaws.specs.Fronts.{ops_of}
use Rattle.kt_records.specs.declared.entry.Entry.{Entry}
use Rattle.kt_records.specs.declared.entry.Entry.TheVariants.{Replicate, Commit}
use Rattle.kt_content.specs.Content.{EachPasses}
use Rattle.kt_content.specs.Places.{Held, held_in}
use Rattle.kt_content.specs.Rules.{Rules, ChangePasses, EffectPasses, OpPasses, OpsPass, RecordsPass, StepsPass, HistPasses}
use Rattle.kt_tablet.specs.Views.{AreVacant}
use Rattle.kt_engine.specs.Logged.{StoresPass}

abbrev pub EachHist : Rules → List ℕ → List Hist → Type 0
EachHist rules q hs = AllByRecursion (λ (h : Hist). HistPasses rules q h) hs

-- a key of which nothing is there
pub never_passes : (rules : Rules) (q : List ℕ) → HistPasses rules q never
never_passes rules q = record { key = inl refl; first = tt; steps = tt }

-- ---- a change more

steps_more : (rules : Rules) (steps : Steps) (ts : ℕ) (c : Change) → StepsPass rules steps → ChangePasses rules c → StepsPass rules (steps ++ (ts, c) ∷ [])
steps_more rules [] ts c p h = (h, tt)
steps_more rules (s ∷ steps) ts c p h = (p.0, steps_more rules steps ts c p.1 h)

pub push_passes : (rules : Rules) (q : List ℕ) (ts : ℕ) (c : Change) (h : Hist) → rules.key q ≡ true → ChangePasses rules c → HistPasses rules q h → HistPasses rules q (push ts c h)
push_passes rules q ts c h key change p = record { key = inr key; first = p.first; steps = steps_more rules h.steps ts c p.steps change }

on_nth_passes : (rules : Rules) (q : List ℕ) (ts : ℕ) (c : Change) (i : ℕ) (hs : List Hist) → rules.key q ≡ true → ChangePasses rules c → EachHist rules q hs → EachHist rules q (on_nth i (push ts c) hs)
on_nth_passes rules q ts c i [] key change each = tt
on_nth_passes rules q ts c zero (h ∷ hs) key change each = (push_passes rules q ts c h key change each.0, each.1)
on_nth_passes rules q ts c (suc i) (h ∷ hs) key change each = (each.0, on_nth_passes rules q ts c i hs key change each.1)

pushed_passes : (rules : Rules) (key : List ℕ) (ts : ℕ) (c : Change) (i : ℕ) (stores : List Store) → rules.key key ≡ true → ChangePasses rules c → StoresPass rules stores → StoresPass rules (pushed i key ts c stores)
pushed_passes rules key ts c i stores good change all q = elim (eq_by_cmp key_cmp q key) as (λ (b : Bool). eq_by_cmp key_cmp q key ≡ b → EachHist rules q (hists q (pushed i key ts c stores))) [
  | true ↦ λ e. subst (λ (k : List ℕ). EachHist rules k (hists k (pushed i key ts c stores))) (sym (same_key q key e))
      (subst (EachHist rules key) (sym (hists-pushed_same i key ts c stores)) (on_nth_passes rules key ts c i (hists key stores) good change (all key)))
  | false ↦ λ e. subst (EachHist rules q) (sym (hists-pushed_other i q key ts c stores e)) (all q)
] refl

-- the change of an operation that passes, if it makes one
pub op_passes : (rules : Rules) (fill : Row) (op : RowOp) (ts i : ℕ) (at : Option Row) (stores : List Store) → OpPasses rules fill op → StoresPass rules stores → StoresPass rules (pushed_if i op.key ts (effect fill op.kind op.cells at).0 stores)
op_passes rules fill op ts i at stores op_is all = by (effect fill op.kind op.cells at).0 (op_is.1 at)
  where
    by : (o : Option Change) → EffectPasses rules o → StoresPass rules (pushed_if i op.key ts o stores)
    by None p = all
    by (Some c) p = pushed_passes rules op.key ts c i stores op_is.0 p all

-- ---- the operations of a log

pub ops_pass : (rules : Rules) (fill : Row) (records : List Entry) (ts : ℕ) (ops : List RowOp) → RecordsPass rules fill records → ops_of ts records ≡ Some ops → OpsPass rules fill ops
ops_pass rules fill [] ts ops p e = absurd (let f : None ≡ Some ops = e in cc)
ops_pass rules fill (Replicate t os ∷ records) ts ops p e = elim (t == ts) as (λ (b : Bool). cond b (Some os) (ops_of ts records) ≡ Some ops → OpsPass rules fill ops) [
  | true ↦ λ e. let is : os ≡ ops = cc in subst (OpsPass rules fill) is p.0
  | false ↦ λ e. ops_pass rules fill records ts ops p.1 e
] e
ops_pass rules fill (Commit t rows ∷ records) ts ops p e = ops_pass rules fill records ts ops p e

pub op_among : (rules : Rules) (fill : Row) (ops : List RowOp) (at : ℕ) (op : RowOp) → OpsPass rules fill ops → slice_get ops at ≡ Some op → OpPasses rules fill op
op_among rules fill [] at op p e = absurd (let f : None ≡ Some op = e in cc)
op_among rules fill (x ∷ ops) zero op p e = let is : x ≡ op = cc in subst (OpPasses rules fill) is p.0
op_among rules fill (x ∷ ops) (suc at) op p e = op_among rules fill ops at op p.1 e

-- ---- some stores of several

pub both_pass : (rules : Rules) (q : List ℕ) (hs gs : List Hist) → EachHist rules q hs → EachHist rules q gs → EachHist rules q (hs ++ gs)
both_pass rules q [] gs p r = r
both_pass rules q (h ∷ hs) gs p r = (p.0, both_pass rules q hs gs p.1 r)

pub behind_passes : (rules : Rules) (q : List ℕ) (hs gs : List Hist) → EachHist rules q (hs ++ gs) → EachHist rules q gs
behind_passes rules q [] gs p = p
behind_passes rules q (h ∷ hs) gs p = behind_passes rules q hs gs p.1

-- what is held in places
pub held_passes : (rules : Rules) (q : List ℕ) (held : Held) → EachPasses rules q held → EachHist rules q (held_in held)
held_passes rules q [] p = tt
held_passes rules q (h ∷ held) p = (p.0, held_passes rules q held p.1)

-- where no store has a row
pub vacant_passes : (rules : Rules) (stores : List Store) → AreVacant stores → StoresPass rules stores
vacant_passes rules [] v q = tt
vacant_passes rules (s ∷ stores) v q = (subst (λ (x : Store). HistPasses rules q (hist_in q x)) (sym v.0) (never_passes rules q), vacant_passes rules stores v.1 q)

-- The superblock of a job: without what the job takes, and with its outputs.
use Rattle.std.proofs.Common.{◌≡◌, ◌≢◌, ◌<◌, ◌+◌, ℕ, Bool, true, false, cond, List, [], ◌∷◌, ◌++◌, length, take, get_or, Some, Option, refl, sym, ap, ◌∙◌, append_assoc}
use Rattle.std.specs.Prelude.{◌==◌, not}
use Rattle.std.specs.List.{list_any}
use Rattle.std.proofs.lemmas.List.{append-nil, take_more}
use Rattle.std.proofs.lemmas.List.Elements.{filter-append}
use Rattle.kt_super.specs.declared.meta.Meta.{Meta}
use Rattle.kt_super.specs.declared.meta.MetaRowset.{MetaRowset}
use Rattle.kt_pick.specs.declared.rules.Want.{Want}
use Rattle.kt_engine.specs.declared.upkeep.Job.{Job}
use Rattle.kt_engine.specs.Jobs.{JobView, takes_by}
use Rattle.kt_engine.specs.JobMeta.{left_metas, metas_left, last_by, with_takes}
use Rattle.kt_engine.specs.Upkeeps.{job_in}

-- where none is taken all are left
pub none_left : (named : List MetaRowset) → left_metas [] named ≡ named
none_left [] = refl
none_left (m ∷ named) = ap (λ (l : List MetaRowset). m ∷ l) (none_left named)

pub left_by : (taken : List ℕ) (last : ℕ) (named : List MetaRowset) → metas_left (takes_by taken last) named ≡ left_metas taken named
left_by [] last named = sym (none_left named)
left_by (r ∷ taken) last named = refl

pub last_flushed : (taken : List ℕ) (last was : ℕ) → taken ≡ [] → last_by (takes_by taken last) was ≡ last
last_flushed taken last was none = ap (λ (l : List ℕ). last_by (takes_by l last) was) none

pub last_stays : (taken : List ℕ) (last was : ℕ) → taken ≢ [] → last_by (takes_by taken last) was ≡ was
last_stays [] last was some = absurd (some refl)
last_stays (r ∷ taken) last was some = refl

-- one more is copied, or left out
abbrev kept : List ℕ → MetaRowset → Bool
kept taken m = not (list_any (λ (s : ℕ). s == m.rowset) taken)

one_more : (taken : List ℕ) (named : List MetaRowset) (k : ℕ) (x : MetaRowset) → k < length named → x ≡ get_or named k x → left_metas taken (take (k + 1) named) ≡ left_metas taken (take k named) ++ cond (kept taken x) (x ∷ []) []
one_more taken named k x lt is = ap (left_metas taken) (take_more named k x lt ∙ ap (λ (m : MetaRowset). take k named ++ m ∷ []) (sym is)) ∙ filter-append (kept taken) (take k named) (x ∷ [])

pub left_out : (taken : List ℕ) (named out was : List MetaRowset) (k : ℕ) (x : MetaRowset) → k < length named → x ≡ get_or named k x → list_any (λ (s : ℕ). s == x.rowset) taken ≡ true → out ≡ was ++ left_metas taken (take k named) → out ≡ was ++ left_metas taken (take (k + 1) named)
left_out taken named out was k x lt is gone so =
    so ∙ ap (λ (l : List MetaRowset). was ++ l) (sym (one_more taken named k x lt is ∙ ap (λ (b : Bool). left_metas taken (take k named) ++ cond (not b) (x ∷ []) []) gone ∙ append-nil (left_metas taken (take k named))))

pub copied : (taken : List ℕ) (named out now was : List MetaRowset) (k : ℕ) (x : MetaRowset) → k < length named → x ≡ get_or named k x → list_any (λ (s : ℕ). s == x.rowset) taken ≡ false → out ≡ was ++ left_metas taken (take k named) → now ≡ out ++ x ∷ [] → now ≡ was ++ left_metas taken (take (k + 1) named)
copied taken named out now was k x lt is stays so push =
    push ∙ ap (λ (l : List MetaRowset). l ++ x ∷ []) so ∙ append_assoc was (left_metas taken (take k named)) (x ∷ [])
    ∙ ap (λ (l : List MetaRowset). was ++ l) (sym (one_more taken named k x lt is ∙ ap (λ (b : Bool). left_metas taken (take k named) ++ cond (not b) (x ∷ []) []) stays))

-- the job of a pass is the one that was found
pub same_job : (w : Want) (found : Job) (job : JobView) (o : Option JobView) → o ≡ Some (job_in w found) → o ≡ Some job → job_in w found ≡ job
same_job w found job o was is = let one : Some (job_in w found) ≡ Some job = sym was ∙ is in cc

-- its superblock
pub made_with : (next meta : Meta) (taken : List ℕ) (last now : ℕ) (metas one both : List MetaRowset) → now ≡ last_by (takes_by taken last) next.last_mem → one ≡ left_metas taken next.rowsets → both ≡ one ++ left_metas [] metas → meta ≡ record next { last_mem = now; rowsets = both }
    → meta ≡ with_takes (takes_by taken last) metas next
made_with next meta taken last now metas one both last_is front all is =
    is ∙ ap (λ (n : ℕ). record next { last_mem = n; rowsets = both }) last_is
    ∙ ap (λ (rs : List MetaRowset). record next { last_mem = last_by (takes_by taken last) next.last_mem; rowsets = rs }) (all ∙ ap (λ (l : List MetaRowset). l ++ left_metas [] metas) (front ∙ sym (left_by taken last next.rowsets)) ∙ ap (λ (l : List MetaRowset). metas_left (takes_by taken last) next.rowsets ++ l) (none_left metas))

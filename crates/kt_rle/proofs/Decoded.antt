-- What a decoder reads is what was spelled.
use Rattle.std.proofs.Common.{◌≡◌, ℕ, ◌+◌, ◌-◌, ◌*◌, ◌^◌, ◌<◌, ◌≤◌, List, [], ◌∷◌, ◌++◌, length, drop, ℤ, Option, Some, None, Err, refl, sym, ap, ◌∙◌, subst, arith}
use Rattle.std.specs.List.{flat_map}
use Rattle.std.proofs.lemmas.List.{take_all}
use Rattle.kt_bytes.proofs.Numbers.{IsBytes}
use Rattle.kt_plain.specs.declared.widths.NumberWidth.{NumberWidth as Width}
use Rattle.kt_plain.specs.Widths.{IsInWidth}
use Rattle.kt_rle.specs.declared.runs.Run.{Run}
use Rattle.kt_rle.specs.declared.runs.Held.{Held}
use Rattle.kt_rle.specs.Runs.{expand, run_bytes, run_len, AreRuns, run_at, runs_in}
use Rattle.kt_rle.specs.Held.{runs_of, end_of, Rise, numbers_of}
use Rattle.kt_rle.specs.Reading.{IsNumber, MayFollow, AreRead}
use Rattle.kt_rle.specs.Spelling.{Spells, SpellsOne, IsTold}
use Rattle.kt_rle.proofs.RunLists.{total, length-expanded, total-append, runs_in-more, spelled-runs_in, in_width, LastIs, LastIs-push, differs_from_last, AreRuns-push, differ, one_runs}
use Rattle.kt_rle.proofs.Held.{total_of, runs_of-push, end_of-push, Rise-push}
use Rattle.kt_bytes.specs.declared.fault.CodecNo.{CodecNo}
use Rattle.kt_bytes.specs.declared.fault.CodecNo.TheVariants.{Place, Memory}
use Rattle.kt_bytes.specs.Reading.{IfPlace, IsOrMemory}
use Rattle.kt_rle.specs.declared.items.Items.{Items}
use Rattle.kt_rle.proofs.FirstFault.{HasRead, none_spelled}

-- ---- run by run

-- the runs that are held are those in the first fields
pub record HoldsRead (w : Width) (n : ℕ) (bytes : List ℕ) (i end : ℕ) (last : Option ℤ) (hs : List Held) : Type 0 where
  pub read : HasRead w n bytes i (n - end) last
  pub rise : Rise 0 hs
  pub same : runs_of 0 hs ≡ runs_in w i bytes
  pub ends : end_of 0 hs ≡ end
  pub within : end ≤ n

pub holds_none : (w : Width) (n : ℕ) (bytes : List ℕ) → n < 2 ^ 32 → HoldsRead w n bytes 0 0 None []
holds_none w n bytes few = record { read = record { are = tt; sum = omega arith; few = few; last_is = tt }; rise = tt; same = refl; ends = refl; within = omega arith }

pub holds_more : (w : Width) (n : ℕ) (bytes : List ℕ) (i end : ℕ) (last : Option ℤ) (hs : List Held) (r : Run) → HoldsRead w n bytes i end last hs
    → r ≡ run_at w (drop (run_len w * i) bytes) → MayFollow w (n - end) last r → HoldsRead w n bytes (i + 1) (end + r.len) (Some r.value) (hs ++ (record { end = end + r.len; value = r.value }) ∷ [])
holds_more w n bytes i end last hs r h is may =
    let rest : List ℕ = drop (run_len w * i) bytes in
    let more : runs_in w (i + 1) bytes ≡ runs_in w i bytes ++ r ∷ [] = runs_in-more w i bytes ∙ ap (λ (x : Run). runs_in w i bytes ++ x ∷ []) (sym is) in
    let ends = h.ends in
    let within = h.within in
    let sum = h.read.sum in
    let few = may.few in
    let some = may.some in
    let fits = subst (λ (x : Run). IsInWidth w x.value) (sym is) (in_width w (drop 4 rest) (subst (λ (x : Run). IsNumber w x.value) is may.number)) in
    let len : end + r.len - end_of 0 hs ≡ r.len = omega arith in
    record {
      read = record {
        are = subst (AreRuns w) (sym more) (AreRuns-push w (runs_in w i bytes) r h.read.are some fits (differs_from_last (runs_in w i bytes) last r.value h.read.last_is may.differs));
        sum = ap (λ (rs : List Run). total rs + (n - (end + r.len))) more ∙ omega (arith, total-append (runs_in w i bytes) (r ∷ []));
        few = h.read.few;
        last_is = subst (λ (rs : List Run). LastIs rs (Some r.value)) (sym more) (LastIs-push (runs_in w i bytes) r);
      };
      rise = Rise-push 0 hs (record { end = end + r.len; value = r.value }) h.rise (omega arith);
      same = runs_of-push 0 hs (record { end = end + r.len; value = r.value }) ∙ ap (λ (rs : List Run). rs ++ (record { len = end + r.len - end_of 0 hs; value = r.value }) ∷ []) h.same
          ∙ ap (λ (k : ℕ). runs_in w i bytes ++ (record { len = k; value = r.value }) ∷ []) len ∙ sym more;
      ends = end_of-push 0 hs (record { end = end + r.len; value = r.value });
      within = omega arith;
    }

-- all items are read, and no byte is left
pub holds_all : (w : Width) (n : ℕ) (bytes : List ℕ) (i end : ℕ) (last : Option ℤ) (hs : List Held) → HoldsRead w n bytes i end last hs → IsBytes bytes → n ≤ end → run_len w * i ≡ length bytes → AreRead w n bytes hs
holds_all w n bytes i end last hs h fits all len =
    let ends = h.ends in
    let within = h.within in
    record {
      held = record { rise = h.rise; differ = differ w (runs_of 0 hs) (subst (AreRuns w) (sym h.same) h.read.are) };
      are = subst (AreRuns w) (sym h.same) h.read.are;
      counted = omega arith;
      spelled = sym (ap (flat_map (run_bytes w)) h.same ∙ spelled-runs_in w i bytes (omega arith) fits ∙ take_all (run_len w * i) bytes (omega arith));
    }

-- ---- what is read is spelled so, and nothing else is

pub read_spells : (w : Width) (n : ℕ) (bytes : List ℕ) (hs : List Held) → n < 2 ^ 32 → AreRead w n bytes hs → Spells w n (numbers_of hs) bytes
read_spells w n bytes hs few r =
    let sum = total_of 0 hs r.held.rise in
    let counted = r.counted in
    record {
      runs = runs_of 0 hs;
      are = r.are;
      expanded = refl;
      counted = length-expanded (runs_of 0 hs) ∙ omega arith;
      few = few;
      spelled = r.spelled;
    }

sum_of : (w : Width) (n : ℕ) (items : List ℤ) (bytes : List ℕ) → (s : Spells w n items bytes) → total s.runs ≡ n
sum_of w n items bytes s = sym (length-expanded s.runs) ∙ ap (λ (xs : List ℤ). length xs) (sym s.expanded) ∙ s.counted

-- bytes spell one list of items at most
pub spells_one : SpellsOne
spells_one w n bytes a b s t =
    let few = s.few in
    let same : s.runs ≡ t.runs = one_runs w s.runs t.runs s.are t.are (omega (arith, sum_of w n a bytes s)) (omega (arith, sum_of w n b bytes t)) (sym s.spelled ∙ t.spelled) in
    s.expanded ∙ ap (flat_map expand) same ∙ sym t.expanded

-- bytes that are refused spell no items
pub only_refused : (w : Width) (n : ℕ) (bytes : List ℕ) (no : CodecNo) → IfPlace {X = Items} (Err no) (IsTold w n bytes) → (items : List ℤ) → Spells w n items bytes → IsOrMemory {X = Items} (Err no) items
only_refused w n bytes (Place offset) f items s = absurd (none_spelled w n bytes f.at f.fault items s)
only_refused w n bytes Memory f items s = tt

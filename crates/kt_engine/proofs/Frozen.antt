-- A freeze: an empty MemRowSet of the next number takes inserts, and stands in front of the others.
use Rattle.std.proofs.Common.{ℕ, ◌<◌, ◌^◌, List, [], ◌∷◌, ◌++◌, map, refl, arith}
use Rattle.std.specs.Prelude.{max}
use Rattle.std.proofs.lemmas.Bool.{ne_eqb}
use Rattle.kt_history.specs.declared.target.Target.{Target}
use Rattle.kt_history.specs.declared.target.Target.TheVariants.{Mem, Delta}
use Rattle.kt_records.specs.declared.entry.Entry.{Entry}
use Rattle.kt_records.specs.declared.entry.CommitRow.{CommitRow}
use Rattle.kt_loglaws.specs.Fronts.{with_records}
use Rattle.kt_histlaws.specs.Core.{Core}
use Rattle.kt_histlaws.specs.Histories.{hists}
use Rattle.kt_content.specs.Places.{Super}
use Rattle.kt_content.specs.Rules.{Rules}
use Rattle.kt_content.specs.InMemory.{mem_rows}
use Rattle.kt_content.specs.RunEvents.{Numbers, StoresBelow}
use Rattle.kt_content.proofs.StoresCome.{freeze_keeps}
use Rattle.kt_engine.specs.Memory.{name_of, by_name, resident, IsNamed, AreNamed, LacksName}
use Rattle.kt_engine.specs.Logged.{KeepsSince}
use Rattle.kt_engine.proofs.Lists.{all_cons}
use Rattle.kt_engine.proofs.Passed.{never_passes}
use Rattle.kt_engine.proofs.Rising.{records_rise, names_rise, rowsets_rise}

-- no store has a name above all of them
lacks_next : (numbers : Numbers) (n : ℕ) (names : List Target) → numbers.active < n → StoresBelow numbers (map name_of names) → LacksName (mem_rows n) names
lacks_next numbers n [] up below = tt
lacks_next numbers n (Mem m ∷ names) up below = (ne_eqb m n (λ e. let low = below.0 in omega arith), lacks_next numbers n names up below.1)
lacks_next numbers n (Delta r m ∷ names) up below = (refl, lacks_next numbers n names up below.1)

-- the names with the one of the next number
pub names_frozen : (super : Super) (numbers : Numbers) (n : ℕ) (names : List Target) → super.last_mem < n → n < 2 ^ 64 → numbers.active < n → StoresBelow numbers (map name_of names) → AreNamed super names → AreNamed super (Mem n ∷ names)
names_frozen super numbers n names later fits up below k = record {
  each = all_cons (IsNamed super) (Mem n) names (later, fits) k.each;
  first = tt;
  differ = (lacks_next numbers n names up below, k.differ);
}

pub frozen_since : (rules : Rules) (core : Core) (super : Super) (names : List Target) (notes : List (List CommitRow)) (records run : List Entry) (durable n : ℕ) → AreNamed super (Mem n ∷ names) → KeepsSince rules core super names notes records run durable
    → KeepsSince rules (record core { stores = [] ∷ core.stores }) super (Mem n ∷ names) notes records run durable
frozen_since rules core super names notes records run durable n named k =
    let fill = core.work.fill in
    let was = k.keeps.numbers in
    let now : Numbers = record was { active = max was.active n } in
    let live = resident core names notes was in
    let fresh = k.keeps.stands.numbers in
    let base = records ++ k.since in
    record {
      since = k.since;
      rest = k.rest;
      parts = k.parts;
      made = k.made;
      opened = k.opened;
      low = k.low;
      from = k.from;
      up = k.up;
      last = k.last;
      mark = k.mark;
      clock = k.clock;
      named = named;
      deltas = k.deltas;
      passes = λ q. (never_passes rules q, k.passes q);
      keeps = record {
        recovered = k.keeps.recovered;
        writes = k.keeps.writes;
        numbers = now;
        stands = freeze_keeps rules fill super base k.rest (with_records fill core.first k.since) live (λ q. by_name (Mem n ∷ names) (hists q ([] ∷ core.stores))) (map name_of (Mem n ∷ names)) now (mem_rows n) k.keeps.stands
            (λ q. record { front = []; behind = by_name names (hists q core.stores); before = refl; after = refl })
            (record {
              rowsets = rowsets_rise was now super.rowsets (omega arith) fresh.rowsets;
              records_below = records_rise was now (base ++ k.rest) (omega arith) (omega arith) fresh.records_below;
              stores = (omega arith, names_rise was now (map name_of names) (omega arith) (omega arith) fresh.stores);
              mem = let low = fresh.mem in omega arith;
              deltas = fresh.deltas;
            });
      };
    }

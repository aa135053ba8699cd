-- What the fields of a pass's maintenance mean.
use Rattle.std.specs.Prelude.{◌≡◌, ◌≢◌, ◌⊎◌, ℕ, List, [], ◌∷◌, map, Option}
use Rattle.std.specs.Option.{option_map}
use Rattle.std.specs.declared.snapshot.Snapshot.{Snapshot}
use Rattle.kt_pick.specs.declared.rules.Want.{Want}
use Rattle.kt_diskrowset.specs.Rowset.{held_of}
use Rattle.kt_engine.specs.declared.upkeep.Job.{Job}
use Rattle.kt_engine.specs.declared.upkeep.Last.{Last as LastStep}
use Rattle.kt_engine.specs.declared.upkeep.Last.TheVariants as step
use Rattle.kt_engine.specs.declared.upkeep.Upkeep.{Upkeep}
use Rattle.kt_engine.specs.Jobs.{JobView, Last, none, nothing, begun, finished, abandoned, UpkeepView}

-- what a snapshot keeps, if there is one
abbrev pub kept_in : {A : Type 0} → Option (Snapshot A) → Option A
kept_in {A} kept = option_map (λ (s : Snapshot A). s.value) kept

-- a job of this want
abbrev pub job_in : Want → Job → JobView
job_in w j = record {
  number = j.number;
  want = w;
  stage = j.stage;
  bound = j.bound;
  mark = j.mark;
  taken = j.taken;
  last_mem = j.last_mem;
  many = j.many;
  first_rowset = j.first_rowset;
  first_file = j.first_file;
  inputs = kept_in j.inputs;
  metas = j.outputs.metas;
  held = map held_of j.outputs.rowsets;
  room = j.outputs.room;
  super = j.superblock;
  rowset = j.rowset;
  dms = j.dms;
  read = kept_in j.read;
  returned = kept_in j.returned;
  frozen = j.frozen;
  again = kept_in j.again;
  output = j.output;
}

-- how the last ask ended, by what was asked
abbrev pub last_of : LastStep → Want → Last
last_of step.None w = none
last_of step.Nothing w = nothing w
last_of step.Begun w = begun w
last_of step.Finished w = finished w
last_of step.Abandoned w = abandoned w

abbrev pub upkeep_of : Upkeep → ℕ × UpkeepView
upkeep_of u = (u.pass, record { asks = u.asks; last = last_of u.last u.want; round = u.round; rounds = u.rounds; todo = u.todo.items; job = option_map (job_in u.want) u.job; done = option_map (job_in u.done_want.value) u.done.value })

-- none is of this pass
abbrev pub Lacks : ℕ → List Upkeep → Type 0
Lacks n [] = Unit {0}
Lacks n (u ∷ us) = (u.pass ≢ n) × Lacks n us

-- no two are of one pass
abbrev pub AreApart : List Upkeep → Type 0
AreApart [] = Unit {0}
AreApart (u ∷ us) = Lacks u.pass us × AreApart us

-- a pass asked before
abbrev pub IsThere : ℕ → List (ℕ × UpkeepView) → Type 0
IsThere n [] = ⊥
IsThere n (u ∷ us) = (u.0 ≡ n) ⊎ IsThere n us

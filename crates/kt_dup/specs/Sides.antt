-- What a change does to one of two stores.
use Rattle.std.specs.Prelude.{◌≡◌, ◌↔◌, ℕ, Bool, List}
use Rattle.std.specs.FinMap.Entries.{put}
use Rattle.kt_history.specs.declared.change.Change.{Change}
use Rattle.kt_history.specs.declared.target.Target.{Target}
use Rattle.kt_history.specs.Rows.{key_cmp}
use Rattle.kt_history.specs.Stores.{Store, push, hist_in}
use Rattle.kt_pool.specs.Contents.{Contents}

-- a store has this change more, told under its own name, and all else that it has is as before
pub record HasOneMore {X : Type 0} (stands : X → Contents → Type 0) (store : X → Contents → Store) (target : X → Target) (is_closed : X → Bool)
    (x y : X) (old new : Contents) (q : List ℕ) (ts : ℕ) (c : Change) (told : Target) : Type 0 where
  pub here : stands y new
  pub has : store y new ≡ put key_cmp q (push ts c (hist_in q (store x old))) (store x old)
  pub told_is : told ≡ target x
  pub name : target y ≡ target x
  pub closed : is_closed y ≡ is_closed x

-- a store stands as before, with the same rows in the same cells
pub record StaysBeside {X : Type 0} (stands : X → Contents → Type 0) (store : X → Contents → Store) (cells : X → Contents → ℕ) (owns : X → Contents → ℕ → Type 0)
    (x : X) (old new : Contents) : Type 0 where
  pub here : stands x new
  pub same : store x new ≡ store x old
  pub cells_are : cells x new ≡ cells x old
  pub owned : (k : ℕ) → owns x new k ↔ owns x old k

-- The refusals that are still to come, one call by its number and the calls of a plan: this project's own choice.
use Rattle.std.specs.Prelude.{ℕ, ◌-◌, ◌==◌, if◌then◌else◌, Option, Some, None}
use Rattle.std.specs.Option.{option_map, option_or}
use Rattle.dav_key.specs.Key.{Key}
use Rattle.dav_resource.specs.declared.record.Op.{Op}
use Rattle.dav_resource.specs.declared.error.FsError.{FsError}
use Rattle.dav_refusing.specs.Plans.{Plan, refusal_for, without_first}
use Rattle.dav_refusing.specs.Slots.{plan_in}
use Rattle.dav_refusing.specs.declared.refusing.pending.NumberedRefusal.{NumberedRefusal}
use Rattle.dav_refusing.specs.declared.refusing.pending.Pending as code

-- a call to be refused by its number: how many calls come before it, and its error
pub record Numbered : Type 0 where
  pub before : ℕ
  pub error : FsError

-- the refusals that are still to come: at most one call by its number, and the calls of a plan
pub record Pending : Type 0 where
  pub numbered : Option Numbered
  pub plan : Plan

-- the error of the numbered call, if the next call is that one
abbrev pub error_now : Option Numbered → Option FsError
error_now None = None
error_now (Some n) = if n.before == 0 then Some n.error else None

-- the numbered call after one more call; none if that call was the one
abbrev pub one_later : Option Numbered → Option Numbered
one_later None = None
one_later (Some n) = if n.before == 0 then None else Some (record { before = n.before - 1; error = n.error })

-- the error with which a call is to be refused, if any: by its number, or else by the plan
abbrev pub due : Op → Key → Pending → Option FsError
due op key pending = option_or (error_now pending.numbered) (refusal_for op key pending.plan)

-- the plan after a call; a call that is refused by its number uses up none of it
abbrev pub plan_after : Option FsError → Op → Key → Plan → Plan
plan_after None op key plan = without_first op key plan
plan_after (Some e) op key plan = plan

-- the refusals that are still to come after a call
abbrev pub after_call : Op → Key → Pending → Pending
after_call op key pending = record { numbered = one_later pending.numbered; plan = plan_after (error_now pending.numbered) op key pending.plan }

-- the refusals that are still to come after a call that is not refused
abbrev pub passed_by : Pending → Pending
passed_by pending = record { numbered = one_later pending.numbered; plan = pending.plan }

-- ---- as the code stores it

abbrev pub numbered_of : NumberedRefusal → Numbered
numbered_of n = record { before = n.before; error = n.error }

abbrev pub pending_of : code.Pending → Pending
pending_of pending = record { numbered = option_map numbered_of pending.numbered; plan = plan_in pending.plan.queues }

-- A plan of refusals as the code stores it: this project's own choice.
use Rattle.std.specs.Prelude.{◌≢◌, List, [], map, Option, Some, None}
use Rattle.std.specs.declared.collections.VecDeque.{VecDeque}
use Rattle.std.specs.declared.alloc.Global.{Global}
use Rattle.std.specs.declared.cmp.Ordering.{Ordering}
use Rattle.std.specs.Option.{option_map}
use Rattle.std.specs.Ordering.{nat_cmp, on, then_cmp}
use Rattle.std.specs.Cmp.{IsTotalOrder, nat_cmp_total, on_total, then_total}
use Rattle.std.specs.BTreeMap.{BTreeMap, get}
use Rattle.dav_key.specs.Key.{Key, key_cmp, key_cmp_total}
use Rattle.dav_resource.specs.PathText.{PathValue}
use Rattle.dav_resource.specs.PathForms.{root_path}
use Rattle.dav_resource.specs.declared.record.Op.{Op}
use Rattle.dav_resource.specs.declared.error.FsError.{FsError}
use Rattle.dav_refusing.specs.Plans.{Plan, Call, place_of_op}
use Rattle.dav_refusing.specs.declared.refusing.slot.Slot.{Slot}
use Rattle.dav_refusing.specs.declared.refusing.own_error.OwnError.{OwnError}

-- the key of a path; without a path, that of the root
abbrev pub path_key : Option PathValue → Key
path_key None = []
path_key (Some path) = path.key

abbrev pub slot_key : Slot → Key
slot_key slot = path_key slot.path

abbrev pub slot_call : Slot → Call
slot_call slot = (slot.op, slot_key slot)

-- ordered by the kind of call, and then by the key
abbrev pub slot_cmp : Slot → Slot → Ordering
slot_cmp = then_cmp (on (λ (s : Slot). place_of_op s.op) nat_cmp) (on slot_key key_cmp)

pub slot_cmp_total : IsTotalOrder slot_cmp
slot_cmp_total = then_total (on_total (λ (s : Slot). place_of_op s.op) nat_cmp_total) (on_total slot_key key_cmp_total)

-- the slot of the calls of one kind on one key
abbrev pub slot_at : Op → Key → Slot
slot_at op key = record { op = op; path = Some (record root_path { key = key }) }

abbrev pub Queue : Type 0
Queue = VecDeque OwnError Global

abbrev pub errors_of : List OwnError → List FsError
errors_of errors = map (λ (e : OwnError). e.error) errors

-- the errors of a queue; none if there is no queue
abbrev pub errors_in : Option Queue → List FsError
errors_in None = []
errors_in (Some queue) = errors_of queue.items

abbrev pub plan_in : BTreeMap Slot Queue → Plan
plan_in queues op key = errors_in (get slot_cmp queues (slot_at op key))

-- if there is a queue, it has an error
abbrev pub HasErrors : Option Queue → Type 0
HasErrors o = option_map (λ (queue : Queue). queue.items) o ≢ Some []

-- no slot has a queue without errors
abbrev pub HasNoEmptyQueue : BTreeMap Slot Queue → Type 0
HasNoEmptyQueue queues = (slot : Slot) → HasErrors (get slot_cmp queues slot)

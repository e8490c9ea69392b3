-- Where directories are marked: the room for the marks, and the numbers of the directories.
use Rattle.std.proofs.Common.{◌≡◌, ◌≢◌, ◌∙◌, ℕ, ◌+◌, ◌^◌, ◌≤◌, Bool, true, false, cond, not, ◌||◌, ltb, ◌==◌, if◌then◌else◌, [], Option, Some, None, Result, Ok, Err, refl, sym, ap, arith, is_some}
use Rattle.std.proofs.lemmas.List.{append-nil}
use borrow.Author.Tests.{ltb-true, lt-ltb}
use Rattle.std.specs.Ordering.{eq_by_cmp}
use Rattle.std.specs.FinMap.{FinMap, get, insert, remove, get-insert, get-remove}
use Rattle.dav_key.specs.Key.{Key, key_cmp, key_cmp_total, parent, tied_decides}
use Rattle.dav_key.specs.Below.{IsMoved, is_at_or_below}
use Rattle.dav_resource.specs.declared.error.FsError.{FsError}
use Rattle.dav_resource.specs.declared.error.FsError.TheVariants as errors
use Rattle.dav_store.specs.BelowLaws.{at_or_below-append}
use Rattle.dav_tree.specs.Memory.{Stored, Resources, Memory, IsSound, touched, change_at, with_mark, marked}
use Rattle.dav_tree.specs.MemoryCalls.{change_error, has_room, mark_error, member_error, IsNextVersion, IsMemberVersion, IsCopyVersion}
use Rattle.dav_tree.specs.MarkingLaws.{marked-marks, either_marked}
use Rattle.dav_tree.proofs.Sound.{sound-beside, lower, shorter_outside}

-- ---- room

free_room : (room : Bool) → (if room then None else Some errors.GeneralFailure) ≡ None → room ≡ true
free_room true e = refl
free_room false e = absurd cc

mark-both : (changes : ℕ) (error : Option FsError) (m : Memory) → mark_error changes error m ≡ None → (error ≡ None) × (has_room changes m ≡ true)
mark-both changes None m e = (refl, free_room (has_room changes m) e)
mark-both changes (Some d) m e = absurd cc

-- a change that adds a member to a directory leaves room for the mark
pub member-room : (m : Memory) → member_error None m ≡ None → has_room 2 m ≡ true
member-room m e = (mark-both 2 (change_error None m) m e).1

module _ (changes : ℕ) (m : Memory) (room : Bool) (is : room ≡ has_room changes m) where
  pub room-error : room ≡ false → mark_error changes None m ≡ Some errors.GeneralFailure
  room-error none = ap (λ b. if b then None else Some errors.GeneralFailure) (sym is ∙ none)

  pub room-free : room ≡ true → mark_error changes None m ≡ None
  room-free some = ap (λ b. if b then None else Some errors.GeneralFailure) (sym is ∙ some)

-- no room for a change and a mark
pub member-full : (m : Memory) → has_room 2 m ≡ false → member_error None m ≡ Some errors.GeneralFailure
member-full m none =
    elim (m.version == 18446744073709551615) as (λ b. mark_error 2 (if b then Some errors.GeneralFailure else None) m ≡ Some errors.GeneralFailure) [
      | true ↦ refl
      | false ↦ ap (λ b. if b then None else Some errors.GeneralFailure) none
    ]

-- the number of the next change, where there is room for a mark
pub member-version : (m : Memory) (answer : Result ℕ FsError) → has_room 2 m ≡ true → IsNextVersion m answer → IsMemberVersion m answer
member-version m (Ok version) room next = (next.0, ap (λ d. mark_error 2 d m) next.1 ∙ ap (λ b. if b then None else Some errors.GeneralFailure) room)
member-version m (Err e) room next = ap (λ d. mark_error 2 d m) next

-- the number of a copy over what is there, and to where nothing was
pub copy-next : (there : Option Stored) (m : Memory) (answer : Result ℕ FsError) → is_some there ≡ true → IsNextVersion m answer → IsCopyVersion there m answer
copy-next None m answer some next = absurd cc
copy-next (Some s) m answer some next = next

pub copy-member : (there : Option Stored) (m : Memory) (answer : Result ℕ FsError) → is_some there ≡ false → IsMemberVersion m answer → IsCopyVersion there m answer
copy-member None m answer none next = next
copy-member (Some s) m answer none next = absurd cc

-- less room
pub room-less : (marks : Bool) (a b : ℕ) → b ≤ a → (not marks || ltb a (2 ^ 64)) ≡ true → (not marks || ltb b (2 ^ 64)) ≡ true
room-less false a b least room = refl
room-less true a b least room =
    let below = ltb-true a (2 ^ 64) room in
    lt-ltb b (2 ^ 64) (omega arith)

pub room-fits : (marks : Bool) (a : ℕ) → marks ≡ true → (not marks || ltb a (2 ^ 64)) ≡ true → a + 1 ≤ 2 ^ 64
room-fits true a on room =
    let below = ltb-true a (2 ^ 64) room in
    omega arith
room-fits false a on room = absurd cc

-- after a mark there is room for one change less
pub room-marked : (key : Key) (m : Memory) → has_room 2 m ≡ true → has_room 1 (marked key m) ≡ true
room-marked key m room =
    ap (λ marks. not marks || ltb ((marked key m).version + 1) (2 ^ 64)) (marked-marks key m)
    ∙ room-less m.marks (m.version + 2) ((marked key m).version + 1) (either_marked key m (λ n. n.version + 1 ≤ m.version + 2) (omega arith) (omega arith)) room

-- ---- the marked directory

-- where directories are not marked
pub unmarked-is : (key : Key) (m new : Memory) → new ≡ m → m.marks ≡ false → new ≡ marked key m
unmarked-is key m new is off = is ∙ sym (ap (λ b. if b then with_mark key m else m) off)

pub marked-is : (key : Key) (m new : Memory) → new ≡ with_mark key m → m.marks ≡ true → new ≡ marked key m
marked-is key m new is on = is ∙ sym (ap (λ b. if b then with_mark key m else m) on)

pub sound-marked : (old new : Resources) (key : Key) (version now : ℕ) → IsSound old → new ≡ change_at key (touched version now) old → IsSound new
sound-marked old new key version now sound is = sound-beside old new key (touched version now) (λ s. refl) (λ s named. named) sound is

-- ---- numbers

-- where a number is added
pub numbers-insert : (old tree new : FinMap key_cmp ℕ) (key : Key) (number : ℕ) → get old key ≡ None → tree ≡ old → new ≡ insert tree key number
    → (q : Key) (n : ℕ) → get old q ≡ Some n → get new q ≡ Some n
numbers-insert old tree new key number none same is q n here =
    ap (λ m. get m q) (is ∙ ap (λ m. insert m key number) same) ∙ get-insert key_cmp_total old key number q ∙ by (eq_by_cmp key_cmp q key) refl
  where
    by : (b : Bool) → eq_by_cmp key_cmp q key ≡ b → cond b (Some number) (get old q) ≡ Some n
    by true tied = absurd (let clash : None ≡ Some n = sym none ∙ ap (get old) (sym ((tied_decides q key).0 tied)) ∙ here in cc)
    by false tied = here

-- where one is removed
pub numbers-remove : (old new : FinMap key_cmp ℕ) (key : Key) → new ≡ remove old key → (q : Key) (n : ℕ) → q ≢ key → get old q ≡ Some n → get new q ≡ Some n
numbers-remove old new key is q n apart here = ap (λ m. get m q) is ∙ get-remove key_cmp_total old key q ∙ by (eq_by_cmp key_cmp q key) refl
  where
    by : (b : Bool) → eq_by_cmp key_cmp q key ≡ b → cond b None (get old q) ≡ Some n
    by true tied = absurd (apart ((tied_decides q key).0 tied))
    by false tied = here

at_itself : (key : Key) → is_at_or_below key key ≡ true
at_itself key = ap (λ k. is_at_or_below k key) (sym (append-nil key)) ∙ at_or_below-append key []

-- a key is not its own parent, but for the root
pub parent-apart : (key : Key) → key ≢ [] → parent key ≢ key
parent-apart key some same =
    let outside : is_at_or_below (parent key) key ≡ false = shorter_outside key some in
    let itself : is_at_or_below key key ≡ true = at_itself key in
    let clash : true ≡ false = sym itself ∙ ap (λ k. is_at_or_below k key) (sym same) ∙ outside in cc

-- the parents keep their numbers where something is renamed
module _ (from to : Key) (old new : FinMap key_cmp ℕ) (moved : IsMoved from to old new) (some : from ≢ []) (new_some : to ≢ []) where
  pub left-number : is_at_or_below from to ≡ false → (n : ℕ) → get old (parent from) ≡ Some n → get new (parent from) ≡ Some n
  left-number off n here = moved.rest (parent from) (shorter_outside from some) (lower to from off) ∙ here

  pub entered-number : is_at_or_below to from ≡ false → (n : ℕ) → get old (parent to) ≡ Some n → get new (parent to) ≡ Some n
  entered-number off n here = moved.rest (parent to) (lower from to off) (shorter_outside to new_some) ∙ here

-- Access rights: which rule decides for a resource, and what each call needs. This project's own choice.
use Rattle.std.specs.Prelude.{Bool, true, false, not, ◌&&◌, ◌||◌, List, [], ◌∷◌, length, nat_lt, if◌then◌else◌, Option, Some, None, option_map}
use Rattle.std.specs.List.{list_all, list_any}
use Rattle.dav_key.specs.Key.{Key}
use Rattle.dav_key.specs.Below.{is_at_or_below}
use Rattle.dav_key.specs.Flat.{flat}
use Rattle.dav_resource.specs.declared.record.Op.{Op}
use Rattle.dav_resource.specs.declared.record.Op.TheVariants.{Metadata, ReadDir, Entry, ReadBytes, Copy, Rename, Seek, Flush, FileMetadata, GetProp, GetProps, GetQuota}
use Rattle.dav_rights.specs.declared.rights.Explanation.{Explanation}
use Rattle.dav_rights.specs.declared.rights.Need.{Need}
use Rattle.dav_rights.specs.declared.rights.Need.TheVariants.{Take, Make}
use Rattle.dav_rights.specs.declared.rule.Allowed.{Allowed}
use Rattle.dav_rights.specs.declared.rule.Rule.{Rule}

-- ---- rules

-- nothing is allowed
abbrev pub nothing : Allowed
nothing = record { list = false; read = false; write = false }

-- anything is allowed
abbrev pub allows_something : Allowed → Bool
allows_something allowed = allowed.list || allowed.read || allowed.write

-- the rule is made for this resource; `strict` asks it of the resources below this one for which no rule has a longer key
abbrev pub covers : Bool → Key → Rule → Bool
covers strict key rule = is_at_or_below key rule.key && (rule.below || not strict && is_at_or_below rule.key key)

-- the later rule has the longer key
abbrev pub gives_way : Rule → Rule → Bool
gives_way rule later = nat_lt (length (flat rule.key)) (length (flat later.key))

-- of two rules the one with the longer key, or the first
abbrev pub longer_of : Option Rule → Option Rule → Option Rule
longer_of None later = later
longer_of (Some rule) None = Some rule
longer_of (Some rule) (Some later) = if gives_way rule later then Some later else Some rule

-- of the rules made for the resource the one with the longest key, and of several with that key the first
abbrev pub deciding : Bool → Key → List Rule → Option Rule
deciding strict key [] = None
deciding strict key (rule ∷ rules) = longer_of (if covers strict key rule then Some rule else None) (deciding strict key rules)

-- what a rule allows; without a rule nothing
abbrev pub allowed_by : Option Rule → Allowed
allowed_by None = nothing
allowed_by (Some rule) = rule.allowed

-- what is allowed with the resource
abbrev pub decide : Bool → Key → List Rule → Allowed
decide strict key rules = allowed_by (deciding strict key rules)

-- ---- what a caller may do

-- the resource is above one for which a rule allows something
abbrev pub leads_to : Key → Rule → Bool
leads_to key rule = allows_something rule.allowed && is_at_or_below rule.key key && not (is_at_or_below key rule.key)

abbrev pub may_list : Key → List Rule → Bool
may_list key rules = (decide false key rules).list || list_any (leads_to key) rules

abbrev pub may_read : Key → List Rule → Bool
may_read key rules = (decide false key rules).read

abbrev pub may_write : Key → List Rule → Bool
may_write key rules = (decide false key rules).write

-- what is allowed with a resource, and the number of the rule that decides
abbrev pub explanation : Key → List Rule → Explanation
explanation key rules =
    record {
      rule = option_map (λ (r : Rule). r.number) (deciding false key rules);
      allowed = record { list = may_list key rules; read = may_read key rules; write = may_write key rules };
    }

-- what a move asks of all that it moves away, and of all that it makes
abbrev pub lets : Need → Allowed → Bool
lets Take allowed = allowed.read && allowed.write
lets Make allowed = allowed.write

-- so it is at the resource, and below it as far as no rule has a longer key
abbrev pub lets_at : Need → List Rule → Key → Bool
lets_at need rules key = lets need (decide false key rules) && lets need (decide true key rules)

-- so it is at the rule's resource, if that is at or below the other
abbrev pub lets_if_below : Need → List Rule → Key → Rule → Bool
lets_if_below need rules key rule = not (is_at_or_below rule.key key) || lets_at need rules rule.key

-- so it is at the resource, and at each rule's resource at or below it
abbrev pub lets_below : Need → List Rule → Key → Bool
lets_below need rules key =
    lets_at need rules key && list_all (lets_if_below need rules key) rules

-- a lock is for who may write at the resource and, if it is deep, at each one that may be below it
abbrev pub may_lock : Key → Bool → List Rule → Bool
may_lock key deep rules = if deep then lets_below Make rules key else may_write key rules

-- ---- calls

-- the call is everyone's
abbrev pub is_free : Op → Bool
is_free Seek = true
is_free Flush = true
is_free GetQuota = true
is_free other = false

-- a call on this resource is allowed
abbrev pub permits_on : List Rule → Op → Key → Bool
permits_on rules Metadata key = may_list key rules
permits_on rules FileMetadata key = may_list key rules
permits_on rules ReadDir key = may_list key rules
permits_on rules Entry key = may_list key rules
permits_on rules ReadBytes key = may_read key rules
permits_on rules GetProp key = may_read key rules
permits_on rules GetProps key = may_read key rules
permits_on rules other key = is_free other || may_write key rules

-- a call on two resources is allowed
abbrev pub permits_between : List Rule → Op → Key → Key → Bool
permits_between rules Copy from to = may_read from rules && may_write to rules
permits_between rules Rename from to = lets_below Take rules from && lets_below Make rules to
permits_between rules other from to = false

-- a call is allowed
abbrev pub permits : List Rule → Op → List Key → Bool
permits rules op [] = is_free op
permits rules op (key ∷ []) = permits_on rules op key
permits rules op (from ∷ to ∷ rest) = permits_between rules op from to

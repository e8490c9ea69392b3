-- The rules of access rights, as a text in TOML 1.0 has them: this project's own choice.
use Rattle.std.specs.Prelude.{◌≡◌, ◌⊎◌, ℕ, ◌+◌, ◌-◌, ◌==◌, Bool, true, false, not, ◌&&◌, ◌||◌, List, [], ◌∷◌, length, take, drop, slice_index, codes, bytes_eq, is_some, map, if◌then◌else◌, Option, Some, None, option_map, option_and_then, Result, MatchResult}
use Rattle.std.specs.Borrow.{Bor}
use Rattle.std.specs.List.{list_all, list_any, slice_split}
use Rattle.toml.specs.Data.{Data, Items, no_items, item, Members, no_members, member, get, get_member, as_str, as_bool, as_array, as_table}
use Rattle.toml.specs.Parse.{parse_document}
use Rattle.toml.specs.View.{view, items_view}
use Rattle.toml.specs.declared.value.Value.{Value}
use Rattle.dav_key.specs.Key.{Key}
use Rattle.percent_encoding.specs.Percent.{percent_decode}
use Rattle.dav_resource.specs.PathText.{is_slash, ends_in_slash, is_readable, is_segment}
use Rattle.dav_rights.specs.declared.rule.Allowed.{Allowed}
use Rattle.dav_rights.specs.declared.rules.Who.{Who}
use Rattle.dav_rights.specs.declared.rules.Who.TheVariants.{Everyone, OneOf}
use Rattle.dav_rights.specs.declared.rules.WrittenRule.{WrittenRule}
use Rattle.dav_rules.specs.declared.error.RuleFault.{RuleFault}
use Rattle.dav_rules.specs.declared.error.RuleFault.TheVariants.{Memory}

-- a rule as it is written; without names it is for everyone
pub record RuleValue : Type 0 where
  pub names : Option (List (List ℕ))
  pub key : Key
  pub below : Bool
  pub allowed : Allowed

-- for whom a rule is
abbrev pub names_in : Who → Option (List (List ℕ))
names_in Everyone = None
names_in (OneOf names) = Some names.items

abbrev pub rule_value : WrittenRule → RuleValue
rule_value rule = record { names = names_in rule.who; key = rule.key; below = rule.below; allowed = rule.allowed }

-- what is read is what is written, or memory runs out
abbrev pub Reads : {T U : Type 0} → (T → U) → Result T RuleFault → Option U → Type 0
Reads value result written = MatchResult result (λ x. written ≡ Some (value x)) (λ e. (written ≡ None) ⊎ (e ≡ Memory))

-- ---- lists

abbrev pub list_of : Items → List Data
list_of no_items = []
list_of (item d ds) = d ∷ list_of ds

-- the first before the others, if there are both
abbrev pub joined : {X : Type 0} → Option X → Option (List X) → Option (List X)
joined None others = None
joined (Some x) None = None
joined (Some x) (Some others) = Some (x ∷ others)

-- all of a list, if each is something
abbrev pub each_of : {X : Type 0} → (Data → Option X) → List Data → Option (List X)
each_of part [] = Some []
each_of part (d ∷ ds) = joined (part d) (each_of part ds)

-- ---- for whom

-- the names of a group
abbrev pub group_names : Option Data → List ℕ → Option (List (List ℕ))
group_names groups name =
    option_and_then (λ items. each_of as_str (list_of items)) (option_and_then as_array (option_and_then (get name) groups))

-- everyone, if this is true
abbrev pub everyone_by : Data → Option (Option (List (List ℕ)))
everyone_by value = option_and_then (λ b. if b then Some None else None) (as_bool value)

-- the user, or the users of the group, of this name
abbrev pub user_by : Data → Option (Option (List (List ℕ)))
user_by value = option_map (λ name. Some (name ∷ [])) (as_str value)

abbrev pub group_by : Option Data → Data → Option (Option (List (List ℕ)))
group_by groups value = option_map Some (option_and_then (group_names groups) (as_str value))

-- exactly one of the three says for whom
abbrev pub one_of : Option Data → Option Data → Option Data → Option Data → Option (Option (List (List ℕ)))
one_of groups (Some everyone) None None = everyone_by everyone
one_of groups None (Some user) None = user_by user
one_of groups None None (Some group) = group_by groups group
one_of groups _ _ _ = None

abbrev pub names_of : Option Data → Data → Option (Option (List (List ℕ)))
names_of groups rule = one_of groups (get (codes "everyone") rule) (get (codes "user") rule) (get (codes "group") rule)

-- ---- where

-- neither `?` nor `#`: these end the path of a request, and a name has them as `%3F` and `%23`
abbrev pub is_path_byte : ℕ → Bool
is_path_byte b = not (b == 63) && not (b == 35)

-- the text without its last slash, if it ends in one
abbrev pub without_last_slash : List ℕ → List ℕ
without_last_slash text = if ends_in_slash text then take (length text - 1) text else text

-- the parts of a path that begins with a slash: what is behind each slash, up to the next. A slash at the end begins no part,
-- so `/` has none, and `/a/` has the one of `/a`
abbrev pub parts_of : List ℕ → List (List ℕ)
parts_of text = drop 1 (slice_split is_slash (without_last_slash text))

-- the part names a segment: each `%` in it is a whole escape and, percent-decoded, it is UTF-8, has neither NUL nor `/`, and is
-- neither empty, `.` nor `..`
abbrev pub names_segment : List ℕ → Bool
names_segment part = is_readable part && is_segment (percent_decode part)

-- the path means what is written: it begins with a slash, has neither `?` nor `#`, and each part names a segment
abbrev pub is_exact : List ℕ → Bool
is_exact text = slice_index text 0 == 47 && list_all is_path_byte text && list_all names_segment (parts_of text)

-- the key of such a path has its parts as segments, percent-decoded: each of them, in order, and nothing else
abbrev pub key_of : List ℕ → Option Key
key_of text = if is_exact text then Some (map percent_decode (parts_of text)) else None

abbrev pub key_at : Data → Option Key
key_at value = option_and_then key_of (as_str value)

-- exactly one of the two says where
abbrev pub place_in : Option Data → Option Data → Option (Key × Bool)
place_in (Some at) None = option_map (λ key. (key, false)) (key_at at)
place_in None (Some below) = option_map (λ key. (key, true)) (key_at below)
place_in _ _ = None

abbrev pub place_of : Data → Option (Key × Bool)
place_of rule = place_in (get (codes "at") rule) (get (codes "at_and_below") rule)

-- ---- what is allowed

-- the value is this string
abbrev pub is_text : List ℕ → Data → Bool
is_text word value = is_some (option_and_then (λ text. if bytes_eq text word then Some text else None) (as_str value))

abbrev pub is_right : Data → Bool
is_right value = is_text (codes "list") value || is_text (codes "read") value || is_text (codes "write") value

abbrev pub allowed_by : List Data → Option Allowed
allowed_by rights =
    if list_all is_right rights
    then Some (record { list = list_any (is_text (codes "list")) rights; read = list_any (is_text (codes "read")) rights; write = list_any (is_text (codes "write")) rights })
    else None

abbrev pub allowed_of : Data → Option Allowed
allowed_of rule = option_and_then (λ items. allowed_by (list_of items)) (option_and_then as_array (get (codes "allow") rule))

-- ---- keys

abbrev pub count : Members → ℕ
count no_members = 0
count (member k d ms) = 1 + count ms

-- how many of these keys there are
abbrev pub present : List (List ℕ) → Members → ℕ
present [] ms = 0
present (k ∷ ks) ms = (if is_some (get_member k ms) then 1 else 0) + present ks ms

-- there are no other keys: as many as there are of these
abbrev pub has_only : List (List ℕ) → Members → Bool
has_only ks ms = count ms == present ks ms

abbrev pub rule_keys : List (List ℕ)
rule_keys = codes "user" ∷ codes "group" ∷ codes "everyone" ∷ codes "at" ∷ codes "at_and_below" ∷ codes "allow" ∷ []

-- ---- rules

abbrev pub with_allowed : Option (List (List ℕ)) → Key × Bool → Allowed → RuleValue
with_allowed names place allowed = record { names = names; key = place.0; below = place.1; allowed = allowed }

-- a rule, if it says for whom, where and what, and nothing else
abbrev pub rule_of : Option Data → Data → Option RuleValue
rule_of groups rule =
    option_and_then (λ ms. if has_only rule_keys ms then
    option_and_then (λ names. option_and_then (λ place. option_map (with_allowed names place) (allowed_of rule)) (place_of rule)) (names_of groups rule)
    else None) (as_table rule)

-- the rules of a list; without a list there are none
abbrev pub rules_in : Option Data → Option Data → Option (List RuleValue)
rules_in groups None = Some []
rules_in groups (Some rules) = option_and_then (λ items. each_of (rule_of groups) (list_of items)) (as_array rules)

-- the data of a value that may be there
abbrev pub data_of : Option (Bor Value) → Option Data
data_of = option_map (λ v. view v.now)

-- the rules of these values
abbrev pub rules_at : Option Data → List Value → Option (List RuleValue)
rules_at groups values = each_of (rule_of groups) (list_of (items_view values))

-- the groups, if there are some, are a table
abbrev pub are_groups : Option Data → Bool
are_groups None = true
are_groups (Some groups) = is_some (as_table groups)

-- the rules of a document
abbrev pub rules_of : Members → Option (List RuleValue)
rules_of document =
    if has_only (codes "groups" ∷ codes "rule" ∷ []) document && are_groups (get_member (codes "groups") document) then rules_in (get_member (codes "groups") document) (get_member (codes "rule") document) else None

-- a text in TOML has these rules
abbrev pub HasRules : List ℕ → List WrittenRule → Type 0
HasRules text rules = option_and_then rules_of (parse_document text) ≡ Some (map rule_value rules)

-- a text is not TOML, or has something else than rules
abbrev pub HasNoRules : List ℕ → Type 0
HasNoRules text = option_and_then rules_of (parse_document text) ≡ None

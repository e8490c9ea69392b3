-- The calls on contents that look alike: what bars a call depends on which files and directories there are, and not on what they hold.
use Rattle.std.proofs.Common.{◌≡◌, ◌∙◌, ℕ, Bool, true, false, List, [], ◌∷◌, filter_map, Option, Some, None, refl, sym, ap, if◌then◌else◌, unwrap_or}
use Rattle.std.specs.Option.{option_map}
use Rattle.std.specs.FinMap.{get, keys, empty, same_map}
use Rattle.dav_key.specs.Below.{is_below, each}
use Rattle.dav_key.specs.Key.{Key, key_cmp_total, key_cmp_exact, parent}
use Rattle.dav_resource.specs.declared.error.FsError.TheVariants.{Forbidden}
use Rattle.dav_resource.specs.declared.meta.OpenOptions.{OpenOptions}
use Rattle.dav_resource.specs.declared.record.Op.TheVariants as ops
use Rattle.dav_store.specs.Store.{Node, File, Directory, Contents}
use Rattle.dav_store.specs.Calls.{metadata_bar, metadata_call, create_dir_bar, create_dir_call, open_bar, open_call, must_be_file}
use Rattle.dav_store.specs.Members.{members, name_in, remove_file_call, remove_dir_bar, remove_dir_call, read_dir_bar, read_dir_call}
use Rattle.dav_store.specs.PropertyCalls.{properties_bar, properties_at, get_prop_bar, get_prop_call, get_quota_bar, get_quota_call}
use Rattle.dav_store.specs.Transfers.{copy_bar, copy_call, rename_bar, rename_call}
use Rattle.dav_key.specs.EachLaws.{get-each-some, keys-each-some}
use Rattle.dav_access.specs.Sight.{Sight, kind, LooksAlike}

-- ---- what depends on the kind alone

module _ {B : Type 0} (f : Option Node → B) (is : (o : Option Node) → f o ≡ f (option_map kind o)) where
  pub by_kind : (one other : Option Node) → option_map kind other ≡ option_map kind one → f other ≡ f one
  by_kind one other same = is other ∙ ap f same ∙ sym (is one)

pub same_none : (one other : Option Node) → option_map kind other ≡ option_map kind one → one ≡ None → other ≡ None
same_none one None same none = refl
same_none one (Some node) same none = absurd (let no : Some (kind node) ≡ None = same ∙ ap (option_map kind) none in cc)

pub same_directory : (one other : Option Node) → option_map kind other ≡ option_map kind one → one ≡ Some Directory → other ≡ Some Directory
same_directory one None same is = absurd (let no : None ≡ Some Directory = same ∙ ap (option_map kind) is in cc)
same_directory one (Some Directory) same is = refl
same_directory one (Some (File bytes)) same is = absurd (let no : Some (File []) ≡ Some Directory = same ∙ ap (option_map kind) is in cc)

metadata_by_kind : (o : Option Node) → metadata_bar o ≡ metadata_bar (option_map kind o)
metadata_by_kind None = refl
metadata_by_kind (Some node) = refl

make_by_kind : (there above : Option Node) → create_dir_bar there above ≡ create_dir_bar (option_map kind there) (option_map kind above)
make_by_kind (Some node) above = refl
make_by_kind None (Some Directory) = refl
make_by_kind None (Some (File bytes)) = refl
make_by_kind None None = refl

open_by_kind : (options : OpenOptions) (there above : Option Node) → open_bar options there above ≡ open_bar options (option_map kind there) (option_map kind above)
open_by_kind options (Some (File bytes)) above = refl
open_by_kind options (Some Directory) above = refl
open_by_kind options None (Some Directory) = refl
open_by_kind options None (Some (File bytes)) = refl
open_by_kind options None None = refl

file_by_kind : (o : Option Node) → must_be_file o ≡ must_be_file (option_map kind o)
file_by_kind None = refl
file_by_kind (Some Directory) = refl
file_by_kind (Some (File bytes)) = refl

empty_by_kind : (key : Key) (names : List (List ℕ)) (o : Option Node) → remove_dir_bar key o names ≡ remove_dir_bar key (option_map kind o) names
empty_by_kind key names None = refl
empty_by_kind key names (Some (File bytes)) = refl
empty_by_kind [] names (Some Directory) = refl
empty_by_kind (segment ∷ key) (name ∷ names) (Some Directory) = refl
empty_by_kind (segment ∷ key) [] (Some Directory) = refl

list_by_kind : (o : Option Node) → read_dir_bar o ≡ read_dir_bar (option_map kind o)
list_by_kind None = refl
list_by_kind (Some (File bytes)) = refl
list_by_kind (Some Directory) = refl

properties_by_kind : (keeps : Bool) (o : Option Node) → properties_bar keeps o ≡ properties_bar keeps (option_map kind o)
properties_by_kind false o = refl
properties_by_kind true None = refl
properties_by_kind true (Some node) = refl

copy_by_kind : (node there above : Option Node) → copy_bar node there above ≡ copy_bar (option_map kind node) (option_map kind there) (option_map kind above)
copy_by_kind None there above = refl
copy_by_kind (Some node) there None = refl
copy_by_kind (Some node) there (Some (File bytes)) = refl
copy_by_kind (Some Directory) there (Some Directory) = refl
copy_by_kind (Some (File bytes)) (Some Directory) (Some Directory) = refl
copy_by_kind (Some (File bytes)) (Some (File old)) (Some Directory) = refl
copy_by_kind (Some (File bytes)) None (Some Directory) = refl

rename_by_kind : (from to : Key) (node there above : Option Node) → rename_bar from to node there above ≡ rename_bar from to (option_map kind node) (option_map kind there) (option_map kind above)
rename_by_kind from to None there above = refl
rename_by_kind [] to (Some node) there above = refl
rename_by_kind (segment ∷ from) to (Some node) there above = λ i. if is_below to (segment ∷ from) then Some Forbidden else make_by_kind there above i

-- ---- the calls

module _ (sight : Sight) (one other : Contents) (alike : LooksAlike sight one other) where
  -- the same keys have files and directories
  pub same_keys : keys other.tree ≡ keys one.tree
  same_keys = sym (keys-each-some kind other.tree) ∙ ap keys kinds ∙ keys-each-some kind one.tree
    where
      kinds : each (λ node. Some (kind node)) other.tree ≡ each (λ node. Some (kind node)) one.tree
      kinds = same_map key_cmp_total key_cmp_exact _ _ (λ q. get-each-some kind other.tree q ∙ alike.kinds q ∙ sym (get-each-some kind one.tree q))

  pub same_members : (key : Key) → members other.tree key ≡ members one.tree key
  same_members key = ap (filter_map (name_in key)) same_keys

  pub same_metadata : (key : Key) → metadata_call other key ≡ metadata_call one key
  same_metadata key = λ i. record { op = ops.Metadata; keys = key ∷ []; bar = by_kind metadata_bar metadata_by_kind (get one.tree key) (get other.tree key) (alike.kinds key) i }

  make_bar : (key : Key) → create_dir_bar (get other.tree key) (get other.tree (parent key)) ≡ create_dir_bar (get one.tree key) (get one.tree (parent key))
  make_bar key = make_by_kind _ _ ∙ (λ i. create_dir_bar (alike.kinds key i) (alike.kinds (parent key) i)) ∙ sym (make_by_kind _ _)

  pub same_make : (key : Key) → create_dir_call other key ≡ create_dir_call one key
  same_make key = λ i. record { op = ops.CreateDir; keys = key ∷ []; bar = make_bar key i }

  opening : (options : OpenOptions) (key : Key) → open_bar options (get other.tree key) (get other.tree (parent key)) ≡ open_bar options (get one.tree key) (get one.tree (parent key))
  opening options key = open_by_kind options _ _ ∙ (λ i. open_bar options (alike.kinds key i) (alike.kinds (parent key) i)) ∙ sym (open_by_kind options _ _)

  pub same_open : (key : Key) (options : OpenOptions) → open_call other key options ≡ open_call one key options
  same_open key options = λ i. record { op = ops.OpenFile; keys = key ∷ []; bar = opening options key i }

  pub same_remove_file : (key : Key) → remove_file_call other key ≡ remove_file_call one key
  same_remove_file key = λ i. record { op = ops.RemoveFile; keys = key ∷ []; bar = by_kind must_be_file file_by_kind (get one.tree key) (get other.tree key) (alike.kinds key) i }

  emptying : (key : Key) → remove_dir_bar key (get other.tree key) (members other.tree key) ≡ remove_dir_bar key (get one.tree key) (members one.tree key)
  emptying key =
      by_kind (λ o. remove_dir_bar key o (members other.tree key)) (empty_by_kind key (members other.tree key)) (get one.tree key) (get other.tree key) (alike.kinds key)
      ∙ ap (remove_dir_bar key (get one.tree key)) (same_members key)

  pub same_remove_dir : (key : Key) → remove_dir_call other key ≡ remove_dir_call one key
  same_remove_dir key = λ i. record { op = ops.RemoveDir; keys = key ∷ []; bar = emptying key i }

  pub same_list : (key : Key) → read_dir_call other key ≡ read_dir_call one key
  same_list key = λ i. record { op = ops.ReadDir; keys = key ∷ []; bar = by_kind read_dir_bar list_by_kind (get one.tree key) (get other.tree key) (alike.kinds key) i }

  pub same_properties_bar : (keeps : Bool) (key : Key) → properties_bar keeps (get other.tree key) ≡ properties_bar keeps (get one.tree key)
  same_properties_bar keeps key = by_kind (properties_bar keeps) (properties_by_kind keeps) (get one.tree key) (get other.tree key) (alike.kinds key)

  copying : (from to : Key) → copy_bar (get other.tree from) (get other.tree to) (get other.tree (parent to)) ≡ copy_bar (get one.tree from) (get one.tree to) (get one.tree (parent to))
  copying from to = copy_by_kind _ _ _ ∙ (λ i. copy_bar (alike.kinds from i) (alike.kinds to i) (alike.kinds (parent to) i)) ∙ sym (copy_by_kind _ _ _)

  pub same_copy : (from to : Key) → copy_call other from to ≡ copy_call one from to
  same_copy from to = λ i. record { op = ops.Copy; keys = from ∷ to ∷ []; bar = copying from to i }

  renaming : (from to : Key) → rename_bar from to (get other.tree from) (get other.tree to) (get other.tree (parent to)) ≡ rename_bar from to (get one.tree from) (get one.tree to) (get one.tree (parent to))
  renaming from to = rename_by_kind from to _ _ _ ∙ (λ i. rename_bar from to (alike.kinds from i) (alike.kinds to i) (alike.kinds (parent to) i)) ∙ sym (rename_by_kind from to _ _ _)

  pub same_rename : (from to : Key) → rename_call other from to ≡ rename_call one from to
  same_rename from to = λ i. record { op = ops.Rename; keys = from ∷ to ∷ []; bar = renaming from to i }

  pub same_quota : get_quota_call other ≡ get_quota_call one
  same_quota = λ i. record { op = ops.GetQuota; keys = []; bar = get_quota_bar (alike.quota i) }

  -- the properties that a caller may read are the same
  pub same_properties : (key : Key) → sight.reads key ≡ true → properties_at other key ≡ properties_at one key
  same_properties key reads = ap (λ standing. unwrap_or standing.1 empty) (alike.read key reads)

  pub same_get_prop : (key name : Key) → sight.reads key ≡ true → get_prop_call other key name ≡ get_prop_call one key name
  same_get_prop key name reads = λ i. record { op = ops.GetProp; keys = key ∷ []; bar = get_prop_bar (get (same_properties key reads i) name) }

-- A copy of contents that look alike: a caller cannot distinguish them, and what it leaves looks alike too.
use Rattle.std.proofs.Common.{◌≡◌, ◌≢◌, ◌⊎◌, ◌∙◌, Bool, true, false, cond, ◌||◌, List, [], ◌∷◌, ◌++◌, map, filter, length, Option, Some, None, is_some, IsPermutation, ◌≤◌, ◌*◌, refl, sym, ap, subst, inl, inr, if◌then◌else◌}
use Rattle.std.specs.Prelude.{◌&&◌, not}
use Rattle.std.specs.Option.{option_map}
use Rattle.std.specs.List.{list_any, cons_option}
use Rattle.std.specs.FinMap.{get}
use Rattle.std.proofs.lemmas.Bool.{and_parts}
use Rattle.dav_key.specs.Key.{Key, is_same_key, same_key_decides}
use Rattle.dav_key.specs.Below.{is_at_or_below}
use Rattle.dav_key.specs.Members.{member}
use Rattle.dav_resource.specs.PathText.{PathValue}
use Rattle.dav_resource.specs.Errors.{fs_status}
use Rattle.dav_resource.specs.declared.error.FsError.{FsError}
use Rattle.dav_resource.specs.declared.record.Op.{Op}
use Rattle.dav_resource.specs.declared.record.Op.TheVariants as ops
use Rattle.dav_resource.specs.declared.record.Outcome.{Outcome}
use Rattle.dav_resource.specs.declared.record.Outcome.TheVariants.{Granted, Barred, Refused}
use Rattle.dav_resource.specs.declared.request.Depth.{Depth}
use Rattle.dav_resource.specs.declared.request.Depth.TheVariants.{Zero, One, Infinity, Default}
use Rattle.dav_store.specs.Logged.{Logged}
use Rattle.dav_store.specs.Store.{Node, File, Directory, Quota, Contents}
use Rattle.dav_store.specs.Calls.{Call, IsLawful, record_of, limit_of, error_of, IsMadeAt, metadata_call, create_dir_call}
use Rattle.dav_store.specs.Members.{IsIn}
use Rattle.dav_store.specs.Transfers.{IsCopiedTo, copy_call}
use Rattle.dav_messages.specs.Multistatus.{Item}
use Rattle.dav_walks.specs.KeyCall.{standing, path_to}
use Rattle.dav_walks.specs.Trace.{HasKind}
use Rattle.dav_walks.specs.Deletion.{Subtree, is_call, path_at}
use Rattle.dav_walks.specs.Copying.{CopyStep, snapshot, keys_of_snapshot, logged_step, IsMade, NothingMade, IsCalledFor, copied, IsLawfulCopy, is_directory_node, path_of_step, named_once, names_behind, IsWholeCopy, CopiesTree}
use Rattle.dav_walks.specs.Copied.{placing_call, IsPlaced, refusal_names, EndsAlone, CopiesAlone, CopiesAll, CopiesInPart}
use Rattle.dav_access.specs.Sight.{Sight, AreSeen, kind}
use Rattle.dav_access.proofs.AlikeCalls.{same_none, same_directory, same_keys, same_metadata, same_make, same_copy}
use Rattle.dav_access.proofs.AlikeChanges.{Follows, followed, follows_same, follows_made, follows_copied}
use Rattle.dav_access.proofs.Shadow.{Standing, IsSound, IsLike, like_same, Mirrored, looks_alike, shadow, shadow_standing, shadow_mirrored}

-- ---- which copies were made

is_making : Op → Outcome → Bool
is_making ops.Copy Granted = true
is_making ops.CreateDir Granted = true
is_making op outcome = false

-- the step made a copy at the key
makes : Key → Key → CopyStep → Bool
makes d key step = is_making step.op step.outcome && is_same_key key (d ++ step.at)

in_map : {X Y : Type 0} (f : X → Y) (x : X) (xs : List X) → IsIn x xs → IsIn (f x) (map f xs)
in_map f x [] none = absurd none
in_map f x (y ∷ xs) (inl same) = inl (ap f same)
in_map f x (y ∷ xs) (inr later) = inr (in_map f x xs later)

found_in : {X : Type 0} (test : X → Bool) (xs : List X) → list_any test xs ≡ true → (x : X) × IsIn x xs × (test x ≡ true)
found_in test [] is = absurd cc
found_in {X} test (x ∷ xs) is = by (test x) refl is (found_in test xs)
  where
    by : (b : Bool) → test x ≡ b → (b || list_any test xs) ≡ true → (list_any test xs ≡ true → (y : X) × IsIn y xs × (test y ≡ true)) → (y : X) × IsIn y (x ∷ xs) × (test y ≡ true)
    by true here whole later = (x, inl refl, here)
    by false here whole later = let rest = later whole in (rest.0, inr rest.1, rest.2)

any_in : {X : Type 0} (test : X → Bool) (xs : List X) (x : X) → IsIn x xs → test x ≡ true → list_any test xs ≡ true
any_in test [] x none is = absurd none
any_in test (y ∷ xs) x (inl same) is = ap (λ b. b || list_any test xs) (ap test same ∙ is)
any_in test (y ∷ xs) x (inr later) is = by (test y) (any_in test xs x later is)
  where
    by : (b : Bool) → list_any test xs ≡ true → (b || list_any test xs) ≡ true
    by true rest = refl
    by false rest = rest

-- a step that made a copy is one of the two calls, and it was granted
making_is : (steps : List CopyStep) (step : CopyStep) → IsIn step steps → is_making step.op step.outcome ≡ true → IsMade step.at steps
unfolding is_making
making_is steps step i is = by step.op step.outcome refl refl is
  where
    by : (op : Op) (outcome : Outcome) → step.op ≡ op → step.outcome ≡ outcome → is_making op outcome ≡ true → IsMade step.at steps
    by ops.Copy Granted o c was = inl (subst (λ s. IsIn s steps) (λ i. record { at = step.at; op = o i; outcome = c i }) i)
    by ops.CreateDir Granted o c was = inr (subst (λ s. IsIn s steps) (λ i. record { at = step.at; op = o i; outcome = c i }) i)
    by op outcome o c was = absurd cc

module _ (sight : Sight) (old new other : Contents) (alike : Mirrored sight old other) where
  kinds_of : (key : Key) → option_map kind (get other.tree key) ≡ option_map kind (get old.tree key)
  kinds_of key = (alike.like key).kinds

  -- ---- the snapshot

  module _ (s top : Key) where
    snapshot_kinds : (x : Key) → option_map kind (snapshot other.tree s top x) ≡ option_map kind (snapshot old.tree s top x)
    snapshot_kinds x = by (is_at_or_below (s ++ x) top)
      where
        by : (b : Bool) → option_map kind (if b then None else get other.tree (s ++ x)) ≡ option_map kind (if b then None else get old.tree (s ++ x))
        by true = refl
        by false = kinds_of (s ++ x)

    same_snapshot_keys : keys_of_snapshot other.tree s top ≡ keys_of_snapshot old.tree s top
    same_snapshot_keys = ap (λ ks. filter (λ key. not (is_at_or_below key top)) (filter (λ key. is_some (path_to s key)) ks)) (same_keys sight old other (looks_alike sight old other alike))

  file_kind : (o p : Option Node) → option_map kind p ≡ option_map kind o → HasKind false o → HasKind false p
  file_kind o None same h = absurd (let no : None ≡ Some (File []) = same ∙ ap (option_map kind) h.1 in cc)
  file_kind o (Some Directory) same h = absurd (let no : Some Directory ≡ Some (File []) = same ∙ ap (option_map kind) h.1 in cc)
  file_kind o (Some (File bytes)) same h = (bytes, refl)

  has_kind : (b : Bool) (o p : Option Node) → option_map kind p ≡ option_map kind o → HasKind b o → HasKind b p
  has_kind true o p same h = same_directory o p same h
  has_kind false o p same h = file_kind o p same h

  not_none : (o p : Option Node) → option_map kind p ≡ option_map kind o → o ≢ None → p ≢ None
  not_none o p same some none = some (same_none p o (sym same) none)

  is_directory_alike : (o p : Option Node) → option_map kind p ≡ option_map kind o → is_directory_node p ≡ is_directory_node o
  is_directory_alike None None same = refl
  is_directory_alike None (Some node) same = absurd cc
  is_directory_alike (Some node) None same = absurd cc
  is_directory_alike (Some Directory) (Some Directory) same = refl
  is_directory_alike (Some Directory) (Some (File bytes)) same = absurd cc
  is_directory_alike (Some (File bytes)) (Some Directory) same = absurd cc
  is_directory_alike (Some (File bytes)) (Some (File others)) same = refl

  -- ---- the calls and the reports, by the kinds in the snapshot alone

  module _ (one another : Subtree) (kinds : (x : Key) → option_map kind (another x) ≡ option_map kind (one x)) where
    called_for : (op : Op) (x : Key) (steps : List CopyStep) → IsCalledFor one op x steps → IsCalledFor another op x steps
    called_for ops.Metadata x steps c = (not_none (one x) (another x) (kinds x) c.0, c.1)
    called_for ops.Copy x steps c = (has_kind false (one x) (another x) (kinds x) c.0, c.1)
    called_for ops.CreateDir x steps c = (has_kind true (one x) (another x) (kinds x) c.0, c.1)
    called_for ops.ReadDir x steps c = (has_kind true (one x) (another x) (kinds x) c.0, c.1)
    called_for ops.Entry x steps c = c
    called_for op x steps c = c

    same_path : (source dest : PathValue) (op : Op) (x : Key) → path_of_step source dest another op x ≡ path_of_step source dest one op x
    same_path source dest ops.CreateDir x = refl
    same_path source dest ops.Entry x = refl
    same_path source dest op x = ap (λ b. path_at source b (source.key ++ x)) (is_directory_alike (one x) (another x) (kinds x))

    same_name : (source dest : PathValue) (unseen : Bool) (step : CopyStep) → named_once source dest another unseen step ≡ named_once source dest one unseen step
    same_name source dest unseen step = ap (λ path. if unseen && not (is_call step.op) then None else option_map (λ e. (path, fs_status e)) (error_of step.outcome)) (same_path source dest step.op step.at)

    same_names : (source dest : PathValue) (unseen : Bool) (steps : List CopyStep) → names_behind source dest another unseen steps ≡ names_behind source dest one unseen steps
    same_names source dest unseen [] = refl
    same_names source dest unseen (step ∷ steps) = λ i. cons_option (same_name source dest unseen step i) (same_names source dest (not (is_call step.op)) steps i)

    back : (x : Key) → option_map kind (one x) ≡ option_map kind (another x)
    back x = sym (kinds x)

    whole_too : (steps : List CopyStep) → IsWholeCopy one steps → IsWholeCopy another steps
    whole_too steps w = record {
      source = w.source;
      files = λ x kind granted. w.files x (has_kind false (another x) (one x) (back x) kind) granted;
      directories = λ x kind granted. w.directories x (has_kind true (another x) (one x) (back x) kind) granted;
      listings = w.listings;
      members = λ x name there granted. w.members x name (not_none (another (member x name)) (one (member x name)) (back (member x name)) there) granted;
    }

  -- ---- what is left

  module _ (s top d : Key) (steps : List CopyStep) (copy : IsLawfulCopy s top d old new steps) (reads : (x : Key) → IsIn (record { at = x; op = ops.Copy; outcome = Granted }) steps → sight.reads (s ++ x) ≡ true) where
    snap_kinds : (x : Key) → option_map kind (snapshot other.tree s top x) ≡ option_map kind (snapshot old.tree s top x)
    snap_kinds = snapshot_kinds s top

    in_snapshot : (x : Key) (node : Node) → snapshot old.tree s top x ≡ Some node → get old.tree (s ++ x) ≡ Some node
    in_snapshot x node there = by (is_at_or_below (s ++ x) top) there
      where
        by : (b : Bool) → (if b then None else get old.tree (s ++ x)) ≡ Some node → get old.tree (s ++ x) ≡ Some node
        by true is = absurd cc
        by false is = is

    same_copy_of : (x : Key) → IsMade x steps → copied (standing other (s ++ x)) ≡ copied (standing old (s ++ x))
    same_copy_of x (inl i) = ap copied ((alike.like (s ++ x)).read (reads x i))
    same_copy_of x (inr i) =
        let here : get old.tree (s ++ x) ≡ Some Directory = in_snapshot x Directory (copy.called_for (record { at = x; op = ops.CreateDir; outcome = Granted }) i).0 in
        let there : get other.tree (s ++ x) ≡ Some Directory = same_directory (get old.tree (s ++ x)) (get other.tree (s ++ x)) (kinds_of (s ++ x)) here in
        (λ i. copied (there i, get other.properties (s ++ x))) ∙ (λ i. copied (sym here i, get old.properties (s ++ x)))

    made_at : Key → Bool
    made_at key = list_any (makes d key) steps

    copy_there : Key → Standing
    copy_there key = cond (made_at key) (standing new key) (standing other key)

    made_is : (x : Key) → IsMade x steps → made_at (d ++ x) ≡ true
    unfolding made_at makes is_making
    made_is x (inl i) = any_in (makes d (d ++ x)) steps (record { at = x; op = ops.Copy; outcome = Granted }) i ((same_key_decides (d ++ x) (d ++ x)).1 refl)
    made_is x (inr i) = any_in (makes d (d ++ x)) steps (record { at = x; op = ops.CreateDir; outcome = Granted }) i ((same_key_decides (d ++ x) (d ++ x)).1 refl)

    not_made : (key : Key) → ((x : Key) → IsMade x steps → key ≢ d ++ x) → made_at key ≡ false
    unfolding made_at makes
    not_made key apart = by (list_any (makes d key) steps) refl
      where
        by : (b : Bool) → list_any (makes d key) steps ≡ b → b ≡ false
        by false none = refl
        by true some =
            let step = found_in (makes d key) steps some in
            let parts = and_parts (is_making step.0.op step.0.outcome) (is_same_key key (d ++ step.0.at)) step.2 in
            absurd (apart step.0.at (making_is steps step.0 step.1 parts.0) ((same_key_decides key (d ++ step.0.at)).0 parts.1))

    apart_from : (key : Key) → made_at key ≡ false → (x : Key) → IsMade x steps → key ≢ d ++ x
    apart_from key none x made same = let no : true ≡ false = sym (made_is x made) ∙ ap made_at (sym same) ∙ none in cc

    -- what is copied has sound properties
    copied_sound : (there : Standing) → IsSound there → IsSound (copied there)
    copied_sound (Some (File bytes), properties) sound = sound
    copied_sound (Some Directory, properties) sound = record { bare = λ none. refl; none_empty = λ no. cc; named = λ x no. absurd cc }
    copied_sound (None, properties) sound = record { bare = λ none. refl; none_empty = λ no. cc; named = λ x no. absurd cc }

    source_sound : (x : Key) → IsMade x steps → IsSound (copied (standing other (s ++ x)))
    source_sound x made = copied_sound (standing other (s ++ x)) (alike.like (s ++ x)).sound

    made_sound : (key : Key) → made_at key ≡ true → IsSound (standing new key)
    unfolding made_at makes
    made_sound key some =
        let step = found_in (makes d key) steps some in
        let parts = and_parts (is_making step.0.op step.0.outcome) (is_same_key key (d ++ step.0.at)) step.2 in
        let made = making_is steps step.0 step.1 parts.0 in
        let same : standing new key ≡ copied (standing other (s ++ step.0.at)) = ap (standing new) ((same_key_decides key (d ++ step.0.at)).0 parts.1) ∙ copy.made step.0.at made ∙ sym (same_copy_of step.0.at made) in
        subst IsSound (sym same) (source_sound step.0.at made)

    copy_like : (key : Key) → IsLike (sight.lists key) (sight.reads key) (standing new key) (copy_there key)
    unfolding copy_there
    copy_like key = by (made_at key) refl
      where
        by : (b : Bool) → made_at key ≡ b → IsLike (sight.lists key) (sight.reads key) (standing new key) (cond b (standing new key) (standing other key))
        by true made = like_same (sight.lists key) (sight.reads key) (standing new key) (made_sound key made)
        by false none = subst (λ s. IsLike (sight.lists key) (sight.reads key) s (standing other key)) (sym (copy.others key (apart_from key none))) (alike.like key)

    -- each copy that was made is there, and elsewhere nothing changes
    record Copied (after : Contents) : Type 0 where
      made : (x : Key) → IsMade x steps → standing after (d ++ x) ≡ standing new (d ++ x)
      others : (key : Key) → ((x : Key) → IsMade x steps → key ≢ d ++ x) → standing after key ≡ standing other key
      limit : limit_of after ≡ limit_of other
      untouched : NothingMade steps → after ≡ other

    copied_there : (NothingMade steps → ⊥) → Copied (shadow sight new copy_there)
    unfolding copy_there
    copied_there some = record {
      made = λ x made. shadow_standing sight new copy_there copy_like (d ++ x) ∙ ap (λ b. cond b (standing new (d ++ x)) (standing other (d ++ x))) (made_is x made);
      others = λ key apart. shadow_standing sight new copy_there copy_like key ∙ ap (λ b. cond b (standing new key) (standing other key)) (not_made key apart);
      limit = copy.limit ∙ ap (option_map (λ (q : Quota). q.total)) (sym alike.quota);
      untouched = λ none. absurd (some none);
    }

    follows_steps : Follows sight new Copied
    unfolding is_making
    follows_steps = by (list_any (λ (step : CopyStep). is_making step.op step.outcome) steps) refl
      where
        making : CopyStep → Bool
        making step = is_making step.op step.outcome

        nothing : list_any making steps ≡ false → NothingMade steps
        nothing none x (inl i) = let no : true ≡ false = sym (any_in making steps (record { at = x; op = ops.Copy; outcome = Granted }) i refl) ∙ none in cc
        nothing none x (inr i) = let no : true ≡ false = sym (any_in making steps (record { at = x; op = ops.CreateDir; outcome = Granted }) i refl) ∙ none in cc

        by : (b : Bool) → list_any (λ (step : CopyStep). is_making step.op step.outcome) steps ≡ b → Follows sight new Copied
        by true some =
            let step = found_in making steps some in
            record {
              after = shadow sight new copy_there;
              leads = copied_there (λ none. none step.0.at (making_is steps step.0 step.1 step.2));
              alike = shadow_mirrored sight new copy_there copy_like;
            }
        by false none =
            let same : new ≡ old = copy.untouched (nothing none) in
            record {
              after = other;
              leads = record { made = λ x made. absurd (nothing none x made); others = λ key apart. refl; limit = refl; untouched = λ _. refl };
              alike = subst (λ c. Mirrored sight c other) (sym same) alike;
            }

    -- ---- the same copy of the other contents

    copy_too : (after : Contents) → Copied after → IsLawfulCopy s top d other after steps
    copy_too after to = record {
      called_for = λ step i. called_for (snapshot old.tree s top) (snapshot other.tree s top) snap_kinds step.op step.at steps (copy.called_for step i);
      once = copy.once;
      bound = subst (λ ks. length (filter (λ step. is_call step.op) steps) ≤ 3 * length ks) (sym (same_snapshot_keys s top)) copy.bound;
      free = copy.free;
      unseen = copy.unseen;
      made = λ x made. to.made x made ∙ copy.made x made ∙ sym (same_copy_of x made);
      others = to.others;
      limit = to.limit;
      untouched = to.untouched;
    }

  -- ---- every copy

  module _ (source dest : PathValue) (top : Key) where
    step_reads : (records : List Logged) (steps : List CopyStep) → records ≡ map (logged_step source.key dest.key) steps → AreSeen sight records → (x : Key) → IsIn (record { at = x; op = ops.Copy; outcome = Granted }) steps → sight.reads (source.key ++ x) ≡ true
    step_reads records steps recorded seen x i =
        seen (logged_step source.key dest.key (record { at = x; op = ops.Copy; outcome = Granted }))
        (subst (IsIn (logged_step source.key dest.key (record { at = x; op = ops.Copy; outcome = Granted }))) (sym recorded) (in_map (logged_step source.key dest.key) (record { at = x; op = ops.Copy; outcome = Granted }) steps i)) tt

    follows_partial : (records : List Logged) (steps : List CopyStep) → records ≡ map (logged_step source.key dest.key) steps → AreSeen sight records → IsLawfulCopy source.key top dest.key old new steps → Follows sight new (λ after. IsLawfulCopy source.key top dest.key other after steps)
    follows_partial records steps recorded seen copy =
        let reads = step_reads records steps recorded seen in
        followed (copy_too source.key top dest.key steps copy reads) (follows_steps source.key top dest.key steps copy reads)

    follows_tree : (records : List Logged) (steps : List CopyStep) (names : List Item) → records ≡ map (logged_step source.key dest.key) steps → AreSeen sight records → CopiesTree source dest top old new steps names → Follows sight new (λ after. CopiesTree source dest top other after steps names)
    follows_tree records steps names recorded seen copies =
        followed (λ after lawful. record {
          lawful = lawful;
          whole = whole_too (snapshot old.tree source.key top) (snapshot other.tree source.key top) (snapshot_kinds source.key top) steps copies.whole;
          named = subst (λ ns. IsPermutation ns names) (sym (same_names (snapshot old.tree source.key top) (snapshot other.tree source.key top) (snapshot_kinds source.key top) source dest false steps)) copies.named;
          missed = λ x there. copies.missed x (not_none (snapshot other.tree source.key top x) (snapshot old.tree source.key top x) (sym (snapshot_kinds source.key top x)) there);
        }) (follows_partial records steps recorded seen copies.lawful)

    -- ---- of Depth 0

    placing_of : Contents → Option Node → Call
    placing_of contents (Some Directory) = create_dir_call contents dest.key
    placing_of contents (Some (File bytes)) = copy_call contents source.key dest.key
    placing_of contents None = copy_call contents source.key dest.key

    placing_is : (contents : Contents) → placing_call contents source.key dest.key ≡ placing_of contents (get contents.tree source.key)
    unfolding placing_of
    placing_is contents = refl

    same_placing : placing_call other source.key dest.key ≡ placing_call old source.key dest.key
    unfolding placing_of
    same_placing = placing_is other ∙ by (get old.tree source.key) (get other.tree source.key) (kinds_of source.key) ∙ sym (placing_is old)
      where
        by : (o p : Option Node) → option_map kind p ≡ option_map kind o → placing_of other p ≡ placing_of old o
        by None None kinds = same_copy sight old other (looks_alike sight old other alike) source.key dest.key
        by None (Some node) kinds = absurd cc
        by (Some node) None kinds = absurd cc
        by (Some Directory) (Some Directory) kinds = same_make sight old other (looks_alike sight old other alike) dest.key
        by (Some Directory) (Some (File bytes)) kinds = absurd cc
        by (Some (File bytes)) (Some Directory) kinds = absurd cc
        by (Some (File bytes)) (Some (File others)) kinds = same_copy sight old other (looks_alike sight old other alike) source.key dest.key

    same_refusal : (e : FsError) → refusal_names source dest (get other.tree source.key) e ≡ refusal_names source dest (get old.tree source.key) e
    same_refusal e = by (get old.tree source.key) (get other.tree source.key) (kinds_of source.key)
      where
        by : (o p : Option Node) → option_map kind p ≡ option_map kind o → refusal_names source dest p e ≡ refusal_names source dest o e
        by None None kinds = refl
        by None (Some node) kinds = absurd cc
        by (Some node) None kinds = absurd cc
        by (Some Directory) (Some Directory) kinds = refl
        by (Some Directory) (Some (File bytes)) kinds = absurd cc
        by (Some (File bytes)) (Some Directory) kinds = absurd cc
        by (Some (File bytes)) (Some (File others)) kinds = refl

    -- the effect of the call
    Placed : Contents → Contents → Option Node → Type 0
    Placed before after (Some Directory) = IsMadeAt dest.key before after
    Placed before after (Some (File bytes)) = IsCopiedTo source.key dest.key before after
    Placed before after None = IsCopiedTo source.key dest.key before after

    placed_is : (before after : Contents) → IsPlaced source.key dest.key before after ≡ Placed before after (get before.tree source.key)
    unfolding Placed
    placed_is before after = refl

    follows_placed : AreSeen sight (record_of (placing_call old source.key dest.key) Granted ∷ []) → IsPlaced source.key dest.key old new → Follows sight new (IsPlaced source.key dest.key other)
    unfolding Placed placing_of
    follows_placed seen placed =
        followed (λ after p. subst (λ T. T) (sym (placed_is other after)) p)
        (by (get old.tree source.key) (get other.tree source.key) (kinds_of source.key) (subst (λ c. AreSeen sight (record_of c Granted ∷ [])) (placing_is old) seen) (subst (λ T. T) (placed_is old new) placed))
      where
        by : (o p : Option Node) → option_map kind p ≡ option_map kind o → AreSeen sight (record_of (placing_of old o) Granted ∷ []) → Placed old new o → Follows sight new (λ after. Placed other after p)
        by None None kinds seen placed = follows_copied sight old new other alike source.key dest.key (seen (record_of (copy_call old source.key dest.key) Granted) (inl refl) tt) placed
        by None (Some node) kinds seen placed = absurd cc
        by (Some node) None kinds seen placed = absurd cc
        by (Some Directory) (Some Directory) kinds seen placed = follows_made sight old new other alike dest.key placed
        by (Some Directory) (Some (File bytes)) kinds seen placed = absurd cc
        by (Some (File bytes)) (Some Directory) kinds seen placed = absurd cc
        by (Some (File bytes)) (Some (File others)) kinds seen placed = follows_copied sight old new other alike source.key dest.key (seen (record_of (copy_call old source.key dest.key) Granted) (inl refl) tt) placed

    follows_ended : (names : List Item) (outcome : Outcome) → AreSeen sight (record_of (placing_call old source.key dest.key) outcome ∷ []) → EndsAlone source dest old new names outcome → Follows sight new (λ after. EndsAlone source dest other after names outcome)
    follows_ended names Granted seen ended = followed (λ after placed. (placed, ended.1)) (follows_placed seen ended.0)
    follows_ended names (Barred e) seen ended = followed (λ after same. (same, ended.1 ∙ sym (same_refusal e))) (follows_same alike ended.0)
    follows_ended names (Refused e) seen ended = followed (λ after same. (same, ended.1 ∙ sym (same_refusal e))) (follows_same alike ended.0)

    looked : metadata_call other source.key ≡ metadata_call old source.key
    looked = same_metadata sight old other (looks_alike sight old other alike) source.key

    follows_alone : (records : List Logged) (names : List Item) → AreSeen sight records → CopiesAlone source dest old new records names → Follows sight new (λ after. CopiesAlone source dest other after records names)
    follows_alone records names seen (inl unlooked) = followed (λ after same. inl (record {
      outcome = unlooked.outcome;
      error = unlooked.error;
      cause = unlooked.cause;
      called = unlooked.called ∙ ap (λ c. record_of c unlooked.outcome ∷ []) (sym looked);
      lawful = subst (λ (c : Call). IsLawful c.bar unlooked.outcome) (sym looked) unlooked.lawful;
      same = same;
      named = unlooked.named;
    })) (follows_same alike unlooked.same)
    follows_alone records names seen (inr placed) = followed (λ after ended. inr (record {
      outcome = placed.outcome;
      called = placed.called ∙ (λ i. record_of (sym looked i) Granted ∷ record_of (sym same_placing i) placed.outcome ∷ []);
      there = not_none (get old.tree source.key) (get other.tree source.key) (kinds_of source.key) placed.there;
      lawful = subst (λ (c : Call). IsLawful c.bar placed.outcome) (sym same_placing) placed.lawful;
      ended = ended;
    })) (follows_ended names placed.outcome (λ call i. subst (AreSeen sight) placed.called seen call (inr i)) placed.ended)

    pub follows_copies : (depth : Depth) (records : List Logged) (names : List Item) → AreSeen sight records → CopiesAll depth source dest top old new records names → Follows sight new (λ after. CopiesAll depth source dest top other after records names)
    follows_copies Zero records names seen c = follows_alone records names seen c
    follows_copies One records names seen c = followed (λ after leads. (c.0, c.1, leads)) (follows_tree records c.0 names c.1 seen c.2)
    follows_copies Infinity records names seen c = followed (λ after leads. (c.0, c.1, leads)) (follows_tree records c.0 names c.1 seen c.2)
    follows_copies Default records names seen c = followed (λ after leads. (c.0, c.1, leads)) (follows_tree records c.0 names c.1 seen c.2)

    unplaced_too : (records : List Logged) → ((records ≡ []) ⊎ (records ≡ record_of (metadata_call old source.key) Granted ∷ [])) → (records ≡ []) ⊎ (records ≡ record_of (metadata_call other source.key) Granted ∷ [])
    unplaced_too records (inl none) = inl none
    unplaced_too records (inr called) = inr (called ∙ ap (λ c. record_of c Granted ∷ []) (sym looked))

    pub follows_copies_part : (depth : Depth) (records : List Logged) → AreSeen sight records → CopiesInPart depth source dest top old new records → Follows sight new (λ after. CopiesInPart depth source dest top other after records)
    follows_copies_part Zero records seen (inl unplaced) = followed (λ after same. inl (unplaced_too records unplaced.0, same)) (follows_same alike unplaced.1)
    follows_copies_part Zero records seen (inr alone) = followed (λ after leads. inr (alone.0, leads)) (follows_alone records alone.0 seen alone.1)
    follows_copies_part One records seen c = followed (λ after leads. (c.0, c.1, leads)) (follows_partial records c.0 c.1 seen c.2)
    follows_copies_part Infinity records seen c = followed (λ after leads. (c.0, c.1, leads)) (follows_partial records c.0 c.1 seen c.2)
    follows_copies_part Default records seen c = followed (λ after leads. (c.0, c.1, leads)) (follows_partial records c.0 c.1 seen c.2)

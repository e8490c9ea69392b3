-- A deletion over contents that look alike: a caller cannot distinguish them, and what it leaves looks alike too.
use Rattle.std.proofs.Common.{◌≡◌, ◌≢◌, ◌⊎◌, ◌∙◌, Bool, true, false, cond, ◌||◌, List, [], ◌∷◌, ◌++◌, filter, length, ◌≤◌, ◌*◌, Option, Some, None, refl, sym, ap, subst, inl, inr}
use Rattle.std.specs.Prelude.{◌&&◌}
use Rattle.std.specs.Option.{option_map, is_some}
use Rattle.std.specs.List.{list_any}
use Rattle.std.specs.FinMap.{get}
use Rattle.std.proofs.lemmas.Bool.{and_parts}
use Rattle.dav_key.specs.Key.{Key}
use Rattle.dav_key.specs.Below.{is_at_or_below}
use Rattle.dav_resource.specs.PathText.{PathValue}
use Rattle.dav_resource.specs.declared.error.FsError.{FsError}
use Rattle.dav_resource.specs.declared.record.Op.{Op}
use Rattle.dav_resource.specs.declared.record.Op.TheVariants as ops
use Rattle.dav_resource.specs.declared.record.Outcome.{Outcome}
use Rattle.dav_resource.specs.declared.record.Outcome.TheVariants.{Granted, Barred, Refused}
use Rattle.dav_resource.specs.declared.request.Depth.{Depth}
use Rattle.dav_resource.specs.declared.request.Depth.TheVariants.{Zero, One, Infinity, Default}
use Rattle.dav_store.specs.BelowLaws.{at_or_below-append, at_or_below-tail}
use Rattle.dav_store.specs.Logged.{Logged}
use Rattle.dav_store.specs.Store.{Node, File, Directory, Quota, Contents}
use Rattle.dav_store.specs.Calls.{Call, IsLawful, record_of, limit_of, error_of}
use Rattle.dav_store.specs.Members.{remove_file_call, remove_dir_call}
use Rattle.dav_messages.specs.Multistatus.{Item}
use Rattle.dav_walks.specs.KeyCall.{KeyCall, standing, path_to}
use Rattle.dav_walks.specs.Deletion.{subtree, Calls, calls_below, IsReached, IsMemberOfReached, Fits, IsRemoval, WasRefused, NothingRemoved, IsLawfulRemoval, Deletes, removal_call, RemovesAlone, Removes, RemovesInPart, is_call}
use Rattle.dav_access.specs.Sight.{Sight, kind}
use Rattle.dav_access.proofs.AlikeCalls.{same_none, same_keys, same_remove_file, same_remove_dir}
use Rattle.dav_access.proofs.Shadow.{Standing, IsLike, sound_nothing, like_same, Mirrored, looks_alike, shadow, shadow_standing, shadow_mirrored}
use Rattle.dav_access.proofs.AlikeChanges.{Follows, followed, follows_same, follows_removed}

-- ---- whether anything was removed

is_removal : Op → Bool
is_removal ops.RemoveFile = true
is_removal ops.RemoveDir = true
is_removal op = false

is_granted : Outcome → Bool
is_granted Granted = true
is_granted (Barred e) = false
is_granted (Refused e) = false

was_removal : KeyCall → Bool
was_removal call = is_removal call.op && is_granted call.outcome

removal_op : (op : Op) → IsRemoval op → is_removal op ≡ true
unfolding is_removal
removal_op op (inl e) = ap is_removal e
removal_op op (inr e) = ap is_removal e

op_removal : (op : Op) → is_removal op ≡ true → IsRemoval op
unfolding is_removal
op_removal ops.RemoveFile is = inl refl
op_removal ops.RemoveDir is = inr refl
op_removal op is = absurd cc

is_granted_by : (outcome : Outcome) → is_granted outcome ≡ true → outcome ≡ Granted
unfolding is_granted
is_granted_by Granted is = refl
is_granted_by (Barred e) is = absurd cc
is_granted_by (Refused e) is = absurd cc

none_granted : (outcome : Outcome) → is_granted outcome ≡ false → WasRefused outcome
unfolding is_granted
none_granted outcome none same = let no : true ≡ false = sym (ap is_granted same) ∙ none in cc

neither : (a b : Bool) → (a || b) ≡ false → (a ≡ false) × (b ≡ false)
neither true b is = absurd cc
neither false b is = (refl, is)

nothing_removed : (calls : List KeyCall) → list_any was_removal calls ≡ false → NothingRemoved calls
unfolding was_removal
nothing_removed [] none call is removes = absurd is
nothing_removed (first ∷ calls) none call (inl same) removes =
    none_granted call.outcome (by (is_removal call.op) (is_granted call.outcome) (removal_op call.op removes) (ap was_removal (sym same) ∙ (neither (was_removal first) (list_any was_removal calls) none).0))
  where
    by : (a b : Bool) → a ≡ true → (a && b) ≡ false → b ≡ false
    by true b is both = both
    by false b is both = absurd cc
nothing_removed (first ∷ calls) none call (inr later) removes = nothing_removed calls (neither (was_removal first) (list_any was_removal calls) none).1 call later removes

something_removed : (calls : List KeyCall) → list_any was_removal calls ≡ true → NothingRemoved calls → ⊥
unfolding was_removal
something_removed [] some none = absurd cc
something_removed (first ∷ calls) some none = by (was_removal first) refl some (λ whole. something_removed calls whole (λ call i. none call (inr i)))
  where
    by : (b : Bool) → was_removal first ≡ b → (b || list_any was_removal calls) ≡ true → (list_any was_removal calls ≡ true → ⊥) → ⊥
    by true is whole later = let parts = and_parts (is_removal first.op) (is_granted first.outcome) is in none first (inl refl) (op_removal first.op parts.0) (is_granted_by first.outcome parts.1)
    by false is whole later = later whole

-- ---- what is left

module _ (sight : Sight) (old new other : Contents) (alike : Mirrored sight old other) where
  -- where something is left, it is what the other contents have
  abbrev pub left_there : Key → Standing
  left_there key = cond (is_some (get new.tree key)) (standing other key) (None, None)

  gone_there : (key : Key) → get new.tree key ≡ None → left_there key ≡ (None, None)
  gone_there key none = ap (λ o. cond (is_some o) (standing other key) (None, None)) none

  kept_there : (key : Key) (node : Node) → get new.tree key ≡ Some node → left_there key ≡ standing other key
  kept_there key node some = ap (λ o. cond (is_some o) (standing other key) (None, None)) some

  kinds_of : (key : Key) → option_map kind (get other.tree key) ≡ option_map kind (get old.tree key)
  kinds_of key = (alike.like key).kinds

  -- where the other contents have no node, they have no properties
  nothing : (key : Key) → get other.tree key ≡ None → standing other key ≡ (None, None)
  nothing key none i = (none i, (alike.like key).sound.bare none i)

  missing : (key : Key) → get old.tree key ≡ None → get other.tree key ≡ None
  missing key none = same_none (get old.tree key) (get other.tree key) (kinds_of key) none

  -- what is unchanged in the one is unchanged in the other
  unchanged : (key : Key) → standing new key ≡ standing old key → left_there key ≡ standing other key
  unchanged key same = by (get new.tree key) refl
    where
      by : (o : Option Node) → get new.tree key ≡ o → left_there key ≡ standing other key
      by None none = gone_there key none ∙ sym (nothing key (missing key (sym (ap (λ (s : Standing). s.0) same) ∙ none)))
      by (Some node) some = kept_there key node some

  -- what is unchanged here is unchanged there, and what is gone here is gone there
  record Leaves (after : Contents) : Type 0 where
    same : (key : Key) → standing new key ≡ standing old key → standing after key ≡ standing other key
    gone : (key : Key) → get new.tree key ≡ None → standing after key ≡ (None, None)
    limit : limit_of after ≡ limit_of other

  -- if nothing changes, it is so of the other contents themselves
  leaves_other : new ≡ old → Leaves other
  leaves_other nothing_new = record {
    same = λ key same. refl;
    gone = λ key none. nothing key (missing key (ap (λ c. get c.tree key) (sym nothing_new) ∙ none));
    limit = refl;
  }

  module _ (kept : (key : Key) → (standing new key ≡ standing old key) ⊎ (standing new key ≡ (None, None))) where
    left_like : (key : Key) → IsLike (sight.lists key) (sight.reads key) (standing new key) (left_there key)
    left_like key = by (kept key)
      where
        by : (standing new key ≡ standing old key) ⊎ (standing new key ≡ (None, None)) → IsLike (sight.lists key) (sight.reads key) (standing new key) (left_there key)
        by (inl same) =
            subst (IsLike (sight.lists key) (sight.reads key) (standing new key)) (sym (unchanged key same))
            (subst (λ s. IsLike (sight.lists key) (sight.reads key) s (standing other key)) (sym same) (alike.like key))
        by (inr none) =
            subst (IsLike (sight.lists key) (sight.reads key) (standing new key)) (sym (gone_there key (ap (λ (s : Standing). s.0) none)))
            (subst (λ s. IsLike (sight.lists key) (sight.reads key) s (None, None)) (sym none) (like_same (sight.lists key) (sight.reads key) (None, None) sound_nothing))

    -- what the other contents are then
    abbrev pub leftover : Contents
    leftover = shadow sight new left_there

    leftover_standing : (key : Key) → standing leftover key ≡ left_there key
    leftover_standing = shadow_standing sight new left_there left_like

    leftover_same : (key : Key) → standing new key ≡ standing old key → standing leftover key ≡ standing other key
    leftover_same key same = leftover_standing key ∙ unchanged key same

    leftover_gone : (key : Key) → get new.tree key ≡ None → standing leftover key ≡ (None, None)
    leftover_gone key none = leftover_standing key ∙ gone_there key none

    leftover_limit : limit_of new ≡ limit_of old → limit_of leftover ≡ limit_of other
    leftover_limit same = same ∙ ap (option_map (λ (q : Quota). q.total)) (sym alike.quota)

    leaves_left : limit_of new ≡ limit_of old → Leaves leftover
    leaves_left same = record { same = leftover_same; gone = leftover_gone; limit = leftover_limit same }

    follows_left : (Leads : Contents → Type 0) → Leads leftover → Follows sight new Leads
    follows_left Leads leads = record { after = leftover; leads = leads; alike = shadow_mirrored sight new left_there left_like }

  -- ---- of Depth 0

  -- the call that removes what is there
  removal_of : Contents → Key → Option Node → Call
  removal_of contents key (Some Directory) = remove_dir_call contents key
  removal_of contents key (Some (File bytes)) = remove_file_call contents key
  removal_of contents key None = remove_file_call contents key

  removal_is : (contents : Contents) (key : Key) → removal_call contents key ≡ removal_of contents key (get contents.tree key)
  unfolding removal_of
  removal_is contents key = refl

  same_removal : (key : Key) → removal_call other key ≡ removal_call old key
  unfolding removal_of
  same_removal key = removal_is other key ∙ by (get old.tree key) (get other.tree key) (kinds_of key) ∙ sym (removal_is old key)
    where
      by : (o p : Option Node) → option_map kind p ≡ option_map kind o → removal_of other key p ≡ removal_of old key o
      by None None kinds = same_remove_file sight old other (looks_alike sight old other alike) key
      by None (Some node) kinds = absurd cc
      by (Some node) None kinds = absurd cc
      by (Some Directory) (Some Directory) kinds = same_remove_dir sight old other (looks_alike sight old other alike) key
      by (Some Directory) (Some (File bytes)) kinds = absurd cc
      by (Some (File bytes)) (Some Directory) kinds = absurd cc
      by (Some (File bytes)) (Some (File others)) kinds = same_remove_file sight old other (looks_alike sight old other alike) key

  follows_alone : (path : PathValue) (records : List Logged) (names : List Item) → RemovesAlone path old new records names → Follows sight new (λ after. RemovesAlone path other after records names)
  follows_alone path records names alone = by alone.outcome refl
    where
      called : records ≡ record_of (removal_call other path.key) alone.outcome ∷ []
      called = alone.called ∙ ap (λ c. record_of c alone.outcome ∷ []) (sym (same_removal path.key))

      lawful : IsLawful (removal_call other path.key).bar alone.outcome
      lawful = subst (λ (c : Call). IsLawful c.bar alone.outcome) (sym (same_removal path.key)) alone.lawful

      not_granted : (e : FsError) → error_of alone.outcome ≡ Some e → Follows sight new (λ after. RemovesAlone path other after records names)
      not_granted e cause =
          let ends = alone.refused e cause in
          followed (λ after same. record {
            outcome = alone.outcome;
            called = called;
            lawful = lawful;
            granted = λ granted. absurd (let no : None ≡ Some e = ap error_of (sym granted) ∙ cause in cc);
            refused = λ d is. (same, (alone.refused d is).1);
          }) (follows_same alike ends.0)

      by : (outcome : Outcome) → alone.outcome ≡ outcome → Follows sight new (λ after. RemovesAlone path other after records names)
      by Granted granted =
          let ends = alone.granted granted in
          followed (λ after removed. record {
            outcome = alone.outcome;
            called = called;
            lawful = lawful;
            granted = λ _. (removed, ends.1);
            refused = λ d is. absurd (let no : None ≡ Some d = ap error_of (sym granted) ∙ is in cc);
          }) (follows_removed sight old new other alike path.key ends.0)
      by (Barred e) barred = not_granted e (ap error_of barred)
      by (Refused e) refused = not_granted e (ap error_of refused)

  -- ---- of any other Depth

  module _ (p : Key) (calls : List KeyCall) (removal : IsLawfulRemoval p old new calls) where
    kept_or_gone : (key : Key) → (standing new key ≡ standing old key) ⊎ (standing new key ≡ (None, None))
    kept_or_gone key = by (is_at_or_below key p) refl
      where
        outside : is_at_or_below key p ≡ false → (x : Key) → key ≢ p ++ x
        outside apart x same = let no : true ≡ false = sym (at_or_below-append p x) ∙ ap (λ k. is_at_or_below k p) (sym same) ∙ apart in cc

        by : (b : Bool) → is_at_or_below key p ≡ b → (standing new key ≡ standing old key) ⊎ (standing new key ≡ (None, None))
        by true below = let tail = at_or_below-tail p key below in subst (λ k. (standing new k ≡ standing old k) ⊎ (standing new k ≡ (None, None))) (sym tail.1) (removal.kept_or_gone tail.0)
        by false apart = inl (removal.outside key (outside apart))

    some_there : (key : Key) → get old.tree key ≢ None → get other.tree key ≢ None
    some_there key some none = some (same_none (get other.tree key) (get old.tree key) (sym (kinds_of key)) none)

    some_here : (key : Key) → get other.tree key ≢ None → get old.tree key ≢ None
    some_here key some none = some (missing key none)

    reached : (cs : Calls) (x : Key) → IsReached (subtree old.tree p) cs x → IsReached (subtree other.tree p) cs x
    reached cs x r = (some_there (p ++ x) r.0, r.1)

    member : (cs : Calls) (x : Key) → IsMemberOfReached (subtree old.tree p) cs x → IsMemberOfReached (subtree other.tree p) cs x
    member cs x m = (m.0, m.1, m.2, reached cs m.0 m.3)

    fits : (op : Op) (o q : Option Node) → option_map kind q ≡ option_map kind o → Fits o op → Fits q op
    fits op None None kinds f = f
    fits op None (Some node) kinds f = absurd cc
    fits op (Some node) None kinds f = absurd cc
    fits op (Some Directory) (Some Directory) kinds f = f
    fits op (Some Directory) (Some (File bytes)) kinds f = absurd cc
    fits op (Some (File bytes)) (Some Directory) kinds f = absurd cc
    fits op (Some (File bytes)) (Some (File others)) kinds f = as_file op f
      where
        as_file : (op : Op) → Fits (Some (File bytes)) op → Fits (Some (File others)) op
        as_file ops.Entry f = tt
        as_file ops.RemoveFile f = tt
        as_file op f = f

    module _ (after : Contents) (leaves : Leaves after) where
      emptied : (x : Key) → get other.tree (p ++ x) ≢ None → get after.tree (p ++ x) ≡ None → get new.tree (p ++ x) ≡ None
      emptied x there none = by (removal.kept_or_gone x)
        where
          by : (standing new (p ++ x) ≡ standing old (p ++ x)) ⊎ (standing new (p ++ x) ≡ (None, None)) → get new.tree (p ++ x) ≡ None
          by (inl same) = absurd (there (sym (ap (λ (s : Standing). s.0) (leaves.same (p ++ x) same)) ∙ none))
          by (inr gone) = ap (λ (s : Standing). s.0) gone

      -- the same deletion of the other contents
      removal_too : (NothingRemoved calls → after ≡ other) → IsLawfulRemoval p other after calls
      removal_too untouched = record {
        within = removal.within;
        reached = λ x c i. either (λ e. inl e) (λ r. inr (reached (calls_below calls p) x r)) (removal.reached x c i);
        entries = λ x outcome i. member (calls_below calls p) x (removal.entries x outcome i);
        fits = λ call i. fits call.op (get old.tree call.key) (get other.tree call.key) (kinds_of call.key) (removal.fits call i);
        once = removal.once;
        few = removal.few;
        bound = subst (λ ks. length (filter (λ call. is_call call.op) calls) ≤ 2 * length (filter (λ key. is_some (path_to p key)) ks)) (sym (same_keys sight old other (looks_alike sight old other alike))) removal.bound;
        barred = removal.barred;
        own = removal.own;
        kept_or_gone = λ x. either (λ same. inl (leaves.same (p ++ x) same)) (λ none. inr (leaves.gone (p ++ x) (ap (λ (s : Standing). s.0) none))) (removal.kept_or_gone x);
        outside = λ key apart. leaves.same key (removal.outside key apart);
        limit = leaves.limit;
        removed = λ x was. ap (λ (s : Standing). s.0) (leaves.gone (p ++ x) (removal.removed x was));
        gone = λ x there none. removal.gone x (some_here (p ++ x) there) (emptied x there none);
        untouched = untouched;
      }
        where
          either : {A B C : Type 0} → (A → C) → (B → C) → A ⊎ B → C
          either f g (inl a) = f a
          either f g (inr b) = g b

    -- it leads to contents that look alike
    follows_removal : Follows sight new (λ after. Leaves after × (NothingRemoved calls → after ≡ other))
    follows_removal = by (list_any was_removal calls) refl
      where
        by : (b : Bool) → list_any was_removal calls ≡ b → Follows sight new (λ after. Leaves after × (NothingRemoved calls → after ≡ other))
        by true some = follows_left kept_or_gone (λ after. Leaves after × (NothingRemoved calls → after ≡ other)) (leaves_left kept_or_gone removal.limit, λ none. absurd (something_removed calls some none))
        by false none =
            let same : new ≡ old = removal.untouched (nothing_removed calls none) in
            record { after = other; leads = (leaves_other same, λ _. refl); alike = subst (λ c. Mirrored sight c other) (sym same) alike }

  -- ---- every deletion

  follows_calls : (p : Key) (calls : List KeyCall) → IsLawfulRemoval p old new calls → Follows sight new (λ after. IsLawfulRemoval p other after calls)
  follows_calls p calls removal = followed (λ after leads. removal_too p calls removal after leads.0 leads.1) (follows_removal p calls removal)

  follows_deletes : (path : PathValue) (calls : List KeyCall) (names : List Item) → Deletes path old new calls names → Follows sight new (λ after. Deletes path other after calls names)
  follows_deletes path calls names deletes = followed (λ after leads. record {
    lawful = removal_too path.key calls deletes.lawful after leads.0 leads.1;
    named = deletes.named;
    left = λ x there. deletes.left x (λ none. there (ap (λ (s : Standing). s.0) (leads.0.gone (path.key ++ x) none)));
    same = λ x left. leads.0.same (path.key ++ x) (deletes.same x left);
  }) (follows_removal path.key calls deletes.lawful)

  pub follows_removes : (depth : Depth) (path : PathValue) (records : List Logged) (names : List Item) → Removes depth path old new records names → Follows sight new (λ after. Removes depth path other after records names)
  follows_removes Zero path records names r = follows_alone path records names r
  follows_removes One path records names r = followed (λ after leads. (r.0, r.1, leads)) (follows_deletes path r.0 names r.2)
  follows_removes Infinity path records names r = followed (λ after leads. (r.0, r.1, leads)) (follows_deletes path r.0 names r.2)
  follows_removes Default path records names r = followed (λ after leads. (r.0, r.1, leads)) (follows_deletes path r.0 names r.2)

  pub follows_part : (depth : Depth) (path : PathValue) (records : List Logged) → RemovesInPart depth path old new records → Follows sight new (λ after. RemovesInPart depth path other after records)
  follows_part Zero path records (inl none) = followed (λ after same. inl (none.0, same)) (follows_same alike none.1)
  follows_part Zero path records (inr alone) = followed (λ after leads. inr (alone.0, leads)) (follows_alone path records alone.0 alone.1)
  follows_part One path records r = followed (λ after leads. (r.0, r.1, leads)) (follows_calls path.key r.0 r.2)
  follows_part Infinity path records r = followed (λ after leads. (r.0, r.1, leads)) (follows_calls path.key r.0 r.2)
  follows_part Default path records r = followed (λ after leads. (r.0, r.1, leads)) (follows_calls path.key r.0 r.2)

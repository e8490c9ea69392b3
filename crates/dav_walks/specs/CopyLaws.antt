-- Consequences for every copy, whatever the store refuses.
use Rattle.std.proofs.Common.{◌≡◌, ◌≢◌, ◌∙◌, ◌⊎◌, Bool, true, false, Some, None, List, [], ◌∷◌, ◌++◌, Option, ap, refl, sym, inl, inr, subst}
use Rattle.std.specs.Prelude.{not, ◌&&◌, if◌then◌else◌}
use Rattle.std.specs.List.{cons_option}
use Rattle.std.specs.FinMap.{get}
use Rattle.dav_key.specs.Key.{Key}
use Rattle.dav_resource.specs.PathText.{PathValue}
use Rattle.dav_resource.specs.Errors.{fs_status}
use Rattle.dav_resource.specs.declared.error.FsError.{FsError}
use Rattle.dav_resource.specs.declared.error.FsError.TheVariants.{Exists}
use Rattle.dav_resource.specs.declared.record.Outcome.{Outcome}
use Rattle.dav_resource.specs.declared.record.Outcome.TheVariants.{Granted, Barred, Refused}
use Rattle.dav_resource.specs.declared.request.Depth.{Depth}
use Rattle.dav_resource.specs.declared.request.Depth.TheVariants.{Zero, One, Infinity, Default}
use Rattle.dav_store.specs.Logged.{Logged}
use Rattle.dav_store.specs.Store.{Contents, Node, File, Directory}
use Rattle.dav_store.specs.Calls.{IsMadeAt}
use Rattle.dav_store.specs.Transfers.{IsCopiedTo}
use Rattle.dav_store.specs.Members.{IsIn}
use Rattle.dav_store.specs.MemberLaws.{IsIn-unpermuted}
use Rattle.dav_messages.specs.Multistatus.{Item}
use Rattle.dav_walks.specs.KeyCall.{standing}
use Rattle.dav_walks.specs.Deletion.{Subtree, is_call}
use Rattle.dav_walks.specs.Copying.{CopyStep, IsMade, copied, snapshot, named_by_step, named_once, names_behind, IsLawfulCopy, CopiesTree}
use Rattle.dav_walks.specs.Copied.{IsPlaced, refusal_names, EndsAlone, CopiesAlone, CopiesAll, CopiesInPart}
use Rattle.dav_walks.specs.PutLaws.{put_elsewhere, put_at_elsewhere}
use Rattle.dav_walks.specs.RemovalLaws.{append-nothing}

-- a copy that came to its end is one that may be incomplete
pub whole_copy_in_part : (depth : Depth) (source dest : PathValue) (top : Key) (old new : Contents) (records : List Logged) (names : List Item) → CopiesAll depth source dest top old new records names → CopiesInPart depth source dest top old new records
whole_copy_in_part Zero source dest top old new records names c = inr (names, c)
whole_copy_in_part One source dest top old new records names c = (c.0, c.1, c.2.lawful)
whole_copy_in_part Infinity source dest top old new records names c = (c.0, c.1, c.2.lawful)
whole_copy_in_part Default source dest top old new records names c = (c.0, c.1, c.2.lawful)

-- ---- nothing changes except at the destination and below it

module _ (source dest : PathValue) (old new : Contents) (q : Key) (apart : q ≢ dest.key) where
  made_elsewhere : IsMadeAt dest.key old new → standing new q ≡ standing old q
  made_elsewhere m i = ((ap (λ t. get t q) m.tree ∙ put_elsewhere old.tree dest.key q Directory apart) i, ap (λ p. get p q) m.properties i)

  copied_elsewhere : IsCopiedTo source.key dest.key old new → standing new q ≡ standing old q
  copied_elsewhere m i = ((ap (λ t. get t q) m.tree ∙ put_elsewhere old.tree dest.key q _ apart) i, (ap (λ p. get p q) m.properties ∙ put_at_elsewhere old.properties dest.key q _ apart) i)

  placed_elsewhere : IsPlaced source.key dest.key old new → standing new q ≡ standing old q
  placed_elsewhere placed = by_node (get old.tree source.key) refl placed
    where
      by_node : (it : Option Node) → get old.tree source.key ≡ it → IsPlaced source.key dest.key old new → standing new q ≡ standing old q
      by_node None is p = copied_elsewhere (rw is at p)
      by_node (Some Directory) is p = made_elsewhere (rw is at p)
      by_node (Some (File bytes)) is p = copied_elsewhere (rw is at p)

  ended_elsewhere : (names : List Item) (outcome : Outcome) → EndsAlone source dest old new names outcome → standing new q ≡ standing old q
  ended_elsewhere names Granted end = placed_elsewhere end.0
  ended_elsewhere names (Barred e) end = ap (λ c. standing c q) end.0
  ended_elsewhere names (Refused e) end = ap (λ c. standing c q) end.0

  alone_elsewhere : (records : List Logged) (names : List Item) → CopiesAlone source dest old new records names → standing new q ≡ standing old q
  alone_elsewhere records names (inl unlooked) = ap (λ c. standing c q) unlooked.same
  alone_elsewhere records names (inr placed) = ended_elsewhere names placed.outcome placed.ended

pub copies_within : (depth : Depth) (source dest : PathValue) (top : Key) (old new : Contents) (records : List Logged) → CopiesInPart depth source dest top old new records → (q : Key) → ((x : Key) → q ≢ dest.key ++ x) → standing new q ≡ standing old q
copies_within Zero source dest top old new records (inl none) q apart = ap (λ c. standing c q) none.1
copies_within Zero source dest top old new records (inr alone) q apart = alone_elsewhere source dest old new q (λ e. apart [] (e ∙ sym (append-nothing dest.key))) records alone.0 alone.1
copies_within One source dest top old new records c q apart = c.2.others q (λ x made. apart x)
copies_within Infinity source dest top old new records c q apart = c.2.others q (λ x made. apart x)
copies_within Default source dest top old new records c q apart = c.2.others q (λ x made. apart x)

-- ---- each reported status is the status of a store error

module _ (source dest : PathValue) (snap : Subtree) where
  named_refusal : (step : CopyStep) (outcome : Outcome) (item : Item) → outcome ≡ step.outcome → IsIn item (cons_option (named_by_step source dest snap (record step { outcome = outcome })) []) → (e : FsError) × (fs_status e ≡ item.1)
  named_refusal step Granted item is i = absurd i
  named_refusal step (Barred e) item is (inl same) = (e, ap (λ (t : Item). t.1) same)
  named_refusal step (Barred e) item is (inr i) = absurd i
  named_refusal step (Refused e) item is (inl same) = (e, ap (λ (t : Item). t.1) same)
  named_refusal step (Refused e) item is (inr i) = absurd i

  first_or_later : (after_unseen : Bool) (step : CopyStep) (item : Item) (names : List Item) → IsIn item (cons_option (named_once source dest snap after_unseen step) names) → IsIn item (cons_option (named_by_step source dest snap step) []) ⊎ IsIn item names
  first_or_later after_unseen step item names i = by_unseen (after_unseen && not (is_call step.op)) i
    where
      by_option : (o : Option Item) → IsIn item (cons_option o names) → IsIn item (cons_option o []) ⊎ IsIn item names
      by_option None j = inr j
      by_option (Some first) (inl e) = inl (inl e)
      by_option (Some first) (inr j) = inr j

      by_unseen : (b : Bool) → IsIn item (cons_option (if b then None else named_by_step source dest snap step) names) → IsIn item (cons_option (named_by_step source dest snap step) []) ⊎ IsIn item names
      by_unseen true j = inr j
      by_unseen false j = by_option (named_by_step source dest snap step) j

  names_refused_behind : (after_unseen : Bool) (steps : List CopyStep) (item : Item) → IsIn item (names_behind source dest snap after_unseen steps) → (e : FsError) × (fs_status e ≡ item.1)
  names_refused_behind after_unseen [] item i = absurd i
  names_refused_behind after_unseen (step ∷ steps) item i = go (first_or_later after_unseen step item (names_behind source dest snap (not (is_call step.op)) steps) i) (names_refused_behind (not (is_call step.op)) steps item)
    where
      go : IsIn item (cons_option (named_by_step source dest snap step) []) ⊎ IsIn item (names_behind source dest snap (not (is_call step.op)) steps)
          → (IsIn item (names_behind source dest snap (not (is_call step.op)) steps) → (e : FsError) × (fs_status e ≡ item.1)) → (e : FsError) × (fs_status e ≡ item.1)
      go (inl first) later = named_refusal step step.outcome item refl first
      go (inr j) later = later j

alone_refused : (source dest : PathValue) (old new : Contents) (records : List Logged) (names : List Item) → CopiesAlone source dest old new records names → (item : Item) → IsIn item names → (e : FsError) × (fs_status e ≡ item.1)
alone_refused source dest old new records names (inl unlooked) item i = (unlooked.error, first (subst (IsIn item) unlooked.named i))
  where
    first : IsIn item ((source, fs_status unlooked.error) ∷ []) → fs_status unlooked.error ≡ item.1
    first (inl same) = ap (λ (t : Item). t.1) same
    first (inr none) = absurd none
alone_refused source dest old new records names (inr placed) item i = by_outcome placed.outcome placed.ended
  where
    one : (path : PathValue) (e : FsError) → IsIn item ((path, fs_status e) ∷ []) → (f : FsError) × (fs_status f ≡ item.1)
    one path e (inl same) = (e, ap (λ (t : Item). t.1) same)
    one path e (inr none) = absurd none

    by_node : (it : Option Node) (e : FsError) → IsIn item (refusal_names source dest it e) → (f : FsError) × (fs_status f ≡ item.1)
    by_node None e j = one source e j
    by_node (Some (File bytes)) e j = one source e j
    by_node (Some Directory) e j = by_error e j
      where
        by_error : (f : FsError) → IsIn item (refusal_names source dest (Some Directory) f) → (g : FsError) × (fs_status g ≡ item.1)
        by_error Exists k = absurd k
        by_error f k = one dest f k

    by_outcome : (outcome : Outcome) → EndsAlone source dest old new names outcome → (f : FsError) × (fs_status f ≡ item.1)
    by_outcome Granted end = absurd (let none : IsIn item [] = subst (IsIn item) end.1 i in none)
    by_outcome (Barred e) end = by_node (get old.tree source.key) e (subst (IsIn item) end.1 i)
    by_outcome (Refused e) end = by_node (get old.tree source.key) e (subst (IsIn item) end.1 i)

pub copy_names_refused : (depth : Depth) (source dest : PathValue) (top : Key) (old new : Contents) (records : List Logged) (names : List Item) → CopiesAll depth source dest top old new records names
    → (item : Item) → IsIn item names → (e : FsError) × (fs_status e ≡ item.1)
copy_names_refused Zero source dest top old new records names c item i = alone_refused source dest old new records names c item i
copy_names_refused One source dest top old new records names c item i = names_refused_behind source dest (snapshot old.tree source.key top) false c.0 item (IsIn-unpermuted _ names item c.2.named i)
copy_names_refused Infinity source dest top old new records names c item i = names_refused_behind source dest (snapshot old.tree source.key top) false c.0 item (IsIn-unpermuted _ names item c.2.named i)
copy_names_refused Default source dest top old new records names c item i = names_refused_behind source dest (snapshot old.tree source.key top) false c.0 item (IsIn-unpermuted _ names item c.2.named i)

-- ---- if nothing is reported, exactly the snapshot is copied

pub record IsCopiedWhole (s top d : Key) (old new : Contents) : Type 0 where
  pub there : (x : Key) → snapshot old.tree s top x ≢ None → standing new (d ++ x) ≡ copied (standing old (s ++ x))
  pub others : (key : Key) → ((x : Key) → snapshot old.tree s top x ≢ None → key ≢ d ++ x) → standing new key ≡ standing old key

in_snapshot : (s top d : Key) (old new : Contents) (steps : List CopyStep) → IsLawfulCopy s top d old new steps → (x : Key) → IsMade x steps → snapshot old.tree s top x ≢ None
in_snapshot s top d old new steps lawful x (inl i) = λ none. let is = (lawful.called_for _ i).0 in let no : Some (File is.0) ≡ None = sym is.1 ∙ none in cc
in_snapshot s top d old new steps lawful x (inr i) = λ none. let no : Some Directory ≡ None = sym (lawful.called_for _ i).0 ∙ none in cc

pub copied_whole : (source dest : PathValue) (top : Key) (old new : Contents) (steps : List CopyStep) → CopiesTree source dest top old new steps [] → IsCopiedWhole source.key top dest.key old new
copied_whole source dest top old new steps copies = record {
  there = λ x present. elim (copies.missed x present) [ inl made ↦ copies.lawful.made x made | inr under ↦ absurd under.4 ];
  others = λ key apart. copies.lawful.others key (λ x made e. apart x (in_snapshot source.key top dest.key old new steps copies.lawful x made) e);
}

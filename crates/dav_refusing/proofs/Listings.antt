-- What a plan leaves of a listing, member by member.
use Rattle.std.proofs.Common.{◌≡◌, ◌∙◌, ℕ, Option, Ok, Err, sym, ap, List, [], ◌∷◌, ◌++◌, ◌<◌, ◌+◌, ◌≤◌, length, get_or, append-nil, append_assoc}
use Rattle.std.proofs.Math.ListN.{set}
use Rattle.dav_resource.specs.PathText.{PathValue}
use Rattle.dav_resource.specs.declared.meta.DirEntry.{DirEntry}
use Rattle.dav_resource.specs.declared.record.Record.{Record}
use Rattle.dav_resource.specs.declared.error.FsError.{FsError}
use Rattle.dav_store.specs.Members.{Child, member}
use Rattle.dav_wrapping.specs.Hiding.{shown_as, hidden_record}
use Rattle.dav_wrapping.specs.Underway as hiding
use Rattle.dav_wrapping.specs.Underway.{Shown}
use Rattle.dav_refusing.specs.Plans.{Plan, Call, why_by, refused_call, refused_calls, IsLetBy}

-- the first members are let be seen as the plan says, and the others are still to come
pub record Underway (plan : Plan) (directory : PathValue) (children : List Child) (all_hidden : List Record) (i : ℕ) (listing : List Shown) (unseen : List Record) (refused : List Call) (hidden : List Record) : Type 0 where
  pub rest : List Child
  pub under : hiding.Underway (why_by plan) directory children all_hidden i listing unseen hidden rest
  pub called : refused ++ refused_calls plan directory.key rest ≡ refused_calls plan directory.key children

pub ends : (plan : Plan) (directory : PathValue) (children : List Child) (all_hidden : List Record) (i : ℕ) (listing : List Shown) (unseen : List Record) (refused : List Call) (hidden : List Record)
    → Underway plan directory children all_hidden i listing unseen refused hidden → length listing ≤ i → IsLetBy plan directory children all_hidden listing unseen refused
ends plan directory children all_hidden i listing unseen refused hidden u all =
    let end = hiding.ends (why_by plan) directory children all_hidden i listing unseen hidden u.rest u.under all in
    record {
      shown = end.1.shown;
      recorded = end.1.recorded;
      refused_are = sym (append-nil refused) ∙ ap (λ rest. refused ++ refused_calls plan directory.key rest) (sym end.0) ∙ u.called;
    }

module _ (plan : Plan) (directory : PathValue) (children : List Child) (all_hidden : List Record) (i : ℕ) (listing next_listing : List Shown) (unseen : List Record) (refused : List Call) (hidden : List Record) (x y : Shown)
    (is : x ≡ get_or listing i x) (inside : i < length listing) (set_is : next_listing ≡ set listing i y) where
  -- a member that the store behind doesn't show
  pub still_hidden : Underway plan directory children all_hidden i listing unseen refused hidden → (e : FsError) (h : Record) (others next_unseen : List Record) (next_refused : List Call) → x ≡ Err e → y ≡ x → hidden ≡ h ∷ others
      → next_unseen ≡ unseen ++ h ∷ [] → next_refused ≡ refused → Underway plan directory children all_hidden (i + 1) next_listing next_unseen next_refused others
  still_hidden u e h others next_unseen next_refused err same some recorded_is refused_is =
      let next = hiding.still_hidden (why_by plan) directory children all_hidden i listing next_listing unseen hidden x y is inside set_is u.rest u.under e h others next_unseen err same some recorded_is in
      record {
        rest = next.1;
        under = next.3;
        called = ap (λ l. l ++ refused_calls plan directory.key next.1) refused_is ∙ ap (λ rest. refused ++ refused_calls plan directory.key rest) (sym next.2) ∙ u.called;
      }

  -- it has left a record
  pub never_unrecorded : Underway plan directory children all_hidden i listing unseen refused hidden → (e : FsError) → x ≡ Err e → hidden ≡ [] → ⊥
  never_unrecorded u = hiding.never_unrecorded (why_by plan) directory children all_hidden i listing next_listing unseen hidden x y is inside set_is u.rest u.under

  -- a member that it shows
  pub let_be_seen : Underway plan directory children all_hidden i listing unseen refused hidden → (entry : DirEntry) (error : Option FsError) (next_unseen : List Record) (next_refused : List Call) (next_hidden : List Record)
      → x ≡ Ok entry → y ≡ shown_as error entry → error ≡ why_by plan (member directory.key entry.name)
      → next_unseen ≡ unseen ++ hidden_record directory entry.name error → next_refused ≡ refused ++ refused_call directory.key entry.name error → next_hidden ≡ hidden
      → Underway plan directory children all_hidden (i + 1) next_listing next_unseen next_refused next_hidden
  let_be_seen u entry error next_unseen next_refused next_hidden ok seen reason recorded_is refused_is hidden_is =
      let next = hiding.let_be_seen (why_by plan) directory children all_hidden i listing next_listing unseen hidden x y is inside set_is u.rest u.under entry error next_unseen next_hidden ok seen reason recorded_is hidden_is in
      record {
        rest = next.0;
        under = next.2;
        called = ap (λ l. l ++ refused_calls plan directory.key next.0) refused_is
            ∙ append_assoc refused (refused_call directory.key entry.name error) (refused_calls plan directory.key next.0)
            ∙ ap (λ e. refused ++ (refused_call directory.key entry.name e ++ refused_calls plan directory.key next.0)) reason
            ∙ ap (λ rest. refused ++ refused_calls plan directory.key rest) (sym next.1)
            ∙ u.called;
      }

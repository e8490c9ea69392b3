-- A listing in which members are hidden one after the other: the invariant of such a loop, and its steps.
use Rattle.std.proofs.Common.{◌≡◌, ◌∙◌, ℕ, Option, Result, Ok, Err, refl, sym, ap, subst, inl, inr, List, [], ◌∷◌, ◌++◌, ◌<◌, ◌+◌, ◌≤◌, map, filter_map, length, take, drop, get_or, arith, append-nil, append_assoc, add-one, drop-cons}
use Rattle.std.proofs.lemmas.List.{take_all, drop_all, take_more_set, drop-set-lt}
use Rattle.std.proofs.Math.ListN.{set}
use Rattle.std.proofs.lemmas.List.Elements.{All-set}
use Rattle.std.specs.Prelude.{IfOk}
use Rattle.dav_resource.specs.PathText.{IsSegment, PathValue}
use Rattle.dav_resource.specs.declared.meta.DirEntry.{DirEntry}
use Rattle.dav_resource.specs.declared.record.Record.{Record}
use Rattle.dav_resource.specs.declared.error.FsError.{FsError}
use Rattle.dav_store.specs.Logged.{logged_of}
use Rattle.dav_store.specs.Members.{Child, member, unseen_record}
use Rattle.dav_wrapping.specs.Hiding.{Why, shown_as, shown_by, hidden_record, hidden_by, AreNamed, HaveSegmentNames}

abbrev pub Shown : Type 0
Shown = Result DirEntry FsError

abbrev pub shown_of : Child → Shown
shown_of c = c.1

-- the members before the `i`th are as the wrapper lists them, and these are still to come
pub record Underway (why : Why) (directory : PathValue) (children : List Child) (all_hidden : List Record) (i : ℕ) (listing : List Shown) (unseen : List Record) (hidden : List Record) (rest : List Child) : Type 0 where
  pub named : AreNamed rest
  pub ahead : drop i listing ≡ map shown_of rest
  pub still : map logged_of hidden ≡ filter_map (unseen_record directory.key) rest
  pub shown : take i listing ++ map shown_of (shown_by why directory.key rest) ≡ map shown_of (shown_by why directory.key children)
  pub recorded : unseen ++ hidden_by why directory rest hidden ≡ hidden_by why directory children all_hidden

-- the listing is as the wrapper lists it, and these are the records of the members that are not listed
pub record IsHidden (why : Why) (directory : PathValue) (children : List Child) (hidden : List Record) (listing : List Shown) (unseen : List Record) : Type 0 where
  pub shown : listing ≡ map shown_of (shown_by why directory.key children)
  pub recorded : unseen ≡ hidden_by why directory children hidden

pub ends : (why : Why) (directory : PathValue) (children : List Child) (all_hidden : List Record) (i : ℕ) (listing : List Shown) (unseen : List Record) (hidden : List Record) (rest : List Child)
    → Underway why directory children all_hidden i listing unseen hidden rest → length listing ≤ i → (rest ≡ []) × IsHidden why directory children all_hidden listing unseen
ends why directory children all_hidden i listing unseen hidden [] u all = (
  refl,
  record {
    shown = sym (take_all i listing all) ∙ sym (append-nil (take i listing)) ∙ u.shown;
    recorded = sym (append-nil unseen) ∙ u.recorded;
  },
)
ends why directory children all_hidden i listing unseen hidden (c ∷ rest) u all = absurd (let none : [] ≡ shown_of c ∷ map shown_of rest = sym (drop_all i listing all) ∙ u.ahead in cc)

-- the next member has the item `x`, in whose place is `y`
module _ (why : Why) (directory : PathValue) (children : List Child) (all_hidden : List Record) (i : ℕ) (listing next_listing : List Shown) (unseen : List Record) (hidden : List Record) (x y : Shown)
    (is : x ≡ get_or listing i x) (inside : i < length listing) (set_is : next_listing ≡ set listing i y) where
  ahead_is : drop i listing ≡ x ∷ drop (i + 1) listing
  ahead_is = drop-cons listing i x inside ∙ (λ j. sym is j ∷ drop (sym (add-one i) j) listing)

  take_next : (others : List Shown) → take (i + 1) next_listing ++ others ≡ take i listing ++ y ∷ others
  take_next others = ap (λ l. take (i + 1) l ++ others) set_is ∙ ap (λ l. l ++ others) (take_more_set listing i y inside) ∙ append_assoc (take i listing) (y ∷ []) others

  drop_next : drop (i + 1) next_listing ≡ drop (i + 1) listing
  drop_next = ap (drop (i + 1)) set_is ∙ drop-set-lt (i + 1) listing i y (omega arith)

  -- what is to come after it
  abbrev pub Next : List Child → List Record → List Record → Type 0
  Next rest next_unseen next_hidden = Underway why directory children all_hidden (i + 1) next_listing next_unseen next_hidden rest

  -- a member that was not listed before stays as it is
  pub still_hidden : (rest : List Child) → Underway why directory children all_hidden i listing unseen hidden rest → (e : FsError) (h : Record) (others next_unseen : List Record) → x ≡ Err e → y ≡ x → hidden ≡ h ∷ others → next_unseen ≡ unseen ++ h ∷ []
      → (name : List ℕ) × (later : List Child) × (rest ≡ (name, Err e) ∷ later) × Next later next_unseen others
  still_hidden rest u e h others next_unseen err same some recorded_is =
      by_rest rest u.named (sym ahead_is ∙ u.ahead) (ap (map logged_of) (sym some) ∙ u.still) u.shown (ap (λ l. unseen ++ hidden_by why directory rest l) (sym some) ∙ u.recorded)
    where
      by_rest : (rest : List Child) → AreNamed rest → x ∷ drop (i + 1) listing ≡ map shown_of rest → logged_of h ∷ map logged_of others ≡ filter_map (unseen_record directory.key) rest
          → take i listing ++ map shown_of (shown_by why directory.key rest) ≡ map shown_of (shown_by why directory.key children)
          → unseen ++ hidden_by why directory rest (h ∷ others) ≡ hidden_by why directory children all_hidden
          → (name : List ℕ) × (later : List Child) × (rest ≡ (name, Err e) ∷ later) × Next later next_unseen others
      by_rest [] named ahead still shown recorded = absurd cc
      by_rest ((name, Ok entry) ∷ rest) named ahead still shown recorded = absurd (let one : x ≡ Ok entry = cc in let no : Err e ≡ Ok entry = sym err ∙ one in cc)
      by_rest ((name, Err e') ∷ rest) named ahead still shown recorded =
          let one : x ≡ Err e' = cc in
          let same_error : e' ≡ e = (let both : Err e' ≡ Err e = sym one ∙ err in cc) in (
            name,
            rest,
            ap (λ e. (name, Err e) ∷ rest) same_error,
            record {
              named = λ c within. named c (inr within);
              ahead = drop_next ∙ (let more : drop (i + 1) listing ≡ map shown_of rest = cc in more);
              still = (let more : map logged_of others ≡ filter_map (unseen_record directory.key) rest = cc in more);
              shown = take_next (map shown_of (shown_by why directory.key rest)) ∙ ap (λ s. take i listing ++ s ∷ map shown_of (shown_by why directory.key rest)) (same ∙ one) ∙ shown;
              recorded = ap (λ l. l ++ hidden_by why directory rest others) recorded_is ∙ append_assoc unseen (h ∷ []) (hidden_by why directory rest others) ∙ recorded;
            },
          )

  -- it has left a record
  pub never_unrecorded : (rest : List Child) → Underway why directory children all_hidden i listing unseen hidden rest → (e : FsError) → x ≡ Err e → hidden ≡ [] → ⊥
  never_unrecorded rest u e err none = by_rest rest (sym ahead_is ∙ u.ahead) (ap (map logged_of) (sym none) ∙ u.still)
    where
      by_rest : (rest : List Child) → x ∷ drop (i + 1) listing ≡ map shown_of rest → [] ≡ filter_map (unseen_record directory.key) rest → ⊥
      by_rest [] ahead still = absurd cc
      by_rest ((name, Ok entry) ∷ rest) ahead still = let one : x ≡ Ok entry = cc in let no : Err e ≡ Ok entry = sym err ∙ one in absurd cc
      by_rest ((name, Err e') ∷ rest) ahead still = absurd cc

  -- a member that was listed
  pub let_be_seen : (rest : List Child) → Underway why directory children all_hidden i listing unseen hidden rest → (entry : DirEntry) (error : Option FsError) (next_unseen next_hidden : List Record)
      → x ≡ Ok entry → y ≡ shown_as error entry → error ≡ why (member directory.key entry.name) → next_unseen ≡ unseen ++ hidden_record directory entry.name error → next_hidden ≡ hidden
      → (later : List Child) × (rest ≡ (entry.name, Ok entry) ∷ later) × Next later next_unseen next_hidden
  let_be_seen rest u entry error next_unseen next_hidden ok seen reason recorded_is hidden_is = by_rest rest u.named (sym ahead_is ∙ u.ahead) u.still u.shown u.recorded
    where
      by_rest : (rest : List Child) → AreNamed rest → x ∷ drop (i + 1) listing ≡ map shown_of rest → map logged_of hidden ≡ filter_map (unseen_record directory.key) rest
          → take i listing ++ map shown_of (shown_by why directory.key rest) ≡ map shown_of (shown_by why directory.key children)
          → unseen ++ hidden_by why directory rest hidden ≡ hidden_by why directory children all_hidden
          → (later : List Child) × (rest ≡ (entry.name, Ok entry) ∷ later) × Next later next_unseen next_hidden
      by_rest [] named ahead still shown recorded = absurd cc
      by_rest ((name, Err e) ∷ rest) named ahead still shown recorded = absurd (let one : x ≡ Err e = cc in let no : Ok entry ≡ Err e = sym ok ∙ one in cc)
      by_rest ((name, Ok entry') ∷ rest) named ahead still shown recorded =
          let one : x ≡ Ok entry' = cc in
          let same : entry ≡ entry' = (let both : Ok entry ≡ Ok entry' = sym ok ∙ one in cc) in
          let name_is : entry.name ≡ name = ap (λ n. n.name) same ∙ named (name, Ok entry') (inl refl) in
          let error_is : error ≡ why (member directory.key name) = reason ∙ ap (λ n. why (member directory.key n)) name_is in (
            rest,
            (λ j. (sym name_is j, Ok (sym same j)) ∷ rest),
            record {
              named = λ c within. named c (inr within);
              ahead = drop_next ∙ (let more : drop (i + 1) listing ≡ map shown_of rest = cc in more);
              still = ap (map logged_of) hidden_is ∙ still;
              shown = take_next (map shown_of (shown_by why directory.key rest))
                  ∙ ap (λ s. take i listing ++ s ∷ map shown_of (shown_by why directory.key rest)) seen
                  ∙ (λ j. take i listing ++ shown_as (error_is j) (same j) ∷ map shown_of (shown_by why directory.key rest))
                  ∙ shown;
              recorded = ap (λ l. l ++ hidden_by why directory rest next_hidden) recorded_is
                  ∙ append_assoc unseen (hidden_record directory entry.name error) (hidden_by why directory rest next_hidden)
                  ∙ (λ j. unseen ++ (hidden_record directory (name_is j) (error_is j) ++ hidden_by why directory rest (hidden_is j)))
                  ∙ recorded;
            },
          )

-- the names stay segments
pub names_stay : (i : ℕ) (listing next_listing : List Shown) (y : Shown) → next_listing ≡ set listing i y → HaveSegmentNames listing → IfOk y (λ entry. IsSegment entry.name) → HaveSegmentNames next_listing
names_stay i listing next_listing y set_is names here = subst HaveSegmentNames (sym set_is) (All-set (λ s. IfOk s (λ entry. IsSegment entry.name)) listing i y here names)

pub no_records : (records : List Record) → length records ≡ 0 → records ≡ []
no_records [] none = refl
no_records (r ∷ records) none = absurd (omega arith)

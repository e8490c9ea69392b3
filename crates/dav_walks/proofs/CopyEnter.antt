-- The begin of a key's copy: the calls on the key, and what they lead to.
use Rattle.std.proofs.Common.{◌≡◌, ◌≢◌, ◌⊎◌, ℕ, Bool, true, false, if◌then◌else◌, List, [], ◌∷◌, ◌++◌, Option, None, Some, Ok, Err, map, drop, refl, sym, ap, ◌∙◌, subst, inl, inr}
use Rattle.std.proofs.lemmas.List.{map-append}
use Rattle.dav_key.specs.Key.{Key, parent}
use Rattle.dav_store.specs.MemberLaws.{parent-member}
use Rattle.dav_resource.specs.PathText.{PathValue}
use Rattle.dav_resource.specs.declared.record.Op.{Op}
use Rattle.dav_resource.specs.declared.record.Op.TheVariants.{Metadata, ReadDir, CreateDir, Copy, Entry}
use Rattle.dav_resource.specs.declared.record.Outcome.{Outcome}
use Rattle.dav_resource.specs.declared.record.Outcome.TheVariants.{Granted, Refused}
use Rattle.dav_resource.specs.declared.error.FsError.{FsError}
use Rattle.dav_store.specs.Store.{Store, Contents, Node, File, Directory}
use Rattle.dav_store.specs.Members.{IsIn, member, Child, AreChildren}
use Rattle.dav_messages.specs.Multistatus.{Item}
use Rattle.dav_walks.specs.declared.copy_frame.CopyFrame.{CopyFrame}
use Rattle.dav_walks.specs.KeyCall.{same_key}
use Rattle.dav_walks.specs.Deletion.{WasRefused, path_at, Subtree}
use Rattle.dav_walks.specs.Trace.{HasKind}
use Rattle.dav_walks.specs.Copying.{CopyStep, snapshot, IsAsked, IsGranted, IsDenied, HasUnseen, IsMade, IsListed, is_directory_node, names_of_copy}
use Rattle.dav_walks.proofs.Keys.{append-nothing, same_key_is, IsIn-append}
use Rattle.dav_walks.proofs.Listings.{Shown}
use Rattle.dav_walks.proofs.Single.{Names}
use Rattle.dav_walks.proofs.CopyGrow.{Steps, step_on, call_of, only_one, map-IsIn, made_apart, member_name, unseen_steps}
use Rattle.dav_walks.proofs.CopyReach.{Reached, IsNew, op_of_made}
use Rattle.dav_walks.proofs.CopyNames.{StartsAnew, owed_in}

-- ---- paths and kinds

pub path_at-key : (path : PathValue) (slash : Bool) (key : Key) → (path_at path slash key).key ≡ key
path_at-key path slash key = go (same_key key path.key) refl
  where
    go : (b : Bool) → same_key key path.key ≡ b → (if b then path else record path { star = false; slash = slash; key = key }).key ≡ key
    go true e = sym (same_key_is key path.key e)
    go false e = refl

pub kind_same : (a b : Bool) (it : Option Node) → HasKind a it → HasKind b it → a ≡ b
kind_same true true it is was = refl
kind_same false false it is was = refl
kind_same true false it is was = let p : Some Directory ≡ Some (File was.0) = sym is ∙ was.1 in absurd (cc)
kind_same false true it is was = let p : Some (File is.0) ≡ Some Directory = sym is.1 ∙ was in absurd (cc)

pub kind_said : (slash : Bool) (it : Option Node) → HasKind slash it → is_directory_node it ≡ slash
kind_said true it is = ap is_directory_node is
kind_said false it is = ap is_directory_node is.1

pub kind_present : (slash : Bool) (it : Option Node) → HasKind slash it → it ≢ None
kind_present true it is none = let p : Some Directory ≡ None = sym is ∙ none in cc
kind_present false it is none = let p : Some (File is.0) ≡ None = sym is.1 ∙ none in cc

pub two_kinds : {A : Type 0} (it : Option Node) → HasKind false it → HasKind true it → A
two_kinds it file directory = let p : false ≡ true = kind_same false true it file directory in absurd (cc)

pub member_above : (x y : Key) (n m : List ℕ) → member x n ≡ member y m → x ≡ y
member_above x y n m e = sym (parent-member x n) ∙ ap parent e ∙ parent-member y m

-- ---- what was called on a key

-- nothing was called on it or below it
abbrev pub IsClear : Key → Steps → Type 0
IsClear p steps = (step : CopyStep) → IsIn step steps → (z : Key) → step.at ≢ p ++ z

pub clear_at : (p : Key) (steps : Steps) → IsClear p steps → (step : CopyStep) → IsIn step steps → step.at ≢ p
clear_at p steps clear step i e = clear step i [] (e ∙ sym (append-nothing p))

pub clear_new : (p : Key) (op : Op) (steps : Steps) → IsClear p steps → IsNew p op steps
clear_new p op steps clear i = let found = map-IsIn call_of (p, op) steps i in clear_at p steps clear found.0 found.1 (ap (λ (c : Key × Op). c.0) found.2)

pub clear_unmade : (p : Key) (steps : Steps) → IsClear p steps → IsMade p steps → ⊥
clear_unmade p steps clear (inl i) = clear_at p steps clear _ i refl
clear_unmade p steps clear (inr i) = clear_at p steps clear _ i refl

-- one call more leaves a call of another kind new
pub new_after : (p q : Key) (op other : Op) (outcome : Outcome) (steps : Steps) → IsNew q op steps → (other ≡ op → ⊥) → IsNew q op (steps ++ step_on p other outcome ∷ [])
new_after p q op other outcome steps fresh apart i = elim (IsIn-append _ (map call_of steps) ((p, other) ∷ []) (subst (IsIn (q, op)) (map-append call_of steps (step_on p other outcome ∷ [])) i)) [
  | inl j ↦ fresh j
  | inr j ↦ apart (ap (λ (c : Key × Op). c.1) (only_one _ _ j))
]

pub unmade_after : (p : Key) (op : Op) (outcome : Outcome) (steps : Steps) → (IsMade p steps → ⊥) → (op ≡ Copy → ⊥) → (op ≡ CreateDir → ⊥) → IsMade p (steps ++ step_on p op outcome ∷ []) → ⊥
unmade_after p op outcome steps none no_copy no_place m = elim (made_apart steps (step_on p op outcome ∷ []) p m) [
  | inl n ↦ none n
  | inr n ↦ elim (op_of_made p p op outcome n) [ inl e ↦ no_copy e | inr e ↦ no_place e ]
]

pub unseen_near : (p : Key) (cs : List Child) (step : CopyStep) → IsIn step (unseen_steps p cs) → (n : List ℕ) × (step.at ≡ member p n) × (step.op ≡ Entry)
unseen_near p [] step i = absurd i
unseen_near p ((n, Ok entry) ∷ cs) step i = unseen_near p cs step i
unseen_near p ((n, Err error) ∷ cs) step (inl e) = (n, sym (ap (λ (t : CopyStep). t.at) e), sym (ap (λ (t : CopyStep). t.op) e))
unseen_near p ((n, Err error) ∷ cs) step (inr i) = unseen_near p cs step i

pub unseen_among : (p : Key) (cs : List Child) (n : List ℕ) (error : FsError) → IsIn {X = Child} (n, Err error) cs → IsIn (step_on (member p n) Entry (Refused error)) (unseen_steps p cs)
unseen_among p [] n error i = absurd i
unseen_among p ((m, Ok entry) ∷ cs) n error (inl e) = let q : Ok entry ≡ Err error = ap (λ (c : Child). c.1) e in absurd (cc)
unseen_among p ((m, Ok entry) ∷ cs) n error (inr i) = unseen_among p cs n error i
unseen_among p ((m, Err f) ∷ cs) n error (inl e) = let q : Err f ≡ Err error = ap (λ (c : Child). c.1) e in let same : f ≡ error = cc in
    inl (λ i. step_on (member p (e i).0) Entry (Refused (same i)))
unseen_among p ((m, Err f) ∷ cs) n error (inr i) = inr (unseen_among p cs n error i)

pub unseen_only : (p : Key) (cs : List Child) (step : CopyStep) → IsIn step (unseen_steps p cs) → (n : List ℕ) → step.at ≡ member p n → (error : FsError) × IsIn {X = Child} (n, Err error) cs
unseen_only p [] step i n e = absurd i
unseen_only p ((m, Ok entry) ∷ cs) step i n e = let found = unseen_only p cs step i n e in (found.0, inr found.1)
unseen_only p ((m, Err error) ∷ cs) step (inl is) n e =
    let same : m ≡ n = member_name p m n (ap (λ (t : CopyStep). t.at) is ∙ e) in
    (error, inl (λ i. (same i, Err error)))
unseen_only p ((m, Err error) ∷ cs) step (inr i) n e = let found = unseen_only p cs step i n e in (found.0, inr found.1)

-- ---- what comes of it

-- a key whose copy is to begin: it is of this kind, the walk has come to it, and nothing was called on it yet
pub record InHand (snap : Subtree) (steps : Steps) (p : Key) : Type 0 where
  pub slash : Bool
  pub kind : HasKind slash (snap p)
  pub come : (p ≡ []) ⊎ IsListed p steps
  pub clear : IsClear p steps

-- its listing
pub record OpensAt (source dest : PathValue) (new : Contents) (p : Key) (more : Steps) (frame : CopyFrame) : Type 0 where
  pub source_at : frame.source ≡ path_at source true (source.key ++ p)
  pub dest_at : frame.dest ≡ path_at dest true (dest.key ++ p)
  pub first : frame.next ≡ 0
  pub children : List Child
  pub shows : Key → Bool
  pub are : AreChildren shows new (source.key ++ p) children
  pub shown : frame.listing.items ≡ map (λ c. c.1) children
  pub listed : IsGranted ReadDir p more
  pub unseen : (n : List ℕ) (error : FsError) → IsIn {X = Child} (n, Err error) children → IsDenied Entry (member p n) more
  pub only : (step : CopyStep) → IsIn step more → (n : List ℕ) → step.at ≡ member p n → (error : FsError) × IsIn {X = Child} (n, Err error) children

abbrev pub Opens : PathValue → PathValue → Contents → Key → Steps → Option CopyFrame → Type 0
Opens source dest new p more None = IsGranted ReadDir p more → ⊥
Opens source dest new p more (Some frame) = OpensAt source dest new p more frame

-- what is still to be named of it
abbrev pub rest : CopyFrame → List Shown
rest frame = drop frame.next frame.listing.items

abbrev pub owed : CopyFrame → Names
owed frame = owed_in frame.source (rest frame)

abbrev pub owed_by : Option CopyFrame → Names
owed_by None = []
owed_by (Some frame) = owed frame

-- one of the names is the source's key with this path behind it
abbrev pub IsNamedIn : PathValue → Key → Names → Type 0
IsNamedIn source x names = (item : Item) × IsIn item names × (item.0.key ≡ source.key ++ x)

-- the calls on a key, and their names
pub record Went (source dest : PathValue) (top : Key) (old new : Store) (has finally : Names) (steps : Steps) (p : Key) (opened : Option CopyFrame) : Type 0 where
  pub more : Steps
  pub reached : Reached source.key top dest.key old new (steps ++ more)
  pub near : (step : CopyStep) → IsIn step more → (step.at ≡ p) ⊎ ((n : List ℕ) × (step.at ≡ member p n) × (step.op ≡ Entry))
  pub asked : IsAsked Metadata p more
  pub file : HasKind false (snapshot old.contents.tree source.key top p) → IsGranted Metadata p more → IsAsked Copy p more
  pub directory : HasKind true (snapshot old.contents.tree source.key top p) → IsGranted Metadata p more → IsAsked CreateDir p more
  pub listing : IsGranted CreateDir p more → IsAsked ReadDir p more
  pub anew : StartsAnew source dest (snapshot old.contents.tree source.key top) more
  pub given : Names
  pub appended : finally ≡ has ++ given
  pub names : names_of_copy source dest (snapshot old.contents.tree source.key top) more ≡ given ++ owed_by opened
  pub opens : Opens source dest new.contents p more opened
  pub unseen_named : (x : Key) → HasUnseen x more → IsNamedIn source x (names_of_copy source dest (snapshot old.contents.tree source.key top) more)

pub op_apart : {A : Type 0} (p q : Key) (op other : Op) (o r : Outcome) → (op ≡ other → ⊥) → step_on p op o ≡ step_on q other r → A
op_apart p q op other o r apart e = absurd (apart (ap (λ (t : CopyStep). t.op) e))

pub not_granted : {A : Type 0} (p q : Key) (op other : Op) (o : Outcome) → WasRefused o → step_on p op o ≡ step_on q other Granted → A
not_granted p q op other o refused e = absurd (refused (ap (λ (t : CopyStep). t.outcome) e))

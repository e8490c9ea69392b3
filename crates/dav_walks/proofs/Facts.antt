-- What a walk leaves, and which calls it makes.
use Rattle.std.proofs.Common.{◌≡◌, ◌≢◌, ◌⊎◌, ◌≤◌, ℕ, false, List, [], ◌∷◌, ◌++◌, length, Option, None, Some, refl, sym, ap, ◌∙◌, subst, inl, inr, arith}
use Rattle.dav_key.specs.Key.{Key}
use Rattle.dav_resource.specs.declared.record.Op.{Op}
use Rattle.dav_resource.specs.declared.record.Op.TheVariants.{ReadDir, RemoveFile, RemoveDir, Entry}
use Rattle.dav_resource.specs.declared.record.Outcome.{Outcome}
use Rattle.dav_resource.specs.declared.record.Outcome.TheVariants.{Granted, Barred, Refused}
use Rattle.dav_store.specs.Store.{Node, File, Directory}
use Rattle.dav_store.specs.Members.{IsIn}
use Rattle.dav_walks.specs.Deletion.{Calls, Subtree, under, WasRefused, IsUnseen, IsUnlisted, IsHidden, IsReached, IsMemberOfReached, AreDifferent}
use Rattle.dav_walks.specs.Trace.{HasKind, Leaves, Walked, absent, unseen, file, unlisted, kept, emptied, Partly, over, waiting, halted}

abbrev pub Call : Type 0
Call = Op × Outcome

-- a refused call on the key or below it, of which an entry's stands strictly below
abbrev pub HasName : Calls → Key → Type 0
HasName calls x = (z : Key) × (c : Call) × IsIn c (calls (x ++ z)) × WasRefused c.1 × (c.0 ≡ Entry → z ≢ [])

-- some refused call on the key or below it
abbrev pub HasRefusal : Calls → Key → Type 0
HasRefusal calls x = (z : Key) × (c : Call) × IsIn c (calls (x ++ z)) × WasRefused c.1

pub only_call : (c d : Call) (cs : List Call) → cs ≡ d ∷ [] → IsIn c cs → c ≡ d
only_call c d cs e i = go (subst (λ (ds : List Call). IsIn c ds) e i)
  where
    go : IsIn c (d ∷ []) → c ≡ d
    go (inl is) = sym is
    go (inr none) = absurd none

pub two_calls : (c a b : Call) (cs : List Call) → cs ≡ a ∷ b ∷ [] → IsIn c cs → (c ≡ a) ⊎ (c ≡ b)
two_calls c a b cs e i = go (subst (λ (ds : List Call). IsIn c ds) e i)
  where
    go : IsIn c (a ∷ b ∷ []) → (c ≡ a) ⊎ (c ≡ b)
    go (inl is) = inl (sym is)
    go (inr (inl is)) = inr (sym is)
    go (inr (inr none)) = absurd none

pub no_call : (c : Call) (cs : List Call) → cs ≡ [] → IsIn c cs → ⊥
no_call c cs e i = subst (λ (ds : List Call). IsIn c ds) e i

pub first_call : (d : Call) (ds cs : List Call) → cs ≡ d ∷ ds → IsIn d cs
first_call d ds cs e = subst (λ (bs : List Call). IsIn d bs) (sym e) (inl refl)

pub second_call : (a b : Call) (ds cs : List Call) → cs ≡ a ∷ b ∷ ds → IsIn b cs
second_call a b ds cs e = subst (λ (bs : List Call). IsIn b bs) (sym e) (inr (inl refl))

entry_is_no_removal : Entry ≡ RemoveDir → ⊥
entry_is_no_removal p = cc

listing_is_no_removal : ReadDir ≡ RemoveDir → ⊥
listing_is_no_removal p = cc

entry_is_no_listing : Entry ≡ ReadDir → ⊥
entry_is_no_listing p = cc

entry_is_no_file : Entry ≡ RemoveFile → ⊥
entry_is_no_file p = cc

further_down : (calls : Calls) (n : List ℕ) (x : Key) → HasName (under calls n) x ⊎ IsHidden (under calls n) x → HasName calls (n ∷ x) ⊎ IsHidden calls (n ∷ x)
further_down calls n x (inl named) = inl named
further_down calls n x (inr hidden) = inr (inr (inr hidden))

-- a call with no entry's op, refused
names_itself : (calls : Calls) (c : Call) → IsIn c (calls []) → WasRefused c.1 → c.0 ≢ Entry → HasName calls []
names_itself calls c i refused other = ([], c, i, refused, λ q e. other q)

-- what is there afterwards has a name at or below it, or is hidden
pub left_only : {old new : Subtree} {calls : Calls} → Walked old new calls → (x : Key) → new x ≢ None → HasName calls x ⊎ IsHidden calls x
left_only (absent none same) x there = absurd (there ((same x).same ∙ none x))
left_only (unseen error was e same below) [] there = inr (Refused error, first_call _ _ _ e, λ p. cc)
left_only (unseen error was e same below) (n ∷ x) there = inr (inl (Refused error, first_call _ _ _ e, λ p. cc))
left_only (file Granted is e leaves none below) [] there = absurd (there leaves)
left_only {calls = calls} (file (Barred error) is e leaves none below) [] there = inl (names_itself calls _ (first_call _ _ _ e) (λ p. cc) (λ p. cc))
left_only {calls = calls} (file (Refused error) is e leaves none below) [] there = inl (names_itself calls _ (first_call _ _ _ e) (λ p. cc) (λ p. cc))
left_only (file outcome is e leaves none below) (n ∷ x) there = absurd (there ((below n x).same ∙ none n x))
left_only {calls = calls} (unlisted outcome refused is e same below) [] there = inl (names_itself calls _ (first_call _ _ _ e) refused (λ p. cc))
left_only (unlisted outcome refused is e same below) (n ∷ x) there = inr (inr (inl (outcome, first_call _ _ _ e, refused)))
left_only {calls = calls} (kept is e same some deep) [] there = inl (some.0, some.1, some.2, some.3, λ q at_top. some.3 (ap (λ (c : Call). c.1) (only_call _ _ _ e (subst (λ (y : Key). IsIn some.1 (calls y)) at_top some.2))))
left_only {calls = calls} (kept is e same some deep) (n ∷ x) there = further_down calls n x (left_only (deep n) x there)
left_only (emptied Granted is e leaves quiet deep) [] there = absurd (there leaves)
left_only {calls = calls} (emptied (Barred error) is e leaves quiet deep) [] there = inl (names_itself calls _ (second_call _ _ _ _ e) (λ p. cc) (λ p. cc))
left_only {calls = calls} (emptied (Refused error) is e leaves quiet deep) [] there = inl (names_itself calls _ (second_call _ _ _ _ e) (λ p. cc) (λ p. cc))
left_only {calls = calls} (emptied outcome is e leaves quiet deep) (n ∷ x) there = further_down calls n x (left_only (deep n) x there)

-- what has a refusal at or below it, or is hidden, stands as it was
pub left_stays : {old new : Subtree} {calls : Calls} → Walked old new calls → (x : Key) → HasRefusal calls x ⊎ IsHidden calls x → new x ≡ old x
left_stays (absent none same) x why = (same x).same
left_stays (unseen error was e same below) [] why = same
left_stays (unseen error was e same below) (n ∷ x) why = (below n x).same
left_stays {old = old} {new = new} {calls = calls} (file outcome is e leaves none below) [] why = go outcome e leaves why
  where
    go : (o : Outcome) → calls [] ≡ (RemoveFile, o) ∷ [] → Leaves o (old []) (new []) → HasRefusal calls [] ⊎ IsHidden calls [] → new [] ≡ old []
    go Granted e l (inl (([], c, i, r))) = absurd (r (ap (λ (c : Call). c.1) (only_call _ _ _ e i)))
    go Granted e l (inl ((n ∷ z, c, i, r))) = absurd (no_call c _ (below n z).uncalled i)
    go Granted e l (inr u) = absurd (u.2 (ap (λ (c : Call). c.1) (only_call _ _ _ e u.1)))
    go (Barred error) e l why = l
    go (Refused error) e l why = l
left_stays (file outcome is e leaves none below) (n ∷ x) why = (below n x).same
left_stays (unlisted outcome refused is e same below) [] why = same
left_stays (unlisted outcome refused is e same below) (n ∷ x) why = (below n x).same
left_stays (kept is e same some deep) [] why = same
left_stays {calls = calls} (kept is e same some deep) (n ∷ x) why = left_stays (deep n) x (go why)
  where
    go : HasRefusal calls (n ∷ x) ⊎ IsHidden calls (n ∷ x) → HasRefusal (under calls n) x ⊎ IsHidden (under calls n) x
    go (inl h) = inl h
    go (inr (inl u)) = absurd (u.2 (ap (λ (c : Call). c.1) (only_call _ _ _ e u.1)))
    go (inr (inr (inl u))) = absurd (u.2 (ap (λ (c : Call). c.1) (only_call _ _ _ e u.1)))
    go (inr (inr (inr h))) = inr h
left_stays {old = old} {new = new} {calls = calls} (emptied outcome is e leaves quiet deep) [] why = go outcome e leaves why
  where
    go : (o : Outcome) → calls [] ≡ (ReadDir, Granted) ∷ (RemoveDir, o) ∷ [] → Leaves o (old []) (new []) → HasRefusal calls [] ⊎ IsHidden calls [] → new [] ≡ old []
    go Granted e l (inl (([], c, i, r))) = absurd (r (elim (two_calls _ _ _ _ e i) [ inl p ↦ ap (λ (c : Call). c.1) p | inr p ↦ ap (λ (c : Call). c.1) p ]))
    go Granted e l (inl ((n ∷ z, c, i, r))) = absurd (r (quiet n z c i))
    go Granted e l (inr u) = absurd (u.2 (elim (two_calls _ _ _ _ e u.1) [ inl p ↦ ap (λ (c : Call). c.1) p | inr p ↦ ap (λ (c : Call). c.1) p ]))
    go (Barred error) e l why = l
    go (Refused error) e l why = l
left_stays {calls = calls} (emptied outcome is e leaves quiet deep) (n ∷ x) why = left_stays (deep n) x (go why)
  where
    go : HasRefusal calls (n ∷ x) ⊎ IsHidden calls (n ∷ x) → HasRefusal (under calls n) x ⊎ IsHidden (under calls n) x
    go (inl h) = inl h
    go (inr (inl u)) = elim (two_calls _ _ _ _ e u.1) [ inl p ↦ absurd (u.2 (ap (λ (c : Call). c.1) p)) | inr p ↦ absurd (entry_is_no_removal (ap (λ (c : Call). c.0) p)) ]
    go (inr (inr (inl u))) = elim (two_calls _ _ _ _ e u.1) [ inl p ↦ absurd (u.2 (ap (λ (c : Call). c.1) p)) | inr p ↦ absurd (listing_is_no_removal (ap (λ (c : Call). c.0) p)) ]
    go (inr (inr (inr h))) = inr h

pub file_there : (node : Option Node) → HasKind false node → node ≢ None
file_there it is none = let p : None ≡ Some (File is.0) = sym none ∙ is.1 in cc

pub directory_there : (node : Option Node) → node ≡ Some Directory → node ≢ None
directory_there it is none = let p : None ≡ Some Directory = sym none ∙ is in cc

-- a call that isn't an entry's is on a key that is reached
pub on_reached : {old new : Subtree} {calls : Calls} → Walked old new calls → (x : Key) (c : Call) → IsIn c (calls x) → (c.0 ≡ Entry) ⊎ IsReached old calls x
on_reached (absent none same) x c i = absurd (no_call c _ (same x).uncalled i)
on_reached (unseen error was e same below) [] c i = inl (ap (λ (d : Call). d.0) (only_call _ _ _ e i))
on_reached (unseen error was e same below) (n ∷ x) c i = absurd (no_call c _ (below n x).uncalled i)
on_reached (file outcome is e leaves none below) [] c i = inr (file_there _ is, λ u. let p = ap (λ (d : Call). d.0) (only_call _ _ _ e u.1) in absurd (entry_is_no_file p))
on_reached (file outcome is e leaves none below) (n ∷ x) c i = absurd (no_call c _ (below n x).uncalled i)
on_reached (unlisted outcome refused is e same below) [] c i = inr (directory_there _ is, λ u. absurd (entry_is_no_listing (ap (λ (d : Call). d.0) (only_call _ _ _ e u.1))))
on_reached (unlisted outcome refused is e same below) (n ∷ x) c i = absurd (no_call c _ (below n x).uncalled i)
on_reached (kept is e same some deep) [] c i = inr (directory_there _ is, λ u. absurd (entry_is_no_listing (ap (λ (d : Call). d.0) (only_call _ _ _ e u.1))))
on_reached {old = old} {calls = calls} (kept is e same some deep) (n ∷ x) c i = go (on_reached (deep n) x c i)
  where
    go : (c.0 ≡ Entry) ⊎ IsReached (under old n) (under calls n) x → (c.0 ≡ Entry) ⊎ IsReached old calls (n ∷ x)
    go (inl p) = inl p
    go (inr r) = inr (
      r.0,
      elim [
        | inl u ↦ entry_is_no_listing (ap (λ (d : Call). d.0) (only_call _ _ _ e u.1))
        | inr (inl u) ↦ u.2 (ap (λ (d : Call). d.1) (only_call _ _ _ e u.1))
        | inr (inr h) ↦ r.1 h
      ],
    )
on_reached (emptied outcome is e leaves quiet deep) [] c i = inr (directory_there _ is, λ u. elim (two_calls _ _ _ _ e u.1) [ inl p ↦ entry_is_no_listing (ap (λ (d : Call). d.0) p) | inr p ↦ entry_is_no_removal (ap (λ (d : Call). d.0) p) ])
on_reached {old = old} {calls = calls} (emptied outcome is e leaves quiet deep) (n ∷ x) c i = go (on_reached (deep n) x c i)
  where
    go : (c.0 ≡ Entry) ⊎ IsReached (under old n) (under calls n) x → (c.0 ≡ Entry) ⊎ IsReached old calls (n ∷ x)
    go (inl p) = inl p
    go (inr r) = inr (
      r.0,
      elim [
        | inl u ↦ elim (two_calls _ _ _ _ e u.1) [ inl p ↦ entry_is_no_listing (ap (λ (d : Call). d.0) p) | inr p ↦ entry_is_no_removal (ap (λ (d : Call). d.0) p) ]
        | inr (inl u) ↦ elim (two_calls _ _ _ _ e u.1) [ inl p ↦ u.2 (ap (λ (d : Call). d.1) p) | inr p ↦ listing_is_no_removal (ap (λ (d : Call). d.0) p) ]
        | inr (inr h) ↦ r.1 h
      ],
    )

-- no call on a key, one, or the listing of a directory and its removal
abbrev pub AreFew : List Call → Type 0
AreFew cs = AreDifferent cs × (length cs ≤ 2)

no_calls : (cs : List Call) → cs ≡ [] → AreFew cs
no_calls cs e = subst AreFew (sym e) (tt, omega arith)

single_call : (c : Call) (cs : List Call) → cs ≡ c ∷ [] → AreFew cs
single_call c cs e = subst AreFew (sym e) (((λ d i. absurd i), tt), omega arith)

listing_and_removal : (o p : Outcome) (cs : List Call) → cs ≡ (ReadDir, o) ∷ (RemoveDir, p) ∷ [] → AreFew cs
listing_and_removal o p cs e = subst AreFew (sym e) ((apart, ((λ d i. absurd i), tt)), omega arith)
  where
    apart : (d : Call) → IsIn d ((RemoveDir, p) ∷ []) → d.0 ≢ ReadDir
    apart d (inl is) same = listing_is_no_removal (sym same ∙ sym (ap (λ (c : Call). c.0) is))
    apart d (inr i) same = i

pub few_calls : {old new : Subtree} {calls : Calls} → Walked old new calls → (x : Key) → AreFew (calls x)
few_calls (absent gone same) x = no_calls _ (same x).uncalled
few_calls (unseen error was e same below) [] = single_call _ _ e
few_calls (unseen error was e same below) (n ∷ x) = no_calls _ (below n x).uncalled
few_calls (file outcome is e leaves gone below) [] = single_call _ _ e
few_calls (file outcome is e leaves gone below) (n ∷ x) = no_calls _ (below n x).uncalled
few_calls (unlisted outcome refused is e same below) [] = single_call _ _ e
few_calls (unlisted outcome refused is e same below) (n ∷ x) = no_calls _ (below n x).uncalled
few_calls (kept is e same some deep) [] = single_call _ _ e
few_calls (kept is e same some deep) (n ∷ x) = few_calls (deep n) x
few_calls (emptied outcome is e leaves quiet deep) [] = listing_and_removal _ _ _ e
few_calls (emptied outcome is e leaves quiet deep) (n ∷ x) = few_calls (deep n) x

-- what a walk leaves stands as it was
pub kept_or_gone : {old new : Subtree} {calls : Calls} → Walked old new calls → (x : Key) → (new x ≡ old x) ⊎ (new x ≡ None)
kept_or_gone {old} {new} {calls} w x = go (new x) refl
  where
    why : HasName calls x ⊎ IsHidden calls x → HasRefusal calls x ⊎ IsHidden calls x
    why (inl h) = inl (h.0, h.1, h.2, h.3)
    why (inr h) = inr h

    go : (o : Option Node) → new x ≡ o → (new x ≡ old x) ⊎ (new x ≡ None)
    go None e = inr e
    go (Some node) e = inl (left_stays w x (why (left_only w x (λ none. let p : None ≡ Some node = sym none ∙ e in cc))))

-- the same of a walk that was broken off
pub partly_kept_or_gone : {old new : Subtree} {calls : Calls} → Partly old new calls → (x : Key) → (new x ≡ old x) ⊎ (new x ≡ None)
partly_kept_or_gone (over w) x = kept_or_gone w x
partly_kept_or_gone (waiting same) x = inl (same x).same
partly_kept_or_gone (halted is e same deep) [] = inl same
partly_kept_or_gone (halted is e same deep) (n ∷ x) = partly_kept_or_gone (deep n) x

pub partly_few_calls : {old new : Subtree} {calls : Calls} → Partly old new calls → (x : Key) → AreFew (calls x)
partly_few_calls (over w) x = few_calls w x
partly_few_calls (waiting same) x = no_calls _ (same x).uncalled
partly_few_calls (halted is e same deep) [] = single_call _ _ e
partly_few_calls (halted is e same deep) (n ∷ x) = partly_few_calls (deep n) x

pub partly_on_reached : {old new : Subtree} {calls : Calls} → Partly old new calls → (x : Key) (c : Call) → IsIn c (calls x) → (c.0 ≡ Entry) ⊎ IsReached old calls x
partly_on_reached (over w) x c i = on_reached w x c i
partly_on_reached (waiting same) x c i = absurd (no_call c _ (same x).uncalled i)
partly_on_reached (halted is e same deep) [] c i = inr (directory_there _ is, λ u. absurd (entry_is_no_listing (ap (λ (d : Call). d.0) (only_call _ _ _ e u.1))))
partly_on_reached {old = old} {calls = calls} (halted is e same deep) (n ∷ x) c i = go (partly_on_reached (deep n) x c i)
  where
    go : (c.0 ≡ Entry) ⊎ IsReached (under old n) (under calls n) x → (c.0 ≡ Entry) ⊎ IsReached old calls (n ∷ x)
    go (inl p) = inl p
    go (inr r) = inr (
      r.0,
      elim [
        | inl u ↦ entry_is_no_listing (ap (λ (d : Call). d.0) (only_call _ _ _ e u.1))
        | inr (inl u) ↦ u.2 (ap (λ (d : Call). d.1) (only_call _ _ _ e u.1))
        | inr (inr h) ↦ r.1 h
      ],
    )

-- no entry's call among one or two calls of other kinds
pub no_entry_one : (op : Op) (a : Outcome) (cs : List Call) → cs ≡ (op, a) ∷ [] → (op ≡ Entry → ⊥) → (o : Outcome) → IsIn (Entry, o) cs → ⊥
no_entry_one op a cs e other o i = other (sym (ap (λ (c : Call). c.0) (only_call _ _ cs e i)))

pub no_entry_two : (op later : Op) (a b : Outcome) (cs : List Call) → cs ≡ (op, a) ∷ (later, b) ∷ [] → (op ≡ Entry → ⊥) → (later ≡ Entry → ⊥) → (o : Outcome) → IsIn (Entry, o) cs → ⊥
no_entry_two op later a b cs e other another o i = elim (two_calls _ _ _ cs e i) [ inl p ↦ other (sym (ap (λ (c : Call). c.0) p)) | inr p ↦ another (sym (ap (λ (c : Call). c.0) p)) ]

pub listing_is_no_entry : ReadDir ≡ Entry → ⊥
listing_is_no_entry p = cc

pub removal_is_no_entry : RemoveDir ≡ Entry → ⊥
removal_is_no_entry p = cc

pub file_is_no_entry : RemoveFile ≡ Entry → ⊥
file_is_no_entry p = cc

-- from a directory that was listed down to a child
reach_down : (old : Subtree) (calls : Calls) (n : List ℕ) (x : Key) → (IsUnseen (calls []) → ⊥) → (IsUnlisted (calls []) → ⊥) → IsReached (under old n) (under calls n) x → IsReached old calls (n ∷ x)
reach_down old calls n x seen listed r = (r.0, elim [ inl u ↦ seen u | inr (inl u) ↦ listed u | inr (inr h) ↦ r.1 h ])

entry_down : (old : Subtree) (calls : Calls) (n : List ℕ) (x : Key) → IsReached old calls [] → (IsUnlisted (calls []) → ⊥) → (x ≡ []) ⊎ IsMemberOfReached (under old n) (under calls n) x → IsMemberOfReached old calls (n ∷ x)
entry_down old calls n x here listed (inl e) = ([], n, ap (λ y. n ∷ y) e, here)
entry_down old calls n x here listed (inr c) = (n ∷ c.0, c.1, ap (λ y. n ∷ y) c.2, reach_down old calls n c.0 here.1 listed c.3)

-- what wasn't shown is a child of a key that is reached, if it isn't where the walk began
pub entry_at : {old new : Subtree} {calls : Calls} → Walked old new calls → (x : Key) (o : Outcome) → IsIn (Entry, o) (calls x) → (x ≡ []) ⊎ IsMemberOfReached old calls x
entry_at (absent gone same) x o i = absurd (no_call _ _ (same x).uncalled i)
entry_at (unseen error was e same below) [] o i = inl refl
entry_at (unseen error was e same below) (n ∷ x) o i = absurd (no_call _ _ (below n x).uncalled i)
entry_at (file outcome is e leaves gone below) [] o i = absurd (no_entry_one _ _ _ e file_is_no_entry o i)
entry_at (file outcome is e leaves gone below) (n ∷ x) o i = absurd (no_call _ _ (below n x).uncalled i)
entry_at (unlisted outcome refused is e same below) [] o i = absurd (no_entry_one _ _ _ e listing_is_no_entry o i)
entry_at (unlisted outcome refused is e same below) (n ∷ x) o i = absurd (no_call _ _ (below n x).uncalled i)
entry_at (kept is e same some deep) [] o i = absurd (no_entry_one _ _ _ e listing_is_no_entry o i)
entry_at {old = old} {calls = calls} (kept is e same some deep) (n ∷ x) o i =
    inr (entry_down old calls n x (directory_there _ is, λ u. no_entry_one ReadDir Granted _ e listing_is_no_entry u.0 u.1) (λ u. u.2 (ap (λ (d : Call). d.1) (only_call _ _ _ e u.1))) (entry_at (deep n) x o i))
entry_at (emptied outcome is e leaves quiet deep) [] o i = absurd (no_entry_two ReadDir RemoveDir Granted outcome _ e listing_is_no_entry removal_is_no_entry o i)
entry_at {old = old} {calls = calls} (emptied outcome is e leaves quiet deep) (n ∷ x) o i =
    inr (entry_down old calls n x (directory_there _ is, λ u. no_entry_two ReadDir RemoveDir Granted outcome _ e listing_is_no_entry removal_is_no_entry u.0 u.1)
    (λ u. elim (two_calls _ _ _ _ e u.1) [ inl p ↦ u.2 (ap (λ (d : Call). d.1) p) | inr p ↦ listing_is_no_removal (ap (λ (d : Call). d.0) p) ]) (entry_at (deep n) x o i))

pub partly_entry_at : {old new : Subtree} {calls : Calls} → Partly old new calls → (x : Key) (o : Outcome) → IsIn (Entry, o) (calls x) → (x ≡ []) ⊎ IsMemberOfReached old calls x
partly_entry_at (over w) x o i = entry_at w x o i
partly_entry_at (waiting same) x o i = absurd (no_call _ _ (same x).uncalled i)
partly_entry_at (halted is e same deep) [] o i = absurd (no_entry_one _ _ _ e listing_is_no_entry o i)
partly_entry_at {old = old} {calls = calls} (halted is e same deep) (n ∷ x) o i =
    inr (entry_down old calls n x (directory_there _ is, λ u. no_entry_one ReadDir Granted _ e listing_is_no_entry u.0 u.1) (λ u. u.2 (ap (λ (d : Call). d.1) (only_call _ _ _ e u.1))) (partly_entry_at (deep n) x o i))

-- which is no entry itself
pub entry_below : (old : Subtree) (calls : Calls) (x : Key) (o : Outcome) → ((p : Outcome) → IsIn (Entry, p) (calls []) → ⊥) → IsIn (Entry, o) (calls x) → (x ≡ []) ⊎ IsMemberOfReached old calls x → IsMemberOfReached old calls x
entry_below old calls x o none i (inl e) = absurd (none o (subst (λ (y : Key). IsIn (Entry, o) (calls y)) e i))
entry_below old calls x o none i (inr c) = c

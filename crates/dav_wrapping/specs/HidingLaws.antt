-- What a wrapper's listing keeps, and the records of the members that it does not list.
use Rattle.std.proofs.Common.{◌≡◌, ◌∙◌, ℕ, Option, Some, None, Ok, Err, refl, sym, ap, subst, inl, inr, List, [], ◌∷◌, ◌++◌, ◌+◌, ◌≤◌, Bool, true, map, filter_map, length, drop, suc, zero, arith, length-append}
use Rattle.std.proofs.lemmas.List.{drop_at, append_assoc}
use Rattle.dav_key.specs.Key.{Key}
use Rattle.dav_resource.specs.PathText.{PathValue}
use Rattle.dav_resource.specs.declared.record.Op.TheVariants.{Entry}
use Rattle.dav_resource.specs.declared.record.Outcome.TheVariants.{Refused}
use Rattle.dav_resource.specs.declared.record.Record.{Record}
use Rattle.dav_resource.specs.declared.error.FsError.{FsError}
use Rattle.dav_store.specs.Logged.{Logged, logged, logged_of}
use Rattle.dav_store.specs.Store.{Contents}
use Rattle.dav_store.specs.Calls.{IsOwn}
use Rattle.dav_store.specs.Members.{Child, IsIn, IsShownAs, member, names_of, unseen_record}
use Rattle.dav_wrapping.specs.Hiding.{Why, shown_as, shown_by, hidden_record, hidden_by, IsNamed}

-- ---- members

pub names-shown : (why : Why) (directory : Key) (children : List Child) → names_of (shown_by why directory children) ≡ names_of children
names-shown why directory [] = refl
names-shown why directory ((name, Ok entry) ∷ children) = ap (λ ns. name ∷ ns) (names-shown why directory children)
names-shown why directory ((name, Err e) ∷ children) = ap (λ ns. name ∷ ns) (names-shown why directory children)

-- each member is shown as the wrapper may show it, if it hides with errors of the store's own, and may show what it does not hide
pub still_shown : (shows lets : Key → Bool) (old : Contents) (directory : Key) (why : Why) (children : List Child) → ((key : Key) (e : FsError) → why key ≡ Some e → IsOwn e) → ((key : Key) → why key ≡ None → shows key ≡ true → lets key ≡ true)
    → ((c : Child) → IsIn c children → IsShownAs shows old directory c) → (c : Child) → IsIn c (shown_by why directory children) → IsShownAs lets old directory c
still_shown shows lets old directory why [] own free are c within = absurd within
still_shown shows lets old directory why ((name, Err e) ∷ children) own free are c (inl is) = subst (IsShownAs lets old directory) is (are (name, Err e) (inl refl))
still_shown shows lets old directory why ((name, Err e) ∷ children) own free are c (inr within) = still_shown shows lets old directory why children own free (λ c' w. are c' (inr w)) c within
still_shown shows lets old directory why ((name, Ok entry) ∷ children) own free are c (inl is) =
    subst (IsShownAs lets old directory) is (by_error (why (member directory name)) refl)
  where
    by_error : (o : Option FsError) → why (member directory name) ≡ o → IsShownAs lets old directory (name, shown_as o entry)
    by_error None e = let was = are (name, Ok entry) (inl refl) in (was.0, was.1, free (member directory name) e was.2)
    by_error (Some e) found = own (member directory name) e found
still_shown shows lets old directory why ((name, Ok entry) ∷ children) own free are c (inr within) =
    still_shown shows lets old directory why children own free (λ c' w. are c' (inr w)) c within

pub named : (shows : Key → Bool) (old : Contents) (directory : Key) (c : Child) → IsShownAs shows old directory c → IsNamed c
named shows old directory (name, Ok entry) is = is.0
named shows old directory (name, Err e) is = tt

-- ---- the records of members that are not listed

-- their keys are those of the members
pub recorded-keys : (why : Why) (directory : PathValue) (children : List Child) (hidden : List Record) → map logged_of hidden ≡ filter_map (unseen_record directory.key) children
    → map logged_of (hidden_by why directory children hidden) ≡ filter_map (unseen_record directory.key) (shown_by why directory.key children)
recorded-keys why directory [] hidden are = refl
recorded-keys why directory ((name, Ok entry) ∷ children) hidden are =
    by_error (why (member directory.key name)) _ (shown_by why directory.key children) (recorded-keys why directory children hidden are)
  where
    by_error : (o : Option FsError) (recorded : List Record) (shown : List Child) → map logged_of recorded ≡ filter_map (unseen_record directory.key) shown
        → map logged_of (hidden_record directory name o ++ recorded) ≡ filter_map (unseen_record directory.key) ((name, shown_as o entry) ∷ shown)
    by_error None recorded shown is = is
    by_error (Some e) recorded shown is = ap (λ l. logged Entry (member directory.key name ∷ []) (Refused e) ∷ l) is
recorded-keys why directory ((name, Err e) ∷ children) [] are = absurd cc
recorded-keys why directory ((name, Err e) ∷ children) (r ∷ hidden) are =
    let first : logged_of r ≡ logged Entry (member directory.key name ∷ []) (Refused e) = cc in
    let more : map logged_of hidden ≡ filter_map (unseen_record directory.key) children = cc in
    λ i. first i ∷ recorded-keys why directory children hidden more i

map-drop : (n : ℕ) (xs : List Record) → map logged_of (drop n xs) ≡ drop n (map logged_of xs)
map-drop zero xs = refl
map-drop (suc n) [] = refl
map-drop (suc n) (x ∷ xs) = map-drop n xs

length-map : (xs : List Record) → length (map logged_of xs) ≡ length xs
length-map [] = refl
length-map (x ∷ xs) = ap suc (length-map xs)

-- the log of the wrapped store has the record of the call
pub one_more_recorded : (before after : List Record) (old_log new_log : List Logged) (r : Logged) (others : List Logged) → map logged_of before ≡ old_log → map logged_of after ≡ new_log → new_log ≡ old_log ++ r ∷ others
    → length before + 1 ≤ length after
one_more_recorded before after old_log new_log r others b a recorded =
    let count : length (map logged_of after) ≡ length (map logged_of before ++ r ∷ others) = ap length (a ∙ recorded ∙ ap (λ l. l ++ r ∷ others) (sym b)) in
    omega (arith, count, length-map before, length-map after, length-append (map logged_of before) (r ∷ others))

-- what follows that record
pub hidden_are : (before after hidden : List Record) (old_log new_log : List Logged) (r : Logged) (others : List Logged) → map logged_of before ≡ old_log → map logged_of after ≡ new_log → new_log ≡ old_log ++ r ∷ others
    → hidden ≡ drop (length before + 1) after → map logged_of hidden ≡ others
hidden_are before after hidden old_log new_log r others b a recorded is =
    let count : length (map logged_of before ++ r ∷ []) ≡ length before + 1 = omega (arith, length-append (map logged_of before) (r ∷ []), length-map before) in
    ap (map logged_of) is ∙ map-drop (length before + 1) after ∙ ap (drop (length before + 1)) (a ∙ recorded ∙ ap (λ l. l ++ r ∷ others) (sym b) ∙ sym (append_assoc (map logged_of before) (r ∷ []) others))
    ∙ drop_at (map logged_of before ++ r ∷ []) others (length before + 1) count

-- Lemmas for a PROPFIND's range: keys that are apart, lists of keys, and what calls hide. This project's own choice.
use Rattle.std.proofs.Common.{◌≡◌, ◌≢◌, ◌∙◌, ◌⊎◌, ℕ, List, [], ◌∷◌, ◌++◌, map, inl, inr, refl, sym, ap, subst, append-nil}
use Rattle.std.proofs.lemmas.List.{append_assoc, append_cancel_left}
use Rattle.dav_key.specs.Key.{Key}
use Rattle.dav_resource.specs.declared.record.Op.{Op}
use Rattle.dav_resource.specs.declared.record.Op.TheVariants.{ReadDir, Entry}
use Rattle.dav_resource.specs.declared.record.Outcome.{Outcome}
use Rattle.dav_store.specs.Logged.{Logged, logged}
use Rattle.dav_store.specs.Members.{IsIn, AreDistinct, member}
use Rattle.dav_find.specs.Range.{WasDeclined, IsHidden, AreDownwards}

-- ---- keys

-- no key is at or below both
abbrev pub AreApart : Key → Key → Type 0
AreApart one other = (x y : Key) → one ++ x ≢ other ++ y

pub member_below : (key : Key) (name : List ℕ) (x : Key) → member key name ++ x ≡ key ++ name ∷ x
member_below key name x = append_assoc key (name ∷ []) x

pub none_below : (key x : Key) (name : List ℕ) → key ≢ key ++ name ∷ x
none_below key x name e = let no : [] ≡ name ∷ x = append_cancel_left key [] (name ∷ x) (append-nil key ∙ e) in absurd cc

pub same_name : (key x y : Key) (one other : List ℕ) → key ++ one ∷ x ≡ key ++ other ∷ y → one ≡ other
same_name key x y one other e = let p : one ∷ x ≡ other ∷ y = append_cancel_left key _ _ e in cc

member_apart : (key : Key) (name : List ℕ) (other : Key) → AreApart key other → AreApart (member key name) other
member_apart key name other apart x y e = apart (name ∷ x) y (sym (member_below key name x) ∙ e)

members_apart : (key : Key) (one other : List ℕ) → one ≢ other → AreApart (member key one) (member key other)
members_apart key one other apart x y e = apart (same_name key x y one other (sym (member_below key one x) ∙ e ∙ member_below key other y))

-- ---- lists

module _ {X : Type 0} where
  pub in_left : (x : X) (xs ys : List X) → IsIn x xs → IsIn x (xs ++ ys)
  in_left x [] ys i = absurd i
  in_left x (y ∷ xs) ys (inl e) = inl e
  in_left x (y ∷ xs) ys (inr i) = inr (in_left x xs ys i)

  pub in_right : (x : X) (xs ys : List X) → IsIn x ys → IsIn x (xs ++ ys)
  in_right x [] ys i = i
  in_right x (y ∷ xs) ys i = inr (in_right x xs ys i)

  pub in_either : (x : X) (xs ys : List X) → IsIn x (xs ++ ys) → IsIn x xs ⊎ IsIn x ys
  in_either x [] ys i = inr i
  in_either x (y ∷ xs) ys (inl e) = inl (inl e)
  in_either x (y ∷ xs) ys (inr i) = further (in_either x xs ys i)
    where
      further : IsIn x xs ⊎ IsIn x ys → IsIn x (y ∷ xs) ⊎ IsIn x ys
      further (inl j) = inl (inr j)
      further (inr j) = inr j

pub in_map : {X Y : Type 0} (f : X → Y) (x : X) (xs : List X) → IsIn x xs → IsIn (f x) (map f xs)
in_map f x [] i = absurd i
in_map f x (y ∷ xs) (inl e) = inl (ap f e)
in_map f x (y ∷ xs) (inr i) = inr (in_map f x xs i)

pub out_map : {X Y : Type 0} (f : X → Y) (y : Y) (xs : List X) → IsIn y (map f xs) → (x : X) × IsIn x xs × (y ≡ f x)
out_map f y [] i = absurd i
out_map f y (x ∷ xs) (inl e) = (x, inl refl, sym e)
out_map f y (x ∷ xs) (inr i) = let p = out_map f y xs i in (p.0, inr p.1, p.2)

-- the keys are pairwise apart
abbrev pub AreAllApart : List Key → Type 0
AreAllApart [] = Unit {0}
AreAllApart (key ∷ keys) = ((other : Key) → IsIn other keys → AreApart key other) × AreAllApart keys

pub apart_members : (key : Key) (names : List (List ℕ)) (keys : List Key) → AreDistinct names → ((other : Key) → IsIn other keys → AreApart key other) → AreAllApart keys → AreAllApart (map (member key) names ++ keys)
apart_members key [] keys once apart all = all
apart_members key (name ∷ names) keys once apart all = ((λ other i. which other (in_either other (map (member key) names) keys i)), apart_members key names keys once.1 apart all)
  where
    which : (other : Key) → IsIn other (map (member key) names) ⊎ IsIn other keys → AreApart (member key name) other
    which other (inl i) =
        let p = out_map (member key) other names i in
        subst (AreApart (member key name)) (sym p.2) (members_apart key name p.0 (λ e. once.0 (subst (λ n. IsIn n names) (sym e) p.1)))
    which other (inr i) = member_apart key name other (apart other i)

pub distinct_downwards : (keys : List Key) → AreDownwards keys → AreDistinct keys
distinct_downwards [] down = tt
distinct_downwards (key ∷ keys) down = ((λ i. down.0 key i [] (sym (append-nil key))), distinct_downwards keys down.1)

-- ---- members that calls do not list

-- no record is of a listing at or below the key, or of a member below it that a listing did not show
pub record IsFar (records : List Logged) (key : Key) : Type 0 where
  pub listings : (x : Key) (outcome : Outcome) → IsIn (logged ReadDir ((key ++ x) ∷ []) outcome) records → ⊥
  pub entries : (name : List ℕ) (x : Key) (outcome : Outcome) → IsIn (logged Entry ((key ++ name ∷ x) ∷ []) outcome) records → ⊥

abbrev IsCalled : Op → List Logged → Outcome → Key → Type 0
IsCalled op records outcome key = IsIn (logged op (key ∷ []) outcome) records

far_member : (records : List Logged) (key : Key) (name : List ℕ) → IsFar records key → IsFar records (member key name)
far_member records key name far = record {
  listings = λ x outcome i. far.listings (name ∷ x) outcome (subst (IsCalled ReadDir records outcome) (member_below key name x) i);
  entries = λ next x outcome i. far.entries name (next ∷ x) outcome (subst (IsCalled Entry records outcome) (member_below key name (next ∷ x)) i);
}

pub more_declined : (first others : List Logged) (op : Op) (key : Key) → WasDeclined others op key → WasDeclined (first ++ others) op key
more_declined first others op key d = record { outcome = d.outcome; called = in_right _ first others d.called; declined = d.declined }

pub left_declined : (first others : List Logged) (op : Op) (key : Key) → WasDeclined first op key → WasDeclined (first ++ others) op key
left_declined first others op key d = record { outcome = d.outcome; called = in_left _ first others d.called; declined = d.declined }

less_declined : (first others : List Logged) (op : Op) (key : Key) → ((outcome : Outcome) → IsCalled op first outcome key → ⊥) → WasDeclined (first ++ others) op key → WasDeclined others op key
less_declined first others op key none d = which (in_either _ first others d.called)
  where
    which : IsCalled op first d.outcome key ⊎ IsCalled op others d.outcome key → WasDeclined others op key
    which (inl i) = absurd (none d.outcome i)
    which (inr i) = record { outcome = d.outcome; called = i; declined = d.declined }

pub hidden_more : (first others : List Logged) (key x : Key) → IsHidden others key x → IsHidden (first ++ others) key x
hidden_more first others key [] h = h
hidden_more first others key (name ∷ x) (inl d) = inl (more_declined first others ReadDir key d)
hidden_more first others key (name ∷ x) (inr (inl d)) = inr (inl (more_declined first others Entry (member key name) d))
hidden_more first others key (name ∷ x) (inr (inr h)) = inr (inr (hidden_more first others (member key name) x h))

pub hidden_less : (first others : List Logged) (key x : Key) → IsFar first key → IsHidden (first ++ others) key x → IsHidden others key x
hidden_less first others key [] far h = h
hidden_less first others key (name ∷ x) far (inl d) =
    inl (less_declined first others ReadDir key (λ outcome i. far.listings [] outcome (subst (IsCalled ReadDir first outcome) (sym (append-nil key)) i)) d)
hidden_less first others key (name ∷ x) far (inr (inl d)) = inr (inl (less_declined first others Entry (member key name) (λ outcome i. far.entries name [] outcome i) d))
hidden_less first others key (name ∷ x) far (inr (inr h)) = inr (inr (hidden_less first others (member key name) x (far_member first key name far) h))

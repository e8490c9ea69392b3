-- Locks sought by the tokens that are submitted.
use Rattle.std.proofs.Common.{◌≡◌, ◌∙◌, ℕ, Bool, true, false, cond, ◌&&◌, ◌||◌, List, [], ◌∷◌, refl, sym, ap, ap₂, bytes_eq}
use Rattle.std.specs.List.{filter, list_any}
use Rattle.dav_key.specs.Key.{Key}
use Rattle.dav_store.specs.declared.lock.DavLock.{DavLock}
use Rattle.dav_store.specs.Locks.{has_token, covers, covering}
use Rattle.dav_memls.proofs.Reached.{bytes_eq-sym}
use Rattle.dav_memls.proofs.CoveringLocks.{any_agree, any_filter, any_or}

none_at_all : {X : Type 0} (xs : List X) → list_any (λ x. false) xs ≡ false
none_at_all [] = refl
none_at_all (x ∷ xs) = none_at_all xs

any_and : {X : Type 0} (p : X → Bool) (b : Bool) (xs : List X) → list_any (λ x. p x && b) xs ≡ (list_any p xs && b)
any_and p b [] = refl
any_and p b (x ∷ xs) = ap (λ c. (p x && b) || c) (any_and p b xs) ∙ spread (p x) (list_any p xs) b
  where
    spread : (a c b : Bool) → ((a && b) || (c && b)) ≡ ((a || c) && b)
    spread true true true = refl
    spread true true false = refl
    spread true false true = refl
    spread true false false = refl
    spread false c b = refl

by_tokens : (q : DavLock → Bool) (tokens : List (List ℕ)) (ls : List DavLock) → list_any (λ t. list_any q (filter (has_token t) ls)) tokens ≡ list_any (λ l. list_any (bytes_eq l.token) tokens && q l) ls
by_tokens q tokens [] = none_at_all tokens
by_tokens q tokens (l ∷ ls) =
    any_agree (λ t. list_any q (filter (has_token t) (l ∷ ls))) (λ t. (bytes_eq l.token t && q l) || list_any q (filter (has_token t) ls)) (λ t. first t) tokens
    ∙ any_or (λ t. bytes_eq l.token t && q l) (λ t. list_any q (filter (has_token t) ls)) tokens
    ∙ ap₂ (λ a b. a || b) (any_and (bytes_eq l.token) (q l) tokens) (by_tokens q tokens ls)
  where
    here : (b : Bool) (more : List DavLock) → list_any q (cond b (l ∷ more) more) ≡ ((b && q l) || list_any q more)
    here true more = refl
    here false more = refl

    first : (t : List ℕ) → list_any q (filter (has_token t) (l ∷ ls)) ≡ ((bytes_eq l.token t && q l) || list_any q (filter (has_token t) ls))
    first t = here (has_token t l) (filter (has_token t) ls) ∙ ap (λ b. (b && q l) || list_any q (filter (has_token t) ls)) (bytes_eq-sym t l.token)

-- a lock that covers the key is submitted where a token's lock covers it and comes from the one who asks
pub one_submitted : (from : DavLock → Bool) (tokens : List (List ℕ)) (key : Key) (ls : List DavLock) → list_any (λ t. list_any (λ l. covers l key && from l) (filter (has_token t) ls)) tokens ≡ list_any (λ l. list_any (bytes_eq l.token) tokens && from l) (covering ls key)
one_submitted from tokens key ls =
    by_tokens (λ l. covers l key && from l) tokens ls
    ∙ any_agree (λ l. list_any (bytes_eq l.token) tokens && (covers l key && from l)) (λ l. covers l key && (list_any (bytes_eq l.token) tokens && from l)) (λ l. moved (list_any (bytes_eq l.token) tokens) (covers l key) (from l)) ls
    ∙ sym (any_filter (λ l. list_any (bytes_eq l.token) tokens && from l) (λ l. covers l key) ls)
  where
    moved : (t c f : Bool) → (t && (c && f)) ≡ (c && (t && f))
    moved true c f = refl
    moved false true f = refl
    moved false false f = refl

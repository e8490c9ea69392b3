-- Frames that are served one after the other.
use Rattle.std.proofs.Common.{◌≡◌, ℕ, List, [], ◌∷◌, ◌++◌, map, Option, Some, None, refl, ◌∙◌, ap, inl, inr, Vec, option_map, ◌+◌, ◌<◌, length, take, get_or}
use denote.Ref.{Bor}
use Rattle.std.specs.List.{AllZip}
use Rattle.std.specs.declared.alloc.Global.{Global}
use Rattle.std.proofs.lemmas.List.{map-append, take_more}
use Rattle.std.proofs.lemmas.Grind.{flat_map-append}
use Rattle.dav_store.specs.Calls.{Reads}
use Rattle.dav_store.specs.Store.{Store}
use Rattle.dav_wire.specs.Numbers.{number}
use Rattle.dav_wire.specs.Replies.{ReplyValue, reply, Failed}
use Rattle.dav_wire.specs.Writes.{IsEncoding}
use Rattle.dav_server.specs.Answers.{not_encoded, sent_bytes}
use Rattle.dav_server.specs.Events.{Event, reply_of, Happen, events_of}
use Rattle.dav_server.specs.Frames.{IsSent, Encodes, ServesFrame, ServesFrames}
use Rattle.dav_server.specs.State.{Rules, ServerState, after_expiry}

-- the bytes that are sent for a reply that cannot be encoded
pub not_encoded_is : IsEncoding reply (Failed 507) not_encoded
unfolding reply number
not_encoded_is = record { valid = refl; is = refl }

-- what is sent for an encoded reply, or in its place
pub sent : (value : ReplyValue) (encoded : Option (Vec ℕ Global)) → Encodes value (option_map (λ (v : Vec ℕ Global). v.items) encoded) → IsSent value (sent_bytes encoded)
sent value (Some bytes) h = inl h
sent value None h = inr not_encoded_is

AllZip-more : {A B : Type 0} (R : A → B → Type 0) (xs : List A) (ys : List B) (x : A) (y : B) → AllZip R xs ys → R x y → AllZip R (xs ++ x ∷ []) (ys ++ y ∷ [])
AllZip-more R [] [] x y h one = (one, tt)
AllZip-more R [] (b ∷ ys) x y h one = absurd h
AllZip-more R (a ∷ xs) [] x y h one = absurd h
AllZip-more R (a ∷ xs) (b ∷ ys) x y h one = (h.0, AllZip-more R xs ys x y h.1 one)

module _ {F : Type 0} (see_store : F → Store) (says : F → Reads) where
  Happen-append : (rules : Rules) (xs ys : List Event) (old mid new : ServerState)
      → Happen see_store says rules xs old mid → Happen see_store says rules ys mid new → Happen see_store says rules (xs ++ ys) old new
  Happen-append rules [] ys old mid new first second = rw first at second
  Happen-append rules (x ∷ xs) ys old mid new first second = (first.0, first.1, Happen-append rules xs ys first.0 mid new first.2 second)

  -- no frame was served yet
  pub serves_none : (rules : Rules) (state : ServerState) → ServesFrames see_store says rules state [] [] state
  serves_none rules state = record { actions = []; read = refl; happen = refl; sent = tt }

  -- one more frame
  pub serves_more : (rules : Rules) (old mid new : ServerState) (frames replies : List (List ℕ)) (bytes : List ℕ) (encoded : Option (Vec ℕ Global))
      → ServesFrames see_store says rules old frames replies mid
      → ServesFrame see_store says rules bytes mid (option_map (λ (v : Vec ℕ Global). v.items) encoded) new
      → ServesFrames see_store says rules old (frames ++ bytes ∷ []) (replies ++ sent_bytes encoded ∷ []) new
  serves_more rules old mid new frames replies bytes encoded served one = record {
    actions = served.actions ++ one.action ∷ [];
    read = rw (map-append, map-append) (λ i. served.read i ++ one.of i ∷ []);
    happen = rw flat_map-append (Happen-append rules (events_of served.actions) _ old mid new served.happen (after_expiry mid, refl, (new, one.acts, refl)));
    sent = rw map-append (AllZip-more IsSent (map reply_of served.actions) replies (reply_of one.action) (sent_bytes encoded) served.sent (sent (reply_of one.action) encoded one.encoded));
  }

  -- the same for a loop over the frames
  pub serves_next : (rules : Rules) (old mid new : ServerState) (frames : List (Bor (List ℕ))) (replies replies' : List (Option (Vec ℕ Global))) (i : ℕ) (d : Bor (List ℕ)) (encoded : Option (Vec ℕ Global))
      → ServesFrames see_store says rules old (map (λ (f : Bor (List ℕ)). f.now) (take i frames)) (map sent_bytes replies) mid
      → ServesFrame see_store says rules (get_or frames i d).now mid (option_map (λ (v : Vec ℕ Global). v.items) encoded) new
      → i < length frames → replies' ≡ replies ++ encoded ∷ []
      → ServesFrames see_store says rules old (map (λ (f : Bor (List ℕ)). f.now) (take (i + 1) frames)) (map sent_bytes replies') new
  serves_next rules old mid new frames replies replies' i d encoded served one within grown =
      let taken : map (λ (f : Bor (List ℕ)). f.now) (take (i + 1) frames) ≡ map (λ (f : Bor (List ℕ)). f.now) (take i frames) ++ (get_or frames i d).now ∷ [] =
      ap (map (λ (f : Bor (List ℕ)). f.now)) (take_more frames i d within) ∙ map-append _ (take i frames) (get_or frames i d ∷ []) in
      rw (grown, map-append, taken) (serves_more rules old mid new (map (λ (f : Bor (List ℕ)). f.now) (take i frames)) (map sent_bytes replies) (get_or frames i d).now encoded served one)

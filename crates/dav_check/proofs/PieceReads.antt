-- Calls of `read_bytes` after the log was emptied, and what they leave.
use Rattle.std.proofs.Common.{◌≡◌, ◌⊎◌, ◌∙◌, ℕ, ◌+◌, ◌<◌, ◌≤◌, Bool, [], Result, Ok, Err, Vec, Global, inl, inr, ap}
use Rattle.std.proofs.lemmas.Bool.{cases_lt}
use Rattle.dav_key.specs.Key.{Key}
use Rattle.dav_resource.specs.declared.error.FsError.{FsError}
use Rattle.dav_resource.specs.declared.error.FsError.TheVariants.{Memory}
use Rattle.dav_store.specs.Store.{Store, Contents}
use Rattle.dav_store.specs.Calls.{Declines, Reads, ReadsBytes, read_bytes_call}
use Rattle.dav_check.specs.Reading.{IsReadBelow, IsReadBetween, IsFailure, WasRead}

module _ {F : Type 0} (seen : F → Store) (reads : F → Reads) (key : Key) (first before after : F) (start count : ℕ) (cleared : seen before ≡ record (seen first) { log = [] }) where
  pub piece_read : (bytes : Vec ℕ Global) → ReadsBytes (reads after) (seen before) key start count (Ok bytes) (seen after) → IsReadBetween seen reads (seen first).contents key start (start + count)
  piece_read bytes returned = λ place behind ahead. record {
    before = before;
    after = after;
    start = start;
    count = count;
    bytes = bytes;
    same = ap (λ (s : Store). s.contents) cleared;
    behind = behind;
    ahead = ahead;
    returned = returned;
  }

  pub piece_refused : (e : FsError) → ReadsBytes (reads after) (seen before) key start count (Err e) (seen after) → IsFailure seen reads (seen first).contents key e
  piece_refused e refused = by_cause refused.declined
    where
      by_cause : ((e ≡ Memory) × (seen after ≡ seen before)) ⊎ Declines (read_bytes_call (seen before).contents key) e (seen before) (seen after) → IsFailure seen reads (seen first).contents key e
      by_cause (inl (memory, same)) = inl memory
      by_cause (inr declined) = inr (record {
        before = before;
        after = after;
        start = start;
        count = count;
        error = e;
        same = ap (λ (s : Store). s.contents) cleared;
        cause = declined.not_memory;
        refused = refused;
      })

  pub contents_left : (read : Result (Vec ℕ Global) FsError) → ReadsBytes (reads after) (seen before) key start count read (seen after) → (seen after).contents ≡ (seen first).contents
  contents_left (Ok bytes) reads = reads.granted.effect.same ∙ ap (λ (s : Store). s.contents) cleared
  contents_left (Err e) reads = by_cause reads.declined ∙ ap (λ (s : Store). s.contents) cleared
    where
      by_cause : ((e ≡ Memory) × (seen after ≡ seen before)) ⊎ Declines (read_bytes_call (seen before).contents key) e (seen before) (seen after) → (seen after).contents ≡ (seen before).contents
      by_cause (inl (memory, same)) = ap (λ (s : Store). s.contents) same
      by_cause (inr declined) = declined.same

  pub facts_left : (read : Result (Vec ℕ Global) FsError) → ReadsBytes (reads after) (seen before) key start count read (seen after) → (seen after).facts ≡ (seen first).facts
  facts_left (Ok bytes) reads = reads.granted.fixed ∙ ap (λ (s : Store). s.facts) cleared
  facts_left (Err e) reads = by_cause reads.declined ∙ ap (λ (s : Store). s.facts) cleared
    where
      by_cause : ((e ≡ Memory) × (seen after ≡ seen before)) ⊎ Declines (read_bytes_call (seen before).contents key) e (seen before) (seen after) → (seen after).facts ≡ (seen before).facts
      by_cause (inl (memory, same)) = ap (λ (s : Store). s.facts) same
      by_cause (inr declined) = declined.fixed

-- one more piece
pub read_on : {F : Type 0} (seen : F → Store) (reads : F → Reads) (contents : Contents) (key : Key) (place next : ℕ) → IsReadBelow seen reads contents key place → IsReadBetween seen reads contents key place next → IsReadBelow seen reads contents key next
read_on seen reads contents key place next before piece at below = which (cases_lt at place)
  where
    which : (at < place) ⊎ (place ≤ at) → WasRead seen reads contents key at
    which (inl early) = before at early
    which (inr late) = piece at late below

-- Replies about the access rights.
use Rattle.std.proofs.Common.{◌≡◌, List, Option, Result, Ok, Err, refl, ap, inl, inr, ◌⊎◌}
use Rattle.dav_resource.specs.Errors.{dav_status}
use Rattle.dav_resource.specs.PathText.{PathValue}
use Rattle.dav_resource.specs.declared.error.DavError.{DavError}
use Rattle.dav_resource.specs.declared.error.DavError.TheVariants.{Memory}
use Rattle.dav_rights.specs.Access.{rights_under}
use Rattle.dav_rights.specs.declared.rule.Rule.{Rule}
use Rattle.dav_rights.specs.declared.rules.WrittenRule.{WrittenRule}
use Rattle.dav_wire.specs.Frames.{ExplainValue}
use Rattle.dav_wire.specs.Replies.{ExplainedValue, Explained, Failed}
use Rattle.dav_server.specs.Events.{explained_by, Explains}

-- the path is none of this server, or memory runs out
pub explains_nothing : (read : Result PathValue DavError) (rights : Option (List WrittenRule)) (asked : ExplainValue) (e : DavError)
    → (read ≡ Err e) ⊎ (e ≡ Memory) → Explains read rights asked (Failed (dav_status e))
explains_nothing (Ok path) rights asked e (inl h) = cc
explains_nothing (Ok path) rights asked e (inr h) = inr (ap (λ (d : DavError). Failed (dav_status d)) h)
explains_nothing (Err d) rights asked e (inl h) = let is : e ≡ d = cc in inl (ap (λ (d' : DavError). Failed (dav_status d')) is)
explains_nothing (Err d) rights asked e (inr h) = inr (ap (λ (d' : DavError). Failed (dav_status d')) h)

-- the path is one of this server
pub explains_at : (read : Result PathValue DavError) (rights : Option (List WrittenRule)) (asked : ExplainValue) (path : PathValue) (own : Option (List Rule)) (value : ExplainedValue)
    → read ≡ Ok path → own ≡ rights_under rights asked.principal → value ≡ explained_by own path.key → Explains read rights asked (Explained value)
explains_at read rights asked path own value is by says = rw (is, ← by, says) (inl refl)

-- so it is, and memory runs out
pub explains_without_memory : (read : Result PathValue DavError) (rights : Option (List WrittenRule)) (asked : ExplainValue) (path : PathValue)
    → read ≡ Ok path → Explains read rights asked (Failed 507)
explains_without_memory read rights asked path is = rw is (inr refl)

use Rattle.std.proofs.Common.{◌≡◌, ◌≤◌, ◌⊎◌, inl, inr, ℕ, List, length, map, All, refl}
use Rattle.std.proofs.lemmas.List.{length-map}
use Rattle.std.proofs.lemmas.Result.{err_from_is_err_and}
use denote.Ref.{Bor}
use Rattle.dav_resource.specs.declared.error.DavError.{DavError}
use Rattle.dav_resource.specs.declared.error.DavError.TheVariants.{Memory, Status}
use Rattle.dav_wire.specs.Frames.{RequestValue}
use Rattle.dav_wire.specs.Views.{request_frame_of, field_of}
use Rattle.dav_server.specs.Requests.{IsField, IsUnfit, most_names}
use Rattle.dav_server.proofs.requests.request_of.Goals as goal

-- why the header fields of a frame are not read
unfit_fields :
    (prefix : List ℕ) (frame : RequestValue) (fields items : List (Bor (List ℕ) × Bor (List ℕ))) (e : DavError) → frame.fields ≡ map field_of items → fields ≡ items
    → (e ≡ Memory) ⊎ ((e ≡ Status 400) × ¬ (All IsField (map field_of fields))) ⊎ ((e ≡ Status 431) × (most_names ≤ length fields)) → (e ≡ Memory) ⊎ IsUnfit prefix frame e
unfit_fields prefix frame fields items e is same (inl memory) = inl memory
unfit_fields prefix frame fields items e is same (inr (inl (status, unfit))) = inr (inl (status, λ fit. unfit (rw (same, ← is) fit.fields)))
unfit_fields prefix frame fields items e is same (inr (inr (status, many))) =
    let there : most_names ≤ length items = rw same at many in
    inr (inr (inr (status, rw (is, length-map) there)))

pub returns-in_err-read_headers-clause-err : goal.returns-in_err-read_headers-clause-err
returns-in_err-read_headers-clause-err c =
    let p = err_from_is_err_and c.from_residual-in_err-read_headers.result c.from_residual-in_err-read_headers.ensures.1 in
    rw (p.1, p.2) (unfit_fields c.args.prefix.now (request_frame_of c.args.frame) _ c.args.frame.fields.items _ refl c.deref.ensures.value c.in_err-read_headers.ensures.err)

-- How statuses are answered, by how many there are.
use Rattle.std.proofs.Common.{◌≡◌, ◌∙◌, ◌↔◌, ◌<◌, ◌≤◌, inr, Bool, IsTrue, cond, List, [], ◌∷◌, length, get_or, Result, Ok, Err, IfOk, IfErr, refl, ap, sym, arith}
use Rattle.http.specs.declared.response.Response.{Response}
use Rattle.dav_resource.specs.Gives.{GivesBy}
use Rattle.dav_resource.specs.declared.request.Body.{Body}
use Rattle.dav_resource.specs.declared.error.DavError.{DavError}
use Rattle.dav_resource.specs.declared.error.DavError.TheVariants.{Memory}
use Rattle.dav_resource.specs.PathText.{PathValue}
use Rattle.std.proofs.lemmas.Bool.Decides.{same_from_decides}
use Rattle.dav_key.specs.Key.{is_same_key, same_key_decides}
use Rattle.dav_messages.specs.Reply.{Reply, Answer, reply_of, bare_reply}
use Rattle.dav_resource.specs.declared.profile.Profile.{Profile}
use Rattle.dav_messages.specs.Multistatus.{Item, multi_answer, multistatus_reply}

-- one item, by whether it is the request's own resource
pub multi_answer-one : (profile : Profile) (path : PathValue) (items : List Item) (default other : Item) (own : Bool) → 1 ≤ length items → length items < 2 → (IsTrue own ↔ (path.key ≡ (get_or items 0 default).0.key)) → multi_answer profile path items ≡ cond own (Ok (bare_reply (get_or items 0 other).1 [])) (Ok (multistatus_reply profile items))
multi_answer-one profile path [] default other own some few same = absurd (omega arith)
multi_answer-one profile path (item ∷ []) default other own some few same =
    ap (λ b. cond b (Ok (bare_reply item.1 [])) (Ok (multistatus_reply profile (item ∷ [])))) (sym (same_from_decides own (is_same_key path.key item.0.key) same (same_key_decides path.key item.0.key)))
multi_answer-one profile path (item ∷ next ∷ items) default other own some few same = absurd (omega arith)

-- several items
pub multi_answer-several : (profile : Profile) (path : PathValue) (items : List Item) → 2 ≤ length items → multi_answer profile path items ≡ Ok (multistatus_reply profile items)
multi_answer-several profile path [] several = absurd (omega arith)
multi_answer-several profile path (item ∷ []) several = absurd (omega arith)
multi_answer-several profile path (item ∷ next ∷ items) several = refl

-- a reply that was made as it was to be, unless memory ran out
pub gives-reply : (result : Result (Response Body) DavError) (reply : Reply) → IfOk result (λ r. reply_of r ≡ reply) → IfErr result (λ e. e ≡ Memory) → (answer : Answer) → answer ≡ Ok reply → GivesBy reply_of result answer
gives-reply (Ok r) reply made failed answer is = is ∙ ap Ok (sym made)
gives-reply (Err e) reply made failed answer is = inr failed

-- The laws of each method, from its step.
use Rattle.std.proofs.Common.{◌≡◌, Bool, true, false, List, [], Option, Some, Err, refl, subst, if◌then◌else◌}
use Rattle.dav_resource.specs.declared.error.DavError.{DavError}
use Rattle.dav_resource.specs.declared.error.DavError.TheVariants.{Status}
use Rattle.dav_resource.specs.declared.method.DavMethod.{DavMethod}
use Rattle.dav_resource.specs.declared.method.DavMethod.TheVariants.{Put, Patch, Options, PropFind, PropPatch, MkCol, Copy, Move, Delete, Lock, Unlock}
use Rattle.dav_resource.specs.declared.request.DavRequest.{DavRequest}
use Rattle.dav_store.specs.Logged.{Logged}
use Rattle.dav_messages.specs.Reply.{Answer}
use Rattle.dav_engine.specs.Causes.{HasCause}
use Rattle.dav_engine.specs.Law.{Law, MethodLaw}
use Rattle.dav_engine.specs.Method.{Method, StepBy}
use Rattle.dav_engine.specs.Methods.{mkcol_method, write_method, delete_method, copy_method, move_method, lock_method, unlock_method, proppatch_method, options_method, propfind_method}
use Rattle.dav_engine.specs.Settings.{Settings}
use Rattle.dav_engine.specs.State.{State, IsLawfulState}
use Rattle.dav_engine.proofs.Bounding.{Elsewhere, Unrecorded, elsewhere_mkcol, elsewhere_put, elsewhere_patch, elsewhere_delete, elsewhere_copy, elsewhere_move, elsewhere_lock, elsewhere_unlock, elsewhere_proppatch, elsewhere_options, elsewhere_propfind, unrecorded_mkcol, unrecorded_write, unrecorded_delete, unrecorded_copy, unrecorded_move, unrecorded_lock, unrecorded_unlock, unrecorded_proppatch, unrecorded_options, unrecorded_propfind}
use Rattle.dav_engine.proofs.Untouched.{Untouched, untouched_mkcol, untouched_write, untouched_delete, untouched_copy, untouched_move, untouched_lock, untouched_unlock, untouched_proppatch, untouched_options, untouched_propfind}
use Rattle.dav_engine.proofs.OtherLocks.{OtherLocks, other_locks_mkcol, other_locks_put, other_locks_patch, other_locks_delete, other_locks_copy, other_locks_move, other_locks_lock, other_locks_unlock, other_locks_proppatch, other_locks_options, other_locks_propfind}
use Rattle.dav_engine.proofs.Causing.{Causes, causes_same, causes_mkcol, causes_put, causes_delete, causes_copy, causes_move, causes_lock, causes_unlock, causes_proppatch, causes_options, causes_propfind}
use Rattle.dav_engine.proofs.MakingLaws.{mkcol_law, put_law}
use Rattle.dav_engine.proofs.DeleteLaws.{delete_tells}
use Rattle.dav_engine.proofs.CopyLaws.{copy_tells}
use Rattle.dav_engine.proofs.MoveLaws.{move_tells}
use Rattle.dav_engine.proofs.Reporting.{delete_reports, copy_reports, move_reports}
use Rattle.dav_engine.proofs.WriteLaws.{lock_law}
use Rattle.dav_engine.proofs.UnlockLaws.{unlock_law}
use Rattle.dav_engine.proofs.PatchLaws.{proppatch_law}
use Rattle.dav_engine.proofs.OptionsLaws.{options_law}
use Rattle.dav_engine.proofs.PropfindLaws.{propfind_law}

-- the laws hold of each step of the method from a state that a store and a lock system may be in
abbrev pub Obeys : Option DavMethod → Method → Type 0
Obeys name method =
    (settings : Settings) (request : DavRequest) (old new : State) (records : List Logged) (answer : Answer) → IsLawfulState old → StepBy method settings request old records answer new → Law name settings request old records answer new

-- what its own law says, from its step
abbrev Owns : Option DavMethod → Method → Type 0
Owns name method =
    (settings : Settings) (request : DavRequest) (old new : State) (records : List Logged) (answer : Answer) → IsLawfulState old → StepBy method settings request old records answer new → MethodLaw name settings request old records answer new

obeys : {name : Option DavMethod} {method : Method} → Elsewhere name method → Unrecorded method → Untouched method → OtherLocks name method → Causes name method → Owns name method → Obeys name method
obeys elsewhere unrecorded untouched locks causes own settings request old new records answer lawful step = record {
  bounded = record {
    elsewhere = elsewhere settings request old new records answer lawful step;
    unrecorded = unrecorded settings request old new records answer lawful step;
    untouched = untouched settings request old new records answer lawful step;
    locks = locks settings request old new records answer lawful step;
  };
  cause = causes settings request old new records answer lawful step;
  own = own settings request old new records answer lawful step;
}

pub obeys_mkcol : Obeys (Some MkCol) mkcol_method
obeys_mkcol = obeys elsewhere_mkcol unrecorded_mkcol untouched_mkcol other_locks_mkcol causes_mkcol (λ settings request old new records answer lawful step. mkcol_law lawful step)

pub obeys_put : (partial : Bool) → Obeys (Some (if partial then Patch else Put)) (write_method partial)
obeys_put true = obeys elsewhere_patch (unrecorded_write true) (untouched_write true) other_locks_patch (causes_put true) (λ settings request old new records answer lawful step. put_law true lawful step)
obeys_put false = obeys elsewhere_put (unrecorded_write false) (untouched_write false) other_locks_put (causes_put false) (λ settings request old new records answer lawful step. put_law false lawful step)

-- what each of these leaves, and what it reports
delete_law : Owns (Some Delete) delete_method
delete_law settings request old new records answer lawful step = let tells = delete_tells lawful step in record { emptied = tells.0; locks = tells.1; reports = delete_reports lawful step }

copy_law : Owns (Some Copy) copy_method
copy_law settings request old new records answer lawful step = record { duplicated = copy_tells lawful step; reports = copy_reports lawful step }

move_law : Owns (Some Move) move_method
move_law settings request old new records answer lawful step = let tells = move_tells lawful step in record { moved = tells.0; source = tells.1; reports = move_reports lawful step }

pub obeys_delete : Obeys (Some Delete) delete_method
obeys_delete = obeys elsewhere_delete unrecorded_delete untouched_delete other_locks_delete causes_delete delete_law

pub obeys_copy : Obeys (Some Copy) copy_method
obeys_copy = obeys elsewhere_copy unrecorded_copy untouched_copy other_locks_copy causes_copy copy_law

pub obeys_move : Obeys (Some Move) move_method
obeys_move = obeys elsewhere_move unrecorded_move untouched_move other_locks_move causes_move move_law

pub obeys_lock : Obeys (Some Lock) lock_method
obeys_lock = obeys elsewhere_lock unrecorded_lock untouched_lock other_locks_lock causes_lock (λ settings request old new records answer lawful step. lock_law lawful step)

pub obeys_unlock : Obeys (Some Unlock) unlock_method
obeys_unlock = obeys elsewhere_unlock unrecorded_unlock untouched_unlock other_locks_unlock causes_unlock (λ settings request old new records answer lawful step. unlock_law lawful step)

pub obeys_proppatch : Obeys (Some PropPatch) proppatch_method
obeys_proppatch = obeys elsewhere_proppatch unrecorded_proppatch untouched_proppatch other_locks_proppatch causes_proppatch (λ settings request old new records answer lawful step. proppatch_law lawful step)

pub obeys_options : Obeys (Some Options) options_method
obeys_options = obeys elsewhere_options unrecorded_options untouched_options other_locks_options causes_options (λ settings request old new records answer lawful step. options_law lawful step)

pub obeys_propfind : Obeys (Some PropFind) propfind_method
obeys_propfind = obeys elsewhere_propfind unrecorded_propfind untouched_propfind other_locks_propfind causes_propfind (λ settings request old new records answer lawful step. propfind_law lawful step)

-- ---- where nothing changes

pub law_same : (name : Option DavMethod) (settings : Settings) (request : DavRequest) (state : State) → MethodLaw name settings request state [] (Err (Status 501)) state → Law name settings request state [] (Err (Status 501)) state
law_same name settings request state own = record {
  bounded = record {
    elsewhere = λ key apart. refl;
    unrecorded = λ key none. refl;
    untouched = λ none. refl;
    locks = record { kept = λ lock there other. there; none_new = λ other lock there. there; none_gone = λ is lock there. (lock, there, refl) };
  };
  cause = λ e is. subst (λ d. HasCause name request state [] d state) (recorded is) (causes_same name request state);
  own = own;
}
  where
    recorded : {e : DavError} → ◌≡◌ {A = Answer} (Err (Status 501)) (Err e) → Status 501 ≡ e
    recorded is = cc

use Rattle.std.proofs.Common.{◌∙◌, sym, ap, refl, subst, inl, append-nil, [], Ok}
use Rattle.std.specs.Prelude.{option_map}
use Rattle.http_header.specs.FieldValue.{IsFieldValue}
use Rattle.dav_store.specs.Locks.{Locks}
use Rattle.dav_engine.specs.DavInner.{lent_locks}
use Rattle.dav_engine.specs.Options.{names_of, options_reply}
use Rattle.dav_engine.proofs.AllowList.{IsFieldValue-names_of, is_some-option_map, told_is}
use Rattle.dav_engine.proofs.inner.DavInner.answer_methods.Goals as goal

pub options_reply-requires : goal.options_reply-requires
options_reply-requires g c = subst IsFieldValue (sym c.in_ok-names.ensures) (IsFieldValue-names_of _)

pub returns : goal.returns
returns g c =
    let locks = is_some-option_map (λ (l : Locks). l.list) (option_map g.L.DavLockSystem.seen (lent_locks c.args.self.now)) ∙ is_some-option_map g.L.DavLockSystem.seen (lent_locks c.args.self.now) in
    let offered = told_is _ _ _ _ _ _ _ c.offered_set-offered.ensures locks c.found_methods.ensures in
    record {
      records = [];
      recorded = sym (append-nil _);
      fixed = refl;
      done = inl (record { none = refl; answered = ap Ok (c.in_ok-reply.ensures.ok ∙ ap options_reply (c.in_ok-names.ensures ∙ ap names_of offered)); same = refl });
    }

use Rattle.std.proofs.Common.{◌∙◌, ◌∷◌, ◌<◌, ◌≤◌, length, arith, Err, Ok, ap, sym, subst, get_or}
use Rattle.std.specs.Prelude.{IfOk}
use Rattle.dav_resource.specs.PathText.{IsSegment}
use Rattle.dav_wrapping.specs.Hiding.{shown_as}
use Rattle.dav_wrapping.specs.Underway.{ends, let_be_seen, still_hidden, never_unrecorded, names_stay, no_records}
use Rattle.dav_guarding.specs.Policy.{why_by}
use Rattle.dav_guarding.proofs.listing.hide_members.Goals.{in-Ok+in_ok-error-in-Ok+in-Some+in-Ok+in-Some-1, in-Ok+in_ok-error-in-Ok+in-Some+in-Ok+in-None-1, in-Ok+in_ok-error-in-Ok+in-Some+in-Err-1, in-Ok+in_ok-error-in-Ok+in_default, in-Err+in-Some-split_first+in_ok-clone-in-Err+in_ok-push-in-Err, in-Err+in_default-split_first}
use Rattle.dav_guarding.proofs.listing.hide_members.Goals as goal

pub loop-shown-preserved : goal.loop-shown-preserved
loop-shown-preserved g c =
    let inside : c.loop-shown.shown-index < length c.loop-shown.listing = omega arith in
    elim c.match-shown.branch [
      | in-Ok+in_ok-error-in-Ok+in-Some+in-Ok+in-Some-1 w ↦ record {
        names = names_stay c.loop-shown.shown-index c.loop-shown.listing c.match-shown.listing (Err w.in-Some.error) w.listing-is c.loop-shown.invariant.names tt;
        under = λ children is.
            let before = c.loop-shown.invariant.under children is in
            let next = let_be_seen (why_by (g.P.Policy.refusals c.args.policy.now)) c.args.path.now children c.args.hidden.now c.loop-shown.shown-index c.loop-shown.listing c.match-shown.listing c.loop-shown.unseen.items c.loop-shown.rest.now
            c.shown-item.result (Err w.in-Some.error) c.shown-item.is inside w.listing-is before.0 before.1
            w.in-Ok.entry w.in_ok-error-in-Ok.field-0 c.match-shown.unseen.items c.match-shown.rest.now (c.shown-item.is ∙ w.in-Ok.is) (sym (ap (λ o. shown_as o w.in-Ok.entry) w.in-Some.is))
            w.in_ok-error-in-Ok.ensures.error (ap (λ u. u.items) w.unseen-is ∙ w.in_ok-error-in-Ok.ensures.recorded) (ap (λ v. v.now) w.rest-is) in
            (next.0, next.2);
      }
      | in-Ok+in_ok-error-in-Ok+in-Some+in-Ok+in-None-1 w ↦ record {
        names = names_stay c.loop-shown.shown-index c.loop-shown.listing c.match-shown.listing (Err w.in-Some.error) w.listing-is c.loop-shown.invariant.names tt;
        under = λ children is.
            let before = c.loop-shown.invariant.under children is in
            let next = let_be_seen (why_by (g.P.Policy.refusals c.args.policy.now)) c.args.path.now children c.args.hidden.now c.loop-shown.shown-index c.loop-shown.listing c.match-shown.listing c.loop-shown.unseen.items c.loop-shown.rest.now
            c.shown-item.result (Err w.in-Some.error) c.shown-item.is inside w.listing-is before.0 before.1
            w.in-Ok.entry w.in_ok-error-in-Ok.field-0 c.match-shown.unseen.items c.match-shown.rest.now (c.shown-item.is ∙ w.in-Ok.is) (sym (ap (λ o. shown_as o w.in-Ok.entry) w.in-Some.is))
            w.in_ok-error-in-Ok.ensures.error (ap (λ u. u.items) w.unseen-is ∙ w.in_ok-error-in-Ok.ensures.recorded) (ap (λ v. v.now) w.rest-is) in
            (next.0, next.2);
      }
      | in-Ok+in_ok-error-in-Ok+in-Some+in-Err-1 w ↦ record {
        names = names_stay c.loop-shown.shown-index c.loop-shown.listing c.match-shown.listing (Err w.in-Some.error) w.listing-is c.loop-shown.invariant.names tt;
        under = λ children is.
            let before = c.loop-shown.invariant.under children is in
            let next = let_be_seen (why_by (g.P.Policy.refusals c.args.policy.now)) c.args.path.now children c.args.hidden.now c.loop-shown.shown-index c.loop-shown.listing c.match-shown.listing c.loop-shown.unseen.items c.loop-shown.rest.now
            c.shown-item.result (Err w.in-Some.error) c.shown-item.is inside w.listing-is before.0 before.1
            w.in-Ok.entry w.in_ok-error-in-Ok.field-0 c.match-shown.unseen.items c.match-shown.rest.now (c.shown-item.is ∙ w.in-Ok.is) (sym (ap (λ o. shown_as o w.in-Ok.entry) w.in-Some.is))
            w.in_ok-error-in-Ok.ensures.error (ap (λ u. u.items) w.unseen-is ∙ w.in_ok-error-in-Ok.ensures.recorded) (ap (λ v. v.now) w.rest-is) in
            (next.0, next.2);
      }
      | in-Ok+in_ok-error-in-Ok+in_default w ↦ record {
        names = names_stay c.loop-shown.shown-index c.loop-shown.listing c.match-shown.listing (Ok w.in-Ok.entry) w.listing-is c.loop-shown.invariant.names (subst (λ s. IfOk s (λ entry. IsSegment entry.name)) w.in-Ok.is (c.loop-shown.invariant.names c.loop-shown.shown-index c.shown-item.result inside));
        under = λ children is.
            let before = c.loop-shown.invariant.under children is in
            let next = let_be_seen (why_by (g.P.Policy.refusals c.args.policy.now)) c.args.path.now children c.args.hidden.now c.loop-shown.shown-index c.loop-shown.listing c.match-shown.listing c.loop-shown.unseen.items c.loop-shown.rest.now
            c.shown-item.result (Ok w.in-Ok.entry) c.shown-item.is inside w.listing-is before.0 before.1
            w.in-Ok.entry w.in_ok-error-in-Ok.field-0 c.match-shown.unseen.items c.match-shown.rest.now (c.shown-item.is ∙ w.in-Ok.is) (sym (ap (λ o. shown_as o w.in-Ok.entry) w.in_default.is))
            w.in_ok-error-in-Ok.ensures.error (ap (λ u. u.items) w.unseen-is ∙ w.in_ok-error-in-Ok.ensures.recorded) (ap (λ v. v.now) w.rest-is) in
            (next.0, next.2);
      }
      | in-Err+in-Some-split_first+in_ok-clone-in-Err+in_ok-push-in-Err w ↦ record {
        names = names_stay c.loop-shown.shown-index c.loop-shown.listing c.match-shown.listing (get_or c.loop-shown.listing c.loop-shown.shown-index c.shown-item.result) w.listing-is c.loop-shown.invariant.names (c.loop-shown.invariant.names c.loop-shown.shown-index c.shown-item.result inside);
        under = λ children is.
            let before = c.loop-shown.invariant.under children is in
            let next = still_hidden (why_by (g.P.Policy.refusals c.args.policy.now)) c.args.path.now children c.args.hidden.now c.loop-shown.shown-index c.loop-shown.listing c.match-shown.listing c.loop-shown.unseen.items c.loop-shown.rest.now
            c.shown-item.result (get_or c.loop-shown.listing c.loop-shown.shown-index c.shown-item.result) c.shown-item.is inside w.listing-is before.0 before.1
            w.in-Err.field-0 w.in_ok-clone-in-Err.field-0 c.match-shown.rest.now c.match-shown.unseen.items (c.shown-item.is ∙ w.in-Err.is) (sym c.shown-item.is)
            (w.in-Some-split_first.ensures.cases.0 ∙ (λ j. sym w.in_ok-clone-in-Err.ensures j ∷ (sym w.rest-is j).now))
            (ap (λ u. u.items) w.unseen-is ∙ w.in_ok-push-in-Err.ensures.items) in
            (next.1, next.3);
      }
      | in-Err+in_default-split_first w ↦ record {
        names = names_stay c.loop-shown.shown-index c.loop-shown.listing c.match-shown.listing (get_or c.loop-shown.listing c.loop-shown.shown-index c.shown-item.result) w.listing-is c.loop-shown.invariant.names (c.loop-shown.invariant.names c.loop-shown.shown-index c.shown-item.result inside);
        under = λ children is.
            let before = c.loop-shown.invariant.under children is in
            absurd (never_unrecorded (why_by (g.P.Policy.refusals c.args.policy.now)) c.args.path.now children c.args.hidden.now c.loop-shown.shown-index c.loop-shown.listing c.match-shown.listing c.loop-shown.unseen.items c.loop-shown.rest.now
            c.shown-item.result (get_or c.loop-shown.listing c.loop-shown.shown-index c.shown-item.result) c.shown-item.is inside w.listing-is before.0 before.1
            w.in-Err.field-0 (c.shown-item.is ∙ w.in-Err.is) (no_records c.loop-shown.rest.now w.in_default-split_first.ensures.cases));
      }
    ]

pub returns-clause-hidden : goal.returns-clause-hidden
returns-clause-hidden g c children is =
    let before = c.loop-shown.invariant.under children is in
    (ends (why_by (g.P.Policy.refusals c.args.policy.now)) c.args.path.now children c.args.hidden.now c.loop-shown.shown-index c.loop-shown.listing c.loop-shown.unseen.items c.loop-shown.rest.now before.0 before.1 (let all : length c.loop-shown.listing ≤ c.loop-shown.shown-index = omega arith in all)).1

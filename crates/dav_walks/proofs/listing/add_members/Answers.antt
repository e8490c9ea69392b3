use Rattle.std.proofs.Common.{◌++◌, [], Ok, inl, inr, refl, subst, ap, ◌∙◌}
use Rattle.dav_store.specs.Members.{IsIn}
use Rattle.dav_walks.specs.Listing.{Listed, shown_in, in_turn}
use Rattle.dav_walks.proofs.Adding.{on_err, shown_segment, all_there, less_waits, none_waits, listing_shown, listing_declined}
use Rattle.dav_walks.proofs.listing.add_members.Goals as goal

pub push_members-requires : goal.push_members-requires
push_members-requires g c = λ entry i.
    let lists = c.in-Ok.ensures.granted in
    shown_segment _ c.args.directory.now.key lists.children lists.are (g.met.F.GuardedFileSystem.well_formed c.args.fs.now) entry (subst (λ items. IsIn (Ok entry) items) lists.listed i)

pub returns-in_err-push_members-in-Ok-clause-stopped : goal.returns-in_err-push_members-in-Ok-clause-stopped
returns-in_err-push_members-in-Ok-clause-stopped g c = on_err _ _ (inr (_, listing_shown c.args.directory.now _ _ _ c.in-Ok.ensures.granted))

pub returns-in_ok-push_members-in-Ok-clause-added : goal.returns-in_ok-push_members-in-Ok-clause-added
returns-in_ok-push_members-in-Ok-clause-added g c = record {
  listing = _;
  read = listing_shown c.args.directory.now _ _ _ c.in-Ok.ensures.granted;
  added = c.in_ok-push_members-in-Ok.ensures;
}

pub returns-in_ok-push_members-in-Ok-clause-there : goal.returns-in_ok-push_members-in-Ok-clause-there
returns-in_ok-push_members-in-Ok-clause-there g c = λ there.
    let lists = c.in-Ok.ensures.granted in
    all_there _ c.args.directory.now lists.children c.args.waiting.now.items c.push_members.new.waiting.items lists.are
    (c.in_ok-push_members-in-Ok.ensures ∙ ap (λ items. shown_in c.args.directory.now items ++ in_turn c.args.waiting.now.items) lists.listed) there

pub returns-in_ok-push_members-in-Ok-clause-fewer : goal.returns-in_ok-push_members-in-Ok-clause-fewer
returns-in_ok-push_members-in-Ok-clause-fewer g c = λ meta is.
    let lists = c.in-Ok.ensures.granted in
    less_waits _ c.args.directory.now lists.children meta c.args.waiting.now.items c.push_members.new.waiting.items (g.met.F.GuardedFileSystem.well_formed c.args.fs.now) lists.are
    (c.in_ok-push_members-in-Ok.ensures ∙ ap (λ items. shown_in c.args.directory.now items ++ in_turn c.args.waiting.now.items) lists.listed) is

pub returns-in_default : goal.returns-in_default
returns-in_default g c =
    let directory = c.args.directory.now in
    let read : Listed directory (g.F.GuardedFileSystem.seen c.args.fs.now) [] (g.F.GuardedFileSystem.seen c.read_dir.new.self) = elim c.in-Err.ensures.declined [
      | inl p ↦ absurd (c.in_default.not-Memory p.0)
      | inr declined ↦ listing_declined directory (g.F.GuardedFileSystem.seen c.args.fs.now) c.in-Err.error (g.F.GuardedFileSystem.seen c.read_dir.new.self) declined
    ] in
    record {
      added = record { listing = []; read = read; added = refl };
      there = λ there. there;
      err = tt;
      stopped = tt;
      fewer = λ meta is. none_waits (g.F.GuardedFileSystem.seen c.args.fs.now).contents directory meta c.args.waiting.now.items (g.met.F.GuardedFileSystem.well_formed c.args.fs.now) is;
    }

use Rattle.dav_check.proofs.Members.{takes_none, takes_one, taken_in}
use Rattle.dav_check.proofs.pending.push_members.Goals as goal

pub loop-shown-init : goal.loop-shown-init
loop-shown-init c = takes_none c.args.directory.now c.args.listing.items c.args.waiting.now.items

pub member_path-requires : goal.member_path-requires
member_path-requires c =
    c.requires c.in_ok-entry.entry
    (taken_in c.args.directory.now c.args.listing.items c.loop-shown.listing.items c.pop.new.self.items c.args.waiting.now.items c.loop-shown.waiting.items c.loop-shown.invariant c.in-Some.shown c.in_ok-entry.entry c.in-Some.ensures.items c.in_ok-entry.was)

pub loop-shown-preserved : goal.loop-shown-preserved
loop-shown-preserved c =
    takes_one c.args.directory.now c.args.listing.items c.loop-shown.listing.items c.pop.new.self.items c.args.waiting.now.items c.loop-shown.waiting.items c.loop-shown.invariant c.in-Some.shown c.in_ok-entry.entry c.in-Some.ensures.items c.in_ok-entry.was
    c.in_ok-path.path c.push.new.self.items c.in_ok-path.ensures c.in_ok-push.ensures.items

use Rattle.std.proofs.Common.{◌≡◌, ◌++◌, Ok, vec_len}
use Rattle.dav_resource.specs.PathText.{IsSegment}
use Rattle.dav_resource.specs.declared.meta.DirEntry.{DirEntry}
use Rattle.dav_store.specs.Members.{IsIn}
use Rattle.dav_walks.specs.Listing.{shown_in, in_turn}
use Rattle.dav_walks.proofs.listing.push_members.Given as goal

-- what is left of the listing comes before those that wait
abbrev pub invariant-loop-shown : goal.invariant-loop-shown
invariant-loop-shown l = record {
  left : shown_in l.directory l.initial.listing.items ++ in_turn l.initial.waiting.items ≡ shown_in l.directory l.listing.items ++ in_turn l.waiting.items;
  names : (entry : DirEntry) → IsIn (Ok entry) l.listing.items → IsSegment entry.name;
}

abbrev pub decreases-loop-shown : goal.decreases-loop-shown
decreases-loop-shown l = vec_len l.listing

use Rattle.std.specs.Prelude.{All}
use Rattle.std.specs.Ordering.{nat_cmp}
use Rattle.std.specs.Map.{keys_of}
use Rattle.std.proofs.lemmas.Map.Views.{All-keys-insert_entry, All-map-remove_entry}
use Rattle.http.specs.StatusCode.{IsStatusCode}
use Rattle.dav_props.proofs.propstat.add_property.Goals as goal

-- what is left behind the removal are statuses, and so is what is put in
pub returns-clause-statuses : goal.returns-clause-statuses
returns-clause-statuses c = λ all one.
    let left : All IsStatusCode (keys_of c.remove.new.self.entries) = rw c.remove.ensures.entries (All-map-remove_entry _ (λ e. e.0) IsStatusCode c.args.groups.entries all) in
    rw c.in_ok-insert.ensures.entries (All-keys-insert_entry nat_cmp c.args.status _ IsStatusCode c.remove.new.self.entries left one)

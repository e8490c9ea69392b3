-- What the query on the list of tables means, over a database with none.
use Rattle.std.proofs.Common.{◌≡◌, ℕ, pos, negsuc, List, [], ◌∷◌, codes, arith, true, false, None, refl}
use Rattle.sqlite.specs.declared.types.Value.TheVariants.{Int}
use Rattle.sqlite.specs.Term.{lit, col}
use Rattle.sqlite.specs.Query.{Query, inner, end}
use Rattle.sqlite.specs.Command.TheVariants.{Select}
use Rattle.sqlite.specs.Schema.{Schema}
use Rattle.sqlite_tied.specs.Compute.{everything}
use Rattle.sqlite.specs.Listing.{understood, reads_listing, listing_schema}
use Rattle.sqlite.proofs.Callers.{IsPlain, command_of}
use Rattle.sqlite_typing.specs.Types.{accepts_program}
use Rattle.dav_rows.specs.Tables.{no_schema}
use Rattle.dav_rows.proofs.Suits.{IsAlone}

abbrev pub listing_text : List ℕ
listing_text = codes "SELECT name FROM sqlite_schema"

abbrev pub listing_query : Query
listing_query = record {
  from = inner 0 end;
  filter = [];
  group = None;
  project = col 1 2 ∷ [];
  distinct = false;
  collations = [];
  order = [];
  limit = lit (Int (negsuc 0));
  offset = lit (Int (pos 0));
}

-- over this schema the text reads the list of tables
pub record Lists (schema : Schema) : Type 0 where
  pub is : command_of (understood schema listing_text) ≡ Select (record { lets = []; body = listing_query }) (codes "name" ∷ [])
  pub listed : reads_listing schema listing_text ≡ true
  pub plain : IsPlain (understood schema listing_text)
  pub alone : IsAlone listing_text 0 (understood schema listing_text)
  pub accepted : accepts_program listing_schema [] listing_query [] ≡ true

pub lists_none : Lists no_schema
unfolding understood listing_schema everything
lists_none = record { is = refl; listed = refl; plain = (refl, refl); alone = (omega arith, refl); accepted = refl }

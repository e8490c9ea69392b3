-- The client that requests properties, and what is known besides the resource: the principal (RFC 3744, section 2), the field User-Agent (RFC 9110,
-- section 10.1.5), the store's quota (RFC 4331) and the profile of the engine.
use Rattle.std.specs.Prelude.{ℕ, Bool, false, ◌||◌, nat_eq, List, [], ◌∷◌, codes, Option}
use Rattle.std.specs.List.{starts_with}
use Rattle.std.specs.Option.{option_copied, option_map_or}
use Rattle.dav_resource.specs.declared.profile.Profile.{Profile}
use Rattle.dav_live.specs.declared.viewer.Viewer.{Viewer}

-- the quota is the bytes used, and the total if known
pub record Asker : Type 0 where
  pub principal : Option (List ℕ)
  pub user_agent : Option (List ℕ)
  pub quota : Option (ℕ × Option ℕ)
  pub profile : Profile

-- the asker of a `Viewer`
abbrev pub asker_of : Viewer → Asker
asker_of viewer =
    record { principal = option_copied viewer.principal; user_agent = option_copied viewer.user_agent; quota = viewer.quota; profile = viewer.profile }

-- the part occurs somewhere in the string
abbrev pub has_part : List ℕ → List ℕ → Bool
has_part part [] = starts_with nat_eq [] part
has_part part (b ∷ text) = starts_with nat_eq (b ∷ text) part || has_part part text

-- the client is one of Microsoft's
abbrev pub names_microsoft : Option (List ℕ) → Bool
names_microsoft user_agent = option_map_or (has_part (codes "Microsoft")) user_agent false

-- the client is the macOS file system
abbrev pub names_webdavfs : Option (List ℕ) → Bool
names_webdavfs user_agent = option_map_or (has_part (codes "WebDAVFS")) user_agent false

-- The namespace prefixes that a response declares besides `D` (Namespaces in XML 1.0, section 3): this project's own choice.
use Rattle.std.specs.Prelude.{ℕ, List, if◌then◌else◌, codes}
use Rattle.std.specs.List.{list_any}
use Rattle.dav_resource.specs.Tree.{Tree, with_attribute, xmlns_name}
use Rattle.dav_find.specs.Asked.{is_of}
use Rattle.dav_find.specs.Asked.{AskedProperty}

-- the prefix is declared if a requested property has its namespace
abbrev pub with_prefix : List AskedProperty → List ℕ → List ℕ → Tree → Tree
with_prefix asked prefix namespace tree =
    if list_any (λ (a : AskedProperty). is_of namespace a.element) asked then with_attribute tree (xmlns_name prefix) namespace else tree

-- the prefixes of Apache's, Microsoft's, Nextcloud's and ownCloud's namespaces
abbrev pub with_prefixes : List AskedProperty → Tree → Tree
with_prefixes asked tree =
    with_prefix asked (codes "oc") (codes "http://owncloud.org/ns")
    (with_prefix asked (codes "nc") (codes "http://nextcloud.org/ns")
    (with_prefix asked (codes "Z") (codes "urn:schemas-microsoft-com:")
    (with_prefix asked (codes "A") (codes "http://apache.org/dav/props/") tree)))

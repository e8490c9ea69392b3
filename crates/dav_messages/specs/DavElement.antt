-- Elements of a request's body, recognized by their local names, and of a response's body, with the prefix `D`, which the outermost one declares (RFC
-- 4918, section 14; Namespaces in XML 1.0, section 3).
use Rattle.std.specs.Prelude.{ℕ, Bool, List, bytes_eq, codes}
use Rattle.dav_resource.specs.PathText.{PathValue}
use Rattle.dav_resource.specs.Profile.{href_text}
use Rattle.dav_resource.specs.declared.profile.Profile.{Profile}
use Rattle.dav_resource.specs.PathForms.{prefixed}
use Rattle.dav_resource.specs.Tree.{Tree, prefixed_element, with_attribute, with_children, one_text, elements}

-- the element has this local name
abbrev pub is_named : List ℕ → Tree → Bool
is_named name tree = bytes_eq tree.tag.name name

-- the element with these elements after its content
abbrev pub with_elements : Tree → List Tree → Tree
with_elements tree more = with_children tree (elements more)

-- an element of this name that declares the prefix
abbrev pub declaring_element : List ℕ → Tree
declaring_element name = with_attribute (prefixed_element name) (codes "xmlns:D") (codes "DAV:")

-- an element of this name that holds a text
abbrev pub text_element : List ℕ → List ℕ → Tree
text_element name text = with_children (prefixed_element name) (one_text text)

-- the `D:href` of a path, including its prefix
abbrev pub href_element : Profile → PathValue → Tree
href_element profile path = text_element (codes "D:href") (href_text profile (prefixed path))

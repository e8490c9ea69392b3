-- The header If (RFC 4918, section 10.4): lists of conditions, each with the resource tag right before it, if there is one.
use Rattle.std.specs.Prelude.{ℕ, Bool, true, false, List, [], ◌∷◌, Option, Some, None, option_map, option_and_then, codes}
use Rattle.http_header.specs.HeaderMap.{Entries}
use Rattle.http_header.specs.FieldValue.{FieldValue}
use Rattle.dav_headers.specs.Values.{first_text}
use Rattle.dav_headers.specs.Repeated.{all_of}
use Rattle.dav_headers.specs.IfToken.{tokens_of}
use Rattle.dav_headers.specs.declared.if_token.IfToken.{IfToken}
use Rattle.dav_headers.specs.declared.if_token.IfToken.TheVariants.{Open, Close, Not, Angle, Bracket, Word}
use Rattle.dav_headers.specs.declared.if_header.IfItem.{IfItem}
use Rattle.dav_headers.specs.declared.if_header.IfItem.TheVariants.{StateToken, ETag}
use Rattle.dav_headers.specs.declared.if_header.IfCondition.{IfCondition}
use Rattle.dav_headers.specs.declared.if_header.IfList.{IfList}

-- what a condition tests: a state token, in angle brackets or as a word, or an entity tag
abbrev pub item_of : IfToken → Option IfItem
item_of (Angle text) = Some (StateToken text)
item_of (Word text) = Some (StateToken text)
item_of (Bracket tag) = Some (ETag tag)
item_of Open = None
item_of Close = None
item_of Not = None

-- a condition with this item, followed by others
abbrev pub with_condition : Bool → Option IfItem → Option (List IfCondition × List IfToken) → Option (List IfCondition × List IfToken)
with_condition negated item others =
    option_and_then (λ it. option_map (λ found. (record { not = negated; item = it } ∷ found.0, found.1)) others) item

-- the conditions up to the first `)`, and what follows it; `negated` says whether a `Not` is right before them
abbrev pub conditions_of : Bool → List IfToken → Option (List IfCondition × List IfToken)
conditions_of negated [] = None
conditions_of false (Close ∷ tokens) = Some ([], tokens)
conditions_of false (Not ∷ tokens) = conditions_of true tokens
conditions_of negated (token ∷ tokens) = with_condition negated (item_of token) (conditions_of false tokens)

-- the conditions between `(` and `)`, and what follows
abbrev pub enclosed : List IfToken → Option (List IfCondition × List IfToken)
enclosed [] = None
enclosed (Open ∷ tokens) = conditions_of false tokens
enclosed (token ∷ tokens) = None

-- a list with the tag right before it, if there is one
abbrev pub with_tag : Option (List ℕ) → List IfCondition × List IfToken → IfList × List IfToken
with_tag tag found = (record { resource_tag = tag; conditions = found.0 }, found.1)

abbrev pub first_list : List IfToken → Option (IfList × List IfToken)
first_list [] = None
first_list (Angle text ∷ tokens) = option_map (with_tag (Some text)) (enclosed tokens)
first_list (token ∷ tokens) = option_map (with_tag None) (enclosed (token ∷ tokens))

-- the lists, if there are any
abbrev pub some_lists : List IfList → Option (List IfList)
some_lists [] = None
some_lists (list ∷ lists) = Some (list ∷ lists)

-- the lists of tokens, and of a string
abbrev pub lists_of : List IfToken → Option (List IfList)
lists_of tokens = option_and_then some_lists (all_of first_list tokens)

abbrev pub if_lists : List ℕ → Option (List IfList)
if_lists text = option_and_then lists_of (tokens_of text)

-- the lists of the header's first value
abbrev pub if_of : Entries FieldValue → Option (List IfList)
if_of headers = option_and_then if_lists (first_text headers (codes "if"))

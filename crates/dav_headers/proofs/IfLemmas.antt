-- The header If is read as the grammar says.
use Rattle.std.proofs.Common.{◌≡◌, ◌∙◌, ℕ, List, Option, Some, None, Result, Ok, Err, IfOk, IfSome, option_and_then, ap, sym, codes}
use Rattle.http_header.specs.HeaderMap.{Entries}
use Rattle.http_header.specs.FieldValue.{FieldValue}
use Rattle.dav_resource.specs.declared.error.DavError.{DavError}
use Rattle.dav_resource.specs.Gives.{GivesBy}
use Rattle.dav_headers.specs.Values.{first_text}
use Rattle.dav_headers.specs.IfToken.{tokens_of}
use Rattle.dav_headers.specs.IfHeader.{lists_of, if_lists, if_of}
use Rattle.dav_headers.specs.IfGrammar.{SpellsIf, IfHeaderSpells}
use Rattle.dav_headers.specs.declared.if_header.IfList.{IfList}
use Rattle.dav_headers.proofs.OptionLemmas.{option_and_then-some}
use Rattle.dav_headers.proofs.TokenLemmas.{tokens_of-found, tokens_of-spelled}
use Rattle.dav_headers.proofs.ListLemmas.{lists_of-found, lists_of-listed}

if_lists-found : (text : List ℕ) (lists : List IfList) → if_lists text ≡ Some lists → SpellsIf text lists
if_lists-found text lists e =
    let chained = option_and_then-some lists_of (tokens_of text) lists e in
    let read = lists_of-found chained.from lists chained.is in
    record { tokens = chained.from; spelled = tokens_of-found text chained.from chained.was; listed = read.listed; some = read.some }

if_lists-spelled : (text : List ℕ) (lists : List IfList) → SpellsIf text lists → if_lists text ≡ Some lists
if_lists-spelled text lists is =
    ap (option_and_then lists_of) (tokens_of-spelled text is.tokens is.spelled) ∙ lists_of-listed is.tokens lists is.listed is.some

if_of-found : (headers : Entries FieldValue) (lists : List IfList) → if_of headers ≡ Some lists → IfHeaderSpells headers lists
if_of-found headers lists e =
    let chained = option_and_then-some if_lists (first_text headers (codes "if")) lists e in
    record { text = chained.from; first = chained.was; spells = if_lists-found chained.from lists chained.is }

if_of-spelled : (headers : Entries FieldValue) (lists : List IfList) → IfHeaderSpells headers lists → if_of headers ≡ Some lists
if_of-spelled headers lists is = ap (option_and_then if_lists) is.first ∙ if_lists-spelled is.text lists is.spells

-- ---- what the reader answers

read_found : (headers : Entries FieldValue) (found : Option (List IfList)) → if_of headers ≡ found → IfSome found (IfHeaderSpells headers)
read_found headers None e = tt
read_found headers (Some lists) e = if_of-found headers lists e

pub gives-found : (headers : Entries FieldValue) (r : Result (Option (List IfList)) DavError) → GivesBy (λ lists. lists) r (Ok (if_of headers)) → IfOk r (λ found. IfSome found (IfHeaderSpells headers))
gives-found headers (Ok found) gives = read_found headers found (cc)
gives-found headers (Err e) gives = tt

pub gives-complete : (headers : Entries FieldValue) (r : Result (Option (List IfList)) DavError) → GivesBy (λ lists. lists) r (Ok (if_of headers)) → (lists : List IfList) → IfHeaderSpells headers lists → IfOk r (λ found. found ≡ Some lists)
gives-complete headers (Ok found) gives lists is = let e : if_of headers ≡ found = cc in sym e ∙ if_of-spelled headers lists is
gives-complete headers (Err e) gives lists is = tt

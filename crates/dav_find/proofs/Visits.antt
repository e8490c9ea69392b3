-- Resources that are reported one after the other: one, and then those that are left.
use Rattle.std.proofs.Common.{◌≡◌, ◌∙◌, OnErr, true, false, List, [], ◌∷◌, ◌++◌, Option, None, Some, Result, Ok, Err, map, inl, inr, refl, sym, ap, subst, append-nil, append_assoc}
use Rattle.std.specs.Prelude.{◌&&◌}
use Rattle.std.specs.Option.{option_map}
use Rattle.std.specs.Result.{IsErrAnd}
use Rattle.std.proofs.lemmas.List.{map-append}
use Rattle.std.proofs.lemmas.Result.{err_from_is_err_and}
use Rattle.dav_key.specs.Key.{Key}
use Rattle.dav_resource.specs.Tree.{Tree, Nodes, no_nodes, text_then, element_then, append_nodes, elements}
use Rattle.dav_resource.specs.declared.profile.Profile.{Profile}
use Rattle.dav_resource.specs.declared.error.DavError.{DavError}
use Rattle.dav_resource.specs.declared.error.DavError.TheVariants.{Memory}
use Rattle.dav_resource.specs.declared.request.Depth.{Depth}
use Rattle.dav_store.specs.Logged.{Logged}
use Rattle.dav_store.specs.Store.{Store, Facts}
use Rattle.dav_messages.specs.Dialogue.{Dialogue, Refuses, EndsIn}
use Rattle.dav_messages.specs.DavElement.{with_elements}
use Rattle.dav_props.specs.Propstat.{PropertyStatus, grouped, property_response}
use Rattle.dav_props.specs.declared.writer.PropWriter.{PropWriter}
use Rattle.dav_walks.specs.Listing.{Shown, ListsAt, AddsMembers, StopsAdding, shown_in, in_turn}
use Rattle.dav_walks.specs.declared.listing.Resource.{Resource}
use Rattle.dav_find.specs.Asked.{AskedProperty}
use Rattle.dav_find.specs.Finding.{View, QuotaAnswer}
use Rattle.dav_find.specs.Response.{Responds, ComesTo, IsResponse}
use Rattle.dav_find.specs.Visiting.{Visit, response_of, reporting, reported, finding, Shows, FindsMembers, VisitsAll, over, more, stops, begins, breaks, is_shown, is_listed, member_depth}
use Rattle.dav_find.specs.Writing.{IsShown, IsVisited, IsVisitedInPart, Writes, WritesAll, WritesFrom, written}

-- what holds at any rate holds of an error
pub on_err : {T E : Type 0} (r : Result T E) (P : Type 0) → P → OnErr r P
on_err (Ok x) P p = tt
on_err (Err e) P p = p

-- ---- what is written

append-none : (ns : Nodes) → append_nodes ns no_nodes ≡ ns
append-none no_nodes = refl
append-none (text_then t ns) = ap (text_then t) (append-none ns)
append-none (element_then tag inner ns) = ap (element_then tag inner) (append-none ns)

append-more : (a b c : Nodes) → append_nodes (append_nodes a b) c ≡ append_nodes a (append_nodes b c)
append-more no_nodes b c = refl
append-more (text_then t a) b c = ap (text_then t) (append-more a b c)
append-more (element_then tag inner a) b c = ap (element_then tag inner) (append-more a b c)

elements-more : (ts us : List Tree) → elements (ts ++ us) ≡ append_nodes (elements ts) (elements us)
elements-more [] us = refl
elements-more (t ∷ ts) us = ap (element_then t.tag t.children) (elements-more ts us)

pub written_none : (profile : Profile) (tree : Tree) → written profile tree [] ≡ tree
written_none profile tree = λ i. record tree { children = append-none tree.children i }

pub written_more : (profile : Profile) (tree : Tree) (visits others : List Visit) → written profile (written profile tree visits) others ≡ written profile tree (visits ++ others)
written_more profile tree visits others =
    let ms : List Tree = map (response_of profile) visits in
    let ns : List Tree = map (response_of profile) others in
    let joined : append_nodes (append_nodes tree.children (elements ms)) (elements ns) ≡ append_nodes tree.children (elements (map (response_of profile) (visits ++ others)))
    = append-more tree.children (elements ms) (elements ns) ∙ ap (append_nodes tree.children) (sym (elements-more ms ns) ∙ ap elements (sym (map-append (response_of profile) visits others))) in
    λ i. record tree { children = joined i }

-- ---- a response

ends_none : {A : Type 0} (dialogue : Dialogue A) (records : List Logged) (e : DavError) → EndsIn dialogue records (Err e) → ComesTo dialogue records None
ends_none dialogue records e (inl refuses) = (Refuses (Err e), refuses)
ends_none dialogue records e (inr lacked) = lacked.1

module _ (view : View) (asked : List AskedProperty) where
  pub shown_none : (depth : Depth) (here : Resource) (quota : Option QuotaAnswer) (store : Store) (writer : PropWriter) → is_shown depth ≡ false
      → IsShown view asked depth here quota writer.tree store writer quota store
  shown_none depth here quota store writer none = record {
    visits = [];
    read = record {
      records = [];
      recorded = sym (append-nil store.log);
      same = refl;
      fixed = refl;
      over = subst (λ shown. Shows view store.contents asked shown here quota [] [] quota) (sym none) (refl, refl, refl);
    };
    tree = sym (written_none view.profile writer.tree);
  }

  responds : (here : Resource) (quota : Option QuotaAnswer) (old new : Store) (answer : List PropertyStatus × Option QuotaAnswer) (h : IsResponse view asked here quota old (Ok answer) new) → Responds view old.contents asked here quota h.held.records (Some answer)
  responds here quota old new answer h = record { kept = h.kept; are = h.are; comes = h.held.ends }

  shows_response : (depth : Depth) (here : Resource) (quota : Option QuotaAnswer) (old new : Store)
      (answer : List PropertyStatus × Option QuotaAnswer) → is_shown depth ≡ true → (h : IsResponse view asked here quota old (Ok answer) new)
      → Shows view old.contents asked (is_shown depth) here quota h.held.records (record { path = here.path; reported = answer.0 } ∷ []) answer.1
  shows_response depth here quota old new answer is h =
      subst (λ shown. Shows view old.contents asked shown here quota h.held.records (record { path = here.path; reported = answer.0 } ∷ []) answer.1) (sym is)
      (answer.0, responds here quota old new answer h, refl)

  pub shown_one : (depth : Depth) (here : Resource) (quota : Option QuotaAnswer) (before : Tree) (old new : Store) (after : PropWriter)
      (answer : List PropertyStatus × Option QuotaAnswer) → is_shown depth ≡ true
      → IsResponse view asked here quota old (Ok answer) new → after.tree ≡ with_elements before (property_response view.profile here.path (grouped answer.0) ∷ [])
      → IsShown view asked depth here quota before old after answer.1 new
  shown_one depth here quota before old new after answer is h tree = record {
    visits = record { path = here.path; reported = answer.0 } ∷ [];
    read = record { records = h.held.records; recorded = h.held.recorded; same = h.held.same; fixed = h.held.fixed; over = shows_response depth here quota old new answer is h };
    tree = tree;
  }

  pub part_unreported : (depth : Depth) (here : Resource) (quota : Option QuotaAnswer) (old new : Store) (e : DavError) → is_shown depth ≡ true
      → IsResponse view asked here quota old (Err e) new
      → IsVisitedInPart view asked depth here quota old new
  part_unreported depth here quota old new e is h = record {
    records = h.held.records;
    recorded = h.held.recorded;
    same = h.held.same;
    fixed = h.held.fixed;
    over = reporting is (record { kept = h.kept; are = h.are; comes = ends_none _ h.held.records e h.held.ends });
  }

  pub part_unwritten : (depth : Depth) (here : Resource) (quota : Option QuotaAnswer) (old new : Store)
      (answer : List PropertyStatus × Option QuotaAnswer) → is_shown depth ≡ true → IsResponse view asked here quota old (Ok answer) new
      → IsVisitedInPart view asked depth here quota old new
  part_unwritten depth here quota old new answer is h = record {
    records = h.held.records;
    recorded = h.held.recorded;
    same = h.held.same;
    fixed = h.held.fixed;
    over = reported _ answer.1 (shows_response depth here quota old new answer is h);
  }

  -- ---- its members

  pub visited_alone : (depth : Depth) (here : Resource) (quota : Option QuotaAnswer) (waits : List Resource) (before : Tree) (old new : Store)
      (after : PropWriter) (next : Option QuotaAnswer)
      → (is_listed depth && here.meta.dir) ≡ false → IsShown view asked depth here quota before old after next new
      → IsVisited view asked depth here quota waits before old after next waits new
  visited_alone depth here quota waits before old new after next none h = record {
    visits = h.visits;
    members = [];
    read = record {
      records = h.read.records;
      recorded = h.read.recorded;
      same = h.read.same;
      fixed = h.read.fixed;
      over = record {
        first = h.read.records;
        rest = [];
        cut = sym (append-nil h.read.records);
        shows = h.read.over;
        finds = subst (λ listed. FindsMembers view old.contents asked listed here [] []) (sym none) (refl, refl);
      };
    };
    tree = h.tree;
    added = refl;
  }

  lists_at : (old mid : Store) (key : Key) (records : List Logged) (listing : List Shown) → mid.facts ≡ old.facts → mid.contents ≡ old.contents
      → ListsAt mid.facts.shows mid.contents key records listing → view.shows ≡ old.facts.shows → ListsAt view.shows old.contents key records listing
  lists_at old mid key records listing fixed same h is =
      subst (λ shows. ListsAt shows old.contents key records listing) (ap (λ (f : Facts). f.shows) fixed ∙ sym is)
      (subst (λ contents. ListsAt mid.facts.shows contents key records listing) same h)

  finds_listed : (depth : Depth) (here : Resource) (old mid : Store) (records : List Logged) (listing : List Shown)
      → (is_listed depth && here.meta.dir) ≡ true → mid.facts ≡ old.facts → mid.contents ≡ old.contents
      → ListsAt mid.facts.shows mid.contents here.path.key records listing → view.shows ≡ old.facts.shows
      → FindsMembers view old.contents asked (is_listed depth && here.meta.dir) here records (shown_in here.path listing)
  finds_listed depth here old mid records listing all fixed same h is =
      subst (λ listed. FindsMembers view old.contents asked listed here records (shown_in here.path listing)) (sym all)
      (listing, lists_at old mid here.path.key records listing fixed same h is, refl)

  pub visited_listed : (depth : Depth) (here : Resource) (quota : Option QuotaAnswer) (waits wait : List Resource) (before : Tree)
      (old mid new : Store) (after : PropWriter) (next : Option QuotaAnswer)
      → (is_listed depth && here.meta.dir) ≡ true → IsShown view asked depth here quota before old after next mid
      → AddsMembers here.path mid waits new wait → view.shows ≡ old.facts.shows
      → IsVisited view asked depth here quota waits before old after next wait new
  visited_listed depth here quota waits wait before old mid new after next all h adds is = record {
    visits = h.visits;
    members = shown_in here.path adds.listing;
    read = record {
      records = h.read.records ++ adds.read.records;
      recorded = rw (adds.read.recorded, h.read.recorded, append_assoc);
      same = adds.read.same ∙ h.read.same;
      fixed = adds.read.fixed ∙ h.read.fixed;
      over = record {
        first = h.read.records;
        rest = adds.read.records;
        cut = refl;
        shows = h.read.over;
        finds = finds_listed depth here old mid adds.read.records adds.listing all h.read.fixed h.read.same adds.read.lists is;
      };
    };
    tree = h.tree;
    added = adds.added;
  }

  pub part_unlisted : (depth : Depth) (here : Resource) (quota : Option QuotaAnswer) (before : Tree) (old mid new : Store) (after : PropWriter)
      (next : Option QuotaAnswer)
      → (is_listed depth && here.meta.dir) ≡ true → IsShown view asked depth here quota before old after next mid → StopsAdding here.path mid new
      → view.shows ≡ old.facts.shows
      → IsVisitedInPart view asked depth here quota old new
  part_unlisted depth here quota before old mid new after next all h (inl same) is =
      rw same (record { records = h.read.records; recorded = h.read.recorded; same = h.read.same; fixed = h.read.fixed; over = reported h.visits next h.read.over })
  part_unlisted depth here quota before old mid new after next all h (inr (listing, read)) is = record {
    records = h.read.records ++ read.records;
    recorded = rw (read.recorded, h.read.recorded, append_assoc);
    same = read.same ∙ h.read.same;
    fixed = read.fixed ∙ h.read.fixed;
    over = finding h.visits next (shown_in here.path listing) (record {
      first = h.read.records;
      rest = read.records;
      cut = refl;
      shows = h.read.over;
      finds = finds_listed depth here old mid read.records listing all h.read.fixed h.read.same read.lists is;
    });
  }

  -- ---- those that wait

  pub all_over : (depth : Depth) (quota : Option QuotaAnswer) (store : Store) (writer : PropWriter)
      → WritesAll view asked depth [] quota writer.tree store (Ok writer) store
  all_over depth quota store writer = record {
    end = Some [];
    read = record { records = []; recorded = sym (append-nil store.log); same = refl; fixed = refl; over = over refl refl refl };
    writes = sym (written_none view.profile writer.tree);
  }

  writes_more : (before : Tree) (after : PropWriter) (visits : List Visit) (answer : Result PropWriter DavError) (end : Option (List Visit)) → after.tree ≡ written view.profile before visits → Writes view asked after.tree answer end
      → Writes view asked before answer (option_map (λ vs. visits ++ vs) end)
  writes_more before after visits (Ok writer) (Some vs) is h = h ∙ ap (λ t. written view.profile t vs) is ∙ written_more view.profile before visits vs
  writes_more before after visits (Ok writer) None is h = h
  writes_more before after visits (Err e) (Some vs) is h = h
  writes_more before after visits (Err e) None is h = h

  pub all_more : (depth : Depth) (here : Resource) (rest : List Resource) (quota next : Option QuotaAnswer) (before : Tree) (old mid new : Store)
      (after : PropWriter) (wait : List Resource) (answer : Result PropWriter DavError)
      → IsVisited view asked depth here quota rest before old after next wait mid
      → WritesAll view asked depth (in_turn wait) next after.tree mid answer new
      → WritesAll view asked depth (here ∷ in_turn rest) quota before old answer new
  all_more depth here rest quota next before old mid new after wait answer h g = record {
    end = option_map (λ vs. h.visits ++ vs) g.end;
    read = record {
      records = h.read.records ++ g.read.records;
      recorded = rw (g.read.recorded, h.read.recorded, append_assoc);
      same = g.read.same ∙ h.read.same;
      fixed = g.read.fixed ∙ h.read.fixed;
      over = more here (in_turn rest) h.read.records g.read.records h.visits next h.members g.end refl refl h.read.over
          (subst (λ contents. VisitsAll view contents asked depth (h.members ++ in_turn rest) next g.read.records g.end) h.read.same
          (subst (λ waiting. VisitsAll view mid.contents asked depth waiting next g.read.records g.end) h.added g.read.over)) refl;
    };
    writes = writes_more before after h.visits answer g.end h.tree g.writes;
  }

  pub all_stop : (depth : Depth) (here : Resource) (rest : List Resource) (quota : Option QuotaAnswer) (before : Tree) (old new : Store)
      (answer : Result PropWriter DavError) → IsErrAnd answer (λ d. d ≡ Memory)
      → IsVisitedInPart view asked depth here quota old new → WritesAll view asked depth (here ∷ in_turn rest) quota before old answer new
  all_stop depth here rest quota before old new answer is h =
      let p = err_from_is_err_and answer is in
      rw (p.1, p.2) (record {
        end = None;
        read = record { records = h.records; recorded = h.recorded; same = h.same; fixed = h.fixed; over = stops here (in_turn rest) refl h.over refl };
        writes = refl;
      })

  -- ---- from the target

  pub from_begins : (target : Resource) (depth : Depth) (next : Option QuotaAnswer) (before : Tree) (old mid new : Store) (after : PropWriter) (wait : List Resource) (answer : Result PropWriter DavError)
      → IsVisited view asked depth target None [] before old after next wait mid
      → WritesAll view asked (member_depth depth) (in_turn wait) next after.tree mid answer new
      → WritesFrom view asked target depth before old answer new
  from_begins target depth next before old mid new after wait answer h g = record {
    end = option_map (λ vs. h.visits ++ vs) g.end;
    read = record {
      records = h.read.records ++ g.read.records;
      recorded = rw (g.read.recorded, h.read.recorded, append_assoc);
      same = g.read.same ∙ h.read.same;
      fixed = g.read.fixed ∙ h.read.fixed;
      over = begins h.read.records g.read.records h.visits next h.members g.end refl h.read.over
          (subst (λ contents. VisitsAll view contents asked (member_depth depth) h.members next g.read.records g.end) h.read.same
          (subst (λ waiting. VisitsAll view mid.contents asked (member_depth depth) waiting next g.read.records g.end) (h.added ∙ append-nil h.members) g.read.over)) refl;
    };
    writes = writes_more before after h.visits answer g.end h.tree g.writes;
  }

  pub from_breaks : (target : Resource) (depth : Depth) (before : Tree) (old new : Store) (answer : Result PropWriter DavError) → IsErrAnd answer (λ d. d ≡ Memory)
      → IsVisitedInPart view asked depth target None old new → WritesFrom view asked target depth before old answer new
  from_breaks target depth before old new answer is h =
      let p = err_from_is_err_and answer is in
      rw (p.1, p.2) (record {
        end = None;
        read = record { records = h.records; recorded = h.recorded; same = h.same; fixed = h.fixed; over = breaks h.over refl };
        writes = refl;
      })

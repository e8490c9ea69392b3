use Rattle.std.proofs.Common.{◌∙◌, ap, []}
use Rattle.std.proofs.lemmas.Result.{IfOk-weaker}
use Rattle.dav_resource.specs.PathText.{read_path}
use Rattle.dav_resource.specs.Path.{path_of}
use Rattle.dav_resource.specs.Profile.{is_kept_in_href}
use Rattle.dav_resource.proofs.EscapeLemmas.{url_text_is}
use Rattle.dav_resource.proofs.ReadsBack.{read_path-href_text}
use Rattle.dav_resource.proofs.path.DavPath.as_href.Goals as goal

pub returns-clause-value : goal.returns-clause-value
returns-clause-value c =
    rw (← c.self.view_is)
    (IfOk-weaker c.path_text.result _ _ (λ text is. is ∙ url_text_is (is_kept_in_href c.args.profile) _ c.escaped_in_href.ensures (path_of c.self.inside)) c.path_text.ensures)

pub returns-clause-reads_back : goal.returns-clause-reads_back
returns-clause-reads_back c =
    rw (← c.self.view_is)
    (IfOk-weaker c.path_text.result _ _
    (λ text is. ap (λ t. read_path t []) (is ∙ url_text_is (is_kept_in_href c.args.profile) _ c.escaped_in_href.ensures (path_of c.self.inside)) ∙ read_path-href_text c.args.profile (path_of c.self.inside) c.self.invariant)
    c.path_text.ensures)

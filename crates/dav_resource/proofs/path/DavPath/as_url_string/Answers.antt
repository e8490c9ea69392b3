use Rattle.std.proofs.Common.{◌∙◌, ap, subst, sym, []}
use Rattle.std.proofs.lemmas.Result.{IfOk-weaker}
use Rattle.http_header.specs.FieldValue.{IsFieldValue}
use Rattle.dav_resource.specs.declared.path.write.TheConstants.{ESCAPED}
use Rattle.dav_resource.specs.PathText.{is_unreserved, read_path}
use Rattle.dav_resource.specs.Path.{path_of}
use Rattle.dav_resource.proofs.EscapeLemmas.{escaped_set, url_text_is}
use Rattle.dav_resource.proofs.ReadsBack.{read_path-url_text, IsFieldValue-url_text}
use Rattle.dav_resource.proofs.path.DavPath.as_url_string.Goals as goal

pub returns-clause-value : goal.returns-clause-value
returns-clause-value c =
    rw (← c.self.view_is) (IfOk-weaker c.path_text.result _ _ (λ text is. is ∙ url_text_is is_unreserved ESCAPED escaped_set (path_of c.self.inside)) c.path_text.ensures)

pub returns-clause-reads_back : goal.returns-clause-reads_back
returns-clause-reads_back c =
    rw (← c.self.view_is)
    (IfOk-weaker c.path_text.result _ _ (λ text is. ap (λ t. read_path t []) (is ∙ url_text_is is_unreserved ESCAPED escaped_set (path_of c.self.inside)) ∙ read_path-url_text (path_of c.self.inside) c.self.invariant) c.path_text.ensures)

pub returns-clause-field_value : goal.returns-clause-field_value
returns-clause-field_value c =
    IfOk-weaker c.path_text.result _ _ (λ text is. subst IsFieldValue (sym (is ∙ url_text_is is_unreserved ESCAPED escaped_set (path_of c.self.inside))) (IsFieldValue-url_text (path_of c.self.inside))) c.path_text.ensures

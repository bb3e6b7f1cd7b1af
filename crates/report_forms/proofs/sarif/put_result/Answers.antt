use Rattle.std.proofs.Common.{codes}
use Rattle.report_forms.specs.Escapes.{json_text}
use Rattle.report_forms.specs.Findings.{finding_view, described}
use Rattle.report_forms.specs.GithubForm.{annotation_level}
use Rattle.report_forms.specs.SarifForm.{sarif_location}
use Rattle.report_forms.proofs.Regrouped.{pieces9}
use Rattle.report_forms.proofs.sarif.put_result.Goals as goal

pub returns : goal.returns
returns c =
    rw (c.in_ok-put-6.ensures, c.in_ok-put_location.ensures, c.in_ok-put-5.ensures, c.in_ok-put_json.ensures, c.deref.ensures.value, c.in_ok-text.ensures, c.in_ok-put-4.ensures, c.in_ok-put-3.ensures, c.annotation_level.ensures, c.in_ok-put-2.ensures, c.in_ok-extend_from_slice.ensures.items, c.in_ok-put.ensures)
    (pieces9 c.args.out.now.items (codes ",{\"ruleId\":\"") (c.args.finding.rule.now) (codes "\",\"level\":\"") (annotation_level c.args.finding.verdict.now) (codes "\",\"message\":{\"text\":\"") (json_text (described (finding_view c.args.finding))) (codes "\"},\"locations\":[") (sarif_location c.args.path.now (finding_view c.args.finding)) (codes "]}"))

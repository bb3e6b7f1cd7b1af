use Rattle.std.proofs.Common.{ℕ, List, [], ◌++◌, string_bytes, refl, sym, ap, ◌∙◌, add-one, append_assoc}
use Rattle.std.proofs.lemmas.List.{append-nil}
use Rattle.code_as_ocl.proofs.marks.put_rules.Goals as goal

pub loop-rule-init : goal.loop-rule-init
loop-rule-init c = ([], refl, sym (append-nil (string_bytes c.args.out.now)))

pub loop-rule-preserved : goal.loop-rule-preserved
loop-rule-preserved c =
    let so_far = c.loop-rule.invariant in
    let rule = c.in_ok-put_rule.ensures in
    let put = rule.2 ∙ (ap (λ (x : List ℕ). x ++ rule.0) so_far.2 ∙ append_assoc (string_bytes c.args.out.now) so_far.0 rule.0) in
    rw add-one (so_far.0 ++ rule.0, (so_far.0, rule.0, so_far.1, rule.1, refl), put)

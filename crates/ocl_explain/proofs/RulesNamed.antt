-- Names of the rules of a text, one rule after another.
use Rattle.std.proofs.Common.{◌≡◌, ◌≤◌, ◌-◌, ℕ, List, [], ◌∷◌, ◌++◌, length, map, drop, min, refl, sym, ap, ◌∙◌, arith, length-drop}
use Rattle.std.proofs.lemmas.List.{append-nil, length-map}
use Rattle.ocl_text.specs.declared.tree.SurfaceRule.{SurfaceRule}
use Rattle.ocl_text.specs.Tree.{Rule}
use Rattle.ocl_text.specs.View.{rule_of}
use Rattle.ocl_core.specs.declared.core_tree.CoreRule.{CoreRule}
use Rattle.ocl_core.specs.Core.{CheckedRule}
use Rattle.ocl_core.specs.CoreView.{checked_rule_of}
use Rattle.ocl_explain.specs.RuleNames.{RuleNames, names_of_rules}

-- none are left where there are no more rules of the text, or no more typed ones
no_more : (ws : List Rule) (rs : List CheckedRule) → min (length ws) (length rs) ≡ 0 → names_of_rules ws rs ≡ []
no_more [] rs h = refl
no_more (w ∷ ws) [] h = refl
no_more (w ∷ ws) (r ∷ rs) h = absurd (omega (arith, h))

-- so all are named where as many were
pub all_named : (ws : List SurfaceRule) (rs : List CoreRule) (i : ℕ) (names whole : List RuleNames) → min (length ws) (length rs) ≤ i
    → names ++ names_of_rules (map rule_of (drop i ws)) (map checked_rule_of (drop i rs)) ≡ whole → names ≡ whole
all_named ws rs i names whole enough is =
    let written : length (map rule_of (drop i ws)) ≡ length ws - i = length-map (drop i ws) rule_of ∙ length-drop i ws in
    let typed : length (map checked_rule_of (drop i rs)) ≡ length rs - i = length-map (drop i rs) checked_rule_of ∙ length-drop i rs in
    let none : min (length (map rule_of (drop i ws))) (length (map checked_rule_of (drop i rs))) ≡ 0 = rw (written, typed) (omega (arith, enough)) in
    sym (append-nil names)
    ∙ ap (λ (ns : List RuleNames). names ++ ns) (sym (no_more (map rule_of (drop i ws)) (map checked_rule_of (drop i rs)) none))
    ∙ is

-- Rules mean the same, whatever old names there are.
use Rattle.std.proofs.Common.{◌≡◌, List, [], ◌∷◌, ◌++◌, length, map, flat_map, Some, refl}
use Rattle.imkl_model.specs.ClassModel.{Renames}
use Rattle.imkl_population.specs.Population.{Population, object_at, instances}
use Rattle.ocl_core.specs.Core as tree
use Rattle.ocl_core.specs.Core.{CoreTree, CoreTrees, CheckedRule}
use Rattle.rule_values.specs.Value.{Value, element_value, object_value}
use Rattle.rule_values.specs.Operations.{or_invalid, as_collection}
use Rattle.rule_values.specs.Verdict.{verdict_of}
use Rattle.rule_report.specs.Report.{line_of, rule_line_of, total_line, counts_of}
use Rattle.ocl_semantics.specs.Meaning.{operation_value, iterated, folded, chosen, meaning, meanings, meant_verdict}
use Rattle.ocl_check.specs.MeantReport.{meant_summary, meant_report}
use Rattle.old_name_laws.specs.OldNames.{population_with}
use Rattle.old_name_laws.proofs.Values.{read_alike}

module _ (r : Renames) (p : Population) where
  abbrev q : Population
  q = population_with r p

  mutual
    meaning_alike : (c : CoreTree) (vars : List Value) → meaning q c vars ≡ meaning p c vars
    meaning_alike (tree.Value c) vars = refl
    meaning_alike (tree.Variable n) vars = refl
    meaning_alike (tree.AllInstances c) vars = refl
    meaning_alike (tree.Feature source f) vars = λ j. or_invalid (read_alike r p f (meaning_alike source vars j) j)
    meaning_alike (tree.Operation operator first others) vars = λ j. operation_value p operator (meaning_alike first vars j) (meanings_alike others vars j)
    meaning_alike (tree.AsCollection c k source) vars = λ j. as_collection c (meaning_alike source vars j)
    meaning_alike (tree.Iterate i source body) vars = λ j. iterated i (meaning_alike source vars j) (λ e. meaning_alike body (element_value e ∷ vars) j)
    meaning_alike (tree.Fold k source start body) vars =
        λ j. folded (meaning_alike source vars j) (meaning_alike start vars j) (λ e a. meaning_alike body (a ∷ element_value e ∷ vars) j)
    meaning_alike (tree.Let v body) vars = λ j. meaning_alike body (meaning_alike v vars j ∷ vars) j
    meaning_alike (tree.If k condition first second) vars =
        λ j. chosen (meaning_alike condition vars j) (meaning_alike first vars j) (meaning_alike second vars j)

    meanings_alike : (cs : CoreTrees) (vars : List Value) → meanings q cs vars ≡ meanings p cs vars
    meanings_alike tree.no_core vars = refl
    meanings_alike (tree.one_core first rest) vars = λ j. meaning_alike first vars j ∷ meanings_alike rest vars j

  meant_alike : meant_verdict q ≡ meant_verdict p
  meant_alike = λ j x o. verdict_of (meaning_alike x.tree (object_value o ∷ []) j)

  -- rules have the same counts
  pub summary_meant_alike : (rs : List CheckedRule) → meant_summary q rs ≡ meant_summary p rs
  summary_meant_alike rs = λ j. counts_of (flat_map (λ x. map (λ o. Some (meant_alike j x o)) (instances p x.context)) rs)

  -- and the same report
  pub report_meant_alike : (rs : List CheckedRule) → meant_report q rs ≡ meant_report p rs
  report_meant_alike rs =
      λ j. flat_map
      (λ x. flat_map (λ o. line_of (Some (meant_alike j x o)) x.name (object_at p o).id) (instances p x.context)
      ++ rule_line_of x.name (length (instances p x.context)) (counts_of (map (λ o. Some (meant_alike j x o)) (instances p x.context)))) rs
      ++ total_line (summary_meant_alike rs j)

-- What the texts of rules can say: whole numbers have 64 bits, and names are names.
use Rattle.std.specs.Prelude.{◌≡◌, ◌≤◌, true}
use Rattle.ocl_base.specs.Words.{is_name}
use Rattle.ocl_tokens.specs.declared.token.TheConstants.{MAX_NUMBER}
use Rattle.ocl_core.specs.Core as tree
use Rattle.ocl_core.specs.Core.{Constant, CoreTree, CoreTrees, CheckedRule}

abbrev pub IsWrittenConstant : Constant → Type 0
IsWrittenConstant (tree.Integer n) = n ≤ MAX_NUMBER
IsWrittenConstant c = Unit {0}

abbrev mutual
  pub IsWritten : CoreTree → Type 0
  IsWritten (tree.Value c) = IsWrittenConstant c
  IsWritten (tree.Variable n) = Unit {0}
  IsWritten (tree.AllInstances c) = Unit {0}
  IsWritten (tree.Feature source f) = IsWritten source
  IsWritten (tree.Operation operator first others) = IsWritten first × AreWritten others
  IsWritten (tree.AsCollection c k source) = IsWritten source
  IsWritten (tree.Iterate i source body) = IsWritten source × IsWritten body
  IsWritten (tree.Fold k source start body) = IsWritten source × (IsWritten start × IsWritten body)
  IsWritten (tree.Let v body) = IsWritten v × IsWritten body
  IsWritten (tree.If k condition first second) = IsWritten condition × (IsWritten first × IsWritten second)

  pub AreWritten : CoreTrees → Type 0
  AreWritten tree.no_core = Unit {0}
  AreWritten (tree.one_core first rest) = IsWritten first × AreWritten rest

-- a rule as its text gives it
abbrev pub IsWrittenRule : CheckedRule → Type 0
IsWrittenRule r = (is_name r.name ≡ true) × IsWritten r.tree

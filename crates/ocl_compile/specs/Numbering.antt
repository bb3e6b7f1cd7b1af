-- The texts and the symbols of a unit, numbered by first use: for each rule its name, its context class, and then its
-- code in order. A symbol's own texts are numbered where it is first used, the class or the enumeration first.
use Rattle.std.specs.Prelude.{ℕ, ◌==◌, ◌&&◌, Bool, false, List, [], ◌∷◌, ◌++◌, position, unwrap_or, bytes_eq, slice_index_or, if◌then◌else◌}
use Rattle.ocl_base.specs.Lists.{is_among}
use Rattle.imkl_model.specs.ClassModel.{Model, class_at, enumeration_at, feature_at}
use Rattle.ocl_kinds.specs.declared.kind.ScalarKind.{ScalarKind}
use Rattle.ocl_kinds.specs.declared.kind.ScalarKind.TheVariants as element
use Rattle.ocl_kinds.specs.declared.kind.Kind.{Kind}
use Rattle.ocl_kinds.specs.declared.kind.Kind.TheVariants.{Scalar, Collection}
use Rattle.ocl_core.specs.declared.operator.Operator.{Operator}
use Rattle.ocl_core.specs.declared.operator.Operator.TheVariants.{Plain, OfClass, OfElements, Equal}
use Rattle.ocl_core.specs.declared.core_tree.Iteration.{Iteration}
use Rattle.ocl_core.specs.declared.core_tree.Iteration.TheVariants as iteration
use Rattle.ocl_core.specs.Core as tree
use Rattle.ocl_core.specs.Core.{Constant, CoreTree, CoreTrees, CheckedRule}
use Rattle.rule_verify.specs.declared.named.Named.{Named}
use Rattle.rule_verify.specs.declared.named.Named.TheVariants as named

-- ---- what is named

abbrev pub same_named : Named → Named → Bool
same_named (named.Class c) (named.Class d) = c == d
same_named (named.Enumeration e) (named.Enumeration f) = e == f
same_named (named.Feature c f) (named.Feature d g) = c == d && f == g
same_named (named.Literal e l) (named.Literal f k) = e == f && l == k
same_named x y = false

abbrev pub literal_name : Model → ℕ → ℕ → List ℕ
literal_name m e l = slice_index_or (enumeration_at m e).literals l []

-- the names that a symbol consists of
abbrev pub names_of_symbol : Model → Named → List (List ℕ)
names_of_symbol m (named.Class c) = (class_at m c).name ∷ []
names_of_symbol m (named.Enumeration e) = (enumeration_at m e).name ∷ []
names_of_symbol m (named.Feature c f) = (class_at m c).name ∷ (feature_at m f).name ∷ []
names_of_symbol m (named.Literal e l) = (enumeration_at m e).name ∷ literal_name m e l ∷ []

-- a feature is named as one of its owner
abbrev pub owned_feature : Model → ℕ → Named
owned_feature m f = named.Feature (feature_at m f).owner f

-- ---- uses

pub data Use : Type 0 where
  UsedText : (text : List ℕ) → Use
  UsedSymbol : (symbol : Named) → Use

abbrev pub constant_uses : Constant → List Use
constant_uses (tree.Text t) = UsedText t ∷ []
constant_uses (tree.Literal e l) = UsedSymbol (named.Literal e l) ∷ []
constant_uses c = []

abbrev pub scalar_uses : ScalarKind → List Use
scalar_uses (element.Enumeration e) = UsedSymbol (named.Enumeration e) ∷ []
scalar_uses (element.Class c) = UsedSymbol (named.Class c) ∷ []
scalar_uses k = []

abbrev pub kind_uses : Kind → List Use
kind_uses (Scalar k) = scalar_uses k
kind_uses (Collection c k) = scalar_uses k

abbrev pub operator_uses : Operator → List Use
operator_uses (Plain operator) = []
operator_uses (OfClass operator c) = UsedSymbol (named.Class c) ∷ []
operator_uses (OfElements operator k) = scalar_uses k
operator_uses (Equal k) = kind_uses k

abbrev pub iteration_uses : Iteration → List Use
iteration_uses (iteration.IsUnique k) = scalar_uses k
iteration_uses i = []

-- in the order of the code: a block stands before its bodies, everything else after its operands
module _ (m : Model) where
  abbrev mutual
    pub tree_uses : CoreTree → List Use
    tree_uses (tree.Value c) = constant_uses c
    tree_uses (tree.Variable n) = []
    tree_uses (tree.AllInstances c) = UsedSymbol (named.Class c) ∷ []
    tree_uses (tree.Feature source f) = tree_uses source ++ UsedSymbol (owned_feature m f) ∷ []
    tree_uses (tree.Operation operator first others) = tree_uses first ++ (trees_uses others ++ operator_uses operator)
    tree_uses (tree.AsCollection c k source) = tree_uses source ++ scalar_uses k
    tree_uses (tree.Iterate i source body) = tree_uses source ++ (iteration_uses i ++ tree_uses body)
    tree_uses (tree.Fold k source start body) = tree_uses source ++ (tree_uses start ++ (scalar_uses k ++ tree_uses body))
    tree_uses (tree.Let v body) = tree_uses v ++ tree_uses body
    tree_uses (tree.If k condition first second) =
        tree_uses condition ++ (kind_uses k ++ (tree_uses first ++ tree_uses second))

    pub trees_uses : CoreTrees → List Use
    trees_uses tree.no_core = []
    trees_uses (tree.one_core first rest) = tree_uses first ++ trees_uses rest

abbrev pub rule_uses : Model → CheckedRule → List Use
rule_uses m r = UsedText r.name ∷ UsedSymbol (named.Class r.context) ∷ tree_uses m r.tree

abbrev pub rules_uses : Model → List CheckedRule → List Use
rules_uses m [] = []
rules_uses m (r ∷ rs) = rule_uses m r ++ rules_uses m rs

-- ---- numbers

-- the texts and the symbols of a unit, in the order of their numbers
pub record Numbering : Type 0 where
  pub texts : List (List ℕ)
  pub symbols : List Named

abbrev pub no_numbers : Numbering
no_numbers = record { texts = []; symbols = [] }

-- a list with one more, unless it is there
abbrev pub once_more : {A : Type 0} → (A → A → Bool) → List A → A → List A
once_more same xs x = if is_among same xs x then xs else xs ++ x ∷ []

abbrev pub with_texts : List (List ℕ) → List (List ℕ) → List (List ℕ)
with_texts texts [] = texts
with_texts texts (t ∷ ts) = with_texts (once_more bytes_eq texts t) ts

abbrev pub with_use : Model → Numbering → Use → Numbering
with_use m n (UsedText t) = record { texts = with_texts n.texts (t ∷ []); symbols = n.symbols }
with_use m n (UsedSymbol s) =
    record { texts = with_texts n.texts (names_of_symbol m s); symbols = once_more same_named n.symbols s }

abbrev pub with_uses : Model → Numbering → List Use → Numbering
with_uses m n [] = n
with_uses m n (u ∷ us) = with_uses m (with_use m n u) us

abbrev pub numbering_of : Model → List CheckedRule → Numbering
numbering_of m rs = with_uses m no_numbers (rules_uses m rs)

-- the number of a text, or of a symbol; each one used has its own
abbrev pub text_number : Numbering → List ℕ → ℕ
text_number n t = unwrap_or (position (bytes_eq t) n.texts) 0

abbrev pub symbol_number : Numbering → Named → ℕ
symbol_number n s = unwrap_or (position (same_named s) n.symbols) 0

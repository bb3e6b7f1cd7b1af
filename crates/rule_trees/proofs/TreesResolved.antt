-- The trees of code name only what the class model has.
use Rattle.std.proofs.Common.{◌≡◌, ℕ, suc, Bool, true, false, List, [], ◌∷◌, Option, Some, None, refl, subst, IfSome, if◌then◌else◌}
use Rattle.std.specs.Prelude.{ℤ, pos, negsuc}
use Rattle.std.specs.List.{AllByRecursion}
use Rattle.imkl_population.specs.Values.{is_integer}
use Rattle.ocl_core.specs.declared.operator.ClassOperator.{ClassOperator}
use Rattle.ocl_core.specs.declared.operator.ClassOperator.TheVariants as of_class
use Rattle.ocl_core.specs.declared.operator.Operator.TheVariants.{OfClass}
use Rattle.ocl_core.specs.Core as tree
use Rattle.ocl_core.specs.Core.{CoreTree}
use Rattle.ocl_semantics.specs.Resolved.{IsResolved}
use Rattle.rule_code.specs.declared.instruction.Instr.{Instr}
use Rattle.rule_code.specs.declared.instruction.Instr.TheVariants as instrs
use Rattle.rule_verify.specs.declared.named.Named.{Named}
use Rattle.rule_verify.specs.declared.named.Named.TheVariants as named
use Rattle.rule_verify.specs.Known.{IsKnownName}
use Rattle.rule_verify.specs.InstrKinds.{Surroundings}
use Rattle.rule_verify.specs.CodeTree as code
use Rattle.rule_verify.specs.CodeTree.{CodeTree, code_tree}
use Rattle.rule_verify.specs.UnitRules.{unit_rule}
use Rattle.rule_verify.proofs.ForAbove.{named_known}
use Rattle.rule_trees.specs.InstrTrees.{symbol_meant, operation_on, below_zero, integer_over, literal_over, instances_over, feature_over, class_over, plain_trees}
use Rattle.rule_trees.specs.CoreOf.{sole, block_trees, branch_trees, trees_after, surroundings_of_rule}
use Rattle.rule_trees.specs.Laws.{TreesAreResolved}
use Rattle.rule_trees.proofs.Steps.{first_gave, sole_is}

module _ (s : Surroundings) where
  abbrev AreIn : List CoreTree → Type 0
  AreIn cs = AllByRecursion (IsResolved s.model) cs

  -- what a symbol names, if anything, is there
  abbrev Known : Option Named → Type 0
  Known x = IfSome x (IsKnownName s.model)

  symbol_known : (n : ℕ) → Known (symbol_meant s n)
  symbol_known n = named_known s.model s.unit n

  so : (xs ds : List CoreTree) → Some xs ≡ Some ds → AreIn xs → AreIn ds
  so xs ds e h = let same : xs ≡ ds = cc in subst AreIn same h

  -- ---- instructions without a body

  resolved_below_zero : (n : ℕ) (b : Bool) → IsResolved s.model (below_zero n b)
  resolved_below_zero n true = (tt, (tt, tt))
  resolved_below_zero n false = ((tt, (tt, tt)), (tt, (tt, tt)))

  integer_in : (n : ℤ) (cs ds : List CoreTree) → integer_over n cs ≡ Some ds → AreIn cs → AreIn ds
  integer_in (pos n) cs ds e h = so _ ds e (tt, h)
  integer_in (negsuc n) cs ds e h = by_test (is_integer (negsuc n)) e
    where
      by_test : (b : Bool) → (if b then Some (below_zero n (is_integer (pos (suc n))) ∷ cs) else None) ≡ Some ds → AreIn ds
      by_test true e = so _ ds e (resolved_below_zero n (is_integer (pos (suc n))), h)
      by_test false e = cc

  literal_in : (x : Option Named) → Known x → (cs ds : List CoreTree) → literal_over x cs ≡ Some ds → AreIn cs → AreIn ds
  literal_in (Some (named.Literal c l)) k cs ds e h = so (tree.Value (tree.Literal c l) ∷ cs) ds e (k, h)
  literal_in x k cs ds e h = cc

  instances_in : (x : Option Named) → Known x → (cs ds : List CoreTree) → instances_over x cs ≡ Some ds → AreIn cs → AreIn ds
  instances_in (Some (named.Class c)) k cs ds e h = so (tree.AllInstances c ∷ cs) ds e (k, h)
  instances_in x k cs ds e h = cc

  feature_in : (x : Option Named) → Known x → (v : CoreTree) (cs ds : List CoreTree) → feature_over (v ∷ cs) x ≡ Some ds → AreIn (v ∷ cs) → AreIn ds
  feature_in (Some (named.Feature c f)) k v cs ds e h = so (tree.Feature v f ∷ cs) ds e ((h.0, k.1), h.1)
  feature_in x k v cs ds e h = cc

  class_in : (o : ClassOperator) (x : Option Named) → Known x → (v : CoreTree) (cs ds : List CoreTree) → class_over o (v ∷ cs) x ≡ Some ds → AreIn (v ∷ cs) → AreIn ds
  class_in o (Some (named.Class c)) k v cs ds e h = so (operation_on (OfClass o c) v [] ∷ cs) ds e ((h.0, (k, tt)), h.1)
  class_in o x k v cs ds e h = cc

  plain_in : (i : Instr) (cs ds : List CoreTree) → plain_trees s i cs ≡ Some ds → AreIn cs → AreIn ds
  plain_in instrs.SelfObject cs ds e h = so _ ds e (tt, h)
  plain_in (instrs.Get n) cs ds e h = so _ ds e (tt, h)
  plain_in (instrs.Int n) cs ds e h = integer_in n cs ds e h
  plain_in (instrs.Bool b) cs ds e h = so _ ds e (tt, h)
  plain_in (instrs.Text t) cs ds e h = so _ ds e (tt, h)
  plain_in (instrs.Enum l) cs ds e h = literal_in (symbol_meant s l.0) (symbol_known l.0) cs ds e h
  plain_in instrs.Null cs ds e h = so _ ds e (tt, h)
  plain_in instrs.Invalid cs ds e h = so _ ds e (tt, h)
  plain_in (instrs.Attr a) (v ∷ cs) ds e h = feature_in (symbol_meant s a.0) (symbol_known a.0) v cs ds e h
  plain_in (instrs.All c) cs ds e h = instances_in (symbol_meant s c.0) (symbol_known c.0) cs ds e h
  plain_in (instrs.AsColl c k) (v ∷ cs) ds e h = so _ ds e (h.0, h.1)
  plain_in (instrs.KindOf c) (v ∷ cs) ds e h = class_in of_class.IsKindOf (symbol_meant s c.0) (symbol_known c.0) v cs ds e h
  plain_in (instrs.TypeOf c) (v ∷ cs) ds e h = class_in of_class.IsTypeOf (symbol_meant s c.0) (symbol_known c.0) v cs ds e h
  plain_in (instrs.AsType c) (v ∷ cs) ds e h = class_in of_class.AsType (symbol_meant s c.0) (symbol_known c.0) v cs ds e h
  plain_in instrs.Add (w ∷ v ∷ cs) ds e h = so _ ds e ((h.1.0, (tt, (h.0, tt))), h.1.1)
  plain_in instrs.Sub (w ∷ v ∷ cs) ds e h = so _ ds e ((h.1.0, (tt, (h.0, tt))), h.1.1)
  plain_in instrs.Mul (w ∷ v ∷ cs) ds e h = so _ ds e ((h.1.0, (tt, (h.0, tt))), h.1.1)
  plain_in instrs.Div (w ∷ v ∷ cs) ds e h = so _ ds e ((h.1.0, (tt, (h.0, tt))), h.1.1)
  plain_in instrs.Mod (w ∷ v ∷ cs) ds e h = so _ ds e ((h.1.0, (tt, (h.0, tt))), h.1.1)
  plain_in instrs.Min (w ∷ v ∷ cs) ds e h = so _ ds e ((h.1.0, (tt, (h.0, tt))), h.1.1)
  plain_in instrs.Max (w ∷ v ∷ cs) ds e h = so _ ds e ((h.1.0, (tt, (h.0, tt))), h.1.1)
  plain_in instrs.Lt (w ∷ v ∷ cs) ds e h = so _ ds e ((h.1.0, (tt, (h.0, tt))), h.1.1)
  plain_in instrs.Le (w ∷ v ∷ cs) ds e h = so _ ds e ((h.1.0, (tt, (h.0, tt))), h.1.1)
  plain_in instrs.Gt (w ∷ v ∷ cs) ds e h = so _ ds e ((h.1.0, (tt, (h.0, tt))), h.1.1)
  plain_in instrs.Ge (w ∷ v ∷ cs) ds e h = so _ ds e ((h.1.0, (tt, (h.0, tt))), h.1.1)
  plain_in instrs.And (w ∷ v ∷ cs) ds e h = so _ ds e ((h.1.0, (tt, (h.0, tt))), h.1.1)
  plain_in instrs.Or (w ∷ v ∷ cs) ds e h = so _ ds e ((h.1.0, (tt, (h.0, tt))), h.1.1)
  plain_in instrs.Xor (w ∷ v ∷ cs) ds e h = so _ ds e ((h.1.0, (tt, (h.0, tt))), h.1.1)
  plain_in instrs.Implies (w ∷ v ∷ cs) ds e h = so _ ds e ((h.1.0, (tt, (h.0, tt))), h.1.1)
  plain_in instrs.Eqx (w ∷ v ∷ cs) ds e h = so _ ds e ((h.1.0, (tt, (h.0, tt))), h.1.1)
  plain_in instrs.Neg (v ∷ cs) ds e h = so _ ds e ((h.0, (tt, tt)), h.1)
  plain_in instrs.Abs (v ∷ cs) ds e h = so _ ds e ((h.0, (tt, tt)), h.1)
  plain_in instrs.Not (v ∷ cs) ds e h = so _ ds e ((h.0, (tt, tt)), h.1)
  plain_in instrs.Undef (v ∷ cs) ds e h = so _ ds e ((h.0, (tt, tt)), h.1)
  plain_in instrs.IsInv (v ∷ cs) ds e h = so _ ds e ((h.0, (tt, tt)), h.1)
  plain_in instrs.TLen (v ∷ cs) ds e h = so _ ds e ((h.0, (tt, tt)), h.1)
  plain_in instrs.Size (v ∷ cs) ds e h = so _ ds e ((h.0, (tt, tt)), h.1)
  plain_in instrs.IsEmpty (v ∷ cs) ds e h = so _ ds e ((h.0, (tt, tt)), h.1)
  plain_in instrs.Sum (v ∷ cs) ds e h = so _ ds e ((h.0, (tt, tt)), h.1)
  plain_in instrs.SubStr (upper ∷ lower ∷ v ∷ cs) ds e h = so _ ds e ((h.1.1.0, (tt, (h.1.0, (h.0, tt)))), h.1.1.1)
  plain_in (instrs.Eq k) (w ∷ v ∷ cs) ds e h = so _ ds e ((h.1.0, (tt, (h.0, tt))), h.1.1)
  plain_in (instrs.Includes k) (w ∷ v ∷ cs) ds e h = so _ ds e ((h.1.0, (tt, (h.0, tt))), h.1.1)
  plain_in (instrs.Count k) (w ∷ v ∷ cs) ds e h = so _ ds e ((h.1.0, (tt, (h.0, tt))), h.1.1)
  plain_in (instrs.IncAll k) (w ∷ v ∷ cs) ds e h = so _ ds e ((h.1.0, (tt, (h.0, tt))), h.1.1)
  plain_in (instrs.ExcAll k) (w ∷ v ∷ cs) ds e h = so _ ds e ((h.1.0, (tt, (h.0, tt))), h.1.1)
  plain_in (instrs.AsSet k) (v ∷ cs) ds e h = so _ ds e ((h.0, (tt, tt)), h.1)
  plain_in i cs ds e h = cc

  -- ---- blocks

  -- the tree of a body names only what is there
  abbrev IsBody : Option CoreTree → Type 0
  IsBody x = (b : CoreTree) → x ≡ Some b → IsResolved s.model b

  block_in : (i : Instr) (x : Option CoreTree) → IsBody x → (cs ds : List CoreTree) → block_trees s i x cs ≡ Some ds → AreIn cs → AreIn ds
  block_in (instrs.Let n) (Some b) is (v ∷ cs) ds e h = so _ ds e ((h.0, is b refl), h.1)
  block_in (instrs.ForAll n) (Some b) is (v ∷ cs) ds e h = so _ ds e ((h.0, is b refl), h.1)
  block_in (instrs.Exists n) (Some b) is (v ∷ cs) ds e h = so _ ds e ((h.0, is b refl), h.1)
  block_in (instrs.One n) (Some b) is (v ∷ cs) ds e h = so _ ds e ((h.0, is b refl), h.1)
  block_in (instrs.Select n) (Some b) is (v ∷ cs) ds e h = so _ ds e ((h.0, is b refl), h.1)
  block_in (instrs.Reject n) (Some b) is (v ∷ cs) ds e h = so _ ds e ((h.0, is b refl), h.1)
  block_in (instrs.Collect n) (Some b) is (v ∷ cs) ds e h = so _ ds e ((h.0, is b refl), h.1)
  block_in (instrs.CollectFlat n) (Some b) is (v ∷ cs) ds e h = so _ ds e ((h.0, is b refl), h.1)
  block_in (instrs.IsUnique k n) (Some b) is (v ∷ cs) ds e h = so _ ds e ((h.0, is b refl), h.1)
  block_in (instrs.Fold k n) (Some b) is (start ∷ v ∷ cs) ds e h = so _ ds e ((h.1.0, (h.0, is b refl)), h.1.1)
  block_in i x is cs ds e h = cc

  branch_in : (i : Instr) (x y : Option CoreTree) → IsBody x → IsBody y → (cs ds : List CoreTree) → branch_trees s i x y cs ≡ Some ds → AreIn cs → AreIn ds
  branch_in (instrs.If k n m) (Some a) (Some b) is_a is_b (c ∷ cs) ds e h = so _ ds e ((h.0, (is_a a refl, is_b b refl)), h.1)
  branch_in i x y is_a is_b cs ds e h = cc

  -- ---- code

  code_in : (t : CodeTree) (cs ds : List CoreTree) → trees_after s t cs ≡ Some ds → AreIn cs → AreIn ds
  code_in code.End cs ds e h = so cs ds e h
  code_in (code.Plain i rest) cs ds e h =
      let x = first_gave (trees_after s rest) (plain_trees s i cs) ds e in
      code_in rest x.0 ds x.2 (plain_in i cs x.0 x.1 h)
  code_in (code.Block i body rest) cs ds e h =
      let r = trees_after s body [] in
      let x = first_gave (trees_after s rest) (block_trees s i (sole r) cs) ds e in
      code_in rest x.0 ds x.2 (block_in i (sole r) (λ b is. (code_in body [] (b ∷ []) (sole_is r b is) tt).0) cs x.0 x.1 h)
  code_in (code.Branch i one two rest) cs ds e h =
      let r = trees_after s one [] in
      let q = trees_after s two [] in
      let x = first_gave (trees_after s rest) (branch_trees s i (sole r) (sole q) cs) ds e in
      code_in rest x.0 ds x.2
      (branch_in i (sole r) (sole q) (λ b is. (code_in one [] (b ∷ []) (sole_is r b is) tt).0) (λ b is. (code_in two [] (b ∷ []) (sole_is q b is) tt).0) cs x.0 x.1 h)
  code_in (code.Torn i left) cs ds e h = cc

-- the law
pub trees_are_resolved : TreesAreResolved
trees_are_resolved m u n c is =
    let s = surroundings_of_rule m u n in
    let t = code_tree (unit_rule u n).code in
    (code_in s t [] (c ∷ []) (sole_is (trees_after s t []) c is) tt).0

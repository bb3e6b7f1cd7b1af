-- An instruction without a body puts on the operands what the tree that it makes means.
use Rattle.std.proofs.Common.{◌≡◌, ℕ, zero, suc, Bool, true, false, List, [], ◌∷◌, length, drop, Option, Some, None, refl, sym, ap, ◌∙◌, arith, if◌then◌else◌}
use Rattle.std.specs.Prelude.{ℤ, pos, negsuc}
use Rattle.imkl_population.specs.declared.scalar.Scalar.TheVariants as scalar
use Rattle.imkl_population.specs.Values.{is_integer}
use Rattle.ocl_core.specs.declared.operator.ClassOperator.{ClassOperator}
use Rattle.ocl_core.specs.declared.operator.ClassOperator.TheVariants as of_class
use Rattle.ocl_core.specs.Core as tree
use Rattle.ocl_core.specs.Core.{CoreTree}
use Rattle.rule_code.specs.declared.instruction.Instr.{Instr}
use Rattle.rule_code.specs.declared.instruction.Instr.TheVariants as instrs
use Rattle.rule_verify.specs.declared.named.Named.{Named}
use Rattle.rule_verify.specs.declared.named.Named.TheVariants as named
use Rattle.rule_verify.specs.InstrKinds.{operands_of}
use Rattle.imkl_population.specs.Population.{Population}
use Rattle.rule_values.specs.Value as value
use Rattle.rule_values.specs.Value.{Value}
use Rattle.rule_values.specs.Operations.{or_invalid, integer_value, subtraction, all_instances}
use Rattle.rule_machine.specs.Machine.{Setting, judged_by, result_of, literal_named, on_class_named, value_named_read}
use Rattle.ocl_semantics.specs.Meaning.{meaning, class_value}
use Rattle.rule_trees.specs.InstrTrees.{symbol_meant, negated, below_zero, integer_over, literal_over, instances_over, feature_over, class_over, plain_trees}

-- the number after one of 64 bits below zero is one too
next_is_integer : (n : ℕ) → is_integer (negsuc (suc n)) ≡ true → is_integer (negsuc n) ≡ true
next_is_integer n h = grind arith

-- what trees mean, on the operands below
abbrev pub stacked_meanings : Population → List Value → List CoreTree → List Value → List Value
stacked_meanings p vars [] os = os
stacked_meanings p vars (c ∷ cs) os = meaning p c vars ∷ stacked_meanings p vars cs os

module _ (s : Setting) (vars os : List Value) where
  abbrev On : List CoreTree → List Value
  On cs = stacked_meanings s.population vars cs os

  same_on : (xs ds : List CoreTree) → Some xs ≡ Some ds → On xs ≡ On ds
  same_on xs ds e = let same : xs ≡ ds = cc in ap On same

  -- a number below zero is what its tree means
  minus : (n : ℕ) → is_integer (negsuc n) ≡ true → meaning s.population (negated (suc n)) vars ≡ value.Single (scalar.Int (negsuc n))
  minus n h = ap (λ b. if b then value.Single (scalar.Int (negsuc n)) else value.Invalid) h

  one_less : (n : ℕ) → is_integer (negsuc n) ≡ true → subtraction (value.Single (scalar.Int (negsuc n))) (value.Single (scalar.Int (pos 1))) ≡ integer_value (negsuc (suc n))
  one_less n h = ap integer_value (ap negsuc (omega arith))

  means_below_zero : (n : ℕ) (b : Bool) → is_integer (pos (suc n)) ≡ b → is_integer (negsuc n) ≡ true → meaning s.population (below_zero n b) vars ≡ value.Single (scalar.Int (negsuc n))
  means_below_zero n true is h = minus n h
  means_below_zero zero false is h = cc
  means_below_zero (suc n) false is h =
      let next = next_is_integer n h in
      ap (λ v. subtraction v (value.Single (scalar.Int (pos 1)))) (minus n next) ∙ one_less n next ∙ minus (suc n) h

  integer_row : (n : ℤ) (cs ds : List CoreTree) → integer_over n cs ≡ Some ds → value.Single (scalar.Int n) ∷ On cs ≡ On ds
  integer_row (pos n) cs ds e = same_on _ ds e
  integer_row (negsuc n) cs ds e = by_test (is_integer (negsuc n)) refl e
    where
      by_test : (b : Bool) → is_integer (negsuc n) ≡ b → (if b then Some (below_zero n (is_integer (pos (suc n))) ∷ cs) else None) ≡ Some ds → value.Single (scalar.Int (negsuc n)) ∷ On cs ≡ On ds
      by_test true is e = ap (λ v. v ∷ On cs) (sym (means_below_zero n (is_integer (pos (suc n))) refl is)) ∙ same_on (below_zero n (is_integer (pos (suc n))) ∷ cs) ds e
      by_test false is e = cc

  literal_row : (x : Option Named) (cs ds : List CoreTree) → literal_over x cs ≡ Some ds → or_invalid (literal_named x) ∷ On cs ≡ On ds
  literal_row (Some (named.Literal e l)) cs ds h = same_on (tree.Value (tree.Literal e l) ∷ cs) ds h
  literal_row x cs ds h = cc

  all_row : (x : Option Named) (cs ds : List CoreTree) → instances_over x cs ≡ Some ds → or_invalid (on_class_named (all_instances s.population) x) ∷ On cs ≡ On ds
  all_row (Some (named.Class c)) cs ds h = same_on _ ds h
  all_row x cs ds h = cc

  feature_row : (x : Option Named) (v : CoreTree) (cs ds : List CoreTree) → feature_over (v ∷ cs) x ≡ Some ds → or_invalid (value_named_read s.population x (meaning s.population v vars)) ∷ On cs ≡ On ds
  feature_row (Some (named.Feature c f)) v cs ds h = same_on _ ds h
  feature_row x v cs ds h = cc

  class_row : (o : ClassOperator) (x : Option Named) (v : CoreTree) (cs ds : List CoreTree) → class_over o (v ∷ cs) x ≡ Some ds → or_invalid (on_class_named (λ n. class_value s.population o n (meaning s.population v vars)) x) ∷ On cs ≡ On ds
  class_row o (Some (named.Class c)) v cs ds h = same_on _ ds h
  class_row o x v cs ds h = cc

  pub plain_means : (i : Instr) (cs ds : List CoreTree) → plain_trees (judged_by s) i cs ≡ Some ds → or_invalid (result_of s vars i (On cs)) ∷ drop (length (operands_of (judged_by s) i)) (On cs) ≡ On ds
  plain_means instrs.SelfObject cs ds e = same_on _ ds e
  plain_means (instrs.Get n) cs ds e = same_on _ ds e
  plain_means (instrs.Int n) cs ds e = integer_row n cs ds e
  plain_means (instrs.Bool b) cs ds e = same_on _ ds e
  plain_means (instrs.Text t) cs ds e = same_on _ ds e
  plain_means (instrs.Enum l) cs ds e = literal_row (symbol_meant (judged_by s) l.0) cs ds e
  plain_means instrs.Null cs ds e = same_on _ ds e
  plain_means instrs.Invalid cs ds e = same_on _ ds e
  plain_means (instrs.Attr a) (v ∷ cs) ds e = feature_row (symbol_meant (judged_by s) a.0) v cs ds e
  plain_means (instrs.All c) cs ds e = all_row (symbol_meant (judged_by s) c.0) cs ds e
  plain_means (instrs.AsColl c k) (v ∷ cs) ds e = same_on _ ds e
  plain_means (instrs.KindOf c) (v ∷ cs) ds e = class_row of_class.IsKindOf (symbol_meant (judged_by s) c.0) v cs ds e
  plain_means (instrs.TypeOf c) (v ∷ cs) ds e = class_row of_class.IsTypeOf (symbol_meant (judged_by s) c.0) v cs ds e
  plain_means (instrs.AsType c) (v ∷ cs) ds e = class_row of_class.AsType (symbol_meant (judged_by s) c.0) v cs ds e
  plain_means instrs.Add (w ∷ v ∷ cs) ds e = same_on _ ds e
  plain_means instrs.Sub (w ∷ v ∷ cs) ds e = same_on _ ds e
  plain_means instrs.Mul (w ∷ v ∷ cs) ds e = same_on _ ds e
  plain_means instrs.Div (w ∷ v ∷ cs) ds e = same_on _ ds e
  plain_means instrs.Mod (w ∷ v ∷ cs) ds e = same_on _ ds e
  plain_means instrs.Min (w ∷ v ∷ cs) ds e = same_on _ ds e
  plain_means instrs.Max (w ∷ v ∷ cs) ds e = same_on _ ds e
  plain_means instrs.Lt (w ∷ v ∷ cs) ds e = same_on _ ds e
  plain_means instrs.Le (w ∷ v ∷ cs) ds e = same_on _ ds e
  plain_means instrs.Gt (w ∷ v ∷ cs) ds e = same_on _ ds e
  plain_means instrs.Ge (w ∷ v ∷ cs) ds e = same_on _ ds e
  plain_means instrs.And (w ∷ v ∷ cs) ds e = same_on _ ds e
  plain_means instrs.Or (w ∷ v ∷ cs) ds e = same_on _ ds e
  plain_means instrs.Xor (w ∷ v ∷ cs) ds e = same_on _ ds e
  plain_means instrs.Implies (w ∷ v ∷ cs) ds e = same_on _ ds e
  plain_means instrs.Eqx (w ∷ v ∷ cs) ds e = same_on _ ds e
  plain_means instrs.Neg (v ∷ cs) ds e = same_on _ ds e
  plain_means instrs.Abs (v ∷ cs) ds e = same_on _ ds e
  plain_means instrs.Not (v ∷ cs) ds e = same_on _ ds e
  plain_means instrs.Undef (v ∷ cs) ds e = same_on _ ds e
  plain_means instrs.IsInv (v ∷ cs) ds e = same_on _ ds e
  plain_means instrs.TLen (v ∷ cs) ds e = same_on _ ds e
  plain_means instrs.Size (v ∷ cs) ds e = same_on _ ds e
  plain_means instrs.IsEmpty (v ∷ cs) ds e = same_on _ ds e
  plain_means instrs.Sum (v ∷ cs) ds e = same_on _ ds e
  plain_means (instrs.Eq k) (w ∷ v ∷ cs) ds e = same_on _ ds e
  plain_means instrs.SubStr (upper ∷ lower ∷ v ∷ cs) ds e = same_on _ ds e
  plain_means (instrs.Includes k) (w ∷ v ∷ cs) ds e = same_on _ ds e
  plain_means (instrs.Count k) (w ∷ v ∷ cs) ds e = same_on _ ds e
  plain_means (instrs.IncAll k) (w ∷ v ∷ cs) ds e = same_on _ ds e
  plain_means (instrs.ExcAll k) (w ∷ v ∷ cs) ds e = same_on _ ds e
  plain_means (instrs.AsSet k) (v ∷ cs) ds e = same_on _ ds e
  plain_means i cs ds e = cc

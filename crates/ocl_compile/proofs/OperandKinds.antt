-- What the instructions of core trees take, by the kinds of their operands: names, operands and results.
use Rattle.std.proofs.Common.{◌≡◌, ℕ, true, ◌&&◌, List, [], ◌∷◌, ◌++◌, Option, Some, refl, sym, ap, ◌∙◌, subst}
use Rattle.std.specs.Prelude.{is_some}
use Rattle.std.specs.List.{list_all}
use Rattle.std.proofs.lemmas.Bool.{and_parts, and_from}
use Rattle.imkl_model.specs.ClassModel.{Model}
use Rattle.ocl_base.specs.declared.collection_kind.CollectionKind.{CollectionKind}
use Rattle.ocl_base.specs.declared.collection_kind.CollectionKind.TheVariants as collection
use Rattle.ocl_kinds.specs.declared.kind.ScalarKind.{ScalarKind}
use Rattle.ocl_kinds.specs.declared.kind.ScalarKind.TheVariants as element
use Rattle.ocl_kinds.specs.declared.kind.Kind.{Kind}
use Rattle.ocl_kinds.specs.declared.kind.Kind.TheVariants.{Scalar, Collection}
use Rattle.ocl_kinds.specs.Kinds.{is_same_collection, scalar_fits, fits, elements_kind}
use Rattle.ocl_kinds.proofs.ForAbove.{scalar_fits_along, fits_itself, fits_along}
use Rattle.ocl_core.specs.declared.operator.PlainOperator.{PlainOperator}
use Rattle.ocl_core.specs.declared.operator.PlainOperator.TheVariants as plain
use Rattle.ocl_core.specs.declared.operator.ClassOperator.{ClassOperator}
use Rattle.ocl_core.specs.declared.operator.ClassOperator.TheVariants as of_class
use Rattle.ocl_core.specs.declared.operator.ElementOperator.{ElementOperator}
use Rattle.ocl_core.specs.declared.operator.ElementOperator.TheVariants as of_elements
use Rattle.ocl_core.specs.declared.operator.Operator.{Operator}
use Rattle.ocl_core.specs.declared.operator.Operator.TheVariants.{Plain, OfClass, OfElements, Equal}
use Rattle.ocl_core.specs.OperatorKinds.{basic, basic_kind}
use Rattle.ocl_core.specs.OperatorKinds.{class_result, element_result}
use Rattle.ocl_core.specs.Typing as typing
use Rattle.ocl_core.specs.Typing.{Operand, is_operand, are_operands, plain_operands, plain_result, AreOthers, IsOperation}
use Rattle.rule_code.specs.declared.instruction.Instr.{Instr}
use Rattle.rule_code.specs.declared.instruction.Instr.TheVariants as instrs
use Rattle.rule_verify.specs.declared.named.Named.{Named}
use Rattle.rule_verify.specs.declared.named.Named.TheVariants as named
use Rattle.rule_verify.specs.declared.pattern.Pattern.{Pattern}
use Rattle.rule_verify.specs.declared.pattern.Pattern.TheVariants as pattern
use Rattle.rule_verify.specs.InstrKinds.{Surroundings, has_names, has_variable, operands_of, result_kind, scalar_symbols, kind_symbols, class_kind, enumeration_kind, scalar_meant, kind_meant}
use Rattle.rule_verify.specs.Patterns.{matches, are_there, all_match, below}
use Rattle.rule_verify.specs.Symbols.{named_at}
use Rattle.ocl_compile.specs.Numbering.{Numbering, Use, symbol_number, scalar_uses, kind_uses, operator_uses}
use Rattle.ocl_compile.specs.Translation.{written_scalar, written_kind, plain_instr, operator_instr}
use Rattle.ocl_compile.specs.ResolvedUses.{AreUsesResolved}
use Rattle.ocl_compile.proofs.Kinded.{TakesKinds}

-- ---- lists of kinds

-- kinds that fit others, one by one
abbrev pub AllNarrower : Model → List Kind → List Kind → Type 0
AllNarrower m [] [] = Unit {0}
AllNarrower m [] (k ∷ ks) = ⊥
AllNarrower m (l ∷ ls) [] = ⊥
AllNarrower m (l ∷ ls) (k ∷ ks) = (fits m l k ≡ true) × AllNarrower m ls ks

-- kinds put one after another on those below
abbrev pub kinds_stacked : List Kind → List Kind → List Kind
kinds_stacked [] ks = ks
kinds_stacked (l ∷ ls) ks = kinds_stacked ls (l ∷ ks)

-- ---- what a kind of a unit means

module _ (s : Surroundings) (n : Numbering) where
  abbrev Known : List Use → Type 0
  Known us = AreUsesResolved s.model s.unit n us

  -- a scalar kind means itself once it is written, where its symbol stands under its number
  pub scalar_is : (k : ScalarKind) → Known (scalar_uses k) → scalar_meant s (written_scalar n k) ≡ k
  scalar_is element.Void h = refl
  scalar_is element.Boolean h = refl
  scalar_is element.Integer h = refl
  scalar_is element.String h = refl
  scalar_is (element.Enumeration e) h = ap enumeration_kind h.0
  scalar_is (element.Class c) h = ap class_kind h.0
  scalar_is element.AnyObject h = refl

  -- so does any kind
  pub kind_is : (k : Kind) → Known (kind_uses k) → kind_meant s (written_kind n k) ≡ k
  kind_is (Scalar k) h = ap (λ (x : ScalarKind). Scalar x) (scalar_is k h)
  kind_is (Collection c k) h = ap (λ (x : ScalarKind). Collection c x) (scalar_is k h)

  -- its symbols name what is there
  abbrev Named_all : List ℕ → Type 0
  Named_all ns = list_all (λ x. is_some (named_at s.model s.unit x)) ns ≡ true

  -- a symbol that stands under its number names something
  pub one_named : (x : Named) → named_at s.model s.unit (symbol_number n x) ≡ Some x → Named_all (symbol_number n x ∷ [])
  one_named x e = ap (λ (o : Option Named). is_some o && true) e

  -- so do those of a scalar kind as it is written
  pub scalar_named : (k : ScalarKind) → Known (scalar_uses k) → Named_all (scalar_symbols (written_scalar n k) ++ [])
  scalar_named element.Void h = refl
  scalar_named element.Boolean h = refl
  scalar_named element.Integer h = refl
  scalar_named element.String h = refl
  scalar_named (element.Enumeration e) h = one_named (named.Enumeration e) h.0
  scalar_named (element.Class c) h = one_named (named.Class c) h.0
  scalar_named element.AnyObject h = refl

  -- and those of any kind
  pub kind_named : (k : Kind) → Known (kind_uses k) → Named_all (kind_symbols (written_kind n k) ++ [])
  kind_named (Scalar k) h = scalar_named k h
  kind_named (Collection c k) h = scalar_named k h

  -- ---- the operands of plain operators

  abbrev pattern_of : Operand → Pattern
  pattern_of (typing.Of t) = pattern.Fitting (basic t)
  pattern_of typing.AnySingle = pattern.Anything
  pattern_of typing.Many = pattern.AnyCollection
  pattern_of (typing.ManyOf t) = pattern.CollectionOf (basic_kind t)
  pattern_of typing.Anything = pattern.Anything

  operand_matches : (w : Operand) (l k : Kind) → is_operand s.model w k ≡ true → fits s.model l k ≡ true → matches s.model (pattern_of w) l ≡ true
  operand_matches (typing.Of t) l k h e = fits_along s.model l k (basic t) e h
  operand_matches typing.AnySingle l k h e = refl
  operand_matches typing.Many (Scalar j) (Scalar k) h e = cc
  operand_matches typing.Many (Scalar j) (Collection c k) h e = cc
  operand_matches typing.Many (Collection d j) k h e = refl
  operand_matches (typing.ManyOf t) (Scalar j) (Scalar k) h e = cc
  operand_matches (typing.ManyOf t) (Scalar j) (Collection c k) h e = cc
  operand_matches (typing.ManyOf t) (Collection d j) (Scalar k) h e = cc
  operand_matches (typing.ManyOf t) (Collection d j) (Collection c k) h e =
      scalar_fits_along s.model j k (basic_kind t) (and_parts (is_same_collection d c) (scalar_fits s.model j k) e).1 h
  operand_matches typing.Anything l k h e = refl

  abbrev patterns_stacked : List Operand → List Pattern → List Pattern
  patterns_stacked [] ws = ws
  patterns_stacked (o ∷ os) ws = patterns_stacked os (pattern_of o ∷ ws)

  record Matched (ws : List Pattern) (stack left : List Kind) : Type 0 where
    there : are_there ws stack ≡ true
    match : all_match s.model ws stack ≡ true
    leaves : below ws stack ≡ left

  all_matched : (os : List Operand) (ls ks : List Kind) (ws : List Pattern) (stack left : List Kind) → are_operands s.model os ks ≡ true → AllNarrower s.model ls ks → Matched ws stack left → Matched (patterns_stacked os ws) (kinds_stacked ls stack) left
  all_matched [] [] [] ws stack left h e t = t
  all_matched [] (l ∷ ls) [] ws stack left h e t = absurd e
  all_matched [] [] (k ∷ ks) ws stack left h e t = absurd e
  all_matched [] (l ∷ ls) (k ∷ ks) ws stack left h e t = cc
  all_matched (o ∷ os) ls [] ws stack left h e t = cc
  all_matched (o ∷ os) [] (k ∷ ks) ws stack left h e t = absurd e
  all_matched (o ∷ os) (l ∷ ls) (k ∷ ks) ws stack left h e t =
      let p = and_parts (is_operand s.model o k) (are_operands s.model os ks) h in
      all_matched os ls ks (pattern_of o ∷ ws) (l ∷ stack) left p.1 e.1
      (record { there = t.there; match = and_from _ _ (operand_matches o l k p.0 e.0) t.match; leaves = t.leaves })

  -- the rows of plain operators agree with those of their instructions
  record Agrees (operator : PlainOperator) : Type 0 where
    operands : operands_of s (plain_instr operator) ≡ patterns_stacked (plain_operands operator) []
    result : (vars ks : List Kind) → result_kind s vars (plain_instr operator) ks ≡ basic (plain_result operator)
    names : has_names s (plain_instr operator) ≡ true
    variable : (vars : List Kind) → has_variable vars (plain_instr operator) ≡ true

  agrees : (operator : PlainOperator) → Agrees operator
  agrees plain.Add = record { operands = refl; result = λ vars ks. refl; names = refl; variable = λ vars. refl }
  agrees plain.Subtract = record { operands = refl; result = λ vars ks. refl; names = refl; variable = λ vars. refl }
  agrees plain.Multiply = record { operands = refl; result = λ vars ks. refl; names = refl; variable = λ vars. refl }
  agrees plain.Divide = record { operands = refl; result = λ vars ks. refl; names = refl; variable = λ vars. refl }
  agrees plain.Modulo = record { operands = refl; result = λ vars ks. refl; names = refl; variable = λ vars. refl }
  agrees plain.Minimum = record { operands = refl; result = λ vars ks. refl; names = refl; variable = λ vars. refl }
  agrees plain.Maximum = record { operands = refl; result = λ vars ks. refl; names = refl; variable = λ vars. refl }
  agrees plain.Negate = record { operands = refl; result = λ vars ks. refl; names = refl; variable = λ vars. refl }
  agrees plain.Absolute = record { operands = refl; result = λ vars ks. refl; names = refl; variable = λ vars. refl }
  agrees plain.Less = record { operands = refl; result = λ vars ks. refl; names = refl; variable = λ vars. refl }
  agrees plain.LessEqual = record { operands = refl; result = λ vars ks. refl; names = refl; variable = λ vars. refl }
  agrees plain.Greater = record { operands = refl; result = λ vars ks. refl; names = refl; variable = λ vars. refl }
  agrees plain.GreaterEqual = record { operands = refl; result = λ vars ks. refl; names = refl; variable = λ vars. refl }
  agrees plain.CharacterCount = record { operands = refl; result = λ vars ks. refl; names = refl; variable = λ vars. refl }
  agrees plain.Substring = record { operands = refl; result = λ vars ks. refl; names = refl; variable = λ vars. refl }
  agrees plain.Not = record { operands = refl; result = λ vars ks. refl; names = refl; variable = λ vars. refl }
  agrees plain.And = record { operands = refl; result = λ vars ks. refl; names = refl; variable = λ vars. refl }
  agrees plain.Or = record { operands = refl; result = λ vars ks. refl; names = refl; variable = λ vars. refl }
  agrees plain.Xor = record { operands = refl; result = λ vars ks. refl; names = refl; variable = λ vars. refl }
  agrees plain.Implies = record { operands = refl; result = λ vars ks. refl; names = refl; variable = λ vars. refl }
  agrees plain.IsUndefined = record { operands = refl; result = λ vars ks. refl; names = refl; variable = λ vars. refl }
  agrees plain.IsInvalid = record { operands = refl; result = λ vars ks. refl; names = refl; variable = λ vars. refl }
  agrees plain.BothNull = record { operands = refl; result = λ vars ks. refl; names = refl; variable = λ vars. refl }
  agrees plain.ElementCount = record { operands = refl; result = λ vars ks. refl; names = refl; variable = λ vars. refl }
  agrees plain.IsEmpty = record { operands = refl; result = λ vars ks. refl; names = refl; variable = λ vars. refl }
  agrees plain.Sum = record { operands = refl; result = λ vars ks. refl; names = refl; variable = λ vars. refl }

  -- ---- operators

  -- an instruction takes its operands, and gives a kind that fits one
  pub record TakesAndGives (vars : List Kind) (i : Instr) (stack left : List Kind) (k : Kind) : Type 0 where
    pub takes : TakesKinds s vars i stack left
    pub gives : fits s.model (result_kind s vars i stack) k ≡ true

  -- a kind that is this one fits it
  pub is_fitting : (j k : Kind) → j ≡ k → fits s.model j k ≡ true
  is_fitting j k e = ap (λ (x : Kind). fits s.model x k) e ∙ fits_itself s.model k

  collection_matches : (l : Kind) (c : CollectionKind) (e k : ScalarKind) → fits s.model l (Collection c e) ≡ true → scalar_fits s.model e k ≡ true → matches s.model (pattern.CollectionOf k) l ≡ true
  collection_matches (Scalar j) c e k h g = cc
  collection_matches (Collection d j) c e k h g = scalar_fits_along s.model j e k (and_parts (is_same_collection d c) (scalar_fits s.model j e) h).1 g

  scalar_matches : (l : Kind) (e k : ScalarKind) → fits s.model l (Scalar e) ≡ true → scalar_fits s.model e k ≡ true → matches s.model (pattern.Fitting (Scalar k)) l ≡ true
  scalar_matches l e k h g = fits_along s.model l (Scalar e) (Scalar k) h g

  -- an instruction with one operand takes it where its kind matches
  pub takes_one : (vars : List Kind) (i : Instr) (w : Pattern) (l : Kind) (ks : List Kind) → operands_of s i ≡ w ∷ [] → has_names s i ≡ true → has_variable vars i ≡ true → matches s.model w l ≡ true → TakesKinds s vars i (l ∷ ks) ks
  takes_one vars i w l ks e names variable h =
      record { names = names; variable = variable; there = ap (λ (ws : List Pattern). are_there ws (l ∷ ks)) e; match = ap (λ (ws : List Pattern). all_match s.model ws (l ∷ ks)) e ∙ and_from _ _ h refl; leaves = ap (λ (ws : List Pattern). below ws (l ∷ ks)) e }

  -- an instruction takes its two operands
  pub takes_two : (vars : List Kind) (i : Instr) (w x : Pattern) (j l : Kind) (ks : List Kind) → operands_of s i ≡ w ∷ x ∷ [] → has_names s i ≡ true → has_variable vars i ≡ true → matches s.model w j ≡ true → matches s.model x l ≡ true → TakesKinds s vars i (j ∷ l ∷ ks) ks
  takes_two vars i w x j l ks e names variable h g =
      record { names = names; variable = variable; there = ap (λ (ws : List Pattern). are_there ws (j ∷ l ∷ ks)) e; match = ap (λ (ws : List Pattern). all_match s.model ws (j ∷ l ∷ ks)) e ∙ and_from _ _ h (and_from _ _ g refl); leaves = ap (λ (ws : List Pattern). below ws (j ∷ l ∷ ks)) e }

  -- an instruction without operands takes none
  pub takes_none : (vars : List Kind) (i : Instr) (ks : List Kind) → operands_of s i ≡ [] → has_names s i ≡ true → has_variable vars i ≡ true → TakesKinds s vars i ks ks
  takes_none vars i ks e names variable =
      record { names = names; variable = variable; there = ap (λ (ws : List Pattern). are_there ws ks) e; match = ap (λ (ws : List Pattern). all_match s.model ws ks) e; leaves = ap (λ (ws : List Pattern). below ws ks) e }

  plain_takes : (operator : PlainOperator) (vars : List Kind) (x l : Kind) (xs ls ks : List Kind) (gives : Kind) → IsOperation s.model (Plain operator) x xs gives → fits s.model l x ≡ true → AllNarrower s.model ls xs → TakesAndGives vars (plain_instr operator) (kinds_stacked ls (l ∷ ks)) ks gives
  plain_takes operator vars x l xs ls ks gives h e es =
      let a = agrees operator in
      let t = all_matched (plain_operands operator) (l ∷ ls) (x ∷ xs) [] ks ks h.0 (e, es) (record { there = refl; match = refl; leaves = refl }) in
      let stack = kinds_stacked ls (l ∷ ks) in
      record {
        takes = record { names = a.names; variable = a.variable vars; there = ap (λ (ws : List Pattern). are_there ws stack) a.operands ∙ t.there; match = ap (λ (ws : List Pattern). all_match s.model ws stack) a.operands ∙ t.match; leaves = ap (λ (ws : List Pattern). below ws stack) a.operands ∙ t.leaves };
        gives = is_fitting (result_kind s vars (plain_instr operator) stack) gives (a.result vars stack ∙ sym h.1);
      }

  class_takes : (operator : ClassOperator) (c : ℕ) (vars : List Kind) (x l : Kind) (xs ls ks : List Kind) (gives : Kind) → IsOperation s.model (OfClass operator c) x xs gives → Known (operator_uses (OfClass operator c)) → fits s.model l x ≡ true → AllNarrower s.model ls xs → TakesAndGives vars (operator_instr n (OfClass operator c)) (kinds_stacked ls (l ∷ ks)) ks gives
  class_takes operator c vars x l xs ls ks gives h known e es =
      let none = no_others ls xs h.2 es in
      let object = fits_along s.model l x (Scalar element.AnyObject) e h.1 in
      subst (λ (z : List Kind). TakesAndGives vars (operator_instr n (OfClass operator c)) (kinds_stacked z (l ∷ ks)) ks gives) (sym none)
      (subst (λ (z : Kind). TakesAndGives vars (operator_instr n (OfClass operator c)) (l ∷ ks) ks z) (sym h.3) (by_operator operator object known))
    where
      no_others : (ls xs : List Kind) → xs ≡ [] → AllNarrower s.model ls xs → ls ≡ []
      no_others [] xs same g = refl
      no_others (j ∷ ls) [] same g = absurd g
      no_others (j ∷ ls) (y ∷ xs) same g = cc

      by_operator : (o : ClassOperator) → fits s.model l (Scalar element.AnyObject) ≡ true → Known (operator_uses (OfClass o c)) → TakesAndGives vars (operator_instr n (OfClass o c)) (l ∷ ks) ks (class_result o c)
      by_operator of_class.IsKindOf object known = record { takes = takes_one vars _ _ l ks refl (one_named (named.Class c) known.0) refl object; gives = refl }
      by_operator of_class.IsTypeOf object known = record { takes = takes_one vars _ _ l ks refl (one_named (named.Class c) known.0) refl object; gives = refl }
      by_operator of_class.AsType object known =
          record { takes = takes_one vars _ _ l ks refl (one_named (named.Class c) known.0) refl object; gives = is_fitting _ (Scalar (element.Class c)) (ap (λ (o : Option Named). Scalar (class_kind o)) known.0) }

  -- ---- operators on elements

  -- the one kind that is left, of a single value or of a collection
  abbrev OneScalar : ScalarKind → List Kind → Type 0
  OneScalar k xs = (d : ScalarKind) × (xs ≡ Scalar d ∷ []) × (scalar_fits s.model d k ≡ true)

  abbrev OneCollection : ScalarKind → List Kind → Type 0
  OneCollection k xs = (c : CollectionKind) × (d : ScalarKind) × (xs ≡ Collection c d ∷ []) × (scalar_fits s.model d k ≡ true)

  includes_one : (k : ScalarKind) (xs : List Kind) → AreOthers s.model of_elements.Includes k xs → OneScalar k xs
  includes_one k [] h = absurd h
  includes_one k (Scalar d ∷ []) h = (d, refl, h)
  includes_one k (Collection c d ∷ []) h = absurd h
  includes_one k (Scalar d ∷ y ∷ xs) h = absurd h
  includes_one k (Collection c d ∷ y ∷ xs) h = absurd h

  occurrences_one : (k : ScalarKind) (xs : List Kind) → AreOthers s.model of_elements.Occurrences k xs → OneScalar k xs
  occurrences_one k [] h = absurd h
  occurrences_one k (Scalar d ∷ []) h = (d, refl, h)
  occurrences_one k (Collection c d ∷ []) h = absurd h
  occurrences_one k (Scalar d ∷ y ∷ xs) h = absurd h
  occurrences_one k (Collection c d ∷ y ∷ xs) h = absurd h

  includes_all : (k : ScalarKind) (xs : List Kind) → AreOthers s.model of_elements.IncludesAll k xs → OneCollection k xs
  includes_all k [] h = absurd h
  includes_all k (Scalar d ∷ []) h = absurd h
  includes_all k (Collection c d ∷ []) h = (c, d, refl, h)
  includes_all k (Scalar d ∷ y ∷ xs) h = absurd h
  includes_all k (Collection c d ∷ y ∷ xs) h = absurd h

  excludes_all : (k : ScalarKind) (xs : List Kind) → AreOthers s.model of_elements.ExcludesAll k xs → OneCollection k xs
  excludes_all k [] h = absurd h
  excludes_all k (Scalar d ∷ []) h = absurd h
  excludes_all k (Collection c d ∷ []) h = (c, d, refl, h)
  excludes_all k (Scalar d ∷ y ∷ xs) h = absurd h
  excludes_all k (Collection c d ∷ y ∷ xs) h = absurd h

  -- of kinds that fit one kind, there is one
  one_narrower : (ls : List Kind) (x : Kind) → AllNarrower s.model ls (x ∷ []) → (j : Kind) × (ls ≡ j ∷ []) × (fits s.model j x ≡ true)
  one_narrower [] x h = absurd h
  one_narrower (l ∷ []) x h = (l, refl, h.0)
  one_narrower (l ∷ j ∷ ls) x h = absurd h.1

  -- a scalar kind, and a collection of it
  with_scalar : (i : Instr) (k : ScalarKind) (vars : List Kind) (l : Kind) (xs ls ks : List Kind) (gives : Kind) → Known (scalar_uses k) → matches s.model (pattern.CollectionOf k) l ≡ true → OneScalar k xs → AllNarrower s.model ls xs
      → operands_of s i ≡ pattern.Fitting (Scalar (scalar_meant s (written_scalar n k))) ∷ pattern.CollectionOf (scalar_meant s (written_scalar n k)) ∷ [] → has_names s i ≡ true → has_variable vars i ≡ true
      → ((stack : List Kind) → fits s.model (result_kind s vars i stack) gives ≡ true) → TakesAndGives vars i (kinds_stacked ls (l ∷ ks)) ks gives
  with_scalar i k vars l xs ls ks gives known h one es operands names variable result =
      let j = one_narrower ls (Scalar one.0) (subst (AllNarrower s.model ls) one.1 es) in
      let row = operands ∙ ap (λ (z : ScalarKind). pattern.Fitting (Scalar z) ∷ pattern.CollectionOf z ∷ []) (scalar_is k known) in
      subst (λ (z : List Kind). TakesAndGives vars i (kinds_stacked z (l ∷ ks)) ks gives) (sym j.1)
      (record { takes = takes_two vars i _ _ j.0 l ks row names variable (scalar_matches j.0 one.0 k j.2 one.2) h; gives = result (j.0 ∷ l ∷ ks) })

  -- two collections of a kind
  with_collection : (i : Instr) (k : ScalarKind) (vars : List Kind) (l : Kind) (xs ls ks : List Kind) (gives : Kind) → Known (scalar_uses k) → matches s.model (pattern.CollectionOf k) l ≡ true → OneCollection k xs → AllNarrower s.model ls xs
      → operands_of s i ≡ pattern.CollectionOf (scalar_meant s (written_scalar n k)) ∷ pattern.CollectionOf (scalar_meant s (written_scalar n k)) ∷ [] → has_names s i ≡ true → has_variable vars i ≡ true
      → ((stack : List Kind) → fits s.model (result_kind s vars i stack) gives ≡ true) → TakesAndGives vars i (kinds_stacked ls (l ∷ ks)) ks gives
  with_collection i k vars l xs ls ks gives known h one es operands names variable result =
      let j = one_narrower ls (Collection one.0 one.1) (subst (AllNarrower s.model ls) one.2 es) in
      let row = operands ∙ ap (λ (z : ScalarKind). pattern.CollectionOf z ∷ pattern.CollectionOf z ∷ []) (scalar_is k known) in
      subst (λ (z : List Kind). TakesAndGives vars i (kinds_stacked z (l ∷ ks)) ks gives) (sym j.1)
      (record { takes = takes_two vars i _ _ j.0 l ks row names variable (collection_matches j.0 one.0 one.1 k j.2 one.3) h; gives = result (j.0 ∷ l ∷ ks) })

  set_gives : (l : Kind) (c : CollectionKind) (e : ScalarKind) → fits s.model l (Collection c e) ≡ true → fits s.model (Collection collection.Set (elements_kind l)) (Collection collection.Set e) ≡ true
  set_gives (Scalar j) c e h = cc
  set_gives (Collection d j) c e h = (and_parts (is_same_collection d c) (scalar_fits s.model j e) h).1

  element_takes : (operator : ElementOperator) (k : ScalarKind) (vars : List Kind) (x l : Kind) (xs ls ks : List Kind) (gives : Kind) → IsOperation s.model (OfElements operator k) x xs gives → Known (scalar_uses k) → fits s.model l x ≡ true → AllNarrower s.model ls xs → TakesAndGives vars (operator_instr n (OfElements operator k)) (kinds_stacked ls (l ∷ ks)) ks gives
  element_takes operator k vars x l xs ls ks gives h known e es =
      let source = subst (λ (z : Kind). fits s.model l z ≡ true) h.1.2 e in
      subst (λ (z : Kind). TakesAndGives vars (operator_instr n (OfElements operator k)) (kinds_stacked ls (l ∷ ks)) ks z) (sym h.1.5)
      (by_operator operator h.1.0 h.1.1 source (collection_matches l h.1.0 h.1.1 k source h.1.3) h.1.4)
    where
      by_operator : (o : ElementOperator) (c : CollectionKind) (d : ScalarKind) → fits s.model l (Collection c d) ≡ true → matches s.model (pattern.CollectionOf k) l ≡ true → AreOthers s.model o k xs → TakesAndGives vars (operator_instr n (OfElements o k)) (kinds_stacked ls (l ∷ ks)) ks (element_result o d)
      by_operator of_elements.Includes c d f m o = with_scalar _ k vars l xs ls ks _ known m (includes_one k xs o) es refl (scalar_named k known) refl (λ stack. refl)
      by_operator of_elements.Occurrences c d f m o = with_scalar _ k vars l xs ls ks _ known m (occurrences_one k xs o) es refl (scalar_named k known) refl (λ stack. refl)
      by_operator of_elements.IncludesAll c d f m o = with_collection _ k vars l xs ls ks _ known m (includes_all k xs o) es refl (scalar_named k known) refl (λ stack. refl)
      by_operator of_elements.ExcludesAll c d f m o = with_collection _ k vars l xs ls ks _ known m (excludes_all k xs o) es refl (scalar_named k known) refl (λ stack. refl)
      by_operator of_elements.AsSet c d f m o =
          let none = no_others xs ls o es in
          subst (λ (z : List Kind). TakesAndGives vars (operator_instr n (OfElements of_elements.AsSet k)) (kinds_stacked z (l ∷ ks)) ks (Collection collection.Set d)) (sym none)
          (record { takes = takes_one vars _ _ l ks (ap (λ (z : ScalarKind). pattern.CollectionOf z ∷ []) (scalar_is k known)) (scalar_named k known) refl m; gives = set_gives l c d f })
        where
          no_others : (xs ls : List Kind) → AreOthers s.model of_elements.AsSet k xs → AllNarrower s.model ls xs → ls ≡ []
          no_others [] [] h g = refl
          no_others [] (j ∷ ls) h g = absurd g
          no_others (y ∷ xs) ls h g = absurd h

  equal_takes : (k : Kind) (vars : List Kind) (x l : Kind) (xs ls ks : List Kind) (gives : Kind) → IsOperation s.model (Equal k) x xs gives → Known (kind_uses k) → fits s.model l x ≡ true → AllNarrower s.model ls xs → TakesAndGives vars (instrs.Eq (written_kind n k)) (kinds_stacked ls (l ∷ ks)) ks gives
  equal_takes k vars x l xs ls ks gives h known e es =
      let j = one_narrower ls h.2.0 (subst (AllNarrower s.model ls) h.2.1 es) in
      let i = instrs.Eq (written_kind n k) in
      let row = ap (λ (z : Kind). pattern.Fitting z ∷ pattern.Fitting z ∷ []) (kind_is k known) in
      subst (λ (z : List Kind). TakesAndGives vars i (kinds_stacked z (l ∷ ks)) ks gives) (sym j.1)
      (record {
        takes = takes_two vars i (pattern.Fitting k) (pattern.Fitting k) j.0 l ks row (kind_named k known) refl (fits_along s.model j.0 h.2.0 k j.2 h.2.2) (fits_along s.model l x k e h.1);
        gives = is_fitting _ gives (sym h.3);
      })

  -- the instruction of an operator takes its operands, and gives a kind that fits the operation's
  pub operator_takes : (operator : Operator) (vars : List Kind) (x l : Kind) (xs ls ks : List Kind) (gives : Kind) → IsOperation s.model operator x xs gives → Known (operator_uses operator) → fits s.model l x ≡ true → AllNarrower s.model ls xs → TakesAndGives vars (operator_instr n operator) (kinds_stacked ls (l ∷ ks)) ks gives
  operator_takes (Plain operator) vars x l xs ls ks gives h known e es = plain_takes operator vars x l xs ls ks gives h e es
  operator_takes (OfClass operator c) vars x l xs ls ks gives h known e es = class_takes operator c vars x l xs ls ks gives h known e es
  operator_takes (OfElements operator k) vars x l xs ls ks gives h known e es = element_takes operator k vars x l xs ls ks gives h known e es
  operator_takes (Equal k) vars x l xs ls ks gives h known e es = equal_takes k vars x l xs ls ks gives h known e es

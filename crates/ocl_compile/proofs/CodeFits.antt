-- The code of typed core trees fits the unit that has their texts and symbols.
use Rattle.std.proofs.Common.{◌≡◌, ℕ, zero, suc, ◌+◌, ◌<◌, ◌≤◌, ◌^◌, true, false, List, [], ◌∷◌, ◌++◌, map, length, get_or, Option, Some, refl, sym, ap, ◌∙◌, subst, arith, length-append, bytes_eq}
use Rattle.std.specs.Prelude.{slice_get, unwrap_or}
use Rattle.std.specs.Option.{option_map, option_map_or}
use Rattle.std.specs.List.{AllByRecursion}
use Rattle.std.proofs.lemmas.Option.{slice_get-map, slice_get-get_or, slice_get_within}
use Rattle.ocl_base.proofs.ForAbove.{all_joined}
use Rattle.imkl_model.specs.ClassModel.{Model}
use Rattle.ocl_kinds.specs.declared.kind.ScalarKind.{ScalarKind}
use Rattle.ocl_kinds.specs.declared.kind.ScalarKind.TheVariants as element
use Rattle.ocl_kinds.specs.declared.kind.Kind.{Kind}
use Rattle.ocl_kinds.specs.declared.kind.Kind.TheVariants.{Scalar, Collection}
use Rattle.ocl_core.specs.declared.operator.PlainOperator.{PlainOperator}
use Rattle.ocl_core.specs.declared.operator.PlainOperator.TheVariants as plain
use Rattle.ocl_core.specs.declared.operator.ClassOperator.TheVariants as of_class
use Rattle.ocl_core.specs.declared.operator.ElementOperator.TheVariants as of_elements
use Rattle.ocl_core.specs.declared.operator.Operator.{Operator}
use Rattle.ocl_core.specs.declared.operator.Operator.TheVariants.{Plain, OfClass, OfElements, Equal}
use Rattle.ocl_core.specs.declared.core_tree.Iteration.{Iteration}
use Rattle.ocl_core.specs.declared.core_tree.Iteration.TheVariants as iteration
use Rattle.ocl_core.specs.Core as tree
use Rattle.ocl_core.specs.Core.{Constant, CoreTree, CoreTrees}
use Rattle.ocl_core.specs.Typing.{IsTyped, AreTyped}
use Rattle.rule_code.specs.declared.instruction.Instr.{Instr}
use Rattle.rule_code.specs.declared.instruction.Instr.TheVariants as instrs
use Rattle.rule_code.specs.declared.symbol.Symbol.{Symbol}
use Rattle.rule_code.specs.declared.symbol.SymbolTag.{SymbolTag}
use Rattle.rule_code.specs.declared.symbol.SymbolTag.TheVariants as tags
use Rattle.rule_code.specs.SymbolTag.{is_symbol_of, has_tag}
use Rattle.rule_code.specs.WellFormed.{ScalarKindFits, KindFits, InstrFits}
use Rattle.rule_verify.specs.CodeTree as code
use Rattle.rule_verify.specs.CodeTree.{CodeTree, instr_count}
use Rattle.rule_verify.specs.declared.named.Named.{Named}
use Rattle.rule_verify.specs.declared.named.Named.TheVariants as named
use Rattle.ocl_compile.specs.Numbering.{Numbering, same_named, Use, UsedSymbol, owned_feature, constant_uses, scalar_uses, kind_uses, operator_uses, iteration_uses, tree_uses, trees_uses, text_number, symbol_number}
use Rattle.ocl_compile.specs.Translation.{written_scalar, written_kind, constant_instr, variable_instr, plain_instr, operator_instr, iteration_instr, fold_block, translate, translate_all, translate_symbol, instrs_of}
use Rattle.ocl_compile.specs.Written.{IsWrittenConstant, IsWritten, AreWritten}
use Rattle.ocl_compile.proofs.Measured.{count_is, is_extent}
use Rattle.ocl_compile.proofs.Resolving.{HasText, Has, numbered, same_is}

-- ---- lists of uses

-- of all, the first ones
pub first_all : {A : Type 0} (P : A → Type 0) (xs ys : List A) → AllByRecursion P (xs ++ ys) → AllByRecursion P xs
first_all P [] ys h = tt
first_all P (x ∷ xs) ys h = (h.0, first_all P xs ys h.1)

-- and those after them
pub rest_all : {A : Type 0} (P : A → Type 0) (xs ys : List A) → AllByRecursion P (xs ++ ys) → AllByRecursion P ys
rest_all P [] ys h = h
rest_all P (x ∷ xs) ys h = rest_all P xs ys h.1

-- the tag of what is named
abbrev pub tag_of_named : Named → SymbolTag
tag_of_named (named.Class c) = tags.Class
tag_of_named (named.Enumeration e) = tags.Enumeration
tag_of_named (named.Feature c f) = tags.Feature
tag_of_named (named.Literal e l) = tags.Literal

module _ (m : Model) (n : Numbering) where
  -- the symbols of the unit
  abbrev symbols : List Symbol
  symbols = map (translate_symbol m n) n.symbols

  -- a text that is there has a number below theirs
  pub text_within : (t : List ℕ) → HasText n t → text_number n t < length n.texts
  text_within t h =
      let p = numbered bytes_eq n.texts t h in
      subst (λ (i : ℕ). i < length n.texts) (sym (ap (λ (o : Option ℕ). unwrap_or o 0) p.1)) p.2

  symbol_tagged : (x : Named) → has_tag (tag_of_named x) (translate_symbol m n x) ≡ true
  symbol_tagged (named.Class c) = refl
  symbol_tagged (named.Enumeration e) = refl
  symbol_tagged (named.Feature c f) = refl
  symbol_tagged (named.Literal e l) = refl

  -- a symbol that is there is of its sort
  pub symbol_within : (x : Named) → Has m n (UsedSymbol x) → is_symbol_of (tag_of_named x) symbols (symbol_number n x) ≡ true
  symbol_within x h =
      let p = numbered same_named n.symbols x h.0 in
      let at : symbol_number n x ≡ p.0 = ap (λ (o : Option ℕ). unwrap_or o 0) p.1 in
      let is : slice_get n.symbols p.0 ≡ Some x = slice_get-get_or n.symbols p.0 x p.2 ∙ ap (λ (y : Named). Some y) (sym (same_is x (get_or n.symbols p.0 x) p.3)) in
      ap (λ (k : ℕ). is_symbol_of (tag_of_named x) symbols k) at
      ∙ ap (λ (o : Option Symbol). option_map_or (has_tag (tag_of_named x)) o false) (slice_get-map (translate_symbol m n) n.symbols p.0 ∙ ap (option_map (translate_symbol m n)) is)
      ∙ symbol_tagged x

  abbrev HasAll : List Use → Type 0
  HasAll us = AllByRecursion (Has m n) us

  abbrev Fits : Instr → Type 0
  Fits i = InstrFits (length n.texts) symbols i

  -- ---- instructions

  scalar_within : (k : ScalarKind) → HasAll (scalar_uses k) → ScalarKindFits symbols (written_scalar n k)
  scalar_within element.Void h = tt
  scalar_within element.Boolean h = tt
  scalar_within element.Integer h = tt
  scalar_within element.String h = tt
  scalar_within (element.Enumeration e) h = symbol_within (named.Enumeration e) h.0
  scalar_within (element.Class c) h = symbol_within (named.Class c) h.0
  scalar_within element.AnyObject h = tt

  kind_within : (k : Kind) → HasAll (kind_uses k) → KindFits symbols (written_kind n k)
  kind_within (Scalar k) h = scalar_within k h
  kind_within (Collection c k) h = scalar_within k h

  constant_fits : (c : Constant) → HasAll (constant_uses c) → IsWrittenConstant c → Fits (constant_instr n c)
  constant_fits (tree.Boolean b) h w = (tt, tt)
  constant_fits (tree.Integer i) h w = (omega (arith, w), tt)
  constant_fits (tree.Text t) h w = (text_within t h.0, tt)
  constant_fits (tree.Literal e l) h w = (symbol_within (named.Literal e l) h.0, tt)
  constant_fits tree.Null h w = tt
  constant_fits tree.Invalid h w = tt

  variable_fits : (v : ℕ) → v < 65536 → Fits (variable_instr v)
  variable_fits zero lt = tt
  variable_fits (suc v) lt = (omega (arith, lt), tt)

  plain_fits : (operator : PlainOperator) → Fits (plain_instr operator)
  plain_fits plain.Add = tt
  plain_fits plain.Subtract = tt
  plain_fits plain.Multiply = tt
  plain_fits plain.Divide = tt
  plain_fits plain.Modulo = tt
  plain_fits plain.Minimum = tt
  plain_fits plain.Maximum = tt
  plain_fits plain.Negate = tt
  plain_fits plain.Absolute = tt
  plain_fits plain.Less = tt
  plain_fits plain.LessEqual = tt
  plain_fits plain.Greater = tt
  plain_fits plain.GreaterEqual = tt
  plain_fits plain.CharacterCount = tt
  plain_fits plain.Substring = tt
  plain_fits plain.Not = tt
  plain_fits plain.And = tt
  plain_fits plain.Or = tt
  plain_fits plain.Xor = tt
  plain_fits plain.Implies = tt
  plain_fits plain.IsUndefined = tt
  plain_fits plain.IsInvalid = tt
  plain_fits plain.BothNull = tt
  plain_fits plain.ElementCount = tt
  plain_fits plain.IsEmpty = tt
  plain_fits plain.Sum = tt

  operator_fits : (operator : Operator) → HasAll (operator_uses operator) → Fits (operator_instr n operator)
  operator_fits (Plain operator) h = plain_fits operator
  operator_fits (OfClass of_class.IsKindOf c) h = (symbol_within (named.Class c) h.0, tt)
  operator_fits (OfClass of_class.IsTypeOf c) h = (symbol_within (named.Class c) h.0, tt)
  operator_fits (OfClass of_class.AsType c) h = (symbol_within (named.Class c) h.0, tt)
  operator_fits (OfElements of_elements.Includes k) h = (scalar_within k h, tt)
  operator_fits (OfElements of_elements.Occurrences k) h = (scalar_within k h, tt)
  operator_fits (OfElements of_elements.IncludesAll k) h = (scalar_within k h, tt)
  operator_fits (OfElements of_elements.ExcludesAll k) h = (scalar_within k h, tt)
  operator_fits (OfElements of_elements.AsSet k) h = (scalar_within k h, tt)
  operator_fits (Equal k) h = (kind_within k h, tt)

  iteration_fits : (it : Iteration) (len : ℕ) → HasAll (iteration_uses it) → len < 2 ^ 16 → Fits (iteration_instr n it len)
  iteration_fits iteration.ForAll len h lt = (lt, tt)
  iteration_fits iteration.Exists len h lt = (lt, tt)
  iteration_fits iteration.One len h lt = (lt, tt)
  iteration_fits iteration.Select len h lt = (lt, tt)
  iteration_fits iteration.Reject len h lt = (lt, tt)
  iteration_fits iteration.Collect len h lt = (lt, tt)
  iteration_fits iteration.CollectFlat len h lt = (lt, tt)
  iteration_fits (iteration.IsUnique k) len h lt = (scalar_within k h, (lt, tt))

  -- ---- trees

  abbrev AllFit : CodeTree → Type 0
  AllFit t = AllByRecursion Fits (instrs_of t)

  -- a list of variables and code after it, together of at most 65,536
  abbrev IsSmall : List Kind → CodeTree → Type 0
  IsSmall g t = length g + instr_count t ≤ 65536

  block_fits : (g : List Kind) (x : Kind) (i : Instr) (body rest : CodeTree) → IsSmall g (code.Block i body rest) → (IsSmall (g ++ x ∷ []) body → AllFit body) → (instr_count body < 2 ^ 16 → Fits i) → (IsSmall g rest → AllFit rest) → AllFit (code.Block i body rest)
  block_fits g x i body rest small in_body instr later =
      (instr (omega (arith, small)), all_joined Fits (instrs_of body) (instrs_of rest) (in_body (omega (arith, small, length-append g (x ∷ [])))) (later (omega (arith, small))))

  mutual
    -- the code of a typed tree fits the unit, in front of code that does
    pub tree_fits : (t : CoreTree) (g : List Kind) (k : Kind) → IsTyped m g t k → HasAll (tree_uses m t) → IsWritten t
        → (rest : CodeTree) → IsSmall g (translate m n t rest) → (IsSmall g rest → AllFit rest) → AllFit (translate m n t rest)
    tree_fits (tree.Value c) g k t h w rest small later = (constant_fits c h w, later (omega (arith, small)))
    tree_fits (tree.Variable v) g k t h w rest small later =
        (variable_fits v (omega (arith, small, slice_get_within g v k t)), later (omega (arith, small)))
    tree_fits (tree.AllInstances c) g k t h w rest small later = ((symbol_within (named.Class c) h.0, tt), later (omega (arith, small)))
    tree_fits (tree.Feature source f) g k t h w rest small later =
        let there = rest_all (Has m n) (tree_uses m source) _ h in
        tree_fits source g t.1.0 t.1.1 (first_all (Has m n) (tree_uses m source) _ h) w _ small (λ s. ((symbol_within (owned_feature m f) there.0, tt), later (omega (arith, s))))
    tree_fits (tree.Operation operator first others) g k t h w rest small later =
        let after = rest_all (Has m n) (tree_uses m first) _ h in
        tree_fits first g t.0 t.2 (first_all (Has m n) (tree_uses m first) _ h) w.0 _ small
        (λ s. trees_fit others g t.1 t.3 (first_all (Has m n) (trees_uses m others) _ after) w.1 _ s
        (λ z. (operator_fits operator (rest_all (Has m n) (trees_uses m others) _ after), later (omega (arith, z)))))
    tree_fits (tree.AsCollection c e source) g k t h w rest small later =
        let there = rest_all (Has m n) (tree_uses m source) _ h in
        tree_fits source g t.1.0 t.1.1 (first_all (Has m n) (tree_uses m source) _ h) w _ small (λ s. ((scalar_within e there, tt), later (omega (arith, s))))
    tree_fits (tree.Iterate it source body) g k t h w rest small later =
        let after = rest_all (Has m n) (tree_uses m source) _ h in
        let b = translate m n body code.End in
        tree_fits source g _ t.4 (first_all (Has m n) (tree_uses m source) _ h) w.0 _ small
        (λ s. block_fits g t.2 (iteration_instr n it (instr_count b)) b rest s
        (λ z. tree_fits body _ t.3 t.6 (rest_all (Has m n) (iteration_uses it) _ after) w.1 code.End z (λ _. tt))
        (iteration_fits it (instr_count b) (first_all (Has m n) (iteration_uses it) _ after)) later)
    tree_fits (tree.Fold x source start body) g k t h w rest small later =
        let one = g ++ t.1.2 ∷ [] in
        let b = translate m n body code.End in
        let block = fold_block n x b rest in
        let after = rest_all (Has m n) (tree_uses m source) _ h in
        let last = rest_all (Has m n) (tree_uses m start) _ after in
        let counted = count_is m n source (translate m n start block) in
        let in_body : length (one ++ Scalar x ∷ []) + instr_count b ≤ 65536 = omega (arith, small, counted, count_is m n start block, (is_extent source).instruction, length-append g (t.1.2 ∷ []), length-append one (Scalar x ∷ [])) in
        tree_fits source g _ t.1.5 (first_all (Has m n) (tree_uses m source) _ h) w.0 _ small
        (λ s. tree_fits start g _ t.1.6 (first_all (Has m n) (tree_uses m start) _ after) w.1.0 _ s
        (λ z. (
          (scalar_within x (first_all (Has m n) (scalar_uses x) _ last), (omega (arith, z), tt)),
          all_joined Fits (instrs_of b) (instrs_of rest) (tree_fits body _ t.1.4 t.1.9 (rest_all (Has m n) (scalar_uses x) _ last) w.1.1 code.End in_body (λ _. tt)) (later (omega (arith, z))),
        )))
    tree_fits (tree.Let v body) g k t h w rest small later =
        let b = translate m n body code.End in
        tree_fits v g t.0 t.2 (first_all (Has m n) (tree_uses m v) _ h) w.0 _ small
        (λ s. block_fits g t.1 (instrs.Let (instr_count b)) b rest s
        (λ z. tree_fits body _ k t.4 (rest_all (Has m n) (tree_uses m v) _ h) w.1 code.End z (λ _. tt))
        (λ lt. (lt, tt)) later)
    tree_fits (tree.If kind condition first second) g k t h w rest small later =
        let after = rest_all (Has m n) (tree_uses m condition) _ h in
        let branches = rest_all (Has m n) (kind_uses kind) _ after in
        let a = translate m n first code.End in
        let b = translate m n second code.End in
        tree_fits condition g t.1.0 t.1.3 (first_all (Has m n) (tree_uses m condition) _ h) w.0 _ small
        (λ s. (
          (kind_within kind (first_all (Has m n) (kind_uses kind) _ after), (omega (arith, s), (omega (arith, s), tt))),
          all_joined Fits (instrs_of a) (instrs_of b ++ instrs_of rest) (tree_fits first g t.1.1 t.1.5 (first_all (Has m n) (tree_uses m first) _ branches) w.1.0 code.End (omega (arith, s)) (λ _. tt))
              (all_joined Fits (instrs_of b) (instrs_of rest) (tree_fits second g t.1.2 t.1.7 (rest_all (Has m n) (tree_uses m first) _ branches) w.1.1 code.End (omega (arith, s)) (λ _. tt)) (later (omega (arith, s)))),
        ))

    trees_fit : (ts : CoreTrees) (g ks : List Kind) → AreTyped m g ts ks → HasAll (trees_uses m ts) → AreWritten ts
        → (rest : CodeTree) → IsSmall g (translate_all m n ts rest) → (IsSmall g rest → AllFit rest) → AllFit (translate_all m n ts rest)
    trees_fit tree.no_core g ks t h w rest small later = later small
    trees_fit (tree.one_core first others) g ks t h w rest small later =
        tree_fits first g t.0 t.2 (first_all (Has m n) (tree_uses m first) _ h) w.0 _ small
        (λ s. trees_fit others g t.1 t.3 (rest_all (Has m n) (tree_uses m first) _ h) w.1 rest s later)

-- What the walk gives is typed, by induction on the surface tree.
use Rattle.std.proofs.Common.{◌≡◌, ◌<◌, ◌==◌, ℕ, true, List, [], ◌∷◌, ◌++◌, length, Option, Some, None, Result, Ok, Err, IfOk, slice_get, refl, ap, subst, ◌∙◌}
use Rattle.std.specs.List.{AllByRecursion}
use Rattle.imkl_model.specs.ClassModel.{Model, class_number}
use Rattle.imkl_model.specs.WellFormed.{IsClassModel}
use Rattle.ocl_base.specs.Steps.{check, found, Gives}
use Rattle.ocl_kinds.specs.declared.kind.Kind.{Kind}
use Rattle.ocl_kinds.specs.declared.kind.Kind.TheVariants.{Scalar, Collection}
use Rattle.ocl_kinds.specs.Kinds.{IsScalarKindOf, IsKindOf, fits}
use Rattle.ocl_kinds.proofs.ForAbove.{fits_itself}
use Rattle.ocl_text.specs.declared.tree.Navigation.{Navigation}
use Rattle.ocl_text.specs.declared.tree.Navigation.TheVariants.{Dot, Arrow}
use Rattle.ocl_text.specs.Tree as t
use Rattle.ocl_text.specs.Tree.{SurfaceTree, Trees, Rule, offset_of, type_offset}
use Rattle.ocl_core.specs.declared.core_tree.CoreRule.{CoreRule}
use Rattle.ocl_types.specs.declared.fault.TypeFault.{TypeFault}
use Rattle.ocl_types.specs.declared.fault.TypeFlaw.TheVariants.{UnknownName, WrongArgumentCount}
use Rattle.ocl_core.specs.declared.operator.ClassOperator.{ClassOperator}
use Rattle.ocl_types.specs.Faults.{TypeFaultAt, type_fault, type_fault_at}
use Rattle.ocl_core.specs.Core as tree
use Rattle.ocl_core.specs.Core.{CoreTree, CheckedRule, cores_of}
use Rattle.ocl_types.specs.TypedTrees.{TypedTree, TypedTrees, typed}
use Rattle.ocl_core.specs.CoreView.{checked_rule_of}
use Rattle.ocl_types.specs.Operators.{class_operator, binary}
use Rattle.ocl_types.specs.Scope.{VariableScope, Named, Hidden, scope_variable, inside, outermost}
use Rattle.ocl_types.specs.Elaboration.{Elaborated, Receiver, OfInstances, OfValue, Gathered, Arguments, element_variable, accumulator_kind, fold_scope, asks_truth, class_before, receiver_of, seen_after_dot, seen_by_arguments, class_named, class_of_argument, classes_of_arguments, arguments_of, argument_count, call_on, dot_call, call_of, source_of_arrow, declared_kind, bound_value, left_of, inner_scope, as_name, elaborate, elaborates, elaborate_rule}
use Rattle.ocl_core.specs.OperatorKinds.{truth_kind}
use Rattle.ocl_core.specs.Typing.{IsTyped, IsTypedRule}
use Rattle.ocl_types.proofs.TypedSteps.{chained, checked, there, itself}
use Rattle.ocl_types.proofs.TypedScopes.{kinds_of, kinds_inside, as_many_kinds, get_next, Sound, Scoped, scoped_inside, scoped_outermost, name_sound, literal_sound, keyword_sound}
use Rattle.ocl_types.proofs.TypedTypes.{class_within, declared_known, Fitting, bound_sound, if_sound}
use Rattle.ocl_types.proofs.TypedOperations.{prefix_sound, IsLeftOf, left_sound, binary_sound, HasArguments, AreSound, call_sound}
use Rattle.ocl_types.proofs.TypedFolds.{accumulator_known, fold_sound}
use Rattle.ocl_types.proofs.TypedIterations.{IsVariable, variable_sound, gathered_sound, collect_sound, property_sound, IsInner, inner_sound, iterate_sound}

module _ (m : Model) (well : IsClassModel m) (context : ℕ) (within : context < length m.classes) where
  abbrev Judged : VariableScope → Elaborated → Type 0
  Judged s r = IfOk r (Sound m (kinds_of s))

  -- ---- calls

  abbrev IsReceiver : VariableScope → Receiver → Type 0
  IsReceiver s (OfInstances c) = c < length m.classes
  IsReceiver s (OfValue x) = Sound m (kinds_of s) x

  receiver_sound : (s : VariableScope) (class : Option (List ℕ × ℕ)) (source : Elaborated) → Judged s source → IfOk (receiver_of m class source) (IsReceiver s)
  receiver_sound s None source h = chained (Sound m (kinds_of s)) (IsReceiver s) source _ h (λ x p. p)
  receiver_sound s (Some class) source h =
      let IsClass : ℕ → Type 0 = λ c. c < length m.classes in
      chained IsClass (IsReceiver s) (found (class_number m class.0) (type_fault_at UnknownName class.1)) _
      (there IsClass (class_number m class.0) (type_fault_at UnknownName class.1) (class_within m well class.0 (class_number m class.0) (itself (class_number m class.0)))) (λ c lt. lt)

  argument_by : (offset : ℕ) (name : Option (List ℕ × ℕ)) → IfOk (class_named m offset name) (λ c. c < length m.classes)
  argument_by offset None = tt
  argument_by offset (Some name) =
      there (λ c. c < length m.classes) (class_number m name.0) (type_fault_at UnknownName name.1) (class_within m well name.0 (class_number m name.0) (itself (class_number m name.0)))

  classes_known : (arguments : Trees) → IfOk (classes_of_arguments m arguments) (AllByRecursion (λ c. c < length m.classes))
  unfolding classes_of_arguments
  classes_known t.none = tt
  classes_known (t.some first rest) =
      let IsClass : ℕ → Type 0 = λ c. c < length m.classes in
      chained IsClass (AllByRecursion IsClass) (class_of_argument m first) _ (argument_by (offset_of first) (as_name first)) (λ c lt.
      chained (AllByRecursion IsClass) (AllByRecursion IsClass) (classes_of_arguments m rest) _ (classes_known rest) (λ cs h. (lt, h)))

  arguments_sound : (g : List Kind) (operator : Option ClassOperator) (arguments : Trees) (values : Result TypedTrees TypeFaultAt) → IfOk values (AreSound m g) → IfOk (arguments_of operator (classes_of_arguments m arguments) values) (HasArguments m g)
  arguments_sound g (Some operator) arguments values h =
      chained (AllByRecursion (λ c. c < length m.classes)) (HasArguments m g) (classes_of_arguments m arguments) _ (classes_known arguments) (λ cs p. p)
  arguments_sound g None arguments values h = chained (AreSound m g) (HasArguments m g) values _ h (λ xs p. p)

  dot_scoped : (s : VariableScope) (kind : Kind) → IsKindOf m kind → Scoped m context s → Scoped m context (seen_after_dot s kind)
  dot_scoped s (Scalar e) k h = h
  dot_scoped s (Collection c e) k h = scoped_inside m context s (scope_variable Hidden (Scalar e)) h k

  arguments_scoped : (s : VariableScope) (x : Receiver) (navigation : Navigation) → IsReceiver s x → Scoped m context s → Scoped m context (seen_by_arguments x navigation s)
  arguments_scoped s (OfInstances c) navigation p h = h
  arguments_scoped s (OfValue x) Arrow p h = h
  arguments_scoped s (OfValue x) Dot p h = dot_scoped s x.kind p.1 h

  dot_sound : (s : VariableScope) (core : CoreTree) (kind : Kind) (name : List ℕ) (xs : Arguments) (offset : ℕ) → Sound m (kinds_of s) (typed core kind) → HasArguments m (kinds_of (seen_after_dot s kind)) xs → Judged s (dot_call m (length s) core kind name xs offset)
  dot_sound s core (Scalar e) name xs offset p ps = call_sound m (kinds_of s) (typed core (Scalar e)) name xs offset p ps
  dot_sound s core (Collection c e) name xs offset p ps =
      let inner = kinds_of s ++ Scalar e ∷ [] in
      let each : slice_get inner (length s) ≡ Some (Scalar e) = rw (as_many_kinds s) (get_next (kinds_of s) [] (Scalar e)) in
      let P : List Kind → Type 0 = λ g. HasArguments m g xs in
      chained (Sound m inner) (Sound m (kinds_of s)) (call_on m (typed (tree.Variable (length s)) (Scalar e)) name xs offset) _
      (call_sound m inner (typed (tree.Variable (length s)) (Scalar e)) name xs offset (each, p.1) (subst P (kinds_inside s (scope_variable Hidden (Scalar e))) ps))
      (λ body q. collect_sound m (kinds_of s) core c e (Scalar e) body.core body.kind p.0 (fits_itself m (Scalar e), p.1) q.0 q.1)

  call_of_sound : (s : VariableScope) (x : Receiver) (navigation : Navigation) (name : List ℕ) (xs : Arguments) (offset : ℕ) → IsReceiver s x → HasArguments m (kinds_of (seen_by_arguments x navigation s)) xs → Judged s (call_of m (length s) x navigation name xs offset)
  unfolding call_of
  call_of_sound s (OfInstances c) navigation name xs offset p ps =
      chained (λ u. (argument_count xs == 0) ≡ true) (Sound m (kinds_of s)) (check (argument_count xs == 0) (type_fault_at WrongArgumentCount offset)) _ (checked (argument_count xs == 0) _) (λ u h. ((p, refl), p))
  call_of_sound s (OfValue x) Dot name xs offset p ps = dot_sound s x.core x.kind name xs offset p ps
  call_of_sound s (OfValue x) Arrow name xs offset p ps =
      let source = source_of_arrow x in
      let w = gathered_sound m (kinds_of s) x p in
      call_sound m (kinds_of s) (typed source.core (Collection source.collection source.element)) name xs offset w ps

  inner_scoped : (s inner : VariableScope) (x : Gathered) (variables : t.Variables) → IsInner m context s x variables inner → Scoped m context inner
  inner_scoped s inner x t.Unnamed h = h.0
  inner_scoped s inner x (t.Single v) h = h.0
  inner_scoped s inner x (t.Pair v w) h = h.0

  -- ---- the walk

  mutual
    unfolding elaborate

    elaborate_sound : (s : VariableScope) (expression : SurfaceTree) → Scoped m context s → Judged s (elaborate m context s expression)
    elaborate_sound s (t.Number value offset) h = ((tt, refl), tt)
    elaborate_sound s (t.String value offset) h = ((tt, refl), tt)
    elaborate_sound s (t.Keyword keyword offset) h = keyword_sound m context (kinds_of s) keyword within h.1
    elaborate_sound s (t.Name name offset) h = name_sound m well s name offset h.0
    elaborate_sound s (t.EnumerationLiteral enumeration literal offset) h = literal_sound m well (kinds_of s) enumeration literal offset
    elaborate_sound s (t.Prefix operator operand offset) h =
        let Goal : TypedTree → Type 0 = Sound m (kinds_of s) in
        chained Goal Goal (elaborate m context s operand) _ (elaborate_sound s operand h) (λ x p.
        prefix_sound m (kinds_of s) operator x (offset_of operand) offset p)
    elaborate_sound s (t.Binary operator left right offset) h =
        let Goal : TypedTree → Type 0 = Sound m (kinds_of s) in
        chained Goal Goal (elaborate m context s left) _ (elaborate_sound s left h) (λ x p.
        chained (λ u. IsLeftOf m (binary operator) x.kind) Goal (left_of m operator x.kind (offset_of left)) _ (left_sound m operator x.kind (offset_of left)) (λ u l.
        chained Goal Goal (elaborate m context s right) _ (elaborate_sound s right h) (λ y q.
        binary_sound m (kinds_of s) operator x y (offset_of right) offset l p q)))
    elaborate_sound s (t.Property source name offset) h =
        let Goal : TypedTree → Type 0 = Sound m (kinds_of s) in
        chained Goal Goal (elaborate m context s source) _ (elaborate_sound s source h) (λ x p.
        property_sound m well s x name offset p)
    elaborate_sound s (t.Call source navigation name arguments offset) h =
        let Goal : TypedTree → Type 0 = Sound m (kinds_of s) in
        chained (IsReceiver s) Goal (receiver_of m (class_before source navigation name) (elaborate m context s source)) _ (receiver_sound s (class_before source navigation name) (elaborate m context s source) (elaborate_sound s source h)) (λ x p.
        let inner = seen_by_arguments x navigation s in
        chained (HasArguments m (kinds_of inner)) Goal (arguments_of (class_operator name) (classes_of_arguments m arguments) (elaborates m context inner arguments)) _
        (arguments_sound (kinds_of inner) (class_operator name) arguments (elaborates m context inner arguments) (elaborates_sound inner arguments (arguments_scoped s x navigation p h))) (λ xs ps.
        call_of_sound s x navigation name xs offset p ps))
    elaborate_sound s (t.Iterate source iterator variables body offset) h =
        let Goal : TypedTree → Type 0 = Sound m (kinds_of s) in
        chained Goal Goal (elaborate m context s source) _ (elaborate_sound s source h) (λ x p.
        let over = source_of_arrow x in
        let w = gathered_sound m (kinds_of s) x p in
        chained (IsInner m context s over variables) Goal (inner_scope m s over variables) _ (inner_sound m well context s over variables h w.1) (λ inner is.
        chained (Sound m (kinds_of inner)) Goal (elaborate m context inner body) _ (elaborate_sound inner body (inner_scoped s inner over variables is)) (λ y q.
        iterate_sound m context s inner iterator over variables y (offset_of body) w is q)))
    elaborate_sound s (t.Fold source variable accumulator declared start body offset) h =
        let Goal : TypedTree → Type 0 = Sound m (kinds_of s) in
        chained Goal Goal (elaborate m context s source) _ (elaborate_sound s source h) (λ x p.
        let over = source_of_arrow x in
        let w = gathered_sound m (kinds_of s) x p in
        chained (λ v. IsVariable m over.element v.kind) Goal (element_variable m over.element variable) _ (variable_sound m well over.element variable w.1) (λ v f.
        chained (IsScalarKindOf m) Goal (accumulator_kind m declared) _ (accumulator_known m well declared) (λ k known.
        chained Goal Goal (elaborate m context s start) _ (elaborate_sound s start h) (λ y q.
        chained (Fitting m (kinds_of s) (Scalar k)) Goal (bound_value m (Scalar k) y (type_offset declared)) _ (bound_sound m (kinds_of s) (Scalar k) y (type_offset declared) q known) (λ c fc.
        let one = inside s v in
        let both = fold_scope s v accumulator k in
        let seen : kinds_of both ≡ (kinds_of s ++ v.kind ∷ []) ++ Scalar k ∷ [] = kinds_inside one (scope_variable (Named accumulator) (Scalar k)) ∙ ap (λ (ks : List Kind). ks ++ Scalar k ∷ []) (kinds_inside s v) in
        chained (Sound m (kinds_of both)) Goal (elaborate m context both body) _ (elaborate_sound both body (scoped_inside m context one (scope_variable (Named accumulator) (Scalar k)) (scoped_inside m context s v h f.1) known)) (λ z r.
        let P : List Kind → Type 0 = λ ks. Sound m ks z in
        fold_sound m (kinds_of s) k over c v.kind z (offset_of body) known w fc f (subst P seen r)))))))
    elaborate_sound s (t.Let name declared value body offset) h =
        let Goal : TypedTree → Type 0 = Sound m (kinds_of s) in
        chained (IsKindOf m) Goal (declared_kind m declared) _ (declared_known m well declared) (λ kind known.
        chained Goal Goal (elaborate m context s value) _ (elaborate_sound s value h) (λ x p.
        chained (Fitting m (kinds_of s) kind) Goal (bound_value m kind x (type_offset declared)) _ (bound_sound m (kinds_of s) kind x (type_offset declared) p known) (λ v fv.
        let variable = scope_variable (Named name) kind in
        chained (Sound m (kinds_of (inside s variable))) Goal (elaborate m context (inside s variable) body) _ (elaborate_sound (inside s variable) body (scoped_inside m context s variable h known)) (λ y q.
        let P : List Kind → Type 0 = λ g. IsTyped m g y.core y.kind in
        ((fv.0, kind, fv.1, fv.2, subst P (kinds_inside s variable) q.0, known), q.1)))))
    elaborate_sound s (t.If condition then_branch else_branch offset) h =
        let Goal : TypedTree → Type 0 = Sound m (kinds_of s) in
        chained Goal Goal (elaborate m context s condition) _ (elaborate_sound s condition h) (λ x p.
        chained (λ u. fits m x.kind truth_kind ≡ true) Goal (asks_truth m x.kind (offset_of condition)) _ (checked (fits m x.kind truth_kind) _) (λ u truth.
        chained Goal Goal (elaborate m context s then_branch) _ (elaborate_sound s then_branch h) (λ y q.
        chained Goal Goal (elaborate m context s else_branch) _ (elaborate_sound s else_branch h) (λ z r.
        if_sound m (kinds_of s) x y z offset p truth q r))))

    elaborates_sound : (s : VariableScope) (expressions : Trees) → Scoped m context s → IfOk (elaborates m context s expressions) (AreSound m (kinds_of s))
    elaborates_sound s t.none h = (refl, tt)
    elaborates_sound s (t.some first rest) h =
        let Goal : TypedTree → Type 0 = Sound m (kinds_of s) in
        chained Goal (AreSound m (kinds_of s)) (elaborate m context s first) _ (elaborate_sound s first h) (λ x p.
        chained (AreSound m (kinds_of s)) (AreSound m (kinds_of s)) (elaborates m context s rest) _ (elaborates_sound s rest h) (λ xs ps.
        ((x.kind, xs.kinds, p.0, ps.0, refl), (p.1, ps.1))))

-- ---- rules

-- what a rule is elaborated to
pub rule_typed : (m : Model) → IsClassModel m → (r : Rule) → IfOk (elaborate_rule m r) (IsTypedRule m)
unfolding elaborate_rule
rule_typed m well r =
    let IsClass : ℕ → Type 0 = λ c. c < length m.classes in
    chained IsClass (IsTypedRule m) (found (class_number m r.context) (type_fault_at UnknownName r.context_offset)) _
    (there IsClass (class_number m r.context) (type_fault_at UnknownName r.context_offset) (class_within m well r.context (class_number m r.context) (itself (class_number m r.context)))) (λ c lt.
    chained (Sound m (kinds_of (outermost c))) (IsTypedRule m) (elaborate m c (outermost c) r.tree) _ (elaborate_sound m well c lt (outermost c) r.tree (scoped_outermost m c lt)) (λ x p.
    chained (λ u. fits m x.kind truth_kind ≡ true) (IsTypedRule m) (asks_truth m x.kind (offset_of r.tree)) _ (checked (fits m x.kind truth_kind) _) (λ u truth.
    (lt, (x.kind, p.0, truth)))))

-- the same of what the code returned
pub returned_typed : (m : Model) → IsClassModel m → (r : Rule) (result : Result CoreRule TypeFault) → Gives type_fault checked_rule_of result (elaborate_rule m r) → IfOk result (λ c. IsTypedRule m (checked_rule_of c))
returned_typed m well r (Ok c) given = let P : Result CheckedRule TypeFaultAt → Type 0 = λ q. IfOk q (IsTypedRule m) in subst P given (rule_typed m well r)
returned_typed m well r (Err e) given = tt

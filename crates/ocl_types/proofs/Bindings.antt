-- Several bindings of a `let`, one inside the other.
use Rattle.std.proofs.Common.{◌≡◌, ℕ, List, [], ◌∷◌, ◌++◌, Result, Ok, Err, refl, ap, ◌∙◌}
use Rattle.imkl_model.specs.ClassModel.{Model}
use Rattle.ocl_base.specs.Steps.{◌>>=◌}
use Rattle.ocl_text.specs.Tree as t
use Rattle.ocl_text.specs.Tree.{SurfaceTree, Bound, lets, lets_at, type_offset}
use Rattle.ocl_core.specs.Core as tree
use Rattle.ocl_core.specs.Core.{CoreTree, lets_of}
use Rattle.ocl_types.specs.TypedTrees.{TypedTree, typed}
use Rattle.ocl_types.specs.Faults.{TypeFaultAt}
use Rattle.ocl_types.specs.Scope.{VariableScope, Named, scope_variable, inside}
use Rattle.ocl_types.specs.Elaboration.{Elaborated, declared_kind, bound_value, elaborate}
use Rattle.ocl_types.specs.Walk.{BoundCores, bound_core, bound_cores, bind_one, bind_all, bind_others, body_after}

-- ---- bindings that a loop reads

-- what was bound before, and what is still to be bound
abbrev pub after_bound : List CoreTree → Result BoundCores TypeFaultAt → Result BoundCores TypeFaultAt
after_bound front r = r >>= λ b. Ok (bound_cores b.scope (front ++ b.values))

-- ---- the walk over several bindings is that over nested ones

last_step : {V A B C : Type 0} (r : Result V TypeFaultAt) (bound : V → A) (f : A → Result B TypeFaultAt) (g : B → Result C TypeFaultAt) (h : V → Result C TypeFaultAt) → ((v : V) → h v ≡ (f (bound v) >>= g)) → (r >>= h) ≡ (((r >>= λ v. Ok (bound v)) >>= f) >>= g)
last_step (Ok v) bound f g h same = same v
last_step (Err e) bound f g h same = refl

three_steps : {K X V A B C : Type 0} (k : Result K TypeFaultAt) (x : Result X TypeFaultAt) (r : K → X → Result V TypeFaultAt) (bound : K → V → A) (f : A → Result B TypeFaultAt) (g : B → Result C TypeFaultAt) (h : K → V → Result C TypeFaultAt) → ((j : K) (v : V) → h j v ≡ (f (bound j v) >>= g)) → (k >>= λ j. x >>= λ y. r j y >>= λ v. h j v) ≡ (((k >>= λ j. x >>= λ y. r j y >>= λ v. Ok (bound j v)) >>= f) >>= g)
three_steps (Ok j) (Ok y) r bound f g h same = last_step (r j y) (bound j) f g (h j) (same j)
three_steps (Ok j) (Err e) r bound f g h same = refl
three_steps (Err e) x r bound f g h same = refl

itself_by : (r : Elaborated) → r ≡ (r >>= λ y. Ok (typed (lets_of [] y.core) y.kind))
itself_by (Ok y) = refl
itself_by (Err e) = refl

outer_by : (v : CoreTree) (vs : List CoreTree) (r : Elaborated) → ((r >>= λ y. Ok (typed (lets_of vs y.core) y.kind)) >>= λ y. Ok (typed (tree.Let v y.core) y.kind)) ≡ (r >>= λ y. Ok (typed (lets_of (v ∷ vs) y.core) y.kind))
outer_by v vs (Ok y) = refl
outer_by v vs (Err e) = refl

-- steps one after another, whatever is grouped
grouped : {A B C : Type 0} (r : Result A TypeFaultAt) (f : A → Result B TypeFaultAt) (g : B → Result C TypeFaultAt) → ((r >>= f) >>= g) ≡ (r >>= λ a. f a >>= g)
grouped (Ok a) f g = refl
grouped (Err e) f g = refl

module _ (m : Model) (context : ℕ) where
  -- a binding round several
  outer : (v : CoreTree) (body : SurfaceTree) (r : Result BoundCores TypeFaultAt) → ((r >>= body_after m context body) >>= λ y. Ok (typed (tree.Let v y.core) y.kind)) ≡ ((r >>= λ b. Ok (bound_cores b.scope (v ∷ b.values))) >>= body_after m context body)
  outer v body (Ok b) = outer_by v b.values (elaborate m context b.scope body)
  outer v body (Err e) = refl

  let_by : (s : VariableScope) (b : Bound) (bs : List Bound) (body : SurfaceTree) (offset : ℕ) → ((u : VariableScope) → elaborate m context u (lets bs body) ≡ (bind_all m context u bs >>= body_after m context body)) → elaborate m context s (t.Let b.name b.declared b.value (lets bs body) offset) ≡ (bind_all m context s (b ∷ bs) >>= body_after m context body)
  unfolding elaborate
  let_by s b bs body offset inner =
      three_steps (declared_kind m b.declared) (elaborate m context s b.value) (λ kind x. bound_value m kind x (type_offset b.declared))
      (λ kind v. bound_core (inside s (scope_variable (Named b.name) kind)) v)
      (λ first. bind_all m context first.scope bs >>= λ rest. Ok (bound_cores rest.scope (first.value ∷ rest.values)))
      (body_after m context body)
      (λ kind v. elaborate m context (inside s (scope_variable (Named b.name) kind)) (lets bs body) >>= λ y. Ok (typed (tree.Let v y.core) y.kind))
      (λ kind v. ap (λ (r : Elaborated). r >>= λ y. Ok (typed (tree.Let v y.core) y.kind)) (inner (inside s (scope_variable (Named b.name) kind)))
      ∙ outer v body (bind_all m context (inside s (scope_variable (Named b.name) kind)) bs))

  lets_after : (s : VariableScope) (bs : List Bound) (body : SurfaceTree) → elaborate m context s (lets bs body) ≡ (bind_all m context s bs >>= body_after m context body)
  lets_after s [] body = itself_by (elaborate m context s body)
  lets_after s (b ∷ bs) body = let_by s b bs body b.offset (λ u. lets_after u bs body)

  -- a `let` in the steps of the code
  pub let_steps : (s : VariableScope) (b : Bound) (bs : List Bound) (body : SurfaceTree) (offset : ℕ) → elaborate m context s (lets_at offset (b ∷ bs) body)
      ≡ (bind_one m context s b >>= λ first. bind_others m context first.scope bs first.value >>= body_after m context body)
  let_steps s b bs body offset =
      let_by s b bs body offset (λ u. lets_after u bs body)
      ∙ grouped (bind_one m context s b) (λ first. bind_others m context first.scope bs first.value) (body_after m context body)

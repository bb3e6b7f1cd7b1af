-- Typed core trees whose code is short enough name what is there, and variables that fit two bytes.
use Rattle.std.proofs.Common.{ℕ, suc, ◌+◌, ◌≤◌, List, [], ◌∷◌, ◌++◌, length, arith, length-append}
use Rattle.std.proofs.lemmas.Option.{slice_get_within}
use Rattle.imkl_model.specs.ClassModel.{Model}
use Rattle.ocl_kinds.specs.declared.kind.Kind.{Kind}
use Rattle.ocl_kinds.specs.declared.kind.Kind.TheVariants.{Scalar}
use Rattle.ocl_core.specs.Core as tree
use Rattle.ocl_core.specs.Core.{CoreTree, CoreTrees}
use Rattle.ocl_core.specs.Typing.{IsTyped, AreTyped}
use Rattle.ocl_compile.specs.declared.extent.Extent.{Extent}
use Rattle.ocl_compile.specs.Extents.{extent_of, extent_after, then_above}
use Rattle.ocl_compile.specs.EmitWalk.{KnownIn, KnownIn_all, VariablesBelow, VariablesBelow_all}
use Rattle.ocl_compile.proofs.Measured.{is_extent}

module _ (m : Model) where
  mutual
    -- a typed tree names features that are there
    pub typed_known : (t : CoreTree) (g : List Kind) (k : Kind) → IsTyped m g t k → KnownIn m t
    typed_known (tree.Value c) g k t = tt
    typed_known (tree.Variable v) g k t = tt
    typed_known (tree.AllInstances c) g k t = tt
    typed_known (tree.Feature source f) g k t = (typed_known source g t.1.0 t.1.1, t.0)
    typed_known (tree.Operation operator first others) g k t = (typed_known first g t.0 t.2, all_known others g t.1 t.3)
    typed_known (tree.AsCollection c e source) g k t = typed_known source g t.1.0 t.1.1
    typed_known (tree.Iterate i source body) g k t = (typed_known source g _ t.4, typed_known body _ t.3 t.6)
    typed_known (tree.Fold x source start body) g k t = (typed_known source g _ t.1.5, (typed_known start g _ t.1.6, typed_known body _ t.1.4 t.1.9))
    typed_known (tree.Let v body) g k t = (typed_known v g t.0 t.2, typed_known body _ k t.4)
    typed_known (tree.If kind condition first second) g k t =
        (typed_known condition g t.1.0 t.1.3, (typed_known first g t.1.1 t.1.5, typed_known second g t.1.2 t.1.7))

    all_known : (ts : CoreTrees) (g ks : List Kind) → AreTyped m g ts ks → KnownIn_all m ts
    all_known tree.no_core g ks t = tt
    all_known (tree.one_core first rest) g ks t = (typed_known first g t.0 t.2, all_known rest g t.1 t.3)

  -- ---- variables

  after_grows : (ts : CoreTrees) (below : ℕ) (x : Extent) → x.instructions ≤ (extent_after below x ts).instructions
  after_grows tree.no_core below x = omega arith
  after_grows (tree.one_core first rest) below x = omega (arith, after_grows rest (suc below) (then_above below x (extent_of first)))

  -- a list of variables and code, together of at most 65,536
  abbrev IsSmall : List Kind → Extent → Type 0
  IsSmall g x = length g + x.instructions ≤ 65536

  mutual
    -- its variables fit into two bytes, where there are few enough of them and of instructions
    pub variables_below : (t : CoreTree) (g : List Kind) (k : Kind) → IsTyped m g t k → IsSmall g (extent_of t) → VariablesBelow 65536 t
    variables_below (tree.Value c) g k t s = tt
    variables_below (tree.Variable v) g k t s = omega (arith, s, slice_get_within g v k t)
    variables_below (tree.AllInstances c) g k t s = tt
    variables_below (tree.Feature source f) g k t s = variables_below source g t.1.0 t.1.1 (omega (arith, s))
    variables_below (tree.Operation operator first others) g k t s =
        (variables_below first g t.0 t.2 (omega (arith, s, after_grows others 1 (extent_of first))), all_below others g t.1 t.3 1 (extent_of first) (omega (arith, s)))
    variables_below (tree.AsCollection c e source) g k t s = variables_below source g t.1.0 t.1.1 (omega (arith, s))
    variables_below (tree.Iterate i source body) g k t s =
        (variables_below source g _ t.4 (omega (arith, s)), variables_below body _ t.3 t.6 (omega (arith, s, length-append g (t.2 ∷ []))))
    variables_below (tree.Fold x source start body) g k t s =
        let one = g ++ t.1.2 ∷ [] in
        let bound = length-append g (t.1.2 ∷ []) in
        let both = length-append one (Scalar x ∷ []) in (
          variables_below source g _ t.1.5 (omega (arith, s)),
          (variables_below start g _ t.1.6 (omega (arith, s)), variables_below body _ t.1.4 t.1.9 (omega (arith, s, bound, both, (is_extent source).instruction))),
        )
    variables_below (tree.Let v body) g k t s =
        (variables_below v g t.0 t.2 (omega (arith, s)), variables_below body _ k t.4 (omega (arith, s, length-append g (t.1 ∷ []))))
    variables_below (tree.If kind condition first second) g k t s =
        (variables_below condition g t.1.0 t.1.3 (omega (arith, s)), (variables_below first g t.1.1 t.1.5 (omega (arith, s)), variables_below second g t.1.2 t.1.7 (omega (arith, s))))

    all_below : (ts : CoreTrees) (g ks : List Kind) → AreTyped m g ts ks → (below : ℕ) (x : Extent) → IsSmall g (extent_after below x ts) → VariablesBelow_all 65536 ts
    all_below tree.no_core g ks t below x s = tt
    all_below (tree.one_core first rest) g ks t below x s =
        let next = then_above below x (extent_of first) in
        (variables_below first g t.0 t.2 (omega (arith, s, after_grows rest (suc below) next)), all_below rest g t.1 t.3 (suc below) next s)

-- The code of a tree in parts, as it is written: what follows a tree follows its code, and links follow their first
-- operand.
use Rattle.std.proofs.Common.{◌≡◌, ℕ, zero, suc, ◌+◌, ◌-◌, ◌<◌, ◌≤◌, List, [], ◌∷◌, ◌++◌, map, length, drop, Result, Ok, Err, OnOk, refl, sym, ap, ◌∙◌, subst, arith, rules, get_or, length-append, append_assoc, append-nil, Box, Vec, Global}
use Rattle.std.proofs.lemmas.List.{drop_more}
use Rattle.std.specs.List.{AllByRecursion}
use Rattle.std.proofs.Math.ListN.{drop_of_length-le}
use Rattle.imkl_model.specs.ClassModel.{Model}
use Rattle.ocl_kinds.specs.declared.kind.ScalarKind.{ScalarKind}
use Rattle.ocl_kinds.specs.declared.kind.Kind.{Kind}
use Rattle.ocl_core.specs.declared.core_tree.Core.{Core, the_lemmas}
use Rattle.ocl_core.specs.declared.core_tree.Core.TheVariants as v
use Rattle.ocl_core.specs.declared.core_tree.CoreLink.{CoreLink, Feature, Operation', AsCollection, Iterate, Fold'}
use Rattle.ocl_core.specs.declared.core_tree.CoreLink.TheVariants as l
use Rattle.ocl_core.specs.declared.core_tree.Iteration.{Iteration}
use Rattle.ocl_core.specs.Core as tree
use Rattle.ocl_core.specs.Core.{CoreTree, CoreTrees, cores_of, lets_of}
use Rattle.ocl_core.specs.CoreView.{core_view, core_link_of, core_spine}
use Rattle.ocl_core.proofs.ForAbove.{core_view-Spine, core_view-Let, core_view-If, core_link_of-Iterate, core_link_of-Fold}
use Rattle.rule_code.specs.declared.instruction.Instr.{Instr}
use Rattle.rule_code.specs.declared.instruction.Instr.TheVariants as instrs
use Rattle.rule_verify.specs.CodeTree as code
use Rattle.rule_verify.specs.CodeTree.{CodeTree, instr_count}
use Rattle.ocl_compile.specs.Numbering.{Numbering}
use Rattle.ocl_compile.specs.Translation.{written_scalar, written_kind, operator_instr, iteration_instr, fold_block, let_block, if_block, translate, translate_all, instrs_of}
use Rattle.ocl_compile.specs.declared.limits.TheConstants.{MAX_COUNTED}
use Rattle.ocl_compile.specs.Written.{IsWritten, AreWritten}
use Rattle.ocl_compile.specs.EmitWalk.{KnownIn, KnownIn_all, VariablesBelow, VariablesBelow_all, code_of, codes_of, IsEmittable, AreEmittable, top_code, IsTopEmittable, link_node, links_code, lets_code, AreEmittableLinks}
use Rattle.ocl_compile.proofs.Flat.{flat_count, translated_cut}

-- values as variables of a body, as they lie in memory
pub lets_is : (core : Core) (values : Vec Core Global) (body : Box Core Global) → core ≡ v.Let values body → core_view core ≡ lets_of (map core_view values.items) (core_view body.value)
lets_is core values body is = ap core_view is ∙ core_view-Let values body

module _ (m : Model) (n : Numbering) where
  block_then : (body rest : CodeTree) (i : Instr) → instrs_of (code.Block i body rest) ≡ instrs_of (code.Block i body code.End) ++ instrs_of rest
  block_then body rest i = ap (λ l. i ∷ (l ++ instrs_of rest)) (sym (append-nil (instrs_of body)))

  branch_then : (first second rest : CodeTree) (i : Instr) → instrs_of (code.Branch i first second rest) ≡ instrs_of (code.Branch i first second code.End) ++ instrs_of rest
  branch_then first second rest i =
      ap (λ l. i ∷ (instrs_of first ++ (l ++ instrs_of rest))) (sym (append-nil (instrs_of second)))
      ∙ ap (λ l. i ∷ l) (sym (append_assoc (instrs_of first) (instrs_of second ++ []) (instrs_of rest)))

  -- what follows a tree comes after the tree's own code
  abbrev Then : CoreTree → CodeTree → Type 0
  Then t rest = instrs_of (translate m n t rest) ≡ code_of m n t ++ instrs_of rest

  -- the same of a node, by its first operand and what the node adds to it
  source_then : (source : CoreTree) (mid whole rest : CodeTree) → Then source mid → Then source whole → instrs_of whole ≡ instrs_of mid ++ instrs_of rest → instrs_of (translate m n source whole) ≡ instrs_of (translate m n source mid) ++ instrs_of rest
  source_then source mid whole rest a b e =
      b ∙ ap (λ l. code_of m n source ++ l) e ∙ sym (append_assoc (code_of m n source) (instrs_of mid) (instrs_of rest)) ∙ ap (λ l. l ++ instrs_of rest) (sym a)

  mutual
    -- what follows a tree comes after the tree's own code
    pub code_then : (t : CoreTree) (rest : CodeTree) → Then t rest
    code_then (tree.Value c) rest = refl
    code_then (tree.Variable v) rest = refl
    code_then (tree.AllInstances c) rest = refl
    code_then (tree.Feature source f) rest = source_then source _ _ rest (code_then source _) (code_then source _) refl
    code_then (tree.Operation operator first others) rest =
        source_then first _ _ rest (code_then first _) (code_then first _)
        (codes_then others (code.Plain (operator_instr n operator) rest)
        ∙ sym (append_assoc (codes_of m n others) (operator_instr n operator ∷ []) (instrs_of rest))
        ∙ ap (λ l. l ++ instrs_of rest) (sym (codes_then others (code.Plain (operator_instr n operator) code.End))))
    code_then (tree.AsCollection c k source) rest = source_then source _ _ rest (code_then source _) (code_then source _) refl
    code_then (tree.Iterate i source body) rest =
        source_then source _ _ rest (code_then source _) (code_then source _) (block_then (translate m n body code.End) rest _)
    code_then (tree.Fold k source start body) rest =
        let b = translate m n body code.End in
        source_then source _ _ rest (code_then source _) (code_then source _)
        (source_then start _ _ rest (code_then start (fold_block n k b code.End)) (code_then start (fold_block n k b rest)) (block_then b rest _))
    code_then (tree.Let v body) rest =
        source_then v _ _ rest (code_then v _) (code_then v _) (block_then (translate m n body code.End) rest _)
    code_then (tree.If k condition first second) rest =
        source_then condition _ _ rest (code_then condition _) (code_then condition _)
        (branch_then (translate m n first code.End) (translate m n second code.End) rest _)

    -- and what follows several trees after theirs
    pub codes_then : (ts : CoreTrees) (rest : CodeTree) → instrs_of (translate_all m n ts rest) ≡ codes_of m n ts ++ instrs_of rest
    codes_then tree.no_core rest = refl
    codes_then (tree.one_core first others) rest =
        source_then first _ _ rest (code_then first _) (code_then first _) (codes_then others rest)

  -- as many instructions as are counted
  pub code_count : (t : CoreTree) → length (code_of m n t) ≡ instr_count (translate m n t code.End)
  code_count t = flat_count (translate m n t code.End) (translated_cut m n t code.End tt)

  -- ---- blocks

  -- the code of a LET: its value, its instruction, and its body
  pub let_code : (v body : CoreTree) → code_of m n (tree.Let v body) ≡ code_of m n v ++ instrs.Let (length (code_of m n body)) ∷ code_of m n body
  let_code v body =
      code_then v (let_block (translate m n body code.End) code.End)
      ∙ ap (λ (k : ℕ). code_of m n v ++ instrs.Let k ∷ (code_of m n body ++ [])) (sym (code_count body))
      ∙ ap (λ (l : List Instr). code_of m n v ++ instrs.Let (length (code_of m n body)) ∷ l) (append-nil (code_of m n body))

  -- the code of an IF: its condition, its instruction, and its branches
  pub if_code : (k : Kind) (condition first second : CoreTree) → code_of m n (tree.If k condition first second) ≡ code_of m n condition ++ instrs.If (written_kind n k) (length (code_of m n first)) (length (code_of m n second)) ∷ (code_of m n first ++ code_of m n second)
  if_code k condition first second =
      code_then condition (if_block n k (translate m n first code.End) (translate m n second code.End) code.End)
      ∙ ap (λ (j : ℕ). code_of m n condition ++ instrs.If (written_kind n k) j (instr_count (translate m n second code.End)) ∷ (code_of m n first ++ (code_of m n second ++ []))) (sym (code_count first))
      ∙ ap (λ (j : ℕ). code_of m n condition ++ instrs.If (written_kind n k) (length (code_of m n first)) j ∷ (code_of m n first ++ (code_of m n second ++ []))) (sym (code_count second))
      ∙ ap (λ (l : List Instr). code_of m n condition ++ instrs.If (written_kind n k) (length (code_of m n first)) (length (code_of m n second)) ∷ (code_of m n first ++ l)) (append-nil (code_of m n second))

  -- the parts of a LET whose code can be written can be written too
  pub let_emittable : (v body : CoreTree) → IsEmittable m n (tree.Let v body) → IsEmittable m n v × IsEmittable m n body
  let_emittable v body h =
      let l = ap length (let_code v body) ∙ length-append (code_of m n v) (instrs.Let (length (code_of m n body)) ∷ code_of m n body) in (
        record { known = h.known.0; variables = h.variables.0; room = omega (arith, l, h.room) },
        record { known = h.known.1; variables = h.variables.1; room = omega (arith, l, h.room) },
      )

  -- values as variables of a body: their code is put together from the body's
  pub lets_are : (vs : List CoreTree) (body : CoreTree) → code_of m n (lets_of vs body) ≡ lets_code m n vs (code_of m n body)
  lets_are [] body = refl
  lets_are (v ∷ vs) body =
      let_code v (lets_of vs body) ∙ ap (λ (is : List Instr). code_of m n v ++ instrs.Let (length is) ∷ is) (lets_are vs body)

  -- and all can be written where the whole can
  pub record LetsEmittable (vs : List CoreTree) (inner : CoreTree) : Type 0 where
    pub values : AllByRecursion (IsEmittable m n) vs
    pub body : IsEmittable m n inner
    pub room : length (lets_code m n vs (code_of m n inner)) ≤ MAX_COUNTED

  lets_emittable : (vs : List CoreTree) (body : CoreTree) → IsEmittable m n (lets_of vs body) → LetsEmittable vs body
  lets_emittable vs body h =
      let p = each_emittable vs body h in
      record { values = p.0; body = p.1; room = subst (λ (is : List Instr). length is ≤ MAX_COUNTED) (lets_are vs body) h.room }
    where
      each_emittable : (ws : List CoreTree) (b : CoreTree) → IsEmittable m n (lets_of ws b) → AllByRecursion (IsEmittable m n) ws × IsEmittable m n b
      each_emittable [] b g = (tt, g)
      each_emittable (w ∷ ws) b g =
          let p = let_emittable w (lets_of ws b) g in
          let q = each_emittable ws b p.1 in
          ((p.0, q.0), q.1)

  -- and so can those of an IF
  pub if_emittable : (k : Kind) (condition first second : CoreTree) → IsEmittable m n (tree.If k condition first second) → IsEmittable m n condition × IsEmittable m n first × IsEmittable m n second
  if_emittable k condition first second h =
      let i = instrs.If (written_kind n k) (length (code_of m n first)) (length (code_of m n second)) in
      let l = ap length (if_code k condition first second) ∙ length-append (code_of m n condition) (i ∷ (code_of m n first ++ code_of m n second)) in
      let both = length-append (code_of m n first) (code_of m n second) in (
        record { known = h.known.0; variables = h.variables.0; room = omega (arith, l, both, h.room) },
        record { known = h.known.1.0; variables = h.variables.1.0; room = omega (arith, l, both, h.room) },
        record { known = h.known.1.1; variables = h.variables.1.1; room = omega (arith, l, both, h.room) },
      )

  -- ---- operands

  -- the code of operands is that of the first, and then that of the others
  pub operand_code : (first : CoreTree) (others : CoreTrees) → codes_of m n (tree.one_core first others) ≡ code_of m n first ++ codes_of m n others
  operand_code first others = code_then first (translate_all m n others code.End)

  operands_emittable : (ts : CoreTrees) → KnownIn_all m ts → VariablesBelow_all 65536 ts → length (codes_of m n ts) ≤ MAX_COUNTED → AreEmittable m n ts
  operands_emittable tree.no_core h v room = tt
  operands_emittable (tree.one_core first others) h v room =
      let l = ap length (operand_code first others) ∙ length-append (code_of m n first) (codes_of m n others) in (
        record { known = h.0; variables = v.0; room = omega (arith, l, room) },
        operands_emittable others h.1 v.1 (omega (arith, l, room)),
      )

  -- ---- a node on a first operand

  -- the same node on another one
  abbrev on_top : CoreTree → CoreTree → CoreTree
  on_top (tree.Feature source f) left = tree.Feature left f
  on_top (tree.Operation operator first others) left = tree.Operation operator left others
  on_top (tree.AsCollection c k source) left = tree.AsCollection c k left
  on_top (tree.Iterate i source body) left = tree.Iterate i left body
  on_top (tree.Fold k source start body) left = tree.Fold k left start body
  on_top t left = t

  -- a node that has one
  abbrev HasFirst : CoreTree → Type 0
  HasFirst (tree.Feature source f) = Unit {0}
  HasFirst (tree.Operation operator first others) = Unit {0}
  HasFirst (tree.AsCollection c k source) = Unit {0}
  HasFirst (tree.Iterate i source body) = Unit {0}
  HasFirst (tree.Fold k source start body) = Unit {0}
  HasFirst t = ⊥

  link_has_first : (link : CoreLink) → HasFirst (link_node link)
  link_has_first (Feature feature) = search (rules, the_lemmas)
  link_has_first (Operation' operator others row) = search (rules, the_lemmas)
  link_has_first (AsCollection collection element) = search (rules, the_lemmas)
  link_has_first (Iterate iteration body) = search (rules, the_lemmas)
  link_has_first (Fold' kind start row body) = search (rules, the_lemmas)

  link_on_top : (link : CoreLink) (left : CoreTree) → core_link_of link left ≡ on_top (link_node link) left
  link_on_top (Feature feature) left = search (rules, the_lemmas)
  link_on_top (Operation' operator others row) left = search (rules, the_lemmas)
  link_on_top (AsCollection collection element) left = search (rules, the_lemmas)
  link_on_top (Iterate iteration body) left = search (rules, the_lemmas)
  link_on_top (Fold' kind start row body) left = search (rules, the_lemmas)

  top_then : (t : CoreTree) → HasFirst t → (left : CoreTree) → code_of m n (on_top t left) ≡ code_of m n left ++ top_code m n t
  top_then (tree.Feature source f) h left = code_then left _
  top_then (tree.Operation operator first others) h left =
      code_then left _ ∙ ap (λ (l : List Instr). code_of m n left ++ l) (codes_then others (code.Plain (operator_instr n operator) code.End))
  top_then (tree.AsCollection c k source) h left = code_then left _
  top_then (tree.Iterate i source body) h left =
      code_then left _ ∙ ap (λ (l : List Instr). code_of m n left ++ iteration_instr n i (instr_count (translate m n body code.End)) ∷ l) (append-nil (code_of m n body))
  top_then (tree.Fold k source start body) h left =
      let b = translate m n body code.End in
      code_then left _
      ∙ ap (λ (l : List Instr). code_of m n left ++ l) (code_then start (fold_block n k b code.End)
      ∙ ap (λ (l : List Instr). code_of m n start ++ instrs.Fold (written_scalar n k) (instr_count b) ∷ l) (append-nil (code_of m n body)))
  top_then t h left = absurd h

  top_emittable : (t : CoreTree) → HasFirst t → (left : CoreTree) → IsEmittable m n (on_top t left) → IsEmittable m n left × IsTopEmittable m n t
  top_emittable (tree.Feature source f) h left e =
      let l = ap length (top_then (tree.Feature source f) h left) ∙ length-append (code_of m n left) (top_code m n (tree.Feature source f)) in
      (record { known = e.known.0; variables = e.variables; room = omega (arith, l, e.room) }, e.known.1)
  top_emittable (tree.Operation operator first others) h left e =
      let l = ap length (top_then (tree.Operation operator first others) h left) ∙ length-append (code_of m n left) (top_code m n (tree.Operation operator first others)) in
      let j = length-append (codes_of m n others) (operator_instr n operator ∷ []) in (
        record { known = e.known.0; variables = e.variables.0; room = omega (arith, l, e.room) },
        operands_emittable others e.known.1 e.variables.1 (omega (arith, l, j, e.room)),
      )
  top_emittable (tree.AsCollection c k source) h left e =
      let l = ap length (top_then (tree.AsCollection c k source) h left) ∙ length-append (code_of m n left) (top_code m n (tree.AsCollection c k source)) in
      (record { known = e.known; variables = e.variables; room = omega (arith, l, e.room) }, tt)
  top_emittable (tree.Iterate i source body) h left e =
      let l = ap length (top_then (tree.Iterate i source body) h left) ∙ length-append (code_of m n left) (top_code m n (tree.Iterate i source body)) in (
        record { known = e.known.0; variables = e.variables.0; room = omega (arith, l, e.room) },
        record { known = e.known.1; variables = e.variables.1; room = omega (arith, l, e.room) },
      )
  top_emittable (tree.Fold k source start body) h left e =
      let l = ap length (top_then (tree.Fold k source start body) h left) ∙ length-append (code_of m n left) (top_code m n (tree.Fold k source start body)) in
      let j = length-append (code_of m n start) (instrs.Fold (written_scalar n k) (instr_count (translate m n body code.End)) ∷ code_of m n body) in (
        record { known = e.known.0; variables = e.variables.0; room = omega (arith, l, j, e.room) },
        (record { known = e.known.1.0; variables = e.variables.1.0; room = omega (arith, l, j, e.room) }, record { known = e.known.1.1; variables = e.variables.1.1; room = omega (arith, l, j, e.room) }),
      )
  top_emittable t h left e = absurd h

  -- ---- links

  link_code : (link : CoreLink) (left : CoreTree) → code_of m n (core_link_of link left) ≡ code_of m n left ++ top_code m n (link_node link)
  link_code link left = ap (code_of m n) (link_on_top link left) ∙ top_then (link_node link) (link_has_first link) left

  -- the code of a first operand with its links is the operand's code, and then that of the links
  pub spine_code : (links : List CoreLink) (first : CoreTree) → code_of m n (core_spine first (map core_link_of links)) ≡ code_of m n first ++ links_code m n links
  spine_code [] first = sym (append-nil (code_of m n first))
  spine_code (l ∷ ls) first =
      spine_code ls (core_link_of l first)
      ∙ ap (λ (is : List Instr). is ++ links_code m n ls) (link_code l first)
      ∙ append_assoc (code_of m n first) (top_code m n (link_node l)) (links_code m n ls)

  -- and where it can be written both parts can
  pub spine_emittable : (links : List CoreLink) (first : CoreTree) → IsEmittable m n (core_spine first (map core_link_of links)) → IsEmittable m n first × AreEmittableLinks m n links
  spine_emittable [] first h = (h, tt)
  spine_emittable (l ∷ ls) first h =
      let rest = spine_emittable ls (core_link_of l first) h in
      let here = top_emittable (link_node l) (link_has_first l) first (subst (IsEmittable m n) (link_on_top l first) rest.0) in
      (here.0, (here.1, rest.1))

  -- ---- what `emit` asks, and nodes as they lie in memory

  emittable : (t : CoreTree) → KnownIn m t → VariablesBelow 65536 t → instr_count (translate m n t code.End) ≤ MAX_COUNTED → IsEmittable m n t
  emittable t h v room = record { known = h; variables = v; room = omega (arith, code_count t, room) }

  -- what `emit` asks of a tree holds of each whose code can be written
  pub asked : (t : CoreTree) → IsEmittable m n t → KnownIn m t × (VariablesBelow 65536 t × (instr_count (translate m n t code.End) ≤ MAX_COUNTED))
  asked t h = (h.known, (h.variables, omega (arith, code_count t, h.room)))

  -- nodes in memory, a spine, a LET and an IF: their code is that of their parts, which can be written where it can
  pub spine_is : (core : Core) (first : Box Core Global) (links : Vec CoreLink Global) → core ≡ v.Spine first links → code_of m n (core_view core) ≡ code_of m n (core_view first.value) ++ links_code m n links.items
  spine_is core first links is =
      ap (code_of m n) (ap core_view is ∙ core_view-Spine first links) ∙ spine_code links.items (core_view first.value)

  pub spine_parts : (core : Core) (first : Box Core Global) (links : Vec CoreLink Global) → core ≡ v.Spine first links → KnownIn m (core_view core) → VariablesBelow 65536 (core_view core) → instr_count (translate m n (core_view core) code.End) ≤ MAX_COUNTED → IsEmittable m n (core_view first.value) × AreEmittableLinks m n links.items
  spine_parts core first links is h v room =
      spine_emittable links.items (core_view first.value) (subst (IsEmittable m n) (ap core_view is ∙ core_view-Spine first links) (emittable (core_view core) h v room))

  pub lets_parts : (core : Core) (values : Vec Core Global) (body : Box Core Global) → core ≡ v.Let values body → KnownIn m (core_view core) → VariablesBelow 65536 (core_view core) → instr_count (translate m n (core_view core) code.End) ≤ MAX_COUNTED → LetsEmittable (map core_view values.items) (core_view body.value)
  lets_parts core values body is h v room =
      lets_emittable (map core_view values.items) (core_view body.value) (subst (IsEmittable m n) (lets_is core values body is) (emittable (core_view core) h v room))

  pub if_is : (core : Core) (k : Kind) (condition first second : Box Core Global) → core ≡ v.If k condition first second → code_of m n (core_view core) ≡ code_of m n (core_view condition.value) ++ instrs.If (written_kind n k) (length (code_of m n (core_view first.value))) (length (code_of m n (core_view second.value))) ∷ (code_of m n (core_view first.value) ++ code_of m n (core_view second.value))
  if_is core k condition first second is =
      ap (code_of m n) (ap core_view is ∙ core_view-If k condition first second) ∙ if_code k (core_view condition.value) (core_view first.value) (core_view second.value)

  pub if_parts : (core : Core) (k : Kind) (condition first second : Box Core Global) → core ≡ v.If k condition first second → KnownIn m (core_view core) → VariablesBelow 65536 (core_view core) → instr_count (translate m n (core_view core) code.End) ≤ MAX_COUNTED → IsEmittable m n (core_view condition.value) × IsEmittable m n (core_view first.value) × IsEmittable m n (core_view second.value)
  if_parts core k condition first second is h v room =
      if_emittable k (core_view condition.value) (core_view first.value) (core_view second.value) (subst (IsEmittable m n) (ap core_view is ∙ core_view-If k condition first second) (emittable (core_view core) h v room))

  -- the code of a link that iterates: its instruction, and its body
  pub iterate_is : (link : CoreLink) (i : Iteration) (body : Core) → link ≡ l.Iterate i body → top_code m n (link_node link) ≡ iteration_instr n i (length (code_of m n (core_view body))) ∷ code_of m n (core_view body)
  iterate_is link i body is =
      ap (λ (f : CoreTree → CoreTree). top_code m n (f (tree.Value tree.Null))) (ap core_link_of is ∙ core_link_of-Iterate i body)
      ∙ ap (λ (k : ℕ). iteration_instr n i k ∷ code_of m n (core_view body)) (sym (code_count (core_view body)))

  -- and that of one that folds: its start value, its instruction, and its body
  pub fold_is : (link : CoreLink) (k : ScalarKind) (start : Box Core Global) (body : Core) → link ≡ l.Fold k start body → top_code m n (link_node link) ≡ code_of m n (core_view start.value) ++ instrs.Fold (written_scalar n k) (length (code_of m n (core_view body))) ∷ code_of m n (core_view body)
  fold_is link k start body is =
      ap (λ (f : CoreTree → CoreTree). top_code m n (f (tree.Value tree.Null))) (ap core_link_of is ∙ core_link_of-Fold k start body)
      ∙ ap (λ (j : ℕ). code_of m n (core_view start.value) ++ instrs.Fold (written_scalar n k) j ∷ code_of m n (core_view body)) (sym (code_count (core_view body)))

  -- which can be written where the link can
  pub fold_parts : (link : CoreLink) (k : ScalarKind) (start : Box Core Global) (body : Core) → link ≡ l.Fold k start body → IsTopEmittable m n (link_node link) → IsEmittable m n (core_view start.value) × IsEmittable m n (core_view body)
  fold_parts link k start body is h =
      subst (λ (f : CoreTree → CoreTree). IsTopEmittable m n (f (tree.Value tree.Null))) (ap core_link_of is ∙ core_link_of-Fold k start body) h

  -- ---- loops

  -- of values that can be written, the one before an index can, and so can a body inside those from the index on
  pub value_here : (xs : List Core) (body : List Instr) (i : ℕ) (x : Core) → drop (i - 1) xs ≡ x ∷ drop i xs → AllByRecursion (IsEmittable m n) (map core_view xs) → length (lets_code m n (map core_view xs) body) ≤ MAX_COUNTED → IsEmittable m n (core_view x) × (length (lets_code m n (map core_view (drop i xs)) body) ≤ MAX_COUNTED)
  value_here xs body i x here h room =
      let whole = subst (λ (ys : List Core). AllByRecursion (IsEmittable m n) (map core_view ys) × (length (lets_code m n (map core_view ys) body) ≤ MAX_COUNTED)) here (values_from xs body (i - 1) h room) in
      let l = length-append (code_of m n (core_view x)) (instrs.Let (length (lets_code m n (map core_view (drop i xs)) body)) ∷ lets_code m n (map core_view (drop i xs)) body) in
      (whole.0.0, omega (arith, l, whole.1))
    where
      values_from : (ys : List Core) (inner : List Instr) (k : ℕ) → AllByRecursion (IsEmittable m n) (map core_view ys) → length (lets_code m n (map core_view ys) inner) ≤ MAX_COUNTED → AllByRecursion (IsEmittable m n) (map core_view (drop k ys)) × (length (lets_code m n (map core_view (drop k ys)) inner) ≤ MAX_COUNTED)
      values_from ys inner zero g r = (g, r)
      values_from [] inner (suc k) g r = (g, r)
      values_from (y ∷ ys) inner (suc k) g r =
          let l = length-append (code_of m n (core_view y)) (instrs.Let (length (lets_code m n (map core_view ys) inner)) ∷ lets_code m n (map core_view ys) inner) in
          values_from ys inner k g.1 (omega (arith, l, r))

  -- of operands that can be written, the one at hand and those after it can
  pub operands_here : (xs : List Core) (i : ℕ) (x : Core) → x ≡ get_or xs i x → i < length xs → AreEmittable m n (cores_of (map core_view (drop i xs))) → IsEmittable m n (core_view x) × AreEmittable m n (cores_of (map core_view (drop (i + 1) xs)))
  operands_here xs i x is lt h =
      subst (λ (ys : List Core). AreEmittable m n (cores_of (map core_view ys))) (drop_more xs i x lt ∙ ap (λ (y : Core). y ∷ drop (i + 1) xs) (sym is)) h

-- ---- what the code says of whole numbers

link_written : (link : CoreLink) (left : CoreTree) → IsWritten left → IsWritten (link_node link) → IsWritten (core_link_of link left)
link_written (Feature feature) left h w = search (rules, the_lemmas)
link_written (Operation' operator others row) left h w = search (rules, the_lemmas)
link_written (AsCollection collection element) left h w = search (rules, the_lemmas)
link_written (Iterate iteration body) left h w = search (rules, the_lemmas)
link_written (Fold' kind start row body) left h w = search (rules, the_lemmas)

links_written : (links : List CoreLink) (first : CoreTree) → IsWritten first → AllByRecursion (λ l. IsWritten (link_node l)) links → IsWritten (core_spine first (map core_link_of links))
links_written [] first h w = h
links_written (l ∷ ls) first h w = links_written ls (core_link_of l first) (link_written l first h w.0) w.1

-- a first operand with its links
pub spine_written : (core : Core) (first : Box Core Global) (links : Vec CoreLink Global) → core ≡ v.Spine first links → IsWritten (core_view first.value) → AllByRecursion (λ l. IsWritten (link_node l)) links.items → IsWritten (core_view core)
spine_written core first links is h w =
    subst IsWritten (sym (ap core_view is ∙ core_view-Spine first links)) (links_written links.items (core_view first.value) h w)

-- values with the body that sees them
pub lets_written : (vs : List CoreTree) (body : CoreTree) → AllByRecursion IsWritten vs → IsWritten body → IsWritten (lets_of vs body)
lets_written [] body h w = w
lets_written (v ∷ vs) body h w = (h.0, lets_written vs body h.1 w)

-- the operand at hand with those after it
pub operands_written : (xs : List Core) (i : ℕ) (x : Core) → x ≡ get_or xs i x → i < length xs → IsWritten (core_view x) → AreWritten (cores_of (map core_view (drop (i + 1) xs))) → AreWritten (cores_of (map core_view (drop i xs)))
operands_written xs i x is lt h w =
    subst (λ (ys : List Core). AreWritten (cores_of (map core_view ys))) (sym (drop_more xs i x lt ∙ ap (λ (y : Core). y ∷ drop (i + 1) xs) (sym is))) (h, w)

-- the item before those from an index on
pub drop_before : {X : Type 0} (xs : List X) (i : ℕ) (x : X) → x ≡ get_or xs (i - 1) x → 0 < i → i ≤ length xs → drop (i - 1) xs ≡ x ∷ drop i xs
drop_before {X} xs i x is some le =
    let next : i - 1 + 1 ≡ i = omega (arith, some) in
    drop_more xs (i - 1) x (omega (arith, some, le))
    ∙ ap (λ (y : X). y ∷ drop (i - 1 + 1) xs) (sym is)
    ∙ ap (λ (k : ℕ). x ∷ drop k xs) next

-- what a loop adds to, one item after another
pub walked_on : {X Y : Type 0} (f : X → List Y) (F : List X → List Y) → ((x : X) (xs : List X) → F (x ∷ xs) ≡ f x ++ F xs)
    → (xs : List X) (i : ℕ) (x : X) → x ≡ get_or xs i x → i < length xs → (old new total : List Y) → new ≡ old ++ f x
    → old ++ F (drop i xs) ≡ total → new ++ F (drop (i + 1) xs) ≡ total
walked_on f F step xs i x is lt old new total e h =
    let rest = drop (i + 1) xs in
    let more = drop_more xs i x lt ∙ ap (λ y. y ∷ rest) (sym is) in
    ap (λ l. l ++ F rest) e ∙ append_assoc old (f x) (F rest) ∙ ap (λ l. old ++ l) (sym (ap F more ∙ step x rest)) ∙ h

-- at the end of a loop, all that was to be added is there
pub walked : {X Y : Type 0} (F : List X → List Y) → F [] ≡ [] → (xs : List X) (i : ℕ) → length xs ≤ i → (code total : List Y) → code ++ F (drop i xs) ≡ total → code ≡ total
walked F none xs i le code total h =
    sym (append-nil code) ∙ ap (λ l. code ++ l) (sym (ap F (drop_of_length-le xs le) ∙ none)) ∙ h

-- two steps, one after the other
pub joined : (new mid old a rest whole : List Instr) → new ≡ mid ++ rest → mid ≡ old ++ a → whole ≡ a ++ rest → new ≡ old ++ whole
joined new mid old a rest whole e f g = e ∙ ap (λ l. l ++ rest) f ∙ append_assoc old a rest ∙ ap (λ l. old ++ l) (sym g)

-- what holds where a step succeeds, in another form
pub on_ok : {A E : Type 0} (P Q : Type 0) (r : Result A E) → (P → Q) → OnOk r P → OnOk r Q
on_ok P Q (Ok x) go p = go p
on_ok P Q (Err e) go p = tt

-- What is spelled within limits is spelled within wider ones, and a list spells at most one list of rules.
use Rattle.std.proofs.Common.{◌≡◌, ℕ, zero, suc, ◌+◌, List, [], length, Result, Ok, ap, ◌∙◌, subst, arith, IfOk}
use Rattle.ocl_tokens.specs.Terminals.{Terminal}
use Rattle.ocl_text.specs.Tree.{TypeTree, VariableTree, Variables, Bound, Rule, SurfaceTree}
use Rattle.ocl_text.specs.declared.cursor.VariableLimit.{VariableLimit}
use Rattle.ocl_text.specs.Grammar as g
use Rattle.ocl_text.specs.Grammar.{IsExpr, IsBind, IsBinds, MoreBinds, IsUnary, IsPrim, IsLevel, GoesOn, IsSteps, IsArguments, IsItems, MoreItems, IsIteration, IsFold, IsType, IsVariable, IsInvariant, IsInvariants, MoreInvariants, IsContexts, SpellsExpr, Spells, SpellsWithin}
use Rattle.ocl_text.specs.Parse.{TokensFault, all_rules}
use Rattle.ocl_text.proofs.Complete.{complete_expr, complete_contexts}
use Rattle.ocl_text.proofs.Sound.{sound_contexts}

abbrev pub plus : ℕ → ℕ → ℕ
plus zero b = b
plus (suc a) b = suc (plus a b)

-- addition that counts down its first number is addition
pub plus_is : (a b : ℕ) → plus a b ≡ a + b
plus_is zero b = omega arith
plus_is (suc a) b = let e = plus_is a b in omega arith

-- limits that are wider: by so much, and by what the shortest completions take
abbrev pub deeper : ℕ → ℕ → ℕ
deeper a n = plus n (suc (suc (suc a)))

abbrev pub longer : ℕ → ℕ → ℕ
longer b c = plus c (suc b)

wider_type : (a : ℕ) {n : ℕ} {ts rest : List Terminal} {s : TypeTree} → IsType n ts s rest → IsType (plus n a) ts s rest
wider_type a (g.a_plain_type h) = g.a_plain_type h
wider_type a (g.a_type_of d) = g.a_type_of (wider_type a d)

wider_variable : (a : ℕ) {n : ℕ} {ts rest : List Terminal} {v : VariableTree} → IsVariable n ts v rest → IsVariable (plus n a) ts v rest
wider_variable a (g.untyped h) = g.untyped h
wider_variable a (g.typed d) = g.typed (wider_type a d)

mutual
  wider_expr : (a b : ℕ) {c n : ℕ} {ts rest : List Terminal} {tree : SurfaceTree} → IsExpr c n ts tree rest → IsExpr (plus c b) (plus n a) ts tree rest
  wider_expr a b (g.let_expression d e) = g.let_expression (wider_binds a b d) (wider_expr a b e)
  wider_expr a b (g.plain d) = g.plain (wider_level a b d)

  wider_bind : (a b : ℕ) {c n : ℕ} {bound : Bound} {ts rest : List Terminal} → IsBind c n ts bound rest → IsBind (plus c b) (plus n a) ts bound rest
  wider_bind a b (g.a_bind y d) = g.a_bind (wider_type a y) (wider_level a b d)

  wider_binds : (a b : ℕ) {c n : ℕ} {found all : List Bound} {ts rest : List Terminal} → IsBinds c n found ts all rest → IsBinds (plus c b) (plus n a) found ts all rest
  wider_binds a b (g.some_binds d e) = g.some_binds (wider_bind a b d) (wider_more_binds a b e)

  wider_more_binds : (a b : ℕ) {c n : ℕ} {found all : List Bound} {ts rest : List Terminal} → MoreBinds c n found ts all rest → MoreBinds (plus c b) (plus n a) found ts all rest
  wider_more_binds a b (g.no_more_binds h) = g.no_more_binds h
  wider_more_binds a b (g.next_bind d) = g.next_bind (wider_binds a b d)

  wider_unary : (a b : ℕ) {c n : ℕ} {ts rest : List Terminal} {tree : SurfaceTree} → IsUnary c n ts tree rest → IsUnary (plus c b) (plus n a) ts tree rest
  wider_unary a b (g.minus d) = g.minus (wider_unary a b d)
  wider_unary a b (g.not d) = g.not (wider_unary a b d)
  wider_unary a b (g.post d e) = g.post (wider_prim a b d) (wider_steps a b e)

  wider_prim : (a b : ℕ) {c n : ℕ} {ts rest : List Terminal} {tree : SurfaceTree} → IsPrim c n ts tree rest → IsPrim (plus c b) (plus n a) ts tree rest
  wider_prim a b g.a_number = g.a_number
  wider_prim a b (g.a_name h) = g.a_name h
  wider_prim a b g.a_string = g.a_string
  wider_prim a b (g.a_keyword h) = g.a_keyword h
  wider_prim a b g.an_enumeration_literal = g.an_enumeration_literal
  wider_prim a b (g.parentheses d) = g.parentheses (wider_expr a b d)
  wider_prim a b (g.if_expression d e f) = g.if_expression (wider_level a b d) (wider_expr a b e) (wider_expr a b f)

  wider_level : (a b : ℕ) {c n level : ℕ} {ts rest : List Terminal} {tree : SurfaceTree} → IsLevel c n level ts tree rest → IsLevel (plus c b) (plus n a) level ts tree rest
  wider_level a b (g.unary d) = g.unary (wider_unary a b d)
  wider_level a b (g.chained d e) = g.chained (wider_level a b d) (wider_chain a b e)

  wider_chain : (a b : ℕ) {c n level m : ℕ} {left : SurfaceTree} {ts rest : List Terminal} {tree : SurfaceTree} → GoesOn c n level m left ts tree rest → GoesOn (plus c b) (plus n a) level (plus m b) left ts tree rest
  wider_chain a b (g.ends h) = g.ends h
  wider_chain a b (g.more h d e) = g.more h (wider_level a b d) (wider_chain a b e)

  wider_steps : (a b : ℕ) {c n m : ℕ} {source : SurfaceTree} {ts rest : List Terminal} {tree : SurfaceTree} → IsSteps c n m source ts tree rest → IsSteps (plus c b) (plus n a) (plus m b) source ts tree rest
  wider_steps a b (g.no_step h) = g.no_step h
  wider_steps a b (g.dot h e) = g.dot h (wider_steps a b e)
  wider_steps a b (g.dot_call d e) = g.dot_call (wider_arguments a b d) (wider_steps a b e)
  wider_steps a b (g.dot_word h d e) = g.dot_word h (wider_arguments a b d) (wider_steps a b e)
  wider_steps a b (g.arrow_call h f d e) = g.arrow_call h f (wider_arguments a b d) (wider_steps a b e)
  wider_steps a b (g.arrow_iterate h d e) = g.arrow_iterate h (wider_iteration a b d) (wider_steps a b e)
  wider_steps a b (g.arrow_fold h d e) = g.arrow_fold h (wider_fold a b d) (wider_steps a b e)

  wider_arguments : (a b : ℕ) {c n : ℕ} {ts rest : List Terminal} {all : List SurfaceTree} → IsArguments c n ts all rest → IsArguments (plus c b) (plus n a) ts all rest
  wider_arguments a b g.no_argument = g.no_argument
  wider_arguments a b (g.arguments d) = g.arguments (wider_items a b d)

  wider_items : (a b : ℕ) {c n : ℕ} {found all : List SurfaceTree} {ts rest : List Terminal} → IsItems c n found ts all rest → IsItems (plus c b) (plus n a) found ts all rest
  wider_items a b (g.an_item d e) = g.an_item (wider_level a b d) (wider_more_items a b e)

  wider_more_items : (a b : ℕ) {c n : ℕ} {found all : List SurfaceTree} {ts rest : List Terminal} → MoreItems c n found ts all rest → MoreItems (plus c b) (plus n a) found ts all rest
  wider_more_items a b (g.no_more_items h) = g.no_more_items h
  wider_more_items a b (g.next_item d) = g.next_item (wider_items a b d)

  wider_iteration : (a b : ℕ) {c n : ℕ} {limit : VariableLimit} {ts rest : List Terminal} {vs : Variables} {body : SurfaceTree} → IsIteration c n limit ts vs body rest → IsIteration (plus c b) (plus n a) limit ts vs body rest
  wider_iteration a b (g.body_alone h d) = g.body_alone h (wider_expr a b d)
  wider_iteration a b (g.one_variable h v d) = g.one_variable h (wider_variable a v) (wider_expr a b d)
  wider_iteration a b (g.two_variables h v w d) = g.two_variables h (wider_variable a v) (wider_variable a w) (wider_expr a b d)

  wider_fold : (a b : ℕ) {c n : ℕ} {v : VariableTree} {bound : Bound} {body : SurfaceTree} {ts rest : List Terminal} → IsFold c n ts v bound body rest → IsFold (plus c b) (plus n a) ts v bound body rest
  wider_fold a b (g.a_fold v d e) = g.a_fold (wider_variable a v) (wider_bind a b d) (wider_expr a b e)

wider_invariant : (a b : ℕ) {nesting c n class_at : ℕ} {class : List ℕ} {ts rest : List Terminal} {rule : Rule} → IsInvariant nesting c n class class_at ts rule rest → IsInvariant (plus nesting a) (plus c b) n class class_at ts rule rest
wider_invariant a b (g.named d) = g.named (wider_expr a b d)
wider_invariant a b (g.unnamed d) = g.unnamed (wider_expr a b d)

mutual
  wider_invariants : (a b : ℕ) {nesting c class_at : ℕ} {class : List ℕ} {found all : List Rule} {ts rest : List Terminal} → IsInvariants nesting c class class_at found ts all rest → IsInvariants (plus nesting a) (plus c b) class class_at found ts all rest
  wider_invariants a b (g.an_invariant d e) = g.an_invariant (wider_invariant a b d) (wider_more_invariants a b e)

  wider_more_invariants : (a b : ℕ) {nesting c class_at : ℕ} {class : List ℕ} {found all : List Rule} {ts rest : List Terminal} → MoreInvariants nesting c class class_at found ts all rest → MoreInvariants (plus nesting a) (plus c b) class class_at found ts all rest
  wider_more_invariants a b (g.no_more_invariants h) = g.no_more_invariants h
  wider_more_invariants a b (g.next_invariant h d) = g.next_invariant h (wider_invariants a b d)

wider_contexts : (a b : ℕ) {nesting c : ℕ} {found all : List Rule} {ts : List Terminal} → IsContexts nesting c found ts all → IsContexts (plus nesting a) (plus c b) found ts all
wider_contexts a b g.no_context = g.no_context
wider_contexts a b (g.a_context d e) = g.a_context (wider_invariants a b d) (wider_contexts a b e)

-- limits may be added in either order
pub plus_swap : (a b : ℕ) → plus a b ≡ plus b a
plus_swap a b = plus_is a b ∙ (let e = plus_is b a in omega arith)

-- ---- what is read of a whole list

-- rules that are read from a list are spelled by it within the limits
pub read_spells : (nesting chain : ℕ) (ts : List Terminal) (rules : List Rule) → all_rules nesting chain ts ≡ Ok rules → SpellsWithin nesting chain ts rules
unfolding all_rules
read_spells nesting chain ts rules e = subst (λ (r : Result (List Rule) TokensFault). IfOk r (λ all. IsContexts nesting chain [] ts all)) e (sound_contexts nesting chain (length ts) [] ts)

-- rules that a list spells within the limits are read from it
pub spelled_read : (nesting chain : ℕ) (ts : List Terminal) (rules : List Rule) → SpellsWithin nesting chain ts rules → all_rules nesting chain ts ≡ Ok rules
unfolding all_rules
spelled_read nesting chain ts rules d = complete_contexts d (length ts) (omega arith)

-- what a list spells within limits it spells within wider ones
pub wider : (nesting chain a b : ℕ) (ts : List Terminal) (rules : List Rule) → SpellsWithin nesting chain ts rules → SpellsWithin (plus nesting a) (plus chain b) ts rules
wider nesting chain a b ts rules d = wider_contexts a b d

-- a list begins with at most one expression, whatever the limits, and leaves the same tokens after it
pub one_expr : (ts : List Terminal) (some others : SurfaceTree) (left remains : List Terminal) → SpellsExpr ts some left → SpellsExpr ts others remains → (some ≡ others) × (left ≡ remains)
one_expr ts some others left remains (n, c, d) (m, e, f) =
    let x = complete_expr (wider_expr m e d) in
    let y = complete_expr (wider_expr n c f) in
    let z = rw (plus_swap m n, plus_swap e c) at y in
    let same : (some, left) ≡ (others, remains) = cc (x, z) in
    (ap (λ (p : SurfaceTree × List Terminal). p.0) same, ap (λ (p : SurfaceTree × List Terminal). p.1) same)

-- a list spells at most one list of rules, whatever the limits
pub one_list : (ts : List Terminal) (some others : List Rule) → Spells ts some → Spells ts others → some ≡ others
one_list ts some others (n, c, d) (m, e, f) =
    let x = spelled_read (plus n m) (plus c e) ts some (wider n c m e ts some d) in
    let y = spelled_read (plus m n) (plus e c) ts others (wider m e n c ts others f) in
    let z = rw (plus_swap m n, plus_swap e c) at y in
    cc (x, z)

-- the same as `wider`, with limits that are written as sums
pub wider_sum : (nesting chain a b : ℕ) (ts : List Terminal) (rules : List Rule) → SpellsWithin nesting chain ts rules → SpellsWithin (nesting + a) (chain + b) ts rules
wider_sum nesting chain a b ts rules d = rw (← plus_is nesting a, ← plus_is chain b) (wider nesting chain a b ts rules d)

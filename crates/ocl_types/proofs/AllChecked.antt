-- Rules are checked one after another, up to the first that is at fault.
use Rattle.std.proofs.Common.{◌≡◌, ℕ, suc, ◌+◌, ◌||◌, Bool, false, bytes_eq, get_or, List, [], ◌∷◌, ◌++◌, map, None, Result, Ok, Err, IfOk, refl, sym, ap, ◌∙◌, subst, arith, append_assoc, append-nil, drop}
use Rattle.std.proofs.lemmas.Cmp.{nat_list_eq_equiv}
use Rattle.std.proofs.lemmas.List.{map_push}
use Rattle.std.specs.List.{AllByRecursion}
use Rattle.imkl_model.specs.ClassModel.{Model, class_number}
use Rattle.imkl_model.specs.WellFormed.{IsClassModel}
use Rattle.ocl_base.specs.Steps.{◌>>=◌, FaultMeaning, fault, out_of_memory, never, Means, found}
use Rattle.ocl_base.specs.Lists.{is_among, repeats}
use Rattle.ocl_base.proofs.ForAbove.{both_steps, apart_push}
use Rattle.ocl_text.specs.declared.tree.SurfaceRule.{SurfaceRule}
use Rattle.ocl_text.specs.RuleText.{has_name, AreNamedApart, NamesDiffer}
use Rattle.ocl_text.specs.Tree.{Rule, offset_of}
use Rattle.ocl_text.specs.View.{rule_of}
use Rattle.ocl_types.specs.declared.fault.TypeFlaw.TheVariants.{UnknownName}
use Rattle.ocl_core.specs.Core.{CheckedRule}
use Rattle.ocl_types.specs.Faults.{TypeFaultAt, type_fault_at}
use Rattle.ocl_types.specs.Elaboration.{elaborate, elaborate_rule, asks_truth}
use Rattle.ocl_types.specs.Scope.{outermost}
use Rattle.ocl_types.specs.AllRules.{RulesFaultAt, in_rule, elaborate_rules}
use Rattle.ocl_core.specs.Core.{HaveOwnNames}
use Rattle.ocl_core.specs.Typing.{IsTypedRule}
use Rattle.ocl_types.proofs.TypedWalk.{rule_typed}

abbrev pub after : List CheckedRule → Result (List CheckedRule) RulesFaultAt → Result (List CheckedRule) RulesFaultAt
after xs (Ok ys) = Ok (xs ++ ys)
after xs (Err f) = Err f

-- all rules are these, and then what is left
abbrev pub CheckedTo : Model → List Rule → List CheckedRule → ℕ → List Rule → Type 0
CheckedTo m all xs i left = elaborate_rules m 0 all ≡ after xs (elaborate_rules m i left)

-- where the context class of the first rule is unknown, no rule was checked
abbrev pub NoneIfUnknown : Model → List Rule → ℕ → Type 0
NoneIfUnknown m all i = (first : Rule) (others : List Rule) → all ≡ first ∷ others → class_number m first.context ≡ None → i ≡ 0

-- before the first rule
pub none_checked : (m : Model) (all : List Rule) → CheckedTo m all [] 0 all
none_checked m all = by_cases (elaborate_rules m 0 all)
  where
    by_cases : (o : Result (List CheckedRule) RulesFaultAt) → o ≡ after [] o
    by_cases (Ok ys) = refl
    by_cases (Err f) = refl

-- after the last rule, all rules are those that were checked
pub all_checked : (m : Model) (all : List Rule) (xs : List CheckedRule) (i : ℕ) → CheckedTo m all xs i [] → elaborate_rules m 0 all ≡ Ok xs
all_checked m all xs i h = h ∙ ap (λ (l : List CheckedRule). Ok l) (append-nil xs)

-- one rule more without a fault, behind those before it
pub one_checked : (m : Model) (all : List Rule) (xs : List CheckedRule) (i : ℕ) (r : Rule) (rs : List Rule) (x : CheckedRule) → CheckedTo m all xs i (r ∷ rs) → in_rule i (elaborate_rule m r) ≡ Ok x → CheckedTo m all (xs ++ x ∷ []) (i + 1) rs
one_checked m all xs i r rs x h is =
    let next : i + 1 ≡ suc i = omega arith in
    h
    ∙ ap (λ (o : Result CheckedRule RulesFaultAt). after xs (o >>= (λ y. elaborate_rules m (suc i) rs >>= (λ ys. Ok (y ∷ ys))))) is
    ∙ by_cases (elaborate_rules m (suc i) rs)
    ∙ ap (λ (j : ℕ). after (xs ++ x ∷ []) (elaborate_rules m j rs)) (sym next)
  where
    by_cases : (o : Result (List CheckedRule) RulesFaultAt) → after xs (o >>= (λ ys. Ok (x ∷ ys))) ≡ after (xs ++ x ∷ []) o
    by_cases (Ok ys) = ap (λ (l : List CheckedRule). Ok l) (sym (append_assoc xs (x ∷ []) ys))
    by_cases (Err f) = refl

-- the fault of a rule is the fault of all
pub first_wrong : (m : Model) (all : List Rule) (xs : List CheckedRule) (i : ℕ) (r : Rule) (rs : List Rule) (e : FaultMeaning RulesFaultAt) → CheckedTo m all xs i (r ∷ rs) → Means e (in_rule i (elaborate_rule m r)) → Means e (elaborate_rules m 0 all)
first_wrong m all xs i r rs (fault f) h is =
    h ∙ ap (λ (o : Result CheckedRule RulesFaultAt). after xs (o >>= (λ y. elaborate_rules m (suc i) rs >>= (λ ys. Ok (y ∷ ys))))) is
first_wrong m all xs i r rs out_of_memory h is = tt
first_wrong m all xs i r rs never h is = absurd is

-- ---- the context class of the first rule

-- the rule at index 0 is the first
pub is_first : (rules : List SurfaceRule) (i : ℕ) (r : SurfaceRule) (first : Rule) (others : List Rule) → r ≡ get_or rules i r → i ≡ 0 → map rule_of rules ≡ first ∷ others → rule_of r ≡ first
is_first [] i r first others is zero all = absurd (let none : [] ≡ first ∷ others = all in cc)
is_first (x ∷ xs) i r first others is zero all =
    let same : r ≡ x = rw zero at is in
    let head : rule_of x ≡ first = let whole : rule_of x ∷ map rule_of xs ≡ first ∷ others = all in cc in
    ap rule_of same ∙ head

-- where no rule is left from the first on, there is none
pub no_rules : (rules : List SurfaceRule) (first : Rule) (others : List Rule) → drop 0 rules ≡ [] → map rule_of rules ≡ first ∷ others → ⊥
no_rules rules first others none all = let whole : [] ≡ first ∷ others = sym (ap (map rule_of) none) ∙ all in cc

-- an unknown context class of the first rule is that of the rule at index 0
pub first_unknown : (m : Model) (rules : List SurfaceRule) (i : ℕ) (r : SurfaceRule) (first : Rule) (others : List Rule) → r ≡ get_or rules i r → i ≡ 0 → map rule_of rules ≡ first ∷ others → class_number m first.context ≡ None → class_number m r.context ≡ None
first_unknown m rules i r first others is zero all unknown = ap (λ (x : Rule). class_number m x.context) (is_first rules i r first others is zero all) ∙ unknown

-- where the context class of some rule is known, and the first's was unless that rule is the first, the first's is
pub first_is_known : (m : Model) (rules : List SurfaceRule) (i : ℕ) (r : SurfaceRule) → NoneIfUnknown m (map rule_of rules) i → r ≡ get_or rules i r → (class_number m r.context ≡ None → ⊥) → (first : Rule) (others : List Rule) → map rule_of rules ≡ first ∷ others → class_number m first.context ≡ None → ⊥
first_is_known m rules i r before is known first others all unknown = known (first_unknown m rules i r first others is (before first others all unknown) all unknown)

-- ---- what all rules are

of_rule : (i : ℕ) (o : Result CheckedRule TypeFaultAt) (x : CheckedRule) → in_rule i o ≡ Ok x → o ≡ Ok x
of_rule i (Ok y) x e = cc
of_rule i (Err f) x e = cc

-- where all rules are elaborated, each of them is typed
pub all_typed : (m : Model) → IsClassModel m → (i : ℕ) (rs : List Rule) (xs : List CheckedRule) → elaborate_rules m i rs ≡ Ok xs → AllByRecursion (IsTypedRule m) xs
all_typed m well i [] xs e = let none : [] ≡ xs = cc in subst (AllByRecursion (IsTypedRule m)) none tt
all_typed m well i (r ∷ rs) xs e =
    let a = both_steps (in_rule i (elaborate_rule m r)) _ xs e in
    let b = both_steps (elaborate_rules m (suc i) rs) _ xs a.2 in
    let parts : a.0 ∷ b.0 ≡ xs = let last = b.2 in cc in
    let typed = subst (λ (o : Result CheckedRule TypeFaultAt). IfOk o (IsTypedRule m)) (of_rule i (elaborate_rule m r) a.0 a.1) (rule_typed m well r) in
    subst (AllByRecursion (IsTypedRule m)) parts (typed, all_typed m well (suc i) rs b.0 b.1)

rule_named : (m : Model) (r : Rule) (x : CheckedRule) → elaborate_rule m r ≡ Ok x → x.name ≡ r.name
unfolding elaborate_rule
rule_named m r x e =
    let a = both_steps (found (class_number m r.context) (type_fault_at UnknownName r.context_offset)) _ x e in
    let b = both_steps (elaborate m a.0 (outermost a.0) r.tree) _ x a.2 in
    let c = both_steps (asks_truth m b.0.kind (offset_of r.tree)) _ x b.2 in
    let last : record { name = r.name; context = a.0; tree = b.0.core } ≡ x = let e = c.2 in cc in
    ap (λ (y : CheckedRule). y.name) (sym last)

all_named : (m : Model) (i : ℕ) (rs : List Rule) (xs : List CheckedRule) → elaborate_rules m i rs ≡ Ok xs → map (λ x. x.name) xs ≡ map (λ r. r.name) rs
all_named m i [] xs e = let none : [] ≡ xs = cc in ap (map (λ x. x.name)) (sym none)
all_named m i (r ∷ rs) xs e =
    let a = both_steps (in_rule i (elaborate_rule m r)) _ xs e in
    let b = both_steps (elaborate_rules m (suc i) rs) _ xs a.2 in
    let parts : a.0 ∷ b.0 ≡ xs = let last = b.2 in cc in
    let name = rule_named m r a.0 (of_rule i (elaborate_rule m r) a.0 a.1) in
    ap (map (λ x. x.name)) (sym parts)
    ∙ ap (λ (n : List ℕ). n ∷ map (λ x. x.name) b.0) name
    ∙ ap (λ (ns : List (List ℕ)). r.name ∷ ns) (all_named m (suc i) rs b.0 b.1)

-- ---- names

has_is_among : (before : List Rule) (name : List ℕ) → has_name before name ≡ is_among bytes_eq (map (λ r. r.name) before) name
has_is_among [] name = refl
has_is_among (r ∷ rs) name =
    ap (λ (b : Bool). b || has_name rs name) (nat_list_eq_equiv.symm r.name name) ∙ ap (λ (b : Bool). bytes_eq name r.name || b) (has_is_among rs name)

names_apart : (before rs : List Rule) → repeats bytes_eq (map (λ r. r.name) before) ≡ false → AreNamedApart before rs → repeats bytes_eq (map (λ r. r.name) (before ++ rs)) ≡ false
names_apart before [] h apart = ap (λ (l : List Rule). repeats bytes_eq (map (λ r. r.name) l)) (append-nil before) ∙ h
names_apart before (r ∷ rs) h apart =
    let name : Rule → List ℕ = λ x. x.name in
    let next =
    ap (repeats bytes_eq) (map_push name before r) ∙ apart_push bytes_eq nat_list_eq_equiv.symm (map name before) r.name h (sym (has_is_among before r.name) ∙ apart.0)
    in
    ap (λ (l : List Rule). repeats bytes_eq (map name l)) (sym (append_assoc before (r ∷ []) rs)) ∙ names_apart (before ++ r ∷ []) rs next apart.1

-- rules whose names differ have their own names once they are checked
pub checked_apart : (m : Model) (rs : List Rule) (xs : List CheckedRule) → elaborate_rules m 0 rs ≡ Ok xs → NamesDiffer rs → HaveOwnNames xs
checked_apart m rs xs e apart = ap (repeats bytes_eq) (all_named m 0 rs xs e) ∙ names_apart [] rs refl apart

-- The laws of runs.
use Rattle.std.proofs.Common.{◌≡◌, ℕ, List, [], ◌∷◌, length, Option, Some, Result, Ok, refl, sym, ap, ◌∙◌, subst, inl, inr, ⊎_elim, arith, append-nil}
use Rattle.std.specs.Prelude.{is_some, unwrap_or}
use Rattle.ocl_base.specs.Steps.{◌>>=◌, found}
use Rattle.rule_code.specs.Content.{Content}
use Rattle.rule_code.specs.WellFormed.{RuleFits}
use Rattle.rule_code.proofs.ForAbove.{EachFits-at}
use Rattle.rule_verify.specs.declared.fault.VerifyFlaw.TheVariants as flaws
use Rattle.rule_verify.specs.UnitRules.{unit_rule, empty_rule}
use Rattle.rule_verify.specs.InstrKinds.{surroundings}
use Rattle.imkl_population.specs.Population.{Population}
use Rattle.std.proofs.lemmas.Bool.{and_from, lt-ltb}
use Rattle.std.proofs.lemmas.Option.{slice_get-get_or}
use Rattle.ocl_base.proofs.ForAbove.{both_steps}
use Rattle.ocl_kinds.specs.declared.kind.Kind.{Kind}
use Rattle.ocl_kinds.specs.declared.kind.Kind.TheVariants as kind
use Rattle.ocl_kinds.specs.declared.kind.ScalarKind.TheVariants as element
use Rattle.rule_verify.specs.CodeTree.{instr_count}
use Rattle.rule_verify.specs.Patterns.{matches, a_boolean}
use Rattle.rule_verify.specs.KindRules.{InstrFault, Enclosing, kinds_after, rule_ends, instr_fault}
use Rattle.rule_verify.proofs.ForAbove.{rule_accepted, has_context}
use Rattle.rule_values.specs.Value.{object_value}
use Rattle.rule_machine.specs.Machine.{Setting, setting_of, judged_by, Piece, Sequence, Configuration, run, start}
use Rattle.rule_cost.specs.Admission.{rule_step_bound}
use Rattle.rule_machine.specs.Laws.{IsAcceptedRun, tree_of_rule, rule_bound, NeverStuck, EndsWithin, EndsWithinBudget, StandsInKinds, rule_depths_in, StaysWithinDepths, PlacesAreByRules}
use Rattle.rule_machine.specs.Counts.{Balanced}
use Rattle.rule_machine.specs.Places.{Place, self_place, places_after, stand, Mark, Here, now_at, marks_before}
use Rattle.rule_machine.specs.Live.{Kinded, IsOneBoolean, GoesNoDeeper, Going, Live}
use Rattle.rule_machine.proofs.Counted.{balanced}
use Rattle.rule_machine.proofs.Marks.{marks_are}
use Rattle.rule_machine.proofs.Deep.{sequence_room, as_many_at}
use Rattle.rule_machine.proofs.Moves.{moves, settled, held}
use Rattle.rule_machine.proofs.KindsAfter.{ended_says, lengths_after, kinds_of_after, body_ends_in}
use Rattle.rule_machine.proofs.Bridge.{AllFit, code_is_cut, bridge}
use Rattle.rule_machine.proofs.Runs.{Stays, stays, ends}

-- ---- the rules of accepted units

-- the code of a rule has kinds in its context class
code_has_kinds : (u : Content) (p : Population) (n o : ℕ) → IsAcceptedRun u p n o → (k : Kind) × (rule_ends (judged_by (setting_of u p n)) (tree_of_rule u n) ≡ Ok k)
code_has_kinds u p n o a =
    let c = has_context p.model u a.accepted n a.rule in
    let ends : Option ℕ → Result (Unit {0}) InstrFault = λ x. found x (instr_fault flaws.NoSuchName n 0) >>= (λ y. rule_ends (surroundings p.model u n y) (tree_of_rule u n) >>= (λ k. Ok tt)) in
    let k = both_steps (rule_ends (surroundings p.model u n c.0) (tree_of_rule u n)) _ tt (ap ends (sym c.1) ∙ rule_accepted p.model u a.accepted n a.rule) in
    (k.0, ap (λ x. rule_ends (surroundings p.model u n (unwrap_or x 0)) (tree_of_rule u n)) c.1 ∙ k.1)

-- its instructions fit the unit
rule_fits : (u : Content) (p : Population) (n o : ℕ) → IsAcceptedRun u p n o → AllFit (setting_of u p n) (unit_rule u n).code
rule_fits u p n o a =
    (EachFits-at (RuleFits u.version u.texts u.symbols) [] u.rules n (unit_rule u n) (slice_get-get_or u.rules n empty_rule a.rule) a.unit.rules).1.code

-- the code of a rule has kinds, is charged at most its bound, and leaves one operand, which fits Boolean
code_kinded : (u : Content) (p : Population) (n o : ℕ) → IsAcceptedRun u p n o
    → Kinded (setting_of u p n) (tree_of_rule u n) (self_place (setting_of u p n) ∷ []) [] (places_after (setting_of u p n) (tree_of_rule u n) (self_place (setting_of u p n) ∷ []) []) (rule_bound u p n)
    × IsOneBoolean (setting_of u p n) (places_after (setting_of u p n) (tree_of_rule u n) (self_place (setting_of u p n) ∷ []) [])
code_kinded u p n o a =
    let s = setting_of u p n in
    let t = tree_of_rule u n in
    let accepted = code_has_kinds u p n o a in
    let e : Enclosing = record { variables = kind.Scalar (element.Class s.context) ∷ []; covered = 0; open_blocks = 0 } in
    let after = both_steps (kinds_after (judged_by s) t e 0 []) _ accepted.0 accepted.1 in
    let ended = ended_says (judged_by s) a_boolean (instr_count t) after.0 accepted.0 after.2 in
    let b = bridge s t e (self_place s ∷ []) [] 0 after.0 refl (code_is_cut s (unit_rule u n).code (rule_fits u p n o a)) refl after.1 in
    let one = body_ends_in s t e (self_place s ∷ []) 0 after.0 accepted.0 refl after.1 ended.0 in
    (b, subst (IsOneBoolean s) (sym one.0) (ap (matches p.model a_boolean) one.1 ∙ ended.1))

one_long : (s : Setting) (ps : List Place) → IsOneBoolean s ps → length ps ≡ 1
one_long s [] b = absurd b
one_long s (p ∷ []) b = refl
one_long s (p ∷ q ∷ ps) b = absurd b

-- the code of a rule takes no operand from below, and leaves one
pub code_balanced : (u : Content) (p : Population) (n o : ℕ) → IsAcceptedRun u p n o → Balanced (setting_of u p n) (tree_of_rule u n) 0 1
code_balanced u p n o a =
    let s = setting_of u p n in
    let k = code_kinded u p n o a in
    let out = places_after s (tree_of_rule u n) (self_place s ∷ []) [] in
    subst (Balanced s (tree_of_rule u n) 0) (one_long s out k.1) (balanced s (tree_of_rule u n) (self_place s ∷ []) [] out (rule_bound u p n) k.0)

-- the start of accepted code can go on, for as many steps as its bound
begins : (u : Content) (p : Population) (n o : ℕ) → IsAcceptedRun u p n o → Live (setting_of u p n) (rule_depths_in u p n) (start (tree_of_rule u n) o) (marks_before (setting_of u p n) (tree_of_rule u n) (start (tree_of_rule u n) o)) (rule_bound u p n)
begins u p n o a =
    let s = setting_of u p n in
    let t = tree_of_rule u n in
    let k = code_kinded u p n o a in
    let object = and_from _ _ (lt-ltb o (length p.objects) a.object.0) a.object.1 in
    let out = places_after s t (self_place s ∷ []) [] in
    let q : List Piece = Sequence t ∷ [] in
    let ms : List Mark = Here (stand (self_place s ∷ []) []) ∷ Here (stand (self_place s ∷ []) out) ∷ [] in
    let deep = rule_depths_in u p n in
    let whole : GoesNoDeeper s deep t 1 0 0 = record { blocks = 0; covered = omega arith; within = record { operands = omega arith; variables = omega arith; blocks = omega arith } } in
    let g : Going s deep q ms (rule_bound u p n) =
    (rule_bound u p n, 0, [], [], out, refl, k.0, ap (stand (self_place s ∷ [])) (sym (append-nil out)), k.1, omega arith, whole) in
    subst (λ l. Live s deep (start t o) l (rule_bound u p n)) (sym (marks_are q (object_value o ∷ []) [] [] ms refl))
    (settled s deep a.model a.population q (object_value o ∷ []) [] (rule_bound u p n) ms (record { in_kind = object; within = omega arith }, tt) tt (sequence_room s deep t (stand (self_place s ∷ []) []) 0 whole) g)

-- ---- the laws

-- each configuration that a run reaches can go on, at its marks, for as many steps as are left of the bound
pub goes_on_at : (u : Content) (p : Population) (n o k : ℕ) (c : Configuration) → (a : IsAcceptedRun u p n o) → run (setting_of u p n) k (start (tree_of_rule u n) o) ≡ Some c → Stays (setting_of u p n) (rule_depths_in u p n) a.model a.population k (start (tree_of_rule u n) o) (marks_before (setting_of u p n) (tree_of_rule u n) (start (tree_of_rule u n) o)) c (rule_bound u p n)
goes_on_at u p n o k c a r =
    stays (setting_of u p n) (rule_depths_in u p n) a.model a.population k (start (tree_of_rule u n) o) c (marks_before (setting_of u p n) (tree_of_rule u n) (start (tree_of_rule u n) o)) (rule_bound u p n) (begins u p n o a) r

-- every value of a configuration that a run reaches is in the kind of its place, and no longer than it allows
pub stands_in_kinds : StandsInKinds
stands_in_kinds u p n o k c a r =
    let l = goes_on_at u p n o k c a r in
    (l.0, l.2, record { variables = l.4.variables_at; operands = l.4.operands_at; iterations = held (setting_of u p n) (rule_depths_in u p n) a.model a.population c.pending l.0 l.4.cost l.4.going })

-- no configuration that a run reaches goes deeper than its rule
pub stays_within_depths : StaysWithinDepths
stays_within_depths u p n o k c a r =
    let s = setting_of u p n in
    let l = (goes_on_at u p n o k c a r).4 in
    let at = now_at s c.pending (goes_on_at u p n o k c a r).0 in
    record {
      operands = omega (arith, l.room.operands, as_many_at s c.operands at.operands l.operands_at);
      variables = omega (arith, l.room.variables, as_many_at s c.variables at.variables l.variables_at);
      pieces = l.room.pieces;
    }

-- the places after code have the kinds of the rules of kinds, and the lengths that bounds are computed from
pub places_are_by_rules : PlacesAreByRules
places_are_by_rules s t e vars ps at ks v h = (kinds_of_after s t e vars ps at ks v h, lengths_after s t vars ps)

-- a configuration that a run reaches has a verdict or a next step
pub never_stuck : NeverStuck
never_stuck u p n o k c a r =
    let l = goes_on_at u p n o k c a r in
    ⊎_elim (λ f. inl f) (λ m. inr (ap is_some m.2)) (moves (setting_of u p n) (rule_depths_in u p n) a.model a.population c l.0 l.1 l.4)

-- a run comes to a verdict within its step bound
pub ends_within : EndsWithin
ends_within u p n o a =
    ends (setting_of u p n) (rule_depths_in u p n) a.model a.population (rule_bound u p n) (start (tree_of_rule u n) o) (marks_before (setting_of u p n) (tree_of_rule u n) (start (tree_of_rule u n) o)) (rule_bound u p n) (omega arith) (begins u p n o a)

-- a run of an admitted unit comes to a verdict within the budget
pub ends_within_budget : EndsWithinBudget
ends_within_budget a p n o admitted fits accepted =
    let e = ends_within a.resolved.unit p n o accepted in
    let same : rule_bound a.resolved.unit p n ≡ rule_step_bound a.resolved.unit a.sizes n = ap (λ z. rule_step_bound a.resolved.unit z n) fits.1 in
    (e.0, e.1, omega (arith, e.2, same, admitted.within_budget n accepted.rule), e.3, e.4)

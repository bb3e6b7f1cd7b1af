-- Steps of the pipeline that stop, by what a layer returned.
use Rattle.std.proofs.Common.{◌≡◌, ℕ, List, Result, Ok, Err, ap, sym, ◌∙◌, subst}
use Rattle.ocl_base.specs.Steps.{◌>>=◌, Fails}
use Rattle.ocl_base.proofs.ForAbove.{ok_is, not_okay}
use Rattle.imkl_model.specs.declared.fault.ModelFault.{ModelFault}
use Rattle.imkl_model.specs.declared.fault.ModelFault.TheVariants as model
use Rattle.imkl_model.specs.ClassModel.{Model}
use Rattle.imkl_model.specs.Description.{ModelAnswers, IsModelFault}
use Rattle.imkl_population.specs.Population.{Population}
use Rattle.imkl_population.specs.Sizes.{Sizes, sizes_of}
use Rattle.imkl_delivery.specs.declared.fault.DeliveryFault.{DeliveryFault}
use Rattle.imkl_delivery.specs.declared.fault.DeliveryFault.TheVariants as delivery
use Rattle.imkl_delivery.specs.Description.{IsDeliveryFault}
use Rattle.rule_code.specs.Content.{Content}
use Rattle.rule_code.specs.CodeFile.{CodeFaultAt, unit_of, CodeAnswers}
use Rattle.rule_code.specs.declared.fault.CodeFault.{CodeFault}
use Rattle.rule_code.specs.declared.fault.CodeFault.TheVariants as code
use Rattle.rule_verify.specs.declared.fault.VerifyFault.{VerifyFault}
use Rattle.rule_verify.specs.declared.fault.VerifyFault.TheVariants as verify
use Rattle.rule_verify.specs.Faults.{verify_fault}
use Rattle.rule_verify.specs.KindRules.{InstrFault}
use Rattle.rule_verify.specs.UnitRules.{check_unit}
use Rattle.rule_verify.specs.Resolved.{ResolvedUnit, resolved_unit}
use Rattle.rule_cost.specs.declared.fault.CostFault.{CostFault}
use Rattle.rule_cost.specs.declared.fault.CostFault.TheVariants as cost
use Rattle.rule_cost.specs.CostFaults.{cost_fault}
use Rattle.rule_cost.specs.Admission.{Admission, admission}
use Rattle.ocl_pipeline.specs.declared.refusal.Refusal.{Refusal}
use Rattle.ocl_pipeline.specs.declared.refusal.Refusal.TheVariants as refusal
use Rattle.ocl_pipeline.specs.declared.stopped.Stopped.{Stopped}
use Rattle.ocl_pipeline.specs.declared.stopped.Stopped.TheVariants.{Refused, OutOfMemory}
use Rattle.ocl_pipeline.specs.Inputs.{model_by, population_by, population_of}
use Rattle.ocl_pipeline.specs.Stops.{stopped, model_stop, delivery_stop, code_stop, verify_stop, cost_stop}
use Rattle.ocl_pipeline.specs.Steps.{refused_as, code_refusal, verify_refusal, model_in, population_in, accepted_in, unit_in}
use Rattle.ocl_pipeline.specs.Asked.{admission_for, admitted_in}
use Rattle.ocl_pipeline.proofs.Described.{model_is, population_is, no_json}

-- a step that stops ends those after it
pub stops_then : {A B : Type 0} (why : Stopped) (given : Result A Refusal) (k : A → Result B Refusal) → Fails stopped why given → Fails stopped why (given >>= k)
stops_then (Refused r) given k h = ap (λ (x : Result _ Refusal). x >>= k) h
stops_then OutOfMemory given k h = tt

-- what isn't refused is what the layer gives
pub not_refused : {A E : Type 0} (f : E → Refusal) (o : Result A E) (x : A) → refused_as f o ≡ Ok x → o ≡ Ok x
not_refused f (Ok y) x h = ap Ok (ok_is y x h)
not_refused f (Err e) x h = absurd (not_okay (f e) x h)

-- where nothing is refused, only memory can have run out, and then any answer could have been due
pub only_memory : {A B : Type 0} (why : Stopped) (x : A) (given : Result B Refusal) → Fails {Y = A} stopped why (Ok x) → Fails stopped why given
only_memory (Refused r) x given h = absurd (not_okay r x (sym h))
only_memory OutOfMemory x given h = tt

-- ---- a class model

pub model_read : (bytes : List ℕ) (m : Model) → ModelAnswers bytes (Ok m) → model_in bytes ≡ Ok m
model_read bytes m h = ap (refused_as refusal.Model) (model_is bytes (Ok m) h)

model_fails : (bytes : List ℕ) (e : ModelFault) → IsModelFault e bytes → Fails stopped (model_stop e) (model_in bytes)
model_fails bytes model.OutOfMemory h = tt
model_fails bytes model.NotJson h = ap (refused_as refusal.Model) (ap model_by (no_json bytes h))
model_fails bytes model.Shape h = ap (refused_as refusal.Model) (model_is bytes _ h)
model_fails bytes model.DuplicateName h = ap (refused_as refusal.Model) (model_is bytes _ h)
model_fails bytes model.UnknownName h = ap (refused_as refusal.Model) (model_is bytes _ h)
model_fails bytes model.Cycle h = ap (refused_as refusal.Model) (model_is bytes _ h)
model_fails bytes model.FeatureClash h = ap (refused_as refusal.Model) (model_is bytes _ h)
model_fails bytes model.BadMultiplicity h = ap (refused_as refusal.Model) (model_is bytes _ h)
model_fails bytes model.Limit h = ap (refused_as refusal.Model) (model_is bytes _ h)

pub model_stops : (bytes : List ℕ) (e : ModelFault) (s : Stopped) → s ≡ model_stop e → IsModelFault e bytes → Fails stopped s (model_in bytes)
model_stops bytes e s same h = subst (λ (x : Stopped). Fails stopped x (model_in bytes)) (sym same) (model_fails bytes e h)

-- ---- a delivery

pub population_read : (m : Model) (bytes : List ℕ) (p : Population) → population_of m bytes ≡ Ok p → population_in bytes m ≡ Ok p
population_read m bytes p h = ap (refused_as refusal.Delivery) h

delivery_fails : (m : Model) (bytes : List ℕ) (e : DeliveryFault) → IsDeliveryFault m e bytes → Fails stopped (delivery_stop e) (population_in bytes m)
delivery_fails m bytes delivery.OutOfMemory h = tt
delivery_fails m bytes delivery.NotJson h = ap (refused_as refusal.Delivery) (ap (population_by m) (no_json bytes h))
delivery_fails m bytes delivery.Shape h = ap (refused_as refusal.Delivery) (population_is m bytes _ h)
delivery_fails m bytes delivery.OtherModel h = ap (refused_as refusal.Delivery) (population_is m bytes _ h)
delivery_fails m bytes (delivery.UnknownClass o) h = ap (refused_as refusal.Delivery) (population_is m bytes _ h)
delivery_fails m bytes (delivery.UnknownFeature o) h = ap (refused_as refusal.Delivery) (population_is m bytes _ h)
delivery_fails m bytes (delivery.UnknownTarget o) h = ap (refused_as refusal.Delivery) (population_is m bytes _ h)
delivery_fails m bytes (delivery.Population o e) h = ap (refused_as refusal.Delivery) (population_is m bytes _ h)

pub delivery_stops : (m : Model) (bytes : List ℕ) (e : DeliveryFault) (s : Stopped) → s ≡ delivery_stop e → IsDeliveryFault m e bytes → Fails stopped s (population_in bytes m)
delivery_stops m bytes e s same h = subst (λ (x : Stopped). Fails stopped x (population_in bytes m)) (sym same) (delivery_fails m bytes e h)

-- ---- a unit

abbrev checked : Content → Result (Unit {0}) InstrFault → Result Content Refusal
checked u o = refused_as verify_refusal o >>= (λ _. Ok u)

pub unit_accepted : (m : Model) (u : Content) → check_unit m u ≡ Ok tt → accepted_in m u ≡ Ok u
unit_accepted m u h = ap (checked u) h

unit_fails : (u : Content) (o : Result (Unit {0}) InstrFault) (e : VerifyFault) → Fails verify_fault e o → Fails stopped (verify_stop e) (checked u o)
unit_fails u o verify.OutOfMemory h = tt
unit_fails u o (verify.At flaw rule at) h = ap (checked u) h

pub unit_stops : (m : Model) (u : Content) (e : VerifyFault) (s : Stopped) → s ≡ verify_stop e → Fails verify_fault e (check_unit m u) → Fails stopped s (accepted_in m u)
unit_stops m u e s same h = subst (λ (x : Stopped). Fails stopped x (accepted_in m u)) (sym same) (unit_fails u (check_unit m u) e h)

-- ---- a code file

abbrev accepted_after : Model → Result Content CodeFaultAt → Result Content Refusal
accepted_after m o = refused_as code_refusal o >>= accepted_in m

pub code_read : (m : Model) (bytes : List ℕ) (u : Content) → unit_of bytes ≡ Ok u → unit_in m bytes ≡ accepted_in m u
code_read m bytes u h = ap (accepted_after m) h

code_fails : (m : Model) (bytes : List ℕ) (e : CodeFault) → CodeAnswers bytes (Err e) → Fails stopped (code_stop e) (unit_in m bytes)
code_fails m bytes code.OutOfMemory h = tt
code_fails m bytes (code.At flaw offset) h = ap (accepted_after m) h

pub code_stops : (m : Model) (bytes : List ℕ) (e : CodeFault) (s : Stopped) → s ≡ code_stop e → CodeAnswers bytes (Err e) → Fails stopped s (unit_in m bytes)
code_stops m bytes e s same h = subst (λ (x : Stopped). Fails stopped x (unit_in m bytes)) (sym same) (code_fails m bytes e h)

-- ---- a budget

module _ (budget : ℕ) (p : Population) (u : Content) where
  abbrev admitted_after : Result (Unit {0}) ℕ → Result Admission Refusal
  admitted_after o = refused_as refusal.Cost o >>= (λ _. Ok (admission_for budget p u))

  cost_fails : (o : Result (Unit {0}) ℕ) (e : CostFault) → Fails cost_fault e o → Fails stopped (cost_stop e) (admitted_after o)
  cost_fails o cost.OutOfMemory h = tt
  cost_fails o (cost.TooCostly rule) h = ap admitted_after h

  pub cost_stops : (z : Sizes) (e : CostFault) (s : Stopped) → s ≡ cost_stop e → z ≡ sizes_of p → Fails cost_fault e (admission u z budget) → Fails stopped s (admitted_in budget p u)
  cost_stops z e s same sizes h =
      subst (λ (x : Stopped). Fails stopped x (admitted_in budget p u)) (sym same)
      (cost_fails (admission u (sizes_of p) budget) e (subst (λ (x : Sizes). Fails cost_fault e (admission u x budget)) sizes h))

-- the admission of a population's class model and sizes within a budget
abbrev admitted_within : Model → Content → Sizes → ℕ → Admission
admitted_within m u z n = record { resolved = resolved_unit m u; sizes = z; budget = n }

admission_is : (budget : ℕ) (a : Admission) (p : Population) (l : ResolvedUnit) (z : Sizes) → a.resolved ≡ l → a.sizes ≡ z → a.budget ≡ budget → p.model ≡ l.model → z ≡ sizes_of p
    → a ≡ admission_for budget p l.unit
admission_is budget a p l z resolved sizes within model of_population =
    ap (λ (x : ResolvedUnit). admitted_within x.model x.unit a.sizes a.budget) resolved ∙ ap (λ (m : Model). admitted_within m l.unit a.sizes a.budget) (sym model)
    ∙ ap (λ (y : Sizes). admitted_within p.model l.unit y a.budget) (sizes ∙ of_population) ∙ ap (admitted_within p.model l.unit (sizes_of p)) within

-- an admission of a unit, sizes and a budget is that of the population
pub admitted_is : (budget : ℕ) (a : Admission) (p : Population) (l : ResolvedUnit) (z : Sizes) → a.resolved ≡ l → a.sizes ≡ z → a.budget ≡ budget → p.model ≡ l.model → z ≡ sizes_of p
    → admission l.unit z budget ≡ Ok tt → admitted_in budget p l.unit ≡ Ok a
admitted_is budget a p l z resolved sizes within model of_population passes =
    ap (admitted_after budget p l.unit) (subst (λ (x : Sizes). admission l.unit x budget ≡ Ok tt) of_population passes)
    ∙ sym (ap Ok (admission_is budget a p l z resolved sizes within model of_population))

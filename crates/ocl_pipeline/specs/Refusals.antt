-- The lines of refusals, by which a refused input is reported, and their numbers.
use Rattle.std.specs.Prelude.{ℕ, List, [], ◌∷◌, ◌++◌, codes}
use Rattle.std.specs.Fmt.{decimal}
use Rattle.imkl_model.specs.Faults.{model_fault_number}
use Rattle.imkl_population.specs.declared.fault.PopulationFault.{PopulationFault}
use Rattle.imkl_population.specs.Building.{population_fault_number}
use Rattle.imkl_delivery.specs.declared.fault.DeliveryFault.{DeliveryFault}
use Rattle.imkl_delivery.specs.declared.fault.DeliveryFault.TheVariants as delivery
use Rattle.imkl_delivery.specs.Faults.{delivery_fault_number}
use Rattle.ocl_tokens.specs.Faults.{text_flaw_number}
use Rattle.ocl_types.specs.Faults.{type_flaw_number}
use Rattle.ocl_compile.specs.CompileFaults.{limit_number}
use Rattle.rule_code.specs.FaultNumber.{code_flaw_number}
use Rattle.rule_verify.specs.FaultNumber.{verify_flaw_number}
use Rattle.ocl_pipeline.specs.declared.refusal.Refusal.{Refusal}
use Rattle.ocl_pipeline.specs.declared.refusal.Refusal.TheVariants.{Model, Delivery, Text, Types, Compile, Code, Verify, Cost, Script}

-- a fault of the whole document, by its number
abbrev pub delivery_line : ℕ → List ℕ
delivery_line n = codes "refused delivery " ++ (decimal n ++ 10 ∷ [])

-- a fault at an object
abbrev pub refused_at_object : ℕ → ℕ → List ℕ
refused_at_object n o = codes "refused delivery " ++ (decimal n ++ (32 ∷ (decimal o ++ 10 ∷ [])))

-- a fault of the population at an object
abbrev pub population_line : ℕ → PopulationFault → List ℕ
population_line o e = codes "refused delivery 7 " ++ (decimal o ++ (32 ∷ (decimal (population_fault_number e) ++ 10 ∷ [])))

-- the line of a delivery's fault
abbrev pub delivery_fault_line : DeliveryFault → List ℕ
delivery_fault_line delivery.NotJson = delivery_line 1
delivery_fault_line delivery.Shape = delivery_line 2
delivery_fault_line delivery.OtherModel = delivery_line 3
delivery_fault_line (delivery.UnknownClass o) = refused_at_object 4 o
delivery_fault_line (delivery.UnknownFeature o) = refused_at_object 5 o
delivery_fault_line (delivery.UnknownTarget o) = refused_at_object 6 o
delivery_fault_line (delivery.Population o e) = population_line o e
delivery_fault_line delivery.OutOfMemory = delivery_line 8

-- The line of a refusal. A rule is refused for its cost where its bound is over, or above the budget; a script by the
-- number of its first wrong line, from 1.
abbrev pub refusal_line : Refusal → List ℕ
refusal_line (Model e) = codes "refused model " ++ (decimal (model_fault_number e) ++ 10 ∷ [])
refusal_line (Delivery e) = delivery_fault_line e
refusal_line (Text flaw offset) = codes "refused text " ++ (decimal (text_flaw_number flaw) ++ (32 ∷ (decimal offset ++ 10 ∷ [])))
refusal_line (Types flaw rule offset) =
    codes "refused types " ++ (decimal (type_flaw_number flaw) ++ (32 ∷ (decimal rule ++ (32 ∷ (decimal offset ++ 10 ∷ [])))))
refusal_line (Compile limit rule) = codes "refused compile " ++ (decimal (limit_number limit) ++ (32 ∷ (decimal rule ++ 10 ∷ [])))
refusal_line (Code flaw offset) = codes "refused code " ++ (decimal (code_flaw_number flaw) ++ (32 ∷ (decimal offset ++ 10 ∷ [])))
refusal_line (Verify flaw rule at) =
    codes "refused verify " ++ (decimal (verify_flaw_number flaw) ++ (32 ∷ (decimal rule ++ (32 ∷ (decimal at ++ 10 ∷ [])))))
refusal_line (Cost rule) = codes "refused cost 1 " ++ (decimal rule ++ 10 ∷ [])
refusal_line (Script line) = codes "refused script " ++ (decimal line ++ 10 ∷ [])

-- the number of what is wrong among the faults of its input; a cost and a script have one fault each
abbrev pub refusal_number : Refusal → ℕ
refusal_number (Model e) = model_fault_number e
refusal_number (Delivery e) = delivery_fault_number e
refusal_number (Text flaw offset) = text_flaw_number flaw
refusal_number (Types flaw rule offset) = type_flaw_number flaw
refusal_number (Compile limit rule) = limit_number limit
refusal_number (Code flaw offset) = code_flaw_number flaw
refusal_number (Verify flaw rule at) = verify_flaw_number flaw
refusal_number (Cost rule) = 1
refusal_number (Script line) = 1

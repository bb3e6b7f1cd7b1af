-- Why there is no answer, by what a layer returned, and what that means.
use Rattle.ocl_base.specs.Steps.{FaultMeaning, fault, out_of_memory}
use Rattle.imkl_model.specs.declared.fault.ModelFault.{ModelFault}
use Rattle.imkl_model.specs.declared.fault.ModelFault.TheVariants as model
use Rattle.imkl_delivery.specs.declared.fault.DeliveryFault.{DeliveryFault}
use Rattle.imkl_delivery.specs.declared.fault.DeliveryFault.TheVariants as delivery
use Rattle.ocl_tokens.specs.declared.fault.TextFault.{TextFault}
use Rattle.ocl_tokens.specs.declared.fault.TextFault.TheVariants as text
use Rattle.ocl_types.specs.declared.rules_fault.RulesFault.{RulesFault}
use Rattle.ocl_types.specs.declared.rules_fault.RulesFault.TheVariants as types
use Rattle.ocl_compile.specs.declared.fault.CompileFault.{CompileFault}
use Rattle.ocl_compile.specs.declared.fault.CompileFault.TheVariants as limits
use Rattle.rule_code.specs.declared.fault.CodeFault.{CodeFault}
use Rattle.rule_code.specs.declared.fault.CodeFault.TheVariants as code
use Rattle.rule_verify.specs.declared.fault.VerifyFault.{VerifyFault}
use Rattle.rule_verify.specs.declared.fault.VerifyFault.TheVariants as verify
use Rattle.rule_cost.specs.declared.fault.CostFault.{CostFault}
use Rattle.rule_cost.specs.declared.fault.CostFault.TheVariants as cost
use Rattle.ocl_pipeline.specs.declared.refusal.Refusal.{Refusal}
use Rattle.ocl_pipeline.specs.declared.refusal.Refusal.TheVariants as refusal
use Rattle.ocl_pipeline.specs.declared.stopped.Stopped.{Stopped}
use Rattle.ocl_pipeline.specs.declared.stopped.Stopped.TheVariants.{Refused, OutOfMemory}

-- the input has this refusal; running out of memory is not one
abbrev pub stopped : Stopped → FaultMeaning Refusal
stopped (Refused r) = fault r
stopped OutOfMemory = out_of_memory

-- ---- by what a layer returned

abbrev pub model_stop : ModelFault → Stopped
model_stop model.OutOfMemory = OutOfMemory
model_stop model.NotJson = Refused (refusal.Model model.NotJson)
model_stop model.Shape = Refused (refusal.Model model.Shape)
model_stop model.DuplicateName = Refused (refusal.Model model.DuplicateName)
model_stop model.UnknownName = Refused (refusal.Model model.UnknownName)
model_stop model.Cycle = Refused (refusal.Model model.Cycle)
model_stop model.FeatureClash = Refused (refusal.Model model.FeatureClash)
model_stop model.BadMultiplicity = Refused (refusal.Model model.BadMultiplicity)
model_stop model.Limit = Refused (refusal.Model model.Limit)

abbrev pub delivery_stop : DeliveryFault → Stopped
delivery_stop delivery.OutOfMemory = OutOfMemory
delivery_stop delivery.NotJson = Refused (refusal.Delivery delivery.NotJson)
delivery_stop delivery.Shape = Refused (refusal.Delivery delivery.Shape)
delivery_stop delivery.OtherModel = Refused (refusal.Delivery delivery.OtherModel)
delivery_stop (delivery.UnknownClass o) = Refused (refusal.Delivery (delivery.UnknownClass o))
delivery_stop (delivery.UnknownFeature o) = Refused (refusal.Delivery (delivery.UnknownFeature o))
delivery_stop (delivery.UnknownTarget o) = Refused (refusal.Delivery (delivery.UnknownTarget o))
delivery_stop (delivery.Population o e) = Refused (refusal.Delivery (delivery.Population o e))

abbrev pub text_stop : TextFault → Stopped
text_stop (text.At flaw offset) = Refused (refusal.Text flaw offset)
text_stop text.OutOfMemory = OutOfMemory

abbrev pub types_stop : RulesFault → Stopped
types_stop (types.At flaw rule offset) = Refused (refusal.Types flaw rule offset)
types_stop types.OutOfMemory = OutOfMemory

abbrev pub compile_stop : CompileFault → Stopped
compile_stop (limits.At limit rule) = Refused (refusal.Compile limit rule)
compile_stop limits.OutOfMemory = OutOfMemory

abbrev pub code_stop : CodeFault → Stopped
code_stop (code.At flaw offset) = Refused (refusal.Code flaw offset)
code_stop code.OutOfMemory = OutOfMemory

abbrev pub verify_stop : VerifyFault → Stopped
verify_stop (verify.At flaw rule at) = Refused (refusal.Verify flaw rule at)
verify_stop verify.OutOfMemory = OutOfMemory

abbrev pub cost_stop : CostFault → Stopped
cost_stop (cost.TooCostly rule) = Refused (refusal.Cost rule)
cost_stop cost.OutOfMemory = OutOfMemory

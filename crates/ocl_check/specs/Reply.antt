-- Replies: the lines that commands print, and their statuses. Reports and bounds are defined elsewhere.
use Rattle.std.specs.Prelude.{ℕ, List, [], ◌∷◌, ◌++◌, codes, string_bytes}
use Rattle.std.specs.Fmt.{decimal}
use Rattle.imkl_model.specs.declared.fault.ModelFault.{ModelFault}
use Rattle.imkl_delivery.specs.declared.fault.DeliveryFault.{DeliveryFault}
use Rattle.ocl_types.specs.AllRules.{RulesFaultAt}
use Rattle.ocl_compile.specs.Compiling.{LimitAt}
use Rattle.rule_code.specs.CodeFile.{CodeFaultAt}
use Rattle.rule_verify.specs.KindRules.{InstrFault}
use Rattle.ocl_pipeline.specs.declared.refusal.Refusal.{Refusal}
use Rattle.ocl_pipeline.specs.declared.refusal.Refusal.TheVariants.{Model, Delivery, Text, Types, Compile, Code, Verify, Cost, Script}
use Rattle.ocl_pipeline.specs.Refusals.{refusal_line}
use Rattle.ocl_pipeline.specs.TextReading.{TextFaultAt}
use Rattle.ocl_pipeline.specs.CompiledRules.{TextRefusal, InText, InTypes, InCode}
use Rattle.ocl_check.specs.declared.reply.Reply as reply

-- the bytes printed, and the status
abbrev pub Answer : Type 0
Answer = List ℕ × ℕ

abbrev pub said : reply.Reply → Answer
said r = (string_bytes r.text, r.status)

-- the line of a refused input, and status 2
abbrev pub refused : Refusal → Answer
refused r = (refusal_line r, 2)

abbrev pub refused_model : ModelFault → Answer
refused_model e = refused (Model e)

abbrev pub refused_delivery : DeliveryFault → Answer
refused_delivery e = refused (Delivery e)

abbrev pub refused_text : TextFaultAt → Answer
refused_text f = refused (Text f.flaw f.offset)

abbrev pub refused_types : RulesFaultAt → Answer
refused_types f = refused (Types f.flaw f.rule f.offset)

abbrev pub refused_compile : LimitAt → Answer
refused_compile l = refused (Compile l.limit l.rule)

-- a rule text whose rules aren't compiled
abbrev pub refused_rules : TextRefusal → Answer
refused_rules (InText f) = refused_text f
refused_rules (InTypes f) = refused_types f
refused_rules (InCode l) = refused_compile l

abbrev pub refused_code : CodeFaultAt → Answer
refused_code l = refused (Code l.flaw l.offset)

abbrev pub refused_verify : InstrFault → Answer
refused_verify f = refused (Verify f.flaw f.rule f.at)

-- a rule whose bound is over, or above the budget
abbrev pub refused_cost : ℕ → Answer
refused_cost r = refused (Cost r)

-- a script whose first wrong line is this one, from 1
abbrev pub refused_script : ℕ → Answer
refused_script line = refused (Script line)

-- code that is accepted, by the number of its rules
abbrev pub accepted_reply : ℕ → Answer
accepted_reply n = (codes "accepted " ++ (decimal n ++ 10 ∷ []), 0)

-- a rule text that is compiled, by the number of its rules
abbrev pub compiled_reply : ℕ → Answer
compiled_reply n = (codes "compiled " ++ (decimal n ++ 10 ∷ []), 0)

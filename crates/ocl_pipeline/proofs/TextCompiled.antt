-- What the rules of a text are compiled to, by what each step returned.
use Rattle.std.proofs.Common.{◌≡◌, ℕ, List, Result, Ok, Err, IfOk, IfErr, refl, sym, ap, ◌∙◌, subst}
use Rattle.std.specs.List.{AllByRecursion}
use Rattle.ocl_base.specs.Steps.{◌>>=◌, Fails}
use Rattle.ocl_base.proofs.ForAbove.{both_steps, ok_is, not_okay}
use Rattle.imkl_model.specs.ClassModel.{Model}
use Rattle.imkl_model.specs.WellFormed.{IsClassModel}
use Rattle.ocl_text.specs.Tree.{Rule}
use Rattle.ocl_core.specs.Core.{CheckedRule}
use Rattle.ocl_types.specs.AllRules.{RulesFaultAt, elaborate_rules}
use Rattle.ocl_core.specs.Typing.{IsTypedRule}
use Rattle.ocl_tokens.specs.declared.fault.TextFault.{TextFault}
use Rattle.ocl_tokens.specs.declared.fault.TextFault.TheVariants as text
use Rattle.rule_code.specs.Content.{Content}
use Rattle.ocl_compile.specs.Compiling.{LimitAt, compile_of}
use Rattle.ocl_compile.proofs.ForAbove.{compiled_is_accepted}
use Rattle.ocl_pipeline.specs.declared.stopped.Stopped.{Stopped}
use Rattle.ocl_pipeline.specs.TextReading.{TextReading, IsFaultRead, ReadsAs, text_fault_at}
use Rattle.ocl_pipeline.specs.CompiledRules.{CompiledRules, rules_with, TextRefusal, InText, InTypes, InCode, in_text, in_types, in_code, compiled_rules, IsUnitOf}
use Rattle.ocl_pipeline.specs.TypedRules.{AreRulesOf, AreRefusedFor}
use Rattle.ocl_pipeline.specs.Stops.{stopped, text_stop}
use Rattle.ocl_pipeline.specs.Steps.{accepted_in, text_in}
use Rattle.ocl_pipeline.proofs.Stopping.{only_memory, unit_accepted}

module _ (m : Model) (rules : List Rule) where
  abbrev after_types : Result (List CheckedRule) RulesFaultAt → Result CompiledRules TextRefusal
  after_types o = in_types o >>= (λ typed. in_code typed (compile_of m typed))

  -- typed rules are compiled
  pub rules_compiled : (rs : List CheckedRule) (u : Content) → elaborate_rules m 0 rules ≡ Ok rs → compile_of m rs ≡ Ok u → compiled_rules m (Ok rules) ≡ Ok (rules_with rs u)
  rules_compiled rs u typed compiled = ap after_types typed ∙ ap (in_code rs) compiled

-- a flaw of the text is the refusal of its rules
pub flawed_text : (m : Model) (bytes : List ℕ) (e : TextFault) → ((t : TextReading) × ReadsAs bytes t) → IsFaultRead bytes e → (t : TextReading) × ReadsAs bytes t × Fails stopped (text_stop e) (text_in m t)
flawed_text m bytes (text.At flaw offset) some read = (Err (text_fault_at flaw offset), read, refl)
flawed_text m bytes text.OutOfMemory some read = (some.0, some.1, tt)

-- ---- compiled texts

text_is : (t : TextReading) (rules : List Rule) → in_text t ≡ Ok rules → t ≡ Ok rules
text_is (Ok rs) rules e = ap Ok (ok_is rs rules e)
text_is (Err f) rules e = absurd (not_okay (InText f) rules e)

-- rules that have types
pub types_are : (o : Result (List CheckedRule) RulesFaultAt) (rs : List CheckedRule) → in_types o ≡ Ok rs → o ≡ Ok rs
types_are (Ok xs) rs e = ap Ok (ok_is xs rs e)
types_are (Err f) rs e = absurd (not_okay (InTypes f) rs e)

-- rules and their code
pub code_is : (rs : List CheckedRule) (o : Result Content LimitAt) (c : CompiledRules) → in_code rs o ≡ Ok c → (rs ≡ c.rules) × (o ≡ Ok c.unit)
code_is rs (Ok u) c e = let same = ok_is (rules_with rs u) c e in (ap (λ (x : CompiledRules). x.rules) same, ap (λ (x : CompiledRules). Ok x.unit) same)
code_is rs (Err l) c e = absurd (not_okay (InCode l) c e)

-- the rules of a compiled text have types, and are what is compiled
pub compiled_parts : (m : Model) (t : TextReading) (c : CompiledRules) → compiled_rules m t ≡ Ok c → AreRulesOf m t c.rules × (compile_of m c.rules ≡ Ok c.unit)
compiled_parts m t c e =
    let a = both_steps (in_text t) (λ rules. in_types (elaborate_rules m 0 rules) >>= (λ typed. in_code typed (compile_of m typed))) c e in
    let b = both_steps (in_types (elaborate_rules m 0 a.0)) (λ typed. in_code typed (compile_of m typed)) c a.2 in
    let d = code_is b.0 (compile_of m b.0) c b.2 in (
      (a.0, text_is t a.0 a.1, types_are (elaborate_rules m 0 a.0) b.0 b.1 ∙ ap Ok d.0),
      subst (λ (rs : List CheckedRule). compile_of m rs ≡ Ok c.unit) d.0 d.1,
    )

-- ---- typed rules of a text

-- rules that have types are those of their text
pub rules_typed : (m : Model) (rules : List Rule) (rs : List CheckedRule) → elaborate_rules m 0 rules ≡ Ok rs → AreRulesOf m (Ok rules) rs
rules_typed m rules rs typed = (rules, refl, typed)

-- what they are compiled to is the unit of each of their texts
pub text_compiled : (m : Model) (t : TextReading) (rs : List CheckedRule) (u : Content) → AreRulesOf m t rs → compile_of m rs ≡ Ok u → compiled_rules m t ≡ Ok (rules_with rs u)
text_compiled m t rs u (rules, read, typed) compiled = ap (compiled_rules m) read ∙ rules_compiled m rules rs u typed compiled

-- so what is returned for typed rules is their unit, or why each of their texts is refused
pub unit_of_rules : {A E : Type 0} (unit : A → Content) (why : E → Stopped) (result : Result A E) (m : Model) (t : TextReading) (rs : List CheckedRule) → AreRulesOf m t rs
    → IfOk result (λ a. compile_of m rs ≡ Ok (unit a)) → IfErr result (λ e. AreRefusedFor m rs (why e))
    → IfOk result (λ a. IsUnitOf m t (unit a)) × IfErr result (λ e. Fails stopped (why e) (text_in m t))
unit_of_rules unit why (Ok a) m t rs are compiled refused = ((rs, text_compiled m t rs (unit a) are compiled), tt)
unit_of_rules unit why (Err e) m t rs are compiled refused = (tt, refused t are)

-- the unit of typed rules is accepted, so accepting it fails only for want of memory
pub accepting_fails : (m : Model) (rs : List CheckedRule) (u : Content) (why : Stopped) → IsClassModel m → AllByRecursion (IsTypedRule m) rs → compile_of m rs ≡ Ok u
    → Fails stopped why (accepted_in m u) → AreRefusedFor m rs why
accepting_fails m rs u why model typed compiled refused t are =
    only_memory why u (text_in m t) (subst (Fails stopped why) (unit_accepted m u (compiled_is_accepted m rs u model typed compiled)) refused)

-- Code that is accepted in a class model without old names uses present names alone.
use Rattle.std.proofs.Common.{◌≡◌, ℕ, ◌+◌, true, false, List, [], ◌∷◌, ◌++◌, All, Option, Some, None, Result, Ok, is_some, refl, subst, option_and_then, append-nil, bytes_eq, sym, arith}
use Rattle.std.specs.List.{list_all}
use Rattle.std.specs.Prelude.{slice_get}
use Rattle.std.proofs.lemmas.Bool.{and_parts}
use Rattle.std.proofs.lemmas.List.Elements.{All-nil, All-cons}
use Rattle.ocl_base.specs.Lists.{repeats}
use Rattle.ocl_base.specs.Steps.{◌>>=◌, check, found}
use Rattle.ocl_base.proofs.ForAbove.{both_steps, found_is}
use Rattle.imkl_model.specs.ClassModel.{Model, no_renames}
use Rattle.imkl_model.specs.WellFormed.{IsModelName, type_names, ArePaired, IsClassModel}
use Rattle.ocl_kinds.specs.declared.kind.Kind.{Kind}
use Rattle.rule_code.specs.declared.symbol.Symbol.{Symbol}
use Rattle.rule_code.specs.declared.instruction.Instr.{Instr}
use Rattle.rule_code.specs.Content.{RuleContent}
use Rattle.rule_verify.specs.declared.fault.VerifyFlaw.TheVariants as flaws
use Rattle.rule_verify.specs.declared.named.Named.{Named}
use Rattle.rule_verify.specs.Symbols.{names_in, named_in, named_by, named_at, class_in}
use Rattle.rule_verify.specs.Laws.{SymbolsNameAsWritten}
use Rattle.rule_verify.specs.CodeTree.{CodeTree, End, Plain, Block, Branch, Torn, instr_count, code_tree}
use Rattle.rule_verify.specs.InstrKinds.{Surroundings, surroundings, symbols_used, has_names, block_operand, binds, ends_with, yields}
use Rattle.rule_verify.specs.KindRules.{InstrFault, instr_fault, Enclosing, in_block, taken, after_plain, opened, ended_with, kinds_after, rule_ends}
use Rattle.rule_verify.specs.UnitRules.{context_class, check_rule, check_rules, IsAcceptedUnit}
use Rattle.old_name_laws.specs.OldNames.{with_old_names}
use Rattle.old_name_laws.proofs.Symbols.{Case, Agrees, IsAlike, RuleAgrees, SymbolsStayIn, agrees}
use Rattle.old_name_laws.proofs.Trees.{AllIn}
use Rattle.old_name_laws.proofs.Present.{check_is}

-- the class model without old names
abbrev pub bare : Case → Model
bare x = with_old_names no_renames x.model

class_there : (o : Option Named) (c : ℕ) → class_in o ≡ Some c → is_some o ≡ true
class_there None c h = cc
class_there (Some n) c h = refl

module _ (x : Case) (stable : SymbolsStayIn x) (as_written : SymbolsNameAsWritten (bare x)) where
  written : (o : Option Symbol) → is_some (option_and_then (named_by (bare x) x.unit.texts) o) ≡ true
      → is_some (option_and_then (λ s. named_in x.model (names_in x.unit.texts s)) o) ≡ true
  written None h = h
  written (Some s) h = subst (λ (o : Option Named). is_some o ≡ true) (as_written x.unit.texts s) h

  is_present : (k : ℕ) → is_some (named_at (bare x) x.unit k) ≡ true → Agrees x k
  is_present k h = agrees x stable k (written (slice_get x.unit.symbols k) h)

  all_present : (ks : List ℕ) → list_all (λ k. is_some (named_at (bare x) x.unit k)) ks ≡ true → All (Agrees x) ks
  all_present [] h = All-nil (Agrees x)
  all_present (k ∷ ks) h =
      let both = and_parts (is_some (named_at (bare x) x.unit k)) (list_all (λ n. is_some (named_at (bare x) x.unit n)) ks) h in
      All-cons (Agrees x) k ks (is_present k both.0) (all_present ks both.1)

  -- ---- code

  module _ (n c : ℕ) where
    abbrev s : Surroundings
    s = surroundings (bare x) x.unit n c

    names_taken : (vars : List Kind) (i : Instr) (at : ℕ) (ks y : List Kind) → taken s vars i at ks ≡ Ok y → IsAlike x i
    names_taken vars i at ks y h =
        let a = both_steps (check (has_names s i) (instr_fault flaws.NoSuchName n at)) _ y h in
        all_present (symbols_used i) (check_is (has_names s i) (instr_fault flaws.NoSuchName n at) a.0 a.1)

    plain_taken : (e : Enclosing) (i : Instr) (at : ℕ) (ks y : List Kind) → after_plain s e i at ks ≡ Ok y → IsAlike x i
    plain_taken e i at ks y h = let a = both_steps (taken s e.variables i at ks) _ y h in names_taken e.variables i at ks a.0 a.1

    block_taken : (e : Enclosing) (i : Instr) (at : ℕ) (ks y : List Kind) → opened s e i at ks ≡ Ok y → IsAlike x i
    block_taken e i at ks y h = let a = both_steps (taken s e.variables i at ks) _ y h in names_taken e.variables i at ks a.0 a.1

    covered : (tree : CodeTree) (e : Enclosing) (at : ℕ) (ks y : List Kind) → kinds_after s tree e at ks ≡ Ok y → AllIn (IsAlike x) tree
    covered End e at ks y h = tt
    covered (Plain i rest) e at ks y h =
        let a = both_steps (after_plain s e i at ks) _ y h in
        (plain_taken e i at ks a.0 a.1, covered rest e (at + 1) a.0 y a.2)
    covered (Block i body rest) e at ks y h =
        let a = both_steps (opened s e i at ks) _ y h in
        let inner : Enclosing = in_block e (binds s i (block_operand i ks) ++ e.variables) a.0 in
        let b = both_steps (kinds_after s body inner (at + 1) []) _ y a.2 in
        let d = both_steps (ended_with s (ends_with s i) at b.0) _ y b.2 in (
          block_taken e i at ks a.0 a.1,
          covered body inner (at + 1) [] b.0 b.1,
          covered rest e (at + 1 + instr_count body) (yields s i (block_operand i ks) d.0 ∷ a.0) y d.2,
        )
    covered (Branch i first second rest) e at ks y h =
        let a = both_steps (opened s e i at ks) _ y h in
        let inner : Enclosing = in_block e e.variables a.0 in
        let more : Kind → Result (List Kind) InstrFault =
        λ r. kinds_after s rest e (at + 1 + instr_count first + instr_count second) (yields s i (block_operand i ks) r ∷ a.0) in
        let b = both_steps (kinds_after s first inner (at + 1) []) _ y a.2 in
        let d = both_steps (ended_with s (ends_with s i) at b.0)
        (λ r. kinds_after s second inner (at + 1 + instr_count first) [] >>= λ others. ended_with s (ends_with s i) at others >>= λ _. more r) y b.2 in
        let f = both_steps (kinds_after s second inner (at + 1 + instr_count first) []) (λ others. ended_with s (ends_with s i) at others >>= λ _. more d.0) y d.2 in
        let g = both_steps (ended_with s (ends_with s i) at f.0) (λ _. more d.0) y f.2 in (
          block_taken e i at ks a.0 a.1,
          covered first inner (at + 1) [] b.0 b.1,
          covered second inner (at + 1 + instr_count first) [] f.0 f.1,
          covered rest e (at + 1 + instr_count first + instr_count second) (yields s i (block_operand i ks) d.0 ∷ a.0) y g.2,
        )
    covered (Torn i left) e at ks y h =
        let a = both_steps (taken s e.variables i at ks) _ y h in names_taken e.variables i at ks a.0 a.1

  -- ---- units

  one_agrees : (n : ℕ) (r : RuleContent) → check_rule (bare x) x.unit n r ≡ Ok tt → RuleAgrees x r
  one_agrees n r h =
      let a = both_steps (found (context_class (bare x) x.unit r) (instr_fault flaws.NoSuchName n 0)) _ tt h in
      let b = both_steps (rule_ends (surroundings (bare x) x.unit n a.0) (code_tree r.code)) _ tt a.2 in
      let d = both_steps (kinds_after (surroundings (bare x) x.unit n a.0) (code_tree r.code) _ 0 []) _ b.0 b.1 in
      record {
        context = is_present r.context (class_there (named_at (bare x) x.unit r.context) a.0 (found_is (context_class (bare x) x.unit r) (instr_fault flaws.NoSuchName n 0) a.0 a.1));
        code = covered n a.0 (code_tree r.code) _ 0 [] d.0 d.1;
      }

  all_agree : (n : ℕ) (rs : List RuleContent) → check_rules (bare x) x.unit n rs ≡ Ok tt → All (RuleAgrees x) rs
  all_agree n [] h = All-nil (RuleAgrees x)
  all_agree n (r ∷ rs) h =
      let a = both_steps (check_rule (bare x) x.unit n r) _ tt h in
      All-cons (RuleAgrees x) r rs (one_agrees n r a.1) (all_agree (n + 1) rs a.2)

  -- the symbols of a unit that is accepted without old names name one thing in both
  pub accepted_agrees : IsAcceptedUnit (bare x) x.unit → All (RuleAgrees x) x.unit.rules
  accepted_agrees h = all_agree 0 x.unit.rules h

-- ---- without old names a class model is still one

paired : (m : Model) (f g : ℕ) → ArePaired m f g → ArePaired (with_old_names no_renames m) f g
paired m f g h = record {
  next = h.next;
  within = h.within;
  source_role = h.source_role;
  opposite_role = h.opposite_role;
  source_element = h.source_element;
  opposite_element = h.opposite_element;
}

pub bare_is_class_model : (m : Model) → IsClassModel m → IsClassModel (with_old_names no_renames m)
bare_is_class_model m w = record {
  few_classes = w.few_classes;
  few_enumerations = w.few_enumerations;
  few_literals = w.few_literals;
  few_features = w.few_features;
  few_renames = omega arith;
  title = w.title;
  named_types = w.named_types;
  named_literals = w.named_literals;
  named_features = w.named_features;
  named_associations = w.named_associations;
  named_old_classes = All-nil IsModelName;
  named_old_features = λ i lt. absurd (omega arith);
  types_differ = w.types_differ;
  types_defined = w.types_defined;
  literals_differ = w.literals_differ;
  associations_differ = w.associations_differ;
  known_supers = w.known_supers;
  supers_differ = w.supers_differ;
  acyclic = w.acyclic;
  known_owners = w.known_owners;
  known_classes = w.known_classes;
  known_enumerations = w.known_enumerations;
  scalar_attributes = w.scalar_attributes;
  lower_bounds = w.lower_bounds;
  upper_bounds = w.upper_bounds;
  unique_ends = w.unique_ends;
  single_values = w.single_values;
  sources = λ f g lt role. paired m f g (w.sources f g lt role);
  opposites = λ f g lt role. paired m g f (w.opposites f g lt role);
  one_feature = w.one_feature;
  old_classes_differ = subst (λ (names : List (List ℕ)). repeats bytes_eq names ≡ false) (sym (append-nil (type_names m))) w.types_differ;
  old_classes_defined = refl;
  renamed_classes = λ i lt. absurd (omega arith);
  renamed_features = λ i lt. absurd (omega arith);
  renamed_owners = λ i lt. absurd (omega arith);
  old_or_present = λ c i f lt. absurd (omega arith);
  one_old_feature = λ c i j lt. absurd (omega arith);
}

-- A symbol of present names names one thing, whatever old names there are.
use Rattle.std.proofs.Common.{◌≡◌, ◌∙◌, ℕ, List, [], ◌∷◌, ◌++◌, All, IsSome, Option, Some, None, refl, sym, flat_map}
use Rattle.std.specs.Prelude.{slice_get, option_and_then}
use Rattle.std.proofs.lemmas.List.Elements.{All-head, All-tail, All-nil, All-cons, All-weaker}
use Rattle.imkl_model.specs.ClassModel.{Model, Renames}
use Rattle.imkl_population.specs.declared.object.Object.{Object}
use Rattle.imkl_population.specs.Population.{Population}
use Rattle.rule_code.specs.declared.symbol.Symbol.{Symbol}
use Rattle.rule_code.specs.declared.instruction.Instr.{Instr}
use Rattle.rule_code.specs.Content.{Content, RuleContent}
use Rattle.rule_verify.specs.declared.named.Named.{Named}
use Rattle.rule_verify.specs.Symbols.{names_in, named_in, named_by, named_at}
use Rattle.rule_verify.specs.InstrKinds.{symbols_used}
use Rattle.rule_verify.specs.Laws.{PresentSymbolsStay}
use Rattle.rule_verify.specs.CodeTree.{code_tree}
use Rattle.old_name_laws.specs.OldNames.{with_old_names}
use Rattle.old_name_laws.specs.UsedNames.{named_as_written, rule_symbols, RuleUsesPresentNames}
use Rattle.old_name_laws.proofs.Trees.{AllIn, in_tree}

-- a class model, other old names for it, and a unit
pub record Case : Type 0 where
  pub model : Model
  pub renames : Renames
  pub unit : Content

-- the class model with the other old names
abbrev pub other : Case → Model
other x = with_old_names x.renames x.model

-- populations with the same objects, of the class model and of the other
abbrev pub in_one : Case → List Object → Population
in_one x objects = record { model = x.model; objects = objects }

abbrev pub in_other : Case → List Object → Population
in_other x objects = record { model = other x; objects = objects }

-- a symbol names one thing in both
abbrev pub Agrees : Case → ℕ → Type 0
Agrees x k = named_at (other x) x.unit k ≡ named_at x.model x.unit k

-- each symbol of an instruction does
abbrev pub IsAlike : Case → Instr → Type 0
IsAlike x i = All (Agrees x) (symbols_used i)

-- in both a symbol of present names names what its names name
pub record SymbolsStayIn (x : Case) : Type 0 where
  pub first : PresentSymbolsStay x.model
  pub second : PresentSymbolsStay (other x)

by_name : (x : Case) → SymbolsStayIn x → (s : Symbol) (o : Option Named) → named_in x.model (names_in x.unit.texts s) ≡ o → IsSome o
    → named_by (other x) x.unit.texts s ≡ named_by x.model x.unit.texts s
by_name x stable s None is there = cc
by_name x stable s (Some y) is there = stable.second x.unit.texts s y is ∙ sym (stable.first x.unit.texts s y is)

by_symbol : (x : Case) → SymbolsStayIn x → (o : Option Symbol) → IsSome (option_and_then (λ s. named_in x.model (names_in x.unit.texts s)) o)
    → option_and_then (named_by (other x) x.unit.texts) o ≡ option_and_then (named_by x.model x.unit.texts) o
by_symbol x stable None there = refl
by_symbol x stable (Some s) there = by_name x stable s (named_in x.model (names_in x.unit.texts s)) refl there

-- so such a symbol names one thing
pub agrees : (x : Case) → SymbolsStayIn x → (k : ℕ) → IsSome (named_as_written x.model x.unit k) → Agrees x k
agrees x stable k there = by_symbol x stable (slice_get x.unit.symbols k) there

-- ---- the symbols of a rule

all_front : {X : Type 0} (P : X → Type 0) (xs ys : List X) → All P (xs ++ ys) → All P xs
all_front P [] ys h = All-nil P
all_front P (x ∷ xs) ys h = All-cons P x xs (All-head P x (xs ++ ys) h) (all_front P xs ys (All-tail P x (xs ++ ys) h))

all_back : {X : Type 0} (P : X → Type 0) (xs ys : List X) → All P (xs ++ ys) → All P ys
all_back P [] ys h = h
all_back P (x ∷ xs) ys h = all_back P xs ys (All-tail P x (xs ++ ys) h)

-- what holds of all that a list's elements have holds of what each has
all_parts : {X Y : Type 0} (P : Y → Type 0) (f : X → List Y) (xs : List X) → All P (flat_map f xs) → All (λ x. All P (f x)) xs
all_parts P f [] h = All-nil (λ x. All P (f x))
all_parts P f (x ∷ xs) h = All-cons (λ y. All P (f y)) x xs (all_front P (f x) (flat_map f xs) h) (all_parts P f xs (all_back P (f x) (flat_map f xs) h))

-- the same of the last of a row's fields
pub all_alone : {X : Type 0} (P : X → Type 0) (xs : List X) → All P (xs ++ []) → All P xs
all_alone P xs h = all_front P xs [] h

-- those of a rule's context class and of its code, as far as it nests
pub record RuleAgrees (x : Case) (r : RuleContent) : Type 0 where
  pub context : Agrees x r.context
  pub code : AllIn (IsAlike x) (code_tree r.code)

-- and so do the symbols of a rule that uses present names
pub rule_agrees : (x : Case) → SymbolsStayIn x → (r : RuleContent) → RuleUsesPresentNames x.model x.unit r → RuleAgrees x r
rule_agrees x stable r h =
    let all : All (Agrees x) (rule_symbols r) = All-weaker (λ k. IsSome (named_as_written x.model x.unit k)) (Agrees x) (agrees x stable) (rule_symbols r) h in
    record {
      context = All-head (Agrees x) r.context (flat_map symbols_used r.code) all;
      code = in_tree (IsAlike x) r.code (all_parts (Agrees x) symbols_used r.code (All-tail (Agrees x) r.context (flat_map symbols_used r.code) all));
    }

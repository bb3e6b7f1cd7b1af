-- The version of compiled rules has their instructions.
use Rattle.std.proofs.Common.{◌≡◌, Bool, true, false, ◌||◌, List, [], ◌∷◌, map, refl, ap, if◌then◌else◌}
use Rattle.std.specs.List.{AllByRecursion, list_any}
use Rattle.rule_code.specs.declared.instruction.Instr.{Instr}
use Rattle.rule_code.specs.declared.instruction.Instr.TheVariants as instrs
use Rattle.rule_code.specs.declared.version.Version.{Version}
use Rattle.rule_code.specs.declared.version.Version.TheVariants as versions
use Rattle.rule_code.specs.declared.unit.Rule.{Rule}
use Rattle.rule_code.specs.Content.{RuleContent, rule_content}
use Rattle.rule_code.specs.FileVersion.{has_instr}
use Rattle.ocl_compile.specs.Translation.{is_fold, version_of}
use Rattle.ocl_compile.specs.CompileWalk.{version_for}
use Rattle.ocl_compile.proofs.Added.{or_parts}

-- a version has all instructions of a rule
abbrev pub HasInstrs : Version → RuleContent → Type 0
HasInstrs v r = AllByRecursion (λ i. has_instr v i ≡ true) r.code

second_has : (i : Instr) → has_instr versions.Two i ≡ true
second_has (instrs.Fold k len) = refl
second_has i = refl

has_others : (v : Version) (i : Instr) → is_fold i ≡ false → has_instr v i ≡ true
has_others v (instrs.Fold k len) e = cc
has_others v i e = refl

second_has_all : (code : List Instr) → AllByRecursion (λ i. has_instr versions.Two i ≡ true) code
second_has_all [] = tt
second_has_all (i ∷ code) = (second_has i, second_has_all code)

has_all_others : (v : Version) (code : List Instr) → list_any is_fold code ≡ false → AllByRecursion (λ i. has_instr v i ≡ true) code
has_all_others v [] e = tt
has_all_others v (i ∷ code) e = let p = or_parts (is_fold i) (list_any is_fold code) e in (has_others v i p.0, has_all_others v code p.1)

abbrev folds : RuleContent → Bool
folds r = list_any is_fold r.code

second_has_rules : (rs : List RuleContent) → AllByRecursion (HasInstrs versions.Two) rs
second_has_rules [] = tt
second_has_rules (r ∷ rs) = (second_has_all r.code, second_has_rules rs)

has_other_rules : (v : Version) (rs : List RuleContent) → list_any folds rs ≡ false → AllByRecursion (HasInstrs v) rs
has_other_rules v [] e = tt
has_other_rules v (r ∷ rs) e = let p = or_parts (folds r) (list_any folds rs) e in (has_all_others v r.code p.0, has_other_rules v rs p.1)

-- the version of rules has the instructions of each of them
pub version_has : (rs : List RuleContent) → AllByRecursion (HasInstrs (version_of rs)) rs
version_has rs = by (list_any folds rs) refl
  where
    by : (b : Bool) → list_any folds rs ≡ b → AllByRecursion (HasInstrs (if b then versions.Two else versions.One)) rs
    by true e = second_has_rules rs
    by false e = has_other_rules versions.One rs e

-- the version that written rules need is that of what they hold
any_written : (rs : List Rule) → list_any (λ r. list_any is_fold r.code.items) rs ≡ list_any folds (map rule_content rs)
any_written [] = refl
any_written (r ∷ rs) = ap (λ b. list_any is_fold r.code.items || b) (any_written rs)

pub version_written : (rs : List Rule) → version_for rs ≡ version_of (map rule_content rs)
version_written rs = ap (λ (b : Bool). if b then versions.Two else versions.One) (any_written rs)

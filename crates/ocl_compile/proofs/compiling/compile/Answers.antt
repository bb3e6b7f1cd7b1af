use Rattle.std.proofs.Common.{◌≡◌, [], map, true, Option, None, sym, ap, ◌∙◌, subst}
use Rattle.std.specs.Str.{is_utf8}
use Rattle.std.specs.List.{AllByRecursion}
use Rattle.ocl_core.specs.CoreView.{checked_rule_of}
use Rattle.rule_code.specs.Content.{Content}
use Rattle.rule_code.specs.WellFormed.{IsUnit}
use Rattle.ocl_compile.specs.Numbering.{Numbering}
use Rattle.ocl_compile.specs.Translation.{translate_rules}
use Rattle.ocl_compile.specs.Compiling.{LimitAt, unless_passed}
use Rattle.ocl_compile.specs.CompileWalk.{version_for, IsCodable}
use Rattle.ocl_compile.specs.NumberWalk.{IsNamedIn}
use Rattle.ocl_compile.proofs.UnitFits.{unit_fits}
use Rattle.ocl_compile.proofs.Versions.{version_written}
use Rattle.ocl_compile.proofs.UnitMade.{numbered_are, are_codable, are_named, strings_are_utf8, unit_is}
use Rattle.ocl_compile.proofs.compiling.compile.Goals as goal

-- src/compiling.rt
pub code_rules-requires : goal.code_rules-requires
code_rules-requires c =
    let m = c.args.model.now in
    let rs = map checked_rule_of c.args.rules.now in
    let p = numbered_are m rs c.in_ok-numbers.numbers c.in_ok-numbers.ensures in
    subst (λ (n : Numbering). AllByRecursion (IsCodable m n) rs) (sym p.1) (are_codable m rs [] rs c.requires.typed p.0)

pub unit_symbols-requires : goal.unit_symbols-requires
unit_symbols-requires c =
    let m = c.args.model.now in
    let rs = map checked_rule_of c.args.rules.now in
    let p = numbered_are m rs c.in_ok-numbers.numbers c.in_ok-numbers.ensures in
    subst (λ (n : Numbering). AllByRecursion (IsNamedIn m) n.symbols) (sym p.1) (are_named m rs c.requires.typed)

-- the unit keeps the format's conditions, since its texts are texts
pub invariant_of-result : goal.invariant_of-result
invariant_of-result c =
    let m = c.args.model.now in
    let rs = map checked_rule_of c.args.rules.now in
    let n = c.in_ok-numbers.numbers in
    let texts = c.into_texts.result.items in
    let p = numbered_are m rs n c.in_ok-numbers.ensures in
    let utf8 = subst (AllByRecursion (λ t. is_utf8 t ≡ true)) (c.into_texts.ensures ∙ ap (λ (o : Numbering). o.texts) p.1) (strings_are_utf8 texts) in
    let is = unit_is m rs n texts c.in_ok-symbols.symbols.items c.in_ok-coded.coded.items p.1 c.into_texts.ensures c.in_ok-symbols.ensures c.in_ok-coded.ensures.codes c.version_of.result (c.version_of.ensures ∙ ap version_for c.deref.ensures.value ∙ version_written c.in_ok-coded.coded.items) in
    record { is_unit = ∣ subst IsUnit (sym is) (unit_fits m rs c.requires.typed c.in_ok-coded.ensures.written c.requires.names utf8 p.0) ∣₁ }

pub returns : goal.returns
returns c =
    let m = c.args.model.now in
    let rs = map checked_rule_of c.args.rules.now in
    let n = c.in_ok-numbers.numbers in
    let p = numbered_are m rs n c.in_ok-numbers.ensures in
    let is = unit_is m rs n c.into_texts.result.items c.in_ok-symbols.symbols.items c.in_ok-coded.coded.items p.1 c.into_texts.ensures c.in_ok-symbols.ensures c.in_ok-coded.ensures.codes c.version_of.result (c.version_of.ensures ∙ ap version_for c.deref.ensures.value ∙ version_written c.in_ok-coded.coded.items) in
    ap (λ (o : Option LimitAt). unless_passed o (translate_rules m rs)) p.0 ∙ ap (λ (u : Content). unless_passed None u) (sym is)

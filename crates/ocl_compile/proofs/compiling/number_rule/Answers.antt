use Rattle.std.proofs.Common.{[], ◌∷◌, Err, refl}
use Rattle.std.proofs.lemmas.Result.{err_from_is_err_and}
use Rattle.ocl_core.specs.CoreView.{core_view}
use Rattle.rule_verify.specs.declared.named.Named.TheVariants as named
use Rattle.ocl_compile.specs.Numbering.{UsedText, UsedSymbol, tree_uses}
use Rattle.ocl_compile.proofs.Numbered.{numbered_then, stopped}
use Rattle.ocl_compile.proofs.Resolving.{tree_there}
use Rattle.ocl_compile.proofs.compiling.number_rule.Goals as goal

-- src/compiling.rt
pub returns-in_err-add_text : goal.returns-in_err-add_text
returns-in_err-add_text c =
    let m = c.args.model.now in
    let rule = c.args.rule.now in
    let p = err_from_is_err_and c.from_residual.result c.from_residual.ensures.1 in
    let name = rw c.as_str.ensures.text at c.in_err-add_text.ensures in
    rw (p.1, p.2) (stopped m _ _ _ c.args.numbers.now (UsedText rule.name ∷ []) (UsedSymbol (named.Class rule.context) ∷ tree_uses m (core_view rule.tree)) _ name refl)

pub returns-in_err-add_symbol : goal.returns-in_err-add_symbol
returns-in_err-add_symbol c =
    let m = c.args.model.now in
    let rule = c.args.rule.now in
    let p = err_from_is_err_and c.from_residual-in_err-add_symbol.result c.from_residual-in_err-add_symbol.ensures.1 in
    let e = c.in_err-add_symbol.field-0.0 in
    let later = c.add_symbol.new.self in
    let mid = c.add_text.new.self in
    let name = rw c.as_str.ensures.text at c.in_ok-add_text.ensures in
    let context = UsedSymbol (named.Class rule.context) in
    let uses = tree_uses m (core_view rule.tree) in
    let stop = stopped m e later later mid (context ∷ []) uses _ c.in_err-add_symbol.ensures refl in
    rw (p.1, p.2) (numbered_then m (Err e) later mid c.args.numbers.now (UsedText rule.name ∷ []) (context ∷ uses) _ stop name refl)

pub number_tree-requires : goal.number_tree-requires
number_tree-requires c = tree_there c.args.model.now (core_view c.args.rule.now.tree) _ c.requires.1.0 c.requires.1.1

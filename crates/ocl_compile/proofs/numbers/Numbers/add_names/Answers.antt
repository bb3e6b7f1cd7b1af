use Rattle.std.proofs.Common.{ℕ, List, [], ◌∷◌, sym, ap, ◌∙◌}
use Rattle.std.proofs.lemmas.Result.{err_from_is_err_and}
use Rattle.imkl_model.specs.ClassModel.{feature_at}
use Rattle.ocl_compile.specs.Numbering.{literal_name, names_of_symbol}
use Rattle.ocl_compile.proofs.Added.{stopped_text}
use Rattle.ocl_compile.proofs.numbers.Numbers.add_names.Goals as goal

-- src/numbers.rt
pub returns-in_err-add_text-in-Feature : goal.returns-in_err-add_text-in-Feature
returns-in_err-add_text-in-Feature c =
    let m = c.args.model.now in
    let p = err_from_is_err_and c.from_residual.result c.from_residual.ensures.1 in
    let name = (feature_at m c.in-Feature.feature).name in
    let names = ap (names_of_symbol m) c.in-Feature.is ∙ ap (λ (t : List ℕ). t ∷ name ∷ []) (sym c.class_name-in-Feature.ensures) in
    rw (p.1, p.2) (stopped_text _ _ _ c.args.self.now.symbols c.args.self.now.texts _ (name ∷ []) _ c.in_err-add_text-in-Feature.ensures names)

pub returns-in_err-add_text-in-Literal : goal.returns-in_err-add_text-in-Literal
returns-in_err-add_text-in-Literal c =
    let m = c.args.model.now in
    let p = err_from_is_err_and c.from_residual-in_err-add_text-in-Literal.result c.from_residual-in_err-add_text-in-Literal.ensures.1 in
    let name = literal_name m c.in-Literal.enumeration c.in-Literal.literal in
    let names = ap (names_of_symbol m) c.in-Literal.is ∙ ap (λ (t : List ℕ). t ∷ name ∷ []) (sym c.enum_name-in-Literal.ensures) in
    rw (p.1, p.2) (stopped_text _ _ _ c.args.self.now.symbols c.args.self.now.texts _ (name ∷ []) _ c.in_err-add_text-in-Literal.ensures names)

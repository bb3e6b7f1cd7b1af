use Rattle.std.proofs.Common.{◌≡◌, ◌∙◌, ℕ, List, length, ap, sym, subst}
use Rattle.std.proofs.lemmas.List.{length-map}
use Rattle.std.proofs.lemmas.Result.{err_from_is_err_and}
use Rattle.imkl_model.specs.declared.entry.Class.{Class}
use Rattle.imkl_model.specs.declared.numbering.Scope.{Scope}
use Rattle.imkl_model.specs.ClassModel.{names_of_enumerations, supers_in}
use Rattle.imkl_model.specs.Tables.{AreWithin}
use Rattle.imkl_model.proofs.Parts.{differs, classes_differ, enumerations_differ, class_names_are, supers_within, rows_within, enumeration_names_kept}
use Rattle.imkl_model.proofs.draft.draft_of.Goals as goal

pub scope_of-requires-clause-classes : goal.scope_of-requires-clause-classes
scope_of-requires-clause-classes c = classes_differ c.args.written.now c.requires.distinct

pub scope_of-requires-clause-enumerations : goal.scope_of-requires-clause-enumerations
scope_of-requires-clause-enumerations c = enumerations_differ c.args.written.now c.requires.distinct

pub enumerations_of-requires : goal.enumerations_of-requires
enumerations_of-requires c = rw c.as_slice-2.ensures (differs c.args.written.now c.requires.distinct).literals

pub new-requires-2-clause-names : goal.new-requires-2-clause-names
new-requires-2-clause-names c = class_names_are c.args.written.now c.in_ok-scope.scope c.in_ok-classes.classes.items c.in_ok-scope.ensures (rw c.as_slice.ensures at c.in_ok-classes.ensures)

pub new-requires-2-clause-supers : goal.new-requires-2-clause-supers
new-requires-2-clause-supers c =
    let scope = c.in_ok-scope.scope in
    let classes = c.in_ok-classes.classes.items in
    let names = class_names_are c.args.written.now scope classes c.in_ok-scope.ensures (rw c.as_slice.ensures at c.in_ok-classes.ensures) in
    let long : length scope.classes ≡ length classes = ap (λ (l : List (List ℕ)). length l) names ∙ length-map classes (λ (k : Class). k.name) in
    subst (λ (n : ℕ). AreWithin n (supers_in classes)) long (rows_within (length scope.classes) classes (supers_within scope c.as_slice.result.now classes c.in_ok-classes.ensures))

pub new-enumerations-requires : goal.new-enumerations-requires
new-enumerations-requires c =
    let kept = rw c.as_slice-2.ensures at c.in_ok-enumerations.ensures in
    ap (λ (s : Scope). s.enumerations) c.in_ok-scope.ensures ∙ sym (enumeration_names_kept c.args.written.now.enumerations) ∙ ap names_of_enumerations (sym kept)

pub returns-in_err-associations : goal.returns-in_err-associations
returns-in_err-associations c = let p = err_from_is_err_and c.from_residual-in_err-associations.result c.from_residual-in_err-associations.ensures.1 in rw (p.1, p.2) tt

pub returns-in_err-name : goal.returns-in_err-name
returns-in_err-name c = let p = err_from_is_err_and c.from_residual-in_err-name.result c.from_residual-in_err-name.ensures.1 in rw (p.1, p.2) tt

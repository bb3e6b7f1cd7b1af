use Rattle.std.proofs.Common.{◌∙◌, ◌<◌, List, [], length, map, Option, Some, option_map, ℕ, sym, ap, subst}
use Rattle.imkl_model.specs.declared.entry.FeatureRename.{FeatureRename}
use Rattle.imkl_model.specs.declared.feature.FeatureInfo.{FeatureInfo}
use Rattle.imkl_model.specs.ClassModel.{Renames, feature_number}
use Rattle.imkl_model.specs.Renames.{feature_rename_at}
use Rattle.imkl_model.specs.Held.{alias_of}
use Rattle.imkl_model.specs.Groups.{model_with, model_renaming, AreDistinct}
use Rattle.imkl_model.proofs.Links.{alias_number, feature_entry}
use Rattle.imkl_model.proofs.rename_table.RenameTable.feature.Goals as goal

pub feature_of-requires-clause-distinct : goal.feature_of-requires-clause-distinct
feature_of-requires-clause-distinct c =
    let held = c.self.invariant.aliases ∙ ap (λ (r : Renames). map alias_of r.features) c.self.view_is in
    subst (λ (fs : List FeatureInfo). AreDistinct c.args.classes.now fs) (sym held) c.requires.distinct

pub returns-in_err-alias : goal.returns-in_err-alias
returns-in_err-alias c =
    let m = model_renaming c.args.classes.now [] c.args.self.now in
    let held = c.self.invariant.aliases ∙ ap (λ (r : Renames). map alias_of r.features) c.self.view_is in
    let is = c.feature_of.ensures ∙ ap (λ (fs : List FeatureInfo). feature_number (model_with c.args.classes.now fs) c.args.class c.args.name.now) held ∙ alias_number c.args.classes.now c.args.self.now c.args.class c.args.name.now in
    c.from_residual.ensures ∙ ap (λ (o : Option ℕ). option_map (λ i. (feature_rename_at m i).feature) o) (sym c.in_err-alias.was ∙ is)

pub entry-requires : goal.entry-requires
entry-requires c =
    let m = model_renaming c.args.classes.now [] c.args.self.now in
    let held = c.self.invariant.aliases ∙ ap (λ (r : Renames). map alias_of r.features) c.self.view_is in
    let is = c.feature_of.ensures ∙ ap (λ (fs : List FeatureInfo). feature_number (model_with c.args.classes.now fs) c.args.class c.args.name.now) held ∙ alias_number c.args.classes.now c.args.self.now c.args.class c.args.name.now in
    let entry = feature_entry m c.args.class c.args.name.now c.in_ok-alias.alias (sym is ∙ c.in_ok-alias.was) in
    subst (λ (k : ℕ). k < length c.args.self.now.features) (sym c.index.ensures) entry.0

pub returns : goal.returns
returns c =
    let m = model_renaming c.args.classes.now [] c.args.self.now in
    let held = c.self.invariant.aliases ∙ ap (λ (r : Renames). map alias_of r.features) c.self.view_is in
    let is = c.feature_of.ensures ∙ ap (λ (fs : List FeatureInfo). feature_number (model_with c.args.classes.now fs) c.args.class c.args.name.now) held ∙ alias_number c.args.classes.now c.args.self.now c.args.class c.args.name.now in
    ap (λ (r : FeatureRename). Some r.feature) c.entry.ensures ∙ ap (λ (k : ℕ). Some (feature_rename_at m k).feature) c.index.ensures
    ∙ ap (λ (o : Option ℕ). option_map (λ i. (feature_rename_at m i).feature) o) (sym c.in_ok-alias.was ∙ is)

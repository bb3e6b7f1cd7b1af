use Rattle.std.proofs.Common.{List, Option, length, unwrap_or, sym, subst}
use Rattle.std.specs.BTreeMap.{get_by_text}
use Rattle.imkl_model.specs.declared.feature.FeatureInfo.{FeatureInfo}
use Rattle.imkl_model.specs.Held.{Group, IsGroup, no_group}
use Rattle.imkl_model.proofs.feature_table.FeatureTable.group.Goals as goal

pub returns : goal.returns
returns c =
    let q = c.args.name.now in
    let held = subst (λ (fs : List FeatureInfo). IsGroup fs (length fs) q (unwrap_or (get_by_text c.self.inside.groups q) no_group)) c.self.view_is (c.self.invariant q) in
    subst (λ (o : Option Group). IsGroup c.args.self.now (length c.args.self.now) q (unwrap_or o no_group)) (sym c.get.ensures.value) held

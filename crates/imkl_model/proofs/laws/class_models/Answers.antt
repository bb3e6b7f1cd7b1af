use Rattle.imkl_model.proofs.ModelLaws.{no_clash, within_limits, features_are_sound, ends_are_paired}
use Rattle.imkl_model.proofs.Links.{no_old_clash}
use Rattle.imkl_model.proofs.laws.class_models.Goals as goal

pub returns-clause-clash : goal.returns-clause-clash
returns-clause-clash c = no_clash

pub returns-clause-limits : goal.returns-clause-limits
returns-clause-limits c = within_limits

pub returns-clause-features : goal.returns-clause-features
returns-clause-features c = features_are_sound

pub returns-clause-ends : goal.returns-clause-ends
returns-clause-ends c = ends_are_paired

pub returns-clause-old_names : goal.returns-clause-old_names
returns-clause-old_names c = no_old_clash

use Rattle.std.proofs.Common.{◌≡◌, ◌∙◌, [], false, ap, subst, sym, get_or, length}
use Rattle.std.specs.List.Sorted.{IsStrictlySortedBy}
use Rattle.std.specs.Ordering.{nat_cmp}
use Rattle.imkl_population.specs.Population.{Population}
use Rattle.imkl_population.specs.Sizes.{longest_below}
use Rattle.imkl_population.specs.Written.{IsMap}
use Rattle.imkl_population.specs.Store.{maps_in}
use Rattle.imkl_population.specs.Layout.{stored_content}
use Rattle.imkl_model.specs.ClassModel.{feature_at}
use Rattle.imkl_model.specs.Features.{is_opposite}
use Rattle.imkl_population.proofs.Layouts.{content-is}
use Rattle.imkl_population.proofs.Longest.{longest-stored}
use Rattle.imkl_population.proofs.Placed.{keys_of-column, longest-column}
use Rattle.imkl_population.proofs.population.Population.longest_written.Goals as goal

pub returns : goal.returns
returns c =
    let i = c.self.inside in
    let s = i.scalars.items in
    let maps = maps_in s i.written.items in
    let p : Population = stored_content i.model.now i.heads.items maps in
    let f = c.args.feature in
    let view = content-is c.self.view_is in
    let written = subst (λ (q : Population). is_opposite (feature_at q.model f).role ≡ false) (sym view) c.requires in
    let ascend = rw (c.deref.ensures.value, c.index.ensures) at c.longest_at.ensures.ascend in
    let sorted : IsMap (get_or maps f []) = subst (IsStrictlySortedBy nat_cmp) (sym (keys_of-column s i.written.items f)) ascend in
    (rw (c.deref.ensures.value, c.index.ensures) at c.longest_at.ensures.longest)
    ∙ longest-column s i.written.items f c.self.invariant.written_within
    ∙ longest-stored i.model.now i.heads.items maps f sorted c.self.invariant.idle written ∙ ap (λ (q : Population). longest_below q f (length q.objects)) view

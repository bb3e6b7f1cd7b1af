use Rattle.std.proofs.Common.{◌<◌, length, ap, arith}
use Rattle.std.proofs.lemmas.Bool.{false≢true}
use Rattle.imkl_model.specs.ClassModel.{Model}
use Rattle.imkl_population.specs.Sizes.{Sizes, longest_of}
use Rattle.imkl_population.proofs.Fitting.{reads_same}
use Rattle.imkl_population.proofs.sizes.Sizes.lengths_are_of.Goals as goal

pub returns-then-longest_of-longest : goal.returns-then-longest_of-longest
returns-then-longest_of-longest c =
    let p = c.args.population.now.content in
    let n = c.new-feature_number.result in
    let lt : n < length p.model.features = omega (arith, c.new-feature_number.ensures, c.loop-feature-test.true, c.feature_count-feature-end.ensures, ap (λ (z : Sizes). length z.model.features) c.self.view_is, ap (λ (m : Model). length m.features) c.requires) in (
      λ e. absurd (false≢true e),
      λ same. absurd (omega (arith, c.if-longest_of-longest.true, c.longest.ensures, c.longest_of.ensures, reads_same (longest_of p) c.args.self.now.longest (length p.model.features) n lt same)),
    )

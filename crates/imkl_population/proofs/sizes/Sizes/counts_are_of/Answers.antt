use Rattle.std.proofs.Common.{◌<◌, length, ap, arith}
use Rattle.std.proofs.lemmas.Bool.{false≢true}
use Rattle.imkl_model.specs.ClassModel.{Model}
use Rattle.imkl_population.specs.Sizes.{Sizes, count_of}
use Rattle.imkl_population.proofs.Fitting.{reads_same}
use Rattle.imkl_population.proofs.sizes.Sizes.counts_are_of.Goals as goal

pub returns-then-count : goal.returns-then-count
returns-then-count c =
    let p = c.args.population.now.content in
    let n = c.new-class_number.result in
    let lt : n < length p.model.classes = omega (arith, c.new-class_number.ensures, c.loop-class-test.true, c.class_count-class-end.ensures, ap (λ (z : Sizes). length z.model.classes) c.self.view_is, ap (λ (m : Model). length m.classes) c.requires) in (
      λ e. absurd (false≢true e),
      λ same. absurd (omega (arith, c.if-count.true, c.count.ensures, ap length c.instances-count.ensures.objects, reads_same (count_of p) c.args.self.now.counts (length p.model.classes) n lt same)),
    )

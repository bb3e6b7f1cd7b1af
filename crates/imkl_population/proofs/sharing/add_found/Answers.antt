use Rattle.std.proofs.Common.{◌≡◌, ◌∙◌, ◌++◌, ◌<◌, ℕ, List, All, ap, arith, length, subst, sym}
use Rattle.imkl_population.specs.Instances.{AreMarks}
use Rattle.imkl_population.specs.Population.{class_of}
use Rattle.imkl_population.proofs.Gathering.{classes-known, marked-objects}
use Rattle.imkl_population.proofs.Lengths.{length-list_below}
use Rattle.imkl_population.proofs.Stored.{on_ok}
use Rattle.imkl_population.proofs.sharing.add_found.Goals as goal
use Rattle.imkl_population.proofs.sharing.add_found.Goals.{After-deref-2}

-- as many marks as classes
marked_all : (c : After-deref-2) → length c.deref-2.result.now ≡ length c.args.members.now.direct.items
marked_all c = omega (arith, ap length c.deref-2.ensures.value, c.in_ok-marks.ensures.so_long, c.len.ensures, c.args.members.now.direct.ok.0)

pub add_marked-requires-clause-marked : goal.add_marked-requires-clause-marked
add_marked-requires-clause-marked c =
    let members = c.args.members.now in
    let known : All (λ k. k < length members.direct.items) members.classes.items = classes-known c.args.builder.now members c.requires.members in
    subst (λ (l : List ℕ). All (λ k. k < length c.deref-2.result.now) l) (sym c.deref.ensures.value) (rw (marked_all c) known)

pub add_marked-requires-clause-small : goal.add_marked-requires-clause-small
add_marked-requires-clause-small c =
    let p = c.args.builder.now in
    omega (arith, ap length (c.deref.ensures.value ∙ c.requires.members.classes), length-list_below (class_of p) (length p.objects), c.requires.members.limited)

pub returns : goal.returns
returns c =
    let p = c.args.builder.now in
    let members = c.args.members.now in
    let are = c.deref.ensures.value ∙ c.requires.members.classes in
    let marked : AreMarks c.len.result c.args.classes.now c.deref-2.result.now = subst (AreMarks c.len.result c.args.classes.now) (sym c.deref-2.ensures.value) c.in_ok-marks.ensures in
    let known : (o : ℕ) → o < length p.objects → class_of p o < c.len.result = λ o lt. omega (arith, c.requires.members.direct.known o lt, c.requires.members.direct.count, c.len.ensures, members.direct.ok.0) in
    on_ok c.add_marked.result c.add_marked.ensures
    (λ grown. grown ∙ ap (λ (l : List ℕ). c.args.list.now.items ++ l) (marked-objects p c.deref.result.now c.args.classes.now c.deref-2.result.now c.len.result are marked known))

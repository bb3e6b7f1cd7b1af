use Rattle.std.proofs.Common.{◌≡◌, ◌∙◌, ◌==◌, ◌<◌, ℕ, List, true, Ok, arith, ap, sym, subst, length, if◌then◌else◌}
use Rattle.std.specs.Ordering.{nat_cmp}
use Rattle.std.specs.BTreeMap.{get_by_text, insert_entry}
use Rattle.imkl_population.specs.Given.{given_values}
use Rattle.imkl_population.specs.IdIndex.{number_found}
use Rattle.imkl_population.specs.Population.{Population}
use Rattle.imkl_population.specs.Building.{with_values}
use Rattle.imkl_model.specs.ClassModel.{Model}
use Rattle.imkl_population.specs.declared.object.Head.{Head}
use Rattle.imkl_population.specs.declared.scalar.Scalar.{Scalar}
use Rattle.imkl_population.specs.Layout.{stored_content}
use Rattle.imkl_population.specs.Draft.{is_sound}
use Rattle.imkl_population.specs.Store.{maps_of, object_row}
use Rattle.imkl_population.proofs.Layouts.{Maps, length-content, content-put}
use Rattle.imkl_population.proofs.Making.{making-put, making-same}
use Rattle.imkl_population.proofs.builder.PopulationBuilder.put.Goals as goal

pub invariant_of-self : goal.invariant_of-self
invariant_of-self c =
    let i = c.self.inside in
    making-same i.model.now i.heads.items (maps_of i.written) (maps_of c.put.new.self) c.args.object c.args.feature (given_values c.args.values) (number_found i.ids.slots.items (get_by_text i.ids.others) i.heads.items) c.self.invariant c.in_err-put.ensures.err

-- the rows after the call, by the numbers of the object and of the feature
row_at : (new old : ℕ → List (ℕ × List Scalar)) (object feature o f : ℕ) (vs : List Scalar) → object ≡ o → feature ≡ f
    → ((k : ℕ) → new k ≡ (if k == object then insert_entry nat_cmp (old k) feature vs else old k))
    → (k : ℕ) → new k ≡ (if k == o then insert_entry nat_cmp (old k) f vs else old k)
row_at new old object feature o f vs is_object is_feature row k = rw (← is_object, ← is_feature) (row k)

-- an object of the population has a head
there : (m : Model) (hs : List Head) (maps : Maps) (p : Population) (o : ℕ) → stored_content m hs maps ≡ p → o < length p.objects → o < length hs
there m hs maps p o same below = omega (arith, below, length-content m hs maps, ap (λ (q : Population). length q.objects) same)

pub invariant_of-self-2 : goal.invariant_of-self-2
invariant_of-self-2 c =
    let i = c.self.inside in
    let sound = subst (λ (p : Population). is_sound p c.args.object (c.args.feature, given_values c.args.values) ≡ true) (sym c.self.view_is) c.requires.sound in
    making-put i.model.now i.heads.items (maps_of i.written) (maps_of c.put.new.self) c.args.object c.args.feature (given_values c.args.values) (number_found i.ids.slots.items (get_by_text i.ids.others) i.heads.items) c.self.invariant
    (there i.model.now i.heads.items (maps_of i.written) c.args.self.now c.args.object c.self.view_is c.requires.object) (omega (arith, c.requires.feature, ap (λ (p : Population). length p.model.features) c.self.view_is)) (row_at (object_row (maps_of c.put.new.self)) (object_row (maps_of i.written)) c.index.result c.index-2.result c.args.object c.args.feature (given_values c.args.values) c.index.ensures c.index-2.ensures c.in_ok-put.ensures.ok) sound

pub returns-clause-answers : goal.returns-clause-answers
returns-clause-answers c =
    let i = c.self.inside in
    let content = content-put i.model.now i.heads.items (maps_of i.written) (maps_of c.put.new.self) c.args.object c.args.feature (given_values c.args.values) (there i.model.now i.heads.items (maps_of i.written) c.args.self.now c.args.object c.self.view_is c.requires.object) (row_at (object_row (maps_of c.put.new.self)) (object_row (maps_of i.written)) c.index.result c.index-2.result c.args.object c.args.feature (given_values c.args.values) c.index.ensures c.index-2.ensures c.in_ok-put.ensures.ok) in
    ap Ok (sym (content ∙ ap (λ (p : Population). with_values p c.args.object c.args.feature (given_values c.args.values)) c.self.view_is))

pub returns-clause-kept : goal.returns-clause-kept
returns-clause-kept c =
    let i = c.self.inside in
    record {
      model = ap (λ (p : Population). p.model) c.self.view_is;
      count = length-content i.model.now i.heads.items (maps_of c.put.new.self) ∙ sym (length-content i.model.now i.heads.items (maps_of i.written)) ∙ ap (λ (p : Population). length p.objects) c.self.view_is;
    }

use Rattle.std.proofs.Common.{◌≡◌, ◌∙◌, ℕ, List, Option, Some, None, refl, sym, ap}
use Rattle.std.specs.Prelude.{option_and_then}
use Rattle.std.specs.Option.{option_map}
use Rattle.imkl_model.specs.ClassModel.{Model, feature_number}
use Rattle.imkl_model.specs.Renames.{renamed_class, renamed_feature, linked_class, linked_feature}
use Rattle.rule_code.specs.declared.symbol.Symbol.{Symbol}
use Rattle.rule_code.specs.declared.symbol.Symbol.TheVariants as symbols
use Rattle.rule_code.specs.Content.{text_at}
use Rattle.rule_code.specs.View.{content}
use Rattle.rule_verify.specs.declared.named.Named.TheVariants as named
use Rattle.rule_verify.specs.Symbols.{named_by}
use Rattle.rule_verify.proofs.resolved.look_up.Goals as goal

-- a feature with the class that it is looked up in
with_class : (o : Option ℕ) (g : ℕ → Option ℕ) (c : ℕ) → o ≡ Some c → option_and_then (λ k. option_map (named.Feature k) (g k)) o ≡ option_map (named.Feature c) (option_and_then g o)
with_class o g c e = rw e refl

module _ (m : Model) (texts : List (List ℕ)) (s : Symbol) where
  class_named : (c : _) (t : List ℕ) (o : Option ℕ) → s ≡ symbols.Class c → t ≡ text_at texts c.0 → o ≡ linked_class m t → option_map named.Class o ≡ named_by m texts s
  class_named c t o is text found = ap (λ (r : Option ℕ). option_map named.Class r) (found ∙ ap (λ (n : List ℕ). linked_class m n) text) ∙ ap (named_by m texts) (sym is)

  no_owner : (c f : _) (t : List ℕ) → s ≡ symbols.Feature c f → t ≡ text_at texts c.0 → None ≡ linked_class m t → None ≡ named_by m texts s
  no_owner c f t is text found =
      let class = text_at texts c.0 in
      let name = renamed_feature m (renamed_class m class) (text_at texts f.0) in
      ap (λ (r : Option ℕ). option_and_then (λ k. option_map (named.Feature k) (feature_number m k name)) r) (found ∙ ap (λ (n : List ℕ). linked_class m n) text) ∙ ap (named_by m texts) (sym is)

  feature_named : (c f : _) (t u v : List ℕ) (k : ℕ) (o : Option ℕ) → s ≡ symbols.Feature c f → t ≡ text_at texts c.0 → u ≡ text_at texts c.0 → v ≡ text_at texts f.0
      → Some k ≡ linked_class m t → o ≡ linked_feature m u v → option_map (named.Feature k) o ≡ named_by m texts s
  feature_named c f t u v k o is t_is u_is v_is owner found =
      let class = text_at texts c.0 in
      let name = text_at texts f.0 in
      let here : linked_class m class ≡ Some k = sym (owner ∙ ap (λ (n : List ℕ). linked_class m n) t_is) in
      let there : o ≡ linked_feature m class name = found ∙ rw (u_is, v_is) refl in
      ap (λ (r : Option ℕ). option_map (named.Feature k) r) there
      ∙ sym (with_class (linked_class m class) (λ j. feature_number m j (renamed_feature m (renamed_class m class) name)) k here) ∙ ap (named_by m texts) (sym is)

pub returns-in_err-class-in-Class : goal.returns-in_err-class-in-Class
returns-in_err-class-in-Class c =
    c.from_residual.ensures ∙ class_named c.args.model.now (content c.args.unit.now).texts c.args.symbol c.in-Class.class c.text.result.now None c.in-Class.is c.text.ensures c.in_err-class-in-Class.ensures.number

pub returns-in_ok-class-in-Class : goal.returns-in_ok-class-in-Class
returns-in_ok-class-in-Class c =
    class_named c.args.model.now (content c.args.unit.now).texts c.args.symbol c.in-Class.class c.text.result.now (Some c.in_ok-class-in-Class.class) c.in-Class.is c.text.ensures c.in_ok-class-in-Class.ensures.number

pub returns-in_err-owner-in-Feature : goal.returns-in_err-owner-in-Feature
returns-in_err-owner-in-Feature c =
    c.from_residual-in_err-owner-in-Feature.ensures ∙ no_owner c.args.model.now (content c.args.unit.now).texts c.args.symbol c.in-Feature.class c.in-Feature.feature c.text-in-Feature.result.now c.in-Feature.is c.text-in-Feature.ensures c.in_err-owner-in-Feature.ensures.number

pub returns-in_err-feature-in-Feature : goal.returns-in_err-feature-in-Feature
returns-in_err-feature-in-Feature c =
    c.from_residual-in_err-feature-in-Feature.ensures
    ∙ feature_named c.args.model.now (content c.args.unit.now).texts c.args.symbol c.in-Feature.class c.in-Feature.feature c.text-in-Feature.result.now c.text-in-Feature-2.result.now c.text-in-Feature-3.result.now c.in_ok-owner-in-Feature.owner None
    c.in-Feature.is c.text-in-Feature.ensures c.text-in-Feature-2.ensures c.text-in-Feature-3.ensures c.in_ok-owner-in-Feature.ensures.number c.in_err-feature-in-Feature.ensures.number

pub returns-in_ok-feature-in-Feature : goal.returns-in_ok-feature-in-Feature
returns-in_ok-feature-in-Feature c =
    feature_named c.args.model.now (content c.args.unit.now).texts c.args.symbol c.in-Feature.class c.in-Feature.feature c.text-in-Feature.result.now c.text-in-Feature-2.result.now c.text-in-Feature-3.result.now c.in_ok-owner-in-Feature.owner (Some c.in_ok-feature-in-Feature.feature)
    c.in-Feature.is c.text-in-Feature.ensures c.text-in-Feature-2.ensures c.text-in-Feature-3.ensures c.in_ok-owner-in-Feature.ensures.number c.in_ok-feature-in-Feature.ensures.number

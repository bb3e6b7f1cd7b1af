-- Symbols in class models with old names.
use Rattle.std.proofs.Common.{◌≡◌, ◌∙◌, ℕ, List, Option, Some, None, refl, ap}
use Rattle.std.specs.Prelude.{option_and_then}
use Rattle.std.specs.Option.{option_map}
use Rattle.std.proofs.lemmas.Option.{none-some}
use Rattle.imkl_model.specs.ClassModel.{Model, no_renames, class_number, feature_number}
use Rattle.imkl_model.specs.Renames.{renamed_class, renamed_feature, feature_by_names}
use Rattle.imkl_model.specs.WellFormed.{IsClassModel}
use Rattle.imkl_model.proofs.ForAbove.{present_classes_stay, present_features_stay, names_stay}
use Rattle.rule_code.specs.declared.symbol.Symbol.TheVariants as symbols
use Rattle.rule_code.specs.Content.{text_at}
use Rattle.rule_verify.specs.declared.named.Named.{Named}
use Rattle.rule_verify.specs.declared.named.Named.TheVariants as named
use Rattle.rule_verify.specs.Laws.{PresentSymbolsStay, SymbolsNameAsWritten}

-- a class model in which no present name is an old one
module _ (m : Model) (class_name_stays : (name : List ℕ) (c : ℕ) → class_number m name ≡ Some c → renamed_class m name ≡ name)
    (feature_name_stays : (class name : List ℕ) (c f : ℕ) → class_number m class ≡ Some c → feature_number m c name ≡ Some f → renamed_feature m class name ≡ name) where
  class_stays : (name : List ℕ) (x : Named) (o : Option ℕ) → class_number m name ≡ o → option_map named.Class o ≡ Some x → option_map named.Class (class_number m (renamed_class m name)) ≡ Some x
  class_stays name x None is e = absurd (none-some x e)
  class_stays name x (Some c) is e = ap (λ (n : List ℕ). option_map named.Class (class_number m n)) (class_name_stays name c is) ∙ ap (λ (o : Option ℕ). option_map named.Class o) is ∙ e

  feature_stays : (class name : List ℕ) (x : Named) (c : ℕ) → class_number m class ≡ Some c → (o : Option ℕ) → feature_number m c name ≡ o → option_map (named.Feature c) o ≡ Some x
      → option_and_then (λ k. option_map (named.Feature k) (feature_number m k (renamed_feature m (renamed_class m class) name))) (class_number m (renamed_class m class)) ≡ Some x
  feature_stays class name x c class_is None is e = absurd (none-some x e)
  feature_stays class name x c class_is (Some f) is e =
      ap (λ (n : List ℕ). option_and_then (λ k. option_map (named.Feature k) (feature_number m k (renamed_feature m n name))) (class_number m n)) (class_name_stays class c class_is)
      ∙ ap (λ (o : Option ℕ). option_and_then (λ k. option_map (named.Feature k) (feature_number m k (renamed_feature m class name))) o) class_is
      ∙ ap (λ (n : List ℕ). option_map (named.Feature c) (feature_number m c n)) (feature_name_stays class name c f class_is is)
      ∙ ap (λ (o : Option ℕ). option_map (named.Feature c) o) is ∙ e

  in_class : (class name : List ℕ) (x : Named) (o : Option ℕ) → class_number m class ≡ o → option_and_then (λ k. option_map (named.Feature k) (feature_number m k name)) o ≡ Some x
      → option_and_then (λ k. option_map (named.Feature k) (feature_number m k (renamed_feature m (renamed_class m class) name))) (class_number m (renamed_class m class)) ≡ Some x
  in_class class name x None is e = absurd (none-some x e)
  in_class class name x (Some c) is e = feature_stays class name x c is (feature_number m c name) refl e

  -- a symbol of present names names what they name
  pub symbols_stay : PresentSymbolsStay m
  symbols_stay texts (symbols.Class c) x e = class_stays (text_at texts c.0) x (class_number m (text_at texts c.0)) refl e
  symbols_stay texts (symbols.Enumeration n) x e = e
  symbols_stay texts (symbols.Feature c f) x e = in_class (text_at texts c.0) (text_at texts f.0) x (class_number m (text_at texts c.0)) refl e
  symbols_stay texts (symbols.Literal n l) x e = e

-- so in each class model
pub present_symbols_stay : (m : Model) → IsClassModel m → PresentSymbolsStay m
present_symbols_stay m well =
    symbols_stay m (λ name c is. (present_classes_stay m well name c is).0) (λ class name c f class_is is.
    let both : feature_by_names m class name ≡ Some f = ap (λ (o : Option ℕ). option_and_then (λ k. feature_number m k name) o) class_is ∙ is in
    (present_features_stay m well class name f both).0)

-- without old names a symbol names what its names name
pub symbols_name_as_written : (m : Model) → m.renames ≡ no_renames → SymbolsNameAsWritten m
symbols_name_as_written m none texts (symbols.Class c) = ap (λ (n : List ℕ). option_map named.Class (class_number m n)) ((names_stay m none).0 (text_at texts c.0))
symbols_name_as_written m none texts (symbols.Enumeration n) = refl
symbols_name_as_written m none texts (symbols.Feature c f) =
    let class = text_at texts c.0 in
    let name = text_at texts f.0 in
    ap (λ (n : List ℕ). option_and_then (λ k. option_map (named.Feature k) (feature_number m k (renamed_feature m n name))) (class_number m n)) ((names_stay m none).0 class)
    ∙ ap (λ (n : List ℕ). option_and_then (λ k. option_map (named.Feature k) (feature_number m k n)) (class_number m class)) ((names_stay m none).1 class name)
symbols_name_as_written m none texts (symbols.Literal n l) = refl

-- What is known of a feature that was numbered.
use Rattle.std.proofs.Common.{◌≡◌, ℕ, ◌<◌, List, length, Bool, true, false, Result, Ok, sym, ap, ◌∙◌, subst, bytes_eq, codes, if◌then◌else◌}
use Rattle.imkl_model.specs.declared.fault.ModelFault.{ModelFault}
use Rattle.imkl_model.specs.declared.feature.FeatureInfo.{FeatureInfo}
use Rattle.imkl_model.specs.declared.feature.ElementType.{ElementType}
use Rattle.imkl_model.specs.declared.feature.ElementType.TheVariants as element
use Rattle.imkl_model.specs.declared.feature.Role.{Role}
use Rattle.imkl_model.specs.declared.feature.Role.TheVariants as role
use Rattle.imkl_model.specs.declared.numbering.Scope.{Scope}
use Rattle.imkl_model.specs.declared.written.WrittenFeature.{WrittenFeature}
use Rattle.ocl_base.specs.Steps.{◌>>=◌}
use Rattle.imkl_model.specs.Numbering.{number_in, scalar_type, element_type, collection_kind, feature_in_scope}
use Rattle.imkl_model.proofs.Parts.{number_is}
use Rattle.ocl_base.proofs.ForAbove.{okay, ok_is, both_steps}

-- the feature f is the written feature d with numbers for names
pub record IsFrom (s : Scope) (d : WrittenFeature) (f : FeatureInfo) : Type 0 where
  pub owner : number_in s.classes d.owner ≡ Ok f.owner
  pub element : element_type s d.role d.element ≡ Ok f.element
  pub name : f.name ≡ d.name
  pub lower : f.lower ≡ d.lower
  pub upper : f.upper ≡ d.upper
  pub kind : f.kind ≡ collection_kind d
  pub role : f.role ≡ d.role

made : WrittenFeature → ℕ → ElementType → FeatureInfo
made d owner element = record { name = d.name; owner = owner; element = element; lower = d.lower; upper = d.upper; kind = collection_kind d; role = d.role }

-- a feature that was numbered is the written one with numbers for names
pub feature_is : (s : Scope) (d : WrittenFeature) (f : FeatureInfo) → feature_in_scope s d ≡ Ok f → IsFrom s d f
unfolding feature_in_scope made
feature_is s d f e =
    let p = both_steps (number_in s.classes d.owner) (λ owner. element_type s d.role d.element >>= λ element. Ok (made d owner element)) f e in
    let q = both_steps (element_type s d.role d.element) (λ element. Ok (made d p.0 element)) f p.2 in
    let same : made d p.0 q.0 ≡ f = ok_is (made d p.0 q.0) f q.2 in
    record {
      owner = p.1 ∙ ap (λ (x : FeatureInfo). okay x.owner) same;
      element = q.1 ∙ ap (λ (x : FeatureInfo). okay x.element) same;
      name = ap (λ (x : FeatureInfo). x.name) (sym same);
      lower = ap (λ (x : FeatureInfo). x.lower) (sym same);
      upper = ap (λ (x : FeatureInfo). x.upper) (sym same);
      kind = ap (λ (x : FeatureInfo). x.kind) (sym same);
      role = ap (λ (x : FeatureInfo). x.role) (sym same);
    }

-- ---- element types

pub record IsScalarFrom (r : Result ℕ ModelFault) (e : ElementType) : Type 0 where
  pub no_class : (c : ℕ) → e ≡ element.Class c → ⊥
  pub enumeration : (n : ℕ) → e ≡ element.Enumeration n → r ≡ Ok n

scalar_from : (a b c : Bool) (r : Result ℕ ModelFault) (e : ElementType)
    → (if a then Ok element.Boolean else (if b then Ok element.Integer else (if c then Ok element.String else (r >>= λ n. Ok (element.Enumeration n))))) ≡ okay e → IsScalarFrom r e
scalar_from true b c r e h = record { no_class = λ k g. cc; enumeration = λ n g. absurd (let bad : ⊥ = cc in bad) }
scalar_from false true c r e h = record { no_class = λ k g. cc; enumeration = λ n g. absurd (let bad : ⊥ = cc in bad) }
scalar_from false false true r e h = record { no_class = λ k g. cc; enumeration = λ n g. absurd (let bad : ⊥ = cc in bad) }
scalar_from false false false r e h =
    let p = both_steps r (λ n. Ok (element.Enumeration n)) e h in
    record { no_class = λ k g. cc; enumeration = λ n g. p.1 ∙ ap okay (let same : p.0 ≡ n = cc in same) }

-- a scalar type is no class; if it is an enumeration, it is the one of that name
pub scalar_is : (s : Scope) (name : List ℕ) (e : ElementType) → scalar_type s name ≡ Ok e → IsScalarFrom (number_in s.enumerations name) e
unfolding scalar_type
scalar_is s name e h = scalar_from (bytes_eq name (codes "Boolean")) (bytes_eq name (codes "Integer")) (bytes_eq name (codes "String")) (number_in s.enumerations name) e h

class_from : (r : Result ℕ ModelFault) (e : ElementType) → (r >>= λ c. Ok (element.Class c)) ≡ Ok e → (c : ℕ) × (r ≡ Ok c) × (e ≡ element.Class c)
class_from r e h = let p = both_steps r (λ c. Ok (element.Class c)) e h in (p.0, p.1, sym (ok_is (element.Class p.0) e p.2))

-- the element type of an end, be it a source end or an opposite end, is the class of that name
pub source_is : (s : Scope) (g : ℕ) (name : List ℕ) (e : ElementType) → element_type s (role.SourceEnd g) name ≡ Ok e → (c : ℕ) × (number_in s.classes name ≡ Ok c) × (e ≡ element.Class c)
unfolding element_type
source_is s g name e h = class_from (number_in s.classes name) e h

pub opposite_is : (s : Scope) (g : ℕ) (name : List ℕ) (e : ElementType) → element_type s (role.OppositeEnd g) name ≡ Ok e → (c : ℕ) × (number_in s.classes name ≡ Ok c) × (e ≡ element.Class c)
unfolding element_type
opposite_is s g name e h = class_from (number_in s.classes name) e h

-- the element type of an attribute is a scalar type
pub attribute_is : (s : Scope) (name : List ℕ) (e : ElementType) → element_type s role.Attribute name ≡ Ok e → IsScalarFrom (number_in s.enumerations name) e
unfolding element_type
attribute_is s name e h = scalar_is s name e h

one_class : (a b : ℕ) (e : ElementType) → e ≡ element.Class a → e ≡ element.Class b → a ≡ b
one_class a b e f g = cc

no_enumeration : (a n : ℕ) (e : ElementType) → e ≡ element.Class a → e ≡ element.Enumeration n → ⊥
no_enumeration a n e f g = cc

found_class : (s : Scope) (name : List ℕ) (e : ElementType) (c : ℕ) → (k : ℕ) × (number_in s.classes name ≡ Ok k) × (e ≡ element.Class k) → e ≡ element.Class c → c < length s.classes
found_class s name e c w h = subst (λ (k : ℕ). k < length s.classes) (one_class w.0 c e w.2 h) (number_is s.classes name w.0 w.1).0

-- a class that is an element type is one of the scope
pub class_within : (s : Scope) (r : Role) (name : List ℕ) (e : ElementType) (c : ℕ) → element_type s r name ≡ Ok e → e ≡ element.Class c → c < length s.classes
class_within s role.Attribute name e c h g = absurd ((attribute_is s name e h).no_class c g)
class_within s (role.SourceEnd f) name e c h g = found_class s name e c (source_is s f name e h) g
class_within s (role.OppositeEnd f) name e c h g = found_class s name e c (opposite_is s f name e h) g

-- an enumeration that is an element type is one of the scope
pub enumeration_within : (s : Scope) (r : Role) (name : List ℕ) (e : ElementType) (n : ℕ) → element_type s r name ≡ Ok e → e ≡ element.Enumeration n → n < length s.enumerations
enumeration_within s role.Attribute name e n h g = (number_is s.enumerations name n ((attribute_is s name e h).enumeration n g)).0
enumeration_within s (role.SourceEnd f) name e n h g = let w = source_is s f name e h in absurd (no_enumeration w.0 n e w.2 g)
enumeration_within s (role.OppositeEnd f) name e n h g = let w = opposite_is s f name e h in absurd (no_enumeration w.0 n e w.2 g)

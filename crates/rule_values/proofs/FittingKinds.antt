-- A value in a kind is in each kind that it fits.
use Rattle.std.proofs.Common.{◌≡◌, true, List, length, Some, None, refl, subst}
use Rattle.std.specs.Prelude.{nat_lt}
use Rattle.std.specs.List.{list_all}
use Rattle.std.proofs.lemmas.Bool.{and_parts, and_from, eqb-true}
use Rattle.ocl_base.specs.declared.collection_kind.CollectionKind.{CollectionKind}
use Rattle.imkl_model.specs.ClassModel.{conforms}
use Rattle.imkl_model.proofs.ForAbove.{conforms_along}
use Rattle.imkl_population.specs.declared.scalar.Scalar.{Scalar}
use Rattle.imkl_population.specs.declared.scalar.Scalar.TheVariants as scalar
use Rattle.imkl_population.specs.Population.{Population, class_of}
use Rattle.imkl_population.proofs.ForAbove.{list_all-weaker}
use Rattle.ocl_kinds.specs.declared.kind.ScalarKind.{ScalarKind}
use Rattle.ocl_kinds.specs.declared.kind.ScalarKind.TheVariants as element
use Rattle.ocl_kinds.specs.declared.kind.Kind.{Kind}
use Rattle.ocl_kinds.specs.declared.kind.Kind.TheVariants as kind
use Rattle.ocl_kinds.specs.Kinds.{is_same_collection, scalar_fits, fits}
use Rattle.ocl_kinds.proofs.ForAbove.{same_collection_is}
use Rattle.rule_values.specs.Value as value
use Rattle.rule_values.specs.Value.{Element, Value, is_scalar_in, is_element_in, are_elements, is_collection_in, is_in}

scalar_fits_in : (p : Population) (v : Scalar) (j k : ScalarKind) → scalar_fits p.model j k ≡ true → is_scalar_in p v j ≡ true → is_scalar_in p v k ≡ true
scalar_fits_in p (scalar.Bool b) element.Boolean element.Boolean f h = refl
scalar_fits_in p (scalar.Int n) element.Integer element.Integer f h = h
scalar_fits_in p (scalar.Text t) element.String element.String f h = refl
scalar_fits_in p (scalar.Literal d l) (element.Enumeration e) (element.Enumeration g) f h =
    subst (λ k. is_scalar_in p (scalar.Literal d l) (element.Enumeration k) ≡ true) (eqb-true e g f) h
scalar_fits_in p (scalar.Object o) (element.Class c) (element.Class d) f h =
    let parts = and_parts (nat_lt o (length p.objects)) (conforms p.model (class_of p o) c) h in
    and_from _ _ parts.0 (conforms_along p.model (class_of p o) c d parts.1 f)
scalar_fits_in p (scalar.Object o) (element.Class c) element.AnyObject f h = (and_parts (nat_lt o (length p.objects)) (conforms p.model (class_of p o) c) h).0
scalar_fits_in p (scalar.Object o) element.AnyObject element.AnyObject f h = h
scalar_fits_in p v j k f h = cc

element_fits_in : (p : Population) (e : Element) (j k : ScalarKind) → scalar_fits p.model j k ≡ true → is_element_in p j e ≡ true → is_element_in p k e ≡ true
element_fits_in p None j k f h = refl
element_fits_in p (Some v) j k f h = scalar_fits_in p v j k f h

-- elements in a kind are in each kind that it fits
pub elements_fit_in : (p : Population) (es : List Element) (j k : ScalarKind) → scalar_fits p.model j k ≡ true → list_all (is_element_in p j) es ≡ true → list_all (is_element_in p k) es ≡ true
elements_fit_in p es j k f h = list_all-weaker (is_element_in p j) (is_element_in p k) (λ e g. element_fits_in p e j k f g) es h

-- so are collections
pub collection_fits_in : (p : Population) (c : CollectionKind) (es : List Element) (j k : ScalarKind) → scalar_fits p.model j k ≡ true → is_collection_in p c es j ≡ true → is_collection_in p c es k ≡ true
collection_fits_in p c es j k f h =
    let parts = and_parts (are_elements c es) (list_all (is_element_in p j) es) h in
    and_from _ _ parts.0 (elements_fit_in p es j k f parts.1)

-- a value in a kind is in each kind that it fits
pub fits_in : (p : Population) (v : Value) (j k : Kind) → fits p.model j k ≡ true → is_in p v j ≡ true → is_in p v k ≡ true
fits_in p value.Invalid j k f h = refl
fits_in p value.Null (kind.Scalar j) (kind.Scalar k) f h = refl
fits_in p (value.Single v) (kind.Scalar j) (kind.Scalar k) f h = scalar_fits_in p v j k f h
fits_in p (value.Collection c es) (kind.Collection d j) (kind.Collection e k) f h =
    let own = and_parts (is_same_collection c d) (is_collection_in p c es j) h in
    let fit = and_parts (is_same_collection d e) (scalar_fits p.model j k) f in
    and_from _ _ (subst (λ x. is_same_collection c x ≡ true) (same_collection_is d e fit.0) own.0) (collection_fits_in p c es j k fit.1 own.1)
fits_in p v j k f h = cc

use Rattle.std.proofs.Common.{◌≡◌, ◌∙◌, ◌<◌, ℕ, Bool, List, length, ap, sym, subst}
use Rattle.std.proofs.lemmas.List.{length-map}
use Rattle.imkl_model.specs.declared.entry.Class.{Class}
use Rattle.imkl_model.specs.Tables.{mark_at}
use Rattle.imkl_model.specs.Chains.{any_below, reaches, is_cyclic}
use Rattle.imkl_model.specs.ClassModel.{supers_in}
use Rattle.imkl_model.proofs.Below.{any_same}
use Rattle.imkl_model.proofs.class_table.ClassTable.is_cyclic.Goals as goal

diagonal : (cs : List Class) (rows : List (List Bool)) → length rows ≡ length cs → ((i j : ℕ) → i < length cs → mark_at rows i j ≡ reaches (supers_in cs) i j) → any_below (λ k. mark_at rows k k) (length rows) ≡ is_cyclic (supers_in cs)
diagonal cs rows long reached =
    ap (any_below (λ k. mark_at rows k k)) long ∙ any_same (λ k. mark_at rows k k) (λ k. reaches (supers_in cs) k k) (length cs) (λ k lt. reached k k lt)
    ∙ ap (any_below (λ k. reaches (supers_in cs) k k)) (sym (length-map cs (λ (c : Class). c.supers)))

pub returns : goal.returns
returns c =
    let i = c.self.inside in
    let rows : c.reaches_itself.result ≡ any_below (λ k. mark_at i.reached.items k k) (length i.reached.items) = subst (λ (r : List (List Bool)). c.reaches_itself.result ≡ any_below (λ k. mark_at r k k) (length r)) c.as_slice.ensures.value c.reaches_itself.ensures in
    rw (← c.self.view_is) (rows ∙ diagonal i.classes.items i.reached.items c.self.invariant.square.0 c.self.invariant.reached)

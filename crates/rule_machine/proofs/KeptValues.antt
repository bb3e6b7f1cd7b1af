-- The value that FOLD keeps is no collection, so it is in no list: its slot stands for it whatever the pool.
use Rattle.std.proofs.Common.{◌≡◌, ℕ, true, List}
use Rattle.imkl_population.specs.Population.{Population}
use Rattle.ocl_kinds.specs.declared.kind.Kind.TheVariants as kind
use Rattle.ocl_kinds.specs.declared.kind.ScalarKind.{ScalarKind}
use Rattle.rule_values.specs.Value as value
use Rattle.rule_values.specs.Value.{Value, is_in}
use Rattle.rule_slots.specs.declared.slot.Slot.{Slot}
use Rattle.rule_slots.specs.Slots.{Lists, SlotIs}
use Rattle.rule_machine.specs.StandFor.{IsNoCollection}

-- a value in a kind of single values is no collection
pub no_collection : (p : Population) (k : ScalarKind) (v : Value) → is_in p v (kind.Scalar k) ≡ true → IsNoCollection v
no_collection p k (value.Collection c es) h = cc
no_collection p k v h = tt

-- a value that is no collection has its slot under any pool
pub anywhere : (l : Lists) (p q : List Slot) (hi hi' : ℕ) (s : Slot) (v : Value) → IsNoCollection v → SlotIs l p hi s v → SlotIs l q hi' s v
anywhere l p q hi hi' s value.Invalid none h = h
anywhere l p q hi hi' s value.Null none h = h
anywhere l p q hi hi' s (value.Single v) none h = h
anywhere l p q hi hi' s (value.Collection c es) none h = absurd none

use Rattle.std.proofs.Common.{IsSome, refl, sym, subst, arith}
use Rattle.ocl_types.proofs.ScopeIndexes.{has_number, popped_named, popped_implicit, popped_hidden}
use Rattle.ocl_types.proofs.scope.Scope.pop.Goals as goal

pub restore-requires : goal.restore-requires
restore-requires c = subst IsSome (sym (has_number c.self.inside.variables.items c.pop.new.self.items c.self.inside.named c.self.inside.implicit.items c.in-Some.variable c.in-Some-name.name c.self.invariant c.in-Some.ensures.items c.in-Some-name.is)) refl

pub invariant_of-self-in-Some-name : goal.invariant_of-self-in-Some-name
invariant_of-self-in-Some-name c = popped_named c.self.inside.variables.items c.pop.new.self.items c.self.inside.named c.restore.new.named c.self.inside.implicit.items c.in-Some.variable c.in-Some-name.name c.self.invariant c.in-Some.ensures.items c.in-Some-name.is c.restore.ensures

pub invariant_of-self-then-variable : goal.invariant_of-self-then-variable
invariant_of-self-then-variable c = popped_implicit c.self.inside.variables.items c.pop.new.self.items c.self.inside.named c.self.inside.implicit.items c.pop-in-None.new.self.items c.in-Some.variable _ c.self.invariant c.in-Some.ensures.items c.in-None.is c.if-variable.true (omega (arith, c.self.inside.implicit.ok.0)) c.pop-in-None.ensures.rest

pub invariant_of-self-else-variable : goal.invariant_of-self-else-variable
invariant_of-self-else-variable c = popped_hidden c.self.inside.variables.items c.pop.new.self.items c.self.inside.named c.self.inside.implicit.items c.in-Some.variable c.self.invariant c.in-Some.ensures.items c.in-None.is c.if-variable.false

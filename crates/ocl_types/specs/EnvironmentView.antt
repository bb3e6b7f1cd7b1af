-- Where an expression stands, for definitions that ask for a class model, a context class and a scope.
use Rattle.std.specs.Prelude.{◌<◌, ℕ, length}
use Rattle.imkl_model.specs.ClassModel.{Model}
use Rattle.ocl_types.specs.declared.environment.Environment.{Environment}
use Rattle.ocl_types.specs.Scope.{VariableScope}
use Rattle.ocl_types.specs.ScopeView.{AreKnownVariables}

-- the context class is one of the class model, and so are the kinds of the variables
abbrev pub IsEnvironment : Environment → VariableScope → Type 0
IsEnvironment e s = (e.context < length e.model.now.classes) × AreKnownVariables e.model.now s

-- what a definition gives there
abbrev pub within : {A : Type 0} → Environment → (Model → ℕ → VariableScope → A) → VariableScope → A
within e f s = f e.model.now e.context s

-- The names that a class model's features and superclasses may refer to.
use Rattle.imkl_model.specs.declared.written.Written.{Written}
use Rattle.imkl_model.specs.declared.numbering.Scope.{Scope}
use Rattle.imkl_model.specs.Checks.{written_class_names, written_enumeration_names}

abbrev pub scope_of : Written → Scope
scope_of w = record { classes = written_class_names w; enumerations = written_enumeration_names w }

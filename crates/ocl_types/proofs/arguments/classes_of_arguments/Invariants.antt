use Rattle.std.proofs.Common.{◌≡◌, map, drop}
use Rattle.ocl_text.specs.Tree.{trees_of}
use Rattle.ocl_text.specs.View.{view}
use Rattle.ocl_types.specs.CallView.{AreKnownClasses}
use Rattle.ocl_types.specs.Elaboration.{classes_of_arguments}
use Rattle.ocl_types.proofs.Several.{after_classes}
use Rattle.ocl_types.proofs.arguments.classes_of_arguments.Given as goal

abbrev pub invariant-arguments : goal.invariant-arguments
invariant-arguments l =
    (after_classes l.classes.items (classes_of_arguments l.model (trees_of (map view (drop l.argument-index l.arguments))))
    ≡ classes_of_arguments l.model (trees_of (map view l.arguments)))
    × AreKnownClasses l.model l.classes.items

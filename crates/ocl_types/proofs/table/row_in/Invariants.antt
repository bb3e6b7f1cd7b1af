use Rattle.std.proofs.Common.{◌≡◌, map, drop}
use Rattle.ocl_types.specs.Operators.{row_for}
use Rattle.ocl_types.specs.TableView.{operation_row_of}
use Rattle.ocl_types.proofs.table.row_in.Given as goal

abbrev pub invariant-rows : goal.invariant-rows
invariant-rows l = row_for l.model l.name l.kind (map operation_row_of l.rows) ≡ row_for l.model l.name l.kind (map operation_row_of (drop l.row-index l.rows))

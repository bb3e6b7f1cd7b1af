use Rattle.ocl_text.proofs.Outcomes.{expr_spells, expr_only, expr_refused}
use Rattle.ocl_text.proofs.parser.expression.Goals as goal

pub returns-clause-spells : goal.returns-clause-spells
returns-clause-spells c = expr_spells c.args.cursor.now.chain c.args.depth c.args.cursor.now c.expr.new.cursor c.expr.result c.expr.ensures

pub returns-clause-only : goal.returns-clause-only
returns-clause-only c = expr_only c.args.cursor.now.chain c.args.depth c.args.cursor.now c.expr.new.cursor c.expr.result c.expr.ensures

pub returns-clause-refused : goal.returns-clause-refused
returns-clause-refused c = expr_refused c.args.cursor.now.chain c.args.depth c.args.cursor.now c.expr.new.cursor c.expr.result c.expr.ensures

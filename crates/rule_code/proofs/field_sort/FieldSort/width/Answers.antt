use Rattle.std.proofs.Common.{◌∷◌, length}
use Rattle.rule_code.proofs.FieldWidths.{integer_rest, boolean_rest, text_rest, symbol_rest, single_rest, collection_rest, kind_rest, behind_first}
use Rattle.rule_code.proofs.field_sort.FieldSort.width.Goals as goal

pub returns-in-Integer : goal.returns-in-Integer
returns-in-Integer c = λ p rest after e. integer_rest (c.args.first ∷ rest) after (rw c.in-Integer.is at e)

pub returns-in-Boolean : goal.returns-in-Boolean
returns-in-Boolean c = λ p rest after e. boolean_rest c.args.first rest after (rw c.in-Boolean.is at e)

pub returns-in-Text : goal.returns-in-Text
returns-in-Text c = λ p rest after e. text_rest (length p.texts) (c.args.first ∷ rest) after (rw c.in-Text.is at e)

pub returns-in-Symbol : goal.returns-in-Symbol
returns-in-Symbol c = λ p rest after e. symbol_rest c.in-Symbol.field-0 p.symbols (c.args.first ∷ rest) after (rw c.in-Symbol.is at e)

pub returns-in-Scalar : goal.returns-in-Scalar
returns-in-Scalar c = λ p rest after e. behind_first _ _ _ _ _ c.symbol_width.ensures.width (single_rest p.symbols c.args.first rest after (rw c.in-Scalar.is at e))

pub returns-in-Collection : goal.returns-in-Collection
returns-in-Collection c = λ p rest after e. behind_first _ _ _ _ _ c.symbol_width-in-Collection.ensures.width (collection_rest p.symbols c.args.first rest after (rw c.in-Collection.is at e))

pub returns-in-Kind : goal.returns-in-Kind
returns-in-Kind c = λ p rest after e. behind_first _ _ _ _ _ c.symbol_width-in-Kind.ensures.width (kind_rest p.symbols c.args.first rest after (rw c.in-Kind.is at e))

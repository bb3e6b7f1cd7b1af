-- The data that single values stand for.
use Rattle.std.specs.Prelude.{List, map}
use Rattle.serde_json.specs.Data.{Data, boolean, number, string, Items}
use Rattle.serde_json.specs.View.{number_view, items_of}
use Rattle.token_tree.specs.declared.single.Single.{Single}
use Rattle.token_tree.specs.declared.single.Single.TheVariants as single

abbrev pub single_view : Single → Data
single_view (single.Truth b) = boolean b
single_view (single.Number n) = number (number_view n)
single_view (single.Text s) = string s.now

abbrev pub singles_view : List Single → Items
singles_view ss = items_of (map single_view ss)

use Rattle.std.proofs.Common.{◌≡◌, ℕ, List, Some}
use Rattle.json.specs.Token.{Token}
use Rattle.serde_json.specs.Data.{Items}
use Rattle.token_tree.specs.Tokens.{items_at}
use Rattle.token_tree.proofs.Singles.{behind}
use Rattle.token_tree.proofs.single.singles_of.Given as goal

abbrev pub invariant-loop : goal.invariant-loop
invariant-loop l = (depth : ℕ) (rest : Items) (r : List Token) → items_at depth l.reader ≡ Some (rest, r) → items_at depth l.initial.reader ≡ Some (behind l.found.items rest, r)

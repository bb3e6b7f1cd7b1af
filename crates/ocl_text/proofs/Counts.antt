-- How many tokens there are from a place on.
use Rattle.std.proofs.Common.{◌≡◌, ℕ, ◌-◌, List, length, map, drop, ◌∙◌, ap, zero, suc, [], ◌∷◌, refl, add-one}
use Rattle.std.proofs.lemmas.List.{length-drop, length-map, drop-map}
use Rattle.ocl_tokens.specs.declared.token.Token.{Token}
use Rattle.ocl_tokens.specs.Terminals.{terminal}
use Rattle.ocl_text.specs.declared.cursor.Cursor.{Cursor}
use Rattle.ocl_text.specs.Parses.{left, after_next}

-- as many tokens are left as the list has after the index
pub length_left : (c : Cursor) → length (left c) ≡ length c.tokens.now - c.index
length_left c = length-map (drop c.index c.tokens.now) terminal ∙ length-drop c.index c.tokens.now

drop_one : (ts : List Token) (at : ℕ) → drop 1 (drop at ts) ≡ drop (suc at) ts
drop_one [] zero = refl
drop_one [] (suc at) = refl
drop_one (t ∷ ts) zero = refl
drop_one (t ∷ ts) (suc at) = drop_one ts at

-- without the next token, what is left is what stands after it
pub drop_left : (c : Cursor) → drop 1 (left c) ≡ after_next c
drop_left c = rw add-one (drop-map terminal 1 (drop c.index c.tokens.now) ∙ ap (map terminal) (drop_one c.tokens.now c.index))

use Rattle.std.proofs.Common.{◌++◌, ◌-◌, ◌∙◌, ◌∷◌, take, string_bytes, ap}
use Rattle.std.specs.List.{flat_map}
use Rattle.std.specs.Str.{chars}
use Rattle.std.proofs.lemmas.Result.{on_ok_weaker}
use Rattle.explain_why.specs.Values.{quoted_character, max_quoted, length_text}
use Rattle.explain_why.proofs.Left.{quoted_put}
use Rattle.explain_why.proofs.values.put_quoted.Goals as goal

pub returns : goal.returns
returns c =
    let shown = flat_map quoted_character (take max_quoted (chars c.args.text.now)) in
    let same =
    ap (λ hidden. length_text hidden c.character_count-count.result) c.saturating_sub.ensures
    ∙ ap (λ count. length_text (count - max_quoted) count) c.character_count-count.ensures in
    on_ok_weaker c.put_length.result (λ put. quoted_put _ _ _ _ _ _ _ c.in_ok-put.ensures c.in_ok-put_characters.ensures c.in_ok-put-2.ensures put ∙ ap (λ l. string_bytes c.args.out.now ++ (39 ∷ (shown ++ (39 ∷ l)))) same) c.put_length.ensures

use Rattle.std.proofs.Common.{List, ℕ, ◌++◌, codes, string_bytes, ap, ◌∙◌, append_assoc}
use Rattle.std.proofs.lemmas.Result.{on_ok_weaker}
use Rattle.code_as_ocl.proofs.rules.put_mark.Goals as goal

pub returns : goal.returns
returns c =
    let out = string_bytes c.args.out.now in
    let mark = codes "    -- can't be written as OCL: " in
    let why = c.args.why.now in
    let end = codes "\n" in
    let marked = c.in_ok-put-2.ensures ∙ ap (λ (x : List ℕ). x ++ why) c.in_ok-put.ensures in
    on_ok_weaker c.put-3.result (λ put. put ∙ (ap (λ (x : List ℕ). x ++ end) marked ∙ (append_assoc (out ++ mark) why end ∙ append_assoc out mark (why ++ end)))) c.put-3.ensures

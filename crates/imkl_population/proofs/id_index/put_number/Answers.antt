use Rattle.std.proofs.Common.{◌∙◌, ap, List, ℕ, Some, String, nat_cmp, Result, Ok, Err}
use Rattle.std.specs.Result.{OnErr}
use Rattle.std.specs.Map.{update, lookup}
use Rattle.std.specs.Str.{bytes_eq}
use Rattle.std.specs.String.{string_bytes}
use Rattle.std.specs.Cmp.Lexicographic.{slice_cmp}
use Rattle.std.specs.BTreeMap.{get_by_text, is_at}
use Rattle.std.proofs.lemmas.Map.Text.{btree_map_updates_text}
use Rattle.imkl_population.proofs.id_index.put_number.Goals as goal

on_any : {X E B : Type 0} (r : Result X E) → B → OnErr r B
on_any (Ok x) b = tt
on_any (Err e) b = b

pub returns-in_err-insert-clause-err : goal.returns-in_err-insert-clause-err
returns-in_err-insert-clause-err c =
    on_any c.from_residual-in_err-insert.result
    (ap (λ (es : List (String _ × ℕ)). λ q. lookup (is_at (λ k. slice_cmp nat_cmp q (string_bytes k))) es) c.in_err-insert.ensures.err)

pub returns-clause-ok : goal.returns-clause-ok
returns-clause-ok c q =
    btree_map_updates_text _ c.args.numbers.now c.insert.new.self _ c.in_ok-insert.ensures.updates q
    ∙ ap (λ (x : List ℕ). update bytes_eq (get_by_text c.args.numbers.now) x (Some c.args.number) q) c.in_ok-key.ensures.ok

use Rattle.std.proofs.Common.{◌≡◌, ◌∙◌, true, false, is_some, ℕ, List, String, Global, string_bytes, bytes_eq, sym, ap, arith, ltb-true, length}
use Rattle.std.proofs.lemmas.Bool.{false≢true}
use Rattle.std.proofs.lemmas.Cmp.{nat_list_eq_equiv}
use Rattle.imkl_model.proofs.SortedTexts.{stands_there, stands_nowhere}
use Rattle.imkl_model.proofs.sorted_texts.rank_of.Goals as goal

pub returns-in-Some : goal.returns-in-Some
returns-in-Some c =
    let texts = c.args.sorted.now in
    let name = c.args.name.now in
    let rank = c.count_before-rank.result in
    let point = c.count_before-rank.ensures.point in
    let text = c.in-Some.text.now in
    let same : bytes_eq name (string_bytes text) ≡ true = nat_list_eq_equiv.symm name (string_bytes text) ∙ ap (λ (l : List ℕ). bytes_eq l name) (sym c.as_str.ensures.value) ∙ sym c.eq.ensures ∙ c.if-eq.true in
    sym (stands_there texts name c.requires rank point c.count_before-rank.ensures.within text (ltb-true rank (length texts) (sym c.in-Some.ensures.lookup.0)) c.in-Some.ensures.lookup.1 same)

pub returns-in_default : goal.returns-in_default
returns-in_default c =
    let texts = c.args.sorted.now in
    let name = c.args.name.now in
    let rank = c.count_before-rank.result in
    let point = c.count_before-rank.ensures.point in
    let apart : bytes_eq name (string_bytes c.in-Some.text.now) ≡ false = nat_list_eq_equiv.symm name (string_bytes c.in-Some.text.now) ∙ ap (λ (l : List ℕ). bytes_eq l name) (sym c.as_str.ensures.value) ∙ sym c.eq.ensures ∙ c.if-eq.false in
    sym (stands_nowhere texts name c.requires rank point c.count_before-rank.ensures.within (λ d lt. ap (λ (t : String Global). bytes_eq name (string_bytes t)) (sym (c.in-Some.ensures.lookup.4 (omega arith) d)) ∙ apart))

pub returns-in_default-2 : goal.returns-in_default-2
returns-in_default-2 c =
    let texts = c.args.sorted.now in
    let name = c.args.name.now in
    let rank = c.count_before-rank.result in
    let point = c.count_before-rank.ensures.point in
    sym (stands_nowhere texts name c.requires rank point c.count_before-rank.ensures.within (λ d lt. absurd (false≢true (ap is_some (sym c.in_default.is) ∙ c.get.ensures.lookup.2 lt))))

use Rattle.std.proofs.Common.{◌≡◌, ℕ, ◌∙◌, ◌+◌, ◌/◌, ◌<◌, Bool, List, length, ap, sym, subst}
use Rattle.imkl_model.specs.Tables.{has_mark, is_marked, marks}
use Rattle.imkl_model.proofs.Marks.{length-marks, row_length, row_joined, row_past, row_has}
use Rattle.imkl_model.proofs.row.Row.merge.Goals as goal

same_count : (ws vs : List ℕ) (n m : ℕ) (row other : List Bool) → marks ws n ≡ row → marks vs m ≡ other → length row ≡ length other → n ≡ m
same_count ws vs n m row other e f same = sym (row_length ws n row e) ∙ same ∙ row_length vs m other f

pub merge-requires : goal.merge-requires
merge-requires c =
    let n = same_count c.self.inside.words.items c.other.inside.words.items c.self.inside.count c.other.inside.count c.args.self.now c.args.other.now c.self.view_is c.other.view_is c.requires in
    c.self.invariant ∙ ap (λ (k : ℕ). k / 64 + 1) n ∙ sym c.other.invariant

pub returns-clause-same : goal.returns-clause-same
returns-clause-same c = length-marks c.merge.new.words.items c.self.inside.count ∙ sym (row_length c.self.inside.words.items c.self.inside.count c.args.self.now c.self.view_is)

pub returns-clause-marks : goal.returns-clause-marks
returns-clause-marks c =
    let ws = c.self.inside.words.items in
    let vs = c.other.inside.words.items in
    let n = c.self.inside.count in
    let same = same_count ws vs n c.other.inside.count c.args.self.now c.args.other.now c.self.view_is c.other.view_is c.requires in
    let other : marks vs n ≡ c.args.other.now = ap (marks vs) same ∙ c.other.view_is in
    let here : (j : ℕ) → j < n → is_marked vs j ≡ has_mark c.args.other.now j = λ j lt. row_has vs n j c.args.other.now other (subst (λ (k : ℕ). j < k) (sym (row_length vs n c.args.other.now other)) lt) in
    row_joined ws c.merge.new.words.items n (has_mark c.args.other.now) c.args.self.now c.self.view_is (λ j lt. rw (← here j lt) (c.merge.ensures.marks j)) (λ j le. row_past vs n j c.args.other.now other le)

use Rattle.std.proofs.Common.{◌≡◌, ℕ, ◌∙◌, List, ap, sym, arith}
use Rattle.imkl_model.specs.Tables.{marks}
use Rattle.imkl_model.proofs.Marks.{row_length}
use Rattle.imkl_model.proofs.row.Row.copy_from.Goals as goal

same_count : (c : goal.After-as_slice) → c.self.inside.count ≡ c.other.inside.count
same_count c =
    sym (row_length c.self.inside.words.items c.self.inside.count c.args.self.now c.self.view_is) ∙ c.requires ∙ row_length c.other.inside.words.items c.other.inside.count c.args.other.now c.other.view_is

pub copy_from_slice-requires : goal.copy_from_slice-requires
copy_from_slice-requires c =
    let n = same_count c in
    omega (arith, c.self.invariant, c.other.invariant, c.as_slice.ensures.len, c.self.inside.words.ok.0, n)

pub returns : goal.returns
returns c =
    let n = sym (row_length c.self.inside.words.items c.self.inside.count c.args.self.now c.self.view_is) ∙ c.requires ∙ row_length c.other.inside.words.items c.other.inside.count c.args.other.now c.other.view_is in
    ap (λ (k : ℕ). marks c.copy_from_slice.new.self.items k) n ∙ ap (λ (l : List ℕ). marks l c.other.inside.count) (c.copy_from_slice.ensures.items ∙ c.as_slice.ensures.value) ∙ c.other.view_is

use Rattle.std.proofs.Common.{◌≡◌, ◌-◌, take, drop, length, reverse, ap, ◌∙◌}
use Rattle.rule_machine.proofs.Tops.{top_cut}
use Rattle.rule_machine.proofs.stack.ReservedStack.drop_top.Goals as goal

pub returns-clause-items : goal.returns-clause-items
returns-clause-items g c =
    let xs = c.self.inside.items.items in
    let n : c.saturating_sub.result ≡ length xs - c.args.count = c.saturating_sub.ensures ∙ ap (λ k. k - c.args.count) (c.len.ensures ∙ c.self.inside.items.ok.0) in
    let cut : c.truncate.new.self.items ≡ take (length xs - c.args.count) xs = c.truncate.ensures.items ∙ ap (λ k. take k xs) n in
    ap reverse cut ∙ top_cut xs c.args.count ∙ ap (λ s. drop c.args.count s.0) c.self.view_is

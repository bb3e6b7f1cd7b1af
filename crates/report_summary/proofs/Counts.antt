-- Each line is of one kind.
use Rattle.std.proofs.Common.{◌≡◌, List, [], ◌∷◌, length, map, refl, ap, arith}
use Rattle.report_summary.specs.declared.kinds.LineKind.{LineKind}
use Rattle.report_summary.specs.declared.kinds.LineKind.TheVariants.{Fail, Undecided, Rule, Total, Empty, Other}
use Rattle.report_summary.specs.Tallies.{counts_of_kinds, all_lines_counted}

-- so the counts of all kinds are the number of lines
pub each_once : (ks : List LineKind) → all_lines_counted (counts_of_kinds ks) ≡ length ks
each_once [] = refl
each_once (Fail ∷ ks) = omega (arith, each_once ks)
each_once (Undecided ∷ ks) = omega (arith, each_once ks)
each_once (Rule ∷ ks) = omega (arith, each_once ks)
each_once (Total ∷ ks) = omega (arith, each_once ks)
each_once (Empty ∷ ks) = omega (arith, each_once ks)
each_once (Other ∷ ks) = omega (arith, each_once ks)

-- two functions, one after the other
pub mapped_both : {A B C : Type 0} (g : B → C) (f : A → B) (xs : List A) → map (λ x. g (f x)) xs ≡ map g (map f xs)
mapped_both g f [] = refl
mapped_both g f (x ∷ xs) = ap (λ ys. g (f x) ∷ ys) (mapped_both g f xs)

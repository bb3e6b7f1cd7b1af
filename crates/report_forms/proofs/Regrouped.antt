-- Pieces that were put one after another, as one piece behind what was there.
use Rattle.std.proofs.Common.{◌≡◌, ℕ, List, ◌++◌, append_assoc}

pub pieces2 : (o a b : List ℕ) → (o ++ a) ++ b ≡ o ++ (a ++ b)
pieces2 o a b = simp append_assoc

pub pieces3 : (o a b c : List ℕ) → ((o ++ a) ++ b) ++ c ≡ o ++ (a ++ (b ++ c))
pieces3 o a b c = simp append_assoc

pub pieces4 : (o a b c d : List ℕ) → (((o ++ a) ++ b) ++ c) ++ d ≡ o ++ (a ++ (b ++ (c ++ d)))
pieces4 o a b c d = simp append_assoc

pub pieces5 : (o a b c d e : List ℕ) → ((((o ++ a) ++ b) ++ c) ++ d) ++ e ≡ o ++ (a ++ (b ++ (c ++ (d ++ e))))
pieces5 o a b c d e = simp append_assoc

pub pieces6 : (o a b c d e f : List ℕ) → (((((o ++ a) ++ b) ++ c) ++ d) ++ e) ++ f ≡ o ++ (a ++ (b ++ (c ++ (d ++ (e ++ f)))))
pieces6 o a b c d e f = simp append_assoc

pub pieces9 : (o a b c d e f g h i : List ℕ) → ((((((((o ++ a) ++ b) ++ c) ++ d) ++ e) ++ f) ++ g) ++ h) ++ i ≡ o ++ (a ++ (b ++ (c ++ (d ++ (e ++ (f ++ (g ++ (h ++ i))))))))
pieces9 o a b c d e f g h i = simp append_assoc

-- What was last asked of each class, and what came of it.
use Rattle.std.specs.Prelude.{◌≡◌, ℕ, ◌⊎◌, List, [], slice_index_or}
use Rattle.imkl_population.specs.Required.{Requirements, with_required}

-- the features that were named with a class, and all that came of them
pub record Answered : Type 0 where
  pub named : List ℕ
  pub all : List ℕ

abbrev pub nothing_asked : Answered
nothing_asked = record { named = []; all = [] }

-- either nothing is kept, or it is what the features that were named and those that the class requires come to
abbrev pub IsAnswer : Requirements → ℕ → Answered → Type 0
IsAnswer r c a = (a.all ≡ []) ⊎ (a.all ≡ with_required r c a.named)

-- the same of each class
abbrev pub AreAnswers : Requirements → List Answered → Type 0
AreAnswers r answers = (c : ℕ) → IsAnswer r c (slice_index_or answers c nothing_asked)

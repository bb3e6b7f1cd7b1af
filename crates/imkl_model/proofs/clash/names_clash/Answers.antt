use Rattle.std.proofs.Common.{ℕ, ◌≡◌, ◌∙◌, ◌||◌, Bool, true, false, List, IfOk, length, sym, ap, subst}
use Rattle.std.proofs.lemmas.Bool.{false≢true, or_left, or_right}
use Rattle.imkl_model.specs.declared.feature.FeatureInfo.{FeatureInfo}
use Rattle.imkl_model.specs.ClassModel.{has_clash}
use Rattle.imkl_model.specs.Chains.{any_below}
use Rattle.imkl_model.specs.Renames.{renames_clash}
use Rattle.imkl_model.specs.Groups.{model_with, model_renaming, shares, AreOfOneOwner}
use Rattle.imkl_model.proofs.Doubles.{aliases, renamed, present, double_of_owner, double_of_clash, doubled_entries, old_names_clash}
use Rattle.imkl_model.proofs.ClashLaws.{found_clash}
use Rattle.imkl_model.proofs.clash.names_clash.Goals as goal
use Rattle.imkl_model.proofs.clash.names_clash.Goals.{then-branch-via-then-branch, then-branch-via-else-branch+then-repeats_own, then-branch-via-else-branch+else-repeats_own+in_ok-has_clash-2+then-branch-2}

pub returns-then-branch : goal.returns-then-branch
returns-then-branch c =
    let m = model_renaming c.args.classes.now c.args.features.now c.args.renames.now in
    elim c.then-branch.branch [
      | then-branch-via-then-branch w ↦ sym (or_left (has_clash m) (renames_clash m) (sym c.in_ok-has_clash.ensures ∙ w.if-branch.true))
      | then-branch-via-else-branch+then-repeats_own w ↦
          let h = w.repeats_own.ensures.0 w.if-repeats_own.true in
          let d = double_of_owner m.classes (aliases m) c.requires.renames h.0 h.1 (subst (λ (fs : List FeatureInfo). AreOfOneOwner fs h.0 h.1) c.aliases-aliases.ensures h.2) in
          sym (or_right (has_clash m) (renames_clash m) (doubled_entries m d.0 h.0 h.1 d.1))
      | then-branch-via-else-branch+else-repeats_own+in_ok-has_clash-2+then-branch-2 w ↦
          let is : c.aliases-aliases.result.now ≡ aliases m = c.aliases-aliases.ensures in
          let clashes : has_clash (renamed m) ≡ true = ap (λ (fs : List FeatureInfo). has_clash (model_with c.args.classes.now fs)) (sym is) ∙ sym w.in_ok-has_clash-2.ensures ∙ w.if-branch-2.true in
          let k = found_clash (renamed m) clashes in
          sym (or_right (has_clash m) (renames_clash m) (doubled_entries m k.0 k.1 k.2 (double_of_clash (renamed m) k.0 k.1 k.2 k.3)))
    ]

pub returns : goal.returns
returns c =
    let m = model_renaming c.args.classes.now c.args.features.now c.args.renames.now in
    let is : c.aliases-aliases.result.now ≡ aliases m = c.aliases-aliases.ensures in
    let apart : (i j : ℕ) → AreOfOneOwner (aliases m) i j → ⊥ = λ i j h. false≢true (sym c.if-repeats_own.false ∙ c.repeats_own.ensures.1 (i, j, subst (λ (fs : List FeatureInfo). AreOfOneOwner fs i j) (sym is) h)) in
    let none : has_clash (renamed m) ≡ false = ap (λ (fs : List FeatureInfo). has_clash (model_with c.args.classes.now fs)) (sym is) ∙ sym c.in_ok-has_clash-2.ensures ∙ c.if-branch-2.false in
    let first : has_clash m ≡ false = sym c.in_ok-has_clash.ensures ∙ c.if-branch.false in
    let same = ap (λ (fs : List FeatureInfo). any_below (shares (model_with c.args.classes.now fs) (present m)) (length fs)) is ∙ old_names_clash m apart none ∙ sym (ap (λ (b : Bool). b || renames_clash m) first) in
    subst (λ (b : Bool). IfOk c.any_shared.result (λ a. a ≡ b)) same c.any_shared.ensures

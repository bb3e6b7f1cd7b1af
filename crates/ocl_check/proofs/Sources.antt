-- Sources that are read one after another.
use Rattle.std.proofs.Common.{◌≡◌, ◌≤◌, ◌+◌, inl, inr, ℕ, Bool, true, false, List, [], Option, Result, Ok, Err, IsErrAnd, refl, sym, ap, ◌∙◌, subst, arith}
use Rattle.std.specs.Io.KnownBytes.{Consumes, IsAtEnd}
use Rattle.std.proofs.KnownBytes.{Consumes-nil}
use Rattle.std.proofs.lemmas.Bool.{false≢true}
use Rattle.ocl_check.specs.declared.input.TheConstants.{MAX_INPUT}
use Rattle.ocl_check.specs.declared.input.InputFault.{InputFault}
use Rattle.ocl_check.specs.declared.input.InputFault.TheVariants as input
use Rattle.ocl_check.specs.declared.outcome.CommandFault.{CommandFault}
use Rattle.ocl_check.specs.Answers.{input_failure, is_read}
use Rattle.ocl_check.specs.Input.{CantBeRead, ConsumesAtMost}
use Rattle.ocl_check.specs.Sources.{Used, Sources, none, ◌then◌, Each, IsReadWithinLimits, ReadsInOrder, is_for_read, fails_for_read}

-- how one source was read
pub record IsReadBy (source : Used) (fails : Bool) : Type 0 where
  pub limits : IsReadWithinLimits source
  pub fault : fails ≡ true → CantBeRead MAX_INPUT source.had source.left source.has_failed
  pub failed : source.has_failed ≡ true → fails ≡ true
  pub within : fails ≡ false → ConsumesAtMost source.had source.left MAX_INPUT

failed_read : {A : Type 0} (r : Result A InputFault) → fails_for_read r ≡ true → r ≡ Err input.Read
failed_read (Ok x) h = absurd (false≢true h)
failed_read (Err input.Read) h = refl
failed_read (Err input.OutOfMemory) h = absurd (false≢true h)

-- what reading an input says
pub is_read_by : {A : Type 0} (s : Used) (r : Result A InputFault)
    → ConsumesAtMost s.had s.left (MAX_INPUT + 1)
    → s.reads ≤ MAX_INPUT + 1
    → (r ≡ Err input.Read → CantBeRead MAX_INPUT s.had s.left s.has_failed)
    → ((r ≡ Err input.Read → ⊥) → ConsumesAtMost s.had s.left MAX_INPUT)
    → (s.has_failed ≡ true → r ≡ Err input.Read)
    → IsReadBy s (fails_for_read r)
is_read_by s r bytes few fault within failed = record {
  limits = record { bytes = bytes; few = few };
  fault = λ h. fault (failed_read r h);
  failed = λ h. ap fails_for_read (failed h);
  within = λ h. within (λ e. false≢true (sym h ∙ ap fails_for_read e));
}

-- a fault that is passed on
pub passed_on : {A : Type 0} (us : Sources) (r : Result A InputFault) (f : InputFault) → IsErrAnd r (λ e. e ≡ f) → ReadsInOrder us (is_for_read f) → ReadsInOrder us (fails_for_read r)
passed_on us (Ok x) f is h = absurd is
passed_on us (Err e) f is h = subst (λ (x : InputFault). ReadsInOrder us (is_for_read x)) (sym is) h

-- a source of which nothing was read
pub is_unread : (s : Used) → s.had ≡ s.left → s.has_failed ≡ false → s.reads ≡ 0 → IsReadWithinLimits s
is_unread s same well none_made = record {
  bytes = ([], subst (λ (l : Option (List ℕ)). Consumes s.had l []) same (Consumes-nil s.had), omega arith);
  few = omega (arith, none_made);
}

each_so : (P Q : Used → Type 0) → ((s : Used) → P s → Q s) → (us : Sources) → Each P us → Each Q us
each_so P Q so none h = tt
each_so P Q so (us then s) h = (each_so P Q so us h.0, so s h.1)

-- the next one, where the last has ended
pub read_next : (us : Sources) (last s : Used) (fails : Bool) → ReadsInOrder (us then last) false → IsAtEnd last.left → IsReadBy s fails → ReadsInOrder ((us then last) then s) fails
read_next us last s fails before end h = record {
  limits = (before.limits, h.limits);
  fault = λ f. inr (h.fault f);
  failed = (each_so (λ x. x.has_failed ≡ true → false ≡ true) (λ x. x.has_failed ≡ true → fails ≡ true) (λ x bad e. absurd (false≢true (bad e))) (us then last) before.failed, h.failed);
  within = λ f. (before.within refl, h.within f);
  order = (before.order, inl end);
}

-- one that is never reached
pub read_no_more : (us : Sources) (last s : Used) (fails : Bool) → ReadsInOrder (us then last) fails → s.had ≡ s.left → s.has_failed ≡ false → s.reads ≡ 0 → s.IsUntouched → ReadsInOrder ((us then last) then s) fails
read_no_more us last s fails before same well unread untouched = record {
  limits = (before.limits, is_unread s same well unread);
  fault = λ f. inl (before.fault f);
  failed = (before.failed, λ e. absurd (false≢true (sym well ∙ e)));
  within = λ f. (before.within f, ([], subst (λ (l : Option (List ℕ)). Consumes s.had l []) same (Consumes-nil s.had), omega arith));
  order = (before.order, inr untouched);
}

failure_same : (f : InputFault) → is_for_read f ≡ is_read (input_failure f)
failure_same input.Read = refl
failure_same input.OutOfMemory = refl

-- a command fails for a read where an input can't be had for one
pub failing : (us : Sources) (f : InputFault) (c : CommandFault) → c ≡ input_failure f → ReadsInOrder us (is_for_read f) → ReadsInOrder us (is_read c)
failing us f c is h = subst (ReadsInOrder us) (failure_same f ∙ sym (ap is_read is)) h

-- and for none where all were had
pub had_all : (us : Sources) (fails : Bool) → fails ≡ false → ReadsInOrder us false → ReadsInOrder us fails
had_all us fails is h = subst (ReadsInOrder us) (sym is) h

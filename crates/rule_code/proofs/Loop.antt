-- Reading things one after the other, as a loop does.
use Rattle.std.proofs.Common.{◌≡◌, ℕ, suc, ◌-◌, ◌+◌, ◌≤◌, ◌<◌, List, [], ◌∷◌, ◌++◌, Ok, Err, refl, sym, ap, ◌∙◌, append_assoc, arith}
use Rattle.std.proofs.lemmas.List.{append-nil}
use Rattle.rule_code.specs.declared.fault.FieldFault.{FieldFault}
use Rattle.rule_code.specs.declared.fault.FieldFault.TheVariants as faults
use Rattle.ocl_base.specs.Steps.{◌>>=◌, Fails}
use Rattle.rule_code.specs.Readers.{field_fault_meaning}
use Rattle.rule_code.specs.Reading.{FieldRead, many_from}

-- what was read before, and what is still read
abbrev pub with_front : {A : Type 0} → List A → FieldRead (List A) → FieldRead (List A)
with_front front read = read >>= λ x. Ok (front ++ x.0, x.1)

-- a loop over a count, with the things that it has read and the bytes that are left
pub record HasRead {A : Type 0} (item_from : List A → List ℕ → FieldRead A) (count : ℕ) (bytes : List ℕ) (i : ℕ) (front : List A) (rest : List ℕ) : Type 0 where
  pub so_far : with_front front (many_from item_from front (count - i) rest) ≡ many_from item_from [] count bytes

regroup : {A : Type 0} (front : List A) (n : A) (read : FieldRead (List A)) → with_front front (read >>= λ x. Ok (n ∷ x.0, x.1)) ≡ with_front (front ++ n ∷ []) read
regroup {A} front n (Ok x) = ap (λ (ns : List A). Ok (ns, x.1)) (simp append_assoc)
regroup front n (Err f) = refl

nothing_before : {A : Type 0} (read : FieldRead (List A)) → with_front [] read ≡ read
nothing_before (Ok x) = refl
nothing_before (Err f) = refl

-- before the first thing is read
pub begins : {A : Type 0} (item_from : List A → List ℕ → FieldRead A) (count : ℕ) (bytes : List ℕ) → HasRead item_from count bytes 0 [] bytes
begins item_from count bytes =
    let all : count - 0 ≡ count = omega arith in
    record { so_far = rw all (nothing_before (many_from item_from [] count bytes)) }

-- one thing more is read
pub goes_on : {A : Type 0} (item_from : List A → List ℕ → FieldRead A) (count : ℕ) (bytes : List ℕ) (i : ℕ) (front : List A) (rest : List ℕ) (n : A) (after : List ℕ)
    → i < count → item_from front rest ≡ Ok (n, after) → HasRead item_from count bytes i front rest → HasRead item_from count bytes (i + 1) (front ++ n ∷ []) after
unfolding many_from
goes_on item_from count bytes i front rest n after lt h has =
    let k : count - i ≡ suc (count - (i + 1)) = omega arith in
    let one : with_front front (many_from item_from front (count - i) rest) ≡ with_front (front ++ n ∷ []) (many_from item_from (front ++ n ∷ []) (count - (i + 1)) after) = rw (k, h) (regroup front n (many_from item_from (front ++ n ∷ []) (count - (i + 1)) after)) in
    record { so_far = sym one ∙ has.so_far }

-- the fault of a thing is the fault of the whole
pub ends : {A : Type 0} (item_from : List A → List ℕ → FieldRead A) (count : ℕ) (bytes : List ℕ) (i : ℕ) (front : List A) (rest : List ℕ) (e : FieldFault)
    → i < count → Fails field_fault_meaning e (item_from front rest) → HasRead item_from count bytes i front rest → Fails field_fault_meaning e (many_from item_from [] count bytes)
unfolding many_from
ends item_from count bytes i front rest faults.OutOfMemory lt h has = tt
ends item_from count bytes i front rest (faults.At flaw left) lt h has =
    let k : count - i ≡ suc (count - (i + 1)) = omega arith in
    let one : with_front front (many_from item_from front (count - i) rest) ≡ Err (record { flaw = flaw; left = left }) = rw (k, h) refl in
    sym has.so_far ∙ one

-- when as many things are read as the count says, they are what the whole gives
pub is_done : {A : Type 0} (item_from : List A → List ℕ → FieldRead A) (count : ℕ) (bytes : List ℕ) (i : ℕ) (front : List A) (rest : List ℕ)
    → count ≤ i → HasRead item_from count bytes i front rest → many_from item_from [] count bytes ≡ Ok (front, rest)
unfolding many_from
is_done {A} item_from count bytes i front rest le has =
    let k : count - i ≡ 0 = omega arith in
    let one : with_front front (many_from item_from front (count - i) rest) ≡ Ok (front, rest) = rw k (ap (λ (ns : List A). Ok (ns, rest)) (append-nil front)) in
    sym has.so_far ∙ one

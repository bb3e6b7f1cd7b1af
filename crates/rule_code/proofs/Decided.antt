-- What is found before anything is allocated.
use Rattle.std.proofs.Common.{◌≡◌, ℕ, zero, suc, List, [], ◌∷◌, ◌++◌, length, Result, Ok, Err, IsErr, refl, sym, ap, ◌∙◌}
use Rattle.std.specs.Int.{w16}
use Rattle.ocl_base.specs.Steps.{◌>>=◌}
use Rattle.ocl_base.proofs.ForAbove.{both_steps, ok_is, not_okay}
use Rattle.rule_code.specs.declared.version.Version.{Version}
use Rattle.rule_code.specs.Content.{Content}
use Rattle.rule_code.specs.Reading.{Fault, FieldRead, number_from, many_from}
use Rattle.rule_code.specs.Parts.{text_from}
use Rattle.rule_code.specs.CodeFile.{head_from, texts_from, first_of, first_text_from, decided_from, HasNoTexts, symbols_from, rules_from, ended, whole_from}

-- a value is no fault
pub no_err : {A E : Type 0} (x : A) (r : Result A E) → r ≡ Ok x → IsErr r → ⊥
no_err x (Ok y) e h = cc
no_err x (Err z) e h = cc

-- of two steps of which the second can't fail, the first failed
pub first_failed : {A B E : Type 0} (r : Result A E) (f : A → B) → IsErr (r >>= λ x. Ok (f x)) → IsErr r
first_failed (Ok x) f h = cc
first_failed (Err z) f h = refl

-- behind the head, the count or the first text is at fault
pub behind_head : (bytes : List ℕ) (x : Version × List ℕ) → head_from bytes ≡ Ok x → IsErr (decided_from bytes) → IsErr (first_text_from x.1)
unfolding decided_from
behind_head bytes x head h = rw head at h

-- the first text is read: it isn't at fault
pub first_is_read : (n : ℕ) (bytes : List ℕ) (x : List ℕ × List ℕ) → text_from bytes ≡ Ok x → IsErr (first_of n bytes) → ⊥
first_is_read zero bytes x e h = cc
first_is_read (suc n) bytes x e h = no_err x (text_from bytes) e (first_failed (text_from bytes) (λ t. tt) h)

first_text_read : (n : ℕ) (bytes : List ℕ) (x : List (List ℕ) × List ℕ) → many_from (λ before. text_from) [] n bytes ≡ Ok x → IsErr (first_of n bytes) → ⊥
unfolding many_from
first_text_read zero bytes x e h = cc
first_text_read (suc n) bytes x e h =
    let a = both_steps (text_from bytes) (λ first. many_from (λ before. text_from) ([] ++ first.0 ∷ []) n first.1 >>= λ others. Ok (first.0 ∷ others.0, others.1)) x e in
    first_is_read (suc n) bytes a.0 a.1 h

texts_read_by : (bytes : List ℕ) (x : List (List ℕ) × List ℕ) (r : FieldRead ℕ) → (r >>= λ n. many_from (λ before. text_from) [] n.0 n.1) ≡ Ok x → IsErr (r >>= λ n. first_of n.0 n.1) → ⊥
texts_read_by bytes x (Ok n) e h = first_text_read n.0 n.1 x e h
texts_read_by bytes x (Err z) e h = cc

-- where the texts are read, neither the count nor the first text is at fault
pub texts_read : (bytes : List ℕ) (x : List (List ℕ) × List ℕ) → texts_from bytes ≡ Ok x → IsErr (first_text_from bytes) → ⊥
unfolding texts_from first_text_from
texts_read bytes x e h = texts_read_by bytes x (number_from w16 bytes) e h

none_read_by : (after : List ℕ) (x : List (List ℕ) × List ℕ) (r : FieldRead ℕ) → r ≡ Ok (0, after) → (r >>= λ n. many_from (λ before. text_from) [] n.0 n.1) ≡ Ok x → length x.0 ≡ 0
unfolding many_from
none_read_by after x r none e =
    let read : FieldRead (List (List ℕ)) = Ok ([], after) in
    let both : read ≡ Ok x = rw none at e in
    sym (ap (λ (y : List (List ℕ) × List ℕ). length y.0) (ok_is ([], after) x both))

-- where there are no texts, the count of texts is read, and it is zero
pub none_counted : (bytes : List ℕ) (v : Version × List ℕ) → (none : HasNoTexts bytes) → head_from bytes ≡ Ok v → number_from w16 v.1 ≡ Ok (0, none.after)
none_counted bytes v none head =
    ap (λ (w : Version × List ℕ). number_from w16 w.1) (ok_is v (none.version, none.rest) (sym head ∙ none.head)) ∙ none.count

-- no texts are read where there are none
pub none_read : (bytes : List ℕ) (v : Version × List ℕ) (x : List (List ℕ) × List ℕ) → HasNoTexts bytes → head_from bytes ≡ Ok v → texts_from v.1 ≡ Ok x → length x.0 ≡ 0
unfolding texts_from
none_read bytes v x none head texts = none_read_by none.after x (number_from w16 v.1) (none_counted bytes v none head) texts

-- ---- what is decided is the first fault

-- a fault of a step is that of all that stands behind it
failed_whole : {A B C E : Type 0} (r : Result A E) (g : A → Result B E) (h : A → Result C E) (e : E) → ((x : A) → g x ≡ Err e → h x ≡ Err e) → (r >>= g) ≡ Err e → (r >>= h) ≡ Err e
failed_whole (Ok x) g h e same failed = same x failed
failed_whole {C = C} {E = E} (Err z) g h e same failed = let is : z ≡ e = cc in ap (λ (y : E). Err y) is

-- a fault of the first text is that of the texts
first_of_texts : (n : ℕ) (bytes : List ℕ) (f : Fault) → first_of n bytes ≡ Err f → many_from (λ before. text_from) [] n bytes ≡ Err f
unfolding many_from
first_of_texts zero bytes f h = cc
first_of_texts (suc n) bytes f h =
    let done : List ℕ × List ℕ → Result (Unit {0}) Fault = λ t. Ok tt in
    let others : List ℕ × List ℕ → FieldRead (List (List ℕ)) = λ first. many_from (λ before. text_from) ([] ++ first.0 ∷ []) n first.1 >>= λ others. Ok (first.0 ∷ others.0, others.1) in
    let never : (x : List ℕ × List ℕ) → done x ≡ Err f → others x ≡ Err f = λ x (bad : Ok tt ≡ Err f). absurd cc in
    failed_whole (text_from bytes) done others f never h

texts_failed : (bytes : List ℕ) (f : Fault) → first_text_from bytes ≡ Err f → texts_from bytes ≡ Err f
unfolding first_text_from texts_from
texts_failed bytes f h =
    failed_whole (number_from w16 bytes) (λ n. first_of n.0 n.1) (λ n. many_from (λ before. text_from) [] n.0 n.1) f (λ n. first_of_texts n.0 n.1 f) h

-- the fault of what is read before anything is allocated is the first
pub decided_is_first : (bytes : List ℕ) (f : Fault) → decided_from bytes ≡ Err f → whole_from bytes ≡ Err f
unfolding decided_from whole_from
decided_is_first bytes f h =
    let body : Version × List ℕ → Result Content Fault = λ version. texts_from version.1 >>= λ texts. symbols_from (length texts.0) texts.1 >>= λ symbols. rules_from (record { version = version.0; texts = texts.0; symbols = symbols.0 }) symbols.1 >>= λ rules. ended (record { version = version.0; texts = texts.0; symbols = symbols.0; rules = rules.0 }) rules.1 in
    failed_whole (head_from bytes) (λ version. first_text_from version.1) body f (λ version failed. rw (texts_failed version.1 f failed) refl) h

-- what is read has no fault that is found before anything is allocated
pub never_decided : (bytes : List ℕ) (u : Content) (f : Fault) → whole_from bytes ≡ Ok u → decided_from bytes ≡ Err f → ⊥
never_decided bytes u f read h = not_okay f u (sym (decided_is_first bytes f h) ∙ read)

-- a fault of the whole is the one that is found before anything is allocated, where there is one
pub decided_fault : (bytes : List ℕ) (g f : Fault) → whole_from bytes ≡ Err g → decided_from bytes ≡ Err f → g ≡ f
decided_fault bytes g f refused h =
    let one : Result Content Fault = Err g in
    let both : one ≡ Err f = sym refused ∙ decided_is_first bytes f h in
    cc

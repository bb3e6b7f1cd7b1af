-- One value more in a set of values.
use Rattle.std.proofs.Common.{◌≡◌, ℕ, Bool, true, false, ◌||◌, cond, List, Ordering, refl, sym, ap, ◌∙◌, bytes_eq}
use Rattle.std.specs.Ordering.{nat_cmp, is_eq, ordering_then}
use Rattle.std.specs.BTreeSet.{contains, contains_text}
use Rattle.std.specs.Prelude.{encode_utf8_all}
use Rattle.std.specs.Str.{all_scalars}
use Rattle.std.proofs.Math.Bool.{or-false}
use Rattle.imkl_population.specs.declared.repeats.Seen.{Seen}
use Rattle.imkl_population.specs.declared.scalar.Scalar.TheVariants as scalar
use Rattle.imkl_population.specs.Seen.{has_seen, SeesMore}
use Rattle.imkl_population.proofs.Encoded.{bytes_eq-encoded, is_eq-pair}

cond_or : (b c : Bool) → cond b true c ≡ (c || b)
cond_or true true = refl
cond_or true false = refl
cond_or false true = refl
cond_or false false = refl

-- a text is added: n holds the texts after that
pub text_more : (old n : Seen) (key t : List ℕ) → all_scalars t ≡ true → encode_utf8_all t ≡ key
    → ((q : List ℕ) → contains_text n.texts q ≡ cond (bytes_eq key q) true (contains_text old.texts q)) → SeesMore old (scalar.Text t) (record old { texts = n.texts })
text_more old n key t ok keyed after (scalar.Text u) enc =
    let e : bytes_eq key (encode_utf8_all u) ≡ bytes_eq u t = ap (λ (k : List ℕ). bytes_eq k (encode_utf8_all u)) (sym keyed) ∙ bytes_eq-encoded t u ok enc in
    after (encode_utf8_all u) ∙ cond_or (bytes_eq key (encode_utf8_all u)) (contains_text old.texts (encode_utf8_all u)) ∙ rw e refl
text_more old n key t ok keyed after (scalar.Bool b) enc = sym (or-false (has_seen old (scalar.Bool b)))
text_more old n key t ok keyed after (scalar.Int k) enc = sym (or-false (has_seen old (scalar.Int k)))
text_more old n key t ok keyed after (scalar.Literal d l) enc = sym (or-false (has_seen old (scalar.Literal d l)))
text_more old n key t ok keyed after (scalar.Object o) enc = sym (or-false (has_seen old (scalar.Object o)))

abbrev pair_cmp : ℕ × ℕ → ℕ × ℕ → Ordering
pair_cmp p q = ordering_then (nat_cmp p.0 q.0) (nat_cmp p.1 q.1)

-- a literal is added: n holds the literals after that
pub literal_more : (old n : Seen) (d k e l : ℕ) → d ≡ e → k ≡ l
    → ((q : ℕ × ℕ) → contains pair_cmp n.literals q ≡ cond (is_eq (pair_cmp (d, k) q)) true (contains pair_cmp old.literals q)) → SeesMore old (scalar.Literal e l) (record old { literals = n.literals })
literal_more old n d k e l p r after (scalar.Literal x y) enc =
    after (x, y) ∙ cond_or (is_eq (pair_cmp (d, k) (x, y))) (contains pair_cmp old.literals (x, y)) ∙ rw (is_eq-pair d k x y, p, r) refl
literal_more old n d k e l p r after (scalar.Bool b) enc = sym (or-false (has_seen old (scalar.Bool b)))
literal_more old n d k e l p r after (scalar.Int z) enc = sym (or-false (has_seen old (scalar.Int z)))
literal_more old n d k e l p r after (scalar.Text t) enc = sym (or-false (has_seen old (scalar.Text t)))
literal_more old n d k e l p r after (scalar.Object o) enc = sym (or-false (has_seen old (scalar.Object o)))

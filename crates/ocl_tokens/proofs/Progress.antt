-- What the scan keeps: the tokens so far, and what is left.
use Rattle.std.proofs.Common.{◌≡◌, ℕ, ◌+◌, ◌-◌, List, [], ◌∷◌, ◌++◌, length, take, drop, IsUtf8, refl, sym, ap, ◌∙◌, subst, arith, append-nil, append_assoc}
use Rattle.std.specs.Prelude.{slice_range}
use Rattle.std.proofs.lemmas.List.{map-append, length-drop, drop-drop}
use Rattle.std.proofs.lemmas.Str.{IsUtf8-drop}
use Rattle.std.specs.Str.{IsCharBoundary}
use Rattle.ocl_tokens.specs.declared.token.Token as t
use Rattle.ocl_tokens.specs.declared.lexeme.Lexeme.TheVariants.{End, Blank, Token, Fault}
use Rattle.ocl_tokens.specs.declared.fault.TextFlaw.{TextFlaw}
use Rattle.ocl_tokens.specs.Terminals.{Terminal, terminal, terminals, AreSpanned}
use Rattle.ocl_tokens.specs.Lexical.{LexesFrom, at_end, blank, token, HasFlawFrom, here, past_blank, past_token}
use Rattle.ocl_tokens.specs.FirstLexeme.{first_lexeme}
use Rattle.ocl_tokens.proofs.Lexemes.{first_end, first_blank, first_token, first_fault}

pub record Before (text : List ℕ) (out : List t.Token) (at : ℕ) (rest : List ℕ) : Type 0 where
  pub tokens : (ws : List Terminal) → LexesFrom at rest ws → LexesFrom 0 text (terminals out ++ ws)
  pub fault : (flaw : TextFlaw) (offset : ℕ) → HasFlawFrom at rest flaw offset → HasFlawFrom 0 text flaw offset
  pub spans : (ts : List t.Token) → AreSpanned at text ts → AreSpanned 0 text (out ++ ts)
  pub left : rest ≡ drop at text
  pub utf8 : IsUtf8 rest
  pub split : at + length rest ≡ length text

-- a blank moves the place from which the next token is looked for
later : (at n : ℕ) (source : List ℕ) (ts : List t.Token) → AreSpanned (at + n) source ts → AreSpanned at source ts
later at n source [] h = tt
later at n source (x ∷ ts) h = (omega (arith, h.0), h.1, h.2, h.3, h.4)

range_is : (source : List ℕ) (i n j : ℕ) → j ≡ i + n → slice_range source i j ≡ take n (drop i source)
range_is source i n j e = let d : j - i ≡ n = omega arith in rw d refl

module _ {text : List ℕ} {out : List t.Token} {at : ℕ} {rest : List ℕ} (b : Before text out at rest) where
  -- at the end of the text, the tokens so far are its tokens
  pub end_of : End ≡ first_lexeme rest → LexesFrom 0 text (terminals out)
  end_of h = subst (LexesFrom 0 text) (append-nil (terminals out)) (b.tokens [] (rw (first_end rest (sym h)) at_end))

  -- the tokens so far stand where their spans say
  pub spans_of : AreSpanned 0 text out
  spans_of = subst (AreSpanned 0 text) (append-nil out) (b.spans [] tt)

  -- a fault that is read next is the flaw of the text
  pub fault_of : {flaw : TextFlaw} {n : ℕ} → Fault flaw n ≡ first_lexeme rest → HasFlawFrom 0 text flaw (at + n)
  fault_of h = b.fault _ _ (here (first_fault at rest _ _ (sym h)))

  -- a blank that is read next is left behind, and no token is added
  pub blank_of : (n : ℕ) (after : List ℕ) → Blank n ≡ first_lexeme rest → IsCharBoundary rest n → after ≡ drop n rest → Before text out (at + n) after
  blank_of n after h boundary is = record {
    tokens = λ ws d. b.tokens ws (blank (first_blank rest n (sym h)) (rw is at d));
    fault = λ flaw offset d. b.fault flaw offset (past_blank (first_blank rest n (sym h)) (rw is at d));
    spans = λ ts d. b.spans ts (later at n text ts d);
    left = is ∙ ap (drop n) b.left ∙ drop-drop n at text;
    utf8 = rw is (IsUtf8-drop rest n b.utf8 boundary);
    split = rw is (omega (arith, b.split, length-drop n rest, boundary.0));
  }

  -- a token that is read next comes behind those so far
  pub token_of : (x : t.Token) (n : ℕ) (after : List ℕ) → Token x.kind n ≡ first_lexeme rest → IsCharBoundary rest n → x.span.start ≡ at → x.span.end ≡ at + n → x.text.now ≡ take n rest → after ≡ drop n rest → Before text (out ++ x ∷ []) (at + n) after
  token_of x n after h boundary at_is end_is text_is is = record {
    tokens = λ ws d. rw (map-append terminal out (x ∷ []), append_assoc) (b.tokens (terminal x ∷ ws) (rw (at_is, text_is) (token (first_token rest x.kind n (sym h)) (rw is at d))));
    fault = λ flaw offset d. b.fault flaw offset (past_token (first_token rest x.kind n (sym h)) (rw is at d));
    spans = λ ts d. rw append_assoc (b.spans (x ∷ ts) (omega arith, omega arith, omega (arith, b.split, boundary.0), text_is ∙ ap (take n) b.left ∙ rw at_is (sym (range_is text at n x.span.end end_is)), rw end_is d));
    left = is ∙ ap (drop n) b.left ∙ drop-drop n at text;
    utf8 = rw is (IsUtf8-drop rest n b.utf8 boundary);
    split = rw is (omega (arith, b.split, length-drop n rest, boundary.0));
  }

-- What the outcome of parsing says of the text.
use Rattle.std.proofs.Common.{◌≡◌, ℕ, List, [], length, Bool, true, false, Result, Ok, Err, refl, subst, IfOk}
use Rattle.std.specs.Prelude.{IfErr}
use Rattle.ocl_base.specs.Steps.{Means}
use Rattle.ocl_tokens.specs.declared.fault.TextFlaw.{TextFlaw}
use Rattle.ocl_tokens.specs.declared.fault.TextFlaw.TheVariants as w
use Rattle.ocl_tokens.specs.declared.fault.TextFault.{TextFault}
use Rattle.ocl_tokens.specs.declared.fault.TextFault.TheVariants as f
use Rattle.ocl_tokens.specs.declared.token.Token.{Token}
use Rattle.ocl_tokens.specs.Terminals.{Terminal}
use Rattle.ocl_tokens.specs.Lexical as l
use Rattle.ocl_tokens.specs.Lexical.{Lexes, IsFlaw, HasFlawFrom, IsLexicalFault}
use Rattle.ocl_tokens.proofs.ForAbove.{one_token_list}
use Rattle.ocl_text.specs.declared.cursor.Cursor.{Cursor}
use Rattle.ocl_text.specs.declared.cursor.ParseFault.{ParseFault}
use Rattle.ocl_text.specs.declared.cursor.ParseFault.TheVariants as r
use Rattle.ocl_text.specs.declared.tree.Expression.{Expression}
use Rattle.ocl_text.specs.Tree.{Rule, SurfaceTree}
use Rattle.ocl_text.specs.View.{view}
use Rattle.ocl_text.specs.Grammar.{IsExpr, SpellsExpr, Spells}
use Rattle.ocl_text.specs.RuleText.{TextSpells, TextSpellsWithin, RepeatsAt, first_offset, IsWrong, IsTooDeep, IsRepeated, IfLexical, IfSyntax, IfTooDeep, IfDuplicate}
use Rattle.ocl_text.specs.Parse.{TokensFault, syntax, too_deep, Reading, expr, all_rules}
use Rattle.ocl_text.specs.Parses.{from, left, meaning, Parses, UnlessOutOfMemory, text_fault}
use Rattle.ocl_text.proofs.Complete.{complete_expr}
use Rattle.ocl_text.proofs.Sound.{sound_expr}
use Rattle.ocl_text.proofs.Refused.{wrong_at, too_deep_at}
use Rattle.ocl_text.proofs.Wider.{read_spells, one_expr, one_list}

-- ---- an expression

module _ (chain n : ℕ) (c d : Cursor) where
  expr_found : (x : Expression) → expr chain n (left c) ≡ Ok (view x, left d) → IsExpr chain n (left c) (view x) (left d)
  expr_found x h = subst (λ (r : Reading SurfaceTree). IfOk r (λ y. IsExpr chain n (left c) y.0 y.1)) h (sound_expr chain n (left c))

  -- an expression that was parsed is what the tokens spell
  pub expr_spells : (x : Result Expression ParseFault) → Parses c d view x (expr chain n (left c)) → IfOk x (λ y. IsExpr chain n (left c) (view y) (left d))
  expr_spells (Ok x) h = expr_found x h.0
  expr_spells (Err e) h = tt

  -- the tokens begin with no other expression than the one that was parsed
  pub expr_only : (x : Result Expression ParseFault) → Parses c d view x (expr chain n (left c))
      → IfOk x (λ y. (tree : SurfaceTree) (rest : List Terminal) → SpellsExpr (left c) tree rest → (tree ≡ view y) × (rest ≡ left d))
  expr_only (Ok x) h = λ tree rest e. one_expr (left c) tree (view x) rest (left d) e (n, chain, expr_found x h.0)
  expr_only (Err e) h = tt

  no_expr : (s : TokensFault) → expr chain n (left c) ≡ Err s → (tree : SurfaceTree) (rest : List Terminal) → IsExpr chain n (left c) tree rest → ⊥
  no_expr s h tree rest is = let e = complete_expr is in cc (h, e)

  -- where parsing an expression was refused, the tokens begin with none within the limits
  pub expr_refused : (x : Result Expression ParseFault) → Parses c d view x (expr chain n (left c)) → IfErr x (UnlessOutOfMemory ((tree : SurfaceTree) (rest : List Terminal) → IsExpr chain n (left c) tree rest → ⊥))
  expr_refused (Ok x) h = tt
  expr_refused (Err r.OutOfMemory) h = tt
  expr_refused (Err (r.Syntax i)) h = no_expr _ h
  expr_refused (Err (r.TooDeep i)) h = no_expr _ h

-- ---- a whole text

module _ (nesting chain : ℕ) (text : List ℕ) (ts : List Terminal) (lexes : Lexes text ts) where
  -- rules that were read from the tokens are what the text spells
  pub text_spells : (rules : List Rule) → all_rules nesting chain ts ≡ Ok rules → TextSpellsWithin nesting chain text rules
  text_spells rules h = (ts, lexes, read_spells nesting chain ts rules h)

  -- the text spells no other rules than those that were read
  pub text_only : (rules : List Rule) → all_rules nesting chain ts ≡ Ok rules → (others : List Rule) → TextSpells text others → others ≡ rules
  text_only rules h others (us, reads, spells) =
      one_list ts others rules (subst (λ (l : List Terminal). Spells l others) (one_token_list text us ts reads lexes) spells) (nesting, chain, read_spells nesting chain ts rules h)

  text_wrong : (s : List Terminal) → all_rules nesting chain ts ≡ Err (syntax s) → IsWrong text (first_offset (length text) s)
  text_wrong s h = record { tokens = ts; rest = s; lexes = lexes; stands = refl; wrong = wrong_at nesting chain ts s h }

  text_too_deep : (s : List Terminal) → all_rules nesting chain ts ≡ Err (too_deep s) → IsTooDeep nesting chain text (first_offset (length text) s)
  text_too_deep s h = record { tokens = ts; rest = s; lexes = lexes; stands = refl; too_deep = too_deep_at nesting chain ts s h }

  -- a fault of syntax stands where the text goes wrong
  pub refused_syntax : (tokens : List Token) (fault : ParseFault) → Means (meaning tokens fault) (all_rules nesting chain ts) → IfSyntax text (text_fault tokens (length text) fault)
  refused_syntax tokens r.OutOfMemory h = tt
  refused_syntax tokens (r.Syntax i) h = text_wrong (from tokens i) h
  refused_syntax tokens (r.TooDeep i) h = tt

  -- a fault of depth stands where the text goes too deep
  pub refused_too_deep : (tokens : List Token) (fault : ParseFault) → Means (meaning tokens fault) (all_rules nesting chain ts) → IfTooDeep nesting chain text (text_fault tokens (length text) fault)
  refused_too_deep tokens r.OutOfMemory h = tt
  refused_too_deep tokens (r.Syntax i) h = tt
  refused_too_deep tokens (r.TooDeep i) h = text_too_deep (from tokens i) h

  -- a name that is repeated among the rules that were read is repeated in the text
  pub text_repeats : (rules : List Rule) (offset : ℕ) → all_rules nesting chain ts ≡ Ok rules → RepeatsAt [] rules offset → IsRepeated nesting chain text offset
  text_repeats rules offset h repeats = record { rules = rules; spells = text_spells rules h; repeats = repeats }

-- a refusal of the tokens is no other fault
pub refused_lexical : (text : List ℕ) (tokens : List Token) (end : ℕ) (fault : ParseFault) → IfLexical text (text_fault tokens end fault)
refused_lexical text tokens end r.OutOfMemory = tt
refused_lexical text tokens end (r.Syntax i) = tt
refused_lexical text tokens end (r.TooDeep i) = tt

-- a refusal by the parser is no repeated name
pub refused_duplicate : (nesting chain : ℕ) (text : List ℕ) (tokens : List Token) (end : ℕ) (fault : ParseFault) → IfDuplicate nesting chain text (text_fault tokens end fault)
refused_duplicate nesting chain text tokens end r.OutOfMemory = tt
refused_duplicate nesting chain text tokens end (r.Syntax i) = tt
refused_duplicate nesting chain text tokens end (r.TooDeep i) = tt

-- the flaws 1 to 5
abbrev is_lexical : TextFlaw → Bool
is_lexical w.Syntax = false
is_lexical w.TooDeep = false
is_lexical w.DuplicateRule = false
is_lexical _ = true

ahead_lexical : {from offset : ℕ} {text : List ℕ} {flaw : TextFlaw} → IsFlaw from text flaw offset → is_lexical flaw ≡ true
ahead_lexical (l.bad_character a b c) = refl
ahead_lexical (l.open_string a) = refl
ahead_lexical (l.bad_escape a) = refl
ahead_lexical (l.number_too_large a b) = refl
ahead_lexical (l.open_comment a) = refl

only_lexical : {from offset : ℕ} {text : List ℕ} {flaw : TextFlaw} → HasFlawFrom from text flaw offset → is_lexical flaw ≡ true
only_lexical (l.here h) = ahead_lexical h
only_lexical (l.past_blank h d) = only_lexical d
only_lexical (l.past_token h d) = only_lexical d

-- a fault of the tokens is none of the others
pub stops_lexical : (text : List ℕ) (fault : TextFault) → IsLexicalFault text fault → IfLexical text fault
stops_lexical text f.OutOfMemory h = tt
stops_lexical text (f.At w.Syntax offset) h = tt
stops_lexical text (f.At w.TooDeep offset) h = tt
stops_lexical text (f.At w.DuplicateRule offset) h = tt
stops_lexical text (f.At w.BadCharacter offset) h = h
stops_lexical text (f.At w.OpenString offset) h = h
stops_lexical text (f.At w.BadEscape offset) h = h
stops_lexical text (f.At w.NumberTooLarge offset) h = h
stops_lexical text (f.At w.OpenComment offset) h = h

-- it is no fault of syntax
pub stops_no_syntax : (text : List ℕ) (fault : TextFault) → IsLexicalFault text fault → IfSyntax text fault
stops_no_syntax text f.OutOfMemory h = tt
stops_no_syntax text (f.At w.Syntax offset) h = let e = only_lexical h in absurd (cc (e))
stops_no_syntax text (f.At _ offset) h = tt

-- it is no fault of depth
pub stops_no_depth : (nesting chain : ℕ) (text : List ℕ) (fault : TextFault) → IsLexicalFault text fault → IfTooDeep nesting chain text fault
stops_no_depth nesting chain text f.OutOfMemory h = tt
stops_no_depth nesting chain text (f.At w.TooDeep offset) h = let e = only_lexical h in absurd (cc (e))
stops_no_depth nesting chain text (f.At _ offset) h = tt

-- it is no repeated name
pub stops_no_duplicate : (nesting chain : ℕ) (text : List ℕ) (fault : TextFault) → IsLexicalFault text fault → IfDuplicate nesting chain text fault
stops_no_duplicate nesting chain text f.OutOfMemory h = tt
stops_no_duplicate nesting chain text (f.At w.DuplicateRule offset) h = let e = only_lexical h in absurd (cc (e))
stops_no_duplicate nesting chain text (f.At _ offset) h = tt

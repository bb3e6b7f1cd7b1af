-- The machine makes the same steps with code whose symbols are present names, whatever old names there are.
use Rattle.std.proofs.Common.{◌≡◌, ◌∙◌, ℕ, ◌&&◌, Bool, true, false, List, [], ◌∷◌, length, drop, Option, Some, None, refl, ap, option_map, option_and_then, if◌then◌else◌}
use Rattle.std.specs.Prelude.{nat_le}
use Rattle.std.proofs.lemmas.List.Elements.{All-head}
use Rattle.imkl_population.specs.declared.object.Object.{Object}
use Rattle.imkl_population.specs.declared.scalar.Scalar.TheVariants as scalar
use Rattle.imkl_population.specs.Population.{Population}
use Rattle.rule_code.specs.declared.instruction.Instr.{Instr}
use Rattle.rule_code.specs.declared.instruction.Instr.TheVariants as instrs
use Rattle.rule_verify.specs.declared.block_instr.BlockInstr.{BlockInstr}
use Rattle.rule_verify.specs.declared.block_instr.BlockInstr.TheVariants as blocks
use Rattle.rule_verify.specs.declared.named.Named.{Named}
use Rattle.rule_verify.specs.declared.named.Named.TheVariants as named
use Rattle.rule_verify.specs.CodeTree.{CodeTree, End, Plain, Block, Branch, Torn, block_of}
use Rattle.rule_verify.specs.InstrKinds.{bound_count}
use Rattle.rule_values.specs.Value as value
use Rattle.rule_values.specs.Value.{Element, Value}
use Rattle.rule_values.specs.Operations.{kind_test, type_test, cast, all_instances}
use Rattle.rule_values.specs.Endings.{Source}
use Rattle.rule_machine.specs.Machine.{Setting, is_what, are_what, operands_below, literal_named, on_class_named, value_named_read, symbol_named, result_of, performed, Piece, Sequence, LetEnd, Opened, Turning, Skipped, Configuration, settle, configuration, branched, opened_over, fold_opened, block_opened_by, block_opened, keeping, turned, on_operand, advanced, piece_advanced, step, start}
use Rattle.old_name_laws.proofs.Symbols.{Case, in_one, in_other, Agrees, IsAlike}
use Rattle.old_name_laws.proofs.Rows.{names_alike, operands_alike, ends_alike}
use Rattle.old_name_laws.proofs.Trees.{AllIn}
use Rattle.old_name_laws.proofs.Values.{read_alike}

-- ---- what is pending is some code's

abbrev pub InPiece : (Instr → Type 0) → Piece → Type 0
InPiece P (Sequence t) = AllIn P t
InPiece P LetEnd = Unit {0}
InPiece P (Opened i body source kept) = P i × AllIn P body
InPiece P (Turning i body source left kept) = P i × AllIn P body
InPiece P Skipped = Unit {0}

abbrev pub InPieces : (Instr → Type 0) → List Piece → Type 0
InPieces P [] = Unit {0}
InPieces P (q ∷ qs) = InPiece P q × InPieces P qs

-- the same of the configuration that a step gives, if it gives one
abbrev pub InNext : (Instr → Type 0) → Option Configuration → Type 0
InNext P None = Unit {0}
InNext P (Some c) = InPieces P c.pending

module _ (P : Instr → Type 0) where
  in_settled : (ps : List Piece) → InPieces P ps → InPieces P (settle ps)
  in_settled [] h = h
  in_settled (Sequence End ∷ ps) h = in_settled ps h.1
  in_settled (q ∷ ps) h = h

  in_mapped : {X : Type 0} (f : X → Configuration) (o : Option X) → ((y : X) → InPieces P (f y).pending) → InNext P (option_map f o)
  in_mapped f None h = tt
  in_mapped f (Some y) h = h y

  in_bound : {X : Type 0} (f : X → Option Configuration) (o : Option X) → ((y : X) → InNext P (f y)) → InNext P (option_and_then f o)
  in_bound f None h = tt
  in_bound f (Some y) h = h y

  in_branched : (v : Value) (first second : CodeTree) (ps : List Piece) (vars os : List Value) → AllIn P first → AllIn P second → InPieces P ps
      → InNext P (branched v first second ps vars os)
  in_branched (value.Single (scalar.Bool true)) first second ps vars os h k more = in_settled (Sequence first ∷ ps) (h, more)
  in_branched (value.Single (scalar.Bool false)) first second ps vars os h k more = in_settled (Sequence second ∷ ps) (k, more)
  in_branched value.Null first second ps vars os h k more = in_settled ps more
  in_branched value.Invalid first second ps vars os h k more = in_settled ps more
  in_branched v first second ps vars os h k more = tt

  in_opened : (i : Instr) (body : CodeTree) (v : Value) (kept : List Value) (ps : List Piece) (vars os : List Value) → P i → AllIn P body → InPieces P ps
      → InNext P (opened_over i body v kept ps vars os)
  in_opened i body (value.Collection c es) kept ps vars os h k more = ((h, k), more)
  in_opened i body value.Invalid kept ps vars os h k more = (tt, more)
  in_opened i body v kept ps vars os h k more = tt

  in_fold : (i : Instr) (body : CodeTree) (v : Value) (os : List Value) (ps : List Piece) (vars left : List Value) → P i → AllIn P body → InPieces P ps
      → InNext P (fold_opened i body v os ps vars left)
  in_fold i body v [] ps vars left h k more = tt
  in_fold i body v (w ∷ os) ps vars left h k more = in_opened i body w (v ∷ []) ps vars left h k more

  in_block : (b : Option BlockInstr) (i : Instr) (body : CodeTree) (v : Value) (os : List Value) (ps : List Piece) (vars left : List Value) → P i → AllIn P body → InPieces P ps
      → InNext P (block_opened_by b i body v os ps vars left)
  in_block (Some (blocks.Let n)) i body v os ps vars left h k more = in_settled (Sequence body ∷ LetEnd ∷ ps) (k, (tt, more))
  in_block (Some (blocks.Fold w n)) i body v os ps vars left h k more = in_fold i body v os ps vars left h k more
  in_block b i body v os ps vars left h k more = in_opened i body v [] ps vars left h k more

  in_opened_block : (i : Instr) (body : CodeTree) (os : List Value) (ps : List Piece) (vars left : List Value) → P i → AllIn P body → InPieces P ps
      → InNext P (block_opened i body os ps vars left)
  in_opened_block i body [] ps vars left h k more = tt
  in_opened_block i body (v ∷ os) ps vars left h k more = in_block (block_of i) i body v os ps vars left h k more

  in_turned : (i : Instr) (body : CodeTree) (source : Source) (left : List Element) (kept : List Value) (ps : List Piece) (vars os : List Value) → P i → AllIn P body → InPieces P ps
      → InPieces P (turned i body source left kept ps vars os).pending
  in_turned i body source [] kept ps vars os h k more = in_settled ps more
  in_turned i body source (e ∷ left) kept ps vars os h k more = in_settled (Sequence body ∷ Turning i body source left kept ∷ ps) (k, ((h, k), more))

  module _ (s : Setting) where
    in_operand : (i : Instr) (os : List Value) (go : Value → List Value → Option Configuration) → ((v : Value) (left : List Value) → InNext P (go v left)) → InNext P (on_operand s i os go)
    in_operand i [] go h = tt
    in_operand i (o ∷ os) go h = in_bound (go o) (operands_below s i (o ∷ os)) (h o)

    in_advanced : (t : CodeTree) (ps : List Piece) (vars os : List Value) → AllIn P t → InPieces P ps → InNext P (advanced s t ps vars os)
    in_advanced End ps vars os h more = tt
    in_advanced (Plain i rest) ps vars os h more =
        in_mapped (configuration (Sequence rest ∷ ps) vars) (performed s vars i os) (λ left. in_settled (Sequence rest ∷ ps) (h.1, more))
    in_advanced (Block i body rest) ps vars os h more =
        in_bound (λ left. block_opened i body os (Sequence rest ∷ ps) vars left) (operands_below s i os)
        (λ left. in_opened_block i body os (Sequence rest ∷ ps) vars left h.0 h.1 (h.2, more))
    in_advanced (Branch i first second rest) ps vars os h more =
        in_operand i os (λ o left. branched o first second (Sequence rest ∷ ps) vars left)
        (λ o left. in_branched o first second (Sequence rest ∷ ps) vars left h.1 h.2 (h.3, more))
    in_advanced (Torn i left) ps vars os h more = tt

    in_taken : (b : Bool) (c : Configuration) → InPieces P c.pending → InNext P (if b then Some c else None)
    in_taken true c h = h
    in_taken false c h = tt

    in_piece : (ps : List Piece) (vars os : List Value) → InPieces P ps → InNext P (piece_advanced s ps vars os)
    in_piece [] vars os h = tt
    in_piece (Sequence t ∷ ps) vars os h = in_advanced t ps vars os h.0 h.1
    in_piece (LetEnd ∷ ps) [] os h = tt
    in_piece (LetEnd ∷ ps) (v ∷ vars) os h = in_settled ps h.1
    in_piece (Opened i body source kept ∷ ps) vars os h = in_turned i body source source.elements kept ps vars os h.0.0 h.0.1 h.1
    in_piece (Turning i body source left kept ∷ ps) vars [] h = tt
    in_piece (Turning i body source left kept ∷ ps) vars (o ∷ os) h =
        in_taken _ (turned i body source left (keeping i kept o) ps (drop (bound_count i) vars) os)
        (in_turned i body source left (keeping i kept o) ps (drop (bound_count i) vars) os h.0.0 h.0.1 h.1)
    in_piece (Skipped ∷ ps) vars os h = in_settled ps h.1

    -- what a step leaves pending is the same code's
    pub stays_in : (c : Configuration) → InPieces P c.pending → InNext P (step s c)
    stays_in c h = in_piece c.pending c.variables c.operands h

  -- what is pending at the start is the tree's
  pub starts_in : (t : CodeTree) (o : ℕ) → AllIn P t → InPieces P (start t o).pending
  starts_in t o h = in_settled (Sequence t ∷ []) (h, tt)

-- ---- steps

-- what code is run over, by the index of a rule, its context class and a population
abbrev pub setting : Case → ℕ → ℕ → Population → Setting
setting x n c p = record { unit = x.unit; rule = n; context = c; population = p }

module _ (x : Case) (objects : List Object) (n c d : ℕ) where
  abbrev p : Population
  p = in_one x objects

  abbrev s : Setting
  s = setting x n c (in_one x objects)

  abbrev t : Setting
  t = setting x n d (in_other x objects)

  below_alike : (i : Instr) (os : List Value) → IsAlike x i → operands_below t i os ≡ operands_below s i os
  below_alike i os h =
      λ j. if names_alike x n c i h j && are_what p (operands_alike x n c i h j) os then Some (drop (length (operands_alike x n c i h j)) os) else None

  read_named : (o : Option Named) (v : Value) → value_named_read (in_other x objects) o v ≡ value_named_read p o v
  read_named (Some (named.Feature k f)) v = read_alike x.renames p f v
  read_named o v = refl

  result_alike : (vars : List Value) (i : Instr) (os : List Value) → IsAlike x i → result_of t vars i os ≡ result_of s vars i os
  result_alike vars (instrs.Enum l) os h = ap literal_named (All-head (Agrees x) l.0 [] h)
  result_alike vars (instrs.Attr a) [] h = refl
  result_alike vars (instrs.Attr a) (v ∷ os) h =
      ap (λ (o : Option Named). value_named_read (in_other x objects) o v) (All-head (Agrees x) a.0 [] h) ∙ read_named (symbol_named s a.0) v
  result_alike vars (instrs.All a) os h = ap (on_class_named (all_instances p)) (All-head (Agrees x) a.0 [] h)
  result_alike vars (instrs.KindOf a) [] h = refl
  result_alike vars (instrs.KindOf a) (v ∷ os) h = ap (on_class_named (λ k. kind_test p k v)) (All-head (Agrees x) a.0 [] h)
  result_alike vars (instrs.TypeOf a) [] h = refl
  result_alike vars (instrs.TypeOf a) (v ∷ os) h = ap (on_class_named (λ k. type_test p k v)) (All-head (Agrees x) a.0 [] h)
  result_alike vars (instrs.AsType a) [] h = refl
  result_alike vars (instrs.AsType a) (v ∷ os) h = ap (on_class_named (λ k. cast p k v)) (All-head (Agrees x) a.0 [] h)
  result_alike vars i os h = refl

  performed_alike : (vars : List Value) (i : Instr) (os : List Value) → IsAlike x i → performed t vars i os ≡ performed s vars i os
  performed_alike vars i os h = λ j. option_and_then (λ left. option_map (λ v. v ∷ left) (result_alike vars i os h j)) (below_alike i os h j)

  on_operand_alike : (i : Instr) (os : List Value) (go : Value → List Value → Option Configuration) → IsAlike x i → on_operand t i os go ≡ on_operand s i os go
  on_operand_alike i [] go h = refl
  on_operand_alike i (o ∷ os) go h = ap (λ (left : Option (List Value)). option_and_then (go o) left) (below_alike i (o ∷ os) h)

  advanced_alike : (tree : CodeTree) (ps : List Piece) (vars os : List Value) → AllIn (IsAlike x) tree → advanced t tree ps vars os ≡ advanced s tree ps vars os
  advanced_alike End ps vars os h = refl
  advanced_alike (Plain i rest) ps vars os h = λ j. option_map (configuration (Sequence rest ∷ ps) vars) (performed_alike vars i os h.0 j)
  advanced_alike (Block i body rest) ps vars os h = λ j. option_and_then (λ left. block_opened i body os (Sequence rest ∷ ps) vars left) (below_alike i os h.0 j)
  advanced_alike (Branch i first second rest) ps vars os h = on_operand_alike i os (λ o left. branched o first second (Sequence rest ∷ ps) vars left) h.0
  advanced_alike (Torn i left) ps vars os h = refl

  piece_alike : (ps : List Piece) (vars os : List Value) → InPieces (IsAlike x) ps → piece_advanced t ps vars os ≡ piece_advanced s ps vars os
  piece_alike [] vars os h = refl
  piece_alike (Sequence tree ∷ ps) vars os h = advanced_alike tree ps vars os h.0
  piece_alike (LetEnd ∷ ps) vars os h = refl
  piece_alike (Opened i body source kept ∷ ps) vars os h = refl
  piece_alike (Turning i body source left kept ∷ ps) vars [] h = refl
  piece_alike (Turning i body source left kept ∷ ps) vars (o ∷ os) h =
      λ j. if nat_le (bound_count i) (length vars) && is_what p (ends_alike x n c i h.0.0 j) o
      then Some (turned i body source left (keeping i kept o) ps (drop (bound_count i) vars) os)
      else None
  piece_alike (Skipped ∷ ps) vars os h = refl

  -- a configuration of such code has the same step
  pub step_alike : (q : Configuration) → InPieces (IsAlike x) q.pending → step t q ≡ step s q
  step_alike q h = piece_alike q.pending q.variables q.operands h

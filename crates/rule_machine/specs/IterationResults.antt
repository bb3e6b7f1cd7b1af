-- What an iteration's instruction gives at its end.
use Rattle.std.specs.Prelude.{List, [], ◌∷◌}
use Rattle.rule_code.specs.declared.instruction.Instr.{Instr}
use Rattle.rule_code.specs.declared.instruction.Instr.TheVariants as instrs
use Rattle.rule_values.specs.Value.{Value, Invalid}
use Rattle.rule_values.specs.Endings.{Source, for_all, exists, one, select, reject, collect, collect_flat, unique_bodies}

-- the accumulator, which is all that FOLD keeps
abbrev pub accumulator : List Value → Value
accumulator [] = Invalid
accumulator (v ∷ bs) = v

-- What an iteration gives at its end, by its source and by what it kept: of FOLD the accumulator, of every other the values
-- of its body in order. Of no other instruction this is asked, but no row covers another instruction's, so that no iteration
-- can be left out.
abbrev pub ending : Instr → Source → List Value → Value
ending (instrs.ForAll n) s bs = for_all bs
ending (instrs.Exists n) s bs = exists bs
ending (instrs.One n) s bs = one bs
ending (instrs.Select n) s bs = select s bs
ending (instrs.Reject n) s bs = reject s bs
ending (instrs.Collect n) s bs = collect s bs
ending (instrs.CollectFlat n) s bs = collect_flat s bs
ending (instrs.IsUnique k n) s bs = unique_bodies bs
ending (instrs.Fold k n) s bs = accumulator bs
ending (instrs.Let n) s bs = Invalid
ending (instrs.If k n m) s bs = Invalid
ending instrs.SelfObject s bs = Invalid
ending (instrs.Get n) s bs = Invalid
ending (instrs.Int n) s bs = Invalid
ending (instrs.Bool b) s bs = Invalid
ending (instrs.Text t) s bs = Invalid
ending (instrs.Enum l) s bs = Invalid
ending instrs.Null s bs = Invalid
ending instrs.Invalid s bs = Invalid
ending (instrs.Attr a) s bs = Invalid
ending (instrs.All c) s bs = Invalid
ending (instrs.AsColl c k) s bs = Invalid
ending (instrs.KindOf c) s bs = Invalid
ending (instrs.TypeOf c) s bs = Invalid
ending (instrs.AsType c) s bs = Invalid
ending instrs.Add s bs = Invalid
ending instrs.Sub s bs = Invalid
ending instrs.Mul s bs = Invalid
ending instrs.Div s bs = Invalid
ending instrs.Mod s bs = Invalid
ending instrs.Neg s bs = Invalid
ending instrs.Abs s bs = Invalid
ending instrs.Min s bs = Invalid
ending instrs.Max s bs = Invalid
ending instrs.Lt s bs = Invalid
ending instrs.Le s bs = Invalid
ending instrs.Gt s bs = Invalid
ending instrs.Ge s bs = Invalid
ending instrs.Not s bs = Invalid
ending instrs.And s bs = Invalid
ending instrs.Or s bs = Invalid
ending instrs.Xor s bs = Invalid
ending instrs.Implies s bs = Invalid
ending (instrs.Eq k) s bs = Invalid
ending instrs.Eqx s bs = Invalid
ending instrs.Undef s bs = Invalid
ending instrs.IsInv s bs = Invalid
ending instrs.TLen s bs = Invalid
ending instrs.SubStr s bs = Invalid
ending instrs.Size s bs = Invalid
ending instrs.IsEmpty s bs = Invalid
ending (instrs.Includes k) s bs = Invalid
ending (instrs.Count k) s bs = Invalid
ending (instrs.IncAll k) s bs = Invalid
ending (instrs.ExcAll k) s bs = Invalid
ending instrs.Sum s bs = Invalid
ending (instrs.AsSet k) s bs = Invalid

-- How deep code goes: the most operands, variables and open blocks that it has at once.
use Rattle.std.specs.Prelude.{◌+◌, ◌-◌, length, max}
use Rattle.rule_code.specs.declared.instruction.Instr.{Instr}
use Rattle.rule_verify.specs.declared.depths.Depths.{Depths}
use Rattle.rule_verify.specs.CodeTree.{CodeTree, End, Plain, Block, Branch, Torn}
use Rattle.rule_verify.specs.InstrKinds.{Surroundings, operands_of, bound_count}

-- the greater of each
abbrev pub deeper : Depths → Depths → Depths
deeper c d = record { operands = max c.operands d.operands; variables = max c.variables d.variables; blocks = max c.blocks d.blocks }

-- after an instruction, with its bodies: it takes its operands and gives one
abbrev pub past_instr : Surroundings → Instr → Depths → Depths
past_instr s i d = record d { operands = d.operands - length (operands_of s i) + 1 }

-- in the body of a block that binds variables
abbrev pub in_binding : Surroundings → Instr → Depths → Depths
in_binding s i d = record { operands = d.operands - length (operands_of s i); variables = d.variables + bound_count i; blocks = d.blocks + 1 }

-- in a body of a block that binds none
abbrev pub in_branch : Surroundings → Instr → Depths → Depths
in_branch s i d = record { operands = d.operands - length (operands_of s i); variables = d.variables; blocks = d.blocks + 1 }

-- the greatest depths in a tree that begins with these
abbrev pub deepest : Surroundings → CodeTree → Depths → Depths
deepest s End d = d
deepest s (Plain i rest) d = deeper d (deepest s rest (past_instr s i d))
deepest s (Block i body rest) d = deeper d (deeper (deepest s body (in_binding s i d)) (deepest s rest (past_instr s i d)))
deepest s (Branch i first second rest) d =
    deeper d (deeper (deepest s first (in_branch s i d)) (deeper (deepest s second (in_branch s i d)) (deepest s rest (past_instr s i d))))
deepest s (Torn i left) d = d

-- a rule begins with no operand, its object as a variable, and no open block
abbrev pub rule_depths : Surroundings → CodeTree → Depths
rule_depths s t = deepest s t (record { operands = 0; variables = 1; blocks = 0 })

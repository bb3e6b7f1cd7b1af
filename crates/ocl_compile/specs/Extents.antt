-- How large and how deep the code of a core tree is, by the tree alone.
use Rattle.std.specs.Prelude.{ℕ, suc, ◌+◌, ◌||◌, max, min, Option, Some, None, nat_le, nat_lt, if◌then◌else◌}
use Rattle.ocl_core.specs.Core as tree
use Rattle.ocl_core.specs.Core.{CoreTree, CoreTrees}
use Rattle.rule_verify.specs.declared.limits.TheConstants.{MAX_BLOCKS, MAX_OPERANDS}
use Rattle.rule_code.specs.declared.limits.TheConstants.{MAX_RULES}
use Rattle.ocl_compile.specs.declared.limits.TheConstants.{COUNTING_END, MAX_COUNTED}
use Rattle.ocl_compile.specs.declared.extent.Extent.{Extent}
use Rattle.ocl_compile.specs.declared.fault.Limit.{Limit}
use Rattle.ocl_compile.specs.declared.fault.Limit.TheVariants as limits

-- instructions, the most operands at once beside those that lie below, and the most blocks in one another
abbrev pub extent : ℕ → ℕ → ℕ → Extent
extent instructions operands blocks = record { instructions = instructions; operands = operands; blocks = blocks }

-- one instruction
abbrev pub one_instruction : Extent
one_instruction = extent 1 1 0

-- an instruction after its operands
abbrev pub then_instruction : Extent → Extent
then_instruction x = extent (x.instructions + 1) x.operands x.blocks

-- code that stands above `below` operands, after other code
abbrev pub then_above : ℕ → Extent → Extent → Extent
then_above below x y = extent (x.instructions + y.instructions) (max x.operands (below + y.operands)) (max x.blocks y.blocks)

-- a block with one body, after what it takes
abbrev pub then_block : Extent → Extent → Extent
then_block x body = extent (x.instructions + 1 + body.instructions) (max x.operands body.operands) (max x.blocks (suc body.blocks))

-- a block with two bodies, after its condition
abbrev pub then_branches : Extent → Extent → Extent → Extent
then_branches x first second =
    extent (x.instructions + 1 + first.instructions + second.instructions)
    (max x.operands (max first.operands second.operands)) (max x.blocks (suc (max first.blocks second.blocks)))

abbrev mutual
  pub extent_of : CoreTree → Extent
  extent_of (tree.Value c) = one_instruction
  extent_of (tree.Variable n) = one_instruction
  extent_of (tree.AllInstances c) = one_instruction
  extent_of (tree.Feature source f) = then_instruction (extent_of source)
  extent_of (tree.Operation operator first others) = then_instruction (extent_after 1 (extent_of first) others)
  extent_of (tree.AsCollection c k source) = then_instruction (extent_of source)
  extent_of (tree.Iterate i source body) = then_block (extent_of source) (extent_of body)
  extent_of (tree.Fold k source start body) = then_block (then_above 1 (extent_of source) (extent_of start)) (extent_of body)
  extent_of (tree.Let v body) = then_block (extent_of v) (extent_of body)
  extent_of (tree.If k condition first second) = then_branches (extent_of condition) (extent_of first) (extent_of second)

  -- operands one after another, after code that leaves `below` values under them
  pub extent_after : ℕ → Extent → CoreTrees → Extent
  extent_after below x tree.no_core = x
  extent_after below x (tree.one_core first rest) = extent_after (suc below) (then_above below x (extent_of first)) rest

-- with numbers cut to where counting stops
abbrev pub cut_extent : Extent → Extent
cut_extent x = extent (min x.instructions COUNTING_END) (min x.operands COUNTING_END) (min x.blocks COUNTING_END)

-- ---- limits by measures

-- the limit that a rule of an index passes by the extent of its code, if a unit takes what it numbers
abbrev pub limit_by : ℕ → Extent → Option Limit
limit_by index x =
    if nat_le MAX_RULES index || nat_lt MAX_COUNTED x.instructions then Some limits.Size else (
    if nat_lt MAX_BLOCKS x.blocks then Some limits.Nesting else (
    if nat_lt MAX_OPERANDS x.operands then Some limits.Stack else None))

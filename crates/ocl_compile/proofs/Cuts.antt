-- Extents may be cut before they are put together.
use Rattle.std.proofs.Common.{◌≡◌, ℕ, refl, arith}
use Rattle.ocl_compile.specs.declared.extent.Extent.{Extent}
use Rattle.ocl_compile.specs.Extents.{extent, then_instruction, then_above, then_block, cut_extent}

same_extent : (a b c x y z : ℕ) → a ≡ x → b ≡ y → c ≡ z → extent a b c ≡ extent x y z
same_extent a b c x y z e f g = rw (e, f, g) refl

-- an extent may be cut before more is put to it: an instruction, operands, a block with one body, or an IF
pub cut_instruction : (x : Extent) → cut_extent (then_instruction (cut_extent x)) ≡ cut_extent (then_instruction x)
cut_instruction x = same_extent _ _ _ _ _ _ (omega arith) (omega arith) (omega arith)

pub cut_above : (below : ℕ) (x y : Extent) → cut_extent (then_above below (cut_extent x) (cut_extent y)) ≡ cut_extent (then_above below x y)
cut_above below x y = same_extent _ _ _ _ _ _ (omega arith) (omega arith) (omega arith)

pub cut_block : (x y : Extent) → cut_extent (then_block (cut_extent x) (cut_extent y)) ≡ cut_extent (then_block x y)
cut_block x y = same_extent _ _ _ _ _ _ (omega arith) (omega arith) (omega arith)

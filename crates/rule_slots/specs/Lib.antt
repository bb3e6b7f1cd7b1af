-- Bookkeeping: how the machine's slots stand for values, and what the operations on slots compute. What values and
-- operations are is said in rule_values.
pub mod Slots
pub mod Operands
pub mod Compared
pub mod Ordered
pub mod Comparer
pub mod Sorted
pub mod Cut
pub mod Summed

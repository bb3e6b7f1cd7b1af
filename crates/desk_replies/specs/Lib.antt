-- Definitions: what contracts mean.
pub mod Replies
pub mod Alone
-- Bookkeeping: private contracts.
pub mod Told

-- Bookkeeping: what only proofs use.
mod TypedNodes
mod PutCharacters
mod WantedNodes

-- What the inner functions promise one another. No call's contract speaks of these, and no other crate cites them
-- (tools/surface.py looks): the states of specs/Starts.antt are made of them, and stay shut.
pub mod Adjacency
pub mod Incident
pub mod Support
pub mod Peeling
pub mod Answers
pub mod Recalling
pub mod Closing
pub mod Settling
pub mod Renewing
pub mod Counting
pub mod Worklist

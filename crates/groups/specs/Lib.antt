pub mod Groups
pub mod GroupCalls
pub mod Inner
pub mod RingRows
pub mod GroupRows

pub mod Tests
pub mod Subgraph

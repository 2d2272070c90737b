pub mod LinkTests

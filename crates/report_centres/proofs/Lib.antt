pub mod OnceMore

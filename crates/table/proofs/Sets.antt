-- Laws of tables of sets that the layers above use, passed on.
pub use Rattle.table_row.specs.Reading.{SetsFit}
pub use Rattle.table_row.proofs.Sets.{fits-node, fits_word, same-pairs}

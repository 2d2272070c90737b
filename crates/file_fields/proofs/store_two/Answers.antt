-- `file_fields::store_two` meets its contract: each stretch is stored in its table. Assumes nothing.

use Rattle.file_fields.proofs.store_two.Goals as goal

pub returns : goal.returns
returns c = record {
  first_after = c.store_at.ensures;
  second_after = c.store_at-2.ensures;
}

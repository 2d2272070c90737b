-- `file_bytes::store_two` meets its contract: what is stored behind other numbers is stored with them. Assumes nothing.
use Rattle.base_lists.specs.Kit.{refl, arith}
use Rattle.file_bytes.proofs.Stores.{stored-append}
use Rattle.file_bytes.proofs.store_two.Goals as goal

pub returns : goal.returns
returns c =
    rw (c.store-2.ensures, c.store.ensures) (stored-append _ _ _ _ _ refl (omega arith))

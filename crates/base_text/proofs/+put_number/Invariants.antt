-- The measure is the number itself, of which a tenth is less.
use Rattle.base_text.proofs.+put_number.Given as goal

abbrev pub decreases-put_number : goal.decreases-put_number
decreases-put_number l = l.x

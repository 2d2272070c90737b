-- What reading the table out comes to, for tables of any content. Assumes nothing.
use Rattle.std.specs.Prelude.{◌≡◌, ◌++◌, ◌≤◌, ◌<◌, Ok, Err}
use Rattle.base_lists.specs.Kit.{◌∙◌, ap, refl, Bool, false, true, cond, List, ℕ, eqb, length, take, drop, replicate, length-replicate, length-take-le, take_at, drop_at, le-ltb, lt-ltb}
use Rattle.base_bits.specs.Bits.{size_of}
use Rattle.file_format.specs.Reading.{filled}
use Rattle.file_format.specs.Refusals.{first, short_table}
use Rattle.file_format.specs.Reply.{reply, number_reply}
use Rattle.file_format.specs.declared.File.TheVariants.{Neither}
use Rattle.session.specs.Tables.{nodes_in, parts_in, occur_or_none, ReadMade}
use Rattle.table.specs.Union.{union_all}

length-occur : (parts : ℕ) (t : List ℕ) → length (occur_or_none parts t) ≡ length t
unfolding occur_or_none
length-occur parts t = go (eqb (size_of (union_all t)) parts)
  where
    go : (b : Bool) → length (cond b t (replicate (length t) 0)) ≡ length t
    go true = refl
    go false = length-replicate (length t) 0

module _ (fixed sets before : List ℕ) where
  -- the table is too short
  pub short-made : length before < nodes_in fixed → ReadMade fixed sets before (number_reply (Err (record { number = 8; file = Neither }))) before
  unfolding number_reply first short_table reply filled
  short-made h = let e = lt-ltb _ _ h in record { replied = rw e; table = rw e }

  -- as the code does it: the sets are copied to the front, and the rule is applied there
  pub copied-made :
      {n parts : ℕ} {mid after : List ℕ} → n ≡ nodes_in fixed → parts ≡ parts_in fixed → n ≤ length before → n ≤ length sets →
      mid ≡ take n sets ++ drop (length (take n sets)) before → after ≡ occur_or_none parts (take n mid) → ReadMade fixed sets before (number_reply (Ok n)) (after ++ drop n mid)
  unfolding number_reply first short_table reply filled
  copied-made {n} {parts} {mid} {after} en ep h room copied ruled =
      let long : length (take n sets) ≡ n = length-take-le n sets room in
      let prefix : take n mid ≡ take n sets = ap (take n) copied ∙ take_at (take n sets) _ n long in
      let rest : drop n mid ≡ drop n before = ap (drop n) copied ∙ drop_at (take n sets) _ n long ∙ ap (λ (k : ℕ). drop k before) long in
      let fits = le-ltb (length before) n h in
      record {
        replied = rw (← en, fits);
        table = rw (← en, ← ep, fits, length-occur parts (take n sets), long, ruled, prefix, rest);
      }

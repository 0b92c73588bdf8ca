-- What the table check says of an accepted table.
--     RowSound d f s j   row j is within 01's limits
--     EqualColumns d f s the columns are of one length
--     NeverFall d        days never fall from row to row
--     Sound d f s        each row is within the limits, the columns are of one length, and days never fall
use Rattle.std.specs.Prelude.{ℕ, suc, ◌≤◌, ◌<◌, ◌≡◌, List, length, get_or}

pub record RowSound (d f s : List ℕ) (j : ℕ) : Type 0 where
  pub day_from : 1 ≤ get_or d j 0
  pub day_to : get_or d j 0 ≤ 1024
  pub accounts : get_or f j 0 < get_or s j 0
  pub account_to : get_or s j 0 ≤ 4095

pub record EqualColumns (d f s : List ℕ) : Type 0 where
  pub firsts : length f ≡ length d
  pub seconds : length s ≡ length d

pub record NeverFall (d : List ℕ) : Type 0 where
  pub next : (j : ℕ) → suc j < length d → get_or d j 0 ≤ get_or d (suc j) 0

pub record Sound (d f s : List ℕ) : Type 0 where
  pub firsts : length f ≡ length d
  pub seconds : length s ≡ length d
  pub most : length d ≤ 16384
  pub rows : (j : ℕ) → j < length d → RowSound d f s j
  pub rising : NeverFall d

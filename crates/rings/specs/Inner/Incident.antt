-- One step of a walk over the rows of an account, as `day_at` and `row_at` of src/incident.rt read it.
--     PlaceStands d scratch p      a row stands at place p of the adjacency
--     RowStands d f s scratch u p  a row of u stands at place p of the adjacency, and each row's earlier row in its column
--     RowRead t scratch lo u p r   r is that row, with its day and its other account; from lo on it says whether the row leads its pair
use Rattle.std.specs.Prelude.{ℕ, ◌+◌, ◌*◌, ◌≤◌, ◌<◌, ◌≡◌, true, List, length, get_or}
use Rattle.rings.specs.Table.{Table, size, day_of}
use Rattle.rings.specs.Ring.{touches}
use Rattle.rings.specs.Sound.{Sound}
use Rattle.rings.specs.Inner.Adjacency.{other_of, leads, Pairs}
use Rattle.rings.specs.declared.incident.Incident.{Incident}

pub record PlaceStands (d scratch : List ℕ) (p : ℕ) : Type 0 where
  pub place : 8192 + p < length scratch
  pub row : get_or scratch (8192 + p) 0 < length d

pub record RowStands (t : Table) (scratch : List ℕ) (u p : ℕ) : Type 0 where
  pub sound : Sound t.days t.first t.second
  pub long : 8192 + 4 * size t ≤ length scratch
  pub pairs : Pairs t scratch
  pub place : p < 2 * size t
  pub row : get_or scratch (8192 + p) 0 < size t
  pub touch : touches t (get_or scratch (8192 + p) 0) u ≡ true

pub record RowRead (t : Table) (scratch : List ℕ) (lo u p : ℕ) (r : Incident) : Type 0 where
  pub row : r.row ≡ get_or scratch (8192 + p) 0
  pub below : r.row < size t
  pub touch : touches t r.row u ≡ true
  pub day : r.day ≡ day_of t r.row
  pub other : r.other ≡ other_of t r.row u
  pub small : r.other < 4096
  -- a walk that begins before lo tests for that itself
  pub leads : lo ≤ r.row → r.leads ≡ leads t lo r.row

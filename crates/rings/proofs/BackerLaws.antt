-- The rows that back an account on a day (specs/Inner/Settling.antt): each is the first of its pair, and they are as
-- many as its supporters.
--     Backed, backing_e, backing_i     what the test `backing` says of a row
--     backers_are                      how many there are
-- Assumes nothing.
use Prim.Native.Nat.{ℕ, ◌≤◌, ◌<◌}
use native.Mathlib.Nat.{le_antisymm}
use native.Mathlib.Omega.{arith}
use mathlib.Core.Path.{◌≡◌, ap}
use mathlib.Core.Bool.{true}
use lib.Dec.{leb}
use borrow.Author.Tests.{leb-true, le-leb}
use Rattle.rings.specs.Words.{◌and◌}
use Rattle.rings.specs.Table.{Table, size, day_of}
use Rattle.rings.specs.Ring.{joins, names, touches}
use Rattle.rings.specs.Inner.Adjacency.{other_of, leads}
use Rattle.rings.specs.Inner.Support.{supports, supporters}
use Rattle.rings.specs.Inner.Peeling.{Setting}
use Rattle.rings.specs.Inner.Settling.{value, backing, backers}
use Rattle.rings.specs.declared.Query.{Query}
use Rattle.rings.proofs.WordLaws.{and_i, and_l, and_r}
use Rattle.rings.proofs.RingLaws.{joins_touch}
use Rattle.rings.proofs.PairLaws.{count_inject, joins_other, joins_same}
use Rattle.rings.proofs.LeadLaws.{lead_one, lead_opens, open_lead}
use Rattle.rings.proofs.FixpointLaws.{supports_e, supports_i}
use Rattle.rings.proofs.OthersLaws.{touch_named}

module _ (t : Table) (q : Query) (s hi lo : ℕ) (S : Setting t q s hi lo) (x : ℕ → ℕ) where
  pub record Backed (c u j : ℕ) : Type 0 where
    pub is_lead : leads t lo j ≡ true
    pub touch : touches t j u ≡ true
    pub by : value t x j u ≤ c

  pub backing_e : (c u j : ℕ) → backing t x lo c u j ≡ true → Backed c u j
  unfolding backing
  backing_e c u j h =
      let b = and_r (leads t lo j) (touches t j u and leb (value t x j u) c) h in
      record {
        is_lead = and_l (leads t lo j) (touches t j u and leb (value t x j u) c) h;
        touch = and_l (touches t j u) (leb (value t x j u) c) b;
        by = leb-true (value t x j u) c (and_r (touches t j u) (leb (value t x j u) c) b);
      }

  pub backing_i : (c u j : ℕ) → Backed c u j → backing t x lo c u j ≡ true
  unfolding backing
  backing_i c u j b = and_i b.is_lead (and_i b.touch (le-leb (value t x j u) c b.by))

  value_le : (c u v j : ℕ) → j < size t → joins t j u v ≡ true → x v ≤ c → day_of t j ≤ c → value t x j u ≤ c
  unfolding value
  value_le c u v j l h a b =
      let e : other_of t j u ≡ v =
      joins_same t j u (other_of t j u) v (joins_other t j u (S.accounts j l) (joins_touch t j u v h).0) h in
      let f : x (other_of t j u) ≡ x v = ap x e in omega arith

  pub backers_are : (c u : ℕ) → backers t x lo c u (size t) ≡ supporters t x s c u
  unfolding backers supporters value
  backers_are c u =
      le_antisymm
      (count_inject (backing t x lo c u) (size t) (supports t x s c u) (names t)
      (λ j v. (leads t lo j ≡ true) × (joins t j u v ≡ true))
      (λ j l h.
      let b = backing_e c u j h in
      let jn = joins_other t j u (S.accounts j l) b.touch in
      let y = b.by in
      record {
        it = other_of t j u;
        below = touch_named t j (other_of t j u) (joins_touch t j u (other_of t j u) jn).1;
        has =
            supports_i t x s c u (other_of t j u)
            (record {
              row = j;
              below = l;
              join = jn;
              opens = lead_opens t q s hi lo S j c l b.is_lead (omega arith);
              other = omega arith;
            });
        to = (b.is_lead, jn);
      })
      (λ i i' v p p'. lead_one t lo i i' u v p.0 p'.0 p.1 p'.1))
      (count_inject (supports t x s c u) (names t) (backing t x lo c u) (size t) (λ v j. joins t j u v ≡ true)
      (λ v l h.
      let b = supports_e t x s c u v h in
      let f = open_lead t q s hi lo S b.row u v c b.below b.join b.opens in
      record {
        it = f.row;
        below = f.below;
        has =
            backing_i c u f.row
            (record {
              is_lead = f.is_lead;
              touch = (joins_touch t f.row u v f.join).0;
              by = value_le c u v f.row f.below f.join b.other f.by;
            });
        to = f.join;
      })
      (λ v v' j p p'. joins_same t j u v v' p p'))

-- The heads of the accounts (src/heads.rt): where a walk over the rows of an account begins, from a day on.
--     adjacency_by      the adjacency stays while the heads move
--     adjacency_first   an adjacency that was just made has each head at the account's first row
--     adjacency_later   heads that stand at a day stand at every later one
--     Resetting, resetting_start, resetting_next, resetting_end    the heads go back to the first rows
--     Moving, moving_start, moving_asks, moving_mid, moving_next, moving_end    they pass the rows up to a day, row
--         by row
--     Else     what lies outside the heads is as before
--     resetting_few     a head fits 16 bits
-- Assumes nothing.
use Prim.Native.Nat.{ℕ, suc, ◌+◌, ◌*◌, ◌≤◌, ◌<◌}
use native.Mathlib.Nat.{eq-or-lt_of_le, not-suc-le-zero}
use native.Mathlib.Numerals.{add-one}
use native.Mathlib.Omega.{arith}
use mathlib.Core.Path.{◌≡◌, refl, sym, ◌∙◌, ap, subst}
use mathlib.Core.Logic.{⊎_elim}
use mathlib.Core.Bool.{true}
use mathlib.Core.List.{List}
use lib.ListN.{length, get_or, set, length-set}
use lib.Seq.{get_or-set_same, get_or-set_other}
use lib.Dec.{leb}
use borrow.Author.Tests.{leb-true, leb-false}
use Rattle.rings.specs.Words.{at}
use Rattle.rings.specs.Table.{Table, table_of, size, day_of, first_of, second_of, Split}
use Rattle.rings.specs.Ring.{touches}
use Rattle.rings.specs.Sound.{Sound}
use Rattle.rings.specs.Inner.Adjacency.{rank, offset_of, PartAdjacency, Head, Adjacency, HeadInside, head_passed}
use Rattle.rings.specs.Inner.Adjacency.{HeadsMoved, Ahead}
use Rattle.rings.proofs.WordLaws.{true_or_false, same_or}
use Rattle.rings.proofs.RingLaws.{touch_first, touch_second}
use Rattle.rings.proofs.RankLaws.{first_small, second_small, rank_less, places_most, place_step, entry_below}

-- what lies outside the heads is as before
pub record Else (sc₀ sc : List ℕ) : Type 0 where
  pub long : length sc ≡ length sc₀
  pub low : (p : ℕ) → p < 4096 → get_or sc p 0 ≡ get_or sc₀ p 0
  pub high : (p : ℕ) → 8192 ≤ p → get_or sc p 0 ≡ get_or sc₀ p 0

else_none : (sc : List ℕ) → Else sc sc
else_none sc = record { long = refl; low = λ p h. refl; high = λ p h. refl }

else_set : {sc₀ sc sc' : List ℕ} {u : ℕ} (v : ℕ) → u < 4096 → Else sc₀ sc → sc' ≡ set sc (4096 + u) v → Else sc₀ sc'
else_set {sc = sc} {u = u} v l E e =
    record {
      long = ap length e ∙ (length-set sc (4096 + u) v ∙ E.long);
      low = λ p h.
          ap (λ (ys : List ℕ). get_or ys p 0) e ∙ (get_or-set_other sc (4096 + u) p v 0 (λ y. omega arith) ∙ E.low p h);
      high = λ p h.
          ap (λ (ys : List ℕ). get_or ys p 0) e ∙ (get_or-set_other sc (4096 + u) p v 0 (λ y. omega arith) ∙ E.high p h);
    }

pub adjacency_by : {t : Table} {day day' : ℕ} {sc₀ sc : List ℕ} → Adjacency t day sc₀ → Else sc₀ sc
    → ((u : ℕ) → u < 4096 → Head t u day' (get_or sc (4096 + u) 0)) → Adjacency t day' sc
adjacency_by {t} L E H =
    record {
      long = subst (λ (n : ℕ). 8192 + 4 * size t ≤ n) (sym E.long) L.long;
      cursors = λ u l. E.low u l ∙ L.cursors u l;
      heads = H;
      entries = λ u r k o y. E.high (8192 + (offset_of t u + rank t u r)) (omega arith) ∙ L.entries u r k o y;
      pairs = λ r l. E.high (8192 + 2 * size t + r) (omega arith) ∙ L.pairs r l;
    }

-- at the account's first row nothing stands before it
head_first : (t : Table) (u p : ℕ) → p ≡ offset_of t u → Head t u 0 p
head_first t u p e =
    record {
      from = omega arith;
      to = let g = place_step t u in omega arith;
      before = λ i l k h. absurd (omega arith);
    }

pub adjacency_first : {t : Table} {sc : List ℕ} → PartAdjacency t (size t) sc → Adjacency t 0 sc
adjacency_first {t} {sc} B =
    record {
      long = B.long;
      cursors = B.cursors;
      heads = λ u l. head_first t u (get_or sc (4096 + u) 0) (B.starts u l);
      entries = B.entries;
      pairs = B.pairs;
    }

pub adjacency_later : {t : Table} {a b : ℕ} {sc : List ℕ} → Adjacency t a sc → a ≤ b → Adjacency t b sc
adjacency_later L h =
    record {
      long = L.long;
      cursors = L.cursors;
      heads = λ u l.
          let H = L.heads u l in
          record { from = H.from; to = H.to; before = λ i k y o. let m = H.before i k y o in omega arith };
      entries = L.entries;
      pairs = L.pairs;
    }

-- ---- back to the first rows

-- the accounts below u have their heads there, and run is where the entries of u begin
pub record Resetting (t : Table) (sc₀ : List ℕ) (u total : ℕ) (sc : List ℕ) : Type 0 where
  pub else : Else sc₀ sc
  pub taken : total ≡ offset_of t u
  pub heads : (v : ℕ) → v < u → v < 4096 → get_or sc (4096 + v) 0 ≡ offset_of t v

pub resetting_start : (t : Table) (sc : List ℕ) → Resetting t sc 0 0 sc
unfolding offset_of
resetting_start t sc = record { else = else_none sc; taken = refl; heads = λ v h. absurd (not-suc-le-zero h) }

pub resetting_few : (t : Table) {sc₀ sc : List ℕ} {u total : ℕ} → size t ≤ 16384 → Resetting t sc₀ u total sc
    → total < 65536
resetting_few t {u = u} m R = let a = R.taken in let b = places_most t u in omega arith

pub resetting_next : {t : Table} {day u total end : ℕ} {sc₀ sc sc' : List ℕ} → Adjacency t day sc₀
    → Resetting t sc₀ u total sc → u < 4096
    → end ≡ get_or sc u 0 → sc' ≡ set sc (4096 + u) total → Resetting t sc₀ (u + 1) end sc'
resetting_next {t} {u = u} {total = total} {sc = sc} {sc' = sc'} L R l ee e =
    record {
      else = else_set total l R.else e;
      taken = ee ∙ (R.else.low u l ∙ (L.cursors u l ∙ (sym (place_step t u) ∙ ap (offset_of t) (sym (add-one u)))));
      heads = λ v h k.
          ⊎_elim
          (λ y.
          ap (λ (a : ℕ). get_or sc' (4096 + a) 0) y
          ∙ (ap (λ (ys : List ℕ). get_or ys (4096 + u) 0) e
          ∙ (get_or-set_same sc (4096 + u) total 0 (let a = L.long in let b = R.else.long in omega arith)
          ∙ (R.taken ∙ ap (offset_of t) (sym y)))))
          (λ y.
          ap (λ (ys : List ℕ). get_or ys (4096 + v) 0) e
          ∙ (get_or-set_other sc (4096 + u) (4096 + v) total 0 (λ z. omega arith) ∙ R.heads v y k))
          (eq-or-lt_of_le (omega arith));
    }

pub resetting_end : {t : Table} {day u total : ℕ} {sc₀ sc : List ℕ} → Adjacency t day sc₀
    → Resetting t sc₀ u total sc → 4096 ≤ u → Adjacency t 0 sc
resetting_end {t} {sc = sc} L R h =
    adjacency_by L R.else (λ v l. head_first t v (get_or sc (4096 + v) 0) (R.heads v (omega arith) l))

-- ---- on to a later day

-- the rows before each head are below j
pub record Moving (t : Table) (sc₀ : List ℕ) (j : ℕ) (sc : List ℕ) : Type 0 where
  pub else : Else sc₀ sc
  pub heads : (u : ℕ) → u < 4096 → Ahead t u j (get_or sc (4096 + u) 0)

-- lo and the rows after it are not dated before the day of the heads
ahead_of : {t : Table} {day u lo : ℕ} {sc : List ℕ} → Adjacency t day sc → u < 4096
    → ((j : ℕ) → j < size t → lo ≤ j → day ≤ day_of t j)
    → Ahead t u lo (get_or sc (4096 + u) 0)
ahead_of {u = u} {lo} L small late =
    let H = L.heads u small in
    record {
      from = H.from;
      to = H.to;
      before = λ i l k h.
          ⊎_elim
          (λ y. let a = late i l (leb-true lo i y) in let b = H.before i l k h in absurd (omega arith))
          (λ y. leb-false lo i y)
          (true_or_false (leb lo i));
    }

-- row j is one of u's: the head passes a row, which is j or an earlier one
ahead_pass : (t : Table) (u j p : ℕ) → j < size t → touches t j u ≡ true → Ahead t u j p → Ahead t u (j + 1) (p + 1)
ahead_pass t u j p l y A =
    record {
      from = let a = A.from in omega arith;
      to = let a = reached in let b = entry_below t u j y l in omega arith;
      before = λ i k h o.
          ⊎_elim (λ z. let m = leb-true i j z in omega arith)
          (λ z. let m = rank_less t u j i y (leb-false i j z) in let a = reached in absurd (omega arith))
          (true_or_false (leb i j));
    }
  where
    reached : p ≤ offset_of t u + rank t u j
    reached =
        ⊎_elim (λ z. leb-true p (offset_of t u + rank t u j) z)
        (λ z. let m = A.before j l y (leb-false p (offset_of t u + rank t u j) z) in absurd (omega arith))
        (true_or_false (leb p (offset_of t u + rank t u j)))

ahead_on : {t : Table} {u j p : ℕ} → Ahead t u j p → Ahead t u (j + 1) p
ahead_on A = record { from = A.from; to = A.to; before = λ i l k h. let m = A.before i l k h in omega arith }

module _ (d f g : List ℕ) (S : Sound d f g) where
  abbrev t : Table
  t = table_of d f g

  pub moving_start : {s lo : ℕ} {sc : List ℕ} → Adjacency t s sc → Split d s lo → Moving t sc lo sc
  unfolding day_of at
  moving_start {sc = sc} L N = record { else = else_none sc; heads = λ u l. ahead_of L l (λ j k h. N.after j h k) }

  module _ {sc₀ sc : List ℕ} {j : ℕ} (M : Moving t sc₀ j sc) (l : j < length d) where
    moving_few : (u : ℕ) → u < 4096 → get_or sc (4096 + u) 0 < 65535
    moving_few u k = let a = (M.heads u k).to in let b = places_most t (suc u) in let c = S.most in omega arith

    module _ {a b : ℕ} (ea : a ≡ get_or f j 0) (eb : b ≡ get_or g j 0) where
      apart : a < b
      apart = let x = (S.rows j l).accounts in omega arith

      moving_second : b < 4096
      moving_second = second_small S l eb

      moving_first : a < 4096
      moving_first = first_small S l ea

      has_a : touches t j a ≡ true
      unfolding first_of at
      has_a = subst (λ (c : ℕ). touches t j c ≡ true) (sym ea) (touch_first t j)

      has_b : touches t j b ≡ true
      unfolding second_of at
      has_b = subst (λ (c : ℕ). touches t j c ≡ true) (sym eb) (touch_second t j)

      -- what `pass_row` asks for the first account
      pub moving_asks : 8192 ≤ length sc₀ → HeadInside sc a
      moving_asks long =
          record {
            account = moving_first;
            long = let x = M.else.long in omega arith;
            few = moving_few a moving_first;
          }

      module _ {sc₁ : List ℕ} (e₁ : sc₁ ≡ head_passed sc a) where
        same₁ : (u : ℕ) → (u ≡ a → ⊥) → get_or sc₁ (4096 + u) 0 ≡ get_or sc (4096 + u) 0
        same₁ u n =
            ap (λ (ys : List ℕ). get_or ys (4096 + u) 0) e₁
            ∙ get_or-set_other sc (4096 + a) (4096 + u) (get_or sc (4096 + a) 0 + 1) 0 (λ y. n (omega arith))

        -- and for the second
        pub moving_mid : 8192 ≤ length sc₀ → HeadInside sc₁ b
        moving_mid long =
            let x = same₁ b (λ y. let z = apart in omega arith) in
            let y = moving_few b moving_second in
            let z = (else_set (get_or sc (4096 + a) 0 + 1) moving_first M.else e₁).long in
            record { account = moving_second; long = omega arith; few = omega arith }

        pub moving_next : {sc₂ : List ℕ} → 8192 ≤ length sc₀ → sc₂ ≡ head_passed sc₁ b → Moving t sc₀ (j + 1) sc₂
        moving_next {sc₂} long e₂ =
            record {
              else = else_set (get_or sc₁ (4096 + b) 0 + 1) moving_second E₁ e₂;
              heads = λ u k.
                  ⊎_elim (λ y. at_b u y)
                  (λ n.
                  subst (Ahead t u (j + 1)) (sym (same₂ u n))
                  (⊎_elim (λ y. at_a u y)
                  (λ m. subst (Ahead t u (j + 1)) (sym (same₁ u m)) (ahead_on (M.heads u k)))
                  (same_or u a)))
                  (same_or u b);
            }
          where
            E₁ : Else sc₀ sc₁
            E₁ = else_set (get_or sc (4096 + a) 0 + 1) moving_first M.else e₁

            same₂ : (u : ℕ) → (u ≡ b → ⊥) → get_or sc₂ (4096 + u) 0 ≡ get_or sc₁ (4096 + u) 0
            same₂ u n =
                ap (λ (ys : List ℕ). get_or ys (4096 + u) 0) e₂
                ∙ get_or-set_other sc₁ (4096 + b) (4096 + u) (get_or sc₁ (4096 + b) 0 + 1) 0
                (λ y. n (omega arith))

            set₁ : get_or sc₁ (4096 + a) 0 ≡ get_or sc (4096 + a) 0 + 1
            set₁ =
                ap (λ (ys : List ℕ). get_or ys (4096 + a) 0) e₁ ∙ get_or-set_same sc (4096 + a) (get_or sc (4096 + a) 0 + 1) 0
                (let x = M.else.long in let y = moving_first in omega arith)

            set₂ : get_or sc₂ (4096 + b) 0 ≡ get_or sc (4096 + b) 0 + 1
            set₂ =
                ap (λ (ys : List ℕ). get_or ys (4096 + b) 0) e₂
                ∙ (get_or-set_same sc₁ (4096 + b) (get_or sc₁ (4096 + b) 0 + 1) 0
                (let x = E₁.long in let y = moving_second in omega arith)
                ∙ ap
                (λ (c : ℕ). c + 1) (same₁ b (λ y. let z = apart in omega arith)))

            at_a : (u : ℕ) → u ≡ a → Ahead t u (j + 1) (get_or sc₁ (4096 + u) 0)
            at_a u y =
                subst (λ (c : ℕ). Ahead t c (j + 1) (get_or sc₁ (4096 + c) 0)) (sym y)
                (subst (Ahead t a (j + 1)) (sym set₁)
                (ahead_pass t a j (get_or sc (4096 + a) 0) l has_a (M.heads a moving_first)))

            at_b : (u : ℕ) → u ≡ b → Ahead t u (j + 1) (get_or sc₂ (4096 + u) 0)
            at_b u y =
                subst (λ (c : ℕ). Ahead t c (j + 1) (get_or sc₂ (4096 + c) 0)) (sym y)
                (subst (Ahead t b (j + 1)) (sym set₂)
                (ahead_pass t b j (get_or sc (4096 + b) 0) l has_b (M.heads b moving_second)))

  pub moving_end : {s day next j : ℕ} {sc₀ sc : List ℕ} → Adjacency t s sc₀ → Moving t sc₀ j sc → j ≤ next
      → Split d day next → HeadsMoved t day sc₀ sc
  unfolding day_of at
  moving_end L M h N =
      record {
        adjacency =
            adjacency_by L M.else
            (λ u k.
            let A = M.heads u k in
            record {
              from = A.from;
              to = A.to;
              before = λ i l y o. N.before i (let m = A.before i l y o in omega arith);
            });
        behind = M.else.high;
      }

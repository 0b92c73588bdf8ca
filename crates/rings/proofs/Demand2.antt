-- Demand 2, one statement: rings, core times and minimal windows equal the published definitions, and a payment is in
-- the ring of a window
-- of the range exactly if one of its minimal windows lies inside.
-- It speaks of what the calls return and leave in their buffers, by the definitions that stand in their contracts,
-- for every table and every query.
--     OneRing, OneList     the ring of a window; the list of the minimal windows of a range
--     RingLeft, TimesLeft, WindowsLeft, RecallLeft     what an accepted call of each kind leaves
--     Demand2              the statement
--     demand_2             it holds
-- Assumes nothing.
use Prim.Native.Nat.{ℕ, max, ◌≤◌, ◌<◌}
use native.Mathlib.Nat.{le_refl, zero-add}
use native.Mathlib.Omega.{arith}
use mathlib.Core.Path.{◌≡◌, refl, sym, ◌∙◌, ap, subst}
use mathlib.Core.Logic.{◌⊎◌, ⊎_elim, ◌↔◌}
use mathlib.Core.Bool.{Bool, true, false}
use mathlib.Core.List.{List, map}
use lib.ListN.{length, length-map}
use lib.Dec.{leb, ltb, eqb}
use borrow.Author.Tests.{ltb-false}
use Rattle.std.specs.Prelude.{Ok}
use Rattle.rings.specs.Words.{◌and◌, no, at, marked, tabulate}
use Rattle.rings.specs.Table.{Table, size, day_of, first_of, second_of}
use Rattle.rings.specs.Ring.{met, IsRing, ring, members}
use Rattle.rings.specs.CoreTimes.{never, account_time, row_time, IsCoreTime}
use Rattle.rings.specs.Windows.{Entry, minimal_windows, IsMinimalList, entries, Archive, recalled, ListedInside}
use Rattle.rings.specs.Checks.{◌when◌, ◌then◌, in_order, query_check, range_check, scratch_check}
use Rattle.rings.specs.Buffers.{mark, marks, over}
use Rattle.rings.specs.TableCheck.{table_check}
use Rattle.rings.specs.WindowRingCall.{ring_checks, ring_answer, ring_marks}
use Rattle.rings.specs.CoreTimesCall.{times_answer, account_column, row_column}
use Rattle.rings.specs.MinimalWindowsCall.{minimal_checks, minimal_answer, entry_column, minimal_rows}
use Rattle.rings.specs.MinimalWindowsCall.{minimal_starts, minimal_ends}
use Rattle.rings.specs.RecallCall.{Columns, entry_check, recall_answer, recall_marks}
use Rattle.rings.specs.declared.Query.{Query}
use Rattle.rings.specs.declared.refusal.Refusal.TheVariants.{BadRange, BadLength, NoRoom}
use Rattle.rings.specs.Refusals.{Verdict, Counted}
use Rattle.rings.proofs.WordLaws.{true_or_false, clash, length_tabulate, get_d_tabulate}
use Rattle.rings.proofs.CheckLaws.{accepted_left, accepted_right, when_accepted, passed, counted_e}
use Rattle.rings.proofs.RingLaws.{ring_is, ring_only, marked_in, in_marked}
use Rattle.rings.proofs.OthersLaws.{DistinctOthers, distinct_others, accounts_rise}
use Rattle.rings.proofs.CoreTimeLaws.{account_time_lem, account_reach_i, account_reach_e, row_time_lem, row_reach_i}
use Rattle.rings.proofs.CoreTimeLaws.{row_reach_e, row_max, row_before, row_after}
use Rattle.rings.proofs.WindowLaws.{list_is, list_only, recalled_e, recalled_i, inside_ring, ring_inside}
use Rattle.rings.proofs.AcceptedLaws.{range_e, start_e, lengths_e}
use Rattle.rings.proofs.ArchiveLaws.{mapped, archive_marks}

-- 01: "the greatest set of its rows in which every account met has at least k distinct other accounts": this set is
-- it, and nothing else is
pub record OneRing (t : Table) (q : Query) (s e : ℕ) (set : List Bool) : Type 0 where
  pub is_ring : IsRing t q s e set
  pub only : (m : List Bool) → IsRing t q s e m → m ≡ set

-- this list has each minimal window of the range and nothing else, each once, by row, then start, and no other list
-- does
pub record OneList (t : Table) (q : Query) (lo hi : ℕ) (list : List Entry) : Type 0 where
  pub is_list : IsMinimalList t q lo hi list
  pub only : (es : List Entry) → IsMinimalList t q lo hi es → es ≡ list

-- of an accepted call of Window ring with the count n: its marks
pub record RingLeft (t : Table) (q : Query) (s e n : ℕ) (left : List ℕ) : Type 0 where
  -- the marks are those of the ring
  pub set : List Bool
  pub one_ring : OneRing t q s e set
  pub marks_so : left ≡ marks set
  -- and the count is the number of its rows
  pub count_so : n ≡ members set

-- of an accepted call of Core times: its two columns
pub record TimesLeft (t : Table) (q : Query) (hi s : ℕ) (accounts rows : List ℕ) : Type 0 where
  pub all_accounts : length accounts ≡ 4096
  pub all_rows : length rows ≡ size t
  -- "the least e with s ≤ e ≤ Te such that the account is in the ring of [s, e]; 65,535 means never" (001, Definition
  -- 4)
  pub account_so : (u : ℕ) → u < 4096 → IsCoreTime t q hi s (λ m. met t m u) (at accounts u)
  -- "Core time of a row: the same for the row"
  pub row_so : (j : ℕ) → j < size t → IsCoreTime t q hi s (λ m. marked m j) (at rows j)
  -- "it is the greatest of its two accounts' core times and its own day" (001, Lemma 1 and Algorithm 2)
  pub row_rule : (j : ℕ) → j < size t → s ≤ day_of t j → day_of t j ≤ hi
      → at rows j ≡ max (max (at accounts (first_of t j)) (at accounts (second_of t j))) (day_of t j)
  -- "A row before s or after Te has never"
  pub row_outside : (j : ℕ) → j < size t → (day_of t j < s) ⊎ (hi < day_of t j) → at rows j ≡ never

-- of an accepted call of Minimal windows with the count n: its three columns, which held rows₀, starts₀ and ends₀
pub record WindowsLeft (t : Table) (q : Query) (lo hi n : ℕ)
    (rows₀ starts₀ ends₀ rows starts ends : List ℕ) : Type 0 where
  -- the count is the length of the list
  pub list : List Entry
  pub one_list : OneList t q lo hi list
  pub count_so : n ≡ length list
  -- for which there is room
  pub room : (n ≤ length rows₀) × (n ≤ length starts₀) × (n ≤ length ends₀)
  -- the columns begin with it, and behind it they hold what they held
  pub rows_so : rows ≡ over (map (λ (x : Entry). x.row) list) rows₀
  pub starts_so : starts ≡ over (map (λ (x : Entry). x.start) list) starts₀
  pub ends_so : ends ≡ over (map (λ (x : Entry). x.end) list) ends₀

-- of an accepted call of Recall with the list columns c: its marks
pub record RecallLeft (t : Table) (q : Query) (c : Columns) (s e : ℕ) (left : List ℕ) : Type 0 where
  pub all_rows : length left ≡ size t
  -- "marks 1 each row with a listed window inside [s, e], 0 every other"
  pub marks_so : (j : ℕ) → j < size t
      → (let listed = ListedInside (entries c.rows c.starts c.ends) s e j in
      ((at left j ≡ 1) × listed) ⊎ ((at left j ≡ 0) × (listed → ⊥)))
  -- where the columns hold the minimal windows of a range around [s, e], these are the marks of the ring of [s, e]
  pub ring_so : (lo hi : ℕ) → Archive t q lo hi c.rows c.starts c.ends → lo ≤ s → e ≤ hi
      → (m : List Bool) → IsRing t q s e m → left ≡ marks m

pub record Demand2 (t : Table) (q : Query) : Type 0 where
  -- "distinct other accounts", which a ring counts: in an accepted table each other account that shares a row of the
  -- set, once, and nothing else
  pub others : table_check t ≡ Ok tt → (m : List Bool) (u : ℕ) → DistinctOthers t m u
  -- each window has one ring (001, Definition 2): it is `ring`, by which minimal windows are defined
  pub one_ring : (s e : ℕ) → OneRing t q s e (ring t q s e)
  -- Window ring marks it and counts its rows
  pub window_ring : (s e scratch n : ℕ) (old : List ℕ)
      → (let answer = ring_answer t q s e (length old) scratch in
      answer ≡ Ok n → RingLeft t q s e n (ring_marks answer t q s e old))
  -- Core times writes the core time of each account and of each row
  pub core_times : (lo hi s scratch : ℕ) (accounts rows : List ℕ)
      → (let answer = times_answer t q lo hi s (length accounts) (length rows) scratch in
      answer ≡ Ok tt → TimesLeft t q hi s (account_column answer t q hi s accounts) (row_column answer t q hi s rows))
  -- each range has one list of minimal windows (001, Definition 5)
  pub one_list : (lo hi : ℕ) → OneList t q lo hi (minimal_windows t q lo hi)
  -- Minimal windows counts and writes it
  pub minimal_windows_lem : (lo hi scratch n : ℕ) (rows starts ends : List ℕ)
      → (let answer = minimal_answer t q lo hi (length rows) (length starts) (length ends) scratch in
      answer ≡ Ok n
      → WindowsLeft t q lo hi n rows starts ends
      (minimal_rows answer t q lo hi rows) (minimal_starts answer t q lo hi starts) (minimal_ends answer t q lo hi ends))
  -- a payment is in the ring of a window of the range exactly if one of its minimal windows lies inside (001, Lemma 3)
  pub in_ring_exactly : (lo hi s e : ℕ) → range_check lo hi ≡ Ok tt → lo ≤ s → s ≤ e → e ≤ hi
      → (m : List Bool) → IsRing t q s e m → (es : List Entry) → IsMinimalList t q lo hi es → (j : ℕ)
      → (marked m j ≡ true) ↔ ListedInside es s e j
  -- Recall marks the rows with a listed window inside, so from that list the ring of every window of the range
  pub recall : (c : Columns) (s e : ℕ) (old : List ℕ)
      → (let answer = recall_answer t c s e (length old) in
      answer ≡ Ok tt → RecallLeft t q c s e (recall_marks answer t c s e old))

-- ---- the proof

module _ (t : Table) (q : Query) where
  the_ring : (s e : ℕ) → OneRing t q s e (ring t q s e)
  the_ring s e = record { is_ring = ring_is t q s e; only = ring_only t q s e }

  the_list : (lo hi : ℕ) → OneList t q lo hi (minimal_windows t q lo hi)
  the_list lo hi = record { is_list = list_is t q lo hi; only = list_only t q lo hi }

  -- ---- Window ring

  ring_left : (s e scratch n : ℕ) (old : List ℕ)
      → (let answer = ring_answer t q s e (length old) scratch in
      answer ≡ Ok n → RingLeft t q s e n (ring_marks answer t q s e old))
  unfolding ring_answer ring_marks
  ring_left s e scratch n old h =
      record {
        set = ring t q s e;
        one_ring = the_ring s e;
        marks_so = ap (λ (a : Counted). ring_marks a t q s e old) h;
        count_so = sym (counted_e (ring_checks t q s e (length old) scratch) (members (ring t q s e)) n h).1;
      }

  -- ---- Core times

  module _ (hi s : ℕ) (short : hi < never) where
    -- what holds of the computed ring holds of every set that is the ring
    yes : (has : List Bool → Bool) (e : ℕ) → has (ring t q s e) ≡ true → (m : List Bool) → IsRing t q s e m
        → has m ≡ true
    yes has e h m r = ap has (ring_only t q s e m r) ∙ h

    none : (has : List Bool → Bool) (e : ℕ) → (has (ring t q s e) ≡ true → ⊥) → (m : List Bool) → IsRing t q s e m
        → has m ≡ false
    none has e h m r =
        ⊎_elim (λ y. absurd (h (ap has (sym (ring_only t q s e m r)) ∙ y))) (λ y. y) (true_or_false (has m))

    -- a time that exactly the days from it on reach is the core time
    core_time : (has : List Bool → Bool) (x : ℕ) → (x ≡ never) ⊎ ((s ≤ x) × (x ≤ hi))
        → ((e : ℕ) → s ≤ e → e ≤ hi → has (ring t q s e) ≡ true → x ≤ e)
        → ((e : ℕ) → e ≤ hi → x ≤ e → has (ring t q s e) ≡ true) → IsCoreTime t q hi s has x
    core_time has x (◌⊎◌.inl n) to from =
        ◌⊎◌.inr (record { is_never = n; none = λ e m a b. none has e (λ y. let l = to e a b y in omega arith) m })
    core_time has x (◌⊎◌.inr d) to from =
        let a = d.1 in
        ◌⊎◌.inl
        (record {
          from = d.0;
          to = a;
          is_in_ring = yes has x (from x a (le_refl x));
          none_sooner = λ e m b l. none has e (λ y. let k = to e b (omega arith) y in omega arith) m;
        })

    account_is : (u : ℕ) → IsCoreTime t q hi s (λ m. met t m u) (account_time t q hi s u)
    account_is u =
        core_time (λ m. met t m u) (account_time t q hi s u) (account_time_lem t q hi s u) (account_reach_i t q hi s u)
        (account_reach_e t q hi s short u)

    row_is : (j : ℕ) → IsCoreTime t q hi s (λ m. marked m j) (row_time t q hi s j)
    row_is j =
        core_time (λ m. marked m j) (row_time t q hi s j) (row_time_lem t q hi s j)
        (λ e a b y. row_reach_i t q hi s j e a b (in_marked t q s e j y))
        (λ e a b. marked_in t q s e j (row_reach_e t q hi s short j e a b))

    module _ (accepted : table_check t ≡ Ok tt) where
      abbrev account_times : List ℕ
      account_times = tabulate (account_time t q hi s) 0 4096

      abbrev row_times : List ℕ
      row_times = tabulate (row_time t q hi s) 0 (size t)

      at_account : (u : ℕ) → u < 4096 → at account_times u ≡ account_time t q hi s u
      unfolding at
      at_account u l = get_d_tabulate (account_time t q hi s) 0 4096 u 0 l ∙ ap (account_time t q hi s) (zero-add u)

      at_row : (j : ℕ) → j < size t → at row_times j ≡ row_time t q hi s j
      unfolding at
      at_row j l = get_d_tabulate (row_time t q hi s) 0 (size t) j 0 l ∙ ap (row_time t q hi s) (zero-add j)

      rule : (j : ℕ) → j < size t → s ≤ day_of t j → day_of t j ≤ hi
          → at row_times j ≡ max (max (at account_times (first_of t j)) (at account_times (second_of t j))) (day_of t j)
      rule j l a b =
          let r = accounts_rise t accepted j l in
          let c = r.0 in let d = r.1 in
          at_row j l
          ∙ (row_max t q hi s short j (record { row = l; from = a; to = b })
          ∙ (ap (λ (x : ℕ). max (max x (account_time t q hi s (second_of t j))) (day_of t j))
          (sym (at_account (first_of t j) (omega arith)))
          ∙ ap (λ (x : ℕ). max (max (at account_times (first_of t j)) x) (day_of t j))
          (sym (at_account (second_of t j) d))))

      columns : TimesLeft t q hi s account_times row_times
      columns =
          record {
            all_accounts = length_tabulate (account_time t q hi s) 0 4096;
            all_rows = length_tabulate (row_time t q hi s) 0 (size t);
            account_so = λ u l. subst (IsCoreTime t q hi s (λ m. met t m u)) (sym (at_account u l)) (account_is u);
            row_so = λ j l. subst (IsCoreTime t q hi s (λ m. marked m j)) (sym (at_row j l)) (row_is j);
            row_rule = rule;
            row_outside = λ j l o. at_row j l ∙ ⊎_elim (row_before t q hi s j) (row_after t q hi s j) o;
          }

  -- what the checks of an accepted call say
  times_passed : (lo hi s account_places row_places scratch : ℕ)
      → times_answer t q lo hi s account_places row_places scratch ≡ Ok tt
      → (table_check t ≡ Ok tt) × (hi ≤ 1024)
  unfolding times_answer
  times_passed lo hi s account_places row_places scratch h =
      let window = leb 1 lo and leb lo s and leb s hi and leb hi 1024 in
      let rest =
      BadLength when no (eqb account_places 4096 and eqb row_places (size t)) then scratch_check (size t) scratch in
      let h₁ = accepted_right (table_check t) (query_check q then BadRange when no window then rest) h in
      let h₂ = accepted_right (query_check q) (BadRange when no window then rest) h₁ in
      let inside = passed BadRange window (accepted_left (BadRange when no window) rest h₂) in (
        accepted_left (table_check t) (query_check q then BadRange when no window then rest) h,
        (start_e lo s hi refl inside).1,
      )

  times_left : (lo hi s scratch : ℕ) (accounts rows : List ℕ)
      → (let answer = times_answer t q lo hi s (length accounts) (length rows) scratch in
      answer ≡ Ok tt → TimesLeft t q hi s (account_column answer t q hi s accounts) (row_column answer t q hi s rows))
  unfolding account_column row_column
  times_left lo hi s scratch accounts rows h =
      let w = times_passed lo hi s (length accounts) (length rows) scratch h in
      let top = w.1 in
      subst
      (λ (v : Verdict). TimesLeft t q hi s (account_column v t q hi s accounts) (row_column v t q hi s rows))
      (sym h) (columns hi s (omega arith) w.0)

  -- ---- Minimal windows

  windows_passed : (lo hi row_places start_places end_places scratch : ℕ)
      → minimal_checks t q lo hi row_places start_places end_places scratch ≡ Ok tt
      → (start_places ≡ row_places) × (end_places ≡ row_places) × (length (minimal_windows t q lo hi) ≤ row_places)
  unfolding minimal_checks
  windows_passed lo hi row_places start_places end_places scratch h =
      let equal = eqb start_places row_places and eqb end_places row_places in
      let full = ltb row_places (length (minimal_windows t q lo hi)) in
      let room = scratch_check (size t) scratch then NoRoom when full in
      let h₁ = accepted_right (table_check t)
      (query_check q then range_check lo hi then BadLength when no equal then room) h in
      let h₂ = accepted_right (query_check q) (range_check lo hi then BadLength when no equal then room) h₁ in
      let h₃ = accepted_right (range_check lo hi) (BadLength when no equal then room) h₂ in
      let h₄ = accepted_right (BadLength when no equal) room h₃ in
      let h₅ = accepted_right (scratch_check (size t) scratch) (NoRoom when full) h₄ in
      let same = lengths_e start_places row_places end_places row_places refl
      (passed BadLength equal (accepted_left (BadLength when no equal) room h₃)) in
      (same.0, same.1, ltb-false row_places (length (minimal_windows t q lo hi)) (when_accepted NoRoom full h₅))

  windows_left : (lo hi scratch n : ℕ) (rows starts ends : List ℕ)
      → (let answer = minimal_answer t q lo hi (length rows) (length starts) (length ends) scratch in
      answer ≡ Ok n
      → WindowsLeft t q lo hi n rows starts ends
      (minimal_rows answer t q lo hi rows) (minimal_starts answer t q lo hi starts) (minimal_ends answer t q lo hi ends))
  unfolding minimal_answer minimal_rows minimal_starts minimal_ends entry_column
  windows_left lo hi scratch n rows starts ends h =
      let w = counted_e (minimal_checks t q lo hi (length rows) (length starts) (length ends) scratch)
      (length (minimal_windows t q lo hi)) n h in
      let p = windows_passed lo hi (length rows) (length starts) (length ends) scratch w.0 in
      let long = w.1 in let a = p.0 in let b = p.1 in let c = p.2 in
      record {
        list = minimal_windows t q lo hi;
        one_list = the_list lo hi;
        count_so = sym long;
        room = (omega arith, omega arith, omega arith);
        rows_so = ap (λ (x : Counted). minimal_rows x t q lo hi rows) h;
        starts_so = ap (λ (x : Counted). minimal_starts x t q lo hi starts) h;
        ends_so = ap (λ (x : Counted). minimal_ends x t q lo hi ends) h;
      }

  -- ---- in the ring exactly if a minimal window lies inside

  exactly : (lo hi s e : ℕ) → range_check lo hi ≡ Ok tt → lo ≤ s → s ≤ e → e ≤ hi
      → (m : List Bool) → IsRing t q s e m → (es : List Entry) → IsMinimalList t q lo hi es → (j : ℕ)
      → (marked m j ≡ true) ↔ ListedInside es s e j
  exactly lo hi s e range from order to m r es L j =
      let w = range_e lo hi range in
      let top = w.2 in
      let same = ring_only t q s e m r in (
        λ y.
            ring_inside t q lo hi es L s e j (omega arith) from to
            (in_marked t q s e j (subst (λ (x : List Bool). marked x j ≡ true) same y)),
        λ y.
            subst (λ (x : List Bool). marked x j ≡ true) (sym same)
            (marked_in t q s e j (inside_ring t q lo hi es L s e j y)),
      )

  -- ---- Recall

  recall_passed : (c : Columns) (s e places : ℕ) → recall_answer t c s e places ≡ Ok tt → e ≤ 1024
  unfolding recall_answer
  recall_passed c s e places h =
      let equal = eqb (length c.starts) (length c.rows) and eqb (length c.ends) (length c.rows)
      and eqb places (size t) in
      let listed = in_order (tabulate (entry_check t c) 0 (length c.rows)) in
      let h₁ = accepted_right (table_check t) (BadLength when no equal then listed then range_check s e) h in
      let h₂ = accepted_right (BadLength when no equal) (listed then range_check s e) h₁ in
      (range_e s e (accepted_right listed (range_check s e) h₂)).2

  module _ (c : Columns) (s e : ℕ) where
    abbrev es : List Entry
    es = entries c.rows c.starts c.ends

    abbrev left : List ℕ
    left = marks (tabulate (recalled es s e) 0 (size t))

    at_mark : (j : ℕ) → j < size t → at left j ≡ mark (recalled es s e j)
    unfolding at marks
    at_mark j l =
        mapped mark false (tabulate (recalled es s e) 0 (size t)) j
        (subst (λ (n : ℕ). j < n) (sym (length_tabulate (recalled es s e) 0 (size t))) l)
        ∙ ap mark (get_d_tabulate (recalled es s e) 0 (size t) j false l ∙ ap (recalled es s e) (zero-add j))

    marked_so : (j : ℕ) → j < size t
        → ((at left j ≡ 1) × ListedInside es s e j) ⊎ ((at left j ≡ 0) × (ListedInside es s e j → ⊥))
    unfolding mark
    marked_so j l =
        ⊎_elim (λ y. ◌⊎◌.inl (at_mark j l ∙ ap mark y, recalled_e es s e j y))
        (λ y. ◌⊎◌.inr (at_mark j l ∙ ap mark y, λ w. clash (recalled_i es s e j w) y))
        (true_or_false (recalled es s e j))

    recall_left : (old : List ℕ)
        → (let answer = recall_answer t c s e (length old) in
        answer ≡ Ok tt → RecallLeft t q c s e (recall_marks answer t c s e old))
    unfolding recall_marks marks
    recall_left old h =
        let top = recall_passed c s e (length old) h in
        subst (λ (v : Verdict). RecallLeft t q c s e (recall_marks v t c s e old)) (sym h)
        (record {
          all_rows =
              length-map (tabulate (recalled es s e) 0 (size t)) mark ∙ length_tabulate (recalled es s e) 0 (size t);
          marks_so = marked_so;
          ring_so = λ lo hi A from to m r.
              archive_marks t q lo hi c.rows c.starts c.ends A s e (omega arith) from to old
              ∙ ap marks (sym (ring_only t q s e m r));
        })

  pub demand_2 : Demand2 t q
  demand_2 =
      record {
        others = distinct_others t;
        one_ring = the_ring;
        window_ring = ring_left;
        core_times = times_left;
        one_list = the_list;
        minimal_windows_lem = windows_left;
        in_ring_exactly = exactly;
        recall = recall_left;
      }

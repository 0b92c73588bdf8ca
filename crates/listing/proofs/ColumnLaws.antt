-- The columns of a listing (specs/ListingCall.antt, specs/Inner.antt).
--     map_append              a function on each of two lists, one behind the other
--     map_at, cell, cells     what entries leave at a place of a column, and at all of theirs
--     filled_none             the start column is as it was where no place is filled
--     fill_part, fill_none    what `fill_starts` leaves in the whole column
--     SameLengths, same_places, lengths_on, alike_kept    columns as long as they were
--     Putting, entering_put, putting_places    an entry goes to place n of all columns, where entries are written
--     written_none, written_next    no entry yet; one more
-- Assumes nothing.
use Prim.Native.Nat.{ℕ, zero, suc, ◌+◌, ◌-◌, ◌≤◌, ◌<◌}
use native.Mathlib.Numerals.{add-one}
use native.Mathlib.Omega.{arith}
use mathlib.Core.Path.{◌≡◌, refl, sym, ◌∙◌, ap}
use mathlib.Core.Bool.{Bool, true, false}
use mathlib.Core.List.{List, [], ◌∷◌, ◌++◌, map, append_assoc, append-nil}
use lib.ListN.{length, get_or, set, take, drop, replicate, length-append, length-map, length-drop, length-set, get_or-append, take-append-drop}
use lib.Seq.{take-append_seam, length-take-le, drop-drop}
use borrow.Rule.Slice.PartMut.{post_of}
use Rattle.std.proofs.lemmas.List.{length-replicate, replicate-append-replicate}
use native.Mathlib.Numerals.{suc-eq-add-one}
use Rattle.rings.specs.Buffers.{over}
use Rattle.rings.proofs.WordLaws.{clash}
use Rattle.listing.specs.Listing.{ListedRing}
use Rattle.listing.specs.ListingCall.{Columns, OneLength, columns_of, with_entries}
use Rattle.listing.specs.Inner.{filled, filled_if, written_of, Entering}

pub map_append : {A B : Type 0} (f : A → B) (xs ys : List A) → map f (xs ++ ys) ≡ map f xs ++ map f ys
map_append f [] ys = refl
map_append {A} {B} f (x ∷ xs) ys = ap (λ (zs : List B). f x ∷ zs) (map_append f xs ys)

-- ---- one column

over_next : (xs old : List ℕ) (v : ℕ) → length xs < length old → set (over xs old) (length xs) v ≡ over (xs ++ v ∷ []) old
unfolding over
over_next xs [] v h = absurd (omega arith)
over_next [] (y ∷ ys) v h = refl
over_next (x ∷ xs) (y ∷ ys) v h = ap (λ (zs : List ℕ). x ∷ zs) (over_next xs ys v (omega arith))

over_length : (xs old : List ℕ) → length (over xs old) ≡ length xs + (length old - length xs)
unfolding over
over_length xs old = length-append xs (drop (length xs) old) ∙ ap (λ (m : ℕ). length xs + m) (length-drop (length xs) old)

over_none : (old : List ℕ) → over [] old ≡ old
unfolding over
over_none old = refl

-- an entry's part goes behind those that stand there
column_next : (part : ListedRing → ℕ) (done : List ListedRing) (old : List ℕ) (x : ListedRing) → length done < length (over (map part done) old)
    → set (over (map part done) old) (length done) (part x) ≡ over (map part (done ++ x ∷ [])) old
column_next part done old x h =
    ap (λ (m : ℕ). set (over (map part done) old) m (part x)) (sym many)
    ∙ (over_next (map part done) old (part x) fits ∙ ap (λ (ys : List ℕ). over ys old) (sym (map_append part done (x ∷ []))))
  where
    many : length (map part done) ≡ length done
    many = length-map done part

    fits : length (map part done) < length old
    fits = omega (arith, over_length (map part done) old, many)

-- what stands at a place, and in all of them
pub map_at : (part : ListedRing → ℕ) (ls : List ListedRing) (d : ListedRing) (j : ℕ) → j < length ls → get_or (map part ls) j 0 ≡ part (get_or ls j d)
map_at part [] d j h = absurd (omega arith)
map_at part (x ∷ ls) d zero h = refl
map_at part (x ∷ ls) d (suc j) h = map_at part ls d j (omega arith)

pub cell : (part : ListedRing → ℕ) (ls : List ListedRing) (old : List ℕ) (d : ListedRing) (j : ℕ)
    → j < length ls
    → get_or (over (map part ls) old) j 0 ≡ part (get_or ls j d)
unfolding over
cell part ls old d j h =
    get_or-append (map part ls) (drop (length (map part ls)) old) 0 j (omega (arith, length-map ls part)) ∙ map_at part ls d j h

pub cells : (part : ListedRing → ℕ) (ls : List ListedRing) (old : List ℕ) → take (length ls) (over (map part ls) old) ≡ map part ls
unfolding over
cells part ls old =
    ap (λ (n : ℕ). take n (map part ls ++ drop (length (map part ls)) old)) (sym (length-map ls part))
    ∙ take-append_seam (map part ls) (drop (length (map part ls)) old)

-- ---- the start column, filled when the entries of a start are known

pub filled_none : (b : Bool) (v n : ℕ) (xs : List ℕ) → filled_if b v n 0 xs ≡ xs
unfolding filled_if filled
filled_none true v n xs = refl
filled_none false v n xs = refl

filled_more : (v n m : ℕ) (xs : List ℕ) → set (filled v n m xs) (n + m) v ≡ filled v n (m + 1) xs
unfolding filled
filled_more v n m xs = sym (ap (λ (k : ℕ). filled v n k xs) (add-one m))

fills : (b : Bool) → b ≡ true → (v n m : ℕ) (xs : List ℕ) → filled_if b v n (m + 1) xs ≡ set (filled_if b v n m xs) (n + m) v
unfolding filled_if
fills true h v n m xs = sym (filled_more v n m xs)
fills false h v n m xs = clash h refl

stays : (b : Bool) → b ≡ false → (v n m k : ℕ) (xs : List ℕ) → filled_if b v n m xs ≡ filled_if b v n k xs
unfolding filled_if
stays true h v n m k xs = clash refl h
stays false h v n m k xs = refl

-- the part of `fill_starts` in the whole column
filled_over : (v n m : ℕ) (xs : List ℕ) → n + m ≤ length xs → filled v n m xs ≡ over (take n xs ++ replicate m v) xs
unfolding filled over
filled_over v n zero xs h =
    let l : length (take n xs ++ []) ≡ n = omega (arith, length-append (take n xs) [], length-take-le n xs (omega arith)) in
    sym (ap (λ (k : ℕ). take n xs ++ [] ++ drop k xs) l ∙ ap (λ (ys : List ℕ). ys ++ drop n xs) (append-nil (take n xs)) ∙ take-append-drop n xs)
filled_over v n (suc m) xs h =
    ap (λ (ys : List ℕ). set ys (n + m) v) (filled_over v n m xs (omega arith))
    ∙ (ap (λ (k : ℕ). set (over (take n xs ++ replicate m v) xs) k v) (sym long)
    ∙ (over_next (take n xs ++ replicate m v) xs v (omega (arith, long)) ∙ ap (λ (ys : List ℕ). over ys xs) more))
  where
    long : length (take n xs ++ replicate m v) ≡ n + m
    long = omega (arith, length-append (take n xs) (replicate m v), length-take-le n xs (omega arith), length-replicate m v)

    more : take n xs ++ replicate m v ++ v ∷ [] ≡ take n xs ++ replicate (suc m) v
    more =
        append_assoc (take n xs) (replicate m v) (v ∷ [])
        ∙ ap (λ (ys : List ℕ). take n xs ++ ys) (replicate-append-replicate m 1 v ∙ ap (λ (k : ℕ). replicate k v) (sym (suc-eq-add-one m)))

pub fill_part : {b : Bool} → b ≡ true → (v n m : ℕ) (xs : List ℕ) {ys : List ℕ} → n ≤ m → m ≤ length xs
    → ys ≡ replicate (length (take (m - n) (drop n xs))) v
    → take n xs ++ (ys ++ post_of n (m - n) xs) ≡ filled_if b v n (m - n) xs
unfolding filled_if over
fill_part b v n m xs {ys} o h e =
    let k : length (take (m - n) (drop n xs)) ≡ m - n = length-take-le (m - n) (drop n xs) (omega (arith, length-drop n xs)) in
    let part : List ℕ = replicate (m - n) v in
    let long : length (take n xs ++ part) ≡ n + (m - n) =
    omega (arith, length-append (take n xs) part, length-take-le n xs (omega arith), length-replicate (m - n) v) in
    ap (λ (zs : List ℕ). take n xs ++ (zs ++ drop (m - n) (drop n xs))) (e ∙ ap (λ (i : ℕ). replicate i v) k)
    ∙ (ap (λ (zs : List ℕ). take n xs ++ (part ++ zs)) (drop-drop (m - n) n xs)
    ∙ (sym (append_assoc (take n xs) part (drop (n + (m - n)) xs))
    ∙ (ap (λ (i : ℕ). take n xs ++ part ++ drop i xs) (sym long)
    ∙ (sym (filled_over v n (m - n) xs (omega arith)) ∙ sym (ap (λ (d : Bool). filled_if d v n (m - n) xs) b)))))

pub fill_none : {b : Bool} → b ≡ false → (v n m : ℕ) (xs : List ℕ) → xs ≡ filled_if b v n m xs
unfolding filled_if
fill_none h v n m xs = sym (ap (λ (d : Bool). filled_if d v n m xs) h)

-- ---- all of them

pub record SameLengths (old new : Columns (List ℕ)) : Type 0 where
  pub starts : length new.starts ≡ length old.starts
  pub ends : length new.ends ≡ length old.ends
  pub rows : length new.rows ≡ length old.rows
  pub windows : length new.windows ≡ length old.windows

pub same_places : (c : Columns (List ℕ)) → SameLengths c c
same_places c = record { starts = refl; ends = refl; rows = refl; windows = refl }

pub lengths_on : {old mid new : Columns (List ℕ)} → SameLengths old mid → SameLengths mid new → SameLengths old new
lengths_on x y =
    record { starts = y.starts ∙ x.starts; ends = y.ends ∙ x.ends; rows = y.rows ∙ x.rows; windows = y.windows ∙ x.windows }

pub alike_kept : {old new : Columns (List ℕ)} → OneLength old → SameLengths old new → OneLength new
alike_kept A S =
    record {
      ends = omega (arith, A.ends, S.ends, S.starts);
      rows = omega (arith, A.rows, S.rows, S.starts);
      windows = omega (arith, A.windows, S.windows, S.starts);
    }

abbrev put : ℕ → ListedRing → ℕ → Columns (List ℕ) → Columns (List ℕ)
put n x w c =
    columns_of (set c.starts n x.start) (set c.ends n x.end) (set c.rows n x.rows) (set c.windows n w)

pub data Putting (writes : Bool) (n : ℕ) (x : ListedRing) (w : ℕ) (old new : Columns (List ℕ)) : Type 0 where
  pass : writes ≡ false → new ≡ old → Putting writes n x w old new
  one : writes ≡ true → new ≡ put n x w old → Putting writes n x w old new

-- with the start column that is to come
pub entering_put : (s n k : ℕ) (starts : List ℕ) {writes : Bool} {e total shown : ℕ} {ends rows windows ends' rows' windows' : List ℕ}
    → Entering writes (n + k) e total shown ends rows windows ends' rows' windows'
    → Putting writes (n + k) (record { start = s; end = e; rows = total }) shown (columns_of (filled_if writes s n k starts) ends rows windows)
    (columns_of (filled_if writes s n (k + 1) starts) ends' rows' windows')
entering_put s n k starts {writes} (Entering.pass h x y z) = Putting.pass h (λ i. columns_of (stays writes h s n (k + 1) k starts i) (x i) (y i) (z i))
entering_put s n k starts {writes} (Entering.one h x y z) = Putting.one h (λ i. columns_of (fills writes h s n k starts i) (x i) (y i) (z i))

pub putting_places : {writes : Bool} {n : ℕ} {x : ListedRing} {w : ℕ} {old new : Columns (List ℕ)} → Putting writes n x w old new → SameLengths old new
putting_places (Putting.pass h e) =
    record {
      starts = ap (λ (c : Columns (List ℕ)). length c.starts) e;
      ends = ap (λ (c : Columns (List ℕ)). length c.ends) e;
      rows = ap (λ (c : Columns (List ℕ)). length c.rows) e;
      windows = ap (λ (c : Columns (List ℕ)). length c.windows) e;
    }
putting_places {n = n} {x} {w} {old} (Putting.one h e) =
    record {
      starts = ap (λ (c : Columns (List ℕ)). length c.starts) e ∙ length-set old.starts n x.start;
      ends = ap (λ (c : Columns (List ℕ)). length c.ends) e ∙ length-set old.ends n x.end;
      rows = ap (λ (c : Columns (List ℕ)). length c.rows) e ∙ length-set old.rows n x.rows;
      windows = ap (λ (c : Columns (List ℕ)). length c.windows) e ∙ length-set old.windows n w;
    }

-- ---- with the entries

pub written_none : (f : ListedRing → ℕ) (c : Columns (List ℕ)) → with_entries f [] c ≡ c
written_none f c = λ i. columns_of (over_none c.starts i) (over_none c.ends i) (over_none c.rows i) (over_none c.windows i)

written_yes : (b : Bool) (ls : List ListedRing) → b ≡ true → written_of b ls ≡ ls
unfolding written_of
written_yes true ls h = refl
written_yes false ls h = clash h refl

written_no : (b : Bool) (ls ks : List ListedRing) → b ≡ false → written_of b ls ≡ written_of b ks
unfolding written_of
written_no true ls ks h = clash refl h
written_no false ls ks h = refl

module _ (f : ListedRing → ℕ) {writes : Bool} (done : List ListedRing) (lent : Columns (List ℕ)) {now : Columns (List ℕ)} (x : ListedRing)
    (alike : OneLength now) (room : writes ≡ true → length done < length now.starts) (e : now ≡ with_entries f (written_of writes done) lent) where
  abbrev by : List ListedRing → Columns (List ℕ)
  by ls = with_entries f ls lent

  -- behind the last entry
  put_next : writes ≡ true → put (length done) x (f x) now ≡ by (done ++ x ∷ [])
  put_next h =
      ap (put (length done) x (f x)) whole
      ∙ (λ i. columns_of (column_next (λ y. y.start) done lent.starts x fits i)
      (column_next (λ y. y.end) done lent.ends x fits_ends i)
      (column_next (λ y. y.rows) done lent.rows x fits_rows i)
      (column_next f done lent.windows x fits_windows i))
    where
      whole : now ≡ by done
      whole = e ∙ ap by (written_yes writes done h)

      fits : length done < length (by done).starts
      fits = omega (arith, room h, ap (λ (c : Columns (List ℕ)). length c.starts) whole)

      fits_ends : length done < length (by done).ends
      fits_ends = omega (arith, room h, alike.ends, ap (λ (c : Columns (List ℕ)). length c.ends) whole)

      fits_rows : length done < length (by done).rows
      fits_rows = omega (arith, room h, alike.rows, ap (λ (c : Columns (List ℕ)). length c.rows) whole)

      fits_windows : length done < length (by done).windows
      fits_windows = omega (arith, room h, alike.windows, ap (λ (c : Columns (List ℕ)). length c.windows) whole)

  pub written_next : {now' : Columns (List ℕ)}
      → Putting writes (length done) x (f x) now now'
      → now' ≡ with_entries f (written_of writes (done ++ x ∷ [])) lent
  written_next (Putting.pass h i) = i ∙ (e ∙ ap by (written_no writes done (done ++ x ∷ []) h))
  written_next (Putting.one h i) = i ∙ (put_next h ∙ sym (ap by (written_yes writes (done ++ x ∷ []) h)))

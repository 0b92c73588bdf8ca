-- The windows of a range.
--     OfRange, windows_e, windows_i   which they are
--     Earlier, windows_order          their order: by start, then end
-- Assumes nothing.
use Prim.Native.Nat.{ℕ, suc, ◌-◌, ◌≤◌, ◌<◌}
use native.Mathlib.Omega.{arith}
use mathlib.Core.Path.{◌≡◌, refl, sym, ap, subst}
use mathlib.Core.Logic.{◌⊎◌}
use mathlib.Core.List.{Memᴰ as Mem}
use Rattle.rings.specs.Words.{tabulate, Pairwise}
use Rattle.rings.specs.Windows.{Window, windows_from, windows}
use Rattle.rings.proofs.ListLaws.{mem_tabulate, tabulate_mem, mem_flatten, flatten_mem, pair_tabulate}
use Rattle.rings.proofs.ListLaws.{pair_flatten}

pub record OfRange (lo hi : ℕ) (w : Window) : Type 0 where
  pub from : lo ≤ w.start
  pub order : w.start ≤ w.end
  pub to : w.end ≤ hi

pub windows_e : (lo hi : ℕ) (w : Window) → Mem w (windows lo hi) → OfRange lo hi w
unfolding windows windows_from
windows_e lo hi w m =
    let a = flatten_mem (tabulate (windows_from hi) lo (suc hi - lo)) m in
    let b = tabulate_mem (windows_from hi) lo (suc hi - lo) a.is_part in
    let c = tabulate_mem (λ e. record { start = b.it; end = e }) b.it (suc hi - b.it)
    (subst (Mem w) b.is a.has) in
    let x = b.from in let y = b.below in let u = c.from in let v = c.below in
    let s : w.start ≡ b.it = ap (λ (z : Window). z.start) c.is in
    let f : w.end ≡ c.it = ap (λ (z : Window). z.end) c.is in
    record { from = omega arith; order = omega arith; to = omega arith }

pub windows_i : (lo hi : ℕ) (w : Window) → OfRange lo hi w → Mem w (windows lo hi)
unfolding windows windows_from
windows_i lo hi w o =
    let a = o.from in let b = o.order in let c = o.to in
    mem_flatten (mem_tabulate (windows_from hi) lo (suc hi - lo) w.start a (omega arith))
    (mem_tabulate (λ e. record { start = w.start; end = e }) w.start (suc hi - w.start) w.end b
    (omega arith))

-- by start, then end
abbrev pub Earlier : Window → Window → Type 0
Earlier v w = (v.start < w.start) ⊎ ((v.start ≡ w.start) × (v.end < w.end))

pub windows_order : (lo hi : ℕ) → Pairwise Earlier (windows lo hi)
unfolding windows windows_from
windows_order lo hi =
    pair_flatten Earlier (tabulate (windows_from hi) lo (suc hi - lo))
    (λ ws m. let b = tabulate_mem (windows_from hi) lo (suc hi - lo) m in
    subst (Pairwise Earlier) (sym b.is)
    (pair_tabulate Earlier (λ e. record { start = b.it; end = e }) b.it (suc hi - b.it)
    (λ x y l k o. ◌⊎◌.inr (refl, k))))
    (pair_tabulate (λ xs ys. (x y : Window) → Mem x xs → Mem y ys → Earlier x y) (windows_from hi) lo (suc hi - lo)
    (λ a b l k o x y m n. ◌⊎◌.inl
    (starts a b x y k (tabulate_mem (λ e. record { start = a; end = e }) a (suc hi - a) m).is
    (tabulate_mem (λ e. record { start = b; end = e }) b (suc hi - b) n).is)))
  where
    starts : (a b : ℕ) (x y : Window) → a < b → {e f : ℕ} → x ≡ record { start = a; end = e }
        → y ≡ record { start = b; end = f } → x.start < y.start
    starts a b x y k p r =
        let u : x.start ≡ a = ap (λ (z : Window). z.start) p in
        let v : y.start ≡ b = ap (λ (z : Window). z.start) r in omega arith

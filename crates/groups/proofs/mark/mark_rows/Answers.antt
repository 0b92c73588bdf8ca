-- `mark::mark_rows` meets its contract: what is marked by the leaders is the group.
-- Assumes nothing.
use Rattle.groups.proofs.RingCallLaws.{group_is}
use lib.ListN.{replicate}
use Prim.Native.Nat.{ℕ}
use mathlib.Core.Path.{◌∙◌, ap}
use Rattle.groups.proofs.mark.mark_rows.Goals as goal

pub returns : goal.returns
returns c =
    record {
      group_marked = group_is c.args.ring.lent c.find_leaders.ensures _ c.requires.account_bound c.mark_led-n.ensures;
      parents_after = c.fill-2.ensures.after (λ _ e. e)
          ∙ ap (λ (n : ℕ). replicate {A = ℕ} n 0) c.find_leaders.ensures.long;
    }

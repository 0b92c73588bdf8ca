-- `label::label_rows` meets its contract: what is written by the leaders is the labels.
-- Assumes nothing.
use Rattle.groups.proofs.RingCallLaws.{labelled_is}
use lib.ListN.{replicate}
use Prim.Native.Nat.{ℕ}
use mathlib.Core.Path.{◌∙◌, ap}
use Rattle.groups.proofs.label.label_rows.Goals as goal

pub returns : goal.returns
returns c =
    record {
      labels_after = c.write_labels.ensures ∙ labelled_is c.args.ring.lent c.find_leaders.ensures;
      parents_after = c.fill-2.ensures.after (λ _ e. e)
          ∙ ap (λ (n : ℕ). replicate {A = ℕ} n 0) c.find_leaders.ensures.long;
    }

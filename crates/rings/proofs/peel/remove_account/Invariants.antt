-- `peel::remove_account` meets its contract. The loop's invariant: the rows of u before place p have been passed
-- (RemoveAccountLaws).
-- Assumes nothing.
use Rattle.rings.proofs.RemoveAccountLaws.{RemovingAccount}
use Rattle.rings.proofs.peel.remove_account.Given as goal

abbrev pub invariant-loop-p : goal.invariant-loop-p
invariant-loop-p l =
    RemovingAccount l.payments.days.now l.payments.first.now l.payments.second.now l.scratch l.frame l.removal l.u l.end l.p l.tail l.initial.times l.initial.left l.initial.queue l.times l.left l.queue

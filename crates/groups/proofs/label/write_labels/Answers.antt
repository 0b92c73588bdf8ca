use Rattle.groups.proofs.WritingLaws.{label_start, label_next, label_end}
use Rattle.groups.proofs.label.write_labels.Goals as goal

pub loop-j-init : goal.loop-j-init
loop-j-init c = label_start c.args.ring.lent _ (c.requires)

pub loop-j-preserved : goal.loop-j-preserved
loop-j-preserved c = label_next c.args.ring.lent _ c.loop-j.invariant c.loop-j-test.true c.pick.ensures

pub returns : goal.returns
returns c = label_end c.args.ring.lent _ c.loop-j.invariant c.loop-j-test.false

use mathlib.Core.List.{List}
use Rattle.rings.proofs.RiseScanLaws.{RiseScanning}
use Rattle.rings.specs.declared.frame.Frame.{Frame}
use Rattle.rings.specs.declared.scan.Scan.{Scan}
use Prim.Native.Nat.{ℕ, ◌+◌, ◌≤◌}
use Rattle.rings.proofs.scan.scan_for_rise.Given as goal

-- what holds at the test of the loop
pub record Held (days first second scratch : List ℕ) (frame : Frame) (times : List ℕ) (scan : Scan) (tail : ℕ)
    (queue₀ queue : List ℕ) (p count above more moved end : ℕ) : Type 0 where
  pub rise_scan : RiseScanning days first second scratch frame times scan.account
      scan.day tail queue₀ p count above more moved end queue
  pub few : p ≤ 32768
  pub room : end + scan.from ≤ tail + p

abbrev pub invariant-loop-p : goal.invariant-loop-p
invariant-loop-p l =
    Held l.payments.days.now l.payments.first.now l.payments.second.now l.scratch l.frame l.times l.scan l.tail l.initial.queue l.queue l.p l.count l.above l.more l.moved l.end

use mathlib.Core.List.{List}
use Rattle.rings.proofs.DayScanLaws.{DayScanning}
use Rattle.rings.specs.declared.frame.Frame.{Frame}
use Rattle.rings.specs.declared.scan.Scan.{Scan}
use Prim.Native.Nat.{ℕ, ◌≤◌}
use Rattle.rings.proofs.scan.scan_on_day.Given as goal

-- what holds at the test of the loop
pub record Held (days first second scratch : List ℕ) (frame : Frame) (times : List ℕ) (scan : Scan)
    (p count above more : ℕ) : Type 0 where
  pub day_scan : DayScanning days first second scratch frame times scan.account scan.day p count above more
  pub few : p ≤ 32768

abbrev pub invariant-loop-p : goal.invariant-loop-p
invariant-loop-p l =
    Held l.payments.days.now l.payments.first.now l.payments.second.now l.scratch l.frame l.times l.scan l.p l.count l.above l.more

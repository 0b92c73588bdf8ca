use native.Mathlib.Omega.{arith}
use Rattle.rings.proofs.TimeLaws.{row_early, row_late, row_reads, row_mid}
use Rattle.rings.proofs.times.row_time.Goals as goal

pub returns-then-j-frame : goal.returns-then-j-frame
returns-then-j-frame c = row_early _ _ _ _ c.requires.times_known c.requires.j_in_bounds c.if-j-frame.true

pub returns-then-end-j : goal.returns-then-end-j
returns-then-end-j c = row_late _ _ _ _ c.requires.times_known c.requires.j_in_bounds c.if-end-j.true

pub offset_bounds-times-a : goal.offset_bounds-times-a
offset_bounds-times-a c =
    omega (
      arith,
      row_reads _ _ _ _ c.requires.times_known c.requires.j_in_bounds c.entry-a.ensures c.entry-b.ensures,
    )

pub bounds-times-a : goal.bounds-times-a
bounds-times-a c =
    (row_reads _ _ _ _ c.requires.times_known c.requires.j_in_bounds c.entry-a.ensures c.entry-b.ensures).2

pub offset_bounds-times-b : goal.offset_bounds-times-b
offset_bounds-times-b c =
    omega
    (arith, row_reads _ _ _ _ c.requires.times_known c.requires.j_in_bounds c.entry-a.ensures c.entry-b.ensures)

pub bounds-times-b : goal.bounds-times-b
bounds-times-b c =
    (row_reads _ _ _ _ c.requires.times_known c.requires.j_in_bounds c.entry-a.ensures c.entry-b.ensures).3

pub returns : goal.returns
returns c =
    row_mid _ _ _ _ c.requires.times_known c.requires.j_in_bounds c.if-j-frame.false c.if-end-j.false c.entry-a.ensures
    c.entry-b.ensures c.max.ensures c.max-2.ensures

use native.Mathlib.Omega.{arith}
use Rattle.rings.proofs.TimeLaws.{fill_start, fill_next, fill_end}
use Rattle.rings.proofs.times.time_rows.Goals as goal

pub loop-j-init : goal.loop-j-init
loop-j-init c = fill_start _ _

pub row_time-requires : goal.row_time-requires
row_time-requires c =
    record {
      times_known = c.requires.times_known;
      j_in_bounds = c.loop-j-test.true;
    }

pub offset_bounds-rows-j : goal.offset_bounds-rows-j
offset_bounds-rows-j c = omega (arith, c.loop-j-test.true, c.requires.times_known.framed.sound.most)

pub bounds-rows-j : goal.bounds-rows-j
bounds-rows-j c = omega (arith, c.loop-j-test.true, c.requires.rows_len, c.loop-j.invariant.long)

pub loop-j-preserved : goal.loop-j-preserved
loop-j-preserved c =
    fill_next c.loop-j.invariant (omega (arith, c.loop-j-test.true, c.requires.rows_len, c.loop-j.invariant.long))
    c.row_time.ensures

pub shape_of-rows : goal.shape_of-rows
shape_of-rows c = c.loop-j.invariant.long

pub returns : goal.returns
returns c = fill_end _ c.loop-j.invariant c.requires.rows_len c.loop-j-test.false
